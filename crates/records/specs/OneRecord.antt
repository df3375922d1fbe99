-- What is said of a record depends on its 16 bytes alone; a fold over the records of a file.
-- Assumes nothing.
use Rattle.std.specs.Prelude.{◌≡◌, refl, Bool, true, ◌&&◌, cond, List, ℕ, zero, suc, ◌+◌, ◌*◌, ◌^◌, ◌<◌, ltb, eqb, take, drop}
use Rattle.std.proofs.Math.Path.{sym, ap}
use Rattle.std.proofs.Common.{◌∙◌, ap₂, add-zero, arith, eqb-true, get_or-take}
use Rattle.std.proofs.Math.ListN.{get_or}
use Rattle.std.proofs.Math.Seq.{get_or-drop}
use Rattle.model.specs.Records.{inside, kind_at, year_at, delay_at, line_at, line_of, spares_zero, least_first, signed, value_at, records, is_of, has_incurred, is_line, in_range}
use Rattle.model.specs.Lists.{every}
use Rattle.model.specs.ListsLaws.{and_left, and_right, every_at}
use Rattle.model.specs.Questions.{q3, kinds, record_ok}
use Rattle.records.specs.Folds.{Monoid, fold}

-- record k of a file
unfoldable pub record_at : List ℕ → ℕ → List ℕ
record_at f k = take 16 (drop (16 * k) f)

-- r is the number of n bytes from place a on
pub record Number (n : ℕ) (f : List ℕ) (a r : ℕ) : Type 0 where
  pub is : r ≡ least_first n f a
  pub small : r < 256 ^ n
  pub byte : (i : ℕ) → i < n → get_or f (a + i) 0 < 256

-- the first eight bytes of record k: its kind, its year, its delay, and as one number its line and
-- spare bytes
pub record HeadAt (f : List ℕ) (k : ℕ) (kind year delay line : ℕ) : Type 0 where
  pub kind_is : kind ≡ kind_at f k
  pub year_is : (year ≡ year_at f k) × (year < 256)
  pub delay_is : (delay ≡ delay_at f k) × (delay < 256)
  pub line_is : line ≡ line_at f k + 256 * least_first 4 f (16 * k + 4)

-- what G says of record k it says of the record alone
abbrev pub Local : {A : Type 0} → (List ℕ → ℕ → A) → Type 0
Local G = (f : List ℕ) (k : ℕ) → G f k ≡ G (record_at f k) 0

pub least_ext : (n : ℕ) (f g : List ℕ) (a b : ℕ) → ((i : ℕ) → i < n → get_or f (a + i) 0 ≡ get_or g (b + i) 0) → least_first n f a ≡ least_first n g b
unfolding least_first
least_ext zero f g a b h = refl
least_ext (suc n) f g a b h =
    ap₂ (λ (x y : ℕ). x + 256 * y) (moved 0 a b (omega arith) (omega arith) (omega arith))
    (least_ext n f g (a + 1) (b + 1) (λ i l. moved (suc i) (a + 1 + i) (b + 1 + i) (omega arith) (omega arith) (omega arith)))
  where
    moved : (i x y : ℕ) → i < suc n → x ≡ a + i → y ≡ b + i → get_or f x 0 ≡ get_or g y 0
    moved i x y l p q = ap (λ (z : ℕ). get_or f z 0) p ∙ h i l ∙ ap (λ (z : ℕ). get_or g z 0) (sym q)

module _ (f : List ℕ) (k : ℕ) where
  byte_local : (j : ℕ) → j < 16 → get_or f (16 * k + j) 0 ≡ get_or (record_at f k) j 0
  unfolding record_at
  byte_local j h = sym (get_or-take 16 (drop (16 * k) f) j 0 h ∙ get_or-drop (16 * k) f j 0)

  pub kind_local : kind_at f k ≡ kind_at (record_at f k) 0
  kind_local = ap (λ (i : ℕ). get_or f i 0) (sym (add-zero (16 * k))) ∙ byte_local 0 (omega arith)

  pub year_local : year_at f k ≡ year_at (record_at f k) 0
  year_local = byte_local 1 (omega arith)

  pub delay_local : delay_at f k ≡ delay_at (record_at f k) 0
  delay_local = byte_local 2 (omega arith)

  pub line_local : line_at f k ≡ line_at (record_at f k) 0
  line_local = byte_local 3 (omega arith)

  pub spares_local : spares_zero f k ≡ spares_zero (record_at f k) 0
  unfolding spares_zero
  spares_local = rw (byte_local 4 (omega arith), byte_local 5 (omega arith), byte_local 6 (omega arith), byte_local 7 (omega arith))

  pub value_local : value_at f k ≡ value_at (record_at f k) 0
  unfolding value_at
  value_local = ap signed (least_ext 8 f (record_at f k) (16 * k + 8) 8 (λ i l. ap (λ (x : ℕ). get_or f x 0) (omega arith) ∙ byte_local (8 + i) (omega arith)))

  pub is_of_local : (t i j : ℕ) → is_of f t i j k ≡ is_of (record_at f k) t i j 0
  unfolding is_of
  is_of_local t i j = rw (kind_local, year_local, delay_local)

-- question 3 of record k, where the length allows u kinds and the file's line is v
unfoldable pub well_formed : ℕ → ℕ → ℕ → List ℕ → ℕ → Bool
well_formed m u v f k =
    ltb (kind_at f k) u && inside m (year_at f k) (delay_at f k) && (is_line (line_at f k) && eqb (line_at f k) v) && spares_zero f k

pub well_formed_local : (m u v : ℕ) → Local (well_formed m u v)
unfolding well_formed
well_formed_local m u v f k = rw (kind_local f k, year_local f k, delay_local f k, line_local f k, spares_local f k)

pub q3_formed : (m : ℕ) (f : List ℕ) → q3 m f ≡ every (records f) (well_formed m (kinds (has_incurred m f)) (line_of f) f)
unfolding q3 record_ok well_formed
q3_formed m f = refl

-- records that are well formed on a line have a first one on it
pub line_so : (m u v : ℕ) (f : List ℕ) (n : ℕ) → 0 < n → every n (well_formed m u v f) ≡ true → (is_line (line_of f) ≡ true) × (line_of f ≡ v)
unfolding well_formed
line_so m u v f n l h =
    let here = ltb (kind_at f 0) u && inside m (year_at f 0) (delay_at f 0) in
    let on = is_line (line_of f) && eqb (line_of f) v in
    let y = and_right here on (and_left (here && on) (spares_zero f 0) (every_at (well_formed m u v f) n 0 h l)) in
    (and_left (is_line (line_of f)) (eqb (line_of f) v) y, eqb-true (line_of f) v (and_right (is_line (line_of f)) (eqb (line_of f) v) y))

-- question 5 of record k
unfoldable pub ranged : List ℕ → ℕ → Bool
ranged f k = in_range (kind_at f k) (value_at f k)

pub ranged_local : Local ranged
unfolding ranged
ranged_local f k = rw (kind_local f k, value_local f k)

-- W of record k where it is that of kind t and cell (i,j), else z
unfoldable pub of_cell : {A : Type 0} → A → (List ℕ → ℕ → A) → ℕ → ℕ → ℕ → List ℕ → ℕ → A
of_cell z W t i j f k = cond (is_of f t i j k) (W f k) z

pub of_cell_local : {A : Type 0} (z : A) (W : List ℕ → ℕ → A) (t i j : ℕ) → Local W → Local (of_cell z W t i j)
unfolding of_cell
of_cell_local z W t i j h f k = rw (is_of_local f k t i j, h f k)

-- ---- over all records of a file

unfoldable pub over : {A : Type 0} → Monoid A → (List ℕ → ℕ → A) → List ℕ → A
over M G f = fold M (records f) (G f)
