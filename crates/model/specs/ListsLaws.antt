-- Laws of Lists. Assumes nothing.
use Rattle.std.specs.Prelude.{◌≡◌, refl, Bool, true, false, ◌&&◌, cond, List, [], ◌∷◌, ◌++◌, ℕ, zero, suc, ◌+◌, ◌<◌, ◌≤◌, ltb, length, get_or, set, replicate}
use Rattle.std.proofs.Common.{sym, ◌∙◌, ap, ap₂, subst, ⊎_elim, le_of_suc-le-suc, not-suc-le-zero, eq-or-lt_of_le, zero-add, add-one, arith, ext_get_or, ltb-true, ltb-false, le-ltb, lt-ltb}
use Rattle.std.proofs.Math.Bool.{and-false}
use Rattle.std.proofs.lemmas.Bool.{false≢true}
use Rattle.model.specs.Lists.{tabulate, listed, chained, every, total}
use Rattle.model.specs.Tests.{by_test}

-- ---- lists made place by place

pub length_tabulate : {A : Type 0} (n : ℕ) (f : ℕ → A) → length (tabulate n f) ≡ n
unfolding tabulate
length_tabulate zero f = refl
length_tabulate (suc n) f = ap suc (length_tabulate n (λ k. f (suc k)))

pub get_d_tabulate : {A : Type 0} (n : ℕ) (f : ℕ → A) (k : ℕ) (d : A) → k < n → get_or (tabulate n f) k d ≡ f k
unfolding tabulate
get_d_tabulate zero f k d h = absurd (not-suc-le-zero h)
get_d_tabulate (suc n) f zero d h = refl
get_d_tabulate (suc n) f (suc k) d h = get_d_tabulate n (λ i. f (suc i)) k d (le_of_suc-le-suc h)

-- a list of n elements that are f's values
pub is_tabulate : {A : Type 0} (n : ℕ) (f : ℕ → A) (l : List A) (d : A) → length l ≡ n → ((k : ℕ) → k < n → get_or l k d ≡ f k) → l ≡ tabulate n f
is_tabulate n f l d e h =
    ext_get_or d l (tabulate n f) (e ∙ sym (length_tabulate n f))
    (λ k u. let v : k < n = omega arith in h k v ∙ sym (get_d_tabulate n f k d v))

pub tabulate_ext : {A : Type 0} (n : ℕ) (f g : ℕ → A) → ((k : ℕ) → k < n → f k ≡ g k) → tabulate n f ≡ tabulate n g
unfolding tabulate
tabulate_ext zero f g e = refl
tabulate_ext (suc n) f g e = rw (e 0 (omega arith), tabulate_ext n (λ k. f (suc k)) (λ k. g (suc k)) (λ k h. e (suc k) (omega arith)))

pub chained_ext : {A : Type 0} (n : ℕ) (f g : ℕ → List A) → ((k : ℕ) → k < n → f k ≡ g k) → chained n f ≡ chained n g
unfolding chained
chained_ext zero f g e = refl
chained_ext (suc n) f g e = rw (chained_ext n f g (λ k h. e k (omega arith)), e n (omega arith))

-- one element more, and a second list behind the first
pub tabulate_last : {A : Type 0} (n : ℕ) (f : ℕ → A) → tabulate (n + 1) f ≡ tabulate n f ++ (f n ∷ [])
unfolding tabulate
tabulate_last zero f = refl
tabulate_last (suc n) f =
    let e : suc n + 1 ≡ suc (n + 1) = omega arith in
    rw e (ap (λ l. f 0 ∷ l) (tabulate_last n (λ k. f (suc k))))

pub tabulate_append : {A : Type 0} (a b : ℕ) (f : ℕ → A) → tabulate (a + b) f ≡ tabulate a f ++ tabulate b (λ k. f (a + k))
unfolding tabulate
tabulate_append zero b f = rw (zero-add b) (tabulate_ext b f (λ k. f (0 + k)) (λ k h. rw (zero-add k)))
tabulate_append (suc a) b f =
    let e : suc a + b ≡ suc (a + b) = omega arith in
    rw e
    (ap (λ l. f 0 ∷ l)
    (tabulate_append a b (λ k. f (suc k))
    ∙ ap (λ l. tabulate a (λ k. f (suc k)) ++ l) (tabulate_ext b (λ k. f (suc (a + k))) (λ k. f (suc a + k)) (λ k h. let d : suc a + k ≡ suc (a + k) = omega arith in rw d))))

tabulate_same : {A : Type 0} (n : ℕ) (d : A) → replicate n d ≡ tabulate n (λ _. d)
unfolding tabulate
tabulate_same zero d = refl
tabulate_same (suc n) d = ap (λ l. d ∷ l) (tabulate_same n d)

-- a store at i, where g is f but at i
pub set_tabulate : {A : Type 0} (n i : ℕ) (f g : ℕ → A) → i < n → ((k : ℕ) → (k ≡ i → ⊥) → g k ≡ f k) → set (tabulate n f) i (g i) ≡ tabulate n g
unfolding tabulate
set_tabulate zero i f g h o = absurd (not-suc-le-zero h)
set_tabulate (suc n) zero f g h o =
    rw (tabulate_ext n (λ k. g (suc k)) (λ k. f (suc k)) (λ k l. o (suc k) (λ q. omega arith)))
set_tabulate (suc n) (suc i) f g h o =
    rw (o 0 (λ q. omega arith), set_tabulate n i (λ k. f (suc k)) (λ k. g (suc k)) (le_of_suc-le-suc h) (λ k q. o (suc k) (λ p. q (omega arith))))

-- ---- lists filled from the front

-- an entry, and a place past the last one
pub get_or_listed : {A : Type 0} (n m : ℕ) (f : ℕ → A) (d : A) (k : ℕ) (x : A) → k < n → k < m → get_or (listed n m f d) k x ≡ f k
unfolding listed
get_or_listed n m f d k x h l = get_d_tabulate n (λ k. cond (ltb k m) (f k) d) k x h ∙ rw (lt-ltb k m l)

pub get_or_listed_past : {A : Type 0} (n m : ℕ) (f : ℕ → A) (d : A) (k : ℕ) (x : A) → k < n → m ≤ k → get_or (listed n m f d) k x ≡ d
unfolding listed
get_or_listed_past n m f d k x h l = get_d_tabulate n (λ k. cond (ltb k m) (f k) d) k x h ∙ rw (le-ltb k m l)

-- equal entries
pub listed_ext : {A : Type 0} (n m : ℕ) (f g : ℕ → A) (d : A) → ((k : ℕ) → k < m → f k ≡ g k) → listed n m f d ≡ listed n m g d
unfolding listed
listed_ext n m f g d e = tabulate_ext n (λ k. cond (ltb k m) (f k) d) (λ k. cond (ltb k m) (g k) d) (λ k h. by_test (ltb k m) (λ q. rw (q, e k (ltb-true k m q))) (λ q. rw q))

-- a list that is filled to its end
pub listed_whole : {A : Type 0} (n : ℕ) (f : ℕ → A) (d : A) → listed n n f d ≡ tabulate n f
unfolding listed
listed_whole n f d = tabulate_ext n (λ k. cond (ltb k n) (f k) d) f (λ k h. rw (lt-ltb k n h))

pub listed_none : {A : Type 0} (n : ℕ) (f : ℕ → A) (d : A) → replicate n d ≡ listed n 0 f d
unfolding listed
listed_none n f d = tabulate_same n d ∙ tabulate_ext n (λ _. d) (λ k. cond (ltb k 0) (f k) d) (λ k h. rw (le-ltb k 0 (omega arith)))

pub listed_more : {A : Type 0} (n i : ℕ) (f : ℕ → A) (d : A) → i < n → set (listed n i f d) i (f i) ≡ listed n (i + 1) f d
unfolding listed
listed_more {A} n i f d h =
    subst (λ (v : A). set (tabulate n (λ k. cond (ltb k i) (f k) d)) i v ≡ tabulate n g) (rw (lt-ltb i (i + 1) (omega arith)))
    (set_tabulate n i (λ k. cond (ltb k i) (f k) d) g h same)
  where
    g : ℕ → A
    g k = cond (ltb k (i + 1)) (f k) d

    next : (k : ℕ) → i ≤ k → (k ≡ i → ⊥) → i + 1 ≤ k
    next k l o = ⊎_elim (λ q. absurd (o (sym q))) (λ q. omega arith) (eq-or-lt_of_le l)

    same : (k : ℕ) → (k ≡ i → ⊥) → cond (ltb k (i + 1)) (f k) d ≡ cond (ltb k i) (f k) d
    same k o =
        by_test (ltb k i) (λ e. let l : k < i = ltb-true k i e in rw (lt-ltb k (i + 1) (omega arith), e))
        (λ e. rw (le-ltb k (i + 1) (next k (ltb-false k i e) o), e))

-- the same for a list and a number that are known to be these
pub listed_next : {A : Type 0} (n i : ℕ) (f : ℕ → A) (d : A) {out : List A} {v : A} → i < n → out ≡ listed n i f d → v ≡ f i → set out i v ≡ listed n (i + 1) f d
listed_next {A} n i f d h e q = ap₂ (λ (l : List A) (x : A). set l i x) e q ∙ listed_more n i f d h

-- ---- totals

pub total_ext : (n : ℕ) (f g : ℕ → ℕ) → ((k : ℕ) → k < n → f k ≡ g k) → total n f ≡ total n g
unfolding total
total_ext zero f g h = refl
total_ext (suc n) f g h = ap₂ ◌+◌ (total_ext n f g (λ k l. h k (omega arith))) (h n (omega arith))

pub total_plus : (n : ℕ) (f g : ℕ → ℕ) → total n (λ k. f k + g k) ≡ total n f + total n g
unfolding total
total_plus zero f g = refl
total_plus (suc n) f g = rw (total_plus n f g) (omega arith)

total_le : (n : ℕ) (f g : ℕ → ℕ) → ((k : ℕ) → k < n → f k ≤ g k) → total n f ≤ total n g
unfolding total
total_le zero f g h = omega arith
total_le (suc n) f g h = omega (arith, total_le n f g (λ k l. h k (omega arith)), h n (omega arith))

-- f ≤ g with one total: f is g
pub total_tight : (n : ℕ) (f g : ℕ → ℕ) → ((k : ℕ) → k < n → f k ≤ g k) → total n f ≡ total n g → (k : ℕ) → k < n → f k ≡ g k
unfolding total
total_tight zero f g h e k l = absurd (not-suc-le-zero l)
total_tight (suc n) f g h e k l =
    let below = total_le n f g (λ k l. h k (omega arith)) in
    let last = h n (omega arith) in
    ⊎_elim (λ q. rw q (omega arith)) (λ b. total_tight n f g (λ k l. h k (omega arith)) (omega arith) k b) (eq-or-lt_of_le (le_of_suc-le-suc l))

-- ---- tests of every number

pub every_none : (p : ℕ → Bool) → every 0 p ≡ true
unfolding every
every_none p = refl

pub every_more : (p : ℕ → Bool) (n : ℕ) → every n p ≡ true → p n ≡ true → every (n + 1) p ≡ true
unfolding every
every_more p n h e = rw (add-one, h, e)

-- one answer more, whatever it is
pub every_next : (p : ℕ → Bool) (n : ℕ) {a b : Bool} → a ≡ every n p → b ≡ p n → (a && b) ≡ every (n + 1) p
unfolding every
every_next p n e f = rw (add-one, e, f)

pub every_no : (p : ℕ → Bool) (n k : ℕ) → k < n → p k ≡ false → every n p ≡ false
unfolding every
every_no p zero k l e = absurd (not-suc-le-zero l)
every_no p (suc n) k l e =
    ⊎_elim (λ q. ap (λ (b : Bool). every n p && b) (subst (λ (i : ℕ). p i ≡ false) q e) ∙ and-false (every n p))
    (λ lt. ap (λ (b : Bool). b && p n) (every_no p n k lt e)) (eq-or-lt_of_le (le_of_suc-le-suc l))

-- both halves of an `&&` that holds
pub and_left : (a b : Bool) → (a && b) ≡ true → a ≡ true
and_left true b e = refl
and_left false b e = absurd (false≢true e)

pub and_right : (a b : Bool) → (a && b) ≡ true → b ≡ true
and_right true b e = e
and_right false b e = absurd (false≢true e)

pub every_at : (p : ℕ → Bool) (n k : ℕ) → every n p ≡ true → k < n → p k ≡ true
unfolding every
every_at p zero k h l = absurd (not-suc-le-zero l)
every_at p (suc n) k h l =
    ⊎_elim (λ q. subst (λ (i : ℕ). p i ≡ true) (sym q) (and_right (every n p) (p n) h)) (λ lt. every_at p n k (and_left (every n p) (p n) h) lt)
    (eq-or-lt_of_le (le_of_suc-le-suc l))

pub every_all : (p : ℕ → Bool) (n : ℕ) → ((k : ℕ) → k < n → p k ≡ true) → every n p ≡ true
unfolding every
every_all p zero h = refl
every_all p (suc n) h = rw (every_all p n (λ k l. h k (omega arith)), h n (omega arith))

pub every_ext : (p q : ℕ → Bool) (n : ℕ) → ((k : ℕ) → k < n → p k ≡ q k) → every n p ≡ every n q
unfolding every
every_ext p q zero h = refl
every_ext p q (suc n) h = rw (every_ext p q n (λ k l. h k (omega arith)), h n (omega arith))

-- two tests at once
pub every_and : (p q : ℕ → Bool) (n : ℕ) → every n (λ k. p k && q k) ≡ (every n p && every n q)
unfolding every
every_and p q zero = refl
every_and p q (suc n) = rw (every_and p q n) (regroup (every n p) (every n q) (p n) (q n))
  where
    regroup : (a b c d : Bool) → (a && b && (c && d)) ≡ (a && c && (b && d))
    regroup true b true d = refl
    regroup true true false d = refl
    regroup true false false d = refl
    regroup false b c d = refl
