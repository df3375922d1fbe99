-- Laws of Method: the bases and leftovers from the lists are the model's, and the questions 13 and
-- 14 as the code asks them. Assumes nothing.
use Rattle.std.specs.Prelude.{◌≡◌, Bool, true, false, Some, None, ◌&&◌, ℕ, zero, suc, ◌-◌, ◌*◌, ◌^◌, ◌≤◌, ◌<◌, min, eqb, pos, neg_ℤ, nat_abs}
use Rattle.std.proofs.Math.Path.{refl, ap}
use Rattle.std.proofs.Common.{sym, ◌∙◌}
use Rattle.std.proofs.lemmas.Bool.{false≢true}
use mathlib.Core.List.{List, [], ◌∷◌}
use native.Mathlib.Omega.{arith}
use borrow.Author.Tests.{eqb-true, eqb-false, le-leb, leb-true}
use Rattle.std.proofs.Math.Dec.{leb}
use Rattle.std.proofs.Math.IntN.{ℤ}
use Rattle.std.proofs.lemmas.List.{get_or-replicate}
use Rattle.std.specs.Int.Signed.{le_z, lt_z, ≤ℤ_refl}
use Rattle.integers.specs.Parts.{◌⩽◌, ◌⋖◌}
use Rattle.integers.specs.Linear.{lin, stmt}
use Rattle.integers.specs.Order.{nat_abs-≤, le_yes, lt_yes}
use Rattle.model.specs.Lists.{at, listed, every}
use Rattle.model.specs.ListsLaws.{listed_ext, every_at, every_ext, every_all, and_left, and_right}
use Rattle.model.specs.Shares.{latest, A, B, g, ultimate, ultimates}
use Rattle.model.specs.RowBases.{U, W, R, R*, row_base, leftover, leftovers}
use Rattle.model.specs.Questions.{within, uses_incurred, first_no, of_method, q6, q13, q14}
use Rattle.model.specs.QuestionsLaws.{EachYes, numbered, each_yes, within_so, within_yes}
use Rattle.model.specs.Calls.{zeros}
use Rattle.model.specs.declared.TriangleSet.{TriangleSet}
use Rattle.model.specs.Tests.{by_test, same_test}
use Rattle.chain_ladder.specs.DevelopedLaws.{Shared, paid_sound, paid_bounds}
use Rattle.ladder.specs.LadderLaws.{at_latests}
use Rattle.ladder.specs.Sums.{latests}
use Rattle.ladder.specs.SharesLaws.{latest_nonneg, at_ultimates}
use Rattle.ladder.specs.UltimatesLaws.{ultimate_nonneg, ultimate_small, latest_ultimate, ultimate_first, latest_first}
use Rattle.chain_ladder.specs.Valid.{Valid, incurred_small}
use Rattle.row_bases.specs.Bases.{Year, base_from, left_from, base_at, left_at, AllSizes, Bases}
use Rattle.row_bases.specs.Method.{Asked, Incurreds, Under, row_bases}

-- the method that stands for a known number has that number
pub known_number : {k n : ℕ} → n ≤ 2 → k ≡ min n 2 → k ≡ n
known_number h e = omega arith

-- methods 1 and 2
pub uses : (method : ℕ) → method ≤ 2 → (method ≡ 0 → ⊥) → uses_incurred method ≡ true
uses zero h n = absurd (n refl)
uses (suc zero) h n = refl
uses (suc (suc zero)) h n = refl
uses (suc (suc (suc k))) h n = absurd (omega arith)

-- a magnitude of at most n
magnitude_within : (n : ℕ) (z : ℤ) → leb (nat_abs z) n ≡ within (neg_ℤ (pos n)) (pos n) z
magnitude_within n z =
    same_test (leb (nat_abs z) n) (within (neg_ℤ (pos n)) (pos n) z)
    (λ e. let h = (nat_abs-≤ {x = z} {n = n}).0 (leb-true (nat_abs z) n e) in within_yes (neg_ℤ (pos n)) (pos n) z h.1 h.0)
    (λ e. let h = within_so (neg_ℤ (pos n)) (pos n) z e in le-leb (nat_abs z) n ((nat_abs-≤ {x = z} {n = n}).1 (h.1, h.0)))

-- question 6 of a method
module _ (has : Bool) (method basis : ℕ) (six : q6 has method basis ≡ true) where
  pub six_known : method ≤ 2
  unfolding q6
  six_known = leb-true method 2 (and_left _ _ (and_left _ _ six))

  pub six_incurred : (method ≡ 0 → ⊥) → has ≡ true
  unfolding q6
  six_incurred n = rw (uses method six_known n) at (and_right (leb method 2 && leb basis 1) _ six)

-- and questions 9 to 11
pub method_asked : (m : ℕ) (s : TriangleSet) (method basis : ℕ) → Valid m s → Shared m s.counts s.paid → q6 s.has_incurred method basis ≡ true → Asked m s.counts s.paid s.incurred method
method_asked m s method basis valid shared six = record {
  shared = shared;
  known = six_known s.has_incurred method basis six;
  incurred = λ n. incurred_small m s valid (six_incurred s.has_incurred method basis six n);
}

module _ (m : ℕ) (s : TriangleSet) (method : ℕ) (asked : Asked m s.counts s.paid s.incurred method) where
  abbrev m_few : m ≤ 20
  m_few = asked.shared.counts.small.few

  abbrev m_least : 2 ≤ m
  m_least = asked.shared.counts.least

  abbrev u : List ℤ
  u = ultimates m s.paid

  abbrev c : List ℤ
  c = latests m s.paid

  module _ (k : ℕ) (h : k < m) where
    paid_high : nat_abs (ultimate m s.paid (suc k)) ≤ 2 * 10 ^ 14
    paid_high = ultimate_small m s.paid asked.shared.paid.small (paid_bounds asked.shared) (suc k) (omega arith) (omega arith)

    year : (w : List ℤ) → Incurreds m s method w → Year method (at u k) (at w k) (at c k)
    year w i =
        rw (at_ultimates m s.paid m_few k h, at_latests m s.paid m_few k h)
        (record {
          known = asked.known;
          high = (paid_high, (i.small k h).1);
          low = (i.small k h).0;
          paid = (
            latest_nonneg m s.paid (paid_sound asked.shared) (suc k) (omega arith) (omega arith),
            latest_ultimate m s.paid (paid_sound asked.shared) (suc k) (omega arith) (omega arith),
          );
        })

  pub sizes : (w : List ℤ) → Incurreds m s method w → AllSizes m method u c w
  sizes w i k h =
      let z : 0 < m = omega arith in
      record {
        first = rw (at_ultimates m s.paid m_few 0 z) (paid_high 0 z);
        divisor = i.first;
        divisor_high = (i.small 0 z).1;
        year = year k h w i;
      }

  -- ---- the lists of the model
  module _ (w : List ℤ) (i : Incurreds m s method w) where
    pub base_is : (k : ℕ) → k < m → base_at m method u c w k ≡ row_base m s method (suc k)
    unfolding base_from row_base U W R R*
    base_is k h =
        let z : 0 < m = omega arith in
        by_test (eqb method 0) (λ e. let q : method ≡ 0 = eqb-true method 0 e in rw (q, at_ultimates m s.paid m_few k h))
        (λ e. let n : method ≡ 0 → ⊥ = eqb-false method 0 e in
        rw (at_ultimates m s.paid m_few 0 z, at_ultimates m s.paid m_few k h, i.are n 0 z, i.are n k h, at_latests m s.paid m_few k h))

    pub left_is : (k : ℕ) → k < m → left_at m method u c w k ≡ leftover m s method (suc k)
    unfolding left_from leftover U W R R*
    left_is k h =
        by_test (eqb method 0) (λ e. let q : method ≡ 0 = eqb-true method 0 e in rw q)
        (λ e. let n : method ≡ 0 → ⊥ = eqb-false method 0 e in rw (at_ultimates m s.paid m_few k h, i.are n k h, at_latests m s.paid m_few k h))

    pub bases_are : listed 20 m (base_at m method u c w) (pos 0) ≡ row_bases m s method
    unfolding row_bases
    bases_are = listed_ext 20 m (base_at m method u c w) (λ k. row_base m s method (suc k)) (pos 0) base_is

    pub lefts_are : listed 20 m (left_at m method u c w) (pos 0) ≡ leftovers m s method
    unfolding leftovers
    lefts_are = listed_ext 20 m (left_at m method u c w) (λ k. leftover m s method (suc k)) (pos 0) left_is

    -- question 14 as it is asked
    pub asked_14 : every m (λ k. leb (nat_abs (base_at m method u c w k)) (2 * 10 ^ 14)) ≡ q14 m s method
    unfolding q14
    asked_14 =
        every_ext (λ k. leb (nat_abs (base_at m method u c w k)) (2 * 10 ^ 14)) _ m
        (λ k h. ap (λ (z : ℤ). leb (nat_abs z) (2 * 10 ^ 14)) (base_is k h) ∙ magnitude_within (2 * 10 ^ 14) (row_base m s method (suc k)))

    -- under method 0 it is passed
    pub passed_14 : method ≡ 0 → every m (λ k. leb (nat_abs (base_at m method u c w k)) (2 * 10 ^ 14)) ≡ true
    unfolding base_from
    passed_14 q =
        every_all (λ k. leb (nat_abs (base_at m method u c w k)) (2 * 10 ^ 14)) m
        (λ k h. rw (q, at_ultimates m s.paid m_few k h) (le-leb (nat_abs (ultimate m s.paid (suc k))) (2 * 10 ^ 14) (paid_high k h)))

  -- ---- the two lists of incurred
  pub no_incurred_lem : method ≡ 0 → Incurreds m s method (zeros 20)
  no_incurred_lem q = record {
    small = λ k h. rw (get_or-replicate 20 k (pos 0) (pos 0) (omega (arith, m_few))) (≤ℤ_refl (pos 0), omega arith);
    first = λ e. absurd (omega arith);
    are = λ n. absurd (n q);
  }

  pub with_incurred : (method ≡ 0 → ⊥) → q13 m s.incurred ≡ true → Incurreds m s method (ultimates m s.incurred)
  unfolding q13
  with_incurred n e = record {
    small = λ k h. rw (at_ultimates m s.incurred m_few k h) (ultimate_nonneg m t (suc k) (c_low k h) (g_pos k h), ultimate_small m t (asked.incurred n) shares (suc k) (omega arith) (omega arith));
    first = λ _. first_pos;
    are = λ _ k h. at_ultimates m s.incurred m_few k h;
  }
    where
      t : List ℤ
      t = s.incurred

      sums : every (m - 1) (λ k. lt_z (pos 0) (A m t (suc k)) && lt_z (pos 0) (B m t (suc k))) ≡ true
      sums = and_left _ _ (and_left _ _ e)

      rows : every m (λ k. le_z (pos 0) (latest m t (suc k))) ≡ true
      rows = and_right (every (m - 1) (λ k. lt_z (pos 0) (A m t (suc k)) && lt_z (pos 0) (B m t (suc k)))) _ (and_left _ _ e)

      shares : every m (λ j. within (pos (10 ^ 6)) (pos (4 * 10 ^ 9)) (g m t j)) ≡ true
      shares = and_right (every (m - 1) (λ k. lt_z (pos 0) (A m t (suc k)) && lt_z (pos 0) (B m t (suc k))) && every m (λ k. le_z (pos 0) (latest m t (suc k)))) _ e

      c_low : (k : ℕ) → k < m → pos 0 ⩽ latest m t (suc k)
      c_low k h = le_yes (every_at (λ k. le_z (pos 0) (latest m t (suc k))) m k rows h)

      g_pos : (k : ℕ) → k < m → pos 0 ⋖ g m t (m - suc k)
      g_pos k h =
          let w = within_so (pos (10 ^ 6)) (pos (4 * 10 ^ 9)) (g m t (m - suc k)) (every_at (λ j. within (pos (10 ^ 6)) (pos (4 * 10 ^ 9)) (g m t j)) m (m - suc k) shares (omega arith)) in
          lin (g m t (m - suc k) ∷ []) w.0 (search stmt depth 20) (omega arith)

      first_pos : pos 0 ⋖ at (ultimates m t) 0
      first_pos =
          let z : 0 < m = omega (arith, m_least) in
          let l : m - 2 < m - 1 = omega (arith, m_least) in
          let d : suc (m - 2) ≡ m - 1 = omega (arith, m_least) in
          rw (at_ultimates m t m_few 0 z, ultimate_first m t, latest_first m t (omega arith))
          (lt_yes (and_right (lt_z (pos 0) (A m t (m - 1))) _ (rw d at (every_at (λ k. lt_z (pos 0) (A m t (suc k)) && lt_z (pos 0) (B m t (suc k))) (m - 1) (m - 2) sums l))))

-- ---- the answer, question by question
module _ (m : ℕ) (s : TriangleSet) (method : ℕ) where
  abbrev asked_all : ℕ
  asked_all = first_no (of_method m s method)

  none_asked : method ≡ 0 → asked_all ≡ 0
  unfolding of_method first_no
  none_asked q = rw q

  module _ (known : method ≤ 2) (n : method ≡ 0 → ⊥) where
    no_13 : q13 m s.incurred ≡ false → asked_all ≡ 13
    unfolding of_method first_no
    no_13 e = rw (uses method known n, e)

    no_14 : q13 m s.incurred ≡ true → q14 m s method ≡ false → asked_all ≡ 14
    unfolding of_method first_no
    no_14 a e = rw (uses method known n, a, e)

    both : q13 m s.incurred ≡ true → q14 m s method ≡ true → asked_all ≡ 0
    unfolding of_method first_no
    both a b = rw (uses method known n, a, b)

-- ---- as the code asks
module _ (m : ℕ) (s : TriangleSet) (method : ℕ) (asked : Asked m s.counts s.paid s.incurred method) where
  -- method 0, or question 13
  by_method : {P : Type 0} → (method ≡ 0 → P) → ((method ≡ 0 → ⊥) → P) → P
  by_method f g = by_test (eqb method 0) (λ e. f (eqb-true method 0 e)) (λ e. g (eqb-false method 0 e))

  pub answer_13 : Under m s.incurred method None → first_no (of_method m s method) ≡ 13
  answer_13 under =
      by_method (λ q. let e : None ≡ Some (zeros 20) = under.unused q in absurd cc)
      (λ n. no_13 m s method asked.known n (under.used n))

  -- w is what it has of incurred
  module _ {w : List ℤ} (under : Under m s.incurred method (Some w)) where
    have : Incurreds m s method w
    have =
        by_method (λ q. let e : Some w ≡ Some (zeros 20) = under.unused q in let z : w ≡ zeros 20 = cc in rw z (no_incurred_lem m s method asked q))
        (λ n. let y = under.used n in rw y.1 (with_incurred m s method asked n y.0))

    -- from the lists of paid
    module _ {u c : List ℤ} (u_is : u ≡ ultimates m s.paid) (c_is : c ≡ latests m s.paid) where
      pub all_sizes : AllSizes m method u c w
      all_sizes = rw (u_is, c_is) (sizes m s method asked w have)

      pub left_overs : listed 20 m (left_at m method u c w) (pos 0) ≡ leftovers m s method
      left_overs = rw (u_is, c_is) (lefts_are m s method asked w have)

      pub answer_14 : Bases m method u c w None → first_no (of_method m s method) ≡ 14
      answer_14 bases =
          let no : every m (λ k. leb (nat_abs (base_at m method (ultimates m s.paid) (latests m s.paid) w k)) (2 * 10 ^ 14)) ≡ false = rw (u_is, c_is) at bases in
          by_method (λ q. absurd (false≢true (sym no ∙ passed_14 m s method asked w have q)))
          (λ n. no_14 m s method asked.known n (under.used n).0 (sym (asked_14 m s method asked w have) ∙ no))

      module _ {v : List ℤ} (bases : Bases m method u c w (Some v)) where
        of_set_lem : Bases m method (ultimates m s.paid) (latests m s.paid) w (Some v)
        of_set_lem = rw (u_is, c_is) at bases

        pub answer_yes : first_no (of_method m s method) ≡ 0
        answer_yes =
            by_method (λ q. none_asked m s method q)
            (λ n. both m s method asked.known n (under.used n).0 (sym (asked_14 m s method asked w have) ∙ of_set_lem.0))

        pub row_bases_are : v ≡ row_bases m s method
        row_bases_are = of_set_lem.1 ∙ bases_are m s method asked w have

-- ---- the bases of an accepted set are within question 14's range
module _ (m : ℕ) (s : TriangleSet) (method : ℕ) (asked : Asked m s.counts s.paid s.incurred method) (accepted : first_no (of_method m s method) ≡ 0) where
  fourteen : (method ≡ 0 → ⊥) → q14 m s method ≡ true
  unfolding of_method numbered
  fourteen n =
      let h : EachYes ((13, q13 m s.incurred) ∷ (14, q14 m s method) ∷ []) = each_yes _ refl (rw (uses method asked.known n) at accepted) in
      search

  ranged : (method ≡ 0 → ⊥) → (k : ℕ) → k < m → nat_abs (row_base m s method (suc k)) ≤ 2 * 10 ^ 14
  unfolding q14
  ranged n k h =
      let w = within_so _ _ (row_base m s method (suc k)) (every_at (λ k. within (neg_ℤ (pos (2 * 10 ^ 14))) (pos (2 * 10 ^ 14)) (row_base m s method (suc k))) m k (fourteen n) h) in
      nat_abs-≤.1 (w.1, w.0)

  pub bases_small : (k : ℕ) → k < m → nat_abs (row_base m s method (suc k)) ≤ 2 * 10 ^ 14
  unfolding row_base U
  bases_small k h =
      by_test (eqb method 0) (λ e. let q : method ≡ 0 = eqb-true method 0 e in rw q (paid_high m s method asked k h))
      (λ e. ranged (eqb-false method 0 e) k h)
