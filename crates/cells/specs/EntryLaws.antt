-- Laws of the entries of a year: those of the known cells, and those of one delay more. Assumes
-- nothing.
use Rattle.std.specs.Prelude.{◌≡◌, cond, List, [], ◌∷◌, ◌++◌, ℕ, ◌+◌, ◌-◌, ◌*◌, ◌/◌, ◌%◌, ◌≤◌, eqb, ℤ, length, take, drop, set}
use Rattle.std.proofs.Math.Path.{sym}
use Rattle.std.proofs.Common.{◌∙◌, ap, append_assoc, le-leb, length-append, take_at, drop-drop, length-take-le}
use native.Mathlib.Omega.{arith}
use Rattle.std.proofs.Math.IntN.{pos}
use Rattle.std.proofs.Math.Seq.{drop-append-add}
use Rattle.model.specs.Overlay.{overlay, overlay_store}
use Rattle.model.specs.Lists.{tabulate}
use Rattle.model.specs.ListsLaws.{tabulate_ext, tabulate_last, length_tabulate}
use Rattle.model.specs.Tests.{by_test}
use Rattle.cells.specs.CellOf.{cell_of, first_entries}

-- a list written over the first part of its own place
pub overlay_over : (d : List ℤ) (a : ℕ) (s t : List ℤ) → a ≤ length d → length s ≤ length t → overlay (overlay d a s) a t ≡ overlay d a t
unfolding overlay
overlay_over d a s t h l =
    let P = take a d ++ s in
    let X = drop (a + length s) d in
    let n : length P ≡ a + length s = length-append (take a d) s ∙ rw (length-take-le a d h) in
    let front : take a (P ++ X) ≡ take a d = rw (append_assoc (take a d) s X) (take_at (take a d) (s ++ X) a (length-take-le a d h)) in
    let k : a + length t ≡ length P + (length t - length s) = omega arith in
    let e : a + length s + (length t - length s) ≡ a + length t = omega arith in
    let tail : drop (a + length t) (P ++ X) ≡ drop (a + length t) d =
    ap (λ (i : ℕ). drop i (P ++ X)) k ∙ drop-append-add P X (length t - length s) ∙ drop-drop (length t - length s) (a + length s) d ∙ ap (λ (i : ℕ). drop i d) e in
    rw (front, tail)

module _ (m : ℕ) (v : ℤ) (s p u : List ℤ) (i : ℕ) where
  abbrev f : ℕ → ℤ
  f e = cond (eqb (e % 2) 0) (cell_of m v s p u i (e / 2)).rbns (cell_of m v s p u i (e / 2)).ibnr

  -- the known cells
  pub known_entries : 1 ≤ i → tabulate (2 * (m + 1 - i)) (λ _. pos 0) ≡ first_entries m v s p u i (2 * (m + 1 - i))
  unfolding first_entries cell_of
  known_entries h =
      tabulate_ext (2 * (m + 1 - i)) (λ _. pos 0) f (λ e l. rw (le-leb (i + e / 2) m (omega arith)) (by_test (eqb (e % 2) 0) (λ t. rw t) (λ t. rw t)))

  pub length_entries : (n : ℕ) → length (first_entries m v s p u i n) ≡ n
  unfolding first_entries
  length_entries n = length_tabulate n f

  rbns_next : (j : ℕ) → first_entries m v s p u i (2 * j) ++ ((cell_of m v s p u i j).rbns ∷ []) ≡ first_entries m v s p u i (2 * j + 1)
  unfolding first_entries
  rbns_next j =
      let e : 2 * j % 2 ≡ 0 = omega arith in
      let d : 2 * j / 2 ≡ j = omega arith in
      sym (tabulate_last (2 * j) f ∙ rw (e, d))

  ibnr_next : (j : ℕ) → first_entries m v s p u i (2 * j + 1) ++ ((cell_of m v s p u i j).ibnr ∷ []) ≡ first_entries m v s p u i (2 * (j + 1))
  unfolding first_entries
  ibnr_next j =
      let e : (2 * j + 1) % 2 ≡ 1 = omega arith in
      let d : (2 * j + 1) / 2 ≡ j = omega arith in
      let n : 2 * (j + 1) ≡ 2 * j + 1 + 1 = omega arith in
      rw n (sym (tabulate_last (2 * j + 1) f ∙ rw (e, d)))

  -- the two entries of delay j stored behind those of the delays before it
  pub two_stored : (d : List ℤ) (from j : ℕ) → from + 2 * j + 2 ≤ length d
      → set (set (overlay d from (first_entries m v s p u i (2 * j))) (from + 2 * j) (cell_of m v s p u i j).rbns) (from + 2 * j + 1) (cell_of m v s p u i j).ibnr
      ≡ overlay d from (first_entries m v s p u i (2 * (j + 1)))
  two_stored d from j h =
      ap (λ (l : List ℤ). set l (from + 2 * j + 1) (cell_of m v s p u i j).ibnr)
      (overlay_store d from (first_entries m v s p u i (2 * j)) (from + 2 * j) (cell_of m v s p u i j).rbns (rw (length_entries (2 * j))) (omega arith)
      ∙ ap (overlay d from) (rbns_next j))
      ∙ overlay_store d from (first_entries m v s p u i (2 * j + 1)) (from + 2 * j + 1) (cell_of m v s p u i j).ibnr (rw (length_entries (2 * j + 1)) (omega arith)) (omega arith)
      ∙ ap (overlay d from) (ibnr_next j)
