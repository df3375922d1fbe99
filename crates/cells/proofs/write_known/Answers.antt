-- `write_known` meets its contract: what is filled holds n zeros. Assumes nothing.
use Rattle.std.proofs.Common.{◌≡◌, ℕ, ◌+◌, ◌-◌, ◌≤◌, List, ℤ, pos, length, take, drop, replicate, ap, sym, ◌∙◌, arith, append_assoc, drop-drop}
use Rattle.std.proofs.lemmas.List.{get_or-replicate, length-replicate}
use Rattle.std.proofs.lemmas.List.Edits.{length-between}
use borrow.Rule.Slice.PartMut.{put_mid}
use Rattle.model.specs.Lists.{tabulate}
use Rattle.model.specs.ListsLaws.{is_tabulate, length_tabulate}
use Rattle.model.specs.Overlay.{overlay}
use Rattle.cells.proofs.write_known.Goals as goal

abbrev zeros : ℕ → List ℤ
zeros n = tabulate n (λ _. pos 0)

filled : (n : ℕ) → replicate n (pos 0) ≡ zeros n
filled n = is_tabulate n (λ _. pos 0) (replicate n (pos 0)) (pos 0) (length-replicate n (pos 0)) (λ i u. get_or-replicate n i (pos 0) (pos 0) u)

part : (d : List ℤ) (a n : ℕ) → a + n ≤ length d → length (take (a + n - a) (drop a d)) ≡ n
part d a n h = length-between d a (a + n) h ∙ omega arith

written : (d f : List ℤ) (a n : ℕ) → f ≡ zeros n → put_mid a (a + n - a) d f ≡ overlay d a (zeros n)
unfolding overlay
written d f a n e =
    let k : a + n - a ≡ n = omega arith in
    rw (k, e, length_tabulate n (λ _. pos 0), drop-drop n a d) (sym (append_assoc (take a d) (zeros n) (drop (a + n) d)))

pub returns : goal.returns
returns c =
    let a = c.args in
    written a.out.now c.fill.new.self a.from a.n (c.fill.ensures.after (λ y h. h) ∙ ap (λ k. replicate k (pos 0)) (part a.out.now a.from a.n c.requires) ∙ filled a.n)
