-- Bytes that a loop writes one after the other into lent memory. Assumes nothing.
use Rattle.std.specs.Prelude.{ℕ, zero, suc, ◌+◌, ◌≤◌, ◌<◌, ◌≡◌, refl, List, length}
use Rattle.std.proofs.Common.{not-suc-le-zero, le_of_suc-le-suc, eq-or-lt_of_le, add-zero, add-one, arith, sym, ◌∙◌, ⊎_elim, length-append}
use Rattle.model.specs.Overlay.{overlay, overlay_none, overlay_more}
use Rattle.model.specs.Lists.{chained}

-- out is d with f 0, .. f (n - 1) from place a on, and next the place after them
pub record Filled (f : ℕ → List ℕ) (d : List ℕ) (a n : ℕ) (out : List ℕ) (next : ℕ) : Type 0 where
  pub end : next ≡ a + length (chained n f)
  pub bytes : out ≡ overlay d a (chained n f)
  pub long : length out ≡ length d

module _ (f : ℕ → List ℕ) where
  -- room for all is room for the next
  room_next : (k n : ℕ) → k < n → length (chained k f) + length (f k) ≤ length (chained n f)
  unfolding chained
  room_next k zero h = absurd (not-suc-le-zero h)
  room_next k (suc n) h =
      rw length-append (⊎_elim (λ e. rw e (omega arith)) (λ l. omega (arith, room_next k n l)) (eq-or-lt_of_le (le_of_suc-le-suc h)))

  module _ (d : List ℕ) (a : ℕ) where
    pub filled_none : Filled f d a 0 d a
    unfolding chained
    filled_none = record { end = sym (add-zero a); bytes = sym (overlay_none d a); long = refl }

    module _ {k : ℕ} {out : List ℕ} {next : ℕ} (w : Filled f d a k out next) (n : ℕ) (room : a + length (chained n f) ≤ length d) where
      pub filled_room : k < n → next + length (f k) ≤ length out
      filled_room h = omega (arith, w.end, w.long, room_next k n h)

      pub filled_next : {r : ℕ} {new : List ℕ} → (r ≡ next + length (f k)) × (new ≡ overlay out next (f k)) → length new ≡ length out → Filled f d a (k + 1) new r
      unfolding chained
      filled_next put kept =
          rw add-one
          (let l = length-append (chained k f) (f k) in
          record {
            end = omega (arith, w.end, put.0);
            bytes = put.1 ∙ rw w.bytes (overlay_more d a (chained k f) (f k) next (omega arith) w.end);
            long = kept ∙ w.long;
          })
