-- `cell_forecast` meets its contract. The loop's invariant: the entries of the first n years are
-- written, the sums are those of the reporting delays that year n + 1 has not reported, and with
-- estimated counts the weights are the shares. Assumes nothing.
use Rattle.std.proofs.Common.{◌≡◌, ℕ, ◌+◌, ◌-◌, ◌*◌, ◌≤◌, ◌<◌, List, ℤ, length, refl, ap, sym, ◌∙◌, arith, rules}
use Rattle.model.specs.Lists.{at}
use Rattle.model.specs.Cells.{size}
use Rattle.model.specs.Lent.{triangle_in}
use Rattle.model.specs.Overlay.{overlay, overlay_none, overlay_more}
use Rattle.cells.specs.CellOf.{number, sums_from, year_entries, years_entries}
use Rattle.cells.specs.SumsFromLaws.{no_sums}
use Rattle.years.specs.Ready.{year_weights}
use Rattle.years.specs.ReadyLaws.{counted, estimated, is_estimated, same_basis, same_weights, next_year, base_back, shares_fit}
use Rattle.years.specs.YearsLaws.{no_years, length_years, one_more_year}
use Rattle.years.proofs.cell_forecast.Goals as goal
use Rattle.years.proofs.cell_forecast.Goals.{in-Estimated, in_default}

-- the entries of one year more, behind those before it
one_more : (m n : ℕ) (v : List ℤ) (s : ℕ → List ℤ) (b p d out w u : List ℤ) {x : ℤ} {new : List ℤ} → 1 ≤ m → n < m → size m ≤ length d → x ≡ at v n → w ≡ s (n + 1) → u ≡ sums_from m (m - n) b p
    → out ≡ overlay d 0 (years_entries m v s b p n) → new ≡ overlay out (n * (2 * (2 * m - 1))) (year_entries m x w p u (n + 1)) → new ≡ overlay d 0 (years_entries m v s b p (n + 1))
one_more m n v s b p d out w u some h l x_is w_is u_is e q =
    let place = n * (2 * (2 * m - 1)) in
    let long = length_years m some v s b p n in
    (rw (x_is, w_is, u_is, e) at q) ∙ overlay_more d 0 (years_entries m v s b p n) _ place (omega arith) (rw long (omega arith))
    ∙ ap (overlay d 0) (one_more_year m some v s b p n)

pub whole_sums-requires-clause-weights : goal.whole_sums-requires-clause-weights
whole_sums-requires-clause-weights c = (shares_fit c.requires.ready, c.requires.ready.delays)

pub loop-n-init : goal.loop-n-init
loop-n-init c =
    let a = c.args in
    let e : a.m ≡ a.m - 0 = omega arith in
    let some : 1 ≤ a.m = omega (arith, c.requires.ready.some) in
    record {
      written = sym (rw (no_years a.m some a.v.now (year_weights a.m (triangle_in 0 a.set.now) a.basis a.shares.now a.counts.now.g a.counts.now.latest) a.shares.now a.p) (overlay_none a.out.now 0));
      left = no_sums a.m a.shares.now a.p ∙ ap (λ (k : ℕ). sums_from a.m k a.shares.now a.p) e;
      estimated = λ _. refl;
    }

pub weights-requires : goal.weights-requires
weights-requires c = counted c.requires.ready (c.loop-n.n + 1) (omega arith) (omega arith)

pub write-requires-clause-of_year : goal.write-requires-clause-of_year
write-requires-clause-of_year c =
    let a = c.args in
    let n = c.loop-n.n in
    let b = number c.from-basis.result in
    next_year c.requires.ready n (omega arith) b (λ e. elim c.match-basis.branch [ in-Estimated w ↦ rw w.whole-is (search rules) | in_default w ↦ absurd (w.in_default.not-Estimated (is_estimated _ e)) ]) c.loop-n.invariant.left
    (c.weights.ensures ∙ same_weights a.m (triangle_in 0 a.set.now) b a.counts.now.g a.counts.now.latest (n + 1) c.loop-n.s a.shares.now (λ e. c.loop-n.invariant.estimated (c.from-basis.ensures.0 e)))

pub one_more_delay-requires-clause-weights : goal.one_more_delay-requires-clause-weights
one_more_delay-requires-clause-weights c = (shares_fit c.requires.ready, c.requires.ready.delays)

pub loop-n-preserved : goal.loop-n-preserved
loop-n-preserved c =
    let a = c.args in
    let n = c.loop-n.n in
    let l = c.loop-n.invariant in
    let weights = year_weights a.m (triangle_in 0 a.set.now) a.basis a.shares.now a.counts.now.g a.counts.now.latest in
    let s_is = c.weights.ensures ∙ same_basis a.m (triangle_in 0 a.set.now) c.loop-n.s a.counts.now.g a.counts.now.latest (n + 1) c.from-basis.ensures ∙ same_weights a.m (triangle_in 0 a.set.now) a.basis a.counts.now.g a.counts.now.latest (n + 1) c.loop-n.s a.shares.now l.estimated in
    let e : a.m - 1 - n ≡ a.m - (n + 1) = omega arith in
    record {
      written = one_more a.m n a.v.now weights a.shares.now a.p a.out.now c.loop-n.out c.weights.new.s c.loop-n.unreported (omega (arith, c.requires.ready.some)) (omega arith) c.requires.m_in_bounds (base_back c.requires.ready n (omega arith)) s_is l.left l.written c.write.ensures;
      left = c.one_more_delay.ensures ∙ ap (λ (k : ℕ). sums_from a.m k a.shares.now a.p) e;
      estimated = λ q. s_is ∙ estimated a.m (triangle_in 0 a.set.now) a.basis a.counts.now.g a.counts.now.latest (n + 1) a.shares.now q;
    }
