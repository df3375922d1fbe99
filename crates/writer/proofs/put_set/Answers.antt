-- `put_set` meets its contract: the kinds, one after the other. Assumes nothing.
use Rattle.std.proofs.Common.{ℕ, ◌≤◌, ◌+◌, ◌≡◌, sym, ap, ◌∙◌, List, length, arith}
use Rattle.model.specs.Lists.{chained}
use Rattle.model.specs.Records.{given_set}
use Rattle.model.specs.Overlay.{overlay}
use Rattle.model.specs.Questions.{kinds}
use Rattle.model.specs.SetFile.{file_of}
use Rattle.model.specs.Lengths.{kinds_range}
use Rattle.writer.specs.Written.{lent_kind, kind_bytes, set_bytes}
use Rattle.writer.proofs.FileBytes.{file_bytes}
use Rattle.writer.proofs.Chained.{Filled, filled_none, filled_room, filled_next}
use Rattle.writer.proofs.put_set.Goals as goal
use Rattle.writer.proofs.put_set.Goals.{After-put_kind-second, After-put_kind-third, Start}

abbrev kind_of : Start → ℕ → List ℕ
kind_of s t = kind_bytes s.args.m s.args.line t (lent_kind s.args.counts.now s.args.paid.now s.args.incurred.now t)

-- the set's file is its kinds
file : (s : Start) → let a = s.args in file_of a.m (given_set a.m a.line a.has_incurred a.counts.now a.paid.now a.incurred.now) ≡ chained (kinds a.has_incurred) (kind_of s)
unfolding set_bytes
file s = file_bytes s.args.m s.requires.m_bound.0 s.args.line _ _ _ s.args.has_incurred

room : (s : Start) → 0 + length (chained (kinds s.args.has_incurred) (kind_of s)) ≤ length s.args.out.now
room s = omega (arith, s.requires.incurred_in_bounds, ap length (file s))

first : (c : After-put_kind-second) → let s = c.before.before.before in Filled (kind_of s) s.args.out.now 0 1 c.put_kind-second.new.out c.put_kind-second.result
unfolding lent_kind
first c =
    let s = c.before.before.before in
    filled_next (kind_of s) s.args.out.now 0 (filled_none _ _ _) _ (room s) (c.put_kind-second.ensures.value, c.put_kind-second.ensures.out_after) c.put_kind-second.auto.out

second : (c : After-put_kind-third) → let s = c.before.before.before.before.before.before.before in Filled (kind_of s) s.args.out.now 0 2 c.put_kind-third.new.out c.put_kind-third.result
unfolding lent_kind
second c =
    let s = c.before.before.before.before.before.before.before in
    filled_next (kind_of s) s.args.out.now 0 (first c.before.before.before.before) _ (room s) (c.put_kind-third.ensures.value, c.put_kind-third.ensures.out_after) c.put_kind-third.auto.out

pub put_kind-second-requires : goal.put_kind-second-requires
unfolding lent_kind
put_kind-second-requires c =
    let s = c.before.before in
    record { m_bound = (s.requires.m_bound.0, s.requires.m_bound.1, omega arith); cells_in_bounds = filled_room (kind_of s) s.args.out.now 0 (filled_none _ _ _) _ (room s) (omega (arith, kinds_range s.args.has_incurred)) }

pub put_kind-third-requires : goal.put_kind-third-requires
unfolding lent_kind
put_kind-third-requires c =
    let d = c.before.before.before in
    let s = d.before.before.before in
    record { m_bound = (s.requires.m_bound.0, s.requires.m_bound.1, omega arith); cells_in_bounds = filled_room (kind_of s) s.args.out.now 0 (first d) _ (room s) (omega (arith, kinds_range s.args.has_incurred)) }

pub put_kind-requires : goal.put_kind-requires
unfolding lent_kind kinds
put_kind-requires c =
    let d = c.before.before.before.before in
    let s = d.before.before.before.before.before.before.before in
    record { m_bound = (s.requires.m_bound.0, s.requires.m_bound.1, omega arith); cells_in_bounds = filled_room (kind_of s) s.args.out.now 0 (second d) _ (room s) (rw c.before.if-has_incurred.true (omega arith)) }

-- all kinds are written
whole : (s : Start) (n : ℕ) {out : List ℕ} {next : ℕ} → kinds s.args.has_incurred ≡ n → Filled (kind_of s) s.args.out.now 0 n out next → out ≡ overlay s.args.out.now 0 (chained (kinds s.args.has_incurred) (kind_of s))
whole s n e w = w.bytes ∙ ap (λ (k : ℕ). overlay s.args.out.now 0 (chained k (kind_of s))) (sym e)

pub returns-then-has_incurred : goal.returns-then-has_incurred
unfolding lent_kind kinds
returns-then-has_incurred c =
    let g = c.before.before.before in
    let d = g.before.before.before.before.before in
    let s = d.before.before.before.before.before.before.before in
    rw (file s)
    (whole s 3 (ap kinds g.before.before.if-has_incurred.true)
    (filled_next (kind_of s) s.args.out.now 0 (second d) _ (room s) (g.put_kind.ensures.value, g.put_kind.ensures.out_after) g.put_kind.auto.out))

pub returns-else-has_incurred : goal.returns-else-has_incurred
unfolding kinds
returns-else-has_incurred c =
    let d = c.before.before.before.before in
    let s = d.before.before.before.before.before.before.before in
    rw (file s) (whole s 2 (ap kinds c.before.if-has_incurred.false) (second d))
