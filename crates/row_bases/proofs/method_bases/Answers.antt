-- `row_bases::method_bases` meets its contract. Assumes nothing.
use Rattle.std.proofs.Common.{refl, sym, ◌∙◌, arith}
use Rattle.model.specs.Calls.{no_set}
use Rattle.model.specs.Lent.{lent_set}
use Rattle.chain_ladder.specs.DevelopedLaws.{paid_ready}
use Rattle.ladder.specs.LadderLaws.{ladder_ready, ladder_ultimates}
use Rattle.refusals.specs.RefusalsLaws.{handed_on, none_of, some_of}
use Rattle.row_bases.specs.MethodLaws.{known_number, all_sizes, left_overs, answer_13, answer_14, answer_yes, row_bases_are}
use Rattle.row_bases.proofs.method_bases.Goals as goal

pub returns-in_err-w : goal.returns-in_err-w
returns-in_err-w c like =
    let known = known_number c.requires.asked.known c.from-method.ensures in
    let none = none_of _ _ _ c.in_err-w.ensures.value in
    let no = answer_13 c.args.m (lent_set like c.args.set.now) c.args.method c.requires.asked (rw (known, none.0) at c.incurred_under.ensures) in
    rw (handed_on _ _ c.from_residual.ensures.1, none.1) (record { refusal = sym no; bases = λ z. absurd (omega arith); lefts = refl })

pub ultimates-u-requires : goal.ultimates-u-requires
ultimates-u-requires c = ladder_ready c.requires.ladder.0 (paid_ready c.requires.asked.shared)

pub row_bases-requires : goal.row_bases-requires
row_bases-requires c =
    let known = known_number c.requires.asked.known c.from-method.ensures in
    let p = c.requires.asked in
    let few = p.shared.counts.small.few in
    let l = p.shared.counts.least in
    let w = rw (known, some_of _ _ _ c.in_ok-w.ensures.value) at c.incurred_under.ensures in
    (omega arith, few, rw known (all_sizes c.args.m (lent_set no_set c.args.set.now) c.args.method p w (c.ultimates-u.ensures ∙ ladder_ultimates c.requires.ladder.0 few) c.requires.ladder.0.latest_is))

pub returns-in_err-v : goal.returns-in_err-v
returns-in_err-v c like =
    let known = known_number c.requires.asked.known c.from-method.ensures in
    let p = c.requires.asked in
    let w = rw (known, some_of _ _ _ c.in_ok-w.ensures.value) at c.incurred_under.ensures in
    let u = c.ultimates-u.ensures ∙ ladder_ultimates c.requires.ladder.0 p.shared.counts.small.few in
    let none = none_of _ _ _ c.in_err-v.ensures.value in
    let no = answer_14 c.args.m (lent_set like c.args.set.now) c.args.method p w u c.requires.ladder.0.latest_is (rw (known, none.0) at c.row_bases.ensures) in
    rw (handed_on _ _ c.from_residual-in_err-v.ensures.1, none.1) (record { refusal = sym no; bases = λ z. absurd (omega arith); lefts = refl })

pub leftovers-requires : goal.leftovers-requires
leftovers-requires c =
    let known = known_number c.requires.asked.known c.from-method.ensures in
    let p = c.requires.asked in
    let few = p.shared.counts.small.few in
    let w = rw (known, some_of _ _ _ c.in_ok-w.ensures.value) at c.incurred_under.ensures in
    (few, rw known (all_sizes c.args.m (lent_set no_set c.args.set.now) c.args.method p w (c.ultimates-u.ensures ∙ ladder_ultimates c.requires.ladder.0 few) c.requires.ladder.0.latest_is))

pub returns : goal.returns
returns c like =
    let known = known_number c.requires.asked.known c.from-method.ensures in
    let s = lent_set like c.args.set.now in
    let p = c.requires.asked in
    let w = rw (known, some_of _ _ _ c.in_ok-w.ensures.value) at c.incurred_under.ensures in
    let u = c.ultimates-u.ensures ∙ ladder_ultimates c.requires.ladder.0 p.shared.counts.small.few in
    let l = c.requires.ladder.0.latest_is in
    let v = rw (known, some_of _ _ _ c.in_ok-v.ensures.value) at c.row_bases.ensures in
    record {
      refusal = sym (answer_yes c.args.m s c.args.method p w u l v);
      bases = λ _. row_bases_are c.args.m s c.args.method p w u l v;
      lefts = (rw known at c.leftovers.ensures) ∙ left_overs c.args.m s c.args.method p w u l;
    }
