-- `read_records` meets its contract: so far each key that stood there has a flag, and each place
-- the sum of its key. Assumes nothing.
use Rattle.std.proofs.Common.{◌≡◌, sym, ap₂, ◌∙◌, true, false, List, [], ◌∷◌, ℕ, ◌+◌, ◌≤◌, ◌<◌, ◌*◌, ◌-◌, ℤ, w64, FitsSigned, arith, rules}
use Rattle.std.proofs.Math.Facts.{to_z-of_z}
use Rattle.model.specs.Lists.{every}
use Rattle.model.specs.ListsLaws.{and_left, every_none, every_more, every_next, every_no}
use Rattle.model.specs.Questions.{first_no}
use Rattle.model.specs.Records.{in_range}
use Rattle.model.specs.Tests.{by_test}
use Rattle.records.specs.OneRecord.{HeadAt, well_formed, ranged}
use Rattle.triangles.specs.Keys.{key_at, fresh, RecordsRead}
use Rattle.records.specs.Bytes.{head_formed}
use Rattle.triangles.proofs.Once.{parts_so}
use Rattle.triangles.proofs.Counting.{flags_none, flags_more, Cells, cells_none, cells_more}
use Rattle.triangles.proofs.cells.read_records.Goals as goal

-- ---- the two ways out
module _ (m u v : ℕ) (f : List ℕ) (n : ℕ) (set : List ℤ) where
  malformed : every n (well_formed m u v f) ≡ false → RecordsRead m u v f n 3 set
  unfolding first_no
  malformed e = record { result = rw e; values = λ z. absurd (omega arith) }

  formed : (r : ℕ) → every n (well_formed m u v f) ≡ true → r ≡ first_no ((4, every n (fresh f)) ∷ (5, every n (ranged f)) ∷ []) → Cells f n set → RecordsRead m u v f n r set
  unfolding first_no
  formed r e is cells =
      record {
        result = rw e is;
        values = λ z. by_test (every n (fresh f)) cells.1 (λ y. let four : r ≡ 4 = is ∙ rw y in absurd (omega arith));
      }

-- the key of a well-formed record
keyed : (f : List ℕ) (k : ℕ) {kind year delay line q : ℕ} → HeadAt f k kind year delay line → q ≡ 400 * kind + (20 * (year - 1) + delay) → q ≡ key_at f k
unfolding key_at
keyed f k h e = omega (arith, h.kind_is, h.year_is, h.delay_is)

pub loop-k-init : goal.loop-k-init
loop-k-init c = record {
  formed = every_none _;
  flags = flags_none _;
  cells = rw c.requires.set_value (cells_none _);
  once = sym (every_none _);
  ranged = sym (every_none _);
}

pub returns-then-not-record_ok : goal.returns-then-not-record_ok
returns-then-not-record_ok c =
    let l = c.loop-k in
    let no = sym c.record_ok.ensures ∙ c.if-not-record_ok.true in
    malformed _ _ _ _ _ l.set (every_no _ _ l.k c.loop-k-test.true (sym (head_formed _ _ _ _ l.k c.head-h.ensures) ∙ no))

pub loop-k-preserved : goal.loop-k-preserved
unfolding ranged fresh
loop-k-preserved c =
    let f = c.args.file.now in
    let l = c.loop-k in
    let i = l.invariant in
    let h = c.head-h.ensures in
    let q = c.key-q.result in
    let key = keyed f l.k h c.key-q.ensures.value in
    let below = c.key-q.ensures.below in
    let s : FitsSigned w64 c.value-v.result = search rules in
    let value = to_z-of_z s ∙ c.value-v.ensures in
    let yes = sym c.record_ok.ensures ∙ c.if-not-record_ok.false in
    record {
      formed = every_more _ l.k i.formed (sym (head_formed _ _ _ _ l.k h) ∙ yes);
      flags = flags_more f l.k q l.seen key below i.flags;
      cells = cells_more f l.k q _ l.set key below value i.cells;
      once = every_next _ l.k i.once (i.flags.1 q below ∙ rw key);
      ranged = every_next _ l.k i.ranged (c.in_range-ranged.ensures ∙ ap₂ in_range h.kind_is value);
    }

pub returns : goal.returns
returns c =
    let e : c.loop-k.k ≡ c.args.n = omega arith in
    let i = rw e at c.loop-k.invariant in
    formed _ _ _ _ _ _ _ i.formed (c.first_no.ensures ∙ rw (i.once, i.ranged)) i.cells

pub key-q-requires : goal.key-q-requires
key-q-requires c =
    let h = c.head-h.result in
    let p : (h.kind < c.args.kinds) × (1 ≤ h.year) × (h.year + h.delay ≤ c.args.m) = parts_so _ _ _ _ _ (and_left _ _ (sym c.record_ok.ensures ∙ c.if-not-record_ok.false)) in
    (omega (arith, c.requires.m_bound), p.1, omega (arith, c.requires.m_bound))
