-- `take::in_turn` meets its contract. The invariant: what the writes give is what those left give behind the new ones.
-- Assumes nothing.
use Prim.Native.Nat.{ℕ}
use mathlib.Core.Path.{ap, sym, ◌∙◌}
use lib.ListN.{get_or}
use native.Mathlib.Omega.{arith}
use Rattle.server.proofs.Taking.{listed-item, all-taken, skips-at, own_at, gap_at, appends-at}
use Rattle.server.proofs.take.in_turn.Goals as goal
use Rattle.server.proofs.take.in_turn.Goals.{then-known-number+else-eq+else-number-known-ne1, else-known-number}

pub number_of-number-requires : goal.number_of-number-requires
number_of-number-requires c = listed-item c.args.records.now _ c.loop-record-test.true c.requires c.told-records

pub bounds-vector-from : goal.bounds-vector-from
bounds-vector-from c =
    let low = (listed-item c.args.records.now _ c.loop-record-test.true c.requires c.told-records).1 in
    omega (arith, c.from.ensures, low)

pub after-vector-requires : goal.after-vector-requires
after-vector-requires c = (listed-item c.args.records.now _ c.loop-record-test.true c.requires c.told-records).1

pub returns-then-eq : goal.returns-then-eq
returns-then-eq c =
    let l = c.loop-record in
    sym
    (l.invariant.1
    ∙ own_at c.args.records.now l.record-index c.loop-record-test.true l.vector _ _ (ap (λ (o : ℕ). get_or l.vector.counts o 0) c.from.ensures) c.number_of-number.ensures c.args.own
    c.if-known-number.true
    l.new
    (sym c.eq.ensures ∙ c.if-eq.true))

pub returns-then-number-known-ne1 : goal.returns-then-number-known-ne1
returns-then-number-known-ne1 c =
    let l = c.loop-record in
    sym
    (l.invariant.1
    ∙ gap_at c.args.records.now l.record-index c.loop-record-test.true l.vector _ _ (ap (λ (o : ℕ). get_or l.vector.counts o 0) c.from.ensures) c.number_of-number.ensures c.args.own
    c.if-known-number.true
    l.new
    (sym c.eq.ensures ∙ c.if-eq.false)
    c.if-number-known-ne1.true)

pub loop-record-preserved : goal.loop-record-preserved
loop-record-preserved c =
    let l = c.loop-record in
    elim c.if-known-number.branch [
      | then-known-number+else-eq+else-number-known-ne1 w ↦ (
        omega (arith, w.new-is, l.invariant.0),
        l.invariant.1
            ∙ appends-at c.args.records.now l.record-index c.loop-record-test.true l.vector _ _ (ap (λ (o : ℕ). get_or l.vector.counts o 0) c.from.ensures) c.number_of-number.ensures c.args.own
            w.if-known-number.true
            l.new
            (sym w.eq.ensures ∙ w.if-eq.false)
            (omega arith)
            ∙ rw (w.new-is, w.vector-is, w.after-vector.ensures),
      )
      | else-known-number w ↦ (
        omega (arith, w.new-is, l.invariant.0),
        l.invariant.1
            ∙ rw (w.new-is, w.vector-is, skips-at c.args.records.now l.record-index c.loop-record-test.true l.vector _ _ (ap (λ (o : ℕ). get_or l.vector.counts o 0) c.from.ensures) c.number_of-number.ensures c.args.own w.if-known-number.false),
      )
    ]

pub returns : goal.returns
returns c =
    let l = c.loop-record in
    sym (l.invariant.1 ∙ all-taken c.args.records.now l.record-index c.loop-record-test.false l.vector c.args.own l.new)
