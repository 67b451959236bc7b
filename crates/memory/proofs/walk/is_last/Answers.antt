-- `walk::is_last` meets its contract. The invariant: whether all are the last is whether those left are.
-- Assumes nothing.
use mathlib.Core.Bool.{Bool, ◌&&◌, and-true, and-false}
use mathlib.Core.Path.{◌≡◌, sym, ap, ◌∙◌}
use Rattle.memory.proofs.Runs.{Last, left-none, none_held, left_other, left-own}
use Rattle.memory.proofs.walk.is_last.Goals as goal
use Rattle.memory.proofs.walk.is_last.Goals.{After-same}

pub returns-in_default : goal.returns-in_default
returns-in_default c =
    let l = c.loop-record in
    sym (l.invariant ∙ left-none c.args.own l.left.now l.record-iterator.iter.rest.now c.in_default.ensures.cases)

-- the record and the last of the log are compared
compared : (c : After-same) → Last c.args.own c.args.log.now c.args.history.now ≡ (Last c.args.own c.in-Some-split_last.before.now c.next.new.self.iter.rest.now && c.same.result)
compared c =
    let own = c.args.own in
    let l = c.loop-record in
    let p = c.in-Some-split_last in
    let rest = c.next.new.self.iter.rest.now in
    l.invariant
    ∙ rw (p.ensures.cases.0, c.in-Some.ensures.steps) (left-own own p.before.now rest c.in-Some.record.now p.last.now c.if-record-own.true)
    ∙ ap (λ (t : Bool). Last own p.before.now rest && t) (sym c.same.ensures)

pub returns-then-not-same : goal.returns-then-not-same
returns-then-not-same c =
    sym (compared (goal.at.returns-then-not-same c).After-same ∙ rw (c.if-not-same.true, and-false))

pub loop-record-preserved-then-record-own : goal.loop-record-preserved-then-record-own
loop-record-preserved-then-record-own c =
    compared (goal.at.loop-record-preserved-then-record-own c).After-same ∙ rw (c.if-not-same.false, and-true)

pub loop-record-preserved : goal.loop-record-preserved
loop-record-preserved c =
    let l = c.loop-record in
    l.invariant
    ∙ rw c.in-Some.ensures.steps (left_other c.args.own l.left.now c.next.new.self.iter.rest.now c.in-Some.record.now c.if-record-own.false)

pub returns : goal.returns
returns c =
    let l = c.loop-record in
    c.is_empty.ensures
    ∙ sym (l.invariant ∙ none_held c.args.own l.left.now l.record-iterator.iter.rest.now c.in-None.ensures.steps.0)
