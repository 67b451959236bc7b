-- `raw::walk_on` meets its contract. The invariant: the records passed are well formed and in turn, with these counts.
-- Assumes nothing.
use Prim.Native.Nat.{ℕ, ◌+◌, ◌<◌}
use mathlib.Core.Bool.{true}
use mathlib.Core.Path.{◌≡◌, sym, ◌∙◌}
use native.Mathlib.Nat.{add-zero, add_assoc}
use native.Mathlib.Omega.{arith}
use lib.ListN.{length, length-take, length-drop}
use Rattle.notes.specs.Index.{servers}
use Rattle.notes.specs.Record.{number, well_formed}
use Rattle.memory.proofs.Listed.{rest-at}
use Rattle.memory.proofs.Walks.{this, origin, walked-first, walked_more, walk-unformed, walk-unturned, walk-done, walked-few, origin-low}
use Rattle.memory.proofs.raw.walk_on.Goals as goal
use Rattle.memory.proofs.raw.walk_on.Goals.{After-is_met, After-from-origin, After-number_of}

pub loop-record-init : goal.loop-record-init
loop-record-init c =
    let a = c.args in
    rw add-zero (walked-first a.form.n a.records.now a.passed a.counted c.requires.2)

-- the record that the loop is at
abbrev at : After-is_met → ℕ
at c = c.args.passed + c.loop-record.record-index

inside : (c : After-is_met) → at c < length c.args.records.now
inside c = omega (arith, simp (length-take, length-drop) at c.loop-record-test.true)

met : (c : After-is_met) → c.is_met.result ≡ well_formed c.args.form.n (this c.args.form.n c.args.records.now (at c))
met c = rw (rest-at c.args.records.now c.args.passed c.loop-record.record-index) at c.is_met.ensures

pub returns-then-not-is_met : goal.returns-then-not-is_met
returns-then-not-is_met c =
    let d = (goal.at.returns-then-not-is_met c).After-is_met in
    walk-unformed c.args.form.n c.args.records.now (at d) (inside d) (sym (met d) ∙ c.if-not-is_met.true)

-- where it is well formed
ok : (c : After-from-origin) → well_formed c.args.form.n (this c.args.form.n c.args.records.now (c.args.passed + c.loop-record.record-index)) ≡ true
ok c = sym (rw (rest-at c.args.records.now c.args.passed c.loop-record.record-index) at c.is_met.ensures) ∙ c.if-not-is_met.false

from : (c : After-from-origin) → c.from-origin.result ≡ origin c.args.form.n c.args.records.now (c.args.passed + c.loop-record.record-index)
from c = rw (rest-at c.args.records.now c.args.passed c.loop-record.record-index) at c.from-origin.ensures

low : (c : After-from-origin) → origin c.args.form.n c.args.records.now (c.args.passed + c.loop-record.record-index) < servers
low c = origin-low c.args.form.n c.args.records.now (c.args.passed + c.loop-record.record-index) c.args.form.few (ok c)

pub bounds-counts-origin : goal.bounds-counts-origin
bounds-counts-origin c = let d = (goal.at.bounds-counts-origin c).After-from-origin in rw (from d) (low d)

pub overflow_add-next : goal.overflow_add-next
overflow_add-next c =
    let d = (goal.at.overflow_add-next c).After-from-origin in
    let a = c.args in
    let l = c.loop-record in
    let in-all = inside (goal.at.overflow_add-next c).After-is_met in
    record { fits = omega (arith, walked-few a.form.n a.records.now (a.passed + l.record-index) l.counts l.invariant c.from-origin.result, c.requires.0, in-all) }

pub number_of-requires : goal.number_of-requires
number_of-requires c =
    let d = (goal.at.number_of-requires c).After-from-origin in
    let a = c.args in
    rw (rest-at a.records.now a.passed c.loop-record.record-index)
    (omega (arith, c.told-records (a.passed + c.loop-record.record-index) (inside (goal.at.number_of-requires c).After-is_met)), low d)

-- and its number
numbered : (c : After-number_of) → c.number_of.result ≡ number (this c.args.form.n c.args.records.now (c.args.passed + c.loop-record.record-index))
numbered c = rw (rest-at c.args.records.now c.args.passed c.loop-record.record-index) at c.number_of.ensures

pub returns-then-number_of-next : goal.returns-then-number_of-next
returns-then-number_of-next c =
    let g = goal.at.returns-then-number_of-next c in
    let a = c.args in
    let l = c.loop-record in
    let differs = rw (from g.After-from-origin, numbered g.After-number_of) at c.if-number_of-next.true in
    walk-unturned a.form.n a.records.now (at g.After-is_met) (inside g.After-is_met) l.counts l.invariant (low g.After-from-origin) differs

pub bounds-counts-origin-in-loop-record : goal.bounds-counts-origin-in-loop-record
bounds-counts-origin-in-loop-record c = let d = (goal.at.bounds-counts-origin-in-loop-record c).After-from-origin in rw (from d) (low d)

pub loop-record-preserved : goal.loop-record-preserved
loop-record-preserved c =
    let g = goal.at.loop-record-preserved c in
    let a = c.args in
    let l = c.loop-record in
    let next = rw (from g.After-from-origin, numbered g.After-number_of) at c.if-number_of-next.false in
    rw (from g.After-from-origin, ← add_assoc a.passed l.record-index 1)
    (walked_more a.form.n a.records.now (at g.After-is_met) (inside g.After-is_met) l.counts l.invariant a.form.few (ok g.After-from-origin) next)

pub returns : goal.returns
returns c =
    let a = c.args in
    let l = c.loop-record in
    walk-done a.form.n a.records.now (a.passed + l.record-index) l.counts
    (omega (arith, simp (length-take, length-drop) at c.loop-record-test.false)) l.invariant
