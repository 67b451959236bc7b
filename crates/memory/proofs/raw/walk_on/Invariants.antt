-- `raw::walk_on` meets its contract. The invariant: the records passed are well formed and in turn, with these counts.
-- Assumes nothing.
use Prim.Native.Nat.{◌+◌}
use Rattle.memory.proofs.Walks.{Walked}
use Rattle.memory.proofs.raw.walk_on.Given as goal

abbrev pub invariant-loop-record : goal.invariant-loop-record
invariant-loop-record l = Walked l.form.n l.records (l.passed + l.record-index) l.counts
