-- `walk::is_last` meets its contract. The invariant: whether all are the last is whether those left are.
-- Assumes nothing.
use mathlib.Core.Path.{◌≡◌}
use Rattle.memory.proofs.Runs.{Last}
use Rattle.memory.proofs.walk.is_last.Given as goal

abbrev pub invariant-loop-record : goal.invariant-loop-record
invariant-loop-record l = Last l.own l.log l.history ≡ Last l.own l.left l.record-iterator.iter.rest.now
