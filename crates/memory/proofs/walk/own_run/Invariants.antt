-- `walk::own_run` meets its contract. The invariant: whether all are a run is whether those left are one.
-- Assumes nothing.
use Prim.Native.Nat.{◌+◌, ◌≤◌, ◌-◌}
use mathlib.Core.List.{map}
use mathlib.Core.Path.{◌≡◌}
use lib.ListN.{drop, length}
use Rattle.notes.specs.Record.{decode}
use Rattle.memory.specs.Forms.{own_run}
use Rattle.memory.proofs.walk.own_run.Given as goal

abbrev pub invariant-loop-record : goal.invariant-loop-record
invariant-loop-record l =
    (l.record-index ≤ length l.records)
    × (l.next ≡ l.k + l.record-index)
    × (own_run l.form.n l.own l.k (map decode l.records)
    ≡ own_run l.form.n l.own l.next (drop l.record-index (map decode l.records)))

abbrev pub decreases-loop-record : goal.decreases-loop-record
decreases-loop-record l = length l.records - l.record-index
