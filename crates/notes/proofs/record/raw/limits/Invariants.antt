-- `record::raw::limits` meets its contract. The invariant: the positions passed are the limits, the others zero.
-- Assumes nothing.
use Rattle.std.proofs.Common.{◌≡◌, ◌++◌, length, take, drop}
use Rattle.notes.specs.Vector.{zeros}
use Rattle.notes.specs.Forms.{limits_of}
use Rattle.notes.proofs.record.raw.limits.Given as goal

abbrev pub invariant-loop-i : goal.invariant-loop-i
invariant-loop-i l = (l.count-items ≡ take l.i (limits_of l.n).counts ++ drop l.i zeros.counts) × (length l.count-items ≡ 8)
