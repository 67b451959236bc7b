-- `Vector::maximum` meets its contract. The invariant: the positions passed are the maximum's, the others this vector's.
-- Assumes nothing.
use Rattle.std.proofs.Common.{◌≡◌, ◌++◌, length, take, drop}
use Rattle.notes.specs.Vector.{maximum as maximum_of}
use Rattle.notes.proofs.vector.Vector.maximum.Given as goal

abbrev pub invariant-loop-i : goal.invariant-loop-i
invariant-loop-i l = (l.count-items ≡ take l.i (maximum_of l.fn.self l.other).counts ++ drop l.i l.fn.self.counts) × (length l.count-items ≡ 8)
