-- `number::raw::fill_counts` meets its contract. The invariant: the numbers passed are those in the bytes, the others as they were.
-- Assumes nothing.
use Rattle.std.proofs.Common.{◌≡◌, ◌++◌, length, take, drop}
use Rattle.notes.specs.Vector.{counts_in}
use Rattle.notes.proofs.number.raw.fill_counts.Given as goal

abbrev pub invariant-loop-i : goal.invariant-loop-i
invariant-loop-i l =
    (l.out ≡ take l.i (counts_in (length l.fn.out) (drop l.at l.b)) ++ drop l.i l.fn.out) × (length l.out ≡ length l.fn.out)
