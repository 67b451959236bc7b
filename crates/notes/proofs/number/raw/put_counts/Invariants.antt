-- `number::raw::put_counts` meets its contract. The invariant: the bytes of the numbers passed are stored.
-- Assumes nothing.
use Rattle.std.proofs.Common.{◌≡◌, take}
use Rattle.std.proofs.Math.Seq.{sets}
use Rattle.notes.specs.Vector.{count_bytes}
use Rattle.notes.proofs.number.raw.put_counts.Given as goal

abbrev pub invariant-loop-i : goal.invariant-loop-i
invariant-loop-i l = l.out ≡ sets l.initial.out l.at (count_bytes (take l.i l.xs))
