-- What has been read fits the input, and each read that gives something leaves less room.
-- Assumes nothing.
use Rattle.std.proofs.Common.{◌-◌, ◌≤◌}
use Rattle.listing.specs.declared.TheConstants.{INPUT}
use Rattle.listing.proofs.main.Given as goal

abbrev pub invariant-loop-read : goal.invariant-loop-read
invariant-loop-read l = l.n ≤ INPUT

abbrev pub decreases-loop-read : goal.decreases-loop-read
decreases-loop-read l = INPUT - l.n
