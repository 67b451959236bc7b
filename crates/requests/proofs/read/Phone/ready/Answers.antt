-- `Phone::ready` meets its contract: noted, and cleared where a checkpoint is due.
-- Assumes nothing.
use mathlib.Core.Path.{sym}
use Rattle.rules.specs.Request.{ready}
use Rattle.requests.proofs.read.Phone.ready.Goals as goal

pub returns-then-is_due : goal.returns-then-is_due
unfolding ready
returns-then-is_due c =
    λ cell. rw (c.cleared.ensures, c.noted-noted.ensures cell, sym (c.if-is_due.ensures cell))

pub returns-else-is_due : goal.returns-else-is_due
unfolding ready
returns-else-is_due c =
    λ cell. rw (c.noted-noted.ensures cell, sym (c.if-is_due.ensures cell))
