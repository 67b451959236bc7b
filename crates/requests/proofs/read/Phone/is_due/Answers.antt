-- `Phone::is_due` meets its contract.
-- Assumes nothing.
use mathlib.Core.Path.{sym}
use Rattle.rules.specs.Request.{due}
use Rattle.requests.proofs.read.Phone.is_due.Goals as goal

pub returns-then-is_in : goal.returns-then-is_in
unfolding due
returns-then-is_in c =
    λ cell. rw (sym c.if-is_in.ensures, c.at.ensures)

pub returns-else-is_in : goal.returns-else-is_in
unfolding due
returns-else-is_in c =
    λ cell. rw (c.if-is_in.false, sym c.if-is_in.ensures)
