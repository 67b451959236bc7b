-- `Phone::noted` meets its contract: as it was, or with the phone's bit and count.
-- Assumes nothing.
use mathlib.Core.Path.{sym}
use Rattle.rules.specs.Request.{noted}
use Rattle.requests.proofs.read.Phone.noted.Goals as goal

pub returns-then-is_in : goal.returns-then-is_in
unfolding noted
returns-then-is_in c =
    λ cell. rw (sym c.if-is_in.ensures)

pub returns : goal.returns
unfolding noted
returns c =
    λ cell. rw (sym c.if-is_in.ensures, c.added_to.ensures, c.with.ensures)
