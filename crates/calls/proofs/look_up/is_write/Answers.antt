-- `look_up::is_write` meets its contract: the origin's byte, and then the number.
-- Assumes nothing.
use mathlib.Core.Path.{sym, ◌∙◌}
use borrow.Author.Tests.{ne_eqb}
use lib.ListN.{get_or}
use Rattle.calls.proofs.LookUp.{other-origin, number-decides}
use Rattle.calls.proofs.look_up.is_write.Goals as goal

pub returns-then-b-origin : goal.returns-then-b-origin
returns-then-b-origin c =
    rw (c.from.ensures, c.number_of.ensures)
    (sym (number-decides c.args.origin c.args.number c.args.b.now c.if-b-origin.true))

pub returns-else-b-origin : goal.returns-else-b-origin
returns-else-b-origin c =
    let a = c.args in
    ne_eqb (get_or a.b.now 0 0) a.origin.0 c.if-b-origin.false
    ∙ sym (other-origin a.origin a.number a.b.now c.if-b-origin.false)
