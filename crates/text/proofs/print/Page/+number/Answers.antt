-- `Page::number` meets its contract: the last digit stands behind the others, which a call on a tenth of the number stores.
-- Assumes nothing.
use Prim.Native.Nat.{◌/◌}
use mathlib.Core.Path.{sym}
use native.Mathlib.Omega.{arith}
use lib.ListN.{length}
use Rattle.text.specs.Text.{decimal}
use Rattle.text.proofs.Texts.{added-then, added-as, room-after}
use Rattle.text.proofs.Decimals.{decimal-one, decimal-more, length-one, length_more}
use Rattle.text.proofs.print.Page.+number.Goals as goal

pub text-requires : goal.text-requires
text-requires t c = omega (arith, length-one c.args.n c.if-n-lt10.true)

pub returns-then-n-lt10 : goal.returns-then-n-lt10
returns-then-n-lt10 t c = added-as (sym (decimal-one c.args.n c.if-n-lt10.true)) c.text.ensures

pub number-requires : goal.number-requires
number-requires t c = (omega arith, omega (arith, length_more c.args.n c.if-n-lt10.false (omega arith)))

pub text-requires-2 : goal.text-requires-2
text-requires-2 t c =
    room-after (length (decimal (c.args.n / 10))) 1 (omega arith) c.number.ensures
    (omega (arith, length_more c.args.n c.if-n-lt10.false (omega arith)))

pub returns : goal.returns
returns t c =
    added-as (sym (decimal-more c.args.n c.if-n-lt10.false (omega arith)))
    (added-then c.number.ensures c.text-2.ensures)
