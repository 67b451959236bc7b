-- `listing::put_head` meets its contract: three names with a number each, and a line feed.
-- Assumes nothing.
use mathlib.Core.Path.{refl}
use native.Mathlib.Omega.{arith}
use Rattle.text.specs.Text.{head_line}
use Rattle.text.proofs.Decimals.{length-decimal}
use Rattle.text.proofs.Texts.{added-as, added-then, room-after}
use Rattle.text.proofs.listing.put_head.Goals as goal

pub put_named-requires-2 : goal.put_named-requires-2
put_named-requires-2 c =
    room-after 18 18 (omega (arith, length-decimal c.from.result)) c.put_named.ensures (omega arith)

pub put_named-requires-3 : goal.put_named-requires-3
put_named-requires-3 c =
    room-after 18 18 (omega (arith, length-decimal c.from-2.result)) c.put_named-2.ensures
    (room-after 18 36 (omega (arith, length-decimal c.from.result)) c.put_named.ensures (omega arith))

pub end_line-requires : goal.end_line-requires
end_line-requires c =
    room-after 18 1 (omega (arith, length-decimal c.args.h.count)) c.put_named-3.ensures
    (room-after 18 19 (omega (arith, length-decimal c.from-2.result)) c.put_named-2.ensures
    (room-after 18 37 (omega (arith, length-decimal c.from.result)) c.put_named.ensures (omega arith)))

pub returns : goal.returns
unfolding head_line
returns c =
    added-as (rw (c.from.ensures, c.from-2.ensures) refl)
    (added-then (added-then (added-then c.put_named.ensures c.put_named-2.ensures) c.put_named-3.ensures) c.end_line.ensures)
