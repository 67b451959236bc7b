-- `listing::put_named` meets its contract: a text, and a number behind it.
-- Assumes nothing.
use native.Mathlib.Omega.{arith}
use lib.ListN.{length}
use Rattle.text.specs.Text.{decimal}
use Rattle.text.proofs.Decimals.{length-decimal}
use Rattle.text.proofs.Texts.{added-then, room-after}
use Rattle.text.proofs.listing.put_named.Goals as goal

pub number-requires : goal.number-requires
number-requires c =
    room-after (length c.args.t.now) (length (decimal c.args.n)) (omega arith) c.text.ensures (omega (arith, length-decimal c.args.n))

pub returns : goal.returns
returns c =
    added-then c.text.ensures c.number.ensures
