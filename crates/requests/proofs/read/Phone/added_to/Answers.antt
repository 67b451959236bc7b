-- `Phone::added_to` meets its contract: the shift does not pass the digits.
-- Assumes nothing.
use mathlib.Core.Path.{ap, ◌∙◌}
use native.Mathlib.Nat.{one-mul}
use native.Mathlib.Omega.{arith}
use lib.Bits.{bit_or}
use lib.Dec.{lit<}
use lib.Pow.{shl_exact}
use Rattle.rules.specs.Memory.{with_phone}
use Rattle.requests.proofs.read.Phone.added_to.Goals as goal

pub returns : goal.returns
unfolding with_phone
returns c =
    ap (bit_or c.args.cr) (shl_exact 1 c.args.self.id.0 64 (lit< tt) (omega (arith, c.requires)) ∙ one-mul _)
