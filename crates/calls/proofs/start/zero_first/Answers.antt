-- `start::zero_first` meets its contract: the bytes past them stay.
-- Assumes nothing.
use mathlib.Core.Path.{◌∙◌}
use native.Mathlib.Nat.{zero-add}
use native.Mathlib.Omega.{arith}
use Rattle.laws.proofs.Places.{zeroed}
use borrow.Author.Rules.{rules}
use Rattle.calls.proofs.start.zero_first.Goals as goal

pub returns : goal.returns
returns c =
    let a = c.args in
    rw zero-add at (zeroed 0 a.len a.b.now c.fill.new.self (omega (arith, c.requires)) (search rules))
