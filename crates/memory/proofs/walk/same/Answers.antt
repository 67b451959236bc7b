-- `walk::same` meets its contract: the bytes of a record are those of no other.
-- Assumes nothing.
use mathlib.Core.Path.{◌∙◌}
use Rattle.memory.proofs.Same.{same_eq, bytes_same}
use Rattle.memory.proofs.walk.same.Goals as goal

pub returns : goal.returns
returns c =
    let a = c.args in
    c.equal.ensures ∙ same_eq a.a.now a.b.now ∙ bytes_same a.a.now a.b.now c.told-a c.told-b c.fits-a c.fits-b
