-- `walk::is_first` meets its contract: equal bytes are equal records.
-- Assumes nothing.
use Prim.Native.Nat.{◌*◌}
use lib.ListN.{take}
use mathlib.Core.Path.{◌∙◌}
use Rattle.notes.specs.Record.{record_size}
use Rattle.memory.proofs.Same.{same_eq, first_same}
use Rattle.memory.proofs.walk.is_first.Goals as goal

pub returns : goal.returns
returns c =
    let a = c.args in
    let n = record_size * a.count in
    c.equal.ensures
    ∙ same_eq (take n a.checkpoint.now) (take n a.history.now)
    ∙ first_same a.count a.checkpoint.now a.history.now c.requires.0 c.requires.1 (λ j. (c.type_inv.checkpoint j).fits) (λ j. (c.type_inv.history j).fits)
