-- `image::Whole::headed` meets its contract: a right header says the counts of an image that has all of its bytes.
-- Assumes nothing.
use mathlib.Core.Path.{sym, ◌∙◌}
use Rattle.memory.proofs.Tested.{limits}
use Rattle.memory.proofs.image.raw.Whole.headed.Goals as goal

pub invariant_of-result : goal.invariant_of-result
invariant_of-result c =
    let a = c.args in
    record { sized = (limits a.n a.own a.self.bytes.now a.self.long (sym c.header_ok.ensures ∙ c.if-header_ok.true)).image }
