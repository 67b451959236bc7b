-- `record::raw::number_of` meets its contract: the count at the origin's place.
-- Assumes nothing.
use Rattle.std.proofs.Common.{◌∙◌, sym}
use Rattle.notes.proofs.Records.{number_at}
use Rattle.notes.proofs.record.raw.number_of.Goals as goal

pub returns : goal.returns
returns c =
    let b = c.args.b.now in
    c.at.ensures ∙ rw c.from.ensures (sym (number_at b (λ i. (c.type_inv.b i).fits) c.requires.1))
