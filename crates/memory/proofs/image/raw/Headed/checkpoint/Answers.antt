-- `image::Headed::checkpoint` meets its contract: so many records, from their place on.
-- Assumes nothing.
use Rattle.notes.proofs.Lists.{rest}
use Rattle.rules.specs.Image.{checkpoint_at, checkpoint}
use Rattle.memory.proofs.Listed.{listed-records}
use Rattle.memory.proofs.image.raw.Headed.checkpoint.Goals as goal

pub returns : goal.returns
unfolding checkpoint
returns c =
    let i = c.args.self.bytes.now in
    listed-records c.first_records.result.now _ _ (rw (rest checkpoint_at i, c.from.ensures, c.at.ensures) at c.first_records.ensures)
