-- `image::Headed::log` meets its contract: so many records, from their place on.
-- Assumes nothing.
use Rattle.notes.proofs.Lists.{rest}
use Rattle.rules.specs.Image.{log_at, log}
use Rattle.memory.proofs.Listed.{listed-records}
use Rattle.memory.proofs.image.raw.Headed.log.Goals as goal

pub returns : goal.returns
unfolding log
returns c =
    let i = c.args.self.bytes.now in
    listed-records c.first_records.result.now _ _ (rw (rest log_at i, c.from.ensures, c.at.ensures) at c.first_records.ensures)
