-- `vector::raw::vector_at` meets its contract: its eight counts are read.
-- Assumes nothing.
use mathlib.Core.Path.{ap}
use Rattle.notes.specs.Vector.{vector, vector_from}
use Rattle.notes.proofs.vector.raw.vector_at.Goals as goal

pub returns : goal.returns
unfolding vector_from
returns c =
    ap vector c.counts_at.ensures
