-- `vector::raw::put_vector` meets its contract: its eight counts are stored.
-- Assumes nothing.
use Rattle.notes.specs.Vector.{vector_bytes}
use Rattle.notes.proofs.vector.raw.put_vector.Goals as goal

pub returns : goal.returns
unfolding vector_bytes
returns c =
    c.put_counts.ensures
