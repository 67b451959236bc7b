-- `write::write_cut` meets its contract: the first of the record's stores, and the state down.
-- Assumes nothing.
use Rattle.rules.specs.Request.{cut_after}
use Rattle.requests.proofs.write.write_cut.Goals as goal

pub returns : goal.returns
unfolding cut_after
returns c =
    rw (c.down.ensures, c.store_new.ensures.image)
