-- `take::after` meets its contract: the write's first byte is its origin.
-- Assumes nothing.
use Rattle.server.proofs.Taking.{origin-is}
use Rattle.server.proofs.take.after.Goals as goal

pub returns : goal.returns
returns c = rw (c.raised.ensures, c.number_of.ensures, origin-is c.args.write.now)
