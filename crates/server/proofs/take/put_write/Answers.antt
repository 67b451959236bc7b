-- `take::put_write` meets its contract: the bytes are those of the record that they say.
-- Assumes nothing.
use Rattle.notes.proofs.Records.{encode-decode}
use Rattle.server.proofs.take.put_write.Goals as goal

pub returns : goal.returns
returns c = rw (c.put_bytes.ensures, encode-decode c.args.write.now c.told-write c.fits-write)
