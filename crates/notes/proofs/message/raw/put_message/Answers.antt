-- `message::raw::put_message` meets its contract: a header, and the records behind it.
-- Assumes nothing.
use Rattle.notes.proofs.Messages.{message-stored}
use Rattle.notes.proofs.message.raw.put_message.Goals as goal

pub returns : goal.returns
returns c =
    let a = c.args in
    rw (c.put_bytes.ensures, c.put_header.ensures)
    (message-stored a.n a.sender a.records.now a.out.now (λ i. (c.type_inv.records i).fits) c.requires.1 c.requires.0)
