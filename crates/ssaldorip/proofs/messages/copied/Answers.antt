-- `messages::copied` meets its contract: the record that was read.
-- Assumes nothing.
use Rattle.std.proofs.Common.{sym, ◌∙◌, rules}
use Rattle.ssaldorip.proofs.Reading.{next_found}
use Rattle.ssaldorip.proofs.messages.copied.Goals as goal

pub returns : goal.returns
returns c =
    let a = c.args in
    rw (c.place_after.ensures, c.put_bytes.ensures)
    (next_found a.message.now a.at a.«record».now _ _ c.if-record-lt-LEN.false (sym c.read_at.ensures ∙ c.in-Some.is) c.to_bytes.ensures (search rules))
