-- `Record::from_bytes` meets its contract: zeros behind the bytes change no number.
-- Assumes nothing.
use mathlib.Core.Path.{◌∙◌}
use Rattle.notes.proofs.Records.{decode-set}
use native.Mathlib.Omega.{arith}
use Rattle.notes.proofs.record.Record.from_bytes.Goals as goal

pub returns : goal.returns
returns c =
    c.decoded-2.ensures ∙ rw c.put_bytes.ensures (decode-set c.args.b.now 28 (omega arith))
