-- `Record::to_bytes` meets its contract: field by field.
-- Assumes nothing.
use Rattle.std.proofs.Common.{◌≡◌, ◌∙◌, length, replicate, rules}
use Rattle.notes.proofs.Records.{encode-stored, encode-filled}
use Rattle.notes.proofs.record.Record.to_bytes.Goals as goal

pub returns : goal.returns
returns c =
    let self = c.args.self in
    let eight : length self.stamp.counts ≡ 8 = search rules in
    c.put_vector.ensures
    ∙ rw (c.put-5.ensures, c.put-4.ensures, c.put-3.ensures, c.put-2.ensures, c.put.ensures)
    (encode-stored self (replicate 28 0) (search rules) (search rules) ∙ encode-filled self eight)
