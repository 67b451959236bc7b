-- `serve::put_reply` meets its contract: answer by answer.
-- Assumes nothing.
use Rattle.std.proofs.Common.{◌≡◌, length, ◌∙◌, rules}
use Rattle.notes.specs.Index.{servers}
use Rattle.ssaldorip.specs.Forms.{answer_bytes}
use Rattle.ssaldorip.proofs.Requested.{read_stored, written_stored}
use Rattle.ssaldorip.proofs.serve.put_reply.Goals as goal

pub returns-in-Read : goal.returns-in-Read
returns-in-Read c =
    let eight : length c.in-Read.v.counts ≡ servers = search rules in
    let room = rw c.in-Read.is at c.requires in
    c.put_vector.ensures
    ∙ rw (c.put-in-Read.ensures, c.unwrap_or.ensures, c.put.ensures, c.from.ensures, c.is_some.ensures, c.in-Read.is)
    (read_stored c.in-Read.value c.in-Read.v c.args.reply.now eight room)

pub returns-in-Written : goal.returns-in-Written
returns-in-Written c =
    let eight : length c.in-Written.v.counts ≡ servers = search rules in
    let room = rw c.in-Written.is at c.requires in
    c.put_vector-in-Written.ensures ∙ rw c.in-Written.is (written_stored c.in-Written.v c.args.reply.now eight room)

pub returns-in-Done : goal.returns-in-Done
unfolding answer_bytes
returns-in-Done c = rw c.in-Done.is
