-- `sessions::put_session` meets its contract: vector by vector, then the choice.
-- Assumes nothing.
use Rattle.std.proofs.Common.{◌∙◌, rules}
use Rattle.notes.proofs.Sessions.{Eight}
use Rattle.ssaldorip.proofs.Raised.{session-stored}
use Rattle.ssaldorip.proofs.sessions.put_session.Goals as goal

pub returns : goal.returns
returns c =
    let eight : Eight c.args.s = record { reads = search rules; writes = search rules } in
    c.put.ensures
    ∙ rw (c.from.ensures, c.put_vector-2.ensures, c.put_vector.ensures)
    (session-stored c.args.s eight c.args.b.now c.requires)
