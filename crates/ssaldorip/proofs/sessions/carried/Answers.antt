-- `sessions::carried` meets its contract: the output has room, or not.
-- Assumes nothing.
use Rattle.std.proofs.Common.{sym, ◌∙◌}
use Rattle.ssaldorip.proofs.Raised.{asks_lacks, asks_done}
use Rattle.ssaldorip.proofs.sessions.carried.Goals as goal

pub returns-then-asked-lt-SIZE : goal.returns-then-asked-lt-SIZE
returns-then-asked-lt-SIZE c =
    asks_lacks c.args.session.now _ (sym c.session_of.ensures ∙ c.in_ok-s.was) c.args.asked.now c.if-asked-lt-SIZE.true

pub returns : goal.returns
returns c =
    rw (c.put_vector.ensures, c.read_carries.ensures)
    (asks_done c.args.session.now _ (sym c.session_of.ensures ∙ c.in_ok-s.was) c.args.asked.now c.if-asked-lt-SIZE.false)
