-- `sessions::session_of` meets its contract: by its choice.
-- Assumes nothing.
use Rattle.std.proofs.lemmas.Result.{err_from_is_err_and}
use Rattle.ssaldorip.proofs.Raised.{chosen_told}
use Rattle.ssaldorip.proofs.sessions.session_of.Goals as goal

pub returns-in_err-try_from : goal.returns-in_err-try_from
returns-in_err-try_from c =
    let told = err_from_is_err_and c.from_residual.result c.from_residual.ensures.1 in
    rw (chosen_told c.args.b.now c.if-b-lt-LEN.false, ← c.try_from.ensures, c.in_err-try_from.was, ← told.2) told.1

pub returns : goal.returns
returns c =
    rw (chosen_told c.args.b.now c.if-b-lt-LEN.false, ← c.try_from.ensures, c.in_ok-try_from.was, c.vector_at.ensures, c.vector_at-2.ensures)
