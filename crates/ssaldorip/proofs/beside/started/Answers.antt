-- `beside::started` meets its contract: refused for the block or by the start, or done.
-- Assumes nothing.
use mathlib.Core.List.{[]}
use Rattle.rules.specs.Writes.{server}
use Rattle.ssaldorip.specs.Calls.{vector_size, Lent, lent, no_reply}
use Rattle.ssaldorip.proofs.Told.{told_again}
use Rattle.ssaldorip.proofs.Called.{short-state, start_refused, start_done}
use Rattle.ssaldorip.proofs.beside.started.Goals as goal

pub returns-then-state-lt-LEN : goal.returns-then-state-lt-LEN
returns-then-state-lt-LEN c = short-state vector_size 0 _ no_reply _ c.if-state-lt-LEN.true

pub returns-in_err-s : goal.returns-in_err-s
returns-in_err-s c =
    let a = c.args in
    let l : Lent = lent a.state.now a.history.now a.image.now [] in
    rw (told_again c.from_residual.result _ c.from_residual.ensures.1)
    (start_refused a.n (server a.own) l c.if-state-lt-LEN.false _ _ _ (rw c.in_err-s.was at c.start.ensures))

pub returns : goal.returns
returns c =
    let a = c.args in
    let l : Lent = lent a.state.now a.history.now a.image.now [] in
    rw c.put_state.ensures
    (start_done a.n (server a.own) l c.if-state-lt-LEN.false _ _ _ (rw c.in_ok-s.was at c.start.ensures))
