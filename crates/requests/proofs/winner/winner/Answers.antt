-- `winner::winner` meets its contract: the best of the cell's records, as they come, is the winner.
-- Assumes nothing.
use mathlib.Core.List.{map}
use mathlib.Core.Path.{◌≡◌, sym}
use Rattle.std.proofs.Common.{rules, tests}
use Rattle.std.proofs.lemmas.Iterator.{YieldsList-from_slice}
use Rattle.std.proofs.lemmas.Iterator.Consumers.{YieldsList-from_filter}
use Rattle.notes.specs.Record.{decode}
use Rattle.rules.specs.Writes.{winner}
use Rattle.requests.proofs.Winners.{shown_by, winner-walked}
use Rattle.requests.proofs.winner.winner.Goals as goal
use Rattle.requests.proofs.winner.winner.Goals.{After-reduce}

walk : (c : After-reduce) → shown_by c.reduce.result ≡ winner c.args.cell (map decode c.args.records.now)
unfolding decode
walk c =
    winner-walked _ _ (λ a x r q k. search (rules, tests)) c.args.cell c.args.records.now c.reduce.result c.reduce.ensures.ran (YieldsList-from_filter _ _ (YieldsList-from_slice c.args.records.now cc) c.filter.ensures.closure (λ x r q k. search (rules, tests)))

pub returns-in_err-best : goal.returns-in_err-best
returns-in_err-best c =
    let e = walk (goal.at.returns-in_err-best c).After-reduce in
    rw (c.from_residual.ensures, sym e, c.in_err-best.was)

pub returns : goal.returns
unfolding decode
returns c =
    let e = walk (goal.at.returns c).After-reduce in
    rw (sym e, c.in_ok-best.was, c.at.ensures)
