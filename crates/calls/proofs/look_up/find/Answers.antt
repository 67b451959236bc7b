-- `look_up::find` meets its contract: each record is tested, from the first on.
-- Assumes nothing.
use Rattle.std.proofs.Common.{◌∙◌, ap, rules, tests}
use Rattle.std.proofs.lemmas.Iterator.{YieldsList-from_slice}
use Rattle.std.proofs.lemmas.Iterator.Search.{position_from_yields_List}
use Rattle.std.proofs.lemmas.Iterator.Adapters.{position_from-zero}
use Rattle.notes.specs.Record.{decode}
use Rattle.rules.specs.Calls.{is_numbered}
use Rattle.calls.specs.Forms.{placed}
use Rattle.calls.proofs.LookUp.{first-placed}
use Rattle.calls.proofs.look_up.find.Goals as goal

pub returns : goal.returns
returns c =
    let a = c.args in
    let found = position_from_yields_List (λ r. is_numbered a.origin a.number (decode r)) _ _ c.position.result c.position.ensures.ran
    (YieldsList-from_slice a.records.now cc) (λ x b q k. search (rules, tests)) in
    ap placed (found ∙ position_from-zero _ a.records.now) ∙ first-placed a.origin a.number a.records.now
