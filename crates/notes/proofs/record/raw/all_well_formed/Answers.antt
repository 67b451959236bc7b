-- `record::raw::all_well_formed` meets its contract: each record is tested.
-- Assumes nothing.
use Rattle.std.proofs.Common.{◌∙◌, ◌/◌, length, rules, tests}
use Rattle.std.proofs.lemmas.Iterator.{YieldsList-from_slice}
use Rattle.std.proofs.lemmas.Iterator.Search.{all_from_yields_List}
use Rattle.notes.specs.Bytes.{pieces}
use Rattle.notes.specs.Record.{decode, well_formed}
use Rattle.notes.proofs.Records.{all-pieces}
use Rattle.notes.proofs.record.raw.all_well_formed.Goals as goal

pub returns : goal.returns
returns c =
    let a = c.args in
    let k = length a.b.now / 28 in
    let tested = all_from_yields_List (λ r. well_formed c.of-form.result.n (decode r)) _ _ c.all.result c.all.ensures.ran
    (YieldsList-from_slice (pieces 28 k a.b.now) (cc)) (λ x b q k. search (rules, tests)) in
    rw c.of-form.ensures at tested ∙ all-pieces (well_formed a.n) k a.b.now
