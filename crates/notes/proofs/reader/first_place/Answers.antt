-- `reader::first_place` meets its contract: the answer of the check picks the place.
-- Assumes nothing.
use Rattle.std.proofs.Common.{rules}
use Rattle.notes.proofs.Reading.{begin-passed, begin-checked}
use Rattle.notes.proofs.reader.first_place.Goals as goal

pub returns-in_err-check : goal.returns-in_err-check
returns-in_err-check c =
    let e = begin-checked c.args.m.now _ c.in_err-check.ensures in search rules

pub returns : goal.returns
returns c =
    begin-passed c.args.m.now _ c.in_ok-check.ensures
