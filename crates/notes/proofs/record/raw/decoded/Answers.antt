-- `record::raw::decoded` meets its contract: field by field.
-- Assumes nothing.
use Rattle.std.proofs.Common.{sym}
use Rattle.notes.specs.Record.{decode}
use Rattle.notes.proofs.Numbers.{from_one}
use Rattle.notes.proofs.record.raw.decoded.Goals as goal

pub returns : goal.returns
unfolding decode
returns c =
    let b = c.args.b.now in
    λ i.
    record {
      origin = record { 0 = sym (from_one 0 b) i };
      phone = record { 0 = sym (from_one 1 b) i };
      cell = c.at.ensures i;
      value = c.at-2.ensures i;
      time = c.at-3.ensures i;
      stamp = c.vector_at.ensures i;
    }
