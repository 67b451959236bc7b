-- `block::state_in` meets its contract: field by field.
-- Assumes nothing.
use Prim.Native.Nat.{ℕ}
use mathlib.Core.Path.{sym, ap}
use lib.Dec.{eqb}
use Rattle.notes.proofs.Numbers.{from_one}
use Rattle.ssaldorip.specs.Calls.{state_in}
use Rattle.ssaldorip.proofs.block.state_in.Goals as goal

pub returns : goal.returns
unfolding state_in
returns c =
    let b = c.args.b.now in
    λ i.
    record {
      n = sym (from_one 0 b) i;
      own = record { 0 = sym (from_one 1 b) i };
      up = ap (λ (x : ℕ). eqb x 1) (sym (from_one 2 b)) i;
      held = c.at.ensures i;
      vector = c.vector_at.ensures i;
      cr = c.at-2.ensures i;
      rw = record { counts = c.counts_at.ensures i };
      nwrites = c.at-3.ensures i;
    }
