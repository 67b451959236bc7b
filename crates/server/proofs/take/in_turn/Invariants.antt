-- `take::in_turn` meets its contract. The invariant: what the writes give is what those left give behind the new ones.
-- Assumes nothing.
use Prim.Native.Nat.{◌≤◌}
use mathlib.Core.List.{map}
use mathlib.Core.Path.{◌≡◌}
use lib.ListN.{drop}
use Rattle.notes.specs.Record.{decode}
use Rattle.rules.specs.Step.{taken}
use Rattle.server.specs.Forms.{seen}
use Rattle.server.proofs.Taking.{seen_behind}
use Rattle.server.proofs.take.in_turn.Given as goal

abbrev pub invariant-loop-record : goal.invariant-loop-record
invariant-loop-record l =
    (l.new ≤ l.record-index)
    × (seen (taken l.own l.initial.vector (map decode l.records)) ≡ seen_behind l.new (taken l.own l.vector (drop l.record-index (map decode l.records))))
