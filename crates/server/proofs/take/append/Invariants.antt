-- `take::append` meets its contract. The invariant: storing the new writes of those left gives the whole.
-- Assumes nothing.
use Prim.Native.Nat.{◌*◌}
use mathlib.Core.List.{map}
use lib.Seq.{sets}
use Rattle.notes.specs.Record.{record_size, decode, record_bytes}
use Rattle.server.specs.Forms.{ahead}
use Rattle.server.proofs.Taking.{Copied}
use Rattle.server.proofs.take.append.Given as goal

abbrev pub invariant-loop-record : goal.invariant-loop-record
invariant-loop-record l =
    Copied l.records (sets l.initial.history (record_size * l.held) (record_bytes (ahead l.initial.vector (map decode l.records)))) l.record-index l.vector l.history l.end
