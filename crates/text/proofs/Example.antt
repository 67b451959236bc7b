-- The requirements' example of a listing, computed.
-- Assumes nothing.
use mathlib.Core.List.{List, ◌∷◌, flat_map}
use mathlib.Core.Path.{◌≡◌, refl}
use Prim.Native.Nat.{ℕ}
use lib.ListN.{replicate}
use Rattle.notes.specs.Lists.{every, same}
use Rattle.notes.specs.Bytes.{from_bytes, to_bytes, pieces}
use Rattle.notes.specs.Index.{server_ok}
use Rattle.notes.specs.Vector.{zero_from, vector_from, vector_bytes}
use Rattle.notes.specs.Record.{decode, encode, in_range, stamp_ok, well_formed, records, record_bytes}
use Rattle.notes.specs.Message.{header_of, message_of, records_ok, message_ok}
use Rattle.text.specs.Text.{text, decimal_in, line, head_line, listing}

pub message : List ℕ
message =
    0x02 ∷ 0x00 ∷ 0x01 ∷ 0x00 ∷ 0x08 ∷ 0x00 ∷ 0x24 ∷ 0x00
    ∷ 0x00 ∷ 0x05 ∷ 0x2C ∷ 0x01 ∷ 0x07 ∷ 0x00 ∷ 0x00 ∷ 0x00 ∷ 0x84 ∷ 0x03 ∷ 0x00 ∷ 0x00 ∷ 0x01 ∷ 0x00
    ∷ replicate 14 0

pub example : listing message ≡ text "servers 2 sender 0 writes 1\n0 1 5 300 7 900 1 0\n"
unfolding message every same from_bytes to_bytes pieces server_ok zero_from vector_from vector_bytes decode encode in_range stamp_ok well_formed records record_bytes header_of message_of records_ok message_ok decimal_in line head_line listing flat_map
example = refl
