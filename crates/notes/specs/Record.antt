-- Records: 28 bytes, read and written; which are well formed; which of two wins a cell.
-- Assumes nothing.
use Rattle.std.specs.Prelude.{ℕ, Bool, ◌&&◌, ltb, leb, drop}
use mathlib.Core.List.{List, [], ◌∷◌, ◌++◌, map, flat_map}
use Rattle.notes.specs.Lists.{every, above}
use Rattle.notes.specs.Bytes.{Field, field, to_bytes, pieces}
use Rattle.notes.specs.Index.{phones}
use Rattle.notes.specs.Vector.{at, sum, zero_from, vector_from, vector_bytes, Vector}
pub use Rattle.notes.specs.declared.record.Record.{Record}

-- the bytes of a record, and where its numbers stand
abbrev pub record_size : ℕ
record_size = 28

abbrev pub origin_field : Field
origin_field = record { at = 0; size = 1 }

abbrev pub phone_field : Field
phone_field = record { at = 1; size = 1 }

abbrev pub cell_field : Field
cell_field = record { at = 2; size = 2 }

abbrev pub value_field : Field
value_field = record { at = 4; size = 4 }

abbrev pub time_field : Field
time_field = record { at = 8; size = 4 }

abbrev pub stamp_at : ℕ
stamp_at = 12

-- the limits
abbrev pub cells : ℕ
cells = 1024

-- the greatest number of a write
abbrev pub number_most : ℕ
number_most = 256

-- the record that 28 bytes are
unfoldable pub decode : List ℕ → Record
decode b =
    record {
      origin = record { 0 = field origin_field b };
      phone = record { 0 = field phone_field b };
      cell = field cell_field b;
      value = field value_field b;
      time = field time_field b;
      stamp = vector_from (drop stamp_at b);
    }

-- and its bytes
unfoldable pub encode : Record → List ℕ
encode r =
    r.origin.0
    ∷ r.phone.0
    ∷ to_bytes cell_field.size r.cell
    ++ to_bytes value_field.size r.value
    ++ to_bytes time_field.size r.time
    ++ vector_bytes r.stamp

-- the write's number: T at its origin
abbrev pub number : Record → ℕ
number r = at r.stamp r.origin

-- origin below n; phone and cell in range
unfoldable pub in_range : ℕ → Record → Bool
in_range n r = ltb r.origin.0 n && ltb r.phone.0 phones && ltb r.cell cells

-- every position at most 256, the positions from n on zero
unfoldable pub stamp_ok : ℕ → Vector → Bool
stamp_ok n v = every (λ x. leb x number_most) v.counts && zero_from n v

-- well formed for n servers; the phone time is free
unfoldable pub well_formed : ℕ → Record → Bool
well_formed n r = in_range n r && leb 1 (number r) && stamp_ok n r.stamp

-- a wins over b: the greater sum of T, then the higher origin, then the higher number
abbrev pub rank : Record → List ℕ
rank r = sum r.stamp ∷ r.origin.0 ∷ number r ∷ []

unfoldable pub beats : Record → Record → Bool
beats a b = above (rank a) (rank b)

-- k records one behind the other, and the bytes of records
unfoldable pub records : ℕ → List ℕ → List Record
records k b = map decode (pieces record_size k b)

unfoldable pub record_bytes : List Record → List ℕ
record_bytes rs = flat_map encode rs
