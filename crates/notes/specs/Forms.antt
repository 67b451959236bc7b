-- A well formed T and a message's header, in the forms that loops need. No public call is stated by these.
-- Assumes nothing.
use Rattle.std.specs.Prelude.{ℕ, Bool, ◌&&◌, cond, List, ◌++◌, ltb, leb, eqb, length, take, replicate}
use Rattle.notes.specs.Bytes.{field}
use Rattle.notes.specs.Index.{server_ok, servers}
use Rattle.notes.specs.Vector.{vector, Vector}
use Rattle.notes.specs.Record.{number_most}
use Rattle.notes.specs.Message.{header_size, count_field, offset_field, total_field, history_most, message_size, message_n, message_sender}

-- the most that a position of a well formed T holds, and each of the eight: zero from n on
abbrev pub limit_at : ℕ → ℕ → ℕ
limit_at n i = cond (ltb i n) number_most 0

unfoldable pub limits_of : ℕ → Vector
limits_of n = vector (take servers (replicate n number_most ++ replicate servers 0))

-- a message's header and its length suit each other
unfoldable pub header_ok : List ℕ → Bool
header_ok m =
    server_ok (message_n m) (message_sender m)
    && leb (field count_field m) history_most
    && eqb (field offset_field m) header_size
    && eqb (field total_field m) (length m)
    && eqb (length m) (message_size (field count_field m))
