-- Update messages: a header of eight bytes, then the sender's history in order; reading one.
-- Assumes nothing.
use Rattle.std.specs.Prelude.{ℕ, ◌+◌, ◌*◌, ◌-◌, ◌/◌, ◌%◌, Bool, ◌&&◌, not, cond, List, [], ◌∷◌, ◌++◌, ◌≡◌, ltb, leb, eqb, length, take, drop, Result, Ok, Err, Some, None}
use Rattle.std.proofs.Math.Option.{Option, map}
use Rattle.std.specs.Prelude.{Option as Read}
use Rattle.notes.specs.Lists.{every, same}
use Rattle.notes.specs.Bytes.{Field, field, to_bytes}
use Rattle.notes.specs.Reply.{Reply, done, refused, Filled, given, first, fill}
use Rattle.notes.specs.Index.{server_ok, ServerId}
use Rattle.notes.specs.Record.{record_size, decode, well_formed, records, record_bytes, Record}
use Rattle.notes.specs.declared.message.Header.{Header}
use Rattle.notes.specs.declared.message.Refusal.{Refusal}
use Rattle.notes.specs.declared.message.Refusal.TheVariants.{OutOfRange, Malformed, TooShort}
use Rattle.notes.specs.declared.reader.Reader.{Reader}

-- ---- the layout

abbrev pub header_size : ℕ
header_size = 8

abbrev pub n_field : Field
n_field = record { at = 0; size = 1 }

abbrev pub sender_field : Field
sender_field = record { at = 1; size = 1 }

abbrev pub count_field : Field
count_field = record { at = 2; size = 2 }

abbrev pub offset_field : Field
offset_field = record { at = 4; size = 2 }

abbrev pub total_field : Field
total_field = record { at = 6; size = 2 }

-- the greatest count of writes
abbrev pub history_most : ℕ
history_most = 256

-- the length of a message of so many writes
abbrev pub message_size : ℕ → ℕ
message_size count = header_size + record_size * count

unfoldable pub header_of : ℕ → ServerId → ℕ → List ℕ
header_of n sender count =
    n
    ∷ sender.0
    ∷ to_bytes count_field.size count
    ++ to_bytes offset_field.size header_size
    ++ to_bytes total_field.size (message_size count)

unfoldable pub message_of : ℕ → ServerId → List Record → List ℕ
message_of n sender rs = header_of n sender (length rs) ++ record_bytes rs

-- ---- what is right

-- the bytes are whole records, and the records that they hold
abbrev pub whole : List ℕ → Bool
whole b = eqb (length b % record_size) 0

abbrev pub records_in : List ℕ → List Record
records_in b = records (length b / record_size) b

-- at most 256 records, each well formed
unfoldable pub records_ok : ℕ → List Record → Bool
records_ok n rs = leb (length rs) history_most && every (well_formed n) rs

-- what a message says
abbrev pub message_n : List ℕ → ℕ
message_n m = field n_field m

abbrev pub message_sender : List ℕ → ServerId
message_sender m = record { 0 = field sender_field m }

abbrev pub body : List ℕ → List ℕ
body m = drop header_size m

abbrev pub brought : List ℕ → List Record
brought m = records_in (body m)

-- a message is right if its N, sender and records are, and it is the message that they give
unfoldable pub message_ok : List ℕ → Bool
message_ok m =
    server_ok (message_n m) (message_sender m)
    && records_ok (message_n m) (brought m)
    && same m (message_of (message_n m) (message_sender m) (brought m))

-- ---- the answers

abbrev pub refusal_number : Refusal → ℕ
refusal_number OutOfRange = 1
refusal_number Malformed = 6
refusal_number TooShort = 9

abbrev pub refusal_reply : Refusal → Reply
refusal_reply r = refused (refusal_number r)

-- what a message says of itself: N, sender and count
abbrev pub header_said : List ℕ → Header
header_said m = record { n = message_n m; sender = message_sender m; count = length (brought m) }

abbrev pub header_values : Header → List ℕ
header_values h = h.n ∷ h.sender.0 ∷ h.count ∷ []

-- a check answers what the message says
abbrev pub checked_reply : Result Header Refusal → Reply
checked_reply (Ok h) = done (header_values h)
checked_reply (Err r) = refusal_reply r

unfoldable pub check : List ℕ → Reply
check m = cond (message_ok m) (done (header_values (header_said m))) (refusal_reply Malformed)

-- a writer answers how many bytes it filled
abbrev pub writer_reply : Result ℕ Refusal → Reply
writer_reply (Ok k) = done (k ∷ [])
writer_reply (Err r) = refusal_reply r

abbrev pub filled : Result ℕ Refusal → List ℕ → Filled
filled w out = record { reply = writer_reply w; output = out }

abbrev pub fill_unless : Option Refusal → List ℕ → List ℕ → Filled
fill_unless r bytes out = fill (map refusal_reply r) bytes out

-- what writing from N, sender and record bytes refuses, in order
unfoldable pub write_refusal : ℕ → ServerId → List ℕ → List ℕ → Option Refusal
write_refusal n sender b out =
    first
    (given (not (server_ok n sender)) OutOfRange
    ∷ given (not (whole b && records_ok n (records_in b))) Malformed
    ∷ given (ltb (length out) (message_size (length (records_in b)))) TooShort
    ∷ [])

-- the message of these records, into an output
unfoldable pub write : ℕ → ServerId → List ℕ → List ℕ → Filled
write n sender b out = fill_unless (write_refusal n sender b out) (message_of n sender (records_in b)) out

-- ---- reading, one record behind the other

-- reading begins behind the header; of a message that is refused nothing is read
unfoldable pub first_place : List ℕ → ℕ
first_place m = cond (message_ok m) header_size (length m)

-- where it begins, as an answer: a place, or the refusal that a check gives
unfoldable pub begin : List ℕ → Reply
begin m = cond (message_ok m) (done (first_place m ∷ [])) (refusal_reply Malformed)

abbrev pub begun : Result ℕ Refusal → Reply
begun place = writer_reply place

-- a whole record stands at a place
abbrev pub whole_at : List ℕ → ℕ → Bool
whole_at m at = leb record_size (length m - at)

-- the record at a place, if there is one
unfoldable pub read_at : List ℕ → ℕ → Read Record
read_at m at = cond (whole_at m at) (Some (decode (take record_size (drop at m)))) None

-- the place behind it, or the end
unfoldable pub place_after : List ℕ → ℕ → ℕ
place_after m at = cond (whole_at m at) (at + record_size) (length m)

-- how many whole records lie from a place on
abbrev pub left_from : List ℕ → ℕ → ℕ
left_from m at = (length m - at) / record_size

-- reading on from a place finds these writes in order, and then no more
unfoldable pub Reads : List ℕ → ℕ → List Record → Type 0
Reads m at [] = read_at m at ≡ None
Reads m at (w ∷ ws) = (read_at m at ≡ Some w) × Reads m (place_after m at) ws

-- ---- a reader holds the message and the place

-- where a new reader stands, as an answer
abbrev pub begun_at : Result Reader Refusal → Reply
begun_at (Ok r) = done (r.at ∷ [])
begun_at (Err k) = refusal_reply k

-- the records that a reader has left
abbrev pub unread : Reader → List Record
unread r = records (left_from r.message.now r.at) (drop r.at r.message.now)

-- a reader gives the record at its place and moves past it
pub record Moves (before : Reader) (found : Read Record) (after : Reader) : Type 0 where
  pub read : found ≡ read_at before.message.now before.at
  pub message : after.message ≡ before.message
  pub place : after.at ≡ place_after before.message.now before.at
