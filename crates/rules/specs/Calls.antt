-- The calls beside the step: judging, starting anew, status, look-up, the server's own message.
-- Assumes nothing.
use Rattle.std.specs.Prelude.{ℕ, suc, Bool, true, false, ◌&&◌, not, List, [], ◌∷◌, ◌++◌, ltb, eqb, length, take, drop, replicate, Result, Ok, Err, Some, None}
use Rattle.std.proofs.Math.Option.{Option, none, some, map}
use Rattle.std.specs.Prelude.{Option as Maybe}
use Rattle.std.specs.Borrow.{Bor}
use Rattle.notes.specs.Reply.{Reply, done, Filled, given, or_else, first, fill}
use Rattle.notes.specs.Index.{server_ok}
use Rattle.notes.specs.Vector.{zeros}
use Rattle.notes.specs.Record.{record_size, number}
use Rattle.notes.specs.Message.{message_size, message_of}
use Rattle.rules.specs.Answer.{Refusal, OutOfRange, Unsound, TooShort, Effect, refusal_reply, done_reply, replying, finished, unless, message_reply, short, judged, head, is_down}
use Rattle.rules.specs.Writes.{ServerId, Record, server}
use Rattle.rules.specs.Memory.{PhoneId, State, members, Memory, memory, blank, writes}
use Rattle.rules.specs.Image.{history_size, image_size, image_n, image_own, checkpoint_place, log_place, checkpoint, log, fresh_image}
use Rattle.rules.specs.Sound.{suits}

-- a refusal, or else a reply
abbrev pub reply_unless : Option Refusal → Reply → Reply
reply_unless none r = r
reply_unless (some k) r = refusal_reply k

-- ---- judging a state with its buffers

unfoldable pub judge : Memory → Reply
judge m = reply_unless (first (judged m)) done_reply

-- ---- starting anew

-- an up state with zeroed history and a fresh image; buffers past the sizes given stay
unfoldable pub fresh : ℕ → ServerId → List ℕ → List ℕ → Memory
fresh n own h i =
    memory (blank true n own) (replicate history_size 0 ++ drop history_size h) (fresh_image n own ++ drop image_size i)

-- where a start is refused there is the memory of no server, whose state suits no buffers
abbrev pub no_server : List ℕ → List ℕ → Memory
no_server h i = memory (blank false 0 (server 0)) h i

-- what a start answers, and the buffers after it
abbrev pub start_effect : Result State Refusal → List ℕ → List ℕ → Effect
start_effect (Ok s) h i = finished (memory s h i)
start_effect (Err r) h i = replying (refusal_reply r) zeros (no_server h i)

abbrev pub start_refusal : ℕ → ServerId → List ℕ → List ℕ → Option Refusal
start_refusal n own h i = first (given (short (no_server h i)) TooShort ∷ given (not (server_ok n own)) OutOfRange ∷ [])

unfoldable pub start : ℕ → ServerId → List ℕ → List ℕ → Effect
start n own h i = unless (start_refusal n own h i) (no_server h i) (finished (fresh n own h i))

-- ---- status: how many phones are in CR, and the lowest numbered one if any

abbrev pub lowest : List PhoneId → List ℕ
lowest [] = []
lowest (i ∷ l) = i.0 ∷ []

unfoldable pub status : Memory → Reply
status m = let readers = members m.state.cr in reply_unless (first (head m (is_down m))) (done (length readers ∷ lowest readers))

-- ---- look-up by origin and number in an image

-- the place among records of the first with this origin and number
abbrev pub is_numbered : ServerId → ℕ → Record → Bool
is_numbered o k r = eqb r.origin.0 o.0 && eqb (number r) k

abbrev pub or_later : Bool → Option ℕ → Option ℕ
or_later true later = some 0
or_later false later = map suc later

unfoldable pub place_of : ServerId → ℕ → List Record → Option ℕ
place_of o k [] = none
place_of o k (r ∷ rs) = or_later (is_numbered o k r) (place_of o k rs)

-- from the checkpoint area or else from the log: where in the image the record stands
unfoldable pub stands_at : List ℕ → ServerId → ℕ → Option ℕ
stands_at i o k =
    or_else (map checkpoint_place (place_of o k (checkpoint i))) (map log_place (place_of o k (log i)))

-- the record's bytes as they stand, or none for "not there"
abbrev pub bytes_at : List ℕ → Option ℕ → List ℕ
bytes_at i none = []
bytes_at i (some p) = take record_size (drop p i)

-- N and own number are the image's own
unfoldable pub look_up_refusal : List ℕ → ServerId → Option Refusal
look_up_refusal i o =
    first
    (given (ltb (length i) image_size) TooShort
    ∷ given (not (suits (image_n i) (image_own i) i)) Unsound
    ∷ given (not (ltb o.0 (image_n i))) OutOfRange
    ∷ [])

unfoldable pub look_up : List ℕ → ServerId → ℕ → Reply
look_up i o k = reply_unless (look_up_refusal i o) (done (bytes_at i (stands_at i o k)))

-- what a look-up answers: a part of the image, or none for "not there"
abbrev pub found : Result (Maybe (Bor (List ℕ))) Refusal → Reply
found (Ok None) = done []
found (Ok (Some part)) = done part.now
found (Err r) = refusal_reply r

-- ---- the server's own update message, into an output

abbrev pub message_filled : Result ℕ Refusal → List ℕ → Filled
message_filled a out = record { reply = message_reply a; output = out }

unfoldable pub own_message : Memory → List ℕ
own_message m = message_of m.state.n m.state.own (writes m)

-- 9 for the output is last
abbrev pub room_refusals : Memory → List ℕ → List (Option Refusal)
room_refusals m out = given (ltb (length out) (message_size m.state.held)) TooShort ∷ []

abbrev pub message_refusals : Memory → List ℕ → List (Option Refusal)
message_refusals m out = head m (is_down m) ++ room_refusals m out

unfoldable pub message : Memory → List ℕ → Filled
message m out = fill (map refusal_reply (first (message_refusals m out))) (own_message m) out
