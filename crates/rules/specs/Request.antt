-- Requests: a phone's read of a cell or write to it, and the same cut after some of its stores.
-- Assumes nothing.
use Rattle.std.specs.Prelude.{ℕ, ◌+◌, ◌*◌, Bool, true, false, ◌&&◌, ◌||◌, not, cond, List, [], ◌∷◌, ◌++◌, ltb, leb, length, take}
use Rattle.std.proofs.Math.Option.{Option, none, some}
use Rattle.std.proofs.lemmas.List.Edits.{sets}
use Rattle.notes.specs.Reply.{Reply, given, first}
use Rattle.notes.specs.Index.{phones}
use Rattle.notes.specs.Vector.{at, raised, behind, zero_from}
use Rattle.notes.specs.Record.{record_size, cells, encode}
use Rattle.notes.specs.Message.{history_most}
use Rattle.rules.specs.Answer.{Refusal, OutOfRange, NotYet, HistoryFull, LogFull, Effect, value_reply, no_note_reply, written_reply, replying, finished, unless, head, is_down, elsewhere}
use Rattle.rules.specs.Memory.{PhoneId, State, with_phone, Memory, memory, with_state, with_history, with_image, in_cr, rw_at, rw_with, no_reads, down_of, holding, noting, writes}
use Rattle.rules.specs.Writes.{ServerId, Vector, Record, winner}
use Rattle.rules.specs.Image.{log_most, checkpoint_count, log_count, Store, stored, write_plan, checkpoint_plan}
pub use Rattle.rules.specs.declared.event.Request.{Request}
pub use Rattle.rules.specs.declared.event.Request.TheVariants.{Read, Write}

-- ---- a write

-- raise V[own] by one
unfoldable pub new_vector : State → Vector
new_vector s = raised s.vector s.own (at s.vector s.own + 1)

-- T is the new V
abbrev pub new_stamp : Memory → Vector
new_stamp m = new_vector m.state

-- the phone's time is stored as it comes
abbrev pub new_time : ℕ → ℕ
new_time time = time

unfoldable pub new_record : Memory → PhoneId → ℕ → ℕ → ℕ → Record
new_record m i cell value time =
    record { origin = m.state.own; phone = i; cell = cell; value = value; time = new_time time; stamp = new_stamp m }

-- append to the history and raise nWrites by one
unfoldable pub written : Record → Memory → Memory
written r m =
    let s = m.state in
    with_state (noting s.cr s.rw (s.nwrites + 1) (holding (s.held + 1) (new_vector s) s))
    (with_history (sets m.history (record_size * s.held) (encode r)) m)

-- ---- a read

-- if the phone is in CR this is a second read; otherwise add it and set its RW to nWrites
unfoldable pub noted : State → PhoneId → Request → State
noted s i (Read cell) = cond (in_cr s i) s (noting (with_phone s.cr i) (rw_with s i s.nwrites) s.nwrites s)
noted s i (Write cell value time) = s

-- clear CR, RW, nWrites
unfoldable pub cleared : State → State
cleared s = noting 0 no_reads 0 s

abbrev pub value_of : Option Record → Vector → Reply
value_of none v = no_note_reply v
value_of (some r) v = value_reply r.value v

-- ---- either

-- on a second read with RW above zero, take a checkpoint first
unfoldable pub due : Memory → PhoneId → Request → Bool
due m i (Read cell) = in_cr m.state i && ltb 0 (rw_at m.state i)
due m i (Write cell value time) = false

-- the stores of a request, in order: a checkpoint's if one is due, then its own
unfoldable pub own_plan : Memory → PhoneId → Request → List Store
own_plan m i (Read cell) = []
own_plan m i (Write cell value time) = write_plan (new_record m i cell value time) (log_count m.image)

unfoldable pub plan : Memory → PhoneId → Request → List Store
plan m i q =
    cond (due m i q) (checkpoint_plan m.history m.state.held (checkpoint_count m.image)) []
    ++ own_plan m i q

-- the state that a request goes on from: the read noted, and cleared if a checkpoint is due
unfoldable pub ready : Memory → PhoneId → Request → State
ready m i q = let s = noted m.state i q in cond (due m i q) (cleared s) s

unfoldable pub performed : Memory → PhoneId → Request → Memory
performed m i (Read cell) = with_state (ready m i (Read cell)) m
performed m i (Write cell value time) =
    written (new_record m i cell value time) (with_state (ready m i (Write cell value time)) m)

unfoldable pub reply_to : Request → Memory → Reply
reply_to (Read cell) m = value_of (winner cell (writes m)) m.state.vector
reply_to (Write cell value time) m = written_reply m.state.vector

-- served: all the stores
unfoldable pub served : Memory → PhoneId → Request → Effect
served m i q =
    let after = with_image (stored m.image (plan m i q)) (performed m i q) in
    replying (reply_to q after) after.state.vector after

-- cut after k: the first k are in the image, the state is down, the history is unchanged
unfoldable pub cut_after : Memory → PhoneId → Request → ℕ → Effect
cut_after m i q k = finished (memory (down_of m.state) m.history (stored m.image (take k (plan m i q))))

-- ---- refusals, in order

abbrev pub cell_of : Request → ℕ
cell_of (Read cell) = cell
cell_of (Write cell value time) = cell

abbrev pub is_write : Request → Bool
is_write (Read cell) = false
is_write (Write cell value time) = true

-- server, phone, cell or vector out of range
abbrev pub out_of_range : Memory → ServerId → PhoneId → Request → Vector → Bool
out_of_range m j i q v =
    elsewhere m j || not (ltb i.0 phones) || not (ltb (cell_of q) cells) || not (zero_from m.state.n v)

-- a write finds the history full, or the log
abbrev pub full_history : Memory → Request → Bool
full_history m q = is_write q && leb history_most m.state.held

abbrev pub full_log : Memory → Request → Bool
full_log m q = is_write q && leb log_most (log_count m.image)

abbrev pub full_refusals : Memory → Request → List (Option Refusal)
full_refusals m q = given (full_history m q) HistoryFull ∷ given (full_log m q) LogFull ∷ []

-- what a server that is up refuses
abbrev pub ask_refusals : Memory → ServerId → PhoneId → Request → Vector → List (Option Refusal)
ask_refusals m j i q v =
    given (out_of_range m j i q v) OutOfRange ∷ given (behind m.state.vector v) NotYet ∷ full_refusals m q

unfoldable pub request_refusals : Memory → ServerId → PhoneId → Request → Vector → List (Option Refusal)
request_refusals m j i q v = head m (is_down m) ++ ask_refusals m j i q v

-- a cut count is from 0 to the number of stores, and is tested last
abbrev pub count_refusals : Memory → PhoneId → Request → ℕ → List (Option Refusal)
count_refusals m i q k = given (not (leb k (length (plan m i q)))) OutOfRange ∷ []

abbrev pub cut_refusals : Memory → ServerId → PhoneId → Request → ℕ → Vector → List (Option Refusal)
cut_refusals m j i q k v = request_refusals m j i q v ++ count_refusals m i q k

unfoldable pub request : Memory → ServerId → PhoneId → Request → Vector → Effect
request m j i q v = unless (first (request_refusals m j i q v)) m (served m i q)

unfoldable pub request_cut : Memory → ServerId → PhoneId → Request → ℕ → Vector → Effect
request_cut m j i q k v = unless (first (cut_refusals m j i q k v)) m (cut_after m i q k)
