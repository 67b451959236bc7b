-- What is lent to a call, a request's reply and a session in the forms that their parts need. No public call is stated by these.
-- Assumes nothing.
use Rattle.std.specs.Prelude.{ℕ, cond, List, [], ◌∷◌, ◌++◌, ltb, length, replicate, Result, Ok, Err, Some, None}
use Rattle.notes.specs.Bytes.{field, to_bytes}
use Rattle.notes.specs.Vector.{vector_from, vector_bytes}
use Rattle.notes.specs.declared.vector.Vector.{Vector}
use Rattle.notes.specs.Session.{choose}
use Rattle.notes.specs.declared.message.Refusal.{Refusal as Told}
use Rattle.notes.specs.declared.session.Choice.{Choice}
use Rattle.notes.specs.declared.session.Session.{Session}
use Rattle.rules.specs.Answer.{Effect, refusal_number, of_message}
use Rattle.rules.specs.declared.answer.Refusal.{Refusal}
use Rattle.rules.specs.declared.answer.Refusal.TheVariants.{TooShort}
use Rattle.rules.specs.declared.answer.Answer.{Answer}
use Rattle.rules.specs.declared.answer.Answer.TheVariants as answer
use Rattle.rules.specs.declared.event.Request.{Request}
use Rattle.rules.specs.declared.event.Request.TheVariants.{Read, Write}
use Rattle.rules.specs.declared.state.State.{State}
use Rattle.ssaldorip.specs.Calls.{block_size, state_of, vector_size, read_size, read_reply, write_reply}
use Rattle.ssaldorip.specs.Sessions.{session_size, choice_field, session_in}

-- ---- what is lent, or 9 for too few bytes

-- the state of a block
abbrev pub state_told : List ℕ → Result State Refusal
state_told b = cond (ltb (length b) block_size) (Err TooShort) (Ok (state_of b))

-- a phone's vector
abbrev pub vector_told : List ℕ → Result Vector Refusal
vector_told b = cond (ltb (length b) vector_size) (Err TooShort) (Ok (vector_from b))

-- a session; an unknown choice is 1
abbrev pub of_choice : Result Choice Told → List ℕ → Result Session Refusal
of_choice (Ok c) s = Ok (session_in c s)
of_choice (Err r) s = Err (of_message r)

abbrev pub session_told : List ℕ → Result Session Refusal
session_told s = cond (ltb (length s) session_size) (Err TooShort) (of_choice (choose (field choice_field s)) s)

-- a place, or the refusal's number
abbrev pub place_told : Result ℕ Refusal → ℕ
place_told (Ok p) = p
place_told (Err r) = refusal_number r

-- ---- a request's reply: its room and its bytes

abbrev pub reply_size : Request → ℕ
reply_size (Read cell) = read_size
reply_size (Write cell value time) = vector_size

abbrev pub reply_bytes : Request → Effect → List ℕ
reply_bytes (Read cell) = read_reply
reply_bytes (Write cell value time) = write_reply

-- the same room and bytes, by the answer
abbrev pub answer_size : Answer → ℕ
answer_size (answer.Read x v) = read_size
answer_size (answer.Written v) = vector_size
answer_size answer.Done = 0

unfoldable pub answer_bytes : Answer → List ℕ
answer_bytes (answer.Read (Some x) v) = (1 ∷ to_bytes 4 x) ++ vector_bytes v
answer_bytes (answer.Read None v) = replicate 5 0 ++ vector_bytes v
answer_bytes (answer.Written v) = vector_bytes v
answer_bytes answer.Done = []
