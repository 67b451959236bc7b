-- What calls answer, in document 01's numbers and values, and what every call on a server refuses first.
-- Assumes nothing.
use Rattle.std.specs.Prelude.{ℕ, List, [], ◌∷◌, ◌++◌, Bool, ◌||◌, not, ltb, eqb, length, Result, Ok, Err, Some, None}
use Rattle.std.proofs.Math.Option.{Option, none, some}
use Rattle.std.specs.Prelude.{Option as Maybe}
use Rattle.notes.specs.Reply.{Reply, done, refused, given}
use Rattle.notes.specs.Vector.{zeros}
use Rattle.rules.specs.Writes.{Vector, ServerId}
use Rattle.rules.specs.declared.answer.Answer.{Answer}
use Rattle.rules.specs.declared.answer.Answer.TheVariants as answer
use Rattle.rules.specs.declared.answer.Phones.{Phones}
use Rattle.notes.specs.declared.message.Refusal.{Refusal as Told}
use Rattle.notes.specs.declared.message.Refusal.TheVariants as told
use Rattle.rules.specs.Memory.{Memory}
use Rattle.rules.specs.Image.{history_size, image_size}
use Rattle.rules.specs.Sound.{sound}
pub use Rattle.rules.specs.declared.answer.Refusal.{Refusal}
pub use Rattle.rules.specs.declared.answer.Refusal.TheVariants.{OutOfRange, NotUp, NotYet, HistoryFull, LogFull, Unsound, Gap, OwnAhead, TooShort}

-- ---- refusals

abbrev pub refusal_number : Refusal → ℕ
refusal_number OutOfRange = 1
refusal_number NotUp = 2
refusal_number NotYet = 3
refusal_number HistoryFull = 4
refusal_number LogFull = 5
refusal_number Unsound = 6
refusal_number Gap = 7
refusal_number OwnAhead = 8
refusal_number TooShort = 9

abbrev pub refusal_reply : Refusal → Reply
refusal_reply r = refused (refusal_number r)

-- a refusal of the calls on messages and sessions, among these
abbrev pub of_message : Told → Refusal
of_message told.OutOfRange = OutOfRange
of_message told.Malformed = Unsound
of_message told.TooShort = TooShort

-- ---- the steps' answers. Which it is, the count of values tells: eight for a write, nine for "no note", ten for a value

-- the reply to a read: the value of the cell's winner, or "no note", with V
abbrev pub value_reply : ℕ → Vector → Reply
value_reply x v = done (1 ∷ x ∷ v.counts)

abbrev pub no_note_reply : Vector → Reply
no_note_reply v = done (0 ∷ v.counts)

-- the reply to a write is V
abbrev pub written_reply : Vector → Reply
written_reply v = done v.counts

-- updates, cuts and recoveries return only that they are done
abbrev pub done_reply : Reply
done_reply = done []

abbrev pub answer_reply : Answer → Reply
answer_reply (answer.Read (Some x) v) = value_reply x v
answer_reply (answer.Read None v) = no_note_reply v
answer_reply (answer.Written v) = written_reply v
answer_reply answer.Done = done_reply

-- V where the reply has it, and zeros elsewhere
abbrev pub answer_vector : Answer → Vector
answer_vector (answer.Read x v) = v
answer_vector (answer.Written v) = v
answer_vector answer.Done = zeros

-- ---- what a step answers and leaves

-- the vector is V where the reply has it, and zeros elsewhere
pub record Effect : Type 0 where
  pub reply : Reply
  pub vector : Vector
  pub after : Memory

abbrev pub replying : Reply → Vector → Memory → Effect
replying r v m = record { reply = r; vector = v; after = m }

abbrev pub finished : Memory → Effect
finished m = replying done_reply zeros m

-- what a step's answer and the memory after it are; a refusal has no vector
abbrev pub effect_of : Result Answer Refusal → Memory → Effect
effect_of (Ok a) m = replying (answer_reply a) (answer_vector a) m
effect_of (Err r) m = replying (refusal_reply r) zeros m

-- and of a step that answers only that it is done
abbrev pub plain_effect : {A : Type 0} → Result A Refusal → Memory → Effect
plain_effect (Ok a) m = finished m
plain_effect (Err r) m = replying (refusal_reply r) zeros m

-- a refusal returns its number only and changes nothing
abbrev pub unless : Option Refusal → Memory → Effect → Effect
unless none m e = e
unless (some r) m e = replying (refusal_reply r) zeros m

-- ---- the other calls' answers

-- tests pass, or give the first refusal
abbrev pub verdict_refusal : {A : Type 0} → Result A Refusal → Option Refusal
verdict_refusal (Ok a) = none
verdict_refusal (Err r) = some r

abbrev pub verdict_reply : {A : Type 0} → Result A Refusal → Reply
verdict_reply (Ok a) = done_reply
verdict_reply (Err r) = refusal_reply r

abbrev pub status_reply : Result (Maybe Phones) Refusal → Reply
status_reply (Ok None) = done (0 ∷ [])
status_reply (Ok (Some phones)) = done (phones.count ∷ phones.lowest.0 ∷ [])
status_reply (Err r) = refusal_reply r

-- how many bytes of the output were filled
abbrev pub message_reply : Result ℕ Refusal → Reply
message_reply (Ok k) = done (k ∷ [])
message_reply (Err r) = refusal_reply r

-- ---- what every call on a server refuses first: 9 for history and image, 6 for state, 2

-- a lent buffer too short
abbrev pub short : Memory → Bool
short m = ltb (length m.history) history_size || ltb (length m.image) image_size

abbrev pub judged : Memory → List (Option Refusal)
judged m = given (short m) TooShort ∷ given (not (sound m)) Unsound ∷ []

-- the head of each call's list, given whether the server is up where it must be down or down where it must be up
abbrev pub head : Memory → Bool → List (Option Refusal)
head m wrong = judged m ++ given wrong NotUp ∷ []

abbrev pub is_down : Memory → Bool
is_down m = not m.state.up

-- the event's server isn't the state's own
abbrev pub elsewhere : Memory → ServerId → Bool
elsewhere m j = not (eqb j.0 m.state.own.0)

abbrev pub here_refusals : Memory → ServerId → List (Option Refusal)
here_refusals m j = given (elsewhere m j) OutOfRange ∷ []
