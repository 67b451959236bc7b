-- What is claimed of every run beside demand 3: nothing is made up, what a read shows, names, and who is told 6, 7 and 8.
-- Assumes nothing.
use Rattle.std.specs.Prelude.{ℕ, ◌<◌, true, false, List, ◌++◌, ◌≡◌}
use Rattle.notes.specs.Message.{brought, message_sender}
use Rattle.notes.specs.Record.{number, beats}
use Rattle.notes.specs.Vector.{zeros}
use Rattle.notes.specs.declared.session.Choice.TheVariants.{Reads, Writes, Both}
use Rattle.rules.specs.declared.event.Request.TheVariants.{Read}
use Rattle.rules.specs.declared.event.What.TheVariants as what
use Rattle.rules.specs.Answer.{value_reply, no_note_reply}
use Rattle.rules.specs.Step.{step}
use Rattle.farm.specs.Farm.{Choice, ServerId, Record, Rule, Vector, What, Effect, Asked, Attempt, Farm, performed_by, attempted, Done, Act, step_at, serve, serving, run}
use Rattle.farm.specs.Demand.{◌∈◌}

-- where writes stand: in the history of a server that is up, and in a message in flight
pub data Standing (n : ℕ) (f : Farm) : List Record → Type 0 where
  in_history : (j : ServerId) → j.0 < n → (f.servers j.0).state.up ≡ true → Standing n f (performed_by f j)
  in_message : (msg : List ℕ) → msg ∈ f.sent.updates → Standing n f (brought msg)

-- ---- nothing is made up

-- a write is, whole, with its number and T, the record that document 01 gives a request that a phone had asked and that a server had
-- begun, in the memory that it then had
pub record Begun (requests : List Asked) (begun : List Attempt) (w : Record) : Type 0 where
  pub attempt : Attempt
  pub listed : attempt ∈ begun
  pub asked : attempt.asked ∈ requests
  pub gives : w ∈ attempted attempt

-- each write that stands anywhere, its origin had begun
abbrev pub NothingMadeUp : ℕ → Farm → Type 0
NothingMadeUp n f =
    (h : List Record) → Standing n f h → (w : Record) → w ∈ h → Begun f.sent.requests (f.ledger.begun w.origin.0) w

-- ---- what a read shows: the value of a write to the cell in that history which no write to the cell that it must find beats, and "no
-- note" only if it must find none. What was read, or written, never goes back to an older note

-- what a read must find: under 1 what its session has seen, under 2 what it has written, under 3 both
unfoldable pub owed_by : Choice → List Record → List Record → List Record
owed_by Reads seen wrote = seen
owed_by Writes seen wrote = wrote
owed_by Both seen wrote = wrote ++ seen

abbrev pub owed : Asked → List Record
owed q = owed_by q.choice q.seen q.wrote

pub data Shows (q : Asked) (cell : ℕ) (history : List Record) (e : Effect) : Type 0 where
  value :
      (x : Record)
      → x ∈ history
      → x.cell ≡ cell
      → e.reply ≡ value_reply x.value e.vector
      → ((w : Record) → w ∈ owed q → w.cell ≡ cell → beats w x ≡ false)
      → Shows q cell history e
  no_note :
      e.reply ≡ no_note_reply e.vector
      → ((w : Record) → w ∈ owed q → w.cell ≡ cell → ⊥)
      → Shows q cell history e

abbrev pub ReadsShow : Rule → ℕ → Farm → Type 0
ReadsShow rule n f =
    (q : Asked) (cell : ℕ) (j : ServerId)
    → q ∈ f.sent.requests
    → q.request ≡ Read cell
    → Done (serve rule f j q)
    → Shows q cell (performed_by (serving rule f j q) j) (serve rule f j q)

-- ---- an origin and a number name one write, now and in all that follows
abbrev pub OneName : ℕ → Farm → Type 0
OneName n f =
    (acts : List Act) (h g : List Record)
    → Standing n f h
    → Standing n (run step f acts) g
    → (w x : Record)
    → w ∈ h
    → x ∈ g
    → w.origin.0 ≡ x.origin.0
    → number w ≡ number x
    → w ≡ x

-- ---- a server is told 6 only of its own message, and never 7 or 8
pub record Welcome (n : ℕ) (f : Farm) (j : ServerId) : Type 0 where
  pub not_six : (w : What) (v : Vector) (msg : List ℕ) → (w ≡ what.Update → ⊥) → (step_at step f j w v msg).reply.number ≡ 6 → ⊥
  pub six_its_own : (msg : List ℕ) → msg ∈ f.sent.updates → (step_at step f j what.Update zeros msg).reply.number ≡ 6 → (message_sender msg).0 ≡ j.0
  pub not_seven : (msg : List ℕ) → msg ∈ f.sent.updates → (step_at step f j what.Update zeros msg).reply.number ≡ 7 → ⊥
  pub not_eight : (msg : List ℕ) → msg ∈ f.sent.updates → (step_at step f j what.Update zeros msg).reply.number ≡ 8 → ⊥
