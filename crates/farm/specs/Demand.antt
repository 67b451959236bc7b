-- Demand 3, and that a phone finds its own writes: what is claimed of every run that starts with empty servers, one to each number.
-- How to read it: `(x : A) → P` is "for every x of A, P"; `A → B` is "if A then B", `A → ⊥` "not A"; `x ≡ y` is "they are equal"; `r.field` is
-- a field of r, and `j.0` the number of server j; `w ∈ l` is "w, whole, stands in the list l"; `a ++ b` is "the list a, then b".
-- `f.servers j.0` is what server j has in memory and in its stored image.
-- Assumes nothing.
use Rattle.std.specs.Prelude.{ℕ, ◌≤◌, ◌<◌, Bool, true, false, ◌≡◌, length}
use mathlib.Core.List.{List, ◌++◌, Memᴰ}
use Rattle.notes.specs.Index.{servers}
use Rattle.notes.specs.declared.session.Choice.TheVariants.{Reads, Writes, Both}
use Rattle.rules.specs.declared.event.Request.TheVariants.{Read}
use Rattle.rules.specs.Memory.{writes}
use Rattle.rules.specs.Image.{history_size, image_size, checkpoint, log}
use Rattle.rules.specs.Sound.{later, sound}
use Rattle.farm.specs.Farm.{Choice, ServerId, Record, Rule, Asked, Attempt, Farm, new_farm, performed_by, attempted, are_bytes, Done, Act, serve, serving, recover, recovering, run}

infix 45 ◌∈◌
abbrev pub ◌∈◌ : {A : Type 0} → A → List A → Type 0
x ∈ l = Memᴰ x l

-- a buffer that is lent: bytes, and enough of them
pub record Lent (buffer : List ℕ) (size : ℕ) : Type 0 where
  pub room : size ≤ length buffer
  pub bytes : are_bytes buffer ≡ true

-- "Start with empty servers, one to each number. Take requests, replies, updates, cuts after any single store, and recoveries in any
-- order; messages may be lost, repeated or late, never forged; images survive." A farm of up to eight servers, as a list of acts leaves it
pub record Reached (rule : Rule) (n : ℕ) (f : Farm) : Type 0 where
  pub few : n ≤ servers
  pub histories : ℕ → List ℕ
  pub images : ℕ → List ℕ
  pub lent_histories : (j : ℕ) → Lent (histories j) history_size
  pub lent_images : (j : ℕ) → Lent (images j) image_size
  pub acts : List Act
  pub here : f ≡ run rule (new_farm n histories images) acts

-- ---- no server falls silent: each is sound, up or down (who is not sound is refused every step)
abbrev pub AllSound : Rule → ℕ → Farm → Type 0
AllSound rule n f = (j : ServerId) → j.0 < n → sound (f.servers j.0) ≡ true

-- ---- "Then a recovered server ..", whatever history it is lent
pub record Recovered (rule : Rule) (f : Farm) (j : ServerId) (history : List ℕ) : Type 0 where
  -- (it recovers: it is not refused, and then is up)
  pub done : Done (recover rule f j history)
  pub up : (recover rule f j history).after.state.up ≡ true
  -- ".. holds its checkpoint's writes and after them its later logged ones, .."
  pub holds :
      let image = (f.servers j.0).image in
      writes (recover rule f j history).after ≡ checkpoint image ++ later j (checkpoint image) (log image)
  -- ".. with none missing that it had numbered and performed": the record of every write request that it ever served
  pub none_missing : (a : Attempt) → a ∈ f.ledger.performed j.0 → (w : Record) → w ∈ attempted a → w ∈ performed_by (recovering rule f j history) j

-- every server that is down recovers
abbrev pub Recovery : Rule → ℕ → Farm → Type 0
Recovery rule n f =
    (j : ServerId)
    → j.0 < n
    → (f.servers j.0).state.up ≡ false
    → (history : List ℕ)
    → Lent history history_size
    → Recovered rule f j history

-- ---- and whatever happens: an own write that stands in a server's history stands there whenever the server is up again, one that
-- a recovery brought back among them
abbrev pub OwnStay : Rule → ℕ → Farm → Type 0
OwnStay rule n f =
    (acts : List Act) (j : ServerId)
    → j.0 < n
    → (f.servers j.0).state.up ≡ true
    → ((run rule f acts).servers j.0).state.up ≡ true
    → (w : Record)
    → w.origin.0 ≡ j.0
    → w ∈ performed_by f j
    → w ∈ performed_by (run rule f acts) j

-- ---- what a read served finds performed, in the memory that it leaves: each of these writes, where the session chose so
abbrev pub Finds : (Choice → Bool) → (Asked → List Record) → Rule → ℕ → Farm → Type 0
Finds chosen these rule n f =
    (q : Asked) (cell : ℕ) (j : ServerId)
    → q ∈ f.sent.requests
    → q.request ≡ Read cell
    → chosen q.choice ≡ true
    → Done (serve rule f j q)
    → (w : Record)
    → w ∈ these q
    → w ∈ performed_by (serving rule f j q) j

-- "Each read served finds performed every write that stood in any server's history when that server served a read whose reply that
-- phone's session had received before asking". Reads under 2 are outside this sentence
abbrev pub stays_read : Choice → Bool
stays_read Reads = true
stays_read Writes = false
stays_read Both = true

abbrev pub ReadsStay : Rule → ℕ → Farm → Type 0
ReadsStay = Finds stays_read (λ q. q.seen)

-- and CR 3's own sentence, of the same runs: each read served under 2 or 3 finds performed every write whose reply that session had
-- received before asking
abbrev pub finds_own : Choice → Bool
finds_own Reads = false
finds_own Writes = true
finds_own Both = true

abbrev pub OwnFound : Rule → ℕ → Farm → Type 0
OwnFound = Finds finds_own (λ q. q.wrote)

-- ---- all of demand 3
pub record Demand3 (rule : Rule) (n : ℕ) (f : Farm) : Type 0 where
  pub all_sound : AllSound rule n f
  pub recovery : Recovery rule n f
  pub own_stay : OwnStay rule n f
  pub reads_stay : ReadsStay rule n f

-- a wrong rule is excluded by a clause that fails in some run of it
pub record Excluded (rule : Rule) (Clause : Rule → ℕ → Farm → Type 0) : Type 0 where
  pub n : ℕ
  pub farm : Farm
  pub reached : Reached rule n farm
  pub fails : Clause rule n farm → ⊥
