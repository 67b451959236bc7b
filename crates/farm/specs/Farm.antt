-- A farm: its servers, its phones and all that was ever sent between them; and what can happen on it, one thing after the other.
-- Assumes nothing.
use Rattle.std.specs.Prelude.{ℕ, cond, Bool, true, ◌&&◌, List, [], ◌∷◌, ◌++◌, ◌≡◌, eqb, ltb, get_or, take}
use Rattle.std.proofs.Math.Option.{Option, none, some}
use Rattle.std.proofs.Math.ListN.{get_elem?}
use Rattle.notes.specs.Lists.{every}
use Rattle.notes.specs.Session.{new_session, read_carries, write_carries, after_read, after_write}
use Rattle.notes.specs.declared.session.Session.{Session}
use Rattle.notes.specs.declared.session.Choice.TheVariants.{Reads}
use Rattle.notes.specs.declared.index.PhoneId.{PhoneId}
use Rattle.notes.specs.Vector.{zeros}
use Rattle.notes.specs.Reply.{Reply}
pub use Rattle.notes.specs.declared.session.Choice.{Choice}
pub use Rattle.notes.specs.declared.index.ServerId.{ServerId}
pub use Rattle.notes.specs.declared.record.Record.{Record}
pub use Rattle.notes.specs.declared.vector.Vector.{Vector}
use Rattle.rules.specs.Request.{new_record}
use Rattle.rules.specs.declared.event.Request.{Request}
use Rattle.rules.specs.declared.event.Request.TheVariants.{Read, Write}
use Rattle.rules.specs.Memory.{Memory, with_history, writes}
use Rattle.rules.specs.Writes.{server}
use Rattle.rules.specs.Calls.{start, message}
use Rattle.rules.specs.declared.event.What.TheVariants as what
pub use Rattle.rules.specs.Answer.{Effect}
pub use Rattle.rules.specs.Step.{Rule}
pub use Rattle.rules.specs.declared.event.What.{What}

-- ---- what is in flight stays there: it may be lost, late or repeated

-- a request and the vector that it carries; its phone's session: what it chose, and the writes that it had seen and those that it had
-- written before asking
pub record Asked : Type 0 where
  pub phone : PhoneId
  pub request : Request
  pub vector : Vector
  pub choice : Choice
  pub seen : List Record
  pub wrote : List Record

-- the reply to a request that was served, the writes that stood in the server's history as it was served, before and after, and the
-- write that it was served with, if it was a write's
pub record Replied : Type 0 where
  pub phone : PhoneId
  pub request : Request
  pub vector : Vector
  pub history : List Record
  pub wrote : List Record

-- requests, replies and updates, the last first
pub record Sent : Type 0 where
  pub requests : List Asked
  pub replies : List Replied
  pub updates : List (List ℕ)

-- ---- phones, servers

-- a session; the writes seen: those that stood in a server's history as it served a read whose reply the session has received; and
-- the writes written: those whose own reply it has received
pub record Phone : Type 0 where
  pub session : Session
  pub seen : List Record
  pub wrote : List Record

-- a request that a server began to perform, and its memory before
pub record Attempt : Type 0 where
  pub asked : Asked
  pub before : Memory

-- which requests each server has performed, and which it began: for what is stated of them only
pub record Ledger : Type 0 where
  pub performed : ℕ → List Attempt
  pub begun : ℕ → List Attempt

pub record Farm : Type 0 where
  pub servers : ℕ → Memory
  pub phones : ℕ → Phone
  pub sent : Sent
  pub ledger : Ledger

-- the writes that a server has performed and that stand in its history
abbrev pub performed_by : Farm → ServerId → List Record
performed_by f j = writes (f.servers j.0)

-- a new session begins at zero
abbrev pub installed : Choice → Phone
installed c = record { session = new_session c; seen = []; wrote = [] }

-- N servers, each started anew in its lent buffers; nothing was sent. Phones begin under choice 1: another begins with `reinstalls`
unfoldable pub new_farm : ℕ → (ℕ → List ℕ) → (ℕ → List ℕ) → Farm
new_farm n histories images =
    record {
      servers = λ j. (start n (server j) (histories j) (images j)).after;
      phones = λ i. installed Reads;
      sent = record { requests = []; replies = []; updates = [] };
      ledger = record { performed = λ j. []; begun = λ j. [] };
    }

-- with another value at a number
abbrev pub changed : {A : Type 0} → (ℕ → A) → ℕ → A → ℕ → A
changed f k a i = cond (eqb i k) a (f i)

-- ---- what can happen

-- requests, replies and updates are named by their place among those in flight, the last has place 0; an act that names nothing,
-- or that the server refuses, changes nothing. `stores` is how many a cut leaves. A cut loses what is in memory: a recovery is
-- lent another history, of any bytes
pub data Act : Type 0 where
  asks : (i : PhoneId) (q : Request) → Act
  serves : (request : ℕ) (j : ServerId) → Act
  cut_serving : (request : ℕ) (j : ServerId) (stores : ℕ) → Act
  cuts : (j : ServerId) → Act
  recovers : (j : ServerId) (history : List ℕ) → Act
  tells : (j : ServerId) (out : List ℕ) → Act
  takes : (update : ℕ) (j : ServerId) → Act
  hears : (reply : ℕ) → Act
  reinstalls : (i : PhoneId) (choice : Choice) → Act

-- ---- a phone

-- value and phone time are numbers of four bytes
abbrev pub askable : Request → Bool
askable (Read cell) = true
askable (Write cell value time) = ltb value 4294967296 && ltb time 4294967296

abbrev pub carries : Session → Request → Vector
carries s (Read cell) = read_carries s
carries s (Write cell value time) = write_carries s

-- a request carries the session's vector as of asking
unfoldable pub asking : Farm → PhoneId → Request → Asked
asking f i q =
    let p = f.phones i.0 in
    record { phone = i; request = q; vector = carries p.session q; choice = p.session.choice; seen = p.seen; wrote = p.wrote }

unfoldable pub hearing : Phone → Replied → Request → Phone
hearing p r (Read cell) = record { session = after_read p.session r.vector; seen = r.history ++ p.seen; wrote = p.wrote }
hearing p r (Write cell value time) = record { session = after_write p.session r.vector; seen = p.seen; wrote = r.wrote ++ p.wrote }

abbrev pub with_phone : Farm → PhoneId → Phone → Farm
with_phone f i p = record { servers = f.servers; phones = changed f.phones i.0 p; sent = f.sent; ledger = f.ledger }

abbrev pub with_sent : Farm → Sent → Farm
with_sent f s = record { servers = f.servers; phones = f.phones; sent = s; ledger = f.ledger }

abbrev pub with_request : Farm → Asked → Farm
with_request f q =
    let s = f.sent in
    with_sent f (record { requests = q ∷ s.requests; replies = s.replies; updates = s.updates })

-- ---- a server

-- not refused
abbrev pub Done : Effect → Type 0
Done e = e.reply.number ≡ 0

abbrev pub is_done : Reply → Bool
is_done r = eqb r.number 0

abbrev pub if_done : {A : Type 0} → Reply → A → List A → List A
if_done r x l = cond (is_done r) (x ∷ l) l

-- the server's memory is what the step leaves
abbrev pub stepped : Farm → ServerId → Effect → Sent → Ledger → Farm
stepped f j e s t = record { servers = changed f.servers j.0 e.after; phones = f.phones; sent = s; ledger = t }

-- a step that is no request's
abbrev pub plainly : Farm → ServerId → Effect → Farm
plainly f j e = stepped f j e f.sent f.ledger

-- one more at a number, unless refused
abbrev pub also : {A : Type 0} → Reply → (ℕ → List A) → ServerId → A → ℕ → List A
also r l j x = changed l j.0 (if_done r x (l j.0))

abbrev pub attempt : Farm → ServerId → Asked → Attempt
attempt f j q = record { asked = q; before = f.servers j.0 }

-- the record that document 01 gives a write's request in that memory
unfoldable pub record_of : Memory → PhoneId → Request → List Record
record_of m i (Read cell) = []
record_of m i (Write cell value time) = new_record m i cell value time ∷ []

abbrev pub attempted : Attempt → List Record
attempted a = record_of a.before a.asked.phone a.asked.request

-- the bytes that the server's own-message call gives
unfoldable pub telling : Farm → ServerId → List ℕ → Farm
telling f j out =
    let t = message (f.servers j.0) out in
    let msg = take (get_or t.reply.values 0 0) t.output in
    let s = f.sent in
    with_sent f (record { requests = s.requests; replies = s.replies; updates = if_done t.reply msg s.updates })

-- ---- either, where what it names is in flight

abbrev pub in_flight : {A : Type 0} → Option A → Farm → (A → Farm) → Farm
in_flight none f next = f
in_flight (some a) f next = next a

-- the bytes of a buffer
unfoldable pub are_bytes : List ℕ → Bool
are_bytes l = every (λ b. ltb b 256) l

-- ---- what its servers do is a parameter: `step` of the rules, on bytes, or a wrong rule that is held to the same statements
module _ (rule : Rule) where
  unfoldable pub step_at : Farm → ServerId → What → Vector → List ℕ → Effect
  step_at f j w v msg = rule (f.servers j.0) (record { server = j; what = w }) v msg

  abbrev pub serve : Farm → ServerId → Asked → Effect
  serve f j q = step_at f j (what.Request q.phone q.request) q.vector []

  unfoldable pub serving : Farm → ServerId → Asked → Farm
  serving f j q =
      let e = serve f j q in
      let a = attempt f j q in
      let r : Replied = record { phone = q.phone; request = q.request; vector = e.vector; history = performed_by f j ++ writes e.after; wrote = attempted a } in
      let s = f.sent in
      let t = f.ledger in
      stepped f j e
      (record { requests = s.requests; replies = if_done e.reply r s.replies; updates = s.updates })
      (record { performed = also e.reply t.performed j a; begun = also e.reply t.begun j a })

  unfoldable pub serving_cut : Farm → ServerId → Asked → ℕ → Farm
  serving_cut f j q k =
      let e = step_at f j (what.RequestCut q.phone q.request k) q.vector [] in
      let t = f.ledger in
      stepped f j e f.sent (record { performed = t.performed; begun = also e.reply t.begun j (attempt f j q) })

  -- lent a history of any bytes
  unfoldable pub recover : Farm → ServerId → List ℕ → Effect
  recover f j history = rule (with_history history (f.servers j.0)) (record { server = j; what = what.Recovery }) zeros []

  unfoldable pub recovering : Farm → ServerId → List ℕ → Farm
  recovering f j history =
      let e = recover f j history in
      cond (are_bytes history && is_done e.reply) (plainly f j e) f

  unfoldable pub act : Farm → Act → Farm
  act f (asks i q) = cond (askable q) (with_request f (asking f i q)) f
  act f (serves k j) = in_flight (get_elem? f.sent.requests k) f (λ q. serving f j q)
  act f (cut_serving k j stores) = in_flight (get_elem? f.sent.requests k) f (λ q. serving_cut f j q stores)
  act f (cuts j) = plainly f j (step_at f j what.Cut zeros [])
  act f (recovers j history) = recovering f j history
  act f (tells j out) = telling f j out
  act f (takes k j) = in_flight (get_elem? f.sent.updates k) f (λ msg. plainly f j (step_at f j what.Update zeros msg))
  act f (hears k) = in_flight (get_elem? f.sent.replies k) f (λ r. with_phone f r.phone (hearing (f.phones r.phone.0) r r.request))
  act f (reinstalls i c) = with_phone f i (installed c)

  -- a run
  unfoldable pub run : Farm → List Act → Farm
  run f [] = f
  run f (a ∷ acts) = run (act f a) acts
