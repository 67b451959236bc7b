-- Laws of a request's reply: what is told where it has no room, and what a read's reply has.
-- Assumes nothing.
use Prim.Native.Nat.{ℕ, ◌+◌, ◌≤◌, ◌<◌}
use mathlib.Core.Bool.{Bool, true, false, cond}
use mathlib.Core.List.{List, [], ◌∷◌, ◌++◌}
use mathlib.Core.Option.{Option, none, some}
use mathlib.Core.Path.{◌≡◌, refl, ap, sym, ◌∙◌, subst}
use native.Mathlib.Omega.{arith}
use lib.Dec.{eqb}
use lib.ListN.{length, get_or, replicate, length-append}
use lib.Seq.{sets}
use Rattle.std.specs.Prelude.{Ok, Err, Some, None}
use Rattle.std.specs.Prelude.{Option as Maybe}
use Rattle.std.specs.Int.{from_bool}
use Rattle.std.specs.Option.{is_some, unwrap_or}
use Rattle.notes.specs.Bytes.{to_bytes}
use Rattle.notes.specs.Index.{servers}
use Rattle.notes.specs.Vector.{vector_from, vector_bytes}
use Rattle.notes.specs.Reply.{first}
use Rattle.notes.specs.declared.index.PhoneId.{PhoneId}
use Rattle.notes.specs.declared.record.Record.{Record}
use Rattle.notes.specs.declared.vector.Vector.{Vector}
use Rattle.notes.proofs.Lists.{sets-append, sets-front}
use Rattle.notes.proofs.Vectors.{length-vector_bytes}
use Rattle.rules.specs.declared.answer.Answer.{Answer}
use Rattle.rules.specs.declared.answer.Answer.TheVariants as answer
use Rattle.rules.specs.declared.answer.Refusal.{Refusal}
use Rattle.rules.specs.declared.event.Request.{Request}
use Rattle.rules.specs.declared.event.Request.TheVariants.{Read, Write}
use Rattle.rules.specs.declared.event.What.TheVariants as what
use Rattle.rules.specs.declared.state.State.{State}
use Rattle.rules.specs.Answer.{Effect, refusal_number, answer_reply, answer_vector, written_reply, effect_of, unless}
use Rattle.rules.specs.Memory.{Memory, memory, writes}
use Rattle.rules.specs.Request.{value_of, reply_to, served, request_refusals, request}
use Rattle.rules.specs.Step.{step}
use Rattle.rules.specs.Writes.{server, winner}
use Rattle.laws.proofs.Unique.{answers-known}
use Rattle.laws.proofs.Outcomes.{refusal-number, served-number}
use Rattle.laws.proofs.One.{happens-eight}
use Rattle.ssaldorip.specs.Calls.{block_of, vector_size, read_size, Lent, lent, called, onto, memory_of, call, happening, read_bytes}
use Rattle.ssaldorip.specs.Forms.{reply_size, reply_bytes, answer_size, answer_bytes, state_told, vector_told}
use Rattle.ssaldorip.proofs.Called.{read_of, carried_of, call-refused, call-short, answer-number, step_refused, step_done}

-- ---- a reply's bytes, by its answer
module _ (a : Answer) (m : Memory) (eight : length (answer_vector a).counts ≡ servers) where
  abbrev v : Vector
  v = answer_vector a

  abbrev e : Effect
  e = effect_of (Ok a) m

  -- an answer is known by its reply
  known : (b : Answer) → answer_vector b ≡ v → answer_reply a ≡ answer_reply b → a ≡ b
  known b w r = answers-known a b (omega arith) r (sym w)

  read-bytes : (w : Option Record) → answer_reply a ≡ value_of w v → answer_bytes a ≡ read_bytes (answer_reply a) v
  unfolding answer_bytes to_bytes
  read-bytes none p = subst (λ (b : Answer). answer_bytes b ≡ read_bytes (answer_reply b) (answer_vector b)) (sym (known (answer.Read None v) refl p)) refl
  read-bytes (some r) p =
      subst (λ (b : Answer). answer_bytes b ≡ read_bytes (answer_reply b) (answer_vector b)) (sym (known (answer.Read (Some r.value) v) refl p)) refl

  served-bytes : (q : Request) (x : Memory) → v ≡ x.state.vector → answer_reply a ≡ reply_to q x → answer_bytes a ≡ reply_bytes q e
  unfolding reply_to answer_bytes
  served-bytes (Read cell) x s p = let w = winner cell (writes x) in read-bytes w (p ∙ ap (value_of w) (sym s))
  served-bytes (Write cell value time) x s p =
      ap answer_bytes (known (answer.Written v) refl (p ∙ ap written_reply (sym s)))

  told-bytes : (q : Request) (n : Memory) (i : PhoneId) (r : Option Refusal) → e ≡ unless r n (served n i q) → answer_bytes a ≡ reply_bytes q e
  unfolding served
  told-bytes q n i (some k) p = absurd (refusal-number k (sym (ap (λ (x : Effect). x.reply.number) p) ∙ answer-number a))
  told-bytes q n i none p =
      served-bytes q (served n i q).after (ap (λ (x : Effect). x.vector) p) (ap (λ (x : Effect). x.reply) p)

  length-answer : length (answer_bytes a) ≡ answer_size a
  unfolding answer_bytes to_bytes
  length-answer = go a eight
    where
      go : (b : Answer) → length (answer_vector b).counts ≡ servers → length (answer_bytes b) ≡ answer_size b
      go (answer.Read (Some x) w) h = omega (arith, length-vector_bytes w h)
      go (answer.Read None w) h = omega (arith, length-vector_bytes w h)
      go (answer.Written w) h = length-vector_bytes w h
      go answer.Done h = refl

  length-reply : (q : Request) → length (reply_bytes q e) ≡ reply_size q
  unfolding to_bytes
  length-reply (Read cell) = rw length-append (go (eqb (get_or e.reply.values 0 0) 1))
    where
      go : (b : Bool) → length (cond b (1 ∷ to_bytes 4 (get_or e.reply.values 1 0)) (replicate 5 0)) + length (vector_bytes v) ≡ read_size
      go true = omega (arith, length-vector_bytes v eight)
      go false = omega (arith, length-vector_bytes v eight)
  length-reply (Write cell value time) = length-vector_bytes v eight

-- ---- a request of the server in a block, with the vector in its bytes
module _ (j : ℕ) (i : PhoneId) (q : Request) (b : List ℕ) (l : Lent) (s : State) (w : Vector) (read : state_told l.state ≡ Ok s) (carried : vector_told b ≡ Ok w) where
  abbrev asks : Memory → Effect
  asks = happening j (what.Request i q) (vector_from b) []

  abbrev from : Memory
  from = memory s l.history l.image

  abbrev rows : Option Refusal
  rows = first (request_refusals from (server j) i q w)

  same_rows : unless rows from (served from i q) ≡ asks (memory_of l)
  unfolding step request
  same_rows =
      ap (λ (x : State). request (memory x l.history l.image) (server j) i q w) (read_of l s read).state
      ∙ ap (request (memory_of l) (server j) i q) (carried_of b w carried).vector

  -- a reply with no room: a refusal is told first
  pub lacks_refused :
      (k : Refusal)
      → some k ≡ rows
      → called (refusal_number k) l ≡ call (length b) (reply_size q) asks (reply_bytes q) l
  lacks_refused k e =
      let number : (asks (memory_of l)).reply.number ≡ refusal_number k = ap (λ (x : Effect). x.reply.number) (sym same_rows ∙ ap (λ (r : Option Refusal). unless r from (served from i q)) (sym e)) in
      let no0 : (asks (memory_of l)).reply.number ≡ 0 → ⊥ = (λ z. refusal-number k (sym number ∙ z)) in
      rw (← number) (sym (call-refused (length b) (reply_size q) asks (reply_bytes q) l (read_of l s read).long (carried_of b w carried).full no0))

  pub lacks_room :
      none ≡ rows
      → length l.reply < reply_size q
      → called 9 l ≡ call (length b) (reply_size q) asks (reply_bytes q) l
  lacks_room e lacks =
      let done : (asks (memory_of l)).reply.number ≡ 0 = ap (λ (x : Effect). x.reply.number) (sym same_rows ∙ ap (λ (r : Option Refusal). unless r from (served from i q)) (sym e)) ∙ served-number from i q in
      sym (call-short (length b) (reply_size q) asks (reply_bytes q) l (read_of l s read).long (carried_of b w carried).full done lacks)

  module _ (m : Memory) where
    pub request_refused :
        (k : Refusal)
        → effect_of (Err k) m ≡ request from (server j) i q w
        → called (refusal_number k) (lent l.state m.history m.image l.reply) ≡ call (length b) (reply_size q) asks (reply_bytes q) l
    unfolding step
    request_refused k is = step_refused j (what.Request i q) b [] (reply_size q) (reply_bytes q) l s w read carried k m is

    module _ (a : Answer) (is : effect_of (Ok a) m ≡ request from (server j) i q w) where
      eight : length (answer_vector a).counts ≡ servers
      eight = ap (λ (x : Effect). length x.vector.counts) is ∙ happens-eight from w [] (server j) (what.Request i q)

      bytes_told : answer_bytes a ≡ reply_bytes q (effect_of (Ok a) m)
      unfolding request
      bytes_told = told-bytes a m eight q from i rows is

      pub reply_fits : (r : List ℕ) → reply_size q ≤ length r → answer_size a ≤ length r
      reply_fits r room =
          let told : length (answer_bytes a) ≡ reply_size q = rw bytes_told (length-reply a m eight q) in
          omega (arith, told, length-answer a m eight)

      pub request_done :
          reply_size q ≤ length l.reply
          → called 0 (lent (onto (block_of m.state) l.state) m.history m.image (onto (answer_bytes a) l.reply)) ≡ call (length b) (reply_size q) asks (reply_bytes q) l
      unfolding step
      request_done room = rw bytes_told (step_done j (what.Request i q) b [] (reply_size q) (reply_bytes q) l s w read carried a m is room)

-- ---- a reply stored number by number: its mark and the value, or zeros, and then V
read-front : (value : Maybe ℕ) → List ℕ
read-front value = to_bytes 1 (from_bool (is_some value)) ++ to_bytes 4 (unwrap_or value 0)

read-whole : (value : Maybe ℕ) (v : Vector) → answer_bytes (answer.Read value v) ≡ read-front value ++ vector_bytes v
unfolding answer_bytes read-front to_bytes
read-whole None v = refl
read-whole (Some x) v = refl

pub read_stored :
    (value : Maybe ℕ) (v : Vector) (l : List ℕ)
    → length v.counts ≡ servers
    → read_size ≤ length l
    → sets (sets (sets l 0 (to_bytes 1 (from_bool (is_some value)))) 1 (to_bytes 4 (unwrap_or value 0))) 5 (vector_bytes v) ≡ onto (answer_bytes (answer.Read value v)) l
unfolding read-front to_bytes
read_stored value v l eight room =
    let front = read-front value in
    rw (read-whole value v)
    (sym (sets-append l front (vector_bytes v) 0)
    ∙ sets-front (front ++ vector_bytes v) l (length (front ++ vector_bytes v)) refl (omega (arith, length-append front (vector_bytes v), length-vector_bytes v eight)))

pub written_stored :
    (v : Vector) (l : List ℕ)
    → length v.counts ≡ servers
    → vector_size ≤ length l
    → sets l 0 (vector_bytes v) ≡ onto (answer_bytes (answer.Written v)) l
unfolding answer_bytes
written_stored v l eight room =
    sets-front (vector_bytes v) l (length (vector_bytes v)) refl (omega (arith, length-vector_bytes v eight))
