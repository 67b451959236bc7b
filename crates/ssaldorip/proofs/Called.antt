-- Laws of a call: what it answers and leaves in each of its cases.
-- Assumes nothing.
use Prim.Native.Nat.{ℕ, ◌≤◌, ◌<◌}
use mathlib.Core.Bool.{Bool, true, false, cond, or-true}
use mathlib.Core.List.{List}
use mathlib.Core.Path.{◌≡◌, refl, ap, sym, ◌∙◌}
use native.Mathlib.Omega.{arith}
use borrow.Author.Tests.{lt-ltb, le-ltb, ltb-true, ltb-false, eq-eqb, ne_eqb}
use lib.Dec.{ltb}
use lib.ListN.{length, replicate}
use Rattle.std.specs.Prelude.{Ok, Err, Some, None}
use Rattle.notes.specs.Bytes.{from_bytes, pieces}
use Rattle.notes.specs.Vector.{zeros, vector_from}
use Rattle.notes.specs.declared.index.ServerId.{ServerId}
use Rattle.notes.specs.declared.vector.Vector.{Vector}
use Rattle.rules.specs.declared.answer.Answer.{Answer}
use Rattle.rules.specs.declared.answer.Answer.TheVariants as answer
use Rattle.rules.specs.declared.answer.Refusal.{Refusal}
use Rattle.rules.specs.declared.answer.Refusal.TheVariants.{TooShort}
use Rattle.rules.specs.declared.event.What.{What}
use Rattle.rules.specs.declared.state.State.{State}
use Rattle.rules.specs.Answer.{Effect, refusal_number, answer_reply, finished, effect_of}
use Rattle.rules.specs.Calls.{fresh, no_server, start_refusal, start_effect, start}
use Rattle.rules.specs.Memory.{Memory, memory}
use Rattle.rules.specs.Step.{step}
use Rattle.rules.specs.Writes.{server}
use Rattle.laws.proofs.Outcomes.{refusal-number, refused-same}
use Rattle.laws.proofs.Passed.{unless-either}
use Rattle.ssaldorip.specs.Calls.{block_size, block_of, state_of, vector_size, Lent, Called, lent, called, onto, leaves, memory_of, call, happening, no_reply, plainly}
use Rattle.ssaldorip.specs.Forms.{state_told, vector_told}

-- ---- what is lent, and is long enough or told to be too short

pub record Read (l : Lent) (s : State) : Type 0 where
  pub long : block_size ≤ length l.state
  pub state : s ≡ state_of l.state

pub read_of : (l : Lent) (s : State) → state_told l.state ≡ Ok s → Read l s
read_of l s e = go (ltb (length l.state) block_size) refl e
  where
    go : (b : Bool) → ltb (length l.state) block_size ≡ b → cond b (Err TooShort) (Ok (state_of l.state)) ≡ Ok s → Read l s
    go true p e = cc
    go false p e = record { long = ltb-false (length l.state) block_size p; state = cc }

pub record Carried (b : List ℕ) (w : Vector) : Type 0 where
  pub full : vector_size ≤ length b
  pub vector : w ≡ vector_from b

pub carried_of : (b : List ℕ) (w : Vector) → vector_told b ≡ Ok w → Carried b w
carried_of b w e = go (ltb (length b) vector_size) refl e
  where
    go : (t : Bool) → ltb (length b) vector_size ≡ t → cond t (Err TooShort) (Ok (vector_from b)) ≡ Ok w → Carried b w
    go true p e = cc
    go false p e = record { full = ltb-false (length b) vector_size p; vector = cc }

module _ (v size : ℕ) (f : Memory → Effect) (bytes : Effect → List ℕ) (l : Lent) where
  abbrev e : Effect
  e = f (memory_of l)

  pub short-state : length l.state < block_size → called 9 l ≡ call v size f bytes l
  unfolding call
  short-state h = rw (lt-ltb (length l.state) block_size h)

  pub short-vector : v < vector_size → called 9 l ≡ call v size f bytes l
  unfolding call
  short-vector h = rw (lt-ltb v vector_size h, or-true)

  pub state_lacks : (r : Refusal) → state_told l.state ≡ Err r → called (refusal_number r) l ≡ call v size f bytes l
  state_lacks r e = go (ltb (length l.state) block_size) refl e
    where
      go :
          (b : Bool)
          → ltb (length l.state) block_size ≡ b
          → cond b (Err TooShort) (Ok (state_of l.state)) ≡ Err r
          → called (refusal_number r) l ≡ call v size f bytes l
      go true p e =
          let same : TooShort ≡ r = cc in
          ap (λ (k : Refusal). called (refusal_number k) l) (sym same) ∙ short-state (ltb-true (length l.state) block_size p)
      go false p e = cc

  module _ (long : block_size ≤ length l.state) (full : vector_size ≤ v) where
    pub call-refused : (e.reply.number ≡ 0 → ⊥) → call v size f bytes l ≡ called e.reply.number l
    unfolding call
    call-refused p =
        rw (le-ltb (length l.state) block_size long, le-ltb v vector_size full, ne_eqb e.reply.number 0 p)

    pub call-short : e.reply.number ≡ 0 → length l.reply < size → call v size f bytes l ≡ called 9 l
    unfolding call
    call-short p h =
        rw (
          le-ltb (length l.state) block_size long,
          le-ltb v vector_size full,
          eq-eqb e.reply.number 0 p,
          lt-ltb (length l.reply) size h,
        )

    pub call-done : e.reply.number ≡ 0 → size ≤ length l.reply → call v size f bytes l ≡ called 0 (leaves e (bytes e) l)
    unfolding call
    call-done p h =
        rw (
          le-ltb (length l.state) block_size long,
          le-ltb v vector_size full,
          eq-eqb e.reply.number 0 p,
          le-ltb (length l.reply) size h,
        )

pub vector_lacks :
    (b : List ℕ) (size : ℕ) (f : Memory → Effect) (bytes : Effect → List ℕ) (l : Lent) (r : Refusal)
    → vector_told b ≡ Err r
    → called (refusal_number r) l ≡ call (length b) size f bytes l
vector_lacks b size f bytes l r e = go (ltb (length b) vector_size) refl e
  where
    go :
        (t : Bool)
        → ltb (length b) vector_size ≡ t
        → cond t (Err TooShort) (Ok (vector_from b)) ≡ Err r
        → called (refusal_number r) l ≡ call (length b) size f bytes l
    go true p e =
        let same : TooShort ≡ r = cc in
        ap (λ (k : Refusal). called (refusal_number k) l) (sym same) ∙ short-vector (length b) size f bytes l (ltb-true (length b) vector_size p)
    go false p e = cc

-- ---- a call, settled in the block

-- a refusal leaves history and image
abbrev pub Same : (Memory → Effect) → Lent → Type 0
Same f l =
    ((f (memory_of l)).reply.number ≡ 0 → ⊥)
    → ((f (memory_of l)).after.history ≡ l.history) × ((f (memory_of l)).after.image ≡ l.image)

pub step_same : (j : ℕ) (w : What) (asked : Vector) (msg : List ℕ) (l : Lent) → Same (happening j w asked msg) l
step_same j w asked msg l p =
    let e = refused-same (memory_of l) (record { server = server j; what = w }) asked msg p in
    (ap (λ (m : Memory). m.history) e, ap (λ (m : Memory). m.image) e)

pub start-same : (n : ℕ) (own : ServerId) (l : Lent) → Same (λ m. start n own m.history m.image) l
unfolding start
start-same n own l =
    let h = l.history in
    let i = l.image in
    unless-either (λ e. (e.reply.number ≡ 0 → ⊥) → (e.after.history ≡ h) × (e.after.image ≡ i)) (start_refusal n own h i)
    (no_server h i)
    (finished (fresh n own h i))
    (λ k p. (refl, refl))
    (λ none p. absurd (p refl))

module _ (v size : ℕ) (f : Memory → Effect) (bytes : Effect → List ℕ) (l : Lent) (long : block_size ≤ length l.state) (full : vector_size ≤ v) where
  -- a refusal is told, and what was lent stays
  pub refused-met :
      Same f l
      → (r : Refusal) (e : Effect)
      → e ≡ f (memory_of l)
      → e.reply.number ≡ refusal_number r
      → called (refusal_number r) (lent l.state e.after.history e.after.image l.reply) ≡ call v size f bytes l
  refused-met same r e is told =
      let number : (f (memory_of l)).reply.number ≡ refusal_number r = ap (λ (x : Effect). x.reply.number) (sym is) ∙ told in
      let no0 : (f (memory_of l)).reply.number ≡ 0 → ⊥ = (λ z. refusal-number r (sym number ∙ z)) in
      let kept = same no0 in
      rw (is, kept.0, kept.1, ← number) (sym (call-refused v size f bytes l long full no0))

  -- what is done is left in the block, the history, the image and the reply
  pub done-met :
      size ≤ length l.reply
      → (e : Effect)
      → e ≡ f (memory_of l)
      → e.reply.number ≡ 0
      → called 0 (leaves e (bytes e) l) ≡ call v size f bytes l
  done-met room e is told =
      ap (λ (x : Effect). called 0 (leaves x (bytes x) l)) is
      ∙ sym (call-done v size f bytes l long full (ap (λ (x : Effect). x.reply.number) (sym is) ∙ told) room)

-- history and image by another name
pub lent_as :
    {k : ℕ} {b h i g j out : List ℕ} {x : Called}
    → h ≡ g
    → i ≡ j
    → called k (lent b g j out) ≡ x
    → called k (lent b h i out) ≡ x
lent_as {k} {b} {out = out} p q e = (λ n. called k (lent b (p n) (q n) out)) ∙ e

-- what is answered is done
pub answer-number : (a : Answer) → (answer_reply a).number ≡ 0
answer-number (answer.Read (Some x) v) = refl
answer-number (answer.Read None v) = refl
answer-number (answer.Written v) = refl
answer-number answer.Done = refl

-- ---- a step of the server in a block, on a vector in its bytes
module _ (j : ℕ) (what : What) (b msg : List ℕ) (size : ℕ) (bytes : Effect → List ℕ) (l : Lent) (s : State) (w : Vector) (read : state_told l.state ≡ Ok s) (carried : vector_told b ≡ Ok w) where
  abbrev from : Effect
  from = step (memory s l.history l.image) (record { server = server j; what = what }) w msg

  abbrev stepping : Memory → Effect
  stepping = happening j what (vector_from b) msg

  same_step : from ≡ stepping (memory_of l)
  same_step =
      ap (λ (x : State). step (memory x l.history l.image) (record { server = server j; what = what }) w msg) (read_of l s read).state
      ∙ ap (λ (x : Vector). happening j what x msg (memory_of l)) (carried_of b w carried).vector

  pub step_refused :
      (r : Refusal) (m : Memory)
      → effect_of (Err r) m ≡ from
      → called (refusal_number r) (lent l.state m.history m.image l.reply) ≡ call (length b) size stepping bytes l
  step_refused r m is =
      refused-met (length b) size stepping bytes l (read_of l s read).long (carried_of b w carried).full
      (step_same j what (vector_from b) msg l)
      r
      (effect_of (Err r) m)
      (is ∙ same_step)
      refl

  pub step_done :
      (a : Answer) (m : Memory)
      → effect_of (Ok a) m ≡ from
      → size ≤ length l.reply
      → called 0 (leaves (effect_of (Ok a) m) (bytes (effect_of (Ok a) m)) l) ≡ call (length b) size stepping bytes l
  step_done a m is room =
      done-met (length b) size stepping bytes l (read_of l s read).long (carried_of b w carried).full room
      (effect_of (Ok a) m)
      (is ∙ same_step)
      (answer-number a)

-- a vector of zeros, where an event carries none
pub no_vector : vector_from (replicate vector_size 0) ≡ zeros
unfolding vector_from pieces from_bytes
no_vector = refl

-- ---- a start, told in the block
module _ (n : ℕ) (own : ServerId) (l : Lent) (long : block_size ≤ length l.state) where
  abbrev starting : Memory → Effect
  starting m = start n own m.history m.image

  pub start_refused :
      (r : Refusal) (h i : List ℕ)
      → start_effect (Err r) h i ≡ start n own l.history l.image
      → called (refusal_number r) (lent l.state h i l.reply) ≡ plainly starting l
  start_refused r h i is =
      refused-met vector_size 0 starting no_reply l long (omega arith) (start-same n own l) r (start_effect (Err r) h i) is refl

  pub start_done :
      (s : State) (h i : List ℕ)
      → start_effect (Ok s) h i ≡ start n own l.history l.image
      → called 0 (lent (onto (block_of s) l.state) h i l.reply) ≡ plainly starting l
  start_done s h i is =
      done-met vector_size 0 starting no_reply l long (omega arith) (omega arith) (start_effect (Ok s) h i) is refl
