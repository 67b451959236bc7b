-- Any two outcomes that meet a call's statement are equal.
-- Assumes nothing.
use Prim.Native.Nat.{ℕ, ◌<◌}
use mathlib.Core.List.{List}
use mathlib.Core.Path.{◌≡◌, refl, ap, sym, ◌∙◌}
use native.Mathlib.Omega.{arith}
use lib.ListN.{length}
use Rattle.std.specs.Borrow.{Bor}
use Rattle.std.specs.Prelude.{Option as Maybe, Result}
use Rattle.notes.specs.Reply.{first}
use Rattle.notes.specs.Index.{servers}
use Rattle.notes.specs.declared.index.PhoneId.{PhoneId}
use Rattle.notes.specs.declared.index.ServerId.{ServerId}
use Rattle.notes.specs.declared.vector.Vector.{Vector}
use Rattle.rules.specs.declared.answer.Answer.{Answer}
use Rattle.rules.specs.declared.answer.Phones.{Phones}
use Rattle.rules.specs.declared.answer.Refusal.{Refusal}
use Rattle.rules.specs.declared.event.Event.{Event}
use Rattle.rules.specs.declared.event.Request.{Request}
use Rattle.rules.specs.declared.event.Request.TheVariants.{Read, Write}
use Rattle.rules.specs.declared.event.What.{What}
use Rattle.rules.specs.declared.event.What.TheVariants as what
use Rattle.rules.specs.declared.state.State.{State}
use Rattle.rules.specs.Memory.{Memory, memory, with_state, down_of, writes}
use Rattle.rules.specs.Sound.{recover}
use Rattle.rules.specs.Answer.{Effect, effect_of, plain_effect, verdict_reply, status_reply, finished, is_down}
use Rattle.rules.specs.Request.{noted, due, ready, performed, served, cut_after, written, new_record, request_refusals, cut_refusals, request, request_cut}
use Rattle.rules.specs.Step.{taken_from, updated, update_refusals, update, plain_refusals, cut, recovery, happens, step}
use Rattle.rules.specs.Calls.{judge, start_effect, start, status, found, look_up, message_filled, message}
use Rattle.laws.proofs.Writes.{length-tally}
use Rattle.laws.proofs.Passed.{Granted, granted, unless-either}
use Rattle.laws.proofs.Newest.{eight}
use Rattle.laws.proofs.Reading.{up, ready-is}
use Rattle.laws.proofs.Unique.{effects-known, plain-known, starts-known, judged-known, status-known, filled-known, shown, found-known, part_shown, HasBytes, parts-known}

-- ---- the vector of every effect has eight counts
abbrev pub Eight : Effect → Type 0
Eight e = length e.vector.counts ≡ servers

served-eight : (m : Memory) (j : ServerId) (i : PhoneId) (q : Request) (v : Vector) → Granted m j i q v → Eight (served m i q)
unfolding served performed ready noted due written new_record
served-eight m j i (Read cell) v a =
    ap (λ (v : Vector). length v.counts) (ap (λ (t : State). t.vector) (ready-is m i (Read cell)) ∙ (up m j i (Read cell) v a).facts.counts)
    ∙ length-tally (writes m)
served-eight m j i (Write cell value time) v a =
    eight m (up m j i (Write cell value time) v a) i cell value time a.phone a.cell (a.room refl)

module _ (m : Memory) (v : Vector) (msg : List ℕ) where
  pub happens-eight : (j : ServerId) (w : What) → Eight (happens m j w v msg)
  unfolding request request_cut cut update recovery cut_after
  happens-eight j (what.Request i q) =
      unless-either Eight (first (request_refusals m j i q v)) m (served m i q) (λ k. refl)
      (λ r. served-eight m j i q v (granted m j i q v r))
  happens-eight j (what.RequestCut i q k) =
      unless-either Eight (first (cut_refusals m j i q k v)) m (cut_after m i q k) (λ k. refl) (λ r. refl)
  happens-eight j what.Cut =
      unless-either Eight (first (plain_refusals m (is_down m) j)) m (finished (with_state (down_of m.state) m)) (λ k. refl) (λ r. refl)
  happens-eight j what.Update =
      unless-either Eight (first (update_refusals m j msg)) m (finished (updated m (taken_from m msg))) (λ k. refl) (λ r. refl)
  happens-eight j what.Recovery =
      unless-either Eight (first (plain_refusals m m.state.up j)) m (finished (recover m)) (λ k. refl) (λ r. refl)

-- ---- a step: its answer, and each part of the memory after it: the state, and each byte of history and image
module _ (a b : Result Answer Refusal) (s t : State) (h g i j : List ℕ) where
  one-effect :
      (e : Effect)
      → Eight e
      → effect_of a (memory s h i) ≡ e
      → effect_of b (memory t g j) ≡ e
      → (a ≡ b) × (s ≡ t) × (h ≡ g) × (i ≡ j)
  one-effect e n p q =
      let l : 0 < length (effect_of a (memory s h i)).vector.counts = omega (arith, ap (λ (x : Effect). length x.vector.counts) p, n) in
      let r = effects-known a b (memory s h i) (memory t g j) l (p ∙ sym q) in
      (r.0, ap (λ (m : Memory). m.state) r.1, ap (λ (m : Memory). m.history) r.1, ap (λ (m : Memory). m.image) r.1)

  pub step-one :
      (m : Memory) (e : Event) (v : Vector) (msg : List ℕ)
      → effect_of a (memory s h i) ≡ step m e v msg
      → effect_of b (memory t g j) ≡ step m e v msg
      → (a ≡ b) × (s ≡ t) × (h ≡ g) × (i ≡ j)
  unfolding step
  step-one m e v msg = one-effect (step m e v msg) (happens-eight m v msg e.server e.what)

-- a step that answers only that it is done
pub plain-one :
    (a b : Result Unit Refusal) (s t : State) (h g i j : List ℕ) (e : Effect)
    → plain_effect a (memory s h i) ≡ e
    → plain_effect b (memory t g j) ≡ e
    → (a ≡ b) × (s ≡ t) × (h ≡ g) × (i ≡ j)
plain-one a b s t h g i j e p q =
    let r = plain-known a b (memory s h i) (memory t g j) (p ∙ sym q) in
    (r.0, ap (λ (m : Memory). m.state) r.1, ap (λ (m : Memory). m.history) r.1, ap (λ (m : Memory). m.image) r.1)

-- ---- starting anew: the state, and each byte of history and image
pub start-one :
    (a b : Result State Refusal) (h g i j : List ℕ) (n : ℕ) (own : ServerId) (h₀ i₀ : List ℕ)
    → start_effect a h i ≡ start n own h₀ i₀
    → start_effect b g j ≡ start n own h₀ i₀
    → (a ≡ b) × (h ≡ g) × (i ≡ j)
start-one a b h g i j n own h₀ i₀ p q = starts-known a b h g i j (p ∙ sym q)

-- ---- a verdict
pub judge-one : (a b : Result Unit Refusal) (m : Memory) → verdict_reply a ≡ judge m → verdict_reply b ≡ judge m → a ≡ b
judge-one a b m p q = judged-known a b (p ∙ sym q)

-- ---- a status, and a server's own message with each byte of its output
pub status-one : (a b : Result (Maybe Phones) Refusal) (m : Memory) → status_reply a ≡ status m → status_reply b ≡ status m → a ≡ b
status-one a b m p q = status-known a b (p ∙ sym q)

pub message-one :
    (a b : Result ℕ Refusal) (o u : List ℕ) (m : Memory) (out : List ℕ)
    → message_filled a o ≡ message m out
    → message_filled b u ≡ message m out
    → (a ≡ b) × (o ≡ u)
message-one a b o u m out p q = filled-known a b o u (p ∙ sym q)

-- ---- a look-up: its refusal, or the part's bytes
pub look-up-one :
    (a b : Result (Maybe (Bor (List ℕ))) Refusal) (i : List ℕ) (o : ServerId) (w : ℕ)
    → found a ≡ look_up i o w
    → found b ≡ look_up i o w
    → shown a ≡ shown b
look-up-one a b i o w p q = found-known a b (p ∙ sym q)

-- and whether there is a part, where no part is empty
pub part-one :
    (a b : Result (Maybe (Bor (List ℕ))) Refusal) (i : List ℕ) (o : ServerId) (w : ℕ)
    → HasBytes a
    → HasBytes b
    → found a ≡ look_up i o w
    → found b ≡ look_up i o w
    → part_shown a ≡ part_shown b
part-one a b i o w h g p q = parts-known a b h g (p ∙ sym q)
