-- An outcome is known by what it means.
-- Assumes nothing.
use Prim.Native.Nat.{ℕ, zero, suc, ◌-◌, ◌<◌}
use mathlib.Core.Bool.{cond}
use mathlib.Core.List.{List, [], ◌∷◌}
use mathlib.Core.Option.{Option, none, some}
use mathlib.Core.Path.{◌≡◌, refl, ap, sym, ◌∙◌}
use native.Mathlib.Omega.{arith}
use lib.Dec.{eqb}
use lib.ListN.{length, get_or}
use Rattle.std.specs.Borrow.{Bor}
use Rattle.std.specs.Prelude.{Option as Maybe, Some, None, Result, Ok, Err}
use Rattle.notes.specs.Reply.{Reply, Filled}
use Rattle.notes.specs.Vector.{zeros}
use Rattle.notes.specs.declared.vector.Vector.{Vector}
use Rattle.notes.proofs.Answers.{known_by}
use Rattle.rules.specs.declared.answer.Answer.{Answer}
use Rattle.rules.specs.declared.answer.Answer.TheVariants as answer
use Rattle.rules.specs.declared.answer.Phones.{Phones}
use Rattle.rules.specs.declared.answer.Refusal.{Refusal}
use Rattle.rules.specs.declared.answer.Refusal.TheVariants.{OutOfRange, NotUp, NotYet, HistoryFull, LogFull, Unsound, Gap, OwnAhead, TooShort}
use Rattle.rules.specs.declared.state.State.{State}
use Rattle.rules.specs.Memory.{Memory}
use Rattle.rules.specs.Answer.{Effect, refusal_number, refusal_reply, answer_reply, answer_vector, effect_of, plain_effect, verdict_refusal, verdict_reply, status_reply, message_reply}
use Rattle.rules.specs.Calls.{no_server, start_effect, found, message_filled}

-- ---- the way back from a reply: from its values if its number is 0, from its number otherwise

-- the refusal of a list that has this number
abbrev numbered : ℕ → List Refusal → Refusal
numbered k [] = OutOfRange
numbered k (r ∷ rs) = cond (eqb (refusal_number r) k) r (numbered k rs)

abbrev refusal_of : ℕ → Refusal
refusal_of k =
    numbered k (OutOfRange ∷ NotUp ∷ NotYet ∷ HistoryFull ∷ LogFull ∷ Unsound ∷ Gap ∷ OwnAhead ∷ TooShort ∷ [])

module _ {A : Type 0} (values : List ℕ → A) (refusal : Refusal → A) where
  abbrev pub back : Reply → A
  back r = cond (eqb r.number 0) (values r.values) (refusal (refusal_of r.number))

  pub refused-back : (r : Refusal) → back (refusal_reply r) ≡ refusal r
  refused-back OutOfRange = refl
  refused-back NotUp = refl
  refused-back NotYet = refl
  refused-back HistoryFull = refl
  refused-back LogFull = refl
  refused-back Unsound = refl
  refused-back Gap = refl
  refused-back OwnAhead = refl
  refused-back TooShort = refl

-- ---- a step's answer: how many values there are beside V's tells which it is

abbrev beside : Vector → ℕ → List ℕ → Answer
beside v zero l = answer.Written v
beside v (suc zero) l = answer.Read None v
beside v (suc (suc k)) l = answer.Read (Some (get_or l 1 0)) v

abbrev served_of : Vector → List ℕ → Answer
served_of v [] = answer.Done
served_of v (x ∷ l) = beside v (length (x ∷ l) - length v.counts) (x ∷ l)

abbrev outcome_of : Vector → Reply → Result Answer Refusal
outcome_of v = back (λ l. Ok (served_of v l)) Err

served-back : (a : Answer) → 0 < length (answer_vector a).counts → outcome_of (answer_vector a) (answer_reply a) ≡ Ok a
served-back (answer.Read (Some x) v) h = let e : suc (suc (length v.counts)) - length v.counts ≡ 2 = omega arith in rw e
served-back (answer.Read None v) h = let e : suc (length v.counts) - length v.counts ≡ 1 = omega arith in rw e
served-back (answer.Written v) h = ap (λ (a : Answer). Ok a) (go v.counts refl h)
  where
    go : (l : List ℕ) → v.counts ≡ l → 0 < length l → served_of v l ≡ answer.Written v
    go [] q h = absurd (omega arith)
    go (x ∷ l) q h = let e : suc (length l) - length v.counts ≡ 0 = rw q (omega arith) in rw e
served-back answer.Done h = refl

-- a vector has counts, so an answer is known by its reply and its vector
pub answers-known :
    (a b : Answer)
    → 0 < length (answer_vector a).counts
    → answer_reply a ≡ answer_reply b
    → answer_vector a ≡ answer_vector b
    → a ≡ b
answers-known a b l r v =
    let g : 0 < length (answer_vector b).counts = omega (arith, ap (λ (v : Vector). length v.counts) v) in
    let e : ◌≡◌ {A = Result Answer Refusal} (Ok a) (Ok b) = sym (served-back a l) ∙ (λ i. outcome_of (v i) (r i)) ∙ served-back b g in
    cc

outcome-back :
    (a : Result Answer Refusal) (m : Memory)
    → 0 < length (effect_of a m).vector.counts
    → outcome_of (effect_of a m).vector (effect_of a m).reply ≡ a
outcome-back (Ok a) m h = served-back a h
outcome-back (Err r) m h = refused-back (λ l. Ok (served_of zeros l)) Err r

after-effect : (a : Result Answer Refusal) (m : Memory) → (effect_of a m).after ≡ m
after-effect (Ok a) m = refl
after-effect (Err r) m = refl

-- and so is an outcome
pub outcomes-known :
    (a b : Result Answer Refusal) (m n : Memory)
    → 0 < length (effect_of a m).vector.counts
    → (effect_of a m).reply ≡ (effect_of b n).reply
    → (effect_of a m).vector ≡ (effect_of b n).vector
    → a ≡ b
outcomes-known a b m n l r v =
    let g : 0 < length (effect_of b n).vector.counts = omega (arith, ap (λ (v : Vector). length v.counts) v) in
    sym (outcome-back a m l)
    ∙ (λ i. outcome_of (v i) (r i))
    ∙ outcome-back b n g

-- a step's outcome and the memory after it are known by what the step answers and leaves
pub effects-known :
    (a b : Result Answer Refusal) (m n : Memory)
    → 0 < length (effect_of a m).vector.counts
    → effect_of a m ≡ effect_of b n
    → (a ≡ b) × (m ≡ n)
effects-known a b m n l e = (
  outcomes-known a b m n l (ap (λ (x : Effect). x.reply) e) (ap (λ (x : Effect). x.vector) e),
  sym (after-effect a m) ∙ ap (λ (x : Effect). x.after) e ∙ after-effect b n,
)

-- ---- of a step that answers only that it is done

abbrev done_of : List ℕ → Result Unit Refusal
done_of l = Ok tt

plain-back : (a : Result Unit Refusal) (m : Memory) → back done_of Err (plain_effect a m).reply ≡ a
plain-back (Ok a) m = refl
plain-back (Err r) m = refused-back done_of Err r

after-plain : (a : Result Unit Refusal) (m : Memory) → (plain_effect a m).after ≡ m
after-plain (Ok a) m = refl
after-plain (Err r) m = refl

pub plain-known : (a b : Result Unit Refusal) (m n : Memory) → plain_effect a m ≡ plain_effect b n → (a ≡ b) × (m ≡ n)
plain-known a b m n e = (
  sym (plain-back a m) ∙ ap (λ (x : Effect). back done_of Err x.reply) e ∙ plain-back b n,
  sym (after-plain a m) ∙ ap (λ (x : Effect). x.after) e ∙ after-plain b n,
)

-- ---- a start: the state is in the memory that it leaves

abbrev started_of : Effect → Result State Refusal
started_of e = back (λ l. Ok e.after.state) Err e.reply

start-back : (a : Result State Refusal) (h i : List ℕ) → started_of (start_effect a h i) ≡ a
start-back (Ok s) h i = refl
start-back (Err r) h i = refused-back (λ l. Ok (no_server h i).state) Err r

start-history : (a : Result State Refusal) (h i : List ℕ) → (start_effect a h i).after.history ≡ h
start-history (Ok s) h i = refl
start-history (Err r) h i = refl

start-image : (a : Result State Refusal) (h i : List ℕ) → (start_effect a h i).after.image ≡ i
start-image (Ok s) h i = refl
start-image (Err r) h i = refl

pub starts-known :
    (a b : Result State Refusal) (h g i j : List ℕ) → start_effect a h i ≡ start_effect b g j → (a ≡ b) × (h ≡ g) × (i ≡ j)
starts-known a b h g i j e = (
  sym (start-back a h i) ∙ ap started_of e ∙ start-back b g j,
  sym (start-history a h i) ∙ ap (λ (x : Effect). x.after.history) e ∙ start-history b g j,
  sym (start-image a h i) ∙ ap (λ (x : Effect). x.after.image) e ∙ start-image b g j,
)

-- ---- a verdict

abbrev verdict_of : Option Refusal → Result Unit Refusal
verdict_of none = Ok tt
verdict_of (some r) = Err r

verdict-back : (a : Result Unit Refusal) → verdict_of (verdict_refusal a) ≡ a
verdict-back (Ok a) = refl
verdict-back (Err r) = refl

pub verdicts-known : {r : Option Refusal} (a b : Result Unit Refusal) → verdict_refusal a ≡ r → verdict_refusal b ≡ r → a ≡ b
verdicts-known a b p q = known_by verdict_refusal verdict_of verdict-back a b (p ∙ sym q)

replied-back : (a : Result Unit Refusal) → back done_of Err (verdict_reply a) ≡ a
replied-back (Ok a) = refl
replied-back (Err r) = refused-back done_of Err r

pub judged-known : (a b : Result Unit Refusal) → verdict_reply a ≡ verdict_reply b → a ≡ b
judged-known = known_by verdict_reply (back done_of Err) replied-back

-- ---- a status: nobody has one value, phones have two

abbrev readers_of : List ℕ → Result (Maybe Phones) Refusal
readers_of [] = Ok None
readers_of (k ∷ []) = Ok None
readers_of (k ∷ i ∷ l) = Ok (Some (record { count = k; lowest = record { 0 = i } }))

status-back : (a : Result (Maybe Phones) Refusal) → back readers_of Err (status_reply a) ≡ a
status-back (Ok None) = refl
status-back (Ok (Some p)) = refl
status-back (Err r) = refused-back readers_of Err r

pub status-known : (a b : Result (Maybe Phones) Refusal) → status_reply a ≡ status_reply b → a ≡ b
status-known = known_by status_reply (back readers_of Err) status-back

-- ---- a message, and the output that it fills

abbrev bytes_of : List ℕ → Result ℕ Refusal
bytes_of l = Ok (get_or l 0 0)

message-back : (a : Result ℕ Refusal) → back bytes_of Err (message_reply a) ≡ a
message-back (Ok k) = refl
message-back (Err r) = refused-back bytes_of Err r

pub messages-known : (a b : Result ℕ Refusal) → message_reply a ≡ message_reply b → a ≡ b
messages-known = known_by message_reply (back bytes_of Err) message-back

pub filled-known : (a b : Result ℕ Refusal) (o u : List ℕ) → message_filled a o ≡ message_filled b u → (a ≡ b) × (o ≡ u)
filled-known a b o u e =
    (messages-known a b (ap (λ (f : Filled). f.reply) e), ap (λ (f : Filled). f.output) e)

-- ---- a look-up: the part that it found is known by its bytes, of which there are none where there is no part

abbrev pub shown : Result (Maybe (Bor (List ℕ))) Refusal → Result (List ℕ) Refusal
shown (Ok None) = Ok []
shown (Ok (Some part)) = Ok part.now
shown (Err r) = Err r

shown-back : (a : Result (Maybe (Bor (List ℕ))) Refusal) → back Ok Err (found a) ≡ shown a
shown-back (Ok None) = refl
shown-back (Ok (Some part)) = refl
shown-back (Err r) = refused-back Ok Err r

pub found-known : (a b : Result (Maybe (Bor (List ℕ))) Refusal) → found a ≡ found b → shown a ≡ shown b
found-known a b e = sym (shown-back a) ∙ ap (back Ok Err) e ∙ shown-back b

-- and where no part is empty, there is a part exactly if there are bytes

abbrev pub part_shown : Result (Maybe (Bor (List ℕ))) Refusal → Result (Maybe (List ℕ)) Refusal
part_shown (Ok None) = Ok None
part_shown (Ok (Some part)) = Ok (Some part.now)
part_shown (Err r) = Err r

abbrev pub HasBytes : Result (Maybe (Bor (List ℕ))) Refusal → Type 0
HasBytes (Ok None) = Unit
HasBytes (Ok (Some part)) = 0 < length part.now
HasBytes (Err r) = Unit

abbrev part_of : List ℕ → Result (Maybe (List ℕ)) Refusal
part_of [] = Ok None
part_of (x ∷ l) = Ok (Some (x ∷ l))

part-bytes : (l : List ℕ) → 0 < length l → part_of l ≡ Ok (Some l)
part-bytes [] h = absurd (omega arith)
part-bytes (x ∷ l) h = refl

part-back : (a : Result (Maybe (Bor (List ℕ))) Refusal) → HasBytes a → back part_of Err (found a) ≡ part_shown a
part-back (Ok None) h = refl
part-back (Ok (Some part)) h = part-bytes part.now h
part-back (Err r) h = refused-back part_of Err r

pub parts-known :
    (a b : Result (Maybe (Bor (List ℕ))) Refusal) → HasBytes a → HasBytes b → found a ≡ found b → part_shown a ≡ part_shown b
parts-known a b h g e = sym (part-back a h) ∙ ap (back part_of Err) e ∙ part-back b g
