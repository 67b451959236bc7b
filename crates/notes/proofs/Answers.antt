-- An answer is known by its number and values.
-- Assumes nothing.
use Prim.Native.Nat.{ℕ, ◌≤◌}
use mathlib.Core.Bool.{Bool, true, false, cond}
use mathlib.Core.List.{List, [], ◌∷◌, ◌++◌}
use mathlib.Core.Option.{Option, none, some}
use mathlib.Core.Path.{◌≡◌, refl, sym, ap, ◌∙◌}
use native.Mathlib.Omega.{arith}
use lib.Dec.{eqb}
use lib.ListN.{length, get_or, drop, length-append}
use Rattle.std.specs.Prelude.{Result, Ok, Err, IfOk}
use denote.Ref.{Bor}
use Rattle.notes.specs.Reply.{Reply, done, refused, Filled, or_else, first}
use Rattle.notes.specs.Message.{refusal_number, header_said, header_values, message_ok, checked_reply, check, begun_at, writer_reply, filled, fill_unless}
use Rattle.notes.specs.declared.message.Header.{Header}
use Rattle.notes.specs.declared.message.Refusal.{Refusal}
use Rattle.notes.specs.declared.reader.Reader.{Reader}
use Rattle.notes.specs.declared.message.Refusal.TheVariants.{OutOfRange, Malformed, TooShort}

-- what has a way back is known by its image
pub known_by : {A B : Type 0} (f : A → B) (back : B → A) → ((a : A) → back (f a) ≡ a) → (a b : A) → f a ≡ f b → a ≡ b
known_by f back same a b e = sym (same a) ∙ ap back e ∙ same b

-- the first of two lists, one behind the other
pub first-append : {A : Type 0} (a b : List (Option A)) → first (a ++ b) ≡ or_else (first a) (first b)
first-append [] b = refl
first-append (none ∷ a) b = first-append a b
first-append (some x ∷ a) b = refl

pub first_one : {A : Type 0} (x : Option A) → first (x ∷ []) ≡ x
first_one none = refl
first_one (some k) = refl

-- a refusal of the one stays the first; where it has none the other decides
pub first-stays : {A : Type 0} (a b : List (Option A)) (k : A) → first a ≡ some k → first (a ++ b) ≡ some k
first-stays a b k e = first-append a b ∙ ap (λ x. or_else x (first b)) e

pub first-goes-on : {A : Type 0} (a b : List (Option A)) → first a ≡ none → first (a ++ b) ≡ first b
first-goes-on a b e = first-append a b ∙ ap (λ x. or_else x (first b)) e

abbrev refusal_of : ℕ → Refusal
refusal_of k = cond (eqb k 1) OutOfRange (cond (eqb k 6) Malformed TooShort)

abbrev checked_of : Reply → Result Header Refusal
checked_of r =
    cond (eqb r.number 0)
    (Ok (record { n = get_or r.values 0 0; sender = record { 0 = get_or r.values 1 0 }; count = get_or r.values 2 0 }))
    (Err (refusal_of r.number))

checked-back : (a : Result Header Refusal) → checked_of (checked_reply a) ≡ a
checked-back (Ok h) = refl
checked-back (Err OutOfRange) = refl
checked-back (Err Malformed) = refl
checked-back (Err TooShort) = refl

pub checked-known : (a b : Result Header Refusal) → checked_reply a ≡ checked_reply b → a ≡ b
checked-known = known_by checked_reply checked_of checked-back

abbrev written_of : Reply → Result ℕ Refusal
written_of r = cond (eqb r.number 0) (Ok (get_or r.values 0 0)) (Err (refusal_of r.number))

written_back : (a : Result ℕ Refusal) → written_of (writer_reply a) ≡ a
written_back (Ok k) = refl
written_back (Err OutOfRange) = refl
written_back (Err Malformed) = refl
written_back (Err TooShort) = refl

pub written_known : (a b : Result ℕ Refusal) → writer_reply a ≡ writer_reply b → a ≡ b
written_known = known_by writer_reply written_of written_back

-- no refusal's number is 0
never : (r : Refusal) → ◌≡◌ {A = ℕ} 0 (refusal_number r) → ⊥
never OutOfRange e = omega arith
never Malformed e = omega arith
never TooShort e = omega arith

-- a reader is known by its message and its place
pub reader-known :
    (m : Bor (List ℕ)) (a b : Result Reader Refusal)
    → IfOk a (λ r. r.message ≡ m)
    → IfOk b (λ r. r.message ≡ m)
    → begun_at a ≡ begun_at b
    → a ≡ b
reader-known m (Ok x) (Ok y) p q e =
    let at : x.at ≡ y.at = ap (λ (f : Reply). get_or f.values 0 0) e in
    λ i. Ok (record { message = (p ∙ sym q) i; at = at i })
reader-known m (Ok x) (Err k) p q e = absurd (never k (ap (λ (f : Reply). f.number) e))
reader-known m (Err r) (Ok y) p q e = absurd (never r (ap (λ (f : Reply). f.number) (sym e)))
reader-known m (Err r) (Err k) p q e = let same = written_known (Err r) (Err k) e in cc

-- ---- what is known of a message by its check's answer
found : (m : List ℕ) (a : Result Header Refusal) → checked_reply a ≡ check m → a ≡ cond (message_ok m) (Ok (header_said m)) (Err Malformed)
unfolding check
found m a e = checked-known a _ (e ∙ go (message_ok m))
  where
    go :
        (t : Bool)
        → cond t (done (header_values (header_said m))) (refused (refusal_number Malformed)) ≡ checked_reply (cond t (Ok (header_said m)) (Err Malformed))
    go true = refl
    go false = refl

pub update-right : (m : List ℕ) (h : Header) → checked_reply (Ok h) ≡ check m → (message_ok m ≡ true) × (h ≡ header_said m)
update-right m h e = go (message_ok m) refl (found m (Ok h) e)
  where
    go :
        (t : Bool)
        → message_ok m ≡ t
        → Ok h ≡ cond t (Ok (header_said m)) (Err Malformed)
        → (message_ok m ≡ true) × (h ≡ header_said m)
    go true q e = (q, cc)
    go false q e = (cc, cc)

pub refused-wrong : (m : List ℕ) (r : Refusal) → checked_reply (Err r) ≡ check m → message_ok m ≡ false
refused-wrong m r e = go (message_ok m) refl (found m (Err r) e)
  where
    go :
        (t : Bool)
        → message_ok m ≡ t
        → Err r ≡ cond t (Ok (header_said m)) (Err Malformed)
        → message_ok m ≡ false
    go true q e = cc
    go false q e = q

-- ---- the bytes that filled an output lie within it
pub filled_within :
    (r : Option Refusal) (bytes out : List ℕ) (k : ℕ) (after : List ℕ)
    → filled (Ok k) after ≡ fill_unless r bytes out
    → k ≤ length after
filled_within (some r) bytes out k after e = absurd (never r (ap (λ (f : Filled). f.reply.number) e))
filled_within none bytes out k after e =
    let l = ap (λ (f : Filled). get_or f.reply.values 0 0) e in
    let o = ap (λ (f : Filled). length f.output) e in
    omega (arith, l, o, length-append bytes (drop (length bytes) out))
