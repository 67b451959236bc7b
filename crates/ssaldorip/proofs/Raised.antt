-- Laws of the calls on a session: what its bytes are, that it is read back from them, and what each call comes to.
-- Assumes nothing.
use Prim.Native.Nat.{ℕ, ◌+◌, ◌≤◌, ◌<◌}
use mathlib.Core.Bool.{Bool, true, false, cond, ◌||◌}
use mathlib.Core.List.{List, [], ◌∷◌, ◌++◌}
use mathlib.Core.Path.{◌≡◌, refl, ap, sym, ◌∙◌, subst}
use native.Mathlib.Omega.{arith}
use borrow.Author.Tests.{lt-ltb, le-ltb}
use lib.Dec.{ltb}
use lib.ListN.{length, get_or, drop, length-append}
use lib.Seq.{sets}
use Rattle.std.specs.Prelude.{Result, Ok, Err}
use Rattle.notes.specs.Bytes.{field, to_bytes}
use Rattle.notes.specs.Session.{choice_number, choose, new_session, read_carries}
use Rattle.notes.specs.Vector.{vector_from, vector_bytes}
use Rattle.notes.specs.declared.message.Refusal.{Refusal as Told}
use Rattle.notes.specs.declared.session.Choice.{Choice}
use Rattle.notes.specs.declared.session.Choice.TheVariants.{Reads, Writes, Both}
use Rattle.notes.specs.declared.session.Session.{Session}
use Rattle.notes.specs.declared.vector.Vector.{Vector}
use Rattle.notes.proofs.Lists.{sets-append, sets-front}
use Rattle.notes.proofs.Numbers.{from_one}
use Rattle.notes.proofs.Sessions.{Eight, carries-eight}
use Rattle.notes.proofs.Vectors.{length-vector_bytes, length-vector_from}
use Rattle.rules.specs.declared.answer.Refusal.{Refusal}
use Rattle.rules.specs.declared.answer.Refusal.TheVariants.{TooShort}
use Rattle.rules.proofs.Refusals.{same-number}
use Rattle.ssaldorip.specs.Calls.{vector_size, left, onto, put}
use Rattle.ssaldorip.specs.Sessions.{writes_at, choice_field, session_size, session_in, session_bytes, if_chosen, session_start, session_raise, session_asks}
use Rattle.ssaldorip.specs.Forms.{vector_told, of_choice, session_told}
use Rattle.ssaldorip.proofs.Told.{if_told}

-- ---- its bytes
module _ (s : Session) (eight : Eight s) where
  pub length-session_bytes : length (session_bytes s) ≡ session_size
  length-session_bytes =
      simp (length-append, length-vector_bytes s.reads eight.reads, length-vector_bytes s.writes eight.writes)

  choice_byte : (c : Choice) → to_bytes 1 (choice_number c) ≡ choice_number c ∷ []
  unfolding to_bytes
  choice_byte Reads = refl
  choice_byte Writes = refl
  choice_byte Both = refl

  -- stored one after the other
  pub session-stored :
      (b : List ℕ)
      → session_size ≤ length b
      → sets (sets (sets b 0 (vector_bytes s.reads)) writes_at (vector_bytes s.writes)) choice_field.at (to_bytes 1 (choice_number s.choice)) ≡ onto (session_bytes s) b
  session-stored b room =
      let r = vector_bytes s.reads in
      let w = vector_bytes s.writes in
      let c = choice_number s.choice ∷ [] in
      let l = length-vector_bytes s.reads eight.reads in
      let k = length-vector_bytes s.writes eight.writes in
      let at-writes : 0 + length r ≡ writes_at = omega (arith, l) in
      let at-choice : 0 + length (r ++ w) ≡ choice_field.at = rw length-append (omega (arith, l, k)) in
      let two : sets b 0 (r ++ w) ≡ sets (sets b 0 r) writes_at w = sets-append b r w 0 ∙ ap (λ (i : ℕ). sets (sets b 0 r) i w) at-writes in
      rw (choice_byte s.choice) (sym
      (sets-append b (r ++ w) c 0
      ∙ ap (λ (i : ℕ). sets (sets b 0 (r ++ w)) i c) at-choice
      ∙ ap (λ (z : List ℕ). sets z choice_field.at c) two)
      ∙ sets-front (session_bytes s) b (length (session_bytes s)) refl (omega (arith, length-session_bytes)))

pub in-eight : (c : Choice) (b : List ℕ) → Eight (session_in c b)
in-eight c b = record { reads = length-vector_from b; writes = length-vector_from (drop writes_at b) }

-- ---- a new one
module _ (k : ℕ) (s : List ℕ) where
  pub start-short : length s < session_size → session_start k s ≡ left 9 s
  unfolding session_start
  start-short h = rw (lt-ltb (length s) session_size h)

  pub start_is : session_size ≤ length s → (x : Result Choice Told) → choose k ≡ x → session_start k s ≡ if_chosen x s (λ c. left 0 (onto (session_bytes (new_session c)) s))
  unfolding session_start
  start_is h x e = rw (le-ltb (length s) session_size h, e)

-- ---- what is lent to each call: 9 for its bytes, then 1
pub chosen_told : (s : List ℕ) → session_size ≤ length s → session_told s ≡ of_choice (choose (get_or s 32 0)) s
chosen_told s h = rw (le-ltb (length s) session_size h, from_one choice_field.at s)

-- an unknown choice keeps its number
if_known : (x : Result Choice Told) (s out : List ℕ) (f : Session → ℕ × List ℕ) → if_chosen x out (λ c. f (session_in c s)) ≡ if_told (of_choice x s) out f
if_known (Ok c) s out f = refl
if_known (Err r) s out f = ap (λ (k : ℕ). left k out) (sym (same-number r))

pub asks_told : (s out : List ℕ) → session_asks s out ≡ if_told (session_told s) out (λ x. put (vector_bytes (read_carries x)) out)
unfolding session_asks
asks_told s out = go (ltb (length s) session_size)
  where
    f : Session → ℕ × List ℕ
    f x = put (vector_bytes (read_carries x)) out

    x : Result Choice Told
    x = choose (field choice_field s)

    go : (b : Bool) → cond b (left 9 out) (if_chosen x out (λ c. f (session_in c s))) ≡ if_told (cond b (Err TooShort) (of_choice x s)) out f
    go true = refl
    go false = if_known x s out f

pub raise_told :
    (after : Session → Vector → Session) (s v : List ℕ)
    → session_raise after s v ≡ if_told (vector_told v) s (λ w. if_told (session_told s) s (λ x. left 0 (onto (session_bytes (after x w)) s)))
unfolding session_raise
raise_told after s v = go (ltb (length s) session_size) (ltb (length v) vector_size)
  where
    f : Session → ℕ × List ℕ
    f x = left 0 (onto (session_bytes (after x (vector_from v))) s)

    x : Result Choice Told
    x = choose (field choice_field s)

    go :
        (a b : Bool)
        → cond (a || b) (left 9 s) (if_chosen x s (λ c. f (session_in c s))) ≡ if_told (cond b (Err TooShort) (Ok (vector_from v))) s (λ w. if_told (cond a (Err TooShort) (of_choice x s)) s (λ y. left 0 (onto (session_bytes (after y w)) s)))
    go true true = refl
    go true false = refl
    go false true = refl
    go false false = if_known x s s f

-- ---- what the next read carries, at the start of an output
module _ (s : List ℕ) (x : Session) (read : session_told s ≡ Ok x) (out : List ℕ) where
  told_eight : Eight x
  told_eight = go (ltb (length s) session_size) (choose (field choice_field s)) read
    where
      go : (b : Bool) (y : Result Choice Told) → cond b (Err TooShort) (of_choice y s) ≡ Ok x → Eight x
      go true y e = cc
      go false (Ok c) e = let same : session_in c s ≡ x = cc in subst (λ (z : Session). Eight z) same (in-eight c s)
      go false (Err r) e = cc

  bytes : List ℕ
  bytes = vector_bytes (read_carries x)

  length-bytes : length bytes ≡ vector_size
  unfolding bytes
  length-bytes = length-vector_bytes (read_carries x) (carries-eight x told_eight)

  asks_put : put bytes out ≡ session_asks s out
  unfolding bytes
  asks_put = sym (asks_told s out ∙ ap (λ (y : Result Session Refusal). if_told y out (λ x. put (vector_bytes (read_carries x)) out)) read)

  pub asks_lacks : length out < vector_size → left 9 out ≡ session_asks s out
  asks_lacks h = rw (lt-ltb (length out) (length bytes) (omega (arith, length-bytes))) at asks_put

  pub asks_done : vector_size ≤ length out → left 0 (sets out 0 (vector_bytes (read_carries x))) ≡ session_asks s out
  unfolding bytes
  asks_done h =
      ap (λ (b : List ℕ). left 0 b) (sets-front bytes out (length bytes) refl (omega (arith, length-bytes)))
      ∙ rw (le-ltb (length out) (length bytes) (omega (arith, length-bytes))) at asks_put
