-- The worked runs meet what demand 3 asks of a run, and the theorem applies to them.
-- Assumes nothing.
use Prim.Native.Nat.{ℕ, zero, suc, ◌≤◌}
use mathlib.Core.Bool.{Bool, true, false, not, ◌&&◌}
use mathlib.Core.List.Memᴰ
use mathlib.Core.List.{List, ◌++◌, ◌∷◌, []}
use mathlib.Core.Path.{◌≡◌, refl, sym, subst}
use native.Mathlib.Omega.{arith}
use borrow.Author.Tests.{eqb-true, not-true}
use lib.Dec.{T, ltb}
use lib.ListN.{replicate, length-replicate}
use Rattle.notes.specs.Index.{servers}
use Rattle.notes.specs.declared.session.Choice.TheVariants.{Writes}
use Rattle.notes.specs.Lists.{every}
use Rattle.notes.proofs.Lists.{both}
use Rattle.rules.specs.declared.event.Request.TheVariants.{Read}
use Rattle.rules.specs.Writes.{server, same_records}
use Rattle.laws.proofs.Writes.{same-records}
use Rattle.rules.specs.Image.{history_size, image_size}
use Rattle.rules.specs.Step.{step}
use Rattle.farm.specs.Farm.{Choice, Record, Rule, Asked, Farm, performed_by, Act, asking, are_bytes, is_done, serve, serving, act, run}
use Rattle.farm.specs.Demand.{◌∈◌, Lent, Reached, Recovered, Finds, stays_read, finds_own}
use Rattle.farm.proofs.Acted.{acted, new, other, reads5, asked5, late2, first2, acts8, cut8, first8, saved_late}
use Rattle.farm.proofs.Demands.{demand-3, own-found}

-- ---- buffers of one byte
same_bytes : (b : ℕ) → ltb b 256 ≡ true → (k : ℕ) → are_bytes (replicate k b) ≡ true
unfolding are_bytes every
same_bytes b e zero = refl
same_bytes b e (suc k) = rw (e, same_bytes b e k)

filled : (b : ℕ) → ltb b 256 ≡ true → (size : ℕ) → Lent (replicate size b) size
filled b e size = record { room = rw length-replicate (omega arith); bytes = same_bytes b e size }

pub lent : Lent other history_size
lent = filled 255 refl history_size

pub reached : (rule : Rule) (n : ℕ) → n ≤ servers → (acts : List Act) → Reached rule n (run rule (new n) acts)
reached rule n few acts =
    record {
      few = few;
      histories = λ j. replicate history_size 0;
      images = λ j. replicate image_size 0;
      lent_histories = λ j. filled 0 refl history_size;
      lent_images = λ j. filled 0 refl image_size;
      acts = acts;
      here = refl;
    }

-- ---- what is computed is so
pub true_of : (b : Bool) → T b → b ≡ true
true_of true t = refl
true_of false t = absurd t

pub false_of : (b : Bool) → T (not b) → b ≡ false
false_of b t = not-true b (true_of (not b) t)

-- ---- phone 5 asks last
run-then : (rule : Rule) (f : Farm) (acts : List Act) (a : Act) → run rule f (acts ++ a ∷ []) ≡ act rule (run rule f acts) a
unfolding run
run-then rule f [] a = refl
run-then rule f (b ∷ acts) a = run-then rule (act rule f b) acts a

pub reached-asking : (rule : Rule) (n : ℕ) → n ≤ servers → (acts : List Act) → Reached rule n (act rule (run rule (new n) acts) reads5)
reached-asking rule n few acts =
    subst (Reached rule n) (run-then rule (new n) acts reads5) (reached rule n few (acts ++ reads5 ∷ []))

pub asks-last : (rule : Rule) (f : Farm) → asked5 f ∈ (act rule f reads5).sent.requests
unfolding act
asks-last rule f = Memᴰ.head refl

pub asks-a-read : (f : Farm) → (asked5 f).request ≡ Read 300
unfolding asking
asks-a-read f = refl

-- ---- phone 5's read is served at a server, and finds the first of what it must find
module _ (n : ℕ) (few : n ≤ servers) (acts : List Act) (j : ℕ) (chosen : Choice → Bool) (these : Asked → List Record) (w : Record) (others : List Record) where
  abbrev at_last : Farm
  at_last = act step (run step (new n) acts) reads5

  abbrev is_served : Farm → Bool
  is_served f = is_done (serve step (act step f reads5) (server j) (asked5 f)).reply

  abbrev owes : Farm → Bool
  owes f = same_records (these (asked5 f)) (w ∷ others)

  applied :
      Finds chosen these step n at_last
      → (let f = run step (new n) acts in T (is_served f && chosen (asked5 f).choice && owes f))
      → w ∈ performed_by (serving step at_last (server j) (asked5 (run step (new n) acts))) (server j)
  applied h t =
      let f = run step (new n) acts in
      let b = both _ (owes f) (true_of _ t) in
      let a = both (is_served f) (chosen (asked5 f).choice) b.0 in
      h (asked5 f) 300 (server j) (asks-last step f) (asks-a-read f) a.1 (eqb-true _ 0 a.0) w
      (subst (λ (l : List Record). w ∈ l) (sym (same-records (these (asked5 f)) (w ∷ others) b.1)) (Memᴰ.head refl))

-- example 2: its session had seen the first write
pub stays2 :
    let f = run step (new 3) late2 in first2 ∈ performed_by (serving step (act step f reads5) (server 2) (asked5 f)) (server 2)
unfolding acted
stays2 =
    applied 3 (omega arith) late2 2 stays_read (λ q. q.seen) first2 (first2 ∷ [])
    (demand-3 3 (act step (run step (new 3) late2) reads5) (reached-asking step 3 (omega arith) late2)).reads_stay
    tt

-- and own writes: under 2 it had written
pub found :
    let f = run step (new 2) (saved_late Writes) in
    first8 ∈ performed_by (serving step (act step f reads5) (server 1) (asked5 f)) (server 1)
unfolding acted
found =
    applied 2 (omega arith) (saved_late Writes) 1 finds_own (λ q. q.wrote) first8 []
    (own-found 2 (act step (run step (new 2) (saved_late Writes)) reads5) (reached-asking step 2 (omega arith) (saved_late Writes)))
    tt

-- ---- example 8: the server is down
is-down8 : T (not ((cut8 step).servers 0).state.up)
unfolding acted
is-down8 = tt

pub holds8 : Recovered step (cut8 step) (server 0) other
holds8 =
    (demand-3 2 (cut8 step) (reached step 2 (omega arith) acts8)).recovery (server 0) (omega arith) (false_of _ is-down8) other lent
