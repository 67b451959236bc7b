-- Demand 3 and the sentence on own writes exclude wrong servers, each by the clause that it breaks in a run of its own; and the right server breaks a sentence that claims too much.
-- Assumes nothing.
use Prim.Native.Nat.{ℕ, ◌≤◌, ◌<◌}
use mathlib.Core.Bool.{Bool, true, not, ◌&&◌, true≢false}
use mathlib.Core.List.Memᴰ
use mathlib.Core.List.{List, [], ◌∷◌, ◌++◌, flat_map}
use mathlib.Core.Path.{◌≡◌, refl, ap, sym, ◌∙◌}
use native.Mathlib.Omega.{arith}
use borrow.Author.Tests.{eqb-true, eqb-false, not-true}
use lib.Dec.{T, eqb}
use lib.ListN.{length}
use Rattle.notes.specs.Index.{servers}
use Rattle.notes.proofs.Lists.{both}
use Rattle.notes.specs.declared.session.Choice.TheVariants.{Reads, Writes}
use Rattle.rules.specs.Writes.{server, writes_of}
use Rattle.rules.specs.Memory.{writes}
use Rattle.rules.specs.Image.{checkpoint, log}
use Rattle.rules.specs.Sound.{later, sound}
use Rattle.rules.specs.Step.{step}
use Rattle.farm.specs.Farm.{Choice, Record, Rule, Asked, Attempt, Farm, performed_by, attempted, Act, serves, cut_serving, cuts, takes, hears, is_done, serve, serving, recover, recovering, act, run}
use Rattle.farm.specs.Demand.{◌∈◌, AllSound, Recovered, Recovery, OwnStay, Finds, stays_read, ReadsStay, finds_own, OwnFound, Excluded}
use Rattle.refused.specs.Wrong.{logs_nothing, only_replies, logs_the_first, takes_the_whole_t, restores_nothing, drops_the_last, replays_all, counts_first, clears_the_log_first, serves_always}
use Rattle.farm.proofs.Prefix.{keep-mem}
use Rattle.farm.proofs.Acted.{acted, new, other, writes5, reads5, asked5, tell, comes_back, acts8, saved, read6}
use Rattle.farm.proofs.Worked.{true_of, false_of, lent, reached, reached-asking, asks-last, asks-a-read}

-- an empty list
none_in : {A : Type 0} (l : List A) → length l ≡ 0 → {x : A} → x ∈ l → ⊥
none_in l e (Memᴰ.head {x = y} {xs = ys} p) = omega arith
none_in l e (Memᴰ.tail {x = y} {xs = ys} m) = omega arith

none_seen : {A : Type 0} (l : List A) → ((x : A) → x ∈ l → ⊥) → length l ≡ 0
none_seen [] h = refl
none_seen (x ∷ l) h = absurd (h x (Memᴰ.head refl))

none-attempted : (l : List Attempt) → ((a : Attempt) → a ∈ l → (w : Record) → w ∈ attempted a → ⊥) → length (flat_map attempted l) ≡ 0
unfolding flat_map
none-attempted [] h = refl
none-attempted (a ∷ l) h = go (attempted a) (h a (Memᴰ.head refl)) (none-attempted l (λ b m. h b (Memᴰ.tail m)))
  where
    go : (r : List Record) → ((w : Record) → w ∈ r → ⊥) → length (flat_map attempted l) ≡ 0 → length (r ++ flat_map attempted l) ≡ 0
    go [] k e = e
    go (w ∷ r) k e = absurd (k w (Memᴰ.head refl))

-- server 0: is it down, and what its image gives
abbrev is_down0 : Farm → Bool
is_down0 f = not (f.servers 0).state.up

abbrev to_hold : Farm → List Record
to_hold f =
    let image = (f.servers 0).image in
    checkpoint image ++ later (server 0) (checkpoint image) (log image)

-- ---- a run of a wrong rule in which a clause fails. What is computed names the run once, and so computes it once
module _ (rule : Rule) (n : ℕ) (few : n ≤ servers) (acts : List Act) where
  abbrev f : Farm
  f = run rule (new n) acts

  abbrev breaks : (Clause : Rule → ℕ → Farm → Type 0) → (Clause rule n f → ⊥) → Excluded rule Clause
  breaks Clause fails = record { n = n; farm = f; reached = reached rule n few acts; fails = fails }

  -- a server is not sound
  not_sound : (j : ℕ) → j < n → T (not (sound (f.servers j))) → Excluded rule AllSound
  not_sound j low t = breaks AllSound (λ h. true≢false (sym (h (server j) low) ∙ false_of (sound (f.servers j)) t))

  -- server 0 is down, and its recovery ..
  module _ (low : 0 < n) where
    back : not (f.servers 0).state.up ≡ true → Recovery rule n f → Recovered rule f (server 0) other
    back d h = h (server 0) low (not-true (f.servers 0).state.up d) other lent

    -- .. is refused
    refused : (let g = f in T (is_down0 g && not (is_done (recover rule g (server 0) other).reply))) → Excluded rule Recovery
    refused t =
        let b = both (is_down0 f) _ (true_of _ t) in
        breaks Recovery (λ h. eqb-false (recover rule f (server 0) other).reply.number 0 (not-true _ b.1) (back b.0 h).done)

    -- .. gives more writes or fewer than checkpoint and log have
    other-writes :
        (let g = f in T (is_down0 g && not (eqb (length (writes (recover rule g (server 0) other).after)) (length (to_hold g)))))
        → Excluded rule Recovery
    other-writes t =
        let b = both (is_down0 f) _ (true_of _ t) in
        breaks Recovery (λ h. eqb-false _ _ (not-true _ b.1) (ap length (back b.0 h).holds))

    -- .. gives none, though one was performed
    all-missing :
        (let g = f in T (is_down0 g && eqb (length (performed_by (recovering rule g (server 0) other) (server 0))) 0 && not (eqb (length (flat_map attempted (g.ledger.performed 0))) 0)))
        → Excluded rule Recovery
    all-missing t =
        let b = both _ _ (true_of _ t) in
        let a = both (is_down0 f) _ b.0 in
        breaks Recovery
        (λ h.
        eqb-false _ _ (not-true _ b.1)
        (none-attempted (f.ledger.performed 0) (λ x m w z. none_in _ (eqb-true _ 0 a.1) ((back a.0 h).none_missing x m w z))))

  -- server 0 is up, holds a write of its own, and is up again without any
  all-lost :
      (more : List Act)
      → 0 < n
      → (let g = f in
      let later = run rule g more in
      T ((g.servers 0).state.up && (later.servers 0).state.up && eqb (length (performed_by later (server 0))) 0 && not (eqb (length (writes_of (server 0) (performed_by g (server 0)))) 0)))
      → Excluded rule OwnStay
  unfolding writes_of
  all-lost more low t =
      let d = both _ _ (true_of _ t) in
      let c = both _ _ d.0 in
      let b = both (f.servers 0).state.up _ c.0 in
      breaks OwnStay
      (λ h.
      eqb-false _ _ (not-true _ d.1)
      (none_seen (writes_of (server 0) (performed_by f (server 0)))
      (λ w m.
      let k = keep-mem _ (performed_by f (server 0)) m in
      none_in _ (eqb-true _ 0 c.1) (h more (server 0) low b.0 b.1 w (eqb-true w.origin.0 0 k.1) k.0))))

  -- phone 5 asks, and is served where no write is held, though it must find one
  unfound :
      (chosen : Choice → Bool) (these : Asked → List Record) (j : ℕ)
      → (let g = f in
      let q = asked5 g in
      let asked = act rule g reads5 in
      T (is_done (serve rule asked (server j) q).reply && chosen q.choice && eqb (length (performed_by (serving rule asked (server j) q) (server j))) 0 && not (eqb (length (these q)) 0)))
      → Excluded rule (Finds chosen these)
  unfound chosen these j t =
      let d = both _ _ (true_of _ t) in
      let b = both _ _ d.0 in
      let a = both _ _ b.0 in
      record {
        n = n;
        farm = act rule f reads5;
        reached = reached-asking rule n few acts;
        fails = λ h.
            eqb-false _ _ (not-true _ d.1)
            (none_seen (these (asked5 f))
            (λ w m. none_in _ (eqb-true _ 0 b.1) (h (asked5 f) 300 (server j) (asks-last rule f) (asks-a-read f) a.1 (eqb-true _ 0 a.0) w m)));
      }

-- ---- every step is done, and leaves a server that is not sound

pub logs-nothing : Excluded logs_nothing AllSound
unfolding acted logs_nothing
logs-nothing = not_sound logs_nothing 2 (omega arith) (writes5 7 ∷ serves 0 (server 0) ∷ []) 0 (omega arith) tt

pub logs-the-first : Excluded logs_the_first AllSound
unfolding acted logs_the_first
logs-the-first =
    not_sound logs_the_first 2 (omega arith) (writes5 7 ∷ serves 0 (server 0) ∷ serves 0 (server 0) ∷ []) 0 (omega arith) tt

-- of example 2 what is needed: V says of server 2 that it has performed what it has not
abbrev whole : List Act
whole =
    writes5 7
    ∷ serves 0 (server 1)
    ∷ tell 1
    ∷ takes 0 (server 0)
    ∷ serves 0 (server 0)
    ∷ cuts (server 0)
    ∷ comes_back 0
    ∷ tell 0
    ∷ takes 0 (server 2)
    ∷ []

pub takes-the-whole-t : Excluded takes_the_whole_t AllSound
unfolding acted takes_the_whole_t
takes-the-whole-t = not_sound takes_the_whole_t 3 (omega arith) whole 2 (omega arith) tt

-- ---- a server that is down does not come back with what it must hold

-- a write, and a plain cut
abbrev wrote : List Act
wrote = writes5 7 ∷ serves 0 (server 0) ∷ cuts (server 0) ∷ []

pub restores-nothing : Excluded restores_nothing Recovery
unfolding acted restores_nothing
restores-nothing = other-writes restores_nothing 2 (omega arith) wrote (omega arith) tt

-- sound all the while: it has told the phone of a write that it never had
pub only-replies : Excluded only_replies Recovery
unfolding acted only_replies
only-replies = all-missing only_replies 2 (omega arith) wrote (omega arith) tt

pub drops-the-last : Excluded drops_the_last Recovery
unfolding acted drops_the_last
drops-the-last = other-writes drops_the_last 2 (omega arith) wrote (omega arith) tt

-- example 8 at 29: the write stands in the checkpoint, and in the log
pub replays-all : Excluded replays_all Recovery
unfolding acted replays_all
replays-all = other-writes replays_all 2 (omega arith) acts8 (omega arith) tt

-- example 7 at 1: the log counts a record that is not there
pub counts-first : Excluded counts_first Recovery
unfolding acted counts_first
counts-first = refused counts_first 2 (omega arith) (writes5 7 ∷ cut_serving 0 (server 0) 1 ∷ []) (omega arith) tt

-- example 8 at 29: the write that was performed stands neither in the checkpoint nor in the log
pub clears-the-log-first : Excluded clears_the_log_first Recovery
unfolding acted clears_the_log_first
clears-the-log-first = all-missing clears_the_log_first 2 (omega arith) acts8 (omega arith) tt

-- example 7 at 29, then example 8 at 29: the write that a recovery had brought back, and that nobody was told of, is lost
pub loses-what-came-back : Excluded clears_the_log_first OwnStay
unfolding acted clears_the_log_first
loses-what-came-back =
    all-lost clears_the_log_first 2 (omega arith) (writes5 7 ∷ cut_serving 0 (server 0) 29 ∷ comes_back 0 ∷ [])
    (reads5 ∷ serves 0 (server 0) ∷ cut_serving 0 (server 0) 29 ∷ comes_back 0 ∷ [])
    (omega arith)
    tt

-- ---- a read is served at a server that lacks the write that the phone has read, or written, at another

pub serves-always : Excluded serves_always ReadsStay
unfolding acted serves_always
serves-always =
    unfound serves_always 2 (omega arith) (writes5 7 ∷ serves 0 (server 1) ∷ reads5 ∷ serves 0 (server 1) ∷ hears 0 ∷ []) stays_read (λ q. q.seen) 0 tt

pub serves-always-own : Excluded serves_always OwnFound
unfolding acted serves_always
serves-always-own = unfound serves_always 2 (omega arith) (saved Writes) finds_own (λ q. q.wrote) 1 tt

-- ---- and of the right server: what a session did not choose is not claimed, since it is not so. Under 2 a read may miss what was read,
-- under 1 what was written

pub not-under-two : Excluded step (Finds (λ c. true) (λ q. q.seen))
unfolding acted
not-under-two = unfound step 2 (omega arith) (read6 Writes) (λ c. true) (λ q. q.seen) 0 tt

pub not-under-one : Excluded step (Finds (λ c. true) (λ q. q.wrote))
unfolding acted
not-under-one = unfound step 2 (omega arith) (saved Reads) (λ c. true) (λ q. q.wrote) 1 tt
