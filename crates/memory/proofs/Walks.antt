-- Laws of walks over records: what a walk says, one that goes on, one record more, a record that fails, and the end.
-- Assumes nothing.
use Prim.Native.Nat.{ℕ, ◌+◌, ◌≤◌, ◌<◌, max}
use mathlib.Core.Bool.{Bool, true, false, ◌&&◌, cond, and-false, false≢true}
use mathlib.Core.List.{List, [], ◌∷◌, ◌++◌, map, map-append}
use mathlib.Core.Path.{◌≡◌, refl, ap, sym, ◌∙◌, subst}
use native.Mathlib.Nat.{add_comm}
use native.Mathlib.Omega.{arith}
use lib.ListN.{length, length-append, length-map, length-take, get_or, take, set}
use lib.Seq.{get_or_at}
use Rattle.std.specs.Prelude.{Option, Some, None}
use Rattle.notes.specs.Lists.{every, same}
use Rattle.notes.specs.Index.{servers}
use Rattle.notes.specs.Vector.{vector, zeros, raised}
use Rattle.notes.specs.Record.{decode, number, well_formed}
use Rattle.notes.specs.declared.vector.Vector.{Vector}
use Rattle.notes.specs.declared.record.Record.{Record}
use Rattle.notes.proofs.Lists.{both, every_append, every-fails}
use Rattle.notes.proofs.Numbers.{from_one}
use Rattle.rules.specs.Writes.{keep, counting, server_ids, writes_of, count_of, tally, in_turn}
use Rattle.laws.proofs.Writes.{InTurn, in-turn, turn_in, turn_more, turn-first, tally-more, at-tally, writes_of-append, writes_of-here}
use Rattle.laws.proofs.Lists.{counting-at, every_take}
use Rattle.laws.proofs.Stamps.{at-few}
use Rattle.laws.proofs.Sound.{formed-origin}
use Rattle.memory.specs.Forms.{walk_of}
use Rattle.memory.proofs.Listed.{length-listed, take-listed, listed-at, listed-more, listed-all}

-- ---- what a walk says
abbrev said : Bool → List Record → Option Vector
said t rs = cond t (Some (tally rs)) None

module _ (n : ℕ) (rs : List Record) where
  abbrev passes : Bool
  passes = every (well_formed n) rs && in_turn rs

  -- it says no counts where a record fails, and otherwise their tally
  pub walked-not : walk_of n rs ≡ None → (every (well_formed n) rs && in_turn rs) ≡ false
  unfolding walk_of
  walked-not e = go passes e
    where
      go : (t : Bool) → said t rs ≡ None → t ≡ false
      go true e = cc
      go false e = refl

  pub walked : (v : Vector) → walk_of n rs ≡ Some v → ((every (well_formed n) rs && in_turn rs) ≡ true) × (v ≡ tally rs)
  unfolding walk_of
  walked v e = go passes e
    where
      go : (t : Bool) → said t rs ≡ Some v → (t ≡ true) × (v ≡ tally rs)
      go true e = (refl, cc)
      go false e = cc

-- in a list in turn the last write's number is the next of its origin
last-next : (p : List Record) (r : Record) → r.origin.0 < servers → InTurn (p ++ r ∷ []) → number r ≡ count_of r.origin p + 1
last-next p r low t =
    let w = writes_of r.origin p in
    let e : map number w ++ number r ∷ [] ≡ counting 1 (length w + 1) =
    rw (writes_of-append r.origin p (r ∷ []), writes_of-here r.origin r refl, map-append, length-append) at (t r.origin low) in
    let a = get_or_at (map number w) (number r) [] 0 (length w) (length-map w number) in
    sym a ∙ ap (λ (l : List ℕ). get_or l (length w) 0) e ∙ counting-at 1 (length w + 1) (length w) (omega arith) ∙ add_comm 1 (length w)

-- records that passed, with their counts
pub record Passed (n : ℕ) (p : List Record) (counts : List ℕ) : Type 0 where
  pub formed : every (well_formed n) p ≡ true
  pub turns : InTurn p
  pub tallied : counts ≡ (tally p).counts

-- of no records all counts are zero
pub walk_none : (n : ℕ) → walk_of n [] ≡ Some zeros
unfolding walk_of every same in_turn tally server_ids writes_of keep counting
walk_none n = refl

module _ (n : ℕ) (p : List Record) (r : Record) (v : List ℕ) (w : Passed n p v) where
  abbrev o : ℕ
  o = r.origin.0

  counted : o < servers → get_or v o 0 ≡ count_of r.origin p
  counted low = ap (λ (l : List ℕ). get_or l o 0) w.tallied ∙ at-tally p r.origin low

  -- one more, well formed and next of its origin
  passed-more :
      n ≤ servers
      → well_formed n r ≡ true
      → number r ≡ get_or v o 0 + 1
      → Passed n (p ++ r ∷ []) (set v o (get_or v o 0 + 1))
  unfolding every raised
  passed-more few ok next =
      let low : o < servers = omega (arith, formed-origin n r ok) in
      let c = counted low in
      let m : max (count_of r.origin p) (count_of r.origin p + 1) ≡ count_of r.origin p + 1 = omega arith in
      record {
        formed = rw (every_append (well_formed n) p (r ∷ []), w.formed, ok);
        turns = turn_more p r w.turns (omega (arith, next, c));
        tallied =
            rw (c, w.tallied)
            (sym (ap (λ (v : Vector). v.counts) (tally-more p r low) ∙ rw (at-tally p r.origin low, m)));
      }

  -- one whose number is not the next
  not-next : o < servers → (number r ≡ get_or v o 0 + 1 → ⊥) → InTurn (p ++ r ∷ []) → ⊥
  not-next low differs t = differs (last-next p r low t ∙ ap (λ (k : ℕ). k + 1) (sym (counted low)))

module _ (n : ℕ) (b : List (List ℕ)) where
  abbrev rs : List Record
  rs = map decode b

  -- record k
  abbrev pub this : ℕ → Record
  this k = decode (get_or b k [])

  -- its first byte is its origin
  abbrev pub origin : ℕ → ℕ
  origin k = get_or (get_or b k []) 0 0

  pub origin-at : (k : ℕ) → (this k).origin.0 ≡ origin k
  unfolding decode
  origin-at k = from_one 0 (get_or b k [])

  pub origin-low : (k : ℕ) → n ≤ servers → well_formed n (this k) ≡ true → origin k < servers
  origin-low k few ok = omega (arith, formed-origin n (this k) ok, origin-at k)

  -- the first k records passed, with these counts
  abbrev pub Walked : ℕ → List ℕ → Type 0
  Walked k v = Passed n (take k (map decode b)) v

  -- the first have been walked over
  pub walked-first : (k : ℕ) (v : Vector) → walk_of n (map decode (take k b)) ≡ Some v → Walked k v.counts
  walked-first k v e =
      let p = map decode (take k b) in
      let w = walked n p v e in
      let f = both (every (well_formed n) p) (in_turn p) w.0 in
      rw (take-listed b k)
      (record {
        formed = f.0;
        turns = in-turn p f.1;
        tallied = ap (λ (t : Vector). t.counts) w.1;
      })

  -- where the first fail, all do
  pub first-fails : (k : ℕ) → walk_of n (map decode (take k b)) ≡ None → (every (well_formed n) (map decode b) && in_turn (map decode b)) ≡ false
  first-fails k e = go (passes n rs) refl
    where
      go : (t : Bool) → passes n rs ≡ t → passes n rs ≡ false
      go true q =
          let f = both (every (well_formed n) rs) (in_turn rs) q in
          let formed = every_take (well_formed n) k rs f.0 in
          let turns = turn_in (take k rs) (turn-first rs k (in-turn rs f.1)) in
          let failed : passes n (take k rs) ≡ false = rw (take-listed b k) (walked-not n (map decode (take k b)) e) in
          absurd (false≢true (sym (rw (formed, turns) at failed)))
      go false q = q

  module _ (k : ℕ) (h : k < length b) where
    pub walked_more :
        (v : List ℕ)
        → Walked k v
        → n ≤ servers
        → well_formed n (this k) ≡ true
        → number (this k) ≡ get_or v (origin k) 0 + 1
        → Walked (k + 1) (set v (origin k) (get_or v (origin k) 0 + 1))
    walked_more v w few ok =
        subst (λ (x : ℕ). number (this k) ≡ get_or v x 0 + 1 → Walked (k + 1) (set v x (get_or v x 0 + 1))) (origin-at k)
        (λ next. rw (listed-more b k h []) (passed-more n (take k rs) (this k) v w few ok next))

    -- a record that is not well formed, or not the next of its origin
    pub walk-unformed : well_formed n (this k) ≡ false → None ≡ walk_of n (map decode b)
    unfolding walk_of
    walk-unformed e =
        rw (every-fails (well_formed n) rs k (decode []) (rw length-listed h) (ap (well_formed n) (listed-at b k h [] (decode [])) ∙ e))

    pub walk-unturned :
        (v : List ℕ)
        → Walked k v
        → origin k < servers
        → (number (this k) ≡ get_or v (origin k) 0 + 1 → ⊥)
        → None ≡ walk_of n (map decode b)
    unfolding walk_of
    walk-unturned v w low differs = go (in_turn rs) refl
      where
        go : (t : Bool) → in_turn rs ≡ t → None ≡ walk_of n rs
        go true e =
            absurd
            (not-next n (take k rs) (this k) v w (rw origin-at low) (λ q. differs (q ∙ ap (λ (x : ℕ). get_or v x 0 + 1) (origin-at k)))
            (rw (listed-more b k h []) at (turn-first rs (k + 1) (in-turn rs e))))
        go false e = rw (e, and-false)

  pub walk-done : (k : ℕ) (v : List ℕ) → length b ≤ k → Walked k v → Some (vector v) ≡ walk_of n (map decode b)
  unfolding walk_of
  walk-done k v h w =
      let all = listed-all b k h in
      rw (rw all at w.formed, turn_in rs (rw all at w.turns))
      (ap {B = Option Vector} (λ (l : List ℕ). Some (vector l)) (rw all at w.tallied))

  -- counts stay small
  pub walked-few : (k : ℕ) (v : List ℕ) → Walked k v → (i : ℕ) → get_or v i 0 ≤ k
  walked-few k v w i = rw w.tallied (omega (arith, at-few (take k rs) i, length-take k rs))
