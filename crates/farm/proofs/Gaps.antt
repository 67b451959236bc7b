-- No write of a message is refused: none comes after a gap, and none of the receiver's own origin is ahead of it.
-- Assumes nothing.
use Prim.Native.Nat.{ℕ, zero, suc, ◌+◌, ◌-◌, ◌≤◌, ◌<◌, max}
use mathlib.Core.List.Memᴰ
use mathlib.Core.List.{List, [], ◌∷◌, ◌++◌, append_assoc}
use mathlib.Core.Logic.{◌⊎◌, inl, inr}
use mathlib.Core.Option.{none}
use mathlib.Core.Path.{◌≡◌, refl, ap, sym, subst, ◌∙◌}
use native.Mathlib.Decide.{ℕ_discrete, dec_lt}
use native.Mathlib.Omega.{arith}
use borrow.Author.Tests.{eqb-true}
use lib.ListN.{length, length-append, length-set}
use Rattle.notes.specs.Index.{servers}
use Rattle.notes.specs.Vector.{at, raised}
use Rattle.notes.specs.Record.{number}
use Rattle.notes.specs.declared.index.ServerId.{ServerId}
use Rattle.notes.specs.declared.record.Record.{Record}
use Rattle.notes.specs.declared.vector.Vector.{Vector}
use Rattle.notes.proofs.Pieces.{Each}
use Rattle.notes.proofs.Vectors.{at-raised, at-raised-other}
use Rattle.rules.specs.Writes.{server, writes_of, count_of, tally}
use Rattle.rules.specs.Step.{vector_after, and_then, taken}
use Rattle.laws.proofs.Writes.{From, at-tally, length-tally, same-server}
use Rattle.laws.proofs.Sound.{Next}
use Rattle.farm.specs.Demand.{◌∈◌}
use Rattle.farm.proofs.Prefix.{each-mem, mem-each, pre-length, keep-mem}
use Rattle.farm.proofs.Held.{Numbered, Held}
use Rattle.farm.proofs.Taken.{turned, writes_at, mem-split, number_at, held-placed, held-covered}

-- of each origin the numbers ascend
unfoldable pub Climbs : List Record → Type 0
Climbs [] = Unit {0}
Climbs (r ∷ rs) = Each (λ x. x.origin.0 ≡ r.origin.0 → number r < number x) rs × Climbs rs

length-raised : (v : Vector) (s : ServerId) (k : ℕ) → length (raised v s k).counts ≡ length v.counts
unfolding raised
length-raised v s k = length-set v.counts s.0 (max (at v s) k)

-- a write of this origin and number
pub record Named (rs : List Record) (o k : ℕ) : Type 0 where
  pub write : Record
  pub listed : write ∈ rs
  pub origin : write.origin.0 ≡ o
  pub numbered : number write ≡ k

module _ (own : ServerId) (n : ℕ) (few : n ≤ servers) (top : ℕ → ℕ) where
  -- every number above V and at most the sender's is still to come
  abbrev pub Coming : Vector → List Record → Type 0
  Coming v rs = (o : ℕ) → o < n → (k : ℕ) → at v (server o) < k → k ≤ top o → Named rs o k

  abbrev Unrefused : List Record → Type 0
  Unrefused rs =
      (v : Vector)
      → length v.counts ≡ servers
      → Each (λ r. (r.origin.0 < n) × (number r ≤ top r.origin.0)) rs
      → Climbs rs
      → top own.0 ≤ at v own
      → Coming v rs
      → (taken own v rs).refusal ≡ none

  module _
      (r : Record)
      (rs : List Record)
      (ih : Unrefused rs)
      (v : Vector)
      (e : length v.counts ≡ servers)
      (low : r.origin.0 < n)
      (known : number r ≤ top r.origin.0)
      (rest : Each (λ r. (r.origin.0 < n) × (number r ≤ top r.origin.0)) rs)
      (above : Each (λ x. x.origin.0 ≡ r.origin.0 → number r < number x) rs)
      (climbs : Climbs rs)
      (mine : top own.0 ≤ at v own)
      (coming : Coming v (r ∷ rs))
    where
      abbrev o : ℕ
      o = r.origin.0

      -- what is to come is to come behind r, where it is not r
      behind : (p k : ℕ) → (p ≡ o → number r ≡ k → ⊥) → Named (r ∷ rs) p k → Named rs p k
      behind p k q x = go (Memᴰ.cases_cons x.listed)
        where
          go : (x.write ≡ r) ⊎ (x.write ∈ rs) → Named rs p k
          go (inl z) = absurd (q (sym x.origin ∙ ap (λ (w : Record). w.origin.0) z) (sym (ap number z) ∙ x.numbered))
          go (inr z) = record { write = x.write; listed = z; origin = x.origin; numbered = x.numbered }

      skip : number r ≤ at v r.origin → (taken own v rs).refusal ≡ none
      skip l =
          ih v e rest climbs mine
          (λ p low k a b.
          behind p k (λ s z. omega (arith, l, z, a, ap (λ (i : ℕ). at v (server i)) s)) (coming p low k a b))

      here : at (raised v r.origin (number r)) r.origin ≡ max (at v r.origin) (number r)
      here = at-raised v r.origin (number r) (omega (arith, e, low, few))

      add : Next own v r → (taken own (raised v r.origin (number r)) rs).refusal ≡ none
      add x =
          ih (raised v r.origin (number r)) (length-raised v r.origin (number r) ∙ e) rest climbs
          (omega (arith, mine, at-raised-other v r.origin own (number r) (λ z. x.foreign (sym z))))
          (λ p low k a b. more p low k a b (ℕ_discrete p o))
        where
          more : (p : ℕ) → p < n → (k : ℕ) → at (raised v r.origin (number r)) (server p) < k → k ≤ top p → Dec (p ≡ o) → Named rs p k
          more p low k a b (yes s) =
              let there = ap (λ (i : ℕ). at (raised v r.origin (number r)) (server i)) s in
              let was = ap (λ (i : ℕ). at v (server i)) s in
              behind p k (λ q z. omega (arith, here, there, a, z)) (coming p low k (omega (arith, here, there, was, a)) b)
          more p low k a b (no s) =
              behind p k (λ q z. s q) (coming p low k (omega (arith, a, at-raised-other v r.origin (server p) (number r) s)) b)

      refuse : at v r.origin < number r → (number r ≤ at v r.origin + 1 → r.origin.0 ≡ own.0) → ⊥
      refuse l q = go (dec_lt (at v r.origin + 1) (number r))
        where
          go : Dec (at v r.origin + 1 < number r) → ⊥
          go (no z) =
              let s = q (omega arith) in
              omega (arith, l, mine, known, ap top s, ap (λ (i : ℕ). at v (server i)) s)
          go (yes z) =
              let x = coming o low (at v r.origin + 1) (omega arith) (omega (arith, known)) in
              let y = behind o (at v r.origin + 1) (λ s w. omega (arith, w, z)) x in
              omega (arith, z, y.numbered, each-mem _ rs above y.listed y.origin)

      pub no-gap-one : (taken own v (r ∷ rs)).refusal ≡ none
      unfolding taken
      no-gap-one =
          turned own v r (λ x. (and_then x v r (taken own (vector_after x v r) rs)).refusal ≡ none) skip add
          (λ k l q. absurd (refuse l q))

  pub no_gap : (rs : List Record) → Unrefused rs
  unfolding taken Climbs
  no_gap [] v e f c m t = refl
  no_gap (r ∷ rs) v e f c m t = no-gap-one r rs (no_gap rs) v e f.0.0 f.0.1 f.1 c.0 c.1 m t

-- ---- a whole history climbs, and has every number up to its counts

nth-split : (l : List Record) (k : ℕ) → k < length l → (p : List Record) × (x : Record) × (q : List Record) × (p ++ x ∷ q ≡ l) × (length p ≡ k)
nth-split [] k h = absurd (omega arith)
nth-split (y ∷ ys) zero h = ([], y, ys, refl, refl)
nth-split (y ∷ ys) (suc k) h =
    let s = nth-split ys k (omega arith) in
    (y ∷ s.0, s.1, s.2, ap (λ (l : List Record). y ∷ l) s.3, ap suc s.4)

module _ (n : ℕ) (c : Numbered) (few : n ≤ servers) (runs : (o : ℕ) → o < n → From 0 (c o)) where
  module _ (rs : List Record) (k : Held n c rs) where
    placed : (d rest : List Record) (r : Record) → d ++ r ∷ rest ≡ rs → number r ≡ count_of r.origin d + 1
    placed d rest r e =
        let mine = writes_of r.origin in
        let p = held-placed n c few runs rs k r (subst (λ (l : List Record). r ∈ l) e (Memᴰ.append_right d (Memᴰ.head refl))) in
        number_at n c few runs r.origin.0 p.low (mine rs) (mine d) (mine rest) r (k.begins r.origin.0 p.low) (sym (writes_at r d rest) ∙ ap mine e)

    climbs : (d l : List Record) → d ++ l ≡ rs → Climbs l
    unfolding Climbs
    climbs d [] e = tt
    climbs d (r ∷ l) e = (mem-each _ l later, climbs (d ++ r ∷ []) l (append_assoc d (r ∷ []) l ∙ e))
      where
        later : (x : Record) → x ∈ l → x.origin.0 ≡ r.origin.0 → number r < number x
        later x y o =
            let s = mem-split l x y in
            let before = d ++ r ∷ s.0 in
            let at_x = placed before s.1 x (append_assoc d (r ∷ s.0) (x ∷ s.1) ∙ ap (λ (z : List Record). d ++ r ∷ z) s.2 ∙ e) in
            let same = ap (λ (o : ServerId). count_of o before) (same-server x.origin r.origin o) in
            omega (
              arith,
              at_x,
              same,
              placed d l r e,
              ap length (writes_at r d s.0),
              length-append (writes_of r.origin d) (r ∷ writes_of r.origin s.0),
            )

    coming : (v : Vector) (o : ℕ) → o < n → (number : ℕ) → at v (server o) < number → number ≤ at (tally rs) (server o) → Named rs o number
    unfolding writes_of
    coming v o low num above most =
        let l = writes_of (server o) rs in
        let s = nth-split l (num - 1) (omega (arith, at-tally rs (server o) (omega (arith, low, few)))) in
        let x = s.1 in
        let there = keep-mem _ rs (subst (λ (z : List Record). x ∈ z) s.3 (Memᴰ.append_right s.0 (Memᴰ.head refl))) in
        record {
          write = x;
          listed = there.0;
          origin = eqb-true x.origin.0 o there.1;
          numbered = omega (arith, above, s.4, number_at n c few runs o low l s.0 s.2 x (k.begins o low) s.3);
        }

  -- a server that keeps all of its own takes a whole history
  pub none-refused :
      (own : ServerId) (h rs : List Record)
      → own.0 < n
      → writes_of own h ≡ c own.0
      → Held n c rs
      → (taken own (tally h) rs).refusal ≡ none
  none-refused own h rs low e k =
      no_gap own n few (λ o. at (tally rs) (server o)) rs (tally h) (length-tally h)
      (mem-each _ rs (λ w y. let v = held-covered n c few runs rs k w y in (v.placed.low, v.counted)))
      (climbs rs k [] rs refl)
      (omega (
        arith,
        at-tally rs own (omega (arith, low, few)),
        at-tally h own (omega (arith, low, few)),
        ap length e,
        pre-length (writes_of own rs) (c own.0) (k.begins own.0 low),
      ))
      (coming rs k (tally h))
