-- Laws of a cell's winner: it is a write to the cell that no other write to the cell beats.
-- Assumes nothing.
use Prim.Native.Nat.{ℕ, ◌≤◌}
use mathlib.Core.Bool.{Bool, true, false, ◌&&◌, not, cond}
use mathlib.Core.List.Memᴰ
use mathlib.Core.List.{List, [], ◌∷◌, map, Memᴰ}
use mathlib.Core.Option
use mathlib.Core.Option.{Option, none, some, some-injective, none-ne-some}
use mathlib.Core.Path.{◌≡◌, refl, ap, sym, subst⁻¹, ◌∙◌}
use native.Mathlib.Omega.{arith}
use borrow.Author.Tests.{ltb-true, ltb-false, le-ltb, eqb-true, eqb-false, eq-eqb}
use lib.Dec.{ltb, eqb}
use Rattle.notes.specs.Lists.{every, above}
use Rattle.notes.specs.Record.{beats, rank}
use Rattle.notes.specs.declared.record.Record.{Record}
use Rattle.notes.proofs.Lists.{above-differs, above_same, neither}
use Rattle.notes.specs.declared.vector.Vector.{Vector}
use Rattle.rules.specs.Request.{value_of}
use Rattle.rules.specs.Writes.{keep_if, keep, better, best, winner}
use Rattle.laws.proofs.Lists.{keep-none}

-- ---- lists of numbers in order

-- no list is above itself, nor is each of two above the other
above-self : (x : List ℕ) → above x x ≡ false
unfolding above
above-self [] = refl
above-self (a ∷ x) = rw (above_same a a x x refl) (above-self x)

above-turned : (x y : List ℕ) → above x y ≡ true → above y x ≡ false
unfolding above
above-turned [] y h = cc
above-turned (a ∷ x) [] h = refl
above-turned (a ∷ x) (b ∷ y) h = go (above-turned x y) (eqb a b) refl
  where
    go : (above x y ≡ true → above y x ≡ false) → (t : Bool) → eqb a b ≡ t → above (b ∷ y) (a ∷ x) ≡ false
    go rest true q =
        let e = eqb-true a b q in
        rw (above_same b a y x (sym e)) (rest (rw (above_same a b x y e) at h))
    go rest false q =
        let d = eqb-false a b q in
        let l = ltb-true b a (rw (above-differs a b x y d) at h) in
        rw (above-differs b a y x (λ e. d (sym e))) (le-ltb a b (omega arith))

-- if a list is not above another, its first number is at most the other's
first-most : (a b : ℕ) (x y : List ℕ) → above (a ∷ x) (b ∷ y) ≡ false → a ≤ b
unfolding above
first-most a b x y h = ltb-false b a (neither (ltb b a) _ h).0

-- not above the second, which is not above the third: not above the third
above-through : (x y z : List ℕ) → above x y ≡ false → above y z ≡ false → above x z ≡ false
unfolding above
above-through [] y z h k = refl
above-through (a ∷ x) [] z h k = cc
above-through (a ∷ x) (b ∷ y) [] h k = k
above-through (a ∷ x) (b ∷ y) (c ∷ z) h k = go (above-through x y z) (eqb a c) refl
  where
    go :
        (above x y ≡ false → above y z ≡ false → above x z ≡ false)
        → (t : Bool)
        → eqb a c ≡ t
        → above (a ∷ x) (c ∷ z) ≡ false
    go rest true q =
        let l = first-most a b x y h in
        let m = first-most b c y z k in
        let e = eqb-true a c q in
        let f : a ≡ b = omega arith in
        let g : b ≡ c = omega arith in
        rw (above_same a c x z e) (rest (rw (above_same a b x y f) at h) (rw (above_same b c y z g) at k))
    go rest false q =
        let l = first-most a b x y h in
        let m = first-most b c y z k in
        rw (above-differs a c x z (eqb-false a c q)) (le-ltb c a (omega arith))

-- ---- records in order: the same, by their ranks

pub beats-self : (a : Record) → beats a a ≡ false
unfolding beats
beats-self a = above-self (rank a)

pub beats-turned : (a b : Record) → beats a b ≡ true → beats b a ≡ false
unfolding beats
beats-turned a b h = above-turned (rank a) (rank b) h

pub beats-through : (a b c : Record) → beats a b ≡ false → beats b c ≡ false → beats a c ≡ false
unfolding beats
beats-through a b c h k = above-through (rank a) (rank b) (rank c) h k

-- the phone's time has no part in it
abbrev pub timed : Record → ℕ → Record
timed r t = record { origin = r.origin; phone = r.phone; cell = r.cell; value = r.value; time = t; stamp = r.stamp }

pub time-free : (a b : Record) (t u : ℕ) → beats (timed a t) (timed b u) ≡ beats a b
unfolding beats
time-free a b t u = refl

-- ---- the best of some records: one of them that none of them beats

record Best (l : List Record) (w : Record) : Type 0 where
  among : Memᴰ w l
  unbeaten : (r : Record) → Memᴰ r l → beats r w ≡ false

-- what holds of the first and of each of the others holds of each
each :
    (P : Record → Type 0) {x : Record} {l : List Record}
    → P x
    → ((r : Record) → Memᴰ r l → P r)
    → (r : Record)
    → Memᴰ r (x ∷ l)
    → P r
each P h rest r (Memᴰ.head e) = subst⁻¹ P e h
each P h rest r (Memᴰ.tail m) = rest r m

-- the record kept at each turn is unbeaten by those before it
best-one : (w : Record) (l : List Record) (u : Record) → best (some w) l ≡ some u → Best (w ∷ l) u
unfolding best
best-one w [] u e =
    let q = some-injective w u e in
    record {
      among = Memᴰ.head (sym q);
      unbeaten = each (λ r. beats r u ≡ false) (rw q (beats-self u)) (λ r m. absurd (Memᴰ.not-nil m));
    }
best-one w (r ∷ l) u e = go (beats r w) refl (best-one (cond (beats r w) r w) l u e)
  where
    go : (t : Bool) → beats r w ≡ t → Best (cond t r w ∷ l) u → Best (w ∷ r ∷ l) u
    go true q b =
        record {
          among = Memᴰ.tail b.among;
          unbeaten =
              each (λ s. beats s u ≡ false) (beats-through w r u (beats-turned r w q) (b.unbeaten r (Memᴰ.head refl)))
              b.unbeaten;
        }
    go false q b =
        let k = b.unbeaten w (Memᴰ.head refl) in
        record {
          among =
              each (λ s. Memᴰ s (w ∷ r ∷ l)) (Memᴰ.head refl) (λ s m. Memᴰ.tail (Memᴰ.tail m)) u
              b.among;
          unbeaten =
              each (λ s. beats s u ≡ false) k
              (each (λ s. beats s u ≡ false) (beats-through r w u q k) (λ s m. b.unbeaten s (Memᴰ.tail m)));
        }

best_of : (l : List Record) (w : Record) → best none l ≡ some w → Best l w
unfolding best
best_of [] w e = absurd (none-ne-some w e)
best_of (x ∷ l) w e = best-one x l w e

-- some records have a best one
some-best : (w : Record) (l : List Record) → best (some w) l ≡ none → ⊥
unfolding best
some-best w [] e = none-ne-some w (sym e)
some-best w (r ∷ l) e = some-best (cond (beats r w) r w) l e

-- ---- those that pass a test

module _ (p : Record → Bool) where
  -- they are those of the list that pass
  kept_in : (l : List Record) (r : Record) → Memᴰ r (keep p l) → Memᴰ r l × (p r ≡ true)
  unfolding keep
  kept_in [] r m = absurd (Memᴰ.not-nil m)
  kept_in (x ∷ l) r m = go (kept_in l) (p x) refl r m
    where
      go :
          ((s : Record) → Memᴰ s (keep p l) → Memᴰ s l × (p s ≡ true))
          → (t : Bool)
          → p x ≡ t
          → (s : Record)
          → Memᴰ s (keep_if t x (keep p l))
          → Memᴰ s (x ∷ l) × (p s ≡ true)
      go rest true q =
          each (λ s. Memᴰ s (x ∷ l) × (p s ≡ true)) (Memᴰ.head refl, q) (λ s m. (Memᴰ.tail (rest s m).0, (rest s m).1))
      go rest false q = λ s m. (Memᴰ.tail (rest s m).0, (rest s m).1)

  in_kept : (l : List Record) (r : Record) → Memᴰ r l → p r ≡ true → Memᴰ r (keep p l)
  unfolding keep
  in_kept [] r m e = absurd (Memᴰ.not-nil m)
  in_kept (x ∷ l) r m e =
      each (λ s. p s ≡ true → Memᴰ s (keep p (x ∷ l))) (λ q. rw q (Memᴰ.head refl)) (later (p x) (in_kept l)) r m e
    where
      later :
          (t : Bool)
          → ((s : Record) → Memᴰ s l → p s ≡ true → Memᴰ s (keep p l))
          → (s : Record)
          → Memᴰ s l
          → p s ≡ true
          → Memᴰ s (keep_if t x (keep p l))
      later true rest s m e = Memᴰ.tail (rest s m e)
      later false rest s m e = rest s m e

  -- they have no best one exactly if none passes
  kept-none : (l : List Record) → best none (keep p l) ≡ none → every (λ r. not (p r)) l ≡ true
  unfolding best keep every
  kept-none [] e = refl
  kept-none (x ∷ l) e = go (kept-none l) (p x) e
    where
      go :
          (best none (keep p l) ≡ none → every (λ r. not (p r)) l ≡ true)
          → (t : Bool)
          → best none (keep_if t x (keep p l)) ≡ none
          → (not t && every (λ r. not (p r)) l) ≡ true
      go rest true e = absurd (some-best x (keep p l) e)
      go rest false e = rest e

-- ---- a cell's winner

module _ (c : ℕ) (rs : List Record) where
  -- there is none where every write is to another cell
  pub winner-none : winner c rs ≡ none → every (λ r. not (eqb r.cell c)) rs ≡ true
  unfolding winner
  winner-none e = kept-none (λ r. eqb r.cell c) rs e

  pub none-winner : every (λ r. not (eqb r.cell c)) rs ≡ true → winner c rs ≡ none
  unfolding winner best
  none-winner e = rw (keep-none (λ r. eqb r.cell c) rs e)

  -- otherwise it is a write to the cell that no write to the cell beats
  pub winner-some :
      (w : Record)
      → winner c rs ≡ some w
      → Memᴰ w rs × (w.cell ≡ c) × ((r : Record) → Memᴰ r rs → r.cell ≡ c → beats r w ≡ false)
  unfolding winner
  winner-some w e =
      let here : Record → Bool = λ r. eqb r.cell c in
      let b = best_of (keep here rs) w e in
      let k = kept_in here rs w b.among in
      (k.0, eqb-true w.cell c k.1, λ r m q. b.unbeaten r (in_kept here rs r m (eq-eqb r.cell c q)))

-- ---- phone times take no part

-- histories that differ in phone times only have one winner but for its time, and so one reply
abbrev pub timeless : Record → Record
timeless r = timed r 0

better-timeless : (w : Option Record) (r : Record) → better (Option.map timeless w) (timeless r) ≡ Option.map timeless (better w r)
better-timeless none r = refl
better-timeless (some w) r = rw (time-free r w 0 0) (go (beats r w))
  where
    go : (t : Bool) → some (cond t (timeless r) (timeless w)) ≡ some (timeless (cond t r w))
    go true = refl
    go false = refl

best-timeless : (w : Option Record) (rs : List Record) → best (Option.map timeless w) (map timeless rs) ≡ Option.map timeless (best w rs)
unfolding best
best-timeless w [] = refl
best-timeless w (r ∷ rs) = ap (λ x. best x (map timeless rs)) (better-timeless w r) ∙ best-timeless (better w r) rs

keep-timeless : (c : ℕ) (rs : List Record) → keep (λ r. eqb r.cell c) (map timeless rs) ≡ map timeless (keep (λ r. eqb r.cell c) rs)
unfolding keep
keep-timeless c [] = refl
keep-timeless c (r ∷ rs) = go (eqb r.cell c) (keep-timeless c rs)
  where
    here : Record → Bool
    here r = eqb r.cell c

    go : (t : Bool) → keep here (map timeless rs) ≡ map timeless (keep here rs) → keep_if t (timeless r) (keep here (map timeless rs)) ≡ map timeless (keep_if t r (keep here rs))
    go true e = ap (λ l. timeless r ∷ l) e
    go false e = e

winner-timeless : (c : ℕ) (rs : List Record) → winner c (map timeless rs) ≡ Option.map timeless (winner c rs)
unfolding winner
winner-timeless c rs = ap (best none) (keep-timeless c rs) ∙ best-timeless none (keep (λ r. eqb r.cell c) rs)

pub winner-time-free :
    (c : ℕ) (rs ss : List Record)
    → map timeless rs ≡ map timeless ss
    → Option.map timeless (winner c rs) ≡ Option.map timeless (winner c ss)
winner-time-free c rs ss e = sym (winner-timeless c rs) ∙ ap (winner c) e ∙ winner-timeless c ss

value-timeless : (w : Option Record) (v : Vector) → value_of (Option.map timeless w) v ≡ value_of w v
value-timeless none v = refl
value-timeless (some r) v = refl

pub reply-time-free :
    (c : ℕ) (rs ss : List Record) (v : Vector) → map timeless rs ≡ map timeless ss → value_of (winner c rs) v ≡ value_of (winner c ss) v
reply-time-free c rs ss v e =
    sym (value-timeless (winner c rs) v) ∙ ap (λ w. value_of w v) (winner-time-free c rs ss e) ∙ value-timeless (winner c ss) v
