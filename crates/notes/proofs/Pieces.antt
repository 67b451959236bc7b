-- Laws of bytes in pieces of one size.
-- Assumes nothing.
use Prim.Native.Nat.{ℕ, zero, suc, ◌+◌, ◌*◌, ◌<◌, ◌≤◌}
use mathlib.Core.List.{List, [], ◌∷◌, map, flat_map}
use mathlib.Core.Path.{◌≡◌, refl, ap}
use native.Mathlib.Omega.{arith}
use lib.ListN.{length, get_or, take, drop, length-drop, length-take, length-append, take-append-drop}
use lib.Seq.{take_at, drop_at, drop-drop}
use Rattle.std.specs.Simd.{first_chunks}
use Rattle.notes.specs.Bytes.{pieces}
use Rattle.notes.proofs.Numbers.{AllBelow, below-take, below-drop}

-- each of a list
abbrev pub Each : {A : Type 0} → (A → Type 0) → List A → Type 0
Each P [] = Unit
Each P (x ∷ xs) = P x × Each P xs

module _ {A : Type 0} {P : A → Type 0} where
  pub each_of : ((a : A) → P a) → (l : List A) → Each P l
  each_of p [] = tt
  each_of p (a ∷ l) = (p a, each_of p l)

  pub each-also : {Q : A → Type 0} → ((a : A) → P a → Q a) → (l : List A) → Each P l → Each Q l
  each-also f [] h = tt
  each-also f (a ∷ l) h = (f a h.0, each-also f l h.1)

-- bytes of one length each
pub length-flat_map :
    {A : Type 0} (w : ℕ) (bytes : A → List ℕ) (l : List A)
    → Each (λ a. length (bytes a) ≡ w) l
    → length (flat_map bytes l) ≡ w * length l
unfolding flat_map
length-flat_map w bytes [] h = omega arith
length-flat_map w bytes (a ∷ l) h = rw length-append (omega (arith, h.0, length-flat_map w bytes l h.1))

-- pieces are what std calls chunks; the first k of them
pub chunks-pieces : (w k : ℕ) (b : List ℕ) → first_chunks w k b ≡ pieces w k b
unfolding pieces
chunks-pieces w zero b = refl
chunks-pieces w (suc k) b = ap (λ (l : List (List ℕ)). take w b ∷ l) (chunks-pieces w k (drop w b))

pub first-pieces : (w k n : ℕ) (b : List ℕ) → k ≤ n → take k (first_chunks w n b) ≡ pieces w k b
unfolding pieces
first-pieces w zero n b h = refl
first-pieces w (suc k) zero b h = absurd (omega arith)
first-pieces w (suc k) (suc n) b h = ap (λ (l : List (List ℕ)). take w b ∷ l) (first-pieces w k n (drop w b) (omega arith))

module _ (w : ℕ) where
  pub length-pieces : (k : ℕ) (b : List ℕ) → length (pieces w k b) ≡ k
  unfolding pieces
  length-pieces zero b = refl
  length-pieces (suc k) b = ap suc (length-pieces k (drop w b))

  -- piece j
  pub piece-at : (k j : ℕ) (b : List ℕ) → j < k → get_or (pieces w k b) j [] ≡ take w (drop (w * j) b)
  unfolding pieces
  piece-at zero j b h = absurd (omega arith)
  piece-at (suc k) zero b h = let e : w * 0 ≡ 0 = omega arith in rw e
  piece-at (suc k) (suc j) b h =
      let e : w * suc j ≡ w + w * j = omega arith in rw (e, ← drop-drop) (piece-at k j (drop w b) (omega arith))

  module _ {A : Type 0} (bytes : A → List ℕ) (value : List ℕ → A) where
    -- the pieces' values have the bytes that the pieces are
    pub pieces-join :
        ((x : List ℕ) → length x ≡ w → AllBelow 256 x → bytes (value x) ≡ x)
        → (k : ℕ) (b : List ℕ)
        → length b ≡ w * k
        → AllBelow 256 b
        → flat_map bytes (map value (pieces w k b)) ≡ b
    unfolding pieces flat_map
    pieces-join back zero [] l h = refl
    pieces-join back zero (x ∷ b) l h = absurd (omega arith)
    pieces-join back (suc k) b l h =
        let m : w * suc k ≡ w + w * k = omega arith in
        rw (
          back (take w b) (simp length-take (omega arith)) (below-take w b h),
          pieces-join back k (drop w b) (simp length-drop (omega arith)) (below-drop w b h),
        )
        (take-append-drop w b)

    -- the bytes of values come in pieces that give the values
    pub pieces-split :
        (Good : A → Type 0)
        → ((a : A) → Good a → (length (bytes a) ≡ w) × (value (bytes a) ≡ a))
        → (l : List A)
        → Each Good l
        → map value (pieces w (length l) (flat_map bytes l)) ≡ l
    unfolding pieces flat_map
    pieces-split Good there [] g = refl
    pieces-split Good there (a ∷ l) g =
        let t = there a g.0 in
        rw (
          take_at (bytes a) (flat_map bytes l) w t.0,
          drop_at (bytes a) (flat_map bytes l) w t.0,
          t.1,
          pieces-split Good there l g.1,
        )
