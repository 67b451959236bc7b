-- Laws of lists that loops and layouts need, each once.
-- Assumes nothing.
use Prim.Native.Nat.{ℕ, zero, suc, ◌+◌, ◌-◌, ◌<◌, ◌≤◌}
use mathlib.Core.Bool.{Bool, true, false, cond, true≢false, ◌&&◌, ◌||◌, and_assoc, or_assoc, and-true, or-false, and-false}
use mathlib.Core.List.{List, [], ◌∷◌, ◌++◌, flat_map, zip_with, foldr, append_assoc, append-nil}
use mathlib.Core.Path.{◌≡◌, refl, ap, sym, ◌∙◌}
use native.Mathlib.Nat.{add-zero, zero-add}
use native.Mathlib.Numerals.{add-one}
use native.Mathlib.Omega.{arith}
use borrow.Author.Tests.{eqb-true, eq-eqb, ne_eqb, le-ltb}
use lib.Dec.{ltb, eqb}
use lib.ListN.{length, get_or, take, drop, set, length-drop, drop_of_length-le}
use lib.Seq.{take-suc, take_all, take-length, drop-drop, sets, sets-eq}
use borrow.Rule.Slice.PartMut.{put_mid}
use Rattle.std.specs.Prelude.{Option, Some}
use Rattle.std.proofs.Common.{Ordering}
use Rattle.std.specs.declared.cmp.Ordering.TheVariants.{Less, Equal, Greater}
use Rattle.std.specs.Ordering.{is_lt, is_some_and, nat_cmp, partial_ordering_then}
use Rattle.std.specs.List.{fold, list_all, list_any, zip}
use Rattle.notes.specs.Lists.{every, any, same, above}

-- ---- one element more

module _ {A : Type 0} where
  pub take_more : (l : List A) (i : ℕ) (d : A) → i < length l → take (i + 1) l ≡ take i l ++ (get_or l i d ∷ [])
  take_more l i d h = rw (add-one, take-suc l i d)

  -- z copied over o from the front: one store more
  pub copied_more :
      (z o : List A) (i : ℕ) (d : A)
      → i < length z
      → i < length o
      → set (take i z ++ drop i o) i (get_or z i d) ≡ take (i + 1) z ++ drop (i + 1) o
  copied_more z o i d h k = rw add-one (go z o i h k)
    where
      go :
          (z o : List A) (i : ℕ)
          → i < length z
          → i < length o
          → set (take i z ++ drop i o) i (get_or z i d) ≡ take (suc i) z ++ drop (suc i) o
      go [] o i h k = absurd (omega arith)
      go (x ∷ z) [] i h k = absurd (omega arith)
      go (x ∷ z) (y ∷ o) zero h k = refl
      go (x ∷ z) (y ∷ o) (suc i) h k = ap (λ (l : List A). x ∷ l) (go z o i (omega arith) (omega arith))

  -- what stands at the place of the next store
  pub copied-at : (z o : List A) (i : ℕ) (d : A) → i ≤ length z → i ≤ length o → get_or (take i z ++ drop i o) i d ≡ get_or o i d
  copied-at z o zero d h k = refl
  copied-at [] o (suc i) d h k = absurd (omega arith)
  copied-at (x ∷ z) [] (suc i) d h k = absurd (omega arith)
  copied-at (x ∷ z) (y ∷ o) (suc i) d h k = copied-at z o i d (omega arith) (omega arith)

  -- and all of it
  pub copied_all : (z o : List A) (i : ℕ) → length z ≤ i → length o ≤ i → take i z ++ drop i o ≡ z
  copied_all z o i h k = rw (take_all i z h, drop_of_length-le o {i = i} k, append-nil)

  -- stores, and further stores behind them
  pub sets-append : (l a b : List A) (i : ℕ) → sets l i (a ++ b) ≡ sets (sets l i a) (i + length a) b
  sets-append l [] b i = rw add-zero
  sets-append l (x ∷ a) b i =
      let e : i + suc (length a) ≡ suc i + length a = omega arith in rw e (sets-append (set l i x) a b (suc i))

  -- stores at the front
  pub sets-front : (a l : List A) (n : ℕ) → length a ≡ n → n ≤ length l → sets l 0 a ≡ a ++ drop n l
  sets-front a l n e h = sets-eq a l 0 (omega arith) ∙ rw (zero-add, e)

  -- what stands from a place on, as `&l[k..]` has it
  pub rest : (k : ℕ) (l : List A) → take (length l - k) (drop k l) ≡ drop k l
  rest k l = take_all (length l - k) (drop k l) (rw length-drop (omega arith))

  -- a part and what follows it
  pub part_join : (w i : ℕ) (b : List A) → take w (drop i b) ++ drop (i + w) b ≡ drop i b
  part_join w i b = rw (← drop-drop) (lib.ListN.take-append-drop w (drop i b))

  -- three parts, and what follows them
  pub parts_join :
      (u v w i : ℕ) (b : List A)
      → take u (drop i b) ++ take v (drop (i + u) b) ++ take w (drop (i + u + v) b) ++ drop (i + u + v + w) b ≡ drop i b
  parts_join u v w i b =
      append_assoc (take u (drop i b) ++ take v (drop (i + u) b)) (take w (drop (i + u + v) b)) (drop (i + u + v + w) b)
      ∙ ap (λ (r : List A). take u (drop i b) ++ take v (drop (i + u) b) ++ r) (part_join w (i + u + v) b)
      ∙ append_assoc (take u (drop i b)) (take v (drop (i + u) b)) (drop (i + u + v) b)
      ∙ ap (λ (r : List A). take u (drop i b) ++ r) (part_join v (i + u) b)
      ∙ part_join u i b

  -- ---- tests over lists

  module _ (p : A → Bool) where
    pub every_append : (a b : List A) → every p (a ++ b) ≡ (every p a && every p b)
    unfolding every
    every_append [] b = refl
    every_append (x ∷ a) b = rw (every_append a b, and_assoc)

    pub any_append : (a b : List A) → any p (a ++ b) ≡ (any p a || any p b)
    unfolding any
    any_append [] b = refl
    any_append (x ∷ a) b = rw (any_append a b, or_assoc)

    pub every_more :
        (l : List A) (i : ℕ) (d : A)
        → i < length l
        → every p (take (i + 1) l) ≡ (every p (take i l) && p (get_or l i d))
    unfolding every
    every_more l i d h = rw (take_more l i d h, every_append, and-true)

    pub any-more :
        (l : List A) (i : ℕ) (d : A)
        → i < length l
        → any p (take (i + 1) l) ≡ (any p (take i l) || p (get_or l i d))
    unfolding any
    any-more l i d h = rw (take_more l i d h, any_append, or-false)

    -- ---- as std has them: `all`, `any`, and folds that do not stop
    pub every-all : (l : List A) → list_all p l ≡ every p l
    unfolding every
    every-all [] = refl
    every-all (x ∷ l) = rw (every-all l)

    pub any-some : (l : List A) → list_any p l ≡ any p l
    unfolding any
    any-some [] = refl
    any-some (x ∷ l) = rw (any-some l)

    pub every-fold : (l : List A) (b : Bool) → fold (λ b x. b && p x) b l ≡ (b && every p l)
    unfolding every
    every-fold [] b = sym (and-true b)
    every-fold (x ∷ l) b = every-fold l (b && p x) ∙ rw and_assoc

    pub any-fold : (l : List A) (b : Bool) → fold (λ b x. b || p x) b l ≡ (b || any p l)
    unfolding any
    any-fold [] b = sym (or-false b)
    any-fold (x ∷ l) b = any-fold l (b || p x) ∙ rw or_assoc

    -- one that fails
    pub every-fails : (l : List A) (i : ℕ) (d : A) → i < length l → p (get_or l i d) ≡ false → every p l ≡ false
    unfolding every
    every-fails [] i d h e = absurd (omega arith)
    every-fails (x ∷ l) zero d h e = rw e
    every-fails (x ∷ l) (suc i) d h e = rw (every-fails l i d (omega arith) e, and-false)

-- ---- bytes of lists
pub flat_map-append : {A : Type 0} (f : A → List ℕ) (a b : List A) → flat_map f (a ++ b) ≡ flat_map f a ++ flat_map f b
unfolding flat_map
flat_map-append f [] b = refl
flat_map-append f (x ∷ a) b = rw (flat_map-append f a b, append_assoc)

-- ---- equal lists
pub same_refl : (a : List ℕ) → same a a ≡ true
unfolding same
same_refl [] = refl
same_refl (x ∷ a) = rw (eq-eqb x x refl) (same_refl a)

pub both : (a b : Bool) → (a && b) ≡ true → (a ≡ true) × (b ≡ true)
both true b h = (refl, h)
both false b h = (h, cc)

pub neither : (a b : Bool) → (a || b) ≡ false → (a ≡ false) × (b ≡ false)
neither true b e = (e, cc)
neither false b e = (refl, e)

pub same_true : (a b : List ℕ) → same a b ≡ true → a ≡ b
unfolding same
same_true [] [] h = refl
same_true [] (y ∷ b) h = cc
same_true (x ∷ a) [] h = cc
same_true (x ∷ a) (y ∷ b) h =
    let e = both _ _ h in
    let p : x ≡ y = eqb-true x y e.0 in
    let q = same_true a b e.1 in
    cc

-- ---- the order of lists, number by number
module _ (x y : ℕ) (xs ys : List ℕ) where
  pub above-differs : (x ≡ y → ⊥) → above (x ∷ xs) (y ∷ ys) ≡ ltb y x
  unfolding above
  above-differs d = rw (ne_eqb x y d, or-false)

  pub above_same : x ≡ y → above (x ∷ xs) (y ∷ ys) ≡ above xs ys
  unfolding above
  above_same e = rw (eq-eqb x y e, le-ltb y x (omega arith))

pub above-last : (x y : ℕ) → above (x ∷ []) (y ∷ []) ≡ ltb y x
unfolding above
above-last x y = rw (and-false, or-false)

eqb-comm : (x y : ℕ) → eqb x y ≡ eqb y x
eqb-comm x y = go (eqb y x) refl
  where
    go : (t : Bool) → eqb y x ≡ t → eqb x y ≡ t
    go true e = eq-eqb x y (sym (eqb-true y x e))
    go false e = ne_eqb x y (λ q. absurd (true≢false (sym (eq-eqb y x (sym q)) ∙ e)))

-- a derived order that compares these numbers first, and goes on where they are equal
pub less-first :
    (x y : ℕ) (rest : Option Ordering)
    → is_some_and is_lt (partial_ordering_then (Some (nat_cmp y x)) rest) ≡ (ltb y x || eqb x y && is_some_and is_lt rest)
less-first x y rest = go (ltb y x) refl
  where
    go : (t : Bool) → ltb y x ≡ t → is_some_and is_lt (partial_ordering_then (Some (nat_cmp y x)) rest) ≡ (ltb y x || eqb x y && is_some_and is_lt rest)
    go true e = rw e
    go false e = rw (e, eqb-comm x y) (tie (eqb y x))
      where
        tie : (u : Bool) → is_some_and is_lt (partial_ordering_then (Some (cond u Equal Greater)) rest) ≡ (u && is_some_and is_lt rest)
        tie true = refl
        tie false = refl

-- and one that ends with them
pub less-last : (x y : ℕ) → is_some_and is_lt (Some (nat_cmp y x)) ≡ above (x ∷ []) (y ∷ [])
less-last x y = less (ltb y x) (eqb y x) ∙ sym (above-last x y)
  where
    less : (t u : Bool) → is_lt (cond t Less (cond u Equal Greater)) ≡ t
    less true u = refl
    less false true = refl
    less false false = refl

-- ---- two lists, position by position
module _ {A B C : Type 0} (f : A → B → C) where
  pub length-zip_with : (v : List A) (w : List B) → length v ≡ length w → length (zip_with f v w) ≡ length v
  unfolding zip_with
  length-zip_with [] w h = refl
  length-zip_with (x ∷ v) [] h = absurd (omega arith)
  length-zip_with (x ∷ v) (y ∷ w) h = ap suc (length-zip_with v w (omega arith))

  pub get_or-zip_with :
      (v : List A) (w : List B) (i : ℕ) (d : A) (e : B) (c : C)
      → i < length v
      → i < length w
      → get_or (zip_with f v w) i c ≡ f (get_or v i d) (get_or w i e)
  unfolding zip_with
  get_or-zip_with [] w i d e c h k = absurd (omega arith)
  get_or-zip_with (x ∷ v) [] i d e c h k = absurd (omega arith)
  get_or-zip_with (x ∷ v) (y ∷ w) zero d e c h k = refl
  get_or-zip_with (x ∷ v) (y ∷ w) (suc i) d e c h k = get_or-zip_with v w i d e c (omega arith) (omega arith)

-- the pairs tested are the tests of the pairs
pub any-zip : {A B : Type 0} (f : A → B → Bool) (v : List A) (w : List B) → any (λ p. f p.0 p.1) (zip v w) ≡ any (λ t. t) (zip_with f v w)
unfolding any zip_with
any-zip f [] w = refl
any-zip f (x ∷ v) [] = refl
any-zip f (x ∷ v) (y ∷ w) = rw (any-zip f v w)

-- std's sum
pub sum-fold : (l : List ℕ) (a : ℕ) → fold (λ s x. s + x) a l ≡ a + foldr ◌+◌ 0 l
sum-fold [] a = omega arith
sum-fold (x ∷ l) a = rw (sum-fold l (a + x)) (omega arith)

-- ---- parts that are lent
-- b in place of so many bytes from k on, as a callee that is lent `&mut o[k..k + n]` leaves it
pub put_part : (k : ℕ) (o b : List ℕ) → k + length b ≤ length o → put_mid k (length b) o b ≡ sets o k b
put_part k o b h = rw drop-drop (sym (sets-eq b o k h ∙ append_assoc (take k o) b (drop (k + length b) o)))

-- b copied to the front of what stands from k on, as a callee that is lent `&mut o[k..]` leaves it
pub put_rest :
    (k : ℕ) (o b y : List ℕ)
    → k + length b ≤ length o
    → y ≡ take (length b) b ++ drop (length b) (take (length o - k) (drop k o))
    → put_mid k (length o - k) o y ≡ sets o k b
put_rest k o b y h e =
    simp (
      e,
      take-length,
      take_all (length o - k) (drop k o) (rw length-drop (omega arith)),
      drop-drop,
      drop_of_length-le o {i = k + (length o - k)} (omega arith),
      append-nil,
    )
    (sym (sets-eq b o k h ∙ append_assoc (take k o) b (drop (k + length b) o)))
