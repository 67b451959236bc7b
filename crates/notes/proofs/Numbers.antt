-- Laws of numbers as bytes, each over the width.
-- Assumes nothing.
use Prim.Native.Nat.{ℕ, zero, suc, ◌+◌, ◌*◌, ◌/◌, ◌%◌, ◌^◌, ◌<◌, ◌≤◌}
use mathlib.Core.List.{List, [], ◌∷◌}
use mathlib.Core.Path.{◌≡◌, refl, ap, ap₂, sym, ◌∙◌}
use native.Mathlib.Nat.{zero-add, add-zero, suc-add, mul_assoc, mul_comm, pow-zero, pow-succ', div-one, div-div-eq-div-mul}
use native.Mathlib.Numerals.{add-one}
use native.Mathlib.Omega.{arith}
use lib.ListN.{length, get_or, take, drop, length-take, length-drop}
use lib.Seq.{get_or-drop, take-nil, drop-nil, drop-cons, take-take}
use Rattle.std.specs.Int.{byte_at, byte_worth, bytes_low_first, sum_through}
use Rattle.std.specs.Prelude.{slice_index}
use Rattle.notes.specs.Bytes.{from_bytes, to_bytes}

-- each number of a list is below n, and so is the zero past its end
abbrev pub AllBelow : ℕ → List ℕ → Type 0
AllBelow n b = (i : ℕ) → get_or b i 0 < n

pub below-take : {n : ℕ} (k : ℕ) (b : List ℕ) → AllBelow n b → AllBelow n (take k b)
below-take zero b h i = omega (arith, h 0)
below-take (suc k) [] h i = h i
below-take (suc k) (x ∷ b) h zero = h 0
below-take (suc k) (x ∷ b) h (suc i) = below-take k b (λ j. h (suc j)) i

pub below-drop : {n : ℕ} (k : ℕ) (b : List ℕ) → AllBelow n b → AllBelow n (drop k b)
below-drop k b h i = rw get_or-drop (h (k + i))

-- ---- there and back

pub length-to_bytes : (w n : ℕ) → length (to_bytes w n) ≡ w
unfolding to_bytes
length-to_bytes zero n = refl
length-to_bytes (suc w) n = ap suc (length-to_bytes w (n / 256))

pub from-to : (w n : ℕ) → n < 256 ^ w → from_bytes (to_bytes w n) ≡ n
unfolding to_bytes from_bytes
from-to zero n h = omega arith
from-to (suc w) n h = rw (from-to w (n / 256) (omega arith)) (omega arith)

pub to-from : (w : ℕ) (b : List ℕ) → length b ≡ w → AllBelow 256 b → to_bytes w (from_bytes b) ≡ b
unfolding to_bytes from_bytes
to-from zero [] l h = refl
to-from zero (x ∷ b) l h = absurd (omega arith)
to-from (suc w) [] l h = absurd (omega arith)
to-from (suc w) (x ∷ b) l h =
    let low : (x + 256 * from_bytes b) % 256 ≡ x = omega (arith, h 0) in
    let high : (x + 256 * from_bytes b) / 256 ≡ from_bytes b = omega (arith, h 0) in
    rw (low, high, to-from w b (omega arith) (λ i. h (suc i)))

pub one_byte : (x : ℕ) → from_bytes (x ∷ []) ≡ x
unfolding from_bytes
one_byte x = omega arith

pub from-below : (w : ℕ) (b : List ℕ) → AllBelow 256 b → from_bytes (take w b) < 256 ^ w
unfolding from_bytes
from-below zero b h = omega arith
from-below (suc w) [] h = omega (arith, from-below w [] h)
from-below (suc w) (x ∷ b) h = omega (arith, h 0, from-below w b (λ i. h (suc i)))

-- ---- the number in some bytes from a place on, byte by byte
pub from_cons :
    (w i : ℕ) (b : List ℕ)
    → from_bytes (take (suc w) (drop i b)) ≡ get_or b i 0 + 256 * from_bytes (take w (drop (i + 1) b))
unfolding from_bytes
from_cons w i b = rw add-one (go w i b)
  where
    go :
        (w i : ℕ) (b : List ℕ)
        → from_bytes (take (suc w) (drop i b)) ≡ get_or b i 0 + 256 * from_bytes (take w (drop (suc i) b))
    go w i [] = rw (drop-nil, take-nil)
    go w zero (x ∷ b) = refl
    go w (suc i) (x ∷ b) = go w i b

pub from_one : (i : ℕ) (b : List ℕ) → from_bytes (take 1 (drop i b)) ≡ get_or b i 0
unfolding from_bytes
from_one i b = omega (arith, from_cons 0 i b)

pub from-two : (i : ℕ) (b : List ℕ) → from_bytes (take 2 (drop i b)) ≡ get_or b i 0 + 256 * get_or b (i + 1) 0
from-two i b = omega (arith, from_cons 1 i b, from_one (i + 1) b)

-- ---- a number's lower bytes, and its upper ones
pub from-split :
    (a b i : ℕ) (l : List ℕ)
    → from_bytes (take (a + b) (drop i l)) ≡ from_bytes (take a (drop i l)) + 256 ^ a * from_bytes (take b (drop (i + a) l))
unfolding from_bytes
from-split zero b i l = rw (zero-add, add-zero, pow-zero) (omega arith)
from-split (suc a) b i l =
    let e : i + suc a ≡ i + 1 + a = omega arith in
    rw (suc-add, from_cons (a + b) i l, from-split a b (i + 1) l, from_cons a i l, pow-succ', e)
    (omega (arith, mul_assoc 256 (256 ^ a) (from_bytes (take b (drop (i + 1 + a) l)))))

-- ---- the bytes of the number that stands at a place
pub part-back :
    (w i : ℕ) (b : List ℕ)
    → i + w ≤ length b
    → AllBelow 256 b
    → to_bytes w (from_bytes (take w (drop i b))) ≡ take w (drop i b)
part-back w i b k h =
    to-from w (take w (drop i b)) (simp (length-take, length-drop) (omega arith)) (below-take w (drop i b) (below-drop i b h))

-- a byte, and what follows it
pub byte-join : (i : ℕ) (b : List ℕ) → i < length b → from_bytes (take 1 (drop i b)) ∷ drop (i + 1) b ≡ drop i b
byte-join i b h = rw (drop-cons b i 0 h, one_byte, add-one)

-- ---- bytes that agree give the same numbers
pub from-agree :
    (a b : List ℕ)
    → ((i : ℕ) → get_or a i 0 ≡ get_or b i 0)
    → (w i : ℕ)
    → from_bytes (take w (drop i a)) ≡ from_bytes (take w (drop i b))
from-agree a b e zero i = refl
from-agree a b e (suc w) i = rw (from_cons w i a, from_cons w i b, e i, from-agree a b e w (i + 1))

-- ---- as std has them: any width's bytes, the lowest first

-- what `from_le_bytes` sums up of suc w bytes
pub from-le : (w : ℕ) (b : List ℕ) → sum_through (λ i. byte_worth i (slice_index b i)) w ≡ from_bytes (take (suc w) b)
unfolding from_bytes
from-le zero b = sym (from_one 0 b)
from-le (suc w) b =
    let e : suc (suc w) ≡ suc w + 1 = omega arith in
    let last : 0 + suc w ≡ suc w = omega arith in
    rw (e, from-split (suc w) 1 0 b, last, from_one (suc w) b, ← from-le w b, mul_comm (get_or b (suc w) 0) (256 ^ suc w))

-- of the first suc w of some bytes
pub read-le : (w : ℕ) (b p : List ℕ) → p ≡ take (suc w) b → sum_through (λ i. byte_worth i (slice_index p i)) w ≡ from_bytes (take (suc w) b)
read-le w b p e = from-le w p ∙ ap from_bytes (ap (take (suc w)) e ∙ take-take (suc w) (suc w) b (omega arith))

-- what `to_le_bytes` gives of w bytes, from byte i on
low-first : (i w n : ℕ) → bytes_low_first i w n ≡ to_bytes w (n / 256 ^ i)
unfolding to_bytes
low-first i zero n = refl
low-first i (suc w) n = ap₂ ◌∷◌ (here i) (low-first (suc i) w n ∙ ap (to_bytes w) (above i))
  where
    here : (i : ℕ) → byte_at i n ≡ n / 256 ^ i % 256
    here zero = rw (pow-zero, div-one)
    here (suc i) = refl

    above : (i : ℕ) → n / 256 ^ suc i ≡ n / 256 ^ i / 256
    above i = rw (pow-succ', mul_comm 256 (256 ^ i)) (sym (div-div-eq-div-mul n (256 ^ i) 256))

pub to-le : (w n : ℕ) → bytes_low_first 0 w n ≡ to_bytes w n
to-le w n = low-first 0 w n ∙ rw (pow-zero, div-one)
