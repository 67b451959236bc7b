-- Laws of numbers in decimal.
-- Assumes nothing.
use Prim.Native.Nat.{ℕ, zero, suc, ◌+◌, ◌/◌, ◌%◌, ◌^◌, ◌<◌, ◌≤◌}
use mathlib.Core.Bool.{Bool, true, false, cond}
use mathlib.Core.List.{List, [], ◌∷◌, ◌++◌}
use mathlib.Core.Path.{◌≡◌, ap, sym, ◌∙◌}
use native.Mathlib.Omega.{arith}
use borrow.Author.Tests.{lt-ltb, le-ltb}
use lib.Dec.{ltb}
use lib.ListN.{length, length-append}
use Rattle.text.specs.Text.{digit, decimal_in, decimal, spaced}

-- further digits change nothing
steady : (k n : ℕ) → n < 10 ^ suc k → decimal_in (suc k) n ≡ decimal_in k n
unfolding decimal_in
steady zero n h = rw (lt-ltb n 10 h)
steady (suc k) n h = rw (steady k (n / 10) (omega arith))

one : (k n : ℕ) → n < 10 → decimal_in (suc k) n ≡ digit n ∷ []
unfolding decimal_in
one k n h = rw (lt-ltb n 10 h)

more : (k n : ℕ) → 10 ≤ n → decimal_in (suc k) n ≡ decimal_in k (n / 10) ++ (digit (n % 10) ∷ [])
unfolding decimal_in
more k n h = rw (le-ltb n 10 h)

few : (k n : ℕ) → length (decimal_in k n) ≤ suc k
unfolding decimal_in
few zero n = omega arith
few (suc k) n = go (few k (n / 10)) (ltb n 10)
  where
    go : length (decimal_in k (n / 10)) ≤ suc k → (t : Bool) → length (cond t (digit n ∷ []) (decimal_in k (n / 10) ++ (digit (n % 10) ∷ []))) ≤ suc (suc k)
    go h true = omega arith
    go h false = rw length-append (omega arith)

pub decimal-one : (n : ℕ) → n < 10 → decimal n ≡ digit n ∷ []
decimal-one n h = one 8 n h

pub decimal-more : (n : ℕ) → 10 ≤ n → n < 2 ^ 32 → decimal n ≡ decimal (n / 10) ++ (digit (n % 10) ∷ [])
decimal-more n h k = more 8 n h ∙ ap (λ (l : List ℕ). l ++ (digit (n % 10) ∷ [])) (sym (steady 8 (n / 10) (omega arith)))

pub length-decimal : (n : ℕ) → length (decimal n) ≤ 10
length-decimal n = few 9 n

pub length-one : (n : ℕ) → n < 10 → length (decimal n) ≡ 1
length-one n h = rw (decimal-one n h)

pub length_more : (n : ℕ) → 10 ≤ n → n < 2 ^ 32 → length (decimal n) ≡ length (decimal (n / 10)) + 1
length_more n h k = rw (decimal-more n h k, length-append)

pub length-spaced : (n : ℕ) → length (spaced n) ≤ 11
length-spaced n = omega (arith, length-decimal n)
