-- CR as a number of 64 digits: how many phones are in it, and which is the lowest.
-- Assumes nothing.
use Prim.Native.Nat.{ℕ, zero, suc, ◌+◌, ◌/◌, ◌%◌, ◌^◌, ◌<◌, ◌≤◌}
use mathlib.Core.List.{List, [], ◌∷◌, map}
use mathlib.Core.Path.{◌≡◌, refl, ap, sym, ◌∙◌}
use native.Mathlib.Nat.{add-zero, zero-add, div-one, mod-lt}
use native.Mathlib.Numerals.{add-one}
use native.Mathlib.Omega.{arith}
use lib.Count.{ones, ones_in, under, count_trailing_zeros, ones_step}
use lib.Dec.{eqb, lit<}
use lib.ListN.{length}
use lib.Pow.{shr-shr, shr_lt}
use Rattle.notes.specs.declared.index.PhoneId.{PhoneId}
use Rattle.rules.specs.Writes.{keep_if, keep, counting}
use Rattle.rules.specs.Memory.{phone, phone_ids, in_set, members}
use Rattle.rules.specs.Calls.{lowest}

-- no more digits are looked at than the number has
ones-within : (k n : ℕ) → n < 2 ^ k → ones_in k n ≡ ones n
unfolding ones_in ones
ones-within zero n h = let e : n ≡ 0 = omega arith in rw e
ones-within (suc k) n h = rw (ones-within k (n / 2) (shr_lt k 1 (rw add-one h))) (sym (ones_step n))

module _ (cr : ℕ) where
  -- the phones of the set among k from phone a on: those of the number's digits from a on
  abbrev from : ℕ → ℕ → List PhoneId
  from a k = keep (in_set cr) (map phone (counting a k))

  -- the digits above place a are those from a on without the lowest
  halved : (a : ℕ) → cr / 2 ^ suc a ≡ cr / 2 ^ a / 2
  halved a = ap (λ (k : ℕ). cr / 2 ^ k) (sym (add-one a)) ∙ sym (shr-shr cr a 1)

  lowest-digit : (a : ℕ) → cr / 2 ^ a % 2 < 2
  lowest-digit a = mod-lt (cr / 2 ^ a) {m = 2} (lit< tt)

  -- of these there are as many as ones among k digits; the zeros below the lowest one say where the first stands
  from-count : (a k : ℕ) → length (from a k) ≡ ones_in k (cr / 2 ^ a)
  unfolding keep counting in_set ones_in
  from-count a zero = refl
  from-count a (suc k) =
      go (from (suc a) k) (ones_in k (cr / 2 ^ a / 2)) (rw halved at (from-count (suc a) k)) (cr / 2 ^ a % 2) (lowest-digit a)
    where
      go : (l : List PhoneId) (n : ℕ) → length l ≡ n → (x : ℕ) → x < 2 → length (keep_if (eqb x 1) (phone a) l) ≡ x + n
      go l n e zero h = omega arith
      go l n e (suc zero) h = omega arith
      go l n e (suc (suc x)) h = absurd (omega arith)

  from-none : (a k : ℕ) → k ≤ count_trailing_zeros k (cr / 2 ^ a) → from a k ≡ []
  unfolding keep counting in_set count_trailing_zeros
  from-none a zero h = refl
  from-none a (suc k) h = go (rw halved at (from-none (suc a) k)) (cr / 2 ^ a % 2) h
    where
      rest : List PhoneId
      rest = from (suc a) k

      zeros : ℕ
      zeros = count_trailing_zeros k (cr / 2 ^ a / 2)

      go : (k ≤ zeros → rest ≡ []) → (x : ℕ) → suc k ≤ under x zeros → keep_if (eqb x 1) (phone a) rest ≡ []
      go e zero h = e (omega arith)
      go e (suc x) h = absurd (omega arith)

  from_first : (a k : ℕ) → count_trailing_zeros k (cr / 2 ^ a) < k → lowest (from a k) ≡ (a + count_trailing_zeros k (cr / 2 ^ a)) ∷ []
  unfolding keep counting in_set count_trailing_zeros
  from_first a zero h = absurd (omega arith)
  from_first a (suc k) h = go (rw halved at (from_first (suc a) k)) (cr / 2 ^ a % 2) (lowest-digit a) h
    where
      rest : List PhoneId
      rest = from (suc a) k

      zeros : ℕ
      zeros = count_trailing_zeros k (cr / 2 ^ a / 2)

      go :
          (zeros < k → lowest rest ≡ (suc a + zeros) ∷ [])
          → (x : ℕ)
          → x < 2
          → under x zeros < suc k
          → lowest (keep_if (eqb x 1) (phone a) rest) ≡ (a + under x zeros) ∷ []
      go e zero h l = let q : a + suc zeros ≡ suc a + zeros = omega arith in rw q (e (omega arith))
      go e (suc zero) h l = rw add-zero
      go e (suc (suc x)) h l = absurd (omega arith)

  -- as many phones are in the set as the number has ones
  pub members-count : cr < 2 ^ 64 → length (members cr) ≡ ones cr
  unfolding members phone_ids
  members-count h = from-count 0 64 ∙ rw div-one (ones-within 64 cr h)

  -- the zeros below its lowest one number the lowest phone, and where all digits are zeros there is none
  pub members-none : 64 ≤ count_trailing_zeros 64 cr → members cr ≡ []
  unfolding members phone_ids
  members-none h = from-none 0 64 (rw div-one h)

  pub members-first : count_trailing_zeros 64 cr < 64 → lowest (members cr) ≡ count_trailing_zeros 64 cr ∷ []
  unfolding members phone_ids
  members-first h = from_first 0 64 (rw div-one h) ∙ rw (div-one, zero-add)
