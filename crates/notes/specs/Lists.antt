-- Tests over lists, and the order of lists of numbers.
-- Assumes nothing.
use Rattle.std.specs.Prelude.{ℕ, Bool, true, false, ◌&&◌, ◌||◌, List, [], ◌∷◌, ltb, eqb}

-- each of a list passes the test
unfoldable pub every : {A : Type 0} → (A → Bool) → List A → Bool
every p [] = true
every p (x ∷ xs) = p x && every p xs

-- some of a list passes the test
unfoldable pub any : {A : Type 0} → (A → Bool) → List A → Bool
any p [] = false
any p (x ∷ xs) = p x || any p xs

-- the same numbers in the same order
unfoldable pub same : List ℕ → List ℕ → Bool
same [] [] = true
same [] (y ∷ ys) = false
same (x ∷ xs) [] = false
same (x ∷ xs) (y ∷ ys) = eqb x y && same xs ys

-- the greater first number decides, then the greater second, and so on
unfoldable pub above : List ℕ → List ℕ → Bool
above [] ys = false
above (x ∷ xs) [] = true
above (x ∷ xs) (y ∷ ys) = ltb y x || eqb x y && above xs ys
