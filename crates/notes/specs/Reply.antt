-- What a call answers in the requirements' terms: 0 or a refusal's number, and the values beside it.
-- Assumes nothing.
use Rattle.std.specs.Prelude.{ℕ, Bool, true, false, List, [], ◌∷◌, ◌++◌, length, drop}
use Rattle.std.proofs.Math.Option.{Option, none, some}

pub record Reply : Type 0 where
  pub number : ℕ
  pub values : List ℕ

abbrev pub done : List ℕ → Reply
done values = record { number = 0; values = values }

-- a refusal returns its number only
abbrev pub refused : ℕ → Reply
refused k = record { number = k; values = [] }

-- what a call that is lent an output answers and leaves there
pub record Filled : Type 0 where
  pub reply : Reply
  pub output : List ℕ

-- the first refusal of a list in which each stands with whether it is given
abbrev pub given : {A : Type 0} → Bool → A → Option A
given true r = some r
given false r = none

abbrev pub or_else : {A : Type 0} → Option A → Option A → Option A
or_else none later = later
or_else (some r) later = some r

abbrev pub first : {A : Type 0} → List (Option A) → Option A
first [] = none
first (r ∷ rs) = or_else r (first rs)

-- an output filled from its front with bytes, whose length is the answer; the others stay, and a refusal changes nothing
abbrev pub fill : Option Reply → List ℕ → List ℕ → Filled
fill (some refusal) bytes out = record { reply = refusal; output = out }
fill none bytes out = record { reply = done (length bytes ∷ []); output = bytes ++ drop (length bytes) out }
