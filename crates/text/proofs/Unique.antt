-- Any two outcomes that meet a public call's statement are equal.
-- Assumes nothing.
use Prim.Native.Nat.{ℕ}
use mathlib.Core.List.{List}
use mathlib.Core.Path.{sym, ◌∙◌}
use Rattle.std.specs.Prelude.{Result}
use Rattle.notes.specs.declared.message.Refusal.{Refusal}
use Rattle.notes.proofs.Unique.{One, filled-one}
use Rattle.text.proofs.line.line.Reads as line
use Rattle.text.proofs.listing.list.Reads as list

-- by the number and values, and by the output's bytes
pub list-one : One {O = Result ℕ Refusal × List ℕ} list.Post (λ k r s. (r, s.1.0.now))
list-one k a x y s t p q = filled-one x y _ _ (p ∙ sym q)

pub line-one : One {O = Result ℕ Refusal × List ℕ} line.Post (λ k r s. (r, s.1.1.0.now))
line-one k a x y s t p q = filled-one x y _ _ (p ∙ sym q)
