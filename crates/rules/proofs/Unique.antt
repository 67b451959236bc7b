-- Any two outcomes that meet a public call's statement are equal: a theorem for each call, about the very clauses of its contract.
-- Assumes nothing.
use mathlib.Core.Path.{sym, ◌∙◌}
use Rattle.notes.proofs.Unique.{One}
use Rattle.rules.proofs.answer.U8FromRefusal.from.Reads as number
use Rattle.rules.proofs.answer.RefusalFromMessageRefusal.from.Reads as told
use Rattle.rules.proofs.state.ReadTable.at.Reads as at
use Rattle.rules.proofs.state.ReadTable.with.Reads as with-count
use Rattle.rules.proofs.state.State.blank.Reads as blank
use Rattle.rules.proofs.state.State.down.Reads as down

-- a refusal's number
pub number-one : One number.Post (λ k r s. r)
number-one k a x y s t p q = p ∙ sym q

-- what the calls on messages and sessions refuse, as a refusal
pub told-one : One told.Post (λ k r s. r)
told-one k a x y s t p q = p ∙ sym q

pub at-one : One at.Post (λ k r s. r)
at-one k a x y s t p q = p ∙ sym q

pub with-one : One with-count.Post (λ k r s. r)
with-one k a x y s t p q = p ∙ sym q

pub blank-one : One blank.Post (λ k r s. r)
blank-one k a x y s t p q = p ∙ sym q

pub down-one : One down.Post (λ k r s. r)
down-one k a x y s t p q = p ∙ sym q
