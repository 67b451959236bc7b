-- Any two outcomes that meet a public call's statement are equal: a theorem for each call, about the very clauses of its contract.
-- Assumes nothing.
use Prim.Native.Nat.{ℕ}
use mathlib.Core.List.{List, map}
use mathlib.Core.Path.{◌≡◌, refl, ap, sym, ◌∙◌}
use denote.Ref.{Bor}
use Rattle.std.specs.Prelude.{Option, Some, None, is_some, IfSome}
use Rattle.notes.specs.Record.{decode}
use Rattle.notes.proofs.Unique.{One}
use Rattle.laws.proofs.Unique.{verdicts-known}
use Rattle.memory.specs.Lent.{looked_at}
use Rattle.memory.specs.declared.image.raw.Headed.{Headed}
use Rattle.memory.proofs.head.down_head.Reads as down-head
use Rattle.memory.proofs.head.sound_head.Reads as sound-head
use Rattle.memory.proofs.head.too_short.Reads as too-short
use Rattle.memory.proofs.head.up_head.Reads as up-head
use Rattle.memory.proofs.lent.Server.lent.Reads as lent
use Rattle.memory.proofs.raw.walk.Reads as raw-walk
use Rattle.memory.proofs.image.raw.Whole.counts.Reads as counts
use Rattle.memory.proofs.image.raw.Whole.suited.Reads as suited
use Rattle.memory.proofs.image.raw.Headed.checkpoint.Reads as checkpoint
use Rattle.memory.proofs.image.raw.Headed.log.Reads as log
use Rattle.memory.proofs.image.raw.Headed.newest.Reads as newest

pub too-short-one : One too-short.Post (λ k r s. r)
too-short-one k a x y s t p q = p ∙ sym q

pub sound-head-one : One sound-head.Post (λ k r s. r)
sound-head-one k a x y s t p q = verdicts-known x y p q

pub up-head-one : One up-head.Post (λ k r s. r)
up-head-one k a x y s t p q = verdicts-known x y p q

pub down-head-one : One down-head.Post (λ k r s. r)
down-head-one k a x y s t p q = verdicts-known x y p q

-- by the memory that it looks at
pub lent-one : One lent.Post (λ k r s. looked_at r)
lent-one k a x y s t p q = p ∙ sym q

-- ---- the raw ones: what they ask is that places are there

pub raw-walk-one : One raw-walk.Post (λ k r s. r)
raw-walk-one k a x y s t p q = p ∙ sym q

pub raw-counts-one : One counts.Post (λ k r s. r)
raw-counts-one k a x y s t p q = p ∙ sym q

pub raw-newest-one : One newest.Post (λ k r s. r)
raw-newest-one k a x y s t p q = p ∙ sym q

-- by the records that it lends
pub raw-checkpoint-one : One checkpoint.Post (λ k r s. map decode r.now)
raw-checkpoint-one k a x y s t p q = p ∙ sym q

pub raw-log-one : One log.Post (λ k r s. map decode r.now)
raw-log-one k a x y s t p q = p ∙ sym q

-- an image by its bytes, beside the proof that it carries
abbrev bytes_of : Option Headed → Option (Bor (List ℕ))
bytes_of None = None
bytes_of (Some h) = Some h.bytes

pub raw-suited-one : One suited.Post (λ k r s. bytes_of r)
raw-suited-one k a x y s t p q = go _ x y (p.0 ∙ sym q.0) p.1 q.1
  where
    go :
        (b : Bor (List ℕ)) (x y : Option Headed)
        → is_some x ≡ is_some y
        → IfSome x (λ h. h.bytes ≡ b)
        → IfSome y (λ h. h.bytes ≡ b)
        → bytes_of x ≡ bytes_of y
    go b None None e p q = refl
    go b None (Some h) e p q = cc
    go b (Some h) None e p q = cc
    go b (Some h) (Some i) e p q = ap {B = Option (Bor (List ℕ))} (λ (c : Bor (List ℕ)). Some c) (p ∙ sym q)
