-- Laws of loops over a state's tables: one phone or one count more, and the end.
-- Assumes nothing.
use Prim.Native.Nat.{ℕ, ◌+◌, ◌/◌, ◌%◌, ◌^◌, ◌<◌, ◌≤◌}
use mathlib.Core.Bool.{◌&&◌, ◌||◌, and_assoc}
use mathlib.Core.Path.{◌≡◌, ap, ◌∙◌}
use native.Mathlib.Nat.{zero-add}
use lib.Dec.{leb, eqb}
use lib.ListN.{length, get_or, take, length-map}
use lib.Seq.{take_all}
use Rattle.notes.specs.Lists.{every}
use Rattle.notes.specs.Index.{phones}
use Rattle.notes.proofs.Lists.{every_more}
use Rattle.rules.specs.declared.state.State.{State}
use Rattle.rules.specs.Writes.{counting}
use Rattle.rules.specs.Memory.{phone, phone_ids, in_set, rw_at}
use Rattle.rules.specs.Sound.{rw_ok, reads_ok}
use Rattle.laws.proofs.Lists.{length-counting, counting-at, map_at}

-- ---- RW against CR, a phone at a time
length-phones : length phone_ids ≡ phones
unfolding phone_ids
length-phones = length-map (counting 0 phones) phone ∙ length-counting 0 phones

phone-at : (i : ℕ) → i < phones → get_or phone_ids i (phone 0) ≡ phone i
unfolding phone_ids
phone-at i h =
    map_at phone (counting 0 phones) i (phone 0) 0 (rw length-counting h)
    ∙ ap phone (counting-at 0 phones i h ∙ zero-add i)

module _ (s : State) where
  pub reads_more :
      (i : ℕ)
      → i < phones
      → every (rw_ok s) (take (i + 1) phone_ids)
      ≡ (every (rw_ok s) (take i phone_ids)
      && leb (rw_at s (phone i)) s.nwrites
      && (eqb (s.cr / 2 ^ i % 2) 1 || eqb (rw_at s (phone i)) 0))
  unfolding in_set
  reads_more i h =
      every_more (rw_ok s) phone_ids i (phone 0) (rw length-phones h)
      ∙ rw (phone-at i h, and_assoc)

  pub reads_all : (i : ℕ) → phones ≤ i → every (rw_ok s) (take i phone_ids) ≡ reads_ok s
  unfolding reads_ok
  reads_all i h = rw (take_all i phone_ids (rw length-phones h))
