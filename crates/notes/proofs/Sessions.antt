-- A session after a reply, count by count; and the numbers of choices.
-- Assumes nothing.
use Prim.Native.Nat.{ℕ, max}
use mathlib.Core.Bool.{Bool, true, false, cond}
use mathlib.Core.Path.{◌≡◌, refl, ap, sym, ◌∙◌}
use native.Mathlib.Omega.{arith}
use borrow.Author.Tests.{eqb-true}
use lib.Dec.{eqb}
use lib.ListN.{length}
use Rattle.std.specs.Prelude.{Result, Ok, Err}
use Rattle.notes.specs.Index.{ServerId, servers}
use Rattle.notes.specs.Vector.{Vector, at}
use Rattle.notes.specs.Session.{Choice, Reads, Writes, Both, choice_number, choose, Session, chosen_of, read_carries, after_read, after_write}
use Rattle.notes.specs.declared.message.Refusal.TheVariants.{OutOfRange}
use Rattle.notes.specs.declared.message.Refusal.{Refusal}
use Rattle.notes.proofs.Vectors.{at-maximum, length-maximum}

-- a choice is read back from its number
pub choose-number : (c : Choice) → choose (choice_number c) ≡ Ok c
unfolding choose
choose-number Reads = refl
choose-number Writes = refl
choose-number Both = refl

-- and a number that chooses is its choice's
number_of : Result Choice Refusal → ℕ
number_of (Ok c) = choice_number c
number_of (Err r) = 0

not-zero : (c : Choice) → 0 ≡ choice_number c → ⊥
not-zero Reads e = omega arith
not-zero Writes e = omega arith
not-zero Both e = omega arith

pub number-chosen : (k : ℕ) (c : Choice) → choose k ≡ Ok c → choice_number c ≡ k
unfolding choose number_of
number-chosen k c e = go (eqb k 1) (eqb k 2) (eqb k 3) refl refl refl (ap number_of e)
  where
    go :
        (x y z : Bool)
        → eqb k 1 ≡ x
        → eqb k 2 ≡ y
        → eqb k 3 ≡ z
        → number_of (cond x (Ok Reads) (cond y (Ok Writes) (cond z (Ok Both) (Err OutOfRange)))) ≡ choice_number c
        → choice_number c ≡ k
    go true y z p q r e = sym e ∙ sym (eqb-true k 1 p)
    go false true z p q r e = sym e ∙ sym (eqb-true k 2 q)
    go false false true p q r e = sym e ∙ sym (eqb-true k 3 r)
    go false false false p q r e = absurd (not-zero c e)

-- both vectors have eight counts
pub record Eight (s : Session) : Type 0 where
  pub reads : length s.reads.counts ≡ servers
  pub writes : length s.writes.counts ≡ servers

module _ (s : Session) (eight : Eight s) where
  -- so has what a read carries
  pub carries-eight : length (read_carries s).counts ≡ servers
  unfolding chosen_of
  carries-eight = go s.choice
    where
      go : (c : Choice) → length (chosen_of c s.reads s.writes).counts ≡ servers
      go Reads = eight.reads
      go Writes = eight.writes
      go Both = length-maximum s.reads s.writes eight.reads eight.writes

  module _ (v : Vector) (also : length v.counts ≡ servers) where
    -- a read's reply raises each count of the one to its own ..
    pub read-raises : (j : ServerId) → at (after_read s v).reads j ≡ max (at s.reads j) (at v j)
    unfolding after_read
    read-raises j = at-maximum s.reads v (eight.reads ∙ sym also) j

    -- .. and a write's reply each of the other
    pub write-raises : (j : ServerId) → at (after_write s v).writes j ≡ max (at s.writes j) (at v j)
    unfolding after_write
    write-raises j = at-maximum s.writes v (eight.writes ∙ sym also) j

module _ (s : Session) (v : Vector) where
  -- each leaves the other vector, and the choice
  pub read-leaves : ((after_read s v).writes ≡ s.writes) × ((after_read s v).choice ≡ s.choice)
  unfolding after_read
  read-leaves = (refl, refl)

  pub write-leaves : ((after_write s v).reads ≡ s.reads) × ((after_write s v).choice ≡ s.choice)
  unfolding after_write
  write-leaves = (refl, refl)
