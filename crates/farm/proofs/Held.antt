-- What a memory keeps, what a step adds to it, and writes that stand in the farm's lists, one by one or as these begin.
-- Assumes nothing.
use Prim.Native.Nat.{ℕ, ◌≤◌, ◌<◌}
use mathlib.Core.Bool.{true, false, cond}
use mathlib.Core.List.{List, ◌++◌}
use mathlib.Core.Path.{◌≡◌, ap, sym}
use borrow.Author.Tests.{eq-eqb, le-ltb}
use lib.ListN.{length}
use Rattle.notes.specs.Lists.{every}
use Rattle.notes.specs.Record.{number, well_formed}
use Rattle.notes.specs.Vector.{at}
use Rattle.notes.specs.declared.index.ServerId.{ServerId}
use Rattle.notes.specs.declared.record.Record.{Record}
use Rattle.notes.specs.declared.vector.Vector.{Vector}
use Rattle.rules.specs.Writes.{server, writes_of}
use Rattle.rules.specs.Memory.{Memory, writes}
use Rattle.rules.specs.Image.{history_size, image_size}
use Rattle.rules.specs.Answer.{short, elsewhere}
use Rattle.rules.specs.Sound as soundness
use Rattle.laws.proofs.Keeps.{recovered_in}
use Rattle.laws.proofs.Stays.{Bytes}
use Rattle.farm.specs.Demand.{◌∈◌}
use Rattle.farm.proofs.Prefix.{Pre, pre-trans, pre-mem}

-- a server's memory as the farm has it
pub record Sane (n : ℕ) (j : ServerId) (m : Memory) : Type 0 where
  pub history : history_size ≤ length m.history
  pub image : image_size ≤ length m.image
  pub bytes : Bytes m
  pub sound : soundness.sound m ≡ true
  pub servers : m.state.n ≡ n
  pub own : m.state.own ≡ j

module _ (n : ℕ) (j : ServerId) (m : Memory) (s : Sane n j m) where
  pub sane-long : short m ≡ false
  sane-long = rw (le-ltb (length m.history) history_size s.history, le-ltb (length m.image) image_size s.image)

  pub sane-here : elsewhere m j ≡ false
  sane-here = rw (eq-eqb j.0 m.state.own.0 (sym (ap (λ (o : ServerId). o.0) s.own)))

-- the history's writes, or where the server is down those that recovery gives
abbrev pub keeps : Memory → List Record
keeps m = cond m.state.up (writes m) (recovered_in m)

-- what is kept after some writes are added: all own writes, and of each origin the first
pub record Kept (own : ServerId) (h added after : List Record) : Type 0 where
  pub mine : writes_of own after ≡ writes_of own (h ++ added)
  pub others : (o : ServerId) → Pre (writes_of o after) (writes_of o (h ++ added))

-- the writes of each origin in the whole farm, in the order of their numbers
abbrev pub Numbered : Type 0
Numbered = ℕ → List Record

-- each list is the beginning of another
abbrev pub Grows : ℕ → Numbered → Numbered → Type 0
Grows n c d = (o : ℕ) → o < n → Pre (c o) (d o)

-- a write in its origin's list
pub record Placed (n : ℕ) (c : Numbered) (w : Record) : Type 0 where
  pub formed : well_formed n w ≡ true
  pub low : w.origin.0 < n
  pub listed : w ∈ c w.origin.0

-- and counted by a vector
pub record Covered (n : ℕ) (c : Numbered) (v : Vector) (w : Record) : Type 0 where
  pub placed : Placed n c w
  pub counted : number w ≤ at v w.origin

-- of each origin the first of these
pub record Held (n : ℕ) (c : Numbered) (h : List Record) : Type 0 where
  pub formed : every (well_formed n) h ≡ true
  pub begins : (o : ℕ) → o < n → Pre (writes_of (server o) h) (c o)

module _ (n : ℕ) (c d : Numbered) (g : Grows n c d) where
  pub placed-grows : (w : Record) → Placed n c w → Placed n d w
  placed-grows w p =
      let o = w.origin.0 in
      record { formed = p.formed; low = p.low; listed = pre-mem (c o) (d o) (g o p.low) p.listed }

  pub held-grows : (h : List Record) → Held n c h → Held n d h
  held-grows h k =
      record { formed = k.formed; begins = λ o l. pre-trans (writes_of (server o) h) (c o) (d o) (k.begins o l) (g o l) }
