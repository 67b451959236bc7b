-- A write to a sound state leaves a sound state, served or cut after any of its stores.
-- Assumes nothing.
use Prim.Native.Nat.{ℕ, ◌+◌, ◌*◌}
use mathlib.Core.Bool.{Bool, true, false}
use mathlib.Core.List.{List, [], ◌∷◌, ◌++◌}
use mathlib.Core.Path.{◌≡◌, refl, ap, ◌∙◌}
use native.Mathlib.Omega.{arith}
use borrow.Author.Tests.{leb-true, leb-false}
use lib.Dec.{leb}
use lib.ListN.{length, take, length-append}
use lib.Seq.{sets, take_all}
use Rattle.notes.specs.Record.{record_size, records, decode, encode}
use Rattle.notes.specs.declared.index.PhoneId.{PhoneId}
use Rattle.notes.specs.declared.index.ServerId.{ServerId}
use Rattle.notes.specs.declared.record.Record.{Record}
use Rattle.notes.specs.declared.vector.Vector.{Vector}
use Rattle.notes.proofs.Records.{length-records}
use Rattle.rules.specs.declared.event.Request.TheVariants.{Write}
use Rattle.rules.specs.declared.state.State.{State}
use Rattle.rules.specs.Memory.{Memory, memory, down_of, noting, holding, writes}
use Rattle.rules.specs.Image.{log_count, checkpoint, log, stored, write_plan}
use Rattle.rules.specs.Sound.{sound}
use Rattle.rules.specs.Request.{new_vector, new_record}
use Rattle.laws.proofs.Phones.{reads_more}
use Rattle.laws.proofs.Places.{records-appended, records-one}
use Rattle.laws.proofs.Stores.{Shows, length-write_plan, write-cut, write-all}
use Rattle.laws.proofs.Sound.{Facts, wrote}
use Rattle.laws.proofs.Open.{Up, closed, closed-down}
use Rattle.laws.proofs.Passed.{Granted}
use Rattle.laws.proofs.Newest.{encoded, like, number-like, next, formed}
use Rattle.laws.proofs.Reading.{up, held, own}

module _ (m : Memory) (j : ServerId) (i : PhoneId) (cell value time : ℕ) (v : Vector) (a : Granted m j i (Write cell value time) v) where
  abbrev pub u : Up m
  u = up m j i (Write cell value time) v a

  abbrev pub s : State
  s = m.state

  abbrev pub c : List Record
  c = checkpoint m.image

  abbrev pub l : List Record
  l = log m.image

  abbrev pub r : Record
  r = new_record m i cell value time

  -- the record as it is read back
  abbrev pub back : Record
  back = decode (encode r)

  size : length (encode r) ≡ record_size
  size = encoded m u i cell value time a.phone a.cell (a.room refl)

  abbrev pub next-state : State
  next-state = noting s.cr s.rw (s.nwrites + 1) (holding (s.held + 1) (new_vector s) s)

  pub wrote_so : Facts next-state (writes m ++ back ∷ []) c (l ++ back ∷ [])
  unfolding new_record
  wrote_so =
      let e = like m u i cell value time a.phone a.cell (a.room refl) in
      wrote s (writes m) c l u.facts (own m j i (Write cell value time) v a) back e.origin
      (number-like back r e ∙ next m u i cell value time a.phone a.cell (a.room refl))
      (formed m u i cell value time a.phone a.cell (a.room refl))
      (a.room refl)
      (reads_more s (s.held + 1) (new_vector s) u.facts.reads)

  pub logged-all : Shows s.n s.own (stored m.image (write_plan r (log_count m.image))) c (l ++ back ∷ [])
  logged-all = write-all s.n s.own m.image c l u.shows r size (a.log_room refl)

  -- the history has one write more
  pub appended_one : records (s.held + 1) (sets m.history (record_size * s.held) (encode r)) ≡ writes m ++ back ∷ []
  appended_one =
      records-appended s.held 1 m.history (encode r) size (omega (arith, a.room refl, a.head.history))
      ∙ ap (λ (x : List Record). writes m ++ x) (records-one (encode r) size)

  pub write-left :
      sound (memory next-state (sets m.history (record_size * s.held) (encode r)) (stored m.image (write_plan r (log_count m.image)))) ≡ true
  write-left = closed _ c (l ++ back ∷ []) a.up logged-all (rw appended_one wrote_so)

  -- what an image shows after some of a write's stores
  pub data Written (x : List ℕ) : Type 0 where
    before : Shows s.n s.own x c l → Written x
    after : Shows s.n s.own x c (l ++ back ∷ []) → Written x

  pub write-way : (k : ℕ) → Written (stored m.image (take k (write_plan r (log_count m.image))))
  write-way k = go (leb k record_size) refl
    where
      go : (x : Bool) → leb k record_size ≡ x → Written (stored m.image (take k (write_plan r (log_count m.image))))
      go true e = before (write-cut s.n s.own m.image c l u.shows r size k (leb-true k record_size e))
      go false e =
          let n = length-write_plan r (log_count m.image) size in
          rw (take_all k (write_plan r (log_count m.image)) (omega (arith, leb-false k record_size e))) (after logged-all)

  pub write-cut-so : (k : ℕ) → sound (memory (down_of s) m.history (stored m.image (take k (write_plan r (log_count m.image))))) ≡ true
  write-cut-so k = go _ (write-way k)
    where
      go : (x : List ℕ) → Written x → sound (memory (down_of s) m.history x) ≡ true
      go x (before w) = closed-down s (writes m) c l u.facts (held m j i (Write cell value time) v a) x w m.history
      go x (after w) =
          let n = length-append (writes m) (back ∷ []) in
          let k = length-records s.held m.history in
          closed-down next-state (writes m ++ back ∷ []) c (l ++ back ∷ []) wrote_so (omega (arith, a.room refl)) x w m.history
