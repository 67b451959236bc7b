-- A read from a sound state leaves a sound state, served or cut after any of a checkpoint's stores.
-- Assumes nothing.
use Prim.Native.Nat.{ℕ, ◌+◌, ◌-◌, ◌*◌, ◌≤◌, ◌<◌}
use mathlib.Core.Bool.{Bool, true, false, cond}
use mathlib.Core.List.{List, []}
use mathlib.Core.Path.{◌≡◌, refl, ap, sym, ◌∙◌, subst}
use native.Mathlib.Omega.{arith}
use borrow.Author.Tests.{leb-true, leb-false}
use lib.Dec.{leb}
use lib.ListN.{length, take}
use lib.Seq.{take_all, take-nil}
use Rattle.notes.specs.Index.{servers}
use Rattle.notes.specs.Record.{record_size, records}
use Rattle.notes.specs.Message.{history_most}
use Rattle.notes.specs.declared.index.PhoneId.{PhoneId}
use Rattle.notes.specs.declared.index.ServerId.{ServerId}
use Rattle.notes.specs.declared.record.Record.{Record}
use Rattle.notes.specs.declared.vector.Vector.{Vector}
use Rattle.notes.proofs.Records.{length-records}
use Rattle.rules.specs.declared.event.Request.{Request}
use Rattle.rules.specs.declared.event.Request.TheVariants.{Read, Write}
use Rattle.rules.specs.declared.state.State.{State}
use Rattle.rules.specs.Memory.{with_phone, Memory, memory, in_cr, rw_with, down_of, noting, writes}
use Rattle.rules.specs.Image.{checkpoint_count, checkpoint, log, Store, stored, checkpoint_plan}
use Rattle.rules.specs.Sound.{sound}
use Rattle.rules.specs.Request.{noted, cleared, due, ready}
use Rattle.laws.proofs.Phones.{reads-cleared, reads-noted}
use Rattle.laws.proofs.Stores.{Shows, shows-counts, length-checkpoint_plan, checkpoint-cut, checkpoint-counted, checkpoint-all}
use Rattle.laws.proofs.Sound.{Facts, kept-few, noted-facts, kept-all, log-empty}
use Rattle.laws.proofs.Open.{Up, opened, closed, closed-down, own-low}
use Rattle.laws.proofs.Passed.{Granted}

-- a request noted changes CR and RW alone
abbrev pub Renoted : State → State → Type 0
Renoted s t = t ≡ noting t.cr t.rw s.nwrites s

pub noted-is : (s : State) (i : PhoneId) (q : Request) → Renoted s (noted s i q)
unfolding noted
noted-is s i (Write cell value time) = refl
noted-is s i (Read cell) = go (in_cr s i)
  where
    go : (t : Bool) → Renoted s (cond t s (noting (with_phone s.cr i) (rw_with s i s.nwrites) s.nwrites s))
    go true = refl
    go false = refl

-- and what it goes on from differs in CR, RW and nWrites at most
pub ready-is : (m : Memory) (i : PhoneId) (q : Request) → let t = ready m i q in t ≡ noting t.cr t.rw t.nwrites m.state
unfolding ready cleared
ready-is m i q = go (due m i q)
  where
    t : State
    t = noted m.state i q

    go : (b : Bool) → let r = cond b (cleared t) t in r ≡ noting r.cr r.rw r.nwrites m.state
    go true = ap cleared (noted-is m.state i q)
    go false =
        let e = noted-is m.state i q in
        e ∙ ap (λ (k : ℕ). noting t.cr t.rw k m.state) (sym (ap (λ (x : State). x.nwrites) e))

module _ (m : Memory) (j : ServerId) (i : PhoneId) (q : Request) (v : Vector) (a : Granted m j i q v) where
  pub up : Up m
  up = opened m a.head.image a.up a.head.sound

  abbrev pub s : State
  s = m.state

  abbrev pub c : List Record
  c = checkpoint m.image

  abbrev pub l : List Record
  l = log m.image

  pub held : length (writes m) ≤ history_most
  held = rw length-records up.facts.few

  pub own : s.own.0 < servers
  own = own-low s (writes m) c l up.facts held m.image up.shows

  -- ---- a read, with a checkpoint or without
  abbrev pub t : State
  t = noting (noted s i q).cr (noted s i q).rw s.nwrites s

  noted-so : Facts t (writes m) c l
  noted-so =
      subst (λ (t : State). Facts t (writes m) c l) (noted-is s i q)
      (noted-facts s (writes m) c l up.facts i q (reads-noted s i q up.facts.reads))

  abbrev p : ℕ
  p = record_size * (s.held - checkpoint_count m.image)

  abbrev pub cp : List Store
  cp = checkpoint_plan m.history s.held (checkpoint_count m.image)

  room : record_size * s.held ≤ length m.history
  room = omega (arith, up.facts.few, a.head.history)

  kept : checkpoint_count m.image ≡ length c
  kept = (shows-counts s.n s.own m.image c l up.shows).0

  fits : checkpoint_count m.image ≤ s.held
  fits = omega (arith, kept, kept-few s (writes m) c l up.facts, length-records s.held m.history)

  first : c ≡ take (checkpoint_count m.image) (records s.held m.history)
  first = up.facts.first ∙ ap (λ (k : ℕ). take k (writes m)) (sym kept)

  -- the log kept, and then empty
  counted-so : Facts (cleared t) (writes m) (writes m) l
  counted-so = kept-all t (writes m) c l noted-so own (reads-cleared t)

  cleared-so : Facts (cleared t) (writes m) (writes m) []
  cleared-so = log-empty (cleared t) (writes m) (writes m) l counted-so (omega arith)

  taken-all : Shows s.n s.own (stored m.image cp) (writes m) []
  taken-all = checkpoint-all s.n s.own m.image c l up.shows m.history s.held room up.facts.few fits first

  pub read_left :
      (b : Bool)
      → sound (memory (cond b (cleared t) t) m.history (stored m.image (cond b cp []))) ≡ true
  unfolding cleared stored
  read_left true = closed (memory (cleared t) m.history (stored m.image cp)) (writes m) [] a.up taken-all cleared-so
  read_left false = closed (memory t m.history m.image) c l a.up up.shows noted-so

  -- what an image shows after some of a checkpoint's stores
  pub data OnTheWay (x : List ℕ) : Type 0 where
    before : Shows s.n s.own x c l → OnTheWay x
    between : Shows s.n s.own x (writes m) l → OnTheWay x
    after : Shows s.n s.own x (writes m) [] → OnTheWay x

  pub checkpoint-way : (k : ℕ) → OnTheWay (stored m.image (take k cp))
  checkpoint-way k = go (leb k p) (leb k (p + 1)) refl refl
    where
      go : (x y : Bool) → leb k p ≡ x → leb k (p + 1) ≡ y → OnTheWay (stored m.image (take k cp))
      go true y e f =
          before
          (checkpoint-cut s.n s.own m.image c l up.shows m.history s.held room up.facts.few fits first k
          (leb-true k p e))
      go false true e f =
          let one : k ≡ p + 1 = omega (arith, leb-false k p e, leb-true k (p + 1) f) in
          rw one
          (between (checkpoint-counted s.n s.own m.image c l up.shows m.history s.held room up.facts.few fits first))
      go false false e f =
          let n = length-checkpoint_plan m.history s.held (checkpoint_count m.image) fits room in
          rw (take_all k cp (omega (arith, leb-false k (p + 1) f))) (after taken-all)

  on-the-way : (x : List ℕ) → OnTheWay x → sound (memory (down_of s) m.history x) ≡ true
  unfolding cleared
  on-the-way x (before v) = closed-down s (writes m) c l up.facts held x v m.history
  on-the-way x (between v) = closed-down (cleared t) (writes m) (writes m) l counted-so held x v m.history
  on-the-way x (after v) = closed-down (cleared t) (writes m) (writes m) [] cleared-so held x v m.history

  pub read-cut : (b : Bool) (k : ℕ) → sound (memory (down_of s) m.history (stored m.image (take k (cond b cp [])))) ≡ true
  unfolding stored
  read-cut true k = on-the-way _ (checkpoint-way k)
  read-cut false k = rw take-nil (on-the-way _ (before up.shows))
