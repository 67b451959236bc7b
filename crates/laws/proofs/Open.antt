-- A sound memory opened: what its image shows and what its state says; and closed again, up or down.
-- Assumes nothing.
use Prim.Native.Nat.{ℕ, ◌≤◌, ◌<◌}
use mathlib.Core.Bool.{Bool, true, cond}
use mathlib.Core.List.{List, ◌++◌}
use mathlib.Core.Path.{◌≡◌, refl, ap, sym, ◌∙◌}
use native.Mathlib.Omega.{arith}
use lib.ListN.{length, drop}
use Rattle.notes.specs.Lists.{every}
use Rattle.notes.specs.Index.{servers, phones}
use Rattle.notes.specs.Message.{history_most}
use Rattle.notes.specs.declared.record.Record.{Record}
use Rattle.notes.proofs.Lists.{both}
use Rattle.notes.proofs.Vectors.{zeros-at}
use Rattle.notes.proofs.Records.{length-records}
use Rattle.notes.proofs.Messages.{server-facts}
use Rattle.rules.specs.declared.state.State.{State}
use Rattle.rules.specs.Writes.{writes_of, count_of}
use Rattle.rules.specs.Memory.{Memory, memory, down_of, writes}
use Rattle.rules.specs.Image.{image_size, image_n, image_own, header_ok, checkpoint, log}
use Rattle.rules.specs.Sound.{recovered, recovered_state, is_zero, suits, sound_up, sound_down, sound}
use Rattle.laws.proofs.Phones.{no_reads}
use Rattle.laws.proofs.Stores.{Shows, shows-server, shows-n, shows-own}
use Rattle.laws.proofs.Sound.{Facts, facts, facts-ok, recovered-lacked, woken}
use Rattle.laws.proofs.Passed.{Head}

-- ---- up

pub record Up (m : Memory) : Type 0 where
  pub up : m.state.up ≡ true
  pub shows : Shows m.state.n m.state.own m.image (checkpoint m.image) (log m.image)
  pub facts : Facts m.state (writes m) (checkpoint m.image) (log m.image)

pub opened : (m : Memory) → image_size ≤ length m.image → m.state.up ≡ true → sound m ≡ true → Up m
unfolding sound sound_up
opened m long up e =
    let s : sound_up m ≡ true = sym (ap (λ (t : Bool). cond t (sound_up m) (sound_down m)) up) ∙ e in
    let x = both (header_ok m.state.n m.state.own m.image) _ s in
    record {
      up = up;
      shows = record { long = long; header = x.0; kept = refl; logged = refl };
      facts = facts m.state (writes m) (checkpoint m.image) (log m.image) x.1;
    }

pub open_up : (m : Memory) → Head m → m.state.up ≡ true → Up m
open_up m h up = opened m h.image up h.sound

pub closed :
    (m : Memory) (c l : List Record)
    → m.state.up ≡ true
    → Shows m.state.n m.state.own m.image c l
    → Facts m.state (writes m) c l
    → sound m ≡ true
unfolding sound sound_up
closed m c l up s f =
    ap (λ (t : Bool). cond t (sound_up m) (sound_down m)) up
    ∙ rw (s.header, s.kept, s.logged) (facts-ok m.state (writes m) c l f)

-- ---- down, or as a look-up sees it

-- an image that shows the checkpoint and the log of a consistent state suits a look-up and recovery
module _
    (s : State)
    (w c l : List Record)
    (f : Facts s w c l)
    (few : length w ≤ history_most)
    (i : List ℕ)
    (v : Shows s.n s.own i c l)
  where
    pub own-low : s.own.0 < servers
    own-low = let x = server-facts s.n s.own (shows-server s.n s.own i c l v) in omega (arith, x.few, x.below)

    pub suits-both : suits s.n s.own i ≡ true
    unfolding suits recovered_state
    suits-both =
        let t = recovered_state s.n s.own c l in
        rw (v.header, v.kept, v.logged)
        (facts-ok t (recovered s.own c l) c l (woken s w c l f own-low few (no_reads t (λ i. zeros-at phones i.0))))

    -- recovered from it: its checkpoint, and after it every own write that the checkpoint lacks
    pub recovers-lacked : recovered s.own (checkpoint i) (log i) ≡ c ++ drop (count_of s.own c) (writes_of s.own w)
    recovers-lacked = rw (v.kept, v.logged) (recovered-lacked s w c l f own-low)

    pub closed-down : (h : List ℕ) → sound (memory (down_of s) h i) ≡ true
    unfolding sound sound_down is_zero every
    closed-down h = suits-both

-- an up server's image always suits a look-up
pub up-suits : (m : Memory) → Up m → suits (image_n m.image) (image_own m.image) m.image ≡ true
up-suits m u =
    let few : length (writes m) ≤ history_most = rw length-records u.facts.few in
    rw (shows-n _ _ m.image _ _ u.shows, shows-own _ _ m.image _ _ u.shows)
    (suits-both m.state (writes m) (checkpoint m.image) (log m.image) u.facts few m.image u.shows)
