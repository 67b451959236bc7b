-- What a step leaves of a sane memory: a sane one, and of the writes kept all, these and more, or those that a cut spares.
-- Assumes nothing.
use Prim.Native.Nat.{ℕ, ◌≤◌, ◌<◌}
use mathlib.Core.Bool.{Bool, true, false, cond}
use mathlib.Core.List.{List, [], ◌∷◌, ◌++◌, append-nil}
use mathlib.Core.Logic.{◌⊎◌, inl, inr}
use mathlib.Core.Path.{◌≡◌, refl, ap, sym, subst, ◌∙◌}
use native.Mathlib.Decide.{ℕ_discrete}
use native.Mathlib.Omega.{arith}
use lib.ListN.{length, take, drop, length-append, length-replicate}
use lib.Seq.{length-sets, take-nil}
use Rattle.notes.specs.Lists.{every}
use Rattle.notes.specs.Bytes.{to_bytes}
use Rattle.notes.specs.Index.{servers}
use Rattle.notes.specs.Record.{decode, encode, well_formed}
use Rattle.notes.specs.Message.{history_most}
use Rattle.notes.specs.declared.index.PhoneId.{PhoneId}
use Rattle.notes.specs.declared.index.ServerId.{ServerId}
use Rattle.notes.specs.declared.record.Record.{Record}
use Rattle.notes.specs.declared.vector.Vector.{Vector}
use Rattle.notes.proofs.Lists.{both}
use Rattle.notes.proofs.Numbers.{AllBelow, from-to}
use Rattle.notes.proofs.Records.{length-records, length-record_bytes}
use Rattle.notes.proofs.Pieces.{each-also}
use Rattle.notes.proofs.Messages.{Server, server-facts}
use Rattle.rules.specs.declared.event.Event.{Event}
use Rattle.rules.specs.declared.event.Request.{Request}
use Rattle.rules.specs.declared.event.Request.TheVariants.{Read, Write}
use Rattle.rules.specs.declared.state.State.{State}
use Rattle.rules.specs.Writes.{writes_of, count_of, tally}
use Rattle.rules.specs.Memory.{Memory, memory, with_state, down_of, writes}
use Rattle.rules.specs.Image.{history_size, image_size, header_ok, checkpoint, log, stored}
use Rattle.rules.specs.Sound.{recovered, recovered_state, recovered_history, recover, is_zero, suits, sound_up, sound_down, sound}
use Rattle.rules.specs.Request.{new_record, written, noted, cleared, due, own_plan, plan, ready, performed, served, cut_after}
use Rattle.rules.specs.Step.{taken_from, updated, step}
use Rattle.laws.proofs.Phones.{reads-cleared}
use Rattle.laws.proofs.Writes.{InTurn, From, same-server}
use Rattle.laws.proofs.Stores.{Shows, length-stored, laid_of}
use Rattle.laws.proofs.Sound.{Facts, facts, kept-all, log-empty, own-again, others-none}
use Rattle.laws.proofs.Open.{Up, opened, own-low, recovers-lacked}
use Rattle.laws.proofs.Passed.{Granted, Brought}
use Rattle.laws.proofs.Newest.{like}
use Rattle.laws.proofs.Reading.{ready-is, cp, OnTheWay, before, between, after, checkpoint-way}
use Rattle.laws.proofs.Writing as writing
use Rattle.laws.proofs.Keeps.{appended-new, recovered_in, recovered-fit, recovered-writes, step-sound}
use Rattle.laws.proofs.Stays.{step-bytes}
use Rattle.laws.proofs.Outcomes.{step-cases}
use Rattle.farm.proofs.Prefix.{Pre, pre-refl, pre-take, pre-keep}
use Rattle.farm.proofs.Held.{Sane, keeps, Kept}

-- ---- what is kept
pub kept_more : (j : ServerId) (h added g : List Record) → g ≡ h ++ added → Kept j h added g
kept_more j h added g e =
    record { mine = ap (writes_of j) e; others = λ o. rw e (pre-refl (writes_of o (h ++ added))) }

pub kept_same : (j : ServerId) (h g : List Record) → g ≡ h → Kept j h [] g
kept_same j h g e = kept_more j h [] g (e ∙ sym (append-nil h))

pub keeps-up : (m : Memory) → m.state.up ≡ true → keeps m ≡ writes m
keeps-up m u = rw u

pub keeps-down : (m : Memory) → m.state.up ≡ false → keeps m ≡ recovered_in m
keeps-down m d = rw d

-- recovery from an image that shows the checkpoint and the log of a consistent state
module _
    (s : State)
    (w c l : List Record)
    (f : Facts s w c l)
    (few : length w ≤ history_most)
    (i : List ℕ)
    (v : Shows s.n s.own i c l)
  where
    cut_keeps :
        (j : ServerId)
        → s.own ≡ j
        → (h added : List Record)
        → w ≡ h ++ added
        → Kept j h added (recovered s.own (checkpoint i) (log i))
    unfolding writes_of
    cut_keeps j q h added e =
        rw (recovers-lacked s w c l f few i v, ← q)
        (record {
          mine = own-again s w c l f low ∙ ap (writes_of s.own) e;
          others = λ o. rw (← e) (go o (ℕ_discrete s.own.0 o.0));
        })
      where
        low : s.own.0 < servers
        low = own-low s w c l f few i v

        g : List Record
        g = c ++ drop (count_of s.own c) (writes_of s.own w)

        go : (o : ServerId) → Dec (s.own.0 ≡ o.0) → Pre (writes_of o g) (writes_of o w)
        go o (yes q) =
            subst (λ (o : ServerId). Pre (writes_of o g) (writes_of o w)) (same-server s.own o q)
            (rw (own-again s w c l f low) (pre-refl (writes_of s.own w)))
        go o (no q) =
            rw (others-none s w c l f low o q)
            (pre-keep _ c w (subst (λ (x : List Record). Pre x w) (sym f.first) (pre-take (length c) w)))

-- ---- the parts of a memory that no step changes
record Shape (n : ℕ) (j : ServerId) (m : Memory) : Type 0 where
  pub history : history_size ≤ length m.history
  pub image : image_size ≤ length m.image
  pub servers : m.state.n ≡ n
  pub own : m.state.own ≡ j

-- what soundness says of the writes kept and of the image's header, up or down
record Whole (m : Memory) (h : List Record) : Type 0 where
  pub header : header_ok m.state.n m.state.own m.image ≡ true
  pub formed : every (well_formed m.state.n) h ≡ true
  pub turns : InTurn h

module _ (n : ℕ) (j : ServerId) (m : Memory) (s : Sane n j m) where
  up-now : m.state.up ≡ true → Up m
  up-now u = opened m s.image u s.sound

  -- ---- sane again
  shaped :
      (t : State) (h i : List ℕ)
      → t.n ≡ m.state.n
      → t.own ≡ m.state.own
      → history_size ≤ length h
      → image_size ≤ length i
      → Shape n j (memory t h i)
  shaped t h i a b x y = record { history = x; image = y; servers = a ∙ s.servers; own = b ∙ s.own }

  served-shape : (i : PhoneId) (q : Request) → Shape n j (served m i q).after
  unfolding served performed written
  served-shape i (Read cell) =
      let e = ready-is m i (Read cell) in
      shaped _ _ _ (ap (λ t. t.n) e) (ap (λ t. t.own) e) s.history (rw length-stored s.image)
  served-shape i (Write cell value time) =
      let e = ready-is m i (Write cell value time) in
      shaped _ _ _ (ap (λ t. t.n) e) (ap (λ t. t.own) e) (rw length-sets s.history) (rw length-stored s.image)

  recovered-long : history_size ≤ length (recover m).history
  unfolding recover recovered_history
  recovered-long =
      let rs = recovered_in m in
      let e = length-record_bytes rs (each-also (λ r f. f.eight) rs (recovered-fit m s.bytes.image)) in
      simp (length-append, length-replicate) (omega arith)

  pub step-sane : (e : Event) (v : Vector) (msg : List ℕ) → AllBelow 256 msg → Sane n j (step m e v msg).after
  unfolding cut_after updated recover recovered_state
  step-sane e v msg b =
      record {
        history = x.history;
        image = x.image;
        bytes = step-bytes m s.bytes v msg b e;
        sound = step-sound m e v msg s.bytes.image b s.sound;
        servers = x.servers;
        own = x.own;
      }
    where
      x : Shape n j (step m e v msg).after
      x =
          step-cases m e v msg (λ x. Shape n j x.after)
          (record {
            refuses = λ k. shaped _ _ _ refl refl s.history s.image;
            serves = λ i q a. served-shape i q;
            cut_serving = λ i q k a. shaped _ _ _ refl refl s.history (rw length-stored s.image);
            cuts = λ a. shaped _ _ _ refl refl s.history s.image;
            takes = λ a. shaped _ _ _ refl refl (rw length-sets s.history) s.image;
            recovers = λ a. shaped _ _ _ refl refl recovered-long s.image;
          })

  -- ---- what a sane memory keeps, up or down
  whole : Whole m (keeps m)
  unfolding sound sound_up sound_down suits recovered_state
  whole = go m.state.up s.sound
    where
      c : List Record
      c = checkpoint m.image

      l : List Record
      l = log m.image

      go : (t : Bool) → cond t (sound_up m) (sound_down m) ≡ true → Whole m (cond t (writes m) (recovered_in m))
      go true e =
          let x = both (header_ok m.state.n m.state.own m.image) _ e in
          let f = facts m.state (writes m) c l x.1 in
          record { header = x.0; formed = f.formed; turns = f.turns }
      go false e =
          let d = both (is_zero m.state) (suits m.state.n m.state.own m.image) e in
          let x = both (header_ok m.state.n m.state.own m.image) _ d.1 in
          let f = facts (recovered_state m.state.n m.state.own c l) (recovered_in m) c l x.1 in
          record { header = x.0; formed = f.formed; turns = f.turns }

  pub kept-formed : every (well_formed n) (keeps m) ≡ true
  kept-formed = rw s.servers at whole.formed

  pub kept-runs : (o : ServerId) → o.0 < servers → From 0 (writes_of o (keeps m))
  kept-runs = whole.turns

  pub kept-vector : m.state.up ≡ true → m.state.vector ≡ tally (keeps m)
  kept-vector u = rw u (up-now u).facts.counts

  server : Server n j.0
  server =
      rw (s.servers, s.own) at
      (server-facts m.state.n m.state.own (laid_of m.state.n m.state.own m.image whole.header).server)

  pub server-low : j.0 < n
  server-low = server.below

  pub servers-few : n ≤ servers
  servers-few = server.few

  -- ---- served, updated, recovered
  pub kept_read :
      (i : PhoneId) (cell : ℕ) (v : Vector) → Granted m j i (Read cell) v → keeps (served m i (Read cell)).after ≡ keeps m
  unfolding served performed
  kept_read i cell v a = let e = ready-is m i (Read cell) in rw (ap (λ t. t.up) e, ap (λ t. t.held) e, a.up)

  module _
      (i : PhoneId)
      (cell value time : ℕ)
      (v : Vector)
      (a : Granted m j i (Write cell value time) v)
      (small : value < 4294967296)
      (soon : time < 4294967296)
    where
      -- the new record is read back as it was
      read_back : decode (encode (new_record m i cell value time)) ≡ new_record m i cell value time
      unfolding decode encode to_bytes new_record
      read_back =
          let e = like m (up-now a.up) i cell value time a.phone a.cell (a.room refl) in
          λ k. record {
            origin = e.origin k;
            phone = e.phone k;
            cell = e.cell k;
            value = from-to 4 value small k;
            time = from-to 4 time soon k;
            stamp = e.stamp k;
          }

      pub kept-write : keeps (served m i (Write cell value time)).after ≡ keeps m ++ new_record m i cell value time ∷ []
      unfolding served performed written ready noted due
      kept-write =
          keeps-up (served m i (Write cell value time)).after a.up
          ∙ writing.appended_one m j i cell value time v a
          ∙ rw (read_back, keeps-up m a.up)

  pub kept-update :
      (msg : List ℕ)
      → Brought m j msg
      → AllBelow 256 msg
      → keeps (updated m (taken_from m msg)) ≡ keeps m ++ (taken_from m msg).new
  unfolding updated
  kept-update msg a b = rw a.up (appended-new m j msg a b)

  pub kept-recover : m.state.up ≡ false → keeps (recover m) ≡ keeps m
  unfolding recover recovered_state
  kept-recover d = rw d (recovered-writes m s.bytes.image)

  -- ---- cut
  abbrev Spared : List ℕ → List Record → Type 0
  Spared x added = Kept j (keeps m) added (recovered m.state.own (checkpoint x) (log x))

  module _ (u : m.state.up ≡ true) where
    abbrev c : List Record
    c = checkpoint m.image

    abbrev l : List Record
    l = log m.image

    few : length (writes m) ≤ history_most
    few = rw length-records (up-now u).facts.few

    no_more : writes m ≡ keeps m ++ []
    no_more = rw (append-nil, keeps-up m u)

    -- an image with the checkpoint as it was, or with a whole one
    spared : (x : List ℕ) → Shows m.state.n m.state.own x c l → Spared x []
    spared x v = cut_keeps m.state (writes m) c l (up-now u).facts few x v j s.own (keeps m) [] no_more

    copied : Facts (cleared m.state) (writes m) (writes m) l
    copied =
        kept-all m.state (writes m) c l (up-now u).facts (rw s.own (omega (arith, server-low, servers-few)))
        (reads-cleared m.state)

    spared-all :
        (k : List Record)
        → Facts (cleared m.state) (writes m) (writes m) k
        → (x : List ℕ)
        → Shows m.state.n m.state.own x (writes m) k
        → Spared x []
    unfolding cleared
    spared-all k f x v = cut_keeps (cleared m.state) (writes m) (writes m) k f few x v j s.own (keeps m) [] no_more

    pub kept-cut : Kept j (keeps m) [] (keeps (with_state (down_of m.state) m))
    kept-cut = spared m.image (up-now u).shows

  pub kept-cut-read :
      (i : PhoneId) (cell k : ℕ) (v : Vector)
      → Granted m j i (Read cell) v
      → Kept j (keeps m) [] (keeps (cut_after m i (Read cell) k).after)
  unfolding cut_after plan own_plan stored
  kept-cut-read i cell k v a = rw append-nil (go (due m i (Read cell)))
    where
      way : (x : List ℕ) → OnTheWay m j i (Read cell) v a x → Spared x []
      way x (before w) = spared a.up x w
      way x (between w) = spared-all a.up (log m.image) (copied a.up) x w
      way x (after w) =
          spared-all a.up [] (log-empty (cleared m.state) (writes m) (writes m) (log m.image) (copied a.up) (omega arith))
          x
          w

      go : (b : Bool) → Spared (stored m.image (take k (cond b (cp m j i (Read cell) v a) []))) []
      go true = way _ (checkpoint-way m j i (Read cell) v a k)
      go false = rw take-nil (kept-cut a.up)

  pub kept-cut-write :
      (i : PhoneId) (cell value time k : ℕ) (v : Vector)
      → Granted m j i (Write cell value time) v
      → value < 4294967296
      → time < 4294967296
      → Kept j (keeps m) [] (keeps (cut_after m i (Write cell value time) k).after)
      ⊎ Kept j (keeps m) (new_record m i cell value time ∷ []) (keeps (cut_after m i (Write cell value time) k).after)
  unfolding cut_after plan own_plan due
  kept-cut-write i cell value time k v a small soon = go _ (writing.write-way m j i cell value time v a k)
    where
      r : Record
      r = new_record m i cell value time

      go : (x : List ℕ) → writing.Written m j i cell value time v a x → Spared x [] ⊎ Spared x (r ∷ [])
      go x (writing.before w) = inl (spared a.up x w)
      go x (writing.after w) =
          inr
          (cut_keeps (writing.next-state m j i cell value time v a) _ _ _ (writing.wrote_so m j i cell value time v a)
          (rw (length-append, length-records) (omega (arith, a.room refl)))
          x
          w
          j
          s.own
          (keeps m)
          (r ∷ [])
          (rw (read_back i cell value time v a small soon, keeps-up m a.up)))
