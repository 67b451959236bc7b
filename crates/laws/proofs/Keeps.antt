-- A step from a sound state leaves a sound state, up or down, for every event.
-- Assumes nothing.
use Prim.Native.Nat.{ℕ, ◌-◌, ◌*◌, ◌/◌}
use mathlib.Core.Bool.{Bool, true, false, cond}
use mathlib.Core.List.{List, [], ◌∷◌, ◌++◌, append-nil, append_assoc}
use mathlib.Core.Path.{◌≡◌, refl, ap, sym, ◌∙◌, subst}
use native.Mathlib.Omega.{arith}
use borrow.Author.Tests.{not-false}
use lib.Dec.{leb}
use lib.ListN.{length, drop, replicate}
use Rattle.notes.specs.Lists.{every}
use Rattle.notes.specs.Bytes.{pieces}
use Rattle.notes.specs.Reply.{first}
use Rattle.notes.specs.Index.{servers, server_ok}
use Rattle.notes.specs.Record.{record_size, records, well_formed, record_bytes}
use Rattle.notes.specs.Message.{history_most, header_size, body, brought, records_ok}
use Rattle.notes.specs.declared.index.PhoneId.{PhoneId}
use Rattle.notes.specs.declared.index.ServerId.{ServerId}
use Rattle.notes.specs.declared.record.Record.{Record}
use Rattle.notes.specs.declared.vector.Vector.{Vector}
use Rattle.notes.proofs.Lists.{both}
use Rattle.notes.proofs.Numbers.{AllBelow, below-drop}
use Rattle.notes.proofs.Pieces.{Each, each-also}
use Rattle.notes.proofs.Vectors.{zeros-at}
use Rattle.notes.proofs.Records.{length-records, Fits, records-fit, records-of-bytes, length-record_bytes}
use Rattle.notes.proofs.Messages.{Server, server-facts, right}
use Rattle.rules.specs.declared.event.Event.{Event}
use Rattle.rules.specs.declared.event.Request.{Request}
use Rattle.rules.specs.declared.event.Request.TheVariants.{Read, Write}
use Rattle.rules.specs.declared.event.What.{What}
use Rattle.rules.specs.declared.event.What.TheVariants as what
use Rattle.rules.specs.declared.state.State.{State}
use Rattle.rules.specs.Writes.{keep_if, keep, counting, server_ids, writes_of, tally}
use Rattle.rules.specs.Memory.{Memory, memory, down_of, writes, blank, with_state}
use Rattle.rules.specs.Image.{checkpoint_count, log_count, checkpoint, log, image_size, checkpoint_at, log_at, checkpoint_area, log_area, history_size, stored}
use Rattle.rules.specs.Sound.{later, recovered, recovered_state, recovered_history, recover, sound, is_zero, suits, sound_up, sound_down}
use Rattle.rules.specs.Answer.{finished, is_down}
use Rattle.rules.specs.Request.{written, noted, cleared, due, own_plan, plan, ready, performed, served, cut_after, request, request_cut, request_refusals, cut_refusals}
use Rattle.rules.specs.Step.{Turn, skipped, appended, refuses, at_turn, vector_after, Taken, and_then, taken, taken_from, updated, update, update_refusals, plain_refusals, cut, recovery, happens, step}
use Rattle.rules.specs.Calls.{fresh}
use Rattle.laws.proofs.Phones.{reads-blank}
use Rattle.laws.proofs.Places.{records-appended, records-front}
use Rattle.laws.proofs.Stores.{fresh-shows, shows-server}
use Rattle.laws.proofs.Sound.{Facts, took}
use Rattle.laws.proofs.Open.{Up, opened, closed, closed-down}
use Rattle.laws.proofs.Passed.{Granted, Brought, Plain, unless-keeps, plain, granted, granted-cut, brought-known}
use Rattle.laws.proofs.Reading.{noted-is, cp, read_left, read-cut}
use Rattle.laws.proofs.Writing.{write-left, write-cut-so}

-- ---- either
module _ (m : Memory) (j : ServerId) (i : PhoneId) (v : Vector) where
  pub served-sound : (q : Request) → Granted m j i q v → sound (served m i q).after ≡ true
  unfolding served plan own_plan performed ready noted due written
  served-sound (Read cell) a =
      rw append-nil
      (subst (λ (t : State). sound (memory (cond b (cleared t) t) m.history (stored m.image (cond b (cp m j i (Read cell) v a) []))) ≡ true)
      (sym (noted-is m.state i (Read cell)))
      (read_left m j i (Read cell) v a b))
    where
      b : Bool
      b = due m i (Read cell)
  served-sound (Write cell value time) a = write-left m j i cell value time v a

  pub cut-sound : (q : Request) (k : ℕ) → Granted m j i q v → sound (cut_after m i q k).after ≡ true
  unfolding cut_after plan own_plan due
  cut-sound (Read cell) k a = rw append-nil (read-cut m j i (Read cell) v a (due m i (Read cell)) k)
  cut-sound (Write cell value time) k a = write-cut-so m j i cell value time v a k

-- ---- an update

-- what each write of a message has, each new one has
new-each : (P : Record → Type 0) (own : ServerId) (v : Vector) (rs : List Record) → Each P rs → Each P (taken own v rs).new
unfolding taken
new-each P own v [] h = tt
new-each P own v (r ∷ rs) h =
    go (at_turn own v r) h.0 (new-each P own (vector_after (at_turn own v r) v r) rs h.1)
  where
    go :
        (t : Turn)
        → P r
        → Each P (taken own (vector_after t v r) rs).new
        → Each P (and_then t v r (taken own (vector_after t v r) rs)).new
    go skipped p h = h
    go appended p h = (p, h)
    go (refuses k) p h = tt

module _ (m : Memory) (j : ServerId) (msg : List ℕ) (a : Brought m j msg) (bytes : AllBelow 256 msg) where
  abbrev t : Taken
  t = taken_from m msg

  u : Up m
  u = opened m a.head.image a.up a.head.sound

  pub new-fit : Each Fits t.new
  new-fit =
      new-each Fits m.state.own m.state.vector (brought msg)
      (records-fit (length (body msg) / record_size) (body msg) (below-drop header_size msg bytes))

  -- the history's writes, and after them the new ones
  pub appended-new : writes (updated m t) ≡ writes m ++ t.new
  unfolding updated
  appended-new =
      records-appended m.state.held (length t.new) m.history (record_bytes t.new)
      (length-record_bytes t.new (each-also (λ r f. f.eight) t.new new-fit))
      (omega (arith, a.room, a.head.history))
      ∙ ap (λ (x : List Record). writes m ++ x) (records-of-bytes t.new new-fit)

  new-formed : every (well_formed m.state.n) (brought msg) ≡ true
  unfolding records_ok
  new-formed =
      ap (λ (n : ℕ). every (well_formed n) (brought msg)) (sym a.same_n)
      ∙ (both (leb (length (brought msg)) history_most) _ (right msg a.right).records).1

  server : Server m.state.n m.state.own.0
  server = server-facts m.state.n m.state.own (shows-server _ _ m.image _ _ u.shows)

  pub updated-sound : sound (updated m t) ≡ true
  unfolding updated
  updated-sound =
      closed (updated m t) (checkpoint m.image) (log m.image) a.up u.shows
      (rw appended-new
      (took (brought msg) m.state (writes m) (checkpoint m.image) (log m.image) u.facts server.few
      (omega (arith, server.few, server.below))
      new-formed
      a.fits
      a.room))

-- ---- recovery

pub each_append : {A : Type 0} (P : A → Type 0) (a b : List A) → Each P a → Each P b → Each P (a ++ b)
each_append P [] b h k = k
each_append P (x ∷ a) b h k = (h.0, each_append P a b h.1 k)

each_keep : {A : Type 0} (P : A → Type 0) (p : A → Bool) (l : List A) → Each P l → Each P (keep p l)
unfolding keep
each_keep P p [] h = tt
each_keep P p (x ∷ l) h = go (p x) h.0 (each_keep P p l h.1)
  where
    go : (t : Bool) → P x → Each P (keep p l) → Each P (keep_if t x (keep p l))
    go true q h = (q, h)
    go false q h = h

abbrev pub recovered_in : Memory → List Record
recovered_in m = recovered m.state.own (checkpoint m.image) (log m.image)

module _ (m : Memory) (bytes : AllBelow 256 m.image) where
  pub recovered-fit : Each Fits (recovered_in m)
  unfolding recovered later checkpoint log
  recovered-fit =
      each_append Fits (checkpoint m.image) (later m.state.own (checkpoint m.image) (log m.image))
      (records-fit (checkpoint_count m.image) (checkpoint_area m.image) (below-drop checkpoint_at m.image bytes))
      (each_keep Fits _ (log m.image) (records-fit (log_count m.image) (log_area m.image) (below-drop log_at m.image bytes)))

  -- the history holds the checkpoint's records and after them its later logged ones
  pub recovered-writes : writes (recover m) ≡ recovered_in m
  unfolding recover recovered_state recovered_history
  recovered-writes =
      let zeros : List ℕ = replicate (history_size - record_size * length (recovered_in m)) 0 in
      ap (records (length (recovered_in m))) (append_assoc (record_bytes (recovered_in m)) zeros (drop history_size m.history))
      ∙ records-front (recovered_in m) (zeros ++ drop history_size m.history) recovered-fit

  pub recover-sound : m.state.up ≡ false → sound m ≡ true → sound (recover m) ≡ true
  unfolding sound sound_up sound_down suits recover recovered_state
  recover-sound down e =
      let d : sound_down m ≡ true = sym (ap (λ (t : Bool). cond t (sound_up m) (sound_down m)) down) ∙ e in
      let x = both (is_zero m.state) (suits m.state.n m.state.own m.image) d in
      rw recovered-writes x.1

-- ---- every step
abbrev Sound : Memory → Type 0
Sound m = sound m ≡ true

module _ (m : Memory) (e : Event) (v : Vector) (msg : List ℕ) (image : AllBelow 256 m.image) (bytes : AllBelow 256 msg) (ok : sound m ≡ true) where
  happens-sound : (j : ServerId) (w : What) → Sound (happens m j w v msg).after
  unfolding request request_cut cut update recovery
  happens-sound j (what.Request i q) =
      unless-keeps Sound (first (request_refusals m j i q v)) m (served m i q) ok
      (λ r. served-sound m j i v q (granted m j i q v r))
  happens-sound j (what.RequestCut i q k) =
      unless-keeps Sound (first (cut_refusals m j i q k v)) m (cut_after m i q k) ok
      (λ r. cut-sound m j i v q k (granted-cut m j i q v k r).0)
  happens-sound j what.Cut =
      unless-keeps Sound (first (plain_refusals m (is_down m) j)) m (finished (with_state (down_of m.state) m)) ok
      (λ r. plain-cut (plain m (is_down m) j r))
    where
      plain-cut : Plain m (is_down m) j → Sound (with_state (down_of m.state) m)
      plain-cut a =
          let u = opened m a.head.image (not-false m.state.up a.right) ok in
          closed-down m.state (writes m) (checkpoint m.image) (log m.image) u.facts (rw length-records u.facts.few) m.image u.shows m.history
  happens-sound j what.Update =
      unless-keeps Sound (first (update_refusals m j msg)) m (finished (updated m (taken_from m msg))) ok
      (λ r. updated-sound m j msg (brought-known m j msg r) bytes)
  happens-sound j what.Recovery =
      unless-keeps Sound (first (plain_refusals m m.state.up j)) m (finished (recover m)) ok
      (λ r. recover-sound m image (plain m m.state.up j r).right ok)

  pub step-sound : Sound (step m e v msg).after
  unfolding step
  step-sound = happens-sound e.server e.what

-- ---- starting anew
fresh-facts : (n : ℕ) (own : ServerId) → Facts (blank true n own) [] [] []
unfolding every tally server_ids counting writes_of keep
fresh-facts n own =
    record {
      few = omega arith;
      formed = refl;
      turns = λ o k. refl;
      counts = refl;
      first = refl;
      last = refl;
      before = omega arith;
      writes = omega (arith, zeros-at servers own.0);
      reads = reads-blank true n own;
    }

pub fresh-sound : (n : ℕ) (own : ServerId) (h i : List ℕ) → server_ok n own ≡ true → sound (fresh n own h i) ≡ true
unfolding fresh records pieces
fresh-sound n own h i ok =
    closed (fresh n own h i) [] [] refl (fresh-shows n own (drop image_size i) ok) (fresh-facts n own)
