-- Each act of a server that is no request's keeps what holds.
-- Assumes nothing.
use Prim.Native.Nat.{ℕ, zero, suc, ◌≤◌, ◌<◌}
use mathlib.Core.Bool.{Bool, true, false, cond, ◌&&◌, false≢true}
use mathlib.Core.List.Memᴰ
use mathlib.Core.List.{List, [], ◌∷◌, ◌++◌, append-nil}
use mathlib.Core.Option.{none}
use mathlib.Core.Path.{◌≡◌, refl, ap, sym, subst, ◌∙◌}
use native.Mathlib.Decide.{ℕ_discrete, dec_lt}
use native.Mathlib.Omega.{arith}
use borrow.Author.Tests.{not-false, eq-eqb, ne_eqb, ltb-true}
use lib.Dec.{ltb}
use lib.ListN.{length}
use Rattle.notes.specs.Lists.{every}
use Rattle.notes.specs.Reply.{first}
use Rattle.notes.specs.Vector.{zeros}
use Rattle.notes.specs.Message.{brought}
use Rattle.notes.specs.declared.index.ServerId.{ServerId}
use Rattle.notes.specs.declared.record.Record.{Record}
use Rattle.notes.specs.declared.vector.Vector.{Vector}
use Rattle.notes.proofs.Lists.{both}
use Rattle.notes.proofs.Numbers.{AllBelow}
use Rattle.rules.specs.declared.event.What.{What}
use Rattle.rules.specs.declared.event.What.TheVariants as what
use Rattle.rules.specs.Writes.{server, keep, writes_of, tally}
use Rattle.rules.specs.Image.{history_size}
use Rattle.rules.specs.Memory.{Memory, with_state, with_history, down_of}
use Rattle.rules.specs.Answer.{Effect, finished, unless, is_down}
use Rattle.rules.specs.Step.{Taken, taken, taken_from, updated, update_refusals, update, plain_refusals, cut, recovery, step}
use Rattle.rules.specs.Sound as soundness
use Rattle.laws.proofs.Passed.{Plain, brought-known, plain}
use Rattle.laws.proofs.Writes.{writes_of-append}
use Rattle.laws.proofs.Outcomes.{done_none, unsound-refused, refused-same}
use Rattle.farm.specs.Farm.{Farm, are_bytes, changed, is_done, Done, step_at, plainly, recover, recovering}
use Rattle.farm.specs.Demand.{◌∈◌}
use Rattle.farm.proofs.Prefix.{Pre, each-mem, changed-same, changed-other}
use Rattle.farm.proofs.Held.{Sane, keeps, Kept, Numbered}
use Rattle.farm.proofs.Known.{Genuine, flight-grows, listed-grows}
use Rattle.farm.proofs.Taken.{taken-held, mine-stays}
use Rattle.farm.proofs.Inv.{lists-run, Inv, Onward, still, next, grows, seats-next, deeds-next}
use Rattle.farm.proofs.Steps.{step-sane, kept_same, kept_more, kept-cut, kept-update, kept-recover, keeps-down, kept-vector, servers-few}

-- ---- nothing changed
pub changed-id : {A : Type 0} (f : ℕ → A) (k : ℕ) (a : A) → a ≡ f k → changed f k a ≡ f
changed-id f k a e = λ t i. go i (ℕ_discrete i k) t
  where
    go : (i : ℕ) → Dec (i ≡ k) → changed f k a i ≡ f i
    go i (yes q) = subst (λ (i : ℕ). changed f k a i ≡ f i) (sym q) (changed-same f k a ∙ e)
    go i (no q) = changed-other f k a i q

pub below_none : AllBelow 256 []
below_none k = omega arith

-- ---- bytes that are lent
pub bytes_below : (l : List ℕ) → are_bytes l ≡ true → AllBelow 256 l
unfolding are_bytes every
bytes_below [] e k = omega arith
bytes_below (x ∷ l) e zero = ltb-true x 256 (both (ltb x 256) _ e).0
bytes_below (x ∷ l) e (suc k) = bytes_below l (both (ltb x 256) _ e).1 k

-- ---- a cut loses memory: what a server that is down keeps, and whether it is sound, no history tells
module _ (n : ℕ) (j : ServerId) (m : Memory) (down : m.state.up ≡ false) (h : List ℕ) where
  lent-sound : soundness.sound (with_history h m) ≡ soundness.sound m
  unfolding soundness.sound soundness.sound_down
  lent-sound = rw down

  pub lent-keeps : keeps (with_history h m) ≡ keeps m
  lent-keeps = keeps-down (with_history h m) down ∙ sym (keeps-down m down)

  pub lent-sane : Sane n j m → history_size ≤ length h → AllBelow 256 h → Sane n j (with_history h m)
  lent-sane s room bytes =
      record {
        history = room;
        image = s.image;
        bytes = record { history = bytes; image = s.bytes.image };
        sound = lent-sound ∙ s.sound;
        servers = s.servers;
        own = s.own;
      }

module _ (n : ℕ) (c : Numbered) (f : Farm) (i : Inv n c f) where
  -- a step that is refused leaves the farm as it was
  refused-plainly : (j : ServerId) (w : What) (v : Vector) (msg : List ℕ) → (Done (step_at step f j w v msg) → ⊥) → plainly f j (step_at step f j w v msg) ≡ f
  unfolding step_at
  refused-plainly j w v msg q =
      let e = changed-id f.servers j.0 (step_at step f j w v msg).after (refused-same (f.servers j.0) (record { server = j; what = w }) v msg q) in
      λ t. record { servers = e t; phones = f.phones; sent = f.sent; ledger = f.ledger }

  -- a server that is not unsound has a number below n
  pub low-if : (j : ServerId) → (soundness.sound (f.servers j.0) ≡ false → ⊥) → j.0 < n
  low-if j s = go (dec_lt j.0 n)
    where
      go : Dec (j.0 < n) → j.0 < n
      go (yes l) = l
      go (no q) = absurd (s (i.seats.nobody j.0 (omega arith)))

  -- ---- a step that is done is a server's
  module _ (j : ServerId) (w : What) (v : Vector) (msg : List ℕ) (done : Done (step_at step f j w v msg)) (bytes : AllBelow 256 msg) where
    pub at-server : j.0 < n
    unfolding step_at
    at-server = low-if j (λ u. (unsound-refused (f.servers j.0) u (record { server = j; what = w }) v msg).1 done)

    pub before-sane : Sane n j (f.servers j.0)
    before-sane = i.seats.sits j.0 at-server

    pub after-sane : Sane n j (step_at step f j w v msg).after
    unfolding step_at
    after-sane = step-sane n j (f.servers j.0) before-sane (record { server = j; what = w }) v msg bytes

  -- ---- one server goes on
  module _ (j : ServerId) (low : j.0 < n) (b : Memory) (sane : Sane n j b) where
    abbrev h : List Record
    h = keeps (f.servers j.0)

    -- nothing of another origin is added
    pub only-own : (added : List Record) → ((o : ℕ) → (o ≡ j.0 → ⊥) → writes_of (server o) added ≡ []) → (o : ℕ) → o < n → (o ≡ j.0 → ⊥) → Pre (writes_of (server o) (h ++ added)) (c o)
    only-own added alone o l q =
        rw (writes_of-append (server o) h added, alone o q, append-nil) ((i.seats.held j.0 low).begins o l)

    abbrev after : Farm
    after = record { servers = changed f.servers j.0 b; phones = f.phones; sent = f.sent; ledger = f.ledger }

    -- with writes of other origins alone, and nothing sent or done
    pub plain-inv :
        (added : List Record)
        → Kept j h added (keeps b)
        → ((o : ℕ) → o < n → (o ≡ j.0 → ⊥) → Pre (writes_of (server o) (h ++ added)) (c o))
        → writes_of j added ≡ []
        → Onward n c after
    plain-inv added k foreign alone =
        let g = grows n c f.servers i.seats j.0 low b sane added k foreign in
        let d = next n c f.servers i.seats j.0 low b sane added k foreign in
        record {
          lists = d;
          grows = g;
          inv =
              record {
                seats = seats-next n c f.servers i.seats j.0 low b sane added k foreign;
                flight = flight-grows n c d g f.phones f.sent i.flight;
                deeds =
                    deeds-next n c f.servers i.seats j.0 low b sane added k foreign f.sent.requests f.ledger f.ledger i.deeds
                    (λ o q. (refl, refl))
                    (listed-grows n c d g j.0 low (f.ledger.performed j.0) (i.deeds.performed j.0 low))
                    (λ w a. a)
                    (λ w y. absurd (Memᴰ.not-nil (subst (λ (l : List Record). w ∈ l) alone y)));
              };
        }

    -- with no write
    pub quiet-inv : Kept j h [] (keeps b) → Onward n c after
    unfolding writes_of keep
    quiet-inv k = plain-inv [] k (only-own [] (λ o q. refl)) refl

  -- ---- a cut, a recovery, an update
  pub step-or-not : (e : Effect) → (g : Farm) → ((Done e → ⊥) → g ≡ f) → (Done e → Onward n c g) → Onward n c g
  step-or-not e g same next = go (ℕ_discrete e.reply.number 0)
    where
      go : Dec (Done e) → Onward n c g
      go (yes q) = next q
      go (no q) = subst (Onward n c) (sym (same q)) (still n c f i)

  pub cut-inv : (j : ServerId) → Onward n c (plainly f j (step_at step f j what.Cut zeros []))
  unfolding step_at step cut
  cut-inv j =
      step-or-not (step_at step f j what.Cut zeros []) _ (refused-plainly j what.Cut zeros [])
      (λ done.
      let m = f.servers j.0 in
      let p = done_none (first (plain_refusals m (is_down m) j)) m (finished (with_state (down_of m.state) m)) done in
      let up = not-false m.state.up (plain m (is_down m) j p).right in
      let e = ap (λ r. (unless r m (finished (with_state (down_of m.state) m))).after) p in
      quiet-inv j (at-server j what.Cut zeros [] done below_none) _ (after-sane j what.Cut zeros [] done below_none)
      (rw e (kept-cut n j m (before-sane j what.Cut zeros [] done below_none) up)))

  -- a recovery that is done, lent a history of bytes
  module _ (j : ServerId) (history : List ℕ) (done : Done (recover step f j history)) where
    abbrev m : Memory
    m = f.servers j.0

    abbrev lent : Memory
    lent = with_history history m

    passed : first (plain_refusals lent m.state.up j) ≡ none
    unfolding recover step recovery
    passed = done_none (first (plain_refusals lent m.state.up j)) lent (finished (soundness.recover lent)) done

    known : Plain lent m.state.up j
    known = plain lent m.state.up j passed

    pub recovers-to : recover step f j history ≡ finished (soundness.recover lent)
    unfolding recover step recovery
    recovers-to = ap (λ r. unless r lent (finished (soundness.recover lent))) passed

    pub was-down : m.state.up ≡ false
    was-down = known.right

    pub recovers-low : j.0 < n
    recovers-low = low-if j (λ u. false≢true (sym u ∙ sym (lent-sound n j m was-down history) ∙ known.head.sound))

    module _ (bytes : are_bytes history ≡ true) where
      pub recovers-sane : Sane n j lent
      recovers-sane = lent-sane n j m was-down history (i.seats.sits j.0 recovers-low) known.head.history (bytes_below history bytes)

      recovered-on : Onward n c (plainly f j (recover step f j history))
      unfolding recover
      recovered-on =
          quiet-inv j recovers-low _ (step-sane n j lent recovers-sane (record { server = j; what = what.Recovery }) zeros [] below_none)
          (rw recovers-to
          (kept_same j (keeps m) (keeps (soundness.recover lent))
          (kept-recover n j lent recovers-sane was-down ∙ lent-keeps n j m was-down history)))

  pub recover-inv : (j : ServerId) (history : List ℕ) → Onward n c (recovering step f j history)
  unfolding recovering
  recover-inv j history = go (are_bytes history) refl (ℕ_discrete (recover step f j history).reply.number 0)
    where
      go : (b : Bool) → are_bytes history ≡ b → Dec (Done (recover step f j history)) → Onward n c (cond (b && is_done (recover step f j history).reply) (plainly f j (recover step f j history)) f)
      go false e d = still n c f i
      go true e (no q) = rw (ne_eqb (recover step f j history).reply.number 0 q) (still n c f i)
      go true e (yes q) = rw (eq-eqb (recover step f j history).reply.number 0 q) (recovered-on j history q e)

  pub take-inv : (msg : List ℕ) → msg ∈ f.sent.updates → (j : ServerId) → Onward n c (plainly f j (step_at step f j what.Update zeros msg))
  unfolding step_at step update
  take-inv msg y j =
      let g = each-mem (Genuine n c) f.sent.updates i.flight.updates y in
      step-or-not (step_at step f j what.Update zeros msg) _ (refused-plainly j what.Update zeros msg)
      (λ done.
      let m = f.servers j.0 in
      let low = at-server j what.Update zeros msg done g.bytes in
      let sane = before-sane j what.Update zeros msg done g.bytes in
      let p = done_none (first (update_refusals m j msg)) m (finished (updated m (taken_from m msg))) done in
      let b = brought-known m j msg p in
      let e = ap (λ r. (unless r m (finished (updated m (taken_from m msg)))).after) p in
      let runs = lists-run n c f.servers i.seats in
      let t : taken_from m msg ≡ taken j (tally (keeps m)) (brought msg) =
      ap (λ o. taken o m.state.vector (brought msg)) sane.own
      ∙ ap (λ v. taken j v (brought msg)) (kept-vector n j m sane b.up) in
      let new = (taken j (tally (keeps m)) (brought msg)).new in
      let held = taken-held n c (servers-few n j m sane) runs j (keeps m) (brought msg) g.placed (i.seats.held j.0 low) in
      plain-inv j low _ (after-sane j what.Update zeros msg done g.bytes) new
      (rw e
      (kept_more j (keeps m) new (keeps (updated m (taken_from m msg)))
      (kept-update n j m sane msg b g.bytes ∙ ap (λ (t : Taken). keeps m ++ t.new) t)))
      (λ o l q. held.begins o l)
      (mine-stays j (tally (keeps m)) (brought msg)))
