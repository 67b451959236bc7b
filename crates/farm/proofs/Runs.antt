-- Every run from new servers keeps what holds.
-- Assumes nothing.
use Prim.Native.Nat.{ℕ, ◌≤◌, ◌<◌}
use mathlib.Core.Bool.{Bool, true, false, cond, false≢true, and-false}
use mathlib.Core.List.Memᴰ
use mathlib.Core.List.{List, [], ◌∷◌}
use mathlib.Core.Option.{Option, none, some}
use mathlib.Core.Path.{◌≡◌, refl, ap, sym, subst, ◌∙◌}
use native.Mathlib.Decide.{ℕ_discrete}
use native.Mathlib.Omega.{arith}
use borrow.Author.Tests.{eq-eqb, ne_eqb, le-ltb, lt-ltb, le-leb}
use lib.ListN.{length, drop, get_elem?, replicate, length-append, length-replicate}
use Rattle.notes.specs.Index.{servers, server_ok}
use Rattle.notes.specs.Lists.{every}
use Rattle.notes.specs.Bytes.{pieces}
use Rattle.notes.specs.Record.{records}
use Rattle.notes.specs.Session.{after_read, after_write}
use Rattle.notes.specs.Vector.{zeros}
use Rattle.notes.specs.declared.session.Choice.TheVariants.{Reads}
use Rattle.notes.specs.declared.index.PhoneId.{PhoneId}
use Rattle.notes.specs.declared.index.ServerId.{ServerId}
use Rattle.notes.proofs.Numbers.{below-drop}
use Rattle.rules.specs.declared.event.Request.{Request}
use Rattle.rules.specs.declared.event.Request.TheVariants.{Read, Write}
use Rattle.rules.specs.declared.event.What.TheVariants as what
use Rattle.rules.specs.Writes.{server, keep, writes_of}
use Rattle.rules.specs.Memory.{Memory, writes}
use Rattle.rules.specs.declared.answer.Refusal.TheVariants.{OutOfRange}
use Rattle.rules.specs.Answer.{finished, unless, short}
use Rattle.rules.specs.Image.{history_size, image_size, header_ok}
use Rattle.rules.specs.Request.{is_write}
use Rattle.rules.specs.Calls.{fresh, no_server, start, start_refusal, own_message, message}
use Rattle.rules.specs.Step.{step}
use Rattle.rules.specs.Sound as soundness
use Rattle.laws.proofs.Keeps.{fresh-sound}
use Rattle.laws.proofs.Octets.{below-append, below-zeros, below-fresh}
use Rattle.laws.proofs.Stores.{fresh-shows}
use Rattle.farm.specs.Farm.{Replied, Phone, Farm, installed, new_farm, Act, asks, serves, cut_serving, cuts, recovers, tells, takes, hears, reinstalls, askable, carries, asking, hearing, with_phone, with_request, serving, serving_cut, telling, plainly, step_at, in_flight, act, run}
use Rattle.farm.specs.Demand.{◌∈◌, Lent, Reached}
use Rattle.farm.specs.Beside.{owed_by}
use Rattle.farm.proofs.Prefix.{pre-refl, pre-trans, at_mem, each-mem, mem-each, changed-each}
use Rattle.farm.proofs.Held.{Sane, keeps, Numbered, Placed, Held}
use Rattle.farm.proofs.Known.{Covers, Knows, Tells, Genuine, begun-asked, covers-both, carries-owed, new-knows}
use Rattle.farm.proofs.Steps.{keeps-up, servers-few}
use Rattle.farm.proofs.Taken.{held-placed}
use Rattle.farm.proofs.Told.{told-bytes, told-brings, told_below, told-right}
use Rattle.farm.proofs.Inv.{Inv, Onward, lists-run, still}
use Rattle.farm.proofs.Moves as moves
use Rattle.farm.proofs.Moves.{bytes_below, low-if}
use Rattle.farm.proofs.Serving as requests

module _ (n : ℕ) (c : Numbered) (f : Farm) (i : Inv n c f) where
  -- where the lists stay as they are
  stays : {g : Farm} → Inv n c g → Onward n c g
  stays k = record { lists = c; grows = λ o l. pre-refl (c o); inv = k }

  -- ---- phones
  ask-inv : (p : PhoneId) (q : Request) → askable q ≡ true → Inv n c (with_request f (asking f p q))
  unfolding asking
  ask-inv p q e =
      record {
        seats = i.seats;
        flight =
            record {
              sessions = i.flight.sessions;
              requests = (record { numbers = e; knew = λ r. knew q r }, i.flight.requests);
              replies = i.flight.replies;
              updates = i.flight.updates;
            };
        deeds =
            record {
              performed = i.deeds.performed;
              begun = λ j l w m. begun-asked (asking f p q) f.sent.requests (f.ledger.begun j) w (i.deeds.begun j l w m);
            };
      }
    where
      knew : (q : Request) → is_write q ≡ false → let x = f.phones p.0 in Covers n c (carries x.session q) (owed_by x.session.choice x.seen x.wrote)
      knew (Read cell) r = carries-owed n c (f.phones p.0) (i.flight.sessions p.0)
      knew (Write cell value time) r = absurd (false≢true (sym r))

  phone-inv : (p : PhoneId) (x : Phone) → Knows n c x → Inv n c (with_phone f p x)
  phone-inv p x k =
      record {
        seats = i.seats;
        flight =
            record {
              sessions = changed-each (λ i x. Knows n c x) f.phones p.0 x (λ o q. i.flight.sessions o) k;
              requests = i.flight.requests;
              replies = i.flight.replies;
              updates = i.flight.updates;
            };
        deeds = i.deeds;
      }

  hear-knows : (r : Replied) (q : Request) → r ∈ f.sent.replies → Knows n c (hearing (f.phones r.phone.0) r q)
  unfolding hearing after_read after_write
  hear-knows r (Read cell) y =
      let p = f.phones r.phone.0 in
      let k = i.flight.sessions r.phone.0 in
      let t = each-mem (Tells n c) f.sent.replies i.flight.replies y in
      record { reads = covers-both n c p.session.reads r.vector p.seen r.history k.reads t.history; writes = k.writes }
  hear-knows r (Write cell value time) y =
      let p = f.phones r.phone.0 in
      let k = i.flight.sessions r.phone.0 in
      let t = each-mem (Tells n c) f.sent.replies i.flight.replies y in
      record { reads = k.reads; writes = covers-both n c p.session.writes r.vector p.wrote r.wrote k.writes t.wrote }

  -- ---- a message
  genuine : (j : ServerId) → j.0 < n → (f.servers j.0).state.up ≡ true → Genuine n c (own_message (f.servers j.0))
  genuine j l up =
      let m = f.servers j.0 in
      let s = i.seats.sits j.0 l in
      let r = told-right n j m s up in
      let h : Held n c (writes m) = subst (Held n c) (keeps-up m up) (i.seats.held j.0 l) in
      record {
        bytes = told_below n j m s up;
        right = (r.0, r.1);
        placed =
            rw (told-brings n j m s up)
            (mem-each (Placed n c) (writes m) (held-placed n c (servers-few n j m s) (lists-run n c f.servers i.seats) (writes m) h));
        held = rw (told-brings n j m s up) h;
      }

  tell-inv : (j : ServerId) (out : List ℕ) → Onward n c (telling f j out)
  unfolding telling
  tell-inv j out = go (ℕ_discrete t.reply.number 0)
    where
      m : Memory
      m = f.servers j.0

      t : Rattle.notes.specs.Reply.Filled
      t = message m out

      go : Dec (t.reply.number ≡ 0) → Onward n c (telling f j out)
      go (no p) = rw (ne_eqb t.reply.number 0 p) (still n c f i)
      go (yes p) =
          let b = told-bytes m out p in
          let low = low-if n c f i j (λ u. false≢true (sym u ∙ b.1)) in
          let u = i.flight in
          rw (eq-eqb t.reply.number 0 p)
          (stays
          (record {
            seats = i.seats;
            flight = record { sessions = u.sessions; requests = u.requests; replies = u.replies; updates = (rw b.2 (genuine j low b.0), u.updates) };
            deeds = i.deeds;
          }))

  -- ---- each
  named : {A : Type 0} (o : Option A) {p : Option A} → p ≡ o → (next : A → Farm) → ((a : A) → p ≡ some a → Onward n c (next a)) → Onward n c (in_flight o f next)
  named none e next k = still n c f i
  named (some a) e next k = k a e

  pub act-inv : (a : Act) → Onward n c (act step f a)
  unfolding act
  act-inv (asks p q) = go (askable q) refl
    where
      go : (b : Bool) → askable q ≡ b → Onward n c (cond b (with_request f (asking f p q)) f)
      go true e = stays (ask-inv p q e)
      go false e = still n c f i
  act-inv (serves k j) = named (get_elem? f.sent.requests k) refl (λ q. serving step f j q) (λ q e. requests.serve-inv n c f i j q (at_mem f.sent.requests k q e))
  act-inv (cut_serving k j stores) = named (get_elem? f.sent.requests k) refl (λ q. serving_cut step f j q stores) (λ q e. requests.cut-inv n c f i j q (at_mem f.sent.requests k q e) stores)
  act-inv (cuts j) = moves.cut-inv n c f i j
  act-inv (recovers j history) = moves.recover-inv n c f i j history
  act-inv (tells j out) = tell-inv j out
  act-inv (takes k j) = named (get_elem? f.sent.updates k) refl (λ msg. plainly f j (step_at step f j what.Update zeros msg)) (λ msg e. moves.take-inv n c f i msg (at_mem f.sent.updates k msg e) j)
  act-inv (hears k) = named (get_elem? f.sent.replies k) refl (λ r. with_phone f r.phone (hearing (f.phones r.phone.0) r r.request)) (λ r e. stays (phone-inv r.phone _ (hear-knows r r.request (at_mem f.sent.replies k r e))))
  act-inv (reinstalls p o) = stays (phone-inv p (installed o) (new-knows n c o))

-- ---- runs
pub run-inv : (n : ℕ) (c : Numbered) (f : Farm) → Inv n c f → (acts : List Act) → Onward n c (run step f acts)
unfolding run
run-inv n c f i [] = still n c f i
run-inv n c f i (a ∷ acts) =
    let k = act-inv n c f i a in
    let l = run-inv n k.lists (act step f a) k.inv acts in
    record {
      lists = l.lists;
      grows = λ o low. pre-trans (c o) (k.lists o) (l.lists o) (k.grows o low) (l.grows o low);
      inv = l.inv;
    }

-- ---- new servers
module _ (n : ℕ) (few : n ≤ servers) (histories images : ℕ → List ℕ) (hs : (j : ℕ) → Lent (histories j) history_size) (is : (j : ℕ) → Lent (images j) image_size) where
  abbrev new : ℕ → Memory
  new j = (start n (server j) (histories j) (images j)).after

  not_short : (j : ℕ) → short (no_server (histories j) (images j)) ≡ false
  not_short j = rw (le-ltb (length (histories j)) history_size (hs j).room, le-ltb (length (images j)) image_size (is j).room)

  is_one : (j : ℕ) → j < n → server_ok n (server j) ≡ true
  unfolding server_ok
  is_one j l = rw (le-leb 1 n (omega arith), le-leb n servers few, lt-ltb j n l)

  is_none : (j : ℕ) → n ≤ j → server_ok n (server j) ≡ false
  unfolding server_ok
  is_none j l = rw (le-ltb j n l, and-false)

  admitted : (j : ℕ) → j < n → start_refusal n (server j) (histories j) (images j) ≡ none
  admitted j l = rw (not_short j, is_one j l)

  turned-away : (j : ℕ) → n ≤ j → start_refusal n (server j) (histories j) (images j) ≡ some OutOfRange
  turned-away j l = rw (not_short j, is_none j l)

  is-fresh : (j : ℕ) → j < n → new j ≡ fresh n (server j) (histories j) (images j)
  unfolding start
  is-fresh j l =
      ap (λ r. (unless r (no_server (histories j) (images j)) (finished (fresh n (server j) (histories j) (images j)))).after) (admitted j l)

  is-nobody : (j : ℕ) → n ≤ j → new j ≡ no_server (histories j) (images j)
  unfolding start
  is-nobody j l =
      ap (λ r. (unless r (no_server (histories j) (images j)) (finished (fresh n (server j) (histories j) (images j)))).after) (turned-away j l)

  fresh-sane : (j : ℕ) → j < n → Sane n (server j) (fresh n (server j) (histories j) (images j))
  unfolding fresh
  fresh-sane j l =
      record {
        history = rw (length-append, length-replicate) (omega arith);
        image = (fresh-shows n (server j) (drop image_size (images j)) (is_one j l)).long;
        bytes =
            record {
              history = below-append (replicate history_size 0) (drop history_size (histories j)) (below-zeros history_size) (below-drop history_size (histories j) (bytes_below (histories j) (hs j).bytes));
              image = below-fresh n (server j) (drop image_size (images j)) (omega arith) (omega arith) (below-drop image_size (images j) (bytes_below (images j) (is j).bytes));
            };
        sound = fresh-sound n (server j) (histories j) (images j) (is_one j l);
        servers = refl;
        own = refl;
      }

  nobody-unsound : (j : ℕ) → soundness.sound (no_server (histories j) (images j)) ≡ false
  unfolding soundness.sound soundness.sound_down soundness.is_zero soundness.suits header_ok server_ok every
  nobody-unsound j = refl

  keeps-none : (j : ℕ) → j < n → keeps (new j) ≡ []
  unfolding fresh records pieces
  keeps-none j l = ap keeps (is-fresh j l)

  -- nothing is numbered yet
  pub start-inv : Inv n (λ o. []) (new_farm n histories images)
  unfolding new_farm every writes_of keep
  start-inv =
      record {
        seats =
            record {
              sits = λ j l. rw (is-fresh j l) (fresh-sane j l);
              nobody = λ j l. rw (is-nobody j l) (nobody-unsound j);
              held = λ j l. rw (keeps-none j l) (record { formed = refl; begins = λ o k. pre-refl [] });
              mine = λ j l. ap (writes_of (server j)) (keeps-none j l);
            };
        flight = record { sessions = λ i. new-knows n (λ o. []) Reads; requests = tt; replies = tt; updates = tt };
        deeds = record { performed = λ j l. tt; begun = λ j l w m. absurd (Memᴰ.not-nil m) };
      }

-- a farm that is reached
pub reached-inv : (n : ℕ) (f : Farm) → Reached step n f → (c : Numbered) × Inv n c f
reached-inv n f r =
    let start = start-inv n r.few r.histories r.images r.lent_histories r.lent_images in
    let k = run-inv n (λ o. []) (new_farm n r.histories r.images) start r.acts in
    (k.lists, subst (Inv n k.lists) (sym r.here) k.inv)
