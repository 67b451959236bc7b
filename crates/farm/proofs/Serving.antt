-- A request served, or cut on the way, keeps what holds.
-- Assumes nothing.
use Prim.Native.Nat.{ℕ, ◌<◌}
use mathlib.Core.Bool.{true, ◌&&◌}
use mathlib.Core.List.Memᴰ
use mathlib.Core.List.{List, [], ◌∷◌, ◌++◌, append-nil}
use mathlib.Core.Logic.{◌⊎◌, inl, inr}
use mathlib.Core.Option.{none}
use mathlib.Core.Path.{◌≡◌, refl, ap, sym, subst, ◌∙◌}
use borrow.Author.Tests.{eq-eqb, ne_eqb, ltb-true}
use lib.Dec.{ltb}
use lib.ListN.{length}
use Rattle.notes.specs.Reply.{first}
use Rattle.notes.specs.declared.index.PhoneId.{PhoneId}
use Rattle.notes.specs.declared.index.ServerId.{ServerId}
use Rattle.notes.specs.declared.record.Record.{Record}
use Rattle.notes.specs.declared.vector.Vector.{Vector}
use Rattle.notes.proofs.Lists.{both}
use Rattle.notes.proofs.Pieces.{Each}
use Rattle.rules.specs.declared.event.Request.{Request}
use Rattle.rules.specs.declared.event.Request.TheVariants.{Read, Write}
use Rattle.rules.specs.declared.event.What.TheVariants as what
use Rattle.rules.specs.declared.state.State.{State}
use Rattle.rules.specs.Writes.{server, keep, writes_of, tally}
use Rattle.rules.specs.Memory.{Memory, writes}
use Rattle.rules.specs.Answer.{Effect, unless}
use Rattle.rules.specs.Request.{new_record, noted, due, ready, performed, written, served, cut_after, request_refusals, cut_refusals, request, request_cut}
use Rattle.rules.specs.Step.{step}
use Rattle.laws.proofs.Passed.{Granted, granted, granted-cut}
use Rattle.laws.proofs.Reading.{ready-is}
use Rattle.laws.proofs.Writes.{length-tally, writes_of-here, writes_of-other}
use Rattle.laws.proofs.Keeps.{each_append}
use Rattle.laws.proofs.Outcomes.{done_none, refused-same}
use Rattle.farm.specs.Farm.{Asked, Attempt, Farm, performed_by, changed, askable, Done, attempt, record_of, step_at, serve, serving, serving_cut}
use Rattle.farm.specs.Demand.{◌∈◌}
use Rattle.farm.specs.Beside.{Begun}
use Rattle.farm.proofs.Prefix.{Pre, mem-each, each-mem, changed-same, changed-other}
use Rattle.farm.proofs.Held.{Sane, keeps, Kept, Numbered, Grows, Covered, Held}
use Rattle.farm.proofs.Known.{Covers, Fair, flight-grows, listed-grows, begun_more}
use Rattle.farm.proofs.Steps.{keeps-up, kept_more, kept_read, kept-write, kept-cut-read, kept-cut-write, kept-vector, servers-few}
use Rattle.farm.proofs.Taken.{held-covered}
use Rattle.farm.proofs.Inv.{Seats, Inv, Onward, lists-run, next, own, grows, seats-next, deeds-next}
use Rattle.farm.proofs.Moves.{changed-id, step-or-not, below_none, at-server, before-sane, after-sane, only-own}

-- ---- the record that a request gives is the server's own
own-record : (m : Memory) (j : ServerId) → m.state.own ≡ j → (i : PhoneId) (q : Request) → writes_of j (record_of m i q) ≡ record_of m i q
unfolding record_of writes_of keep new_record
own-record m j e i (Read cell) = refl
own-record m j e i (Write cell value time) = writes_of-here j (new_record m i cell value time) (ap (λ (o : ServerId). o.0) e)

other-record :
    (m : Memory) (j : ServerId)
    → m.state.own ≡ j
    → (i : PhoneId) (q : Request) (o : ℕ)
    → (o ≡ j.0 → ⊥)
    → writes_of (server o) (record_of m i q) ≡ []
unfolding record_of writes_of keep new_record
other-record m j e i (Read cell) o n = refl
other-record m j e i (Write cell value time) o n =
    writes_of-other (server o) (new_record m i cell value time) (λ p. n (sym p ∙ ap (λ (o : ServerId). o.0) e))

-- ---- a served request's vector is V
served-vector : (m : Memory) (i : PhoneId) (q : Request) → (served m i q).vector ≡ (served m i q).after.state.vector
unfolding served
served-vector m i q = refl

-- ---- what is kept
small : (value time : ℕ) → (ltb value 4294967296 && ltb time 4294967296) ≡ true → (value < 4294967296) × (time < 4294967296)
small value time e =
    let x = both (ltb value 4294967296) (ltb time 4294967296) e in
    (ltb-true value 4294967296 x.0, ltb-true time 4294967296 x.1)

module _ (n : ℕ) (j : ServerId) (m : Memory) (s : Sane n j m) (i : PhoneId) (v : Vector) where
  kept-served : (q : Request) → Granted m j i q v → askable q ≡ true → keeps (served m i q).after ≡ keeps m ++ record_of m i q
  unfolding record_of
  kept-served (Read cell) a e = kept_read n j m s i cell v a ∙ sym (append-nil (keeps m))
  kept-served (Write cell value time) a e =
      let b = small value time e in kept-write n j m s i cell value time v a b.0 b.1

  kept-cut-after :
      (q : Request) (k : ℕ)
      → Granted m j i q v
      → askable q ≡ true
      → Kept j (keeps m) [] (keeps (cut_after m i q k).after) ⊎ Kept j (keeps m) (record_of m i q) (keeps (cut_after m i q k).after)
  unfolding record_of
  kept-cut-after (Read cell) k a e = inl (kept-cut-read n j m s i cell k v a)
  kept-cut-after (Write cell value time) k a e =
      let b = small value time e in
      kept-cut-write n j m s i cell value time k v a b.0 b.1

  -- a server that served is up
  served-up : (q : Request) → Granted m j i q v → (served m i q).after.state.up ≡ true
  unfolding served performed ready noted due written
  served-up (Read cell) a = ap (λ (t : State). t.up) (ready-is m i (Read cell)) ∙ a.up
  served-up (Write cell value time) a = a.up

-- ---- a request that is done
module _ (n : ℕ) (c : Numbered) (f : Farm) (i : Inv n c f) (j : ServerId) (q : Asked) (done : Done (serve step f j q)) where
  abbrev was : Memory
  was = f.servers j.0

  pub done-low : j.0 < n
  done-low = at-server n c f i j (what.Request q.phone q.request) q.vector [] done below_none

  pub done-sane : Sane n j was
  done-sane = before-sane n c f i j (what.Request q.phone q.request) q.vector [] done below_none

  passed : first (request_refusals was j q.phone q.request q.vector) ≡ none
  unfolding step_at step request
  passed = done_none (first (request_refusals was j q.phone q.request q.vector)) was (served was q.phone q.request) done

  pub done-granted : Granted was j q.phone q.request q.vector
  done-granted = granted was j q.phone q.request q.vector passed

  pub done-is : serve step f j q ≡ served was q.phone q.request
  unfolding step_at step request
  done-is = ap (λ r. unless r was (served was q.phone q.request)) passed

  done-up : (serve step f j q).after.state.up ≡ true
  done-up = ap (λ (z : Effect). z.after.state.up) done-is ∙ served-up n j was done-sane q.phone q.vector q.request done-granted

  done-kept : askable q.request ≡ true → keeps (serve step f j q).after ≡ keeps was ++ record_of was q.phone q.request
  done-kept e =
      ap (λ (z : Effect). keeps z.after) done-is
      ∙ kept-served n j was done-sane q.phone q.vector q.request done-granted e

  -- the history after it is the history before, and the write
  pub done-writes : askable q.request ≡ true → writes (serve step f j q).after ≡ writes was ++ record_of was q.phone q.request
  done-writes e =
      sym (keeps-up (serve step f j q).after done-up)
      ∙ done-kept e
      ∙ ap (λ (l : List Record). l ++ record_of was q.phone q.request) (keeps-up was done-granted.up)

module _ (n : ℕ) (c : Numbered) (f : Farm) (i : Inv n c f) (j : ServerId) (q : Asked) (y : q ∈ f.sent.requests) where
  abbrev m : Memory
  m = f.servers j.0

  abbrev b : Attempt
  b = attempt f j q

  abbrev r : List Record
  r = record_of m q.phone q.request

  pub fair : Fair n c q
  fair = each-mem (Fair n c) f.sent.requests i.flight.requests y

  -- ---- where the server goes on with the request's record, or with nothing
  module _ (low : j.0 < n) (sane : Sane n j m) (after : Memory) (sound : Sane n j after) (added : List Record) (k : Kept j (keeps m) added (keeps after)) (which : (added ≡ []) ⊎ (added ≡ r)) where
    pub foreign : (o : ℕ) → o < n → (o ≡ j.0 → ⊥) → Pre (writes_of (server o) (keeps m ++ added)) (c o)
    unfolding writes_of keep
    foreign = only-own n c f i j low after sound added (λ o p. go which o p)
      where
        go : (added ≡ []) ⊎ (added ≡ r) → (o : ℕ) → (o ≡ j.0 → ⊥) → writes_of (server o) added ≡ []
        go (inl e) o p = ap (writes_of (server o)) e
        go (inr e) o p = ap (writes_of (server o)) e ∙ other-record m j sane.own q.phone q.request o p

    pub new-begun : (w : Record) → w ∈ writes_of j added → Begun f.sent.requests (b ∷ f.ledger.begun j.0) w
    unfolding writes_of keep
    new-begun w x = go which
      where
        go : (added ≡ []) ⊎ (added ≡ r) → Begun f.sent.requests (b ∷ f.ledger.begun j.0) w
        go (inl e) = absurd (Memᴰ.not-nil (subst (λ a. w ∈ writes_of j a) e x))
        go (inr e) =
            record {
              attempt = b;
              listed = Memᴰ.head refl;
              asked = y;
              gives = subst (λ (l : List Record). w ∈ l) (ap (writes_of j) e ∙ own-record m j sane.own q.phone q.request) x;
            }

  -- ---- cut on the way
  module _ (k : ℕ) where
    abbrev e : Effect
    e = step_at step f j (what.RequestCut q.phone q.request k) q.vector []

    cut-refused : (Done e → ⊥) → serving_cut step f j q k ≡ f
    unfolding serving_cut step_at
    cut-refused p =
        let same = changed-id f.servers j.0 e.after (refused-same m (record { server = j; what = what.RequestCut q.phone q.request k }) q.vector [] p) in
        let begun = changed-id f.ledger.begun j.0 (f.ledger.begun j.0) refl in
        rw (ne_eqb e.reply.number 0 p)
        (λ t. record { servers = same t; phones = f.phones; sent = f.sent; ledger = record { performed = f.ledger.performed; begun = begun t } })

    cut-done : Done e → Onward n c (serving_cut step f j q k)
    unfolding serving_cut step_at step request_cut
    cut-done done =
        let low = at-server n c f i j (what.RequestCut q.phone q.request k) q.vector [] done below_none in
        let sane = before-sane n c f i j (what.RequestCut q.phone q.request k) q.vector [] done below_none in
        let sound = after-sane n c f i j (what.RequestCut q.phone q.request k) q.vector [] done below_none in
        let rows = cut_refusals m j q.phone q.request k q.vector in
        let p = done_none (first rows) m (cut_after m q.phone q.request k) done in
        let x = (granted-cut m j q.phone q.request q.vector k p).0 in
        let same = ap (λ r. (unless r m (cut_after m q.phone q.request k)).after) p in
        go low sane sound (subst (λ (z : Memory). Kept j (keeps m) [] (keeps z) ⊎ Kept j (keeps m) r (keeps z)) (sym same) (kept-cut-after n j m sane q.phone q.vector q.request k x fair.numbers))
      where
        on : (low : j.0 < n) → Sane n j m → Sane n j e.after → (added : List Record) → Kept j (keeps m) added (keeps e.after) → (added ≡ []) ⊎ (added ≡ r) → Onward n c (serving_cut step f j q k)
        on low sane sound added kept which =
            let away = foreign low sane e.after sound added kept which in
            let g = grows n c f.servers i.seats j.0 low e.after sound added kept away in
            let d = next n c f.servers i.seats j.0 low e.after sound added kept away in
            let same = changed-same f.ledger.begun j.0 (b ∷ f.ledger.begun j.0) in
            rw (eq-eqb e.reply.number 0 done)
            (record {
              lists = d;
              grows = g;
              inv = record {
                seats = seats-next n c f.servers i.seats j.0 low e.after sound added kept away;
                flight = flight-grows n c d g f.phones f.sent i.flight;
                deeds =
                    deeds-next n c f.servers i.seats j.0 low e.after sound added kept away f.sent.requests f.ledger
                    (record { performed = f.ledger.performed; begun = changed f.ledger.begun j.0 (b ∷ f.ledger.begun j.0) })
                    i.deeds
                    (λ o p. (refl, changed-other f.ledger.begun j.0 (b ∷ f.ledger.begun j.0) o p))
                    (listed-grows n c d g j.0 low (f.ledger.performed j.0) (i.deeds.performed j.0 low))
                    (λ w a. rw same (begun_more f.sent.requests b (f.ledger.begun j.0) w a))
                    (λ w a. rw same (new-begun low sane e.after sound added kept which w a));
              };
            })

        go : (low : j.0 < n) → Sane n j m → Sane n j e.after → Kept j (keeps m) [] (keeps e.after) ⊎ Kept j (keeps m) r (keeps e.after) → Onward n c (serving_cut step f j q k)
        go low sane sound (inl kept) = on low sane sound [] kept (inl refl)
        go low sane sound (inr kept) = on low sane sound r kept (inr refl)

    pub cut-inv : Onward n c (serving_cut step f j q k)
    cut-inv = step-or-not n c f i e (serving_cut step f j q k) cut-refused cut-done

  -- ---- served
  abbrev a : Effect
  a = serve step f j q

  serve-refused : (Done a → ⊥) → serving step f j q ≡ f
  unfolding serving step_at
  serve-refused p =
      let same = changed-id f.servers j.0 a.after (refused-same m (record { server = j; what = what.Request q.phone q.request }) q.vector [] p) in
      let performed = changed-id f.ledger.performed j.0 (f.ledger.performed j.0) refl in
      let begun = changed-id f.ledger.begun j.0 (f.ledger.begun j.0) refl in
      rw (ne_eqb a.reply.number 0 p)
      (λ t. record { servers = same t; phones = f.phones; sent = f.sent; ledger = record { performed = performed t; begun = begun t } })

  serve-done : Done a → Onward n c (serving step f j q)
  unfolding serving
  serve-done done =
      rw (eq-eqb a.reply.number 0 done)
      (record {
        lists = d;
        grows = more;
        inv = record {
          seats = seats;
          flight =
              let g = flight-grows n c d more f.phones f.sent i.flight in
              record { sessions = g.sessions; requests = g.requests; replies = (record { history = known; wrote = counted r written }, g.replies); updates = g.updates };
          deeds =
              deeds-next n c f.servers i.seats j.0 low a.after sound r kept away f.sent.requests f.ledger
              (record { performed = changed f.ledger.performed j.0 (b ∷ f.ledger.performed j.0); begun = changed f.ledger.begun j.0 (b ∷ f.ledger.begun j.0) })
              i.deeds
              (λ o p. (changed-other f.ledger.performed j.0 (b ∷ f.ledger.performed j.0) o p, changed-other f.ledger.begun j.0 (b ∷ f.ledger.begun j.0) o p))
              (rw (changed-same f.ledger.performed j.0 (b ∷ f.ledger.performed j.0))
              (did, listed-grows n c d more j.0 low (f.ledger.performed j.0) (i.deeds.performed j.0 low)))
              (λ w x. rw same (begun_more f.sent.requests b (f.ledger.begun j.0) w x))
              (λ w x. rw same (new-begun low sane a.after sound r kept (inr refl) w x));
        };
      })
    where
      low : j.0 < n
      low = done-low n c f i j q done

      sane : Sane n j m
      sane = done-sane n c f i j q done

      sound : Sane n j a.after
      sound = after-sane n c f i j (what.Request q.phone q.request) q.vector [] done below_none

      kept : Kept j (keeps m) r (keeps a.after)
      kept = kept_more j (keeps m) r (keeps a.after) (done-kept n c f i j q done fair.numbers)

      away : (o : ℕ) → o < n → (o ≡ j.0 → ⊥) → Pre (writes_of (server o) (keeps m ++ r)) (c o)
      away = foreign low sane a.after sound r kept (inr refl)

      d : Numbered
      d = next n c f.servers i.seats j.0 low a.after sound r kept away

      more : Grows n c d
      more = grows n c f.servers i.seats j.0 low a.after sound r kept away

      seats : Seats n d (changed f.servers j.0 a.after)
      seats = seats-next n c f.servers i.seats j.0 low a.after sound r kept away

      same : changed f.ledger.begun j.0 (b ∷ f.ledger.begun j.0) j.0 ≡ b ∷ f.ledger.begun j.0
      same = changed-same f.ledger.begun j.0 (b ∷ f.ledger.begun j.0)

      did : Each (λ w. w ∈ d j.0) r
      did =
          mem-each (λ w. w ∈ d j.0) r
          (λ w z.
          subst (λ (l : List Record). w ∈ l)
          (sym (own n c f.servers i.seats j.0 low a.after sound r kept away ∙ ap (λ l. c j.0 ++ l) (own-record m j sane.own q.phone q.request)))
          (Memᴰ.append_right (c j.0) z))

      up : a.after.state.up ≡ true
      up = done-up n c f i j q done

      counts : a.vector ≡ tally (writes a.after)
      counts =
          ap (λ (z : Effect). z.vector) (done-is n c f i j q done)
          ∙ served-vector m q.phone q.request
          ∙ sym (ap (λ (z : Effect). z.after.state.vector) (done-is n c f i j q done))
          ∙ kept-vector n j a.after sound up
          ∙ ap tally (keeps-up a.after up)

      -- what stands in the history is what the reply's vector counts
      covered : (w : Record) → w ∈ writes a.after → Covered n d a.vector w
      covered w z =
          subst (λ (v : Vector). Covered n d v w) (sym counts)
          (held-covered n d (servers-few n j m sane) (lists-run n d (changed f.servers j.0 a.after) seats) (writes a.after)
          (subst (Held n d) (ap keeps (changed-same f.servers j.0 a.after) ∙ keeps-up a.after up) (seats.held j.0 low))
          w
          z)

      before : (w : Record) → w ∈ performed_by f j → w ∈ writes a.after
      before w z = subst (λ (l : List Record). w ∈ l) (sym (done-writes n c f i j q done fair.numbers)) (Memᴰ.append_left r z)

      -- the write of the request stands there too
      written : (w : Record) → w ∈ r → w ∈ writes a.after
      written w z = subst (λ (l : List Record). w ∈ l) (sym (done-writes n c f i j q done fair.numbers)) (Memᴰ.append_right (performed_by f j) z)

      counted : (ws : List Record) → ((w : Record) → w ∈ ws → w ∈ writes a.after) → Covers n d a.vector ws
      counted ws there =
          record {
            eight = ap (λ (v : Vector). length v.counts) counts ∙ length-tally (writes a.after);
            each = mem-each (Covered n d a.vector) ws (λ w z. covered w (there w z));
          }

      known : Covers n d a.vector (performed_by f j ++ writes a.after)
      known =
          let was = counted (performed_by f j) before in
          let is = counted (writes a.after) (λ w z. z) in
          record { eight = is.eight; each = each_append (Covered n d a.vector) (performed_by f j) (writes a.after) was.each is.each }

  pub serve-inv : Onward n c (serving step f j q)
  serve-inv = step-or-not n c f i a (serving step f j q) serve-refused serve-done
