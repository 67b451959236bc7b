-- Demand 3 holds in every run, and a phone finds its own writes.
-- Assumes nothing.
use Prim.Native.Nat.{ℕ, ◌<◌}
use mathlib.Core.Bool.{Bool, true, false, cond, ◌&&◌, false≢true}
use mathlib.Core.List.Memᴰ
use mathlib.Core.List.{List, ◌++◌}
use mathlib.Core.Path.{◌≡◌, refl, ap, sym, subst, ◌∙◌}
use native.Mathlib.Omega.{arith}
use borrow.Author.Tests.{eq-eqb}
use lib.Dec.{eqb}
use lib.ListN.{length}
use Rattle.notes.specs.declared.session.Choice.TheVariants.{Reads, Writes, Both}
use Rattle.notes.specs.declared.index.ServerId.{ServerId}
use Rattle.notes.specs.declared.record.Record.{Record}
use Rattle.notes.specs.declared.vector.Vector.{Vector}
use Rattle.notes.specs.Vector.{at}
use Rattle.notes.proofs.Vectors.{behind-false}
use Rattle.rules.specs.Writes.{writes_of, tally}
use Rattle.rules.specs.Memory.{Memory, with_history, writes}
use Rattle.rules.specs.Answer.{Effect}
use Rattle.rules.specs.Image.{history_size, checkpoint, log}
use Rattle.rules.specs.Sound as soundness
use Rattle.rules.specs.Sound.{later}
use Rattle.rules.specs.Request.{is_write}
use Rattle.rules.specs.Step.{plain_refusals, recovery, step}
use Rattle.laws.proofs.Keeps.{recovered_in, recovered-writes}
use Rattle.laws.proofs.Passed.{Granted}
use Rattle.laws.proofs.Writes.{length-tally}
use Rattle.farm.specs.Farm.{Choice, Attempt, Farm, performed_by, attempted, record_of, are_bytes, Done, is_done, plainly, serve, serving, recover, recovering, run}
use Rattle.farm.specs.Demand.{◌∈◌, Lent, Reached, AllSound, Recovered, OwnStay, Finds, stays_read, ReadsStay, finds_own, OwnFound, Demand3}
use Rattle.farm.specs.Beside.{owed_by, owed}
use Rattle.farm.proofs.Prefix.{each-mem, pre-mem, mem-keep, keep-mem, changed-same}
use Rattle.farm.proofs.Held.{Sane, keeps, Numbered, Covered, sane-long, sane-here}
use Rattle.farm.proofs.Known.{Covers}
use Rattle.farm.proofs.Steps.{keeps-up, kept-vector, kept-recover}
use Rattle.farm.proofs.Taken.{covered-held}
use Rattle.farm.proofs.Inv.{lists-run, Inv}
use Rattle.farm.proofs.Moves.{bytes_below, lent-keeps, lent-sane, recovers-to}
use Rattle.farm.proofs.Serving.{fair, done-low, done-sane, done-granted, done-writes}
use Rattle.farm.proofs.Runs.{reached-inv, run-inv}

-- ---- what a session that chose so has seen, or written, its reads must find
seen-owed : (o : Choice) (seen wrote : List Record) → stays_read o ≡ true → {w : Record} → w ∈ seen → w ∈ owed_by o seen wrote
unfolding owed_by
seen-owed Reads seen wrote e y = y
seen-owed Writes seen wrote e y = absurd (false≢true e)
seen-owed Both seen wrote e y = Memᴰ.append_right wrote y

wrote-owed : (o : Choice) (seen wrote : List Record) → finds_own o ≡ true → {w : Record} → w ∈ wrote → w ∈ owed_by o seen wrote
unfolding owed_by
wrote-owed Reads seen wrote e y = absurd (false≢true e)
wrote-owed Writes seen wrote e y = y
wrote-owed Both seen wrote e y = Memᴰ.append_left seen y

module _ (n : ℕ) (f : Farm) (x : Reached step n f) where
  abbrev pub c : Numbered
  c = (reached-inv n f x).0

  abbrev pub i : Inv n c f
  i = (reached-inv n f x).1

  pub all-sound : AllSound step n f
  all-sound j l = (i.seats.sits j.0 l).sound

  -- ---- recovery
  module _ (j : ServerId) (low : j.0 < n) (down : (f.servers j.0).state.up ≡ false) (history : List ℕ) (lent : Lent history history_size) where
    abbrev m : Memory
    m = f.servers j.0

    abbrev m' : Memory
    m' = with_history history m

    sane : Sane n j m'
    sane = lent-sane n j m down history (i.seats.sits j.0 low) lent.room (bytes_below history lent.bytes)

    comes_back : Done (recover step f j history)
    unfolding recover step recovery plain_refusals
    comes_back = rw (sane-long n j m' sane, sane.sound, down, sane-here n j m' sane)

    to : (recover step f j history).after ≡ soundness.recover m'
    to = ap (λ (e : Effect). e.after) (recovers-to n c f i j history comes_back)

    stands : writes (recover step f j history).after ≡ recovered_in m'
    stands = ap writes to ∙ recovered-writes m' sane.bytes.image

    leaves : performed_by (recovering step f j history) j ≡ writes (recover step f j history).after
    unfolding recovering
    leaves =
        let e = recover step f j history in
        let done : (are_bytes history && is_done e.reply) ≡ true = rw (lent.bytes, eq-eqb e.reply.number 0 comes_back) in
        ap (λ (b : Bool). performed_by (cond b (plainly f j e) f) j) done ∙ ap writes (changed-same f.servers j.0 e.after)

    -- all that was kept
    all : keeps m ≡ performed_by (recovering step f j history) j
    unfolding soundness.recover soundness.recovered_state
    all = sym (lent-keeps n j m down history) ∙ sym (kept-recover n j m' sane down) ∙ sym (leaves ∙ ap writes to)

    none-missing : (a : Attempt) → a ∈ f.ledger.performed j.0 → (w : Record) → w ∈ attempted a → w ∈ performed_by (recovering step f j history) j
    unfolding writes_of
    none-missing a y w z =
        let k = each-mem _ (attempted a) (each-mem _ (f.ledger.performed j.0) (i.deeds.performed j.0 low) y) z in
        let own = subst (λ (l : List Record). w ∈ l) (sym (i.seats.mine j.0 low)) k in
        subst (λ (l : List Record). w ∈ l) all (keep-mem (λ (r : Record). eqb r.origin.0 j.0) (keeps m) own).0

    recovered : Recovered step f j history
    unfolding soundness.recover soundness.recovered_state soundness.recovered
    recovered =
        record {
          done = comes_back;
          up = ap (λ (z : Memory). z.state.up) to;
          holds = stands ∙ ap (λ (o : ServerId). checkpoint m.image ++ later o (checkpoint m.image) (log m.image)) sane.own;
          none_missing = none-missing;
        }

  -- ---- own writes
  own-stay : OwnStay step n f
  unfolding writes_of
  own-stay acts j low up again w o y =
      let k = run-inv n c f i acts in
      let mine : Record → Bool = λ r. eqb r.origin.0 j.0 in
      let m = f.servers j.0 in
      let m' = (run step f acts).servers j.0 in
      let kept = subst (λ (l : List Record). w ∈ l) (sym (keeps-up m up)) y in
      let here = subst (λ (l : List Record). w ∈ l) (i.seats.mine j.0 low) (mem-keep mine (keeps m) (eq-eqb w.origin.0 j.0 o) kept) in
      let there = pre-mem (c j.0) (k.lists j.0) (k.grows j.0 low) here in
      let still = (keep-mem mine (keeps m') (subst (λ (l : List Record). w ∈ l) (sym (k.inv.seats.mine j.0 low)) there)).0 in
      subst (λ (l : List Record). w ∈ l) (keeps-up m' again) still

  -- ---- what a read must find it finds
  pub owed-found : Finds (λ c. true) owed step n f
  unfolding serving
  owed-found q cell j y e chosen done w wy =
      subst (λ (l : List Record). w ∈ l)
      (sym (ap writes (changed-same f.servers j.0 (serve step f j q).after) ∙ done-writes n c f i j q done (fair n c f i j q y).numbers))
      (Memᴰ.append_left (record_of m q.phone q.request) performed)
    where
      m : Memory
      m = f.servers j.0

      sane : Sane n j m
      sane = done-sane n c f i j q done

      a : Granted m j q.phone q.request q.vector
      a = done-granted n c f i j q done

      knew : Covers n c q.vector (owed q)
      knew = (fair n c f i j q y).knew (ap is_write e)

      k : Covered n c q.vector w
      k = each-mem (Covered n c q.vector) (owed q) knew.each wy

      v : m.state.vector ≡ tally (keeps m)
      v = kept-vector n j m sane a.up

      -- the server is not behind the request, so that its V counts what the request's vector counts
      covered : Covered n c (tally (keeps m)) w
      covered =
          let eight = ap (λ (v : Vector). length v.counts) v ∙ length-tally (keeps m) in
          record {
            placed = k.placed;
            counted =
                omega (
                  arith,
                  k.counted,
                  behind-false m.state.vector q.vector (eight ∙ sym knew.eight) a.ahead w.origin,
                  ap (λ (v : Vector). at v w.origin) v,
                );
          }

      performed : w ∈ writes m
      performed =
          subst (λ (l : List Record). w ∈ l) (keeps-up m a.up)
          (covered-held n c x.few (lists-run n c f.servers i.seats) (keeps m) (i.seats.held j.0 (done-low n c f i j q done)) w covered)

  -- ---- what was read stays read, under 1 and 3
  reads-stay : ReadsStay step n f
  reads-stay q cell j y e chosen done w wy = owed-found q cell j y e refl done w (seen-owed q.choice q.seen q.wrote chosen wy)

-- ---- own writes are found, under 2 and 3
pub own-found : (n : ℕ) (f : Farm) → Reached step n f → OwnFound step n f
own-found n f x q cell j y e chosen done w wy =
    owed-found n f x q cell j y e refl done w (wrote-owed q.choice q.seen q.wrote chosen wy)

pub demand-3 : (n : ℕ) (f : Farm) → Reached step n f → Demand3 step n f
demand-3 n f x =
    record {
      all_sound = all-sound n f x;
      recovery = recovered n f x;
      own_stay = own-stay n f x;
      reads_stay = reads-stay n f x;
    }
