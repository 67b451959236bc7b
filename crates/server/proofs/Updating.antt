-- Laws of an update: what a suitable message is, the refusals row by row, and what is left.
-- Assumes nothing.
use Prim.Native.Nat.{ℕ, ◌+◌, ◌-◌, ◌*◌, ◌/◌, ◌≤◌, ◌<◌}
use Rattle.std.specs.Prelude.{Ok, Err}
use mathlib.Core.Bool.{true, false, ◌&&◌, not}
use mathlib.Core.List.{List, [], ◌∷◌, map, flat_map}
use mathlib.Core.Option.{Option, none, some, some-ne-none}
use mathlib.Core.Path.{◌≡◌, refl, sym, ap, ◌∙◌}
use native.Mathlib.Omega.{arith}
use borrow.Author.Tests.{le-leb, lt-leb}
use lib.Dec.{leb, eqb}
use lib.ListN.{length, take, drop}
use lib.Seq.{sets}
use Rattle.notes.specs.Lists.{every}
use Rattle.notes.specs.Vector.{zeros}
use Rattle.notes.specs.declared.vector.Vector.{Vector}
use Rattle.notes.specs.Reply.{first}
use Rattle.notes.specs.Bytes.{pieces}
use Rattle.notes.specs.Record.{record_size, decode, record_bytes}
use Rattle.notes.specs.Message.{header_size, history_most, records_ok, message_n, brought, checked_reply, check}
use Rattle.notes.specs.declared.message.Header.{Header}
use Rattle.notes.specs.declared.message.Refusal as notes
use Rattle.notes.specs.declared.index.ServerId.{ServerId}
use Rattle.notes.proofs.Answers.{update-right, refused-wrong, first-stays, first-goes-on}
use Rattle.notes.proofs.Lists.{both, rest}
use Rattle.notes.proofs.Messages.{right, right-n, right-suits}
use Rattle.rules.specs.declared.answer.Refusal.{Refusal}
use Rattle.rules.specs.declared.answer.Refusal.TheVariants.{HistoryFull}
use Rattle.rules.specs.Memory.{Memory, memory, holding}
use Rattle.rules.specs.Answer.{Effect, refusal_reply, replying, finished, unless}
use Rattle.rules.specs.Step.{Taken, taken_from, updated, suitable, arrival_refusals, taking_refusals, update_refusals, update}
use Rattle.laws.proofs.Passed.{Arrived, arrived}
use Rattle.laws.proofs.Open.{open_up}
use Rattle.memory.proofs.Listed.{listed-records}
use Rattle.server.specs.declared.take.Takes.{Takes}
use Rattle.server.specs.Forms.{origin_ok, ended, takes_of, seen, ahead}
use Rattle.server.proofs.Taking.{formed-origins, taken-ahead}

empty : {A : Type 0} (l : List A) → length l ≡ 0 → l ≡ []
empty [] e = refl
empty (x ∷ l) e = absurd (omega arith)

-- ---- a suitable message, by its check's answer
module _ (m : Memory) (msg : List ℕ) where
  pub unsuited-refused : (r : notes.Refusal) → checked_reply (Err r) ≡ check msg → suitable m msg ≡ false
  unsuited-refused r e = rw (refused-wrong msg r e)

  module _ (h : Header) (e : checked_reply (Ok h) ≡ check msg) where
    pub suited-decides : suitable m msg ≡ (eqb h.n m.state.n && not (eqb h.sender.0 m.state.own.0))
    suited-decides =
        let known = update-right msg h e in
        rw (known.0, ap (λ (x : Header). x.n) known.1, ap (λ (x : Header). x.sender.0) known.1)

-- ---- the writes, as the records of `&message[8..]`
abbrev body : List ℕ → List ℕ
body msg = take (length msg - header_size) (drop header_size msg)

pub brought-records :
    (msg : List ℕ) (r : List (List ℕ)) → r ≡ pieces record_size (length (body msg) / record_size) (body msg) → map decode r ≡ brought msg
brought-records msg r e = listed-records r _ _ e ∙ rw (rest header_size msg)

-- ---- what taking its writes gave, by the answer
took :
    (t : Takes) (r : Taken) → takes_of (Ok t) ≡ seen r → (r.refusal ≡ none) × (t.new ≡ length r.new) × (t.vector ≡ r.vector)
took t r e = go r.refusal refl e
  where
    go :
        (x : Option Refusal)
        → r.refusal ≡ x
        → takes_of (Ok t) ≡ ended x (length r.new) r.vector
        → (r.refusal ≡ none) × (t.new ≡ length r.new) × (t.vector ≡ r.vector)
    go none q e = (q, ap (λ (y : Option Refusal × ℕ × Vector). y.1) e, ap (λ (y : Option Refusal × ℕ × Vector). y.2) e)
    go (some k) q e = absurd (some-ne-none k (sym (ap (λ (y : Option Refusal × ℕ × Vector). y.0) e)))

stopped : (k : Refusal) (r : Taken) → takes_of (Err k) ≡ seen r → r.refusal ≡ some k
stopped k r e = go r.refusal refl e
  where
    go : (x : Option Refusal) → r.refusal ≡ x → takes_of (Err k) ≡ ended x (length r.new) r.vector → r.refusal ≡ some k
    go none q e = absurd (some-ne-none k (ap (λ (y : Option Refusal × ℕ × Vector). y.0) e))
    go (some l) q e = q ∙ sym (ap (λ (y : Option Refusal × ℕ × Vector). y.0) e)

-- ---- the rows after them
module _ (m : Memory) (j : ServerId) (msg : List ℕ) where
  abbrev t : Taken
  t = taken_from m msg

  abbrev leaving : Option Refusal → Effect
  leaving r = unless r m (finished (updated m t))

  pub update-refused : (k : Refusal) → some k ≡ first (arrival_refusals m j msg) → update m j msg ≡ replying (refusal_reply k) zeros m
  unfolding update update_refusals
  update-refused k e = ap leaving (first-stays (arrival_refusals m j msg) (taking_refusals m t) k (sym e))

  module _ (ok : none ≡ first (arrival_refusals m j msg)) where
    here : Arrived m j msg
    here = arrived m j msg (sym ok)

    pub arrived-few : m.state.held ≤ history_most
    arrived-few = (open_up m here.head here.up).facts.few

    pub arrived-long : header_size ≤ length msg
    arrived-long = omega (arith, (right-suits msg here.right).total)

    pub arrived-origins : every origin_ok (brought msg) ≡ true
    unfolding records_ok
    arrived-origins =
        formed-origins (message_n msg) (brought msg) (right-n msg here.right)
        (both (leb (length (brought msg)) history_most) _ (right msg here.right).records).1

    goes_on : update m j msg ≡ leaving (first (taking_refusals m t))
    unfolding update update_refusals
    goes_on = ap leaving (first-goes-on (arrival_refusals m j msg) (taking_refusals m t) (sym ok))

    pub update-stopped : (k : Refusal) → takes_of (Err k) ≡ seen (taken_from m msg) → update m j msg ≡ replying (refusal_reply k) zeros m
    update-stopped k e = goes_on ∙ rw (stopped k t e)

    module _ (a : Takes) (gave : takes_of (Ok a) ≡ seen (taken_from m msg)) where
      pub update-full : history_most - m.state.held < a.new → update m j msg ≡ replying (refusal_reply HistoryFull) zeros m
      update-full h =
          let k = took a t gave in
          goes_on ∙ rw (k.0, lt-leb (m.state.held + length t.new) history_most (omega (arith, k.1)))

      module _ (h : a.new ≤ history_most - m.state.held) where
        pub took-room : m.state.held + a.new ≤ history_most
        took-room = omega (arith, arrived-few)

        new-are : t.new ≡ ahead m.state.vector (brought msg)
        new-are = taken-ahead m.state.own m.state.vector (brought msg) (took a t gave).0

        pub took-fits : record_size * (m.state.held + length (ahead m.state.vector (brought msg))) ≤ length m.history
        took-fits = rw (← new-are) (omega (arith, took-room, (took a t gave).1, here.head.history))

        abbrev pub leaves : List ℕ → Effect
        leaves bytes = finished (memory (holding (m.state.held + a.new) a.vector m.state) bytes m.image)

        pub update-done : update m j msg ≡ leaves (sets m.history (record_size * m.state.held) (record_bytes (ahead m.state.vector (brought msg))))
        unfolding updated
        update-done =
            let k = took a t gave in
            goes_on
            ∙ rw (
              k.0,
              le-leb (m.state.held + length t.new) history_most (omega (arith, took-room, k.1)),
              k.1,
              k.2,
              ← new-are,
            )

        -- nothing new, nothing stored
        pub update_same : a.new ≡ 0 → update m j msg ≡ leaves m.history
        unfolding record_bytes flat_map
        update_same e = update-done ∙ rw (← new-are, empty t.new (omega (arith, (took a t gave).1, e)))
