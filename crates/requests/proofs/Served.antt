-- A read: what a sound memory gives it, the state that it leaves, its reply, and its stores.
-- Assumes nothing.
use Prim.Native.Nat.{ℕ, ◌+◌, ◌-◌, ◌*◌, ◌≤◌}
use mathlib.Core.Bool.{Bool, true, false, cond}
use mathlib.Core.List.{[], append-nil}
use mathlib.Core.Option.{Option, none, some, some-ne-none, some-injective}
use mathlib.Core.Path.{◌≡◌, refl, ap, sym, ◌∙◌}
use native.Mathlib.Omega.{arith}
use lib.ListN.{length, take}
use lib.Seq.{take_all, take-nil}
use Rattle.std.proofs.Common.{Ok, Some, None}
use Rattle.std.specs.Prelude.{Option as Maybe}
use Rattle.notes.specs.Record.{record_size}
use Rattle.notes.specs.declared.index.PhoneId.{PhoneId}
use Rattle.notes.specs.declared.record.Record.{Record}
use Rattle.notes.specs.declared.vector.Vector.{Vector}
use Rattle.notes.proofs.Records.{length-records}
use Rattle.rules.specs.declared.answer.Answer.TheVariants as answer
use Rattle.rules.specs.declared.event.Request.{Request}
use Rattle.rules.specs.declared.event.Request.TheVariants.{Read}
use Rattle.rules.specs.declared.state.State.{State}
use Rattle.rules.specs.Memory.{Memory, memory, writes}
use Rattle.rules.specs.Writes.{winner}
use Rattle.rules.specs.Image.{checkpoint_count, checkpoint, log, stored, checkpoint_plan}
use Rattle.rules.specs.Answer.{value_reply, answer_reply, effect_of}
use Rattle.rules.specs.Request.{value_of, due, own_plan, plan, ready, performed, reply_to, served}
use Rattle.laws.proofs.Stores.{shows-counts, length-checkpoint_plan}
use Rattle.laws.proofs.Sound.{kept-few}
use Rattle.laws.proofs.Open.{open_up}
use Rattle.laws.proofs.Passed.{Admitted}
use Rattle.laws.proofs.Reading.{ready-is}
use Rattle.requests.specs.Forms.{Room, winner_of, winner_value}

-- ---- what is admitted has room

pub room : (m : Memory) (i : PhoneId) (q : Request) → Admitted m i q → Room m.state.held (checkpoint_count m.image) m.history m.image
room m i q a =
    let u = open_up m a.head a.up in
    let s = m.state in
    let c = checkpoint m.image in
    let l = log m.image in
    record {
      history = omega (arith, u.facts.few, a.head.history);
      image = a.head.image;
      kept =
          omega (
            arith,
            (shows-counts s.n s.own m.image c l u.shows).0,
            kept-few s (writes m) c l u.facts,
            length-records s.held m.history,
          );
      few = u.facts.few;
    }

-- ---- the state and the reply

module _ (m : Memory) (i : PhoneId) (cell : ℕ) where
  abbrev s : State
  s = m.state

  -- the state alone says what a read goes on from
  ready_of : ready (memory s [] []) i (Read cell) ≡ ready m i (Read cell)
  unfolding ready due
  ready_of = refl

-- the answer by what the walk found is the reply
found-reply :
    (w : Option Record) (o : Maybe ℕ) (v : Vector)
    → winner_of o ≡ winner_value w
    → answer_reply (answer.Read o v) ≡ value_of w v
found-reply none (Some x) v e = absurd (some-ne-none x e)
found-reply none None v e = refl
found-reply (some r) (Some x) v e = ap (λ (x : ℕ). value_reply x v) (some-injective x r.value e)
found-reply (some r) None v e = absurd (some-ne-none r.value (sym e))

-- ---- the stores

read-plan :
    (m : Memory) (i : PhoneId) (cell : ℕ)
    → plan m i (Read cell)
    ≡ cond (due m i (Read cell)) (checkpoint_plan m.history m.state.held (checkpoint_count m.image)) []
unfolding plan own_plan
read-plan m i cell = append-nil _

-- by whether a checkpoint is due, as the state alone says
module _ (m : Memory) (i : PhoneId) (cell : ℕ) where
  pub plan-due :
      due (memory m.state [] []) i (Read cell) ≡ true
      → plan m i (Read cell) ≡ checkpoint_plan m.history m.state.held (checkpoint_count m.image)
  unfolding due
  plan-due e =
      read-plan m i cell
      ∙ ap (λ (t : Bool). cond t (checkpoint_plan m.history m.state.held (checkpoint_count m.image)) []) e

  pub plan-none : due (memory m.state [] []) i (Read cell) ≡ false → plan m i (Read cell) ≡ []
  unfolding due
  plan-none e =
      read-plan m i cell
      ∙ ap (λ (t : Bool). cond t (checkpoint_plan m.history m.state.held (checkpoint_count m.image)) []) e

  pub none-stored :
      (k : ℕ)
      → due (memory m.state [] []) i (Read cell) ≡ false
      → m.image ≡ stored m.image (take k (plan m i (Read cell)))
  unfolding stored
  none-stored k e = sym (ap (stored m.image) (ap (take k) (plan-none e) ∙ take-nil k))

length-read-plan :
    (m : Memory) (i : PhoneId) (cell : ℕ)
    → Room m.state.held (checkpoint_count m.image) m.history m.image
    → length (plan m i (Read cell))
    ≡ cond (due m i (Read cell)) (record_size * (m.state.held - checkpoint_count m.image) + 2) 0
length-read-plan m i cell room = rw (read-plan m i cell) (go (due m i (Read cell)))
  where
    go :
        (t : Bool)
        → length (cond t (checkpoint_plan m.history m.state.held (checkpoint_count m.image)) [])
        ≡ cond t (record_size * (m.state.held - checkpoint_count m.image) + 2) 0
    go true = length-checkpoint_plan m.history m.state.held (checkpoint_count m.image) room.kept room.history
    go false = refl

-- so many are all of them
pub read-plan-all :
    (m : Memory) (i : PhoneId) (cell : ℕ)
    → Room m.state.held (checkpoint_count m.image) m.history m.image
    → take (record_size * m.state.held + 2) (plan m i (Read cell)) ≡ plan m i (Read cell)
read-plan-all m i cell room =
    take_all (record_size * m.state.held + 2) (plan m i (Read cell))
    (rw (length-read-plan m i cell room) (go (due m i (Read cell))))
  where
    go :
        (t : Bool)
        → cond t (record_size * (m.state.held - checkpoint_count m.image) + 2) 0 ≤ record_size * m.state.held + 2
    go true = omega arith
    go false = omega arith

-- ---- served

pub read-served :
    (m : Memory) (i : PhoneId) (cell : ℕ) (o : Maybe ℕ)
    → winner_of o ≡ winner_value (winner cell (writes m))
    → effect_of
    (Ok (answer.Read o (ready (memory m.state [] []) i (Read cell)).vector))
    (memory (ready (memory m.state [] []) i (Read cell)) m.history (stored m.image (plan m i (Read cell))))
    ≡ served m i (Read cell)
unfolding served performed reply_to
read-served m i cell o e =
    rw (
      ready_of m i cell,
      ap (λ (t : State). t.held) (ready-is m i (Read cell)),
      ap (λ (t : State). t.vector) (ready-is m i (Read cell)),
      found-reply (winner cell (writes m)) o m.state.vector e,
    )
