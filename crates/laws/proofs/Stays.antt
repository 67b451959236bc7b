-- A step from a sound state leaves bytes where bytes were.
-- Assumes nothing.
use Prim.Native.Nat.{ℕ, ◌*◌, ◌-◌}
use mathlib.Core.Bool.{Bool, true, false, cond}
use mathlib.Core.List.{List, [], ◌++◌}
use native.Mathlib.Omega.{arith}
use lib.ListN.{length, take, drop, replicate}
use Rattle.notes.specs.Reply.{first}
use Rattle.notes.specs.Record.{record_size, encode, record_bytes}
use Rattle.notes.specs.declared.index.PhoneId.{PhoneId}
use Rattle.notes.specs.declared.index.ServerId.{ServerId}
use Rattle.notes.specs.declared.vector.Vector.{Vector}
use Rattle.notes.proofs.Numbers.{AllBelow, below-drop}
use Rattle.notes.proofs.Pieces.{Each}
use Rattle.rules.specs.declared.event.Event.{Event}
use Rattle.rules.specs.declared.event.Request.{Request}
use Rattle.rules.specs.declared.event.Request.TheVariants.{Read, Write}
use Rattle.rules.specs.declared.event.What.{What}
use Rattle.rules.specs.declared.event.What.TheVariants as what
use Rattle.rules.specs.Memory.{Memory, with_state, down_of}
use Rattle.rules.specs.Image.{history_size, checkpoint_count, log_count, checkpoint_plan}
use Rattle.rules.specs.Sound.{recovered_history, recover}
use Rattle.rules.specs.Answer.{finished, is_down}
use Rattle.rules.specs.Request.{new_record, written, due, own_plan, plan, performed, served, cut_after, request_refusals, cut_refusals, request, request_cut}
use Rattle.rules.specs.Step.{taken_from, updated, update_refusals, update, plain_refusals, cut, recovery, happens, step}
use Rattle.laws.proofs.Octets.{below-append, below-sets, below-zeros, below-encode, below-record_bytes, each_take, IsByte, below-stored, write_bytes, checkpoint-bytes}
use Rattle.laws.proofs.Passed.{Granted, Brought, unless-keeps, granted, granted-cut, brought-known}
use Rattle.laws.proofs.Reading.{own}
use Rattle.laws.proofs.Keeps.{each_append, new-fit, recovered_in, recovered-fit}

pub record Bytes (m : Memory) : Type 0 where
  pub history : AllBelow 256 m.history
  pub image : AllBelow 256 m.image

module _ (m : Memory) (b : Bytes m) (j : ServerId) (i : PhoneId) (v : Vector) where
  record-bytes :
      (cell value time : ℕ) → Granted m j i (Write cell value time) v → AllBelow 256 (encode (new_record m i cell value time))
  unfolding new_record
  record-bytes cell value time a =
      below-encode (new_record m i cell value time) (omega (arith, own m j i (Write cell value time) v a)) (omega (arith, a.phone))

  own-bytes : (q : Request) → Granted m j i q v → Each IsByte (own_plan m i q)
  unfolding own_plan
  own-bytes (Read cell) a = tt
  own-bytes (Write cell value time) a =
      write_bytes (new_record m i cell value time) (log_count m.image) (record-bytes cell value time a)

  plan-bytes : (q : Request) → Granted m j i q v → Each IsByte (plan m i q)
  unfolding plan
  plan-bytes q a =
      each_append IsByte (cond (due m i q) (checkpoint_plan m.history m.state.held (checkpoint_count m.image)) [])
      (own_plan m i q)
      (go (due m i q))
      (own-bytes q a)
    where
      go : (d : Bool) → Each IsByte (cond d (checkpoint_plan m.history m.state.held (checkpoint_count m.image)) [])
      go true = checkpoint-bytes m.history m.state.held (checkpoint_count m.image) b.history
      go false = tt

  served-bytes : (q : Request) → Granted m j i q v → Bytes (served m i q).after
  unfolding served performed written
  served-bytes (Read cell) a =
      record { history = b.history; image = below-stored (plan m i (Read cell)) m.image b.image (plan-bytes (Read cell) a) }
  served-bytes (Write cell value time) a =
      record {
        history = below-sets (encode (new_record m i cell value time)) m.history _ b.history (record-bytes cell value time a);
        image = below-stored (plan m i (Write cell value time)) m.image b.image (plan-bytes (Write cell value time) a);
      }

  cut-bytes : (q : Request) (k : ℕ) → Granted m j i q v → Bytes (cut_after m i q k).after
  unfolding cut_after
  cut-bytes q k a =
      record {
        history = b.history;
        image = below-stored (take k (plan m i q)) m.image b.image (each_take IsByte k (plan m i q) (plan-bytes q a));
      }

module _ (m : Memory) (b : Bytes m) (v : Vector) (msg : List ℕ) (bytes : AllBelow 256 msg) where
  updated-bytes : (j : ServerId) → Brought m j msg → Bytes (updated m (taken_from m msg))
  unfolding updated
  updated-bytes j a =
      let new = (taken_from m msg).new in
      record {
        history = below-sets (record_bytes new) m.history _ b.history (below-record_bytes new (new-fit m j msg a bytes));
        image = b.image;
      }

  recovered-bytes : Bytes (recover m)
  unfolding recover recovered_history
  recovered-bytes =
      let new = record_bytes (recovered_in m) in
      let zeros : List ℕ = replicate (history_size - record_size * length (recovered_in m)) 0 in
      record {
        history =
            below-append (new ++ zeros) (drop history_size m.history)
            (below-append new zeros (below-record_bytes (recovered_in m) (recovered-fit m b.image)) (below-zeros (history_size - record_size * length (recovered_in m))))
            (below-drop history_size m.history b.history);
        image = b.image;
      }

  happens-bytes : (j : ServerId) (w : What) → Bytes (happens m j w v msg).after
  unfolding request request_cut cut update recovery
  happens-bytes j (what.Request i q) =
      unless-keeps Bytes (first (request_refusals m j i q v)) m (served m i q) b
      (λ r. served-bytes m b j i v q (granted m j i q v r))
  happens-bytes j (what.RequestCut i q k) =
      unless-keeps Bytes (first (cut_refusals m j i q k v)) m (cut_after m i q k) b
      (λ r. cut-bytes m b j i v q k (granted-cut m j i q v k r).0)
  happens-bytes j what.Cut =
      unless-keeps Bytes (first (plain_refusals m (is_down m) j)) m (finished (with_state (down_of m.state) m)) b
      (λ r. record { history = b.history; image = b.image })
  happens-bytes j what.Update =
      unless-keeps Bytes (first (update_refusals m j msg)) m (finished (updated m (taken_from m msg))) b
      (λ r. updated-bytes j (brought-known m j msg r))
  happens-bytes j what.Recovery =
      unless-keeps Bytes (first (plain_refusals m m.state.up j)) m (finished (recover m)) b (λ r. recovered-bytes)

  pub step-bytes : (e : Event) → Bytes (step m e v msg).after
  unfolding step
  step-bytes e = happens-bytes e.server e.what
