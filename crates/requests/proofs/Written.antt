-- What a write makes, as its stores and its state make it.
-- Assumes nothing.
use Prim.Native.Nat.{ℕ, ◌+◌, ◌*◌, ◌≤◌, ◌<◌, max}
use mathlib.Core.List.{List}
use mathlib.Core.Path.{◌≡◌, refl, ap, sym, ◌∙◌}
use native.Mathlib.Omega.{arith}
use lib.ListN.{length, take, length-set}
use lib.Seq.{sets, take_all}
use Rattle.notes.specs.Vector.{at, raised}
use Rattle.notes.specs.Record.{record_size, encode}
use Rattle.notes.specs.Message.{history_most}
use Rattle.notes.specs.declared.index.PhoneId.{PhoneId}
use Rattle.notes.specs.declared.record.Record.{Record}
use Rattle.notes.specs.declared.vector.Vector.{Vector}
use Rattle.notes.proofs.Records.{length-records, length-encode}
use Rattle.rules.specs.declared.state.State.{State}
use Rattle.rules.specs.declared.event.Request.{Request}
use Rattle.rules.specs.declared.event.Request.TheVariants.{Write}
use Rattle.rules.specs.Memory.{Memory, memory, noting, holding, writes}
use Rattle.rules.specs.Image.{log_count, checkpoint, log, stored}
use Rattle.rules.specs.Answer.{replying, written_reply}
use Rattle.rules.specs.Request.{new_vector, new_record, written, noted, due, own_plan, plan, ready, performed, reply_to, served}
use Rattle.laws.proofs.Writes.{count_of-few, length-tally}
use Rattle.laws.proofs.Stores.{length-write_plan}
use Rattle.laws.proofs.Sound.{own-count}
use Rattle.laws.proofs.Open.{Up, open_up, own-low}
use Rattle.laws.proofs.Passed.{Admitted}
use Rattle.requests.specs.Forms.{Small, write_bytes_plan}
use Rattle.requests.proofs.Storing.{write-plan}

module _ (m : Memory) (i : PhoneId) (q : Request) (a : Admitted m i q) where
  abbrev s : State
  s = m.state

  opens : Up m
  opens = open_up m a.head a.up

  -- the numbers of a sound state that is up are small
  pub small : Small s
  small =
      let few : length (writes m) ≤ history_most = rw length-records opens.facts.few in
      let low = own-low s (writes m) (checkpoint m.image) (log m.image) opens.facts few m.image opens.shows in
      let own = own-count s (writes m) (checkpoint m.image) (log m.image) opens.facts low in
      record {
        held = opens.facts.few;
        own = omega (arith, own, count_of-few s.own (writes m));
        nwrites = omega (arith, opens.facts.writes, own, count_of-few s.own (writes m));
      }

  -- a new record has a record's size
  pub new-size : (phone : PhoneId) (cell value time : ℕ) → length (encode (new_record m phone cell value time)) ≡ record_size
  unfolding new_record new_vector raised
  new-size phone cell value time =
      let v = s.vector in
      length-encode (new_record m phone cell value time)
      (length-set v.counts s.own.0 (max (at v s.own) (at v s.own + 1))
      ∙ ap (λ (v : Vector). length v.counts) opens.facts.counts
      ∙ length-tally (writes m))

-- a write has so many stores
pub write-stores :
    (m : Memory) (i : PhoneId) (cell value time : ℕ)
    → Admitted m i (Write cell value time)
    → length (plan m i (Write cell value time)) ≡ record_size + 1
unfolding plan own_plan due
write-stores m i cell value time a =
    length-write_plan (new_record m i cell value time) (log_count m.image) (new-size m i _ a i cell value time)

module _ (m : Memory) (i : PhoneId) (cell value time : ℕ) (a : Admitted m i (Write cell value time)) where
  abbrev r : Record
  r = new_record m i cell value time

  -- the plan over the record's bytes is the write's
  pub plan-made : (b : List ℕ) (logged : ℕ) → b ≡ encode r → logged ≡ log_count m.image → write_bytes_plan b logged ≡ plan m i (Write cell value time)
  unfolding plan own_plan due
  plan-made b logged e l = rw l (sym (write-plan r b (log_count m.image) (sym e)))

  -- so many stores are all of them
  pub plan-whole : (k : ℕ) → record_size < k → take k (plan m i (Write cell value time)) ≡ plan m i (Write cell value time)
  plan-whole k h =
      let n = write-stores m i cell value time a in
      take_all k (plan m i (Write cell value time)) (omega arith)

  pub write-served :
      served m i (Write cell value time) ≡ replying (written_reply (new_vector m.state)) (new_vector m.state) (memory (noting m.state.cr m.state.rw (m.state.nwrites + 1) (holding (m.state.held + 1) (new_vector m.state) m.state)) (sets m.history (record_size * m.state.held) (encode r)) (stored m.image (plan m i (Write cell value time))))
  unfolding served performed ready noted due written reply_to
  write-served = refl
