-- What recovery makes of an image that suits: its state, and its history as bytes of the image.
-- Assumes nothing.
use Prim.Native.Nat.{ℕ, ◌+◌, ◌-◌, ◌<◌, ◌≤◌, max}
use Rattle.std.specs.Prelude.{Some}
use mathlib.Core.Bool.{true, ◌&&◌}
use mathlib.Core.List.{List, ◌++◌, append-nil, map}
use mathlib.Core.Path.{◌≡◌, ap, sym, ◌∙◌, subst}
use native.Mathlib.Decide.{ℕ_discrete}
use native.Mathlib.Omega.{arith}
use lib.ListN.{length, drop, length-append, length-set}
use lib.Seq.{drop-drop}
use Rattle.notes.specs.Lists.{every}
use Rattle.notes.specs.Index.{servers}
use Rattle.notes.specs.Vector.{at, raised}
use Rattle.notes.specs.Record.{decode, well_formed, records}
use Rattle.notes.specs.Message.{history_most}
use Rattle.notes.specs.declared.index.ServerId.{ServerId}
use Rattle.notes.specs.declared.record.Record.{Record}
use Rattle.notes.specs.declared.vector.Vector.{Vector}
use Rattle.notes.proofs.Lists.{both}
use Rattle.notes.proofs.Records.{length-records}
use Rattle.notes.proofs.Vectors.{at-raised, at-raised-other}
use Rattle.rules.specs.Writes.{writes_of, count_of, tally, in_turn}
use Rattle.rules.specs.Memory.{Memory, memory, blank, holding, noting, no_reads}
use Rattle.rules.specs.Image.{checkpoint_count, log_count, checkpoint_area, log_area, log_place, header_ok, checkpoint, log}
use Rattle.rules.specs.Sound.{later, recovered, recovered_vector, recovered_state, recovered_history, recover, suits}
use Rattle.laws.proofs.Places.{records-drop}
use Rattle.laws.proofs.Writes.{writes_of-append, writes_of-all, writes_of-none, length-tally, at-tally, count_of-few, vectors-equal, same-server, raised-by}
use Rattle.memory.specs.Forms.{Limits, added, down_test, log_test, walk_of}
use Rattle.memory.proofs.Listed.{length-listed}
use Rattle.memory.proofs.Tested.{limits, length-checkpoint, length-log}
use Rattle.memory.proofs.Down.{is_own, down-test, tested-later, tested-run, tested-fits}
use Rattle.memory.specs.declared.image.Image.{Image}
use Rattle.server.specs.declared.recover.Stored.{Stored}
use Rattle.server.specs.Forms.{Suited, Told, Recoverable, recovered_records}

-- ---- V with more own writes
module _ (own : ServerId) (c b : List Record) (low : own.0 < servers) (mine : every (is_own own) b ≡ true) where
  abbrev more : Vector
  more = raised (tally c) own (count_of own c + length b)

  tally-own : tally (c ++ b) ≡ raised (tally c) own (count_of own c + length b)
  unfolding raised
  tally-own =
      vectors-equal (tally (c ++ b)) more
      (length-tally (c ++ b))
      (length-set (tally c).counts own.0 (max (at (tally c) own) (count_of own c + length b)) ∙ length-tally c)
      (λ o k. at-tally (c ++ b) o k ∙ ap length (writes_of-append o c b) ∙ go o k (ℕ_discrete own.0 o.0))
    where
      here : length (writes_of own c ++ writes_of own b) ≡ at more own
      here =
          rw (
            at-raised (tally c) own (count_of own c + length b) (rw length-tally low),
            at-tally c own low,
            writes_of-all own b mine,
            length-append,
          )
          (omega arith)

      go : (o : ServerId) → o.0 < servers → Dec (own.0 ≡ o.0) → length (writes_of o c ++ writes_of o b) ≡ at more o
      go o k (yes e) = subst (λ o. length (writes_of o c ++ writes_of o b) ≡ at more o) (same-server own o e) here
      go o k (no e) =
          rw (
            at-raised-other (tally c) own o (count_of own c + length b) (λ q. e (sym q)),
            at-tally c o k,
            writes_of-none o own b e mine,
            append-nil,
          )

-- ---- so many records stand in an image
pub kept-many : (i : List ℕ) (r : List (List ℕ)) → map decode r ≡ checkpoint i → length r ≡ checkpoint_count i
kept-many i r e = sym (length-listed r) ∙ ap length e ∙ length-checkpoint i

pub logged-many : (i : List ℕ) (r : List (List ℕ)) → map decode r ≡ log i → length r ≡ log_count i
logged-many i r e = sym (length-listed r) ∙ ap length e ∙ length-log i

-- ---- what is known of an image that suits
module _ (m : Memory) (s : Suited m) where
  abbrev n : ℕ
  n = m.state.n

  abbrev own : ServerId
  own = m.state.own

  abbrev c : List Record
  c = checkpoint m.image

  abbrev l : List Record
  l = log m.image

  pub suited : Limits m.state.n m.state.own m.image
  unfolding suits
  suited = limits n own m.image s.image (both (header_ok n own m.image) _ s.suits).0

  tested : down_test n own c l ≡ true
  unfolding suits
  tested = sym (down-test n own c l suited.low) ∙ (both (header_ok n own m.image) _ s.suits).1

  -- the walk counts the checkpoint's
  pub suited-counts : walk_of m.state.n (checkpoint m.image) ≡ Some (tally (checkpoint m.image))
  unfolding down_test walk_of
  suited-counts =
      let e = (both (every (well_formed n) c && in_turn c) (log_test n own c l) tested).0 in
      rw e

  module _ (said : Stored) (t : Told m said) where
    kept : said.counts.checkpoint ≡ checkpoint_count m.image
    kept = ap (λ (i : Image). i.checkpoint) t.counts

    logged : said.counts.log ≡ log_count m.image
    logged = ap (λ (i : Image). i.log) t.counts

    fits : added own c l ≤ log_count m.image
    fits = omega (arith, (tested-fits n own c l suited.low tested).0, length-log m.image)

    pub told-recovers : Recoverable said.counts said.lacked m.history m.image
    told-recovers =
        record {
          history = s.history;
          image = s.image;
          few = rw (kept, t.lacked) (omega (arith, (tested-fits n own c l suited.low tested).1, length-checkpoint m.image));
          fits = rw (logged, t.lacked) fits;
          logged = rw logged suited.image.logged;
        }

    -- its own writes, with those that are lacked
    own-writes : at said.vector own ≡ count_of own c
    own-writes = rw t.vector (at-tally c own suited.low)

    pub told-few : at said.vector m.state.own + said.lacked ≤ history_most
    told-few = omega (arith, told-recovers.few, own-writes, count_of-few own c, length-checkpoint m.image, kept)

    abbrev new : List Record
    new = records said.lacked (drop (log_place (said.counts.log - said.lacked)) m.image)

    -- the log's records that the checkpoint lacks
    lacked : later own c l ≡ new
    unfolding log
    lacked =
        let k = said.lacked in
        let f : log_count m.image - (log_count m.image - k) ≡ k = omega (arith, t.lacked, fits) in
        tested-later n own c l suited.low tested
        ∙ rw (
          length-records (log_count m.image) (log_area m.image),
          ← t.lacked,
          records-drop (log_count m.image - k) (log_count m.image) (log_area m.image),
          f,
          drop-drop,
          logged,
        )

    lacked-own : every (is_own own) new ≡ true
    lacked-own = ap (every (is_own own)) (sym lacked ∙ tested-later n own c l suited.low tested) ∙ (tested-run n own c l suited.low tested).mine

    vector-made : recovered_vector own c l ≡ raised said.vector own (at said.vector own + said.lacked)
    unfolding recovered_vector
    vector-made =
        let r = tested-run n own c l suited.low tested in
        rw (tested-later n own c l suited.low tested, own-writes, t.vector)
        (raised-by own c (drop (length l - added own c l) l) suited.low r.mine r.numbers
        ∙ ap (λ (b : List Record). tally (c ++ b)) (sym (tested-later n own c l suited.low tested) ∙ lacked)
        ∙ tally-own own c new suited.low lacked-own
        ∙ rw length-records)

    recovered-made : recovered own c l ≡ recovered_records said.counts said.lacked m.image
    unfolding recovered checkpoint
    recovered-made = rw (lacked, kept)

    recovered-many : length (recovered own c l) ≡ said.counts.checkpoint + said.lacked
    recovered-many =
        rw (
          recovered-made,
          length-append,
          length-records said.counts.checkpoint (checkpoint_area m.image),
          length-records said.lacked (drop (log_place (said.counts.log - said.lacked)) m.image),
        )

    state-made :
        recovered_state n own c l
        ≡ noting 0 no_reads said.lacked (holding (said.counts.checkpoint + said.lacked) (raised said.vector own (at said.vector own + said.lacked)) (blank true n own))
    unfolding recovered_state
    state-made =
        let high : own.0 < length said.vector.counts = rw (t.vector, length-tally) suited.low in
        let r = at-raised said.vector own (at said.vector own + said.lacked) high in
        let w : at (raised said.vector own (at said.vector own + said.lacked)) own - count_of own c ≡ said.lacked =
        omega (arith, r, own-writes) in
        rw (vector-made, recovered-many, w)

    pub recover-made :
        memory
        (noting 0 no_reads said.lacked (holding (said.counts.checkpoint + said.lacked) (raised said.vector m.state.own (at said.vector m.state.own + said.lacked)) (blank true m.state.n m.state.own)))
        (recovered_history (recovered_records said.counts said.lacked m.image) m.history)
        m.image ≡ recover m
    unfolding recover
    recover-made = rw (state-made, recovered-made)
