-- The record of a new write: it is well formed, has the next own number, and is read back from its bytes.
-- Assumes nothing.
use Prim.Native.Nat.{ℕ, ◌+◌, ◌≤◌, ◌<◌}
use mathlib.Core.Bool.{true}
use mathlib.Core.List.{List, [], ◌∷◌, ◌++◌}
use mathlib.Core.Path.{◌≡◌, refl, ap, ◌∙◌}
use native.Mathlib.Omega.{arith}
use borrow.Author.Tests.{lt-ltb, le-leb}
use lib.ListN.{length, length-append}
use Rattle.notes.specs.Lists.{every}
use Rattle.notes.specs.Index.{servers, phones}
use Rattle.notes.specs.Vector.{at}
use Rattle.notes.specs.Record.{record_size, cells, number_most, number, in_range, stamp_ok, well_formed, decode, encode}
use Rattle.notes.specs.Message.{history_most}
use Rattle.notes.specs.declared.index.PhoneId.{PhoneId}
use Rattle.notes.specs.declared.record.Record.{Record}
use Rattle.notes.specs.declared.vector.Vector.{Vector}
use Rattle.notes.proofs.Lists.{every_append}
use Rattle.notes.proofs.Numbers.{AllBelow}
use Rattle.notes.proofs.Records.{length-encode, length-records}
use Rattle.notes.proofs.Messages.{server-facts}
use Rattle.rules.specs.Writes.{writes_of, count_of, tally}
use Rattle.rules.specs.Memory.{Memory, writes}
use Rattle.rules.specs.Image.{checkpoint, log}
use Rattle.rules.specs.Request.{new_vector, new_record}
use Rattle.laws.proofs.Lists.{every-weaker}
use Rattle.laws.proofs.Writes.{length-tally, at-tally, writes_of-append, writes_of-here}
use Rattle.laws.proofs.Stamps.{low, at-few, tally-stamp}
use Rattle.laws.proofs.Places.{Like, decode-encoded}
use Rattle.laws.proofs.Stores.{shows-server}
use Rattle.laws.proofs.Sound.{new-vector, formed-origin}
use Rattle.laws.proofs.Open.{Up}

-- records that differ in value and time at most are alike in what soundness asks of them
formed_like : (n : ℕ) (a b : Record) → Like a b → well_formed n a ≡ well_formed n b
unfolding well_formed in_range
formed_like n a b e = rw (e.origin, e.phone, e.cell, e.stamp)

pub number-like : (a b : Record) → Like a b → number a ≡ number b
number-like a b e = rw (e.origin, e.stamp)

module _
    (m : Memory)
    (u : Up m)
    (i : PhoneId)
    (cell value time : ℕ)
    (phone : i.0 < phones)
    (in_cells : cell < cells)
    (room : m.state.held < history_most)
  where
    abbrev r : Record
    r = new_record m i cell value time

    abbrev all : List Record
    all = writes m ++ r ∷ []

    few : length all ≤ number_most
    few = omega (arith, length-append (writes m) (r ∷ []), length-records m.state.held m.history)

    server : Rattle.notes.proofs.Messages.Server m.state.n m.state.own.0
    server = server-facts m.state.n m.state.own (shows-server _ _ m.image _ _ u.shows)

    own : m.state.own.0 < servers
    own = omega (arith, server.few, server.below)

    stamp : new_vector m.state ≡ tally all
    unfolding new_record
    stamp = new-vector m.state (writes m) (checkpoint m.image) (log m.image) u.facts own r refl

    pub eight : length r.stamp.counts ≡ servers
    unfolding new_record
    eight = ap (λ (v : Vector). length v.counts) stamp ∙ length-tally all

    pub encoded : length (encode r) ≡ record_size
    encoded = length-encode r eight

    small : AllBelow 65536 r.stamp.counts
    unfolding new_record
    small k = rw stamp (omega (arith, at-few all k, few))

    pub like : Like (decode (encode r)) r
    unfolding new_record
    like = decode-encoded r (omega arith) eight small

    pub next : number r ≡ count_of m.state.own (writes m) + 1
    unfolding new_record
    next =
        ap (λ (v : Vector). at v m.state.own) stamp
        ∙ at-tally all m.state.own own
        ∙ ap length (writes_of-append m.state.own (writes m) (r ∷ []))
        ∙ length-append (writes_of m.state.own (writes m)) (writes_of m.state.own (r ∷ []))
        ∙ ap (λ (l : List Record). count_of m.state.own (writes m) + length l) (writes_of-here m.state.own r refl)

    lows : every (low m.state.n) all ≡ true
    unfolding every new_record
    lows =
        rw (
          every_append (low m.state.n) (writes m) (r ∷ []),
          every-weaker (well_formed m.state.n) (low m.state.n) (λ x w. lt-ltb x.origin.0 m.state.n (formed-origin m.state.n x w)) (writes m) u.facts.formed,
          lt-ltb m.state.own.0 m.state.n server.below,
        )

    pub formed : well_formed m.state.n (decode (encode r)) ≡ true
    unfolding well_formed in_range new_record
    formed =
        formed_like m.state.n (decode (encode r)) r like
        ∙ rw (
          lt-ltb m.state.own.0 m.state.n server.below,
          lt-ltb i.0 phones phone,
          lt-ltb cell cells in_cells,
          le-leb 1 (number r) (omega (arith, next)),
        )
        (ap (stamp_ok m.state.n) stamp ∙ tally-stamp all m.state.n lows few)
