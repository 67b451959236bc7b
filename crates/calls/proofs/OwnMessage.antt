-- A server's own message: each refusal where it stops, and then its history's bytes behind a header.
-- Assumes nothing.
use Prim.Native.Nat.{ℕ, ◌+◌, ◌*◌, ◌/◌, ◌≤◌, ◌<◌}
use mathlib.Core.List.{List, [], ◌∷◌, ◌++◌}
use mathlib.Core.Option.{Option, none, some, map}
use mathlib.Core.Path.{◌≡◌, ap, sym, ◌∙◌}
use native.Mathlib.Omega.{arith}
use borrow.Author.Tests.{lt-ltb, le-ltb, not-false}
use lib.ListN.{length, take, drop, length-take}
use Rattle.notes.specs.Reply.{Filled, done, refused, first, fill}
use Rattle.notes.specs.Bytes.{to_bytes}
use Rattle.notes.specs.Record.{record_size, records}
use Rattle.notes.specs.Message.{header_size, history_most, header_of, message_size, message_of, records_in}
use Rattle.notes.specs.declared.index.ServerId.{ServerId}
use Rattle.notes.proofs.Records.{length-records, length-record_bytes, eight-counts}
use Rattle.rules.specs.declared.answer.Refusal.{Refusal}
use Rattle.rules.specs.Memory.{Memory, writes}
use Rattle.rules.specs.Answer.{refusal_reply, head, is_down}
use Rattle.rules.specs.Calls.{room_refusals, own_message, message}
use Rattle.laws.proofs.Passed.{Head, head-known, head-right}
use Rattle.laws.proofs.Open.{opened}
use Rattle.laws.proofs.Places.{records-in}
use Rattle.notes.proofs.Answers.{first-stays, first-goes-on}

-- the message of k records is as long as it must be
length-message : (n : ℕ) (s : ServerId) (k : ℕ) (b : List ℕ) → length (message_of n s (records k b)) ≡ message_size k
unfolding message_of header_of to_bytes
length-message n s k b =
    omega (arith, length-record_bytes (records k b) (eight-counts k b), length-records k b)

-- what is known of a server whose head refuses nothing
module _ (m : Memory) (passed : none ≡ first (head m (is_down m))) where
  known : Head m
  known = head-known m (is_down m) [] (sym passed)

  pub held-few : m.state.held ≤ history_most
  held-few =
      let up = not-false m.state.up (head-right m (is_down m) [] (sym passed)) in
      (opened m known.image up known.sound).facts.few

  -- the bytes of the writes held
  abbrev bytes : List ℕ
  bytes = take (record_size * m.state.held) m.history

  pub length-bytes : length bytes ≡ record_size * m.state.held
  length-bytes = rw length-take (omega (arith, held-few, known.history))

  records-bytes : records_in bytes ≡ writes m
  records-bytes =
      let k = m.state.held in
      let count : length bytes / record_size ≡ k = rw length-bytes (omega arith) in
      rw (count, records-in k (record_size * k) m.history (omega arith))

module _ (m : Memory) (out : List ℕ) where
  abbrev after : Option Refusal → Filled
  after r = fill (map refusal_reply r) (own_message m) out

  pub message-refused :
      (k : Refusal) → some k ≡ first (head m (is_down m)) → message m out ≡ record { reply = refusal_reply k; output = out }
  unfolding message
  message-refused k e = ap after (first-stays (head m (is_down m)) (room_refusals m out) k (sym e))

  -- the message of a history's bytes, put into the output
  abbrev put : List ℕ → List ℕ
  put b = message_of m.state.n m.state.own (records_in b) ++ drop (header_size + length b) out

  module _ (passed : none ≡ first (head m (is_down m))) where
    -- where the head refuses nothing, the room decides
    goes_on : message m out ≡ after (first (room_refusals m out))
    unfolding message
    goes_on = ap after (first-goes-on (head m (is_down m)) (room_refusals m out) (sym passed))

    pub message-short : length out < message_size m.state.held → message m out ≡ record { reply = refused 9; output = out }
    message-short h = goes_on ∙ rw (lt-ltb (length out) (message_size m.state.held) h)

    pub message-filled :
        message_size m.state.held ≤ length out
        → message m out ≡ record { reply = done (message_size m.state.held ∷ []); output = put (bytes m passed) }
    unfolding own_message
    message-filled h =
        let s = m.state in
        goes_on
        ∙ rw (
          le-ltb (length out) (message_size s.held) h,
          length-message s.n s.own s.held m.history,
          records-bytes m passed,
          length-bytes m passed,
        )
