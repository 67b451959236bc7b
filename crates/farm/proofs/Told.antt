-- A server's own message is right, is bytes, and brings the server's history.
-- Assumes nothing.
use Prim.Native.Nat.{ℕ, ◌<◌}
use mathlib.Core.Bool.{true}
use mathlib.Core.List.{List, ◌∷◌, ◌++◌}
use mathlib.Core.Option.{Option, none, some, map}
use mathlib.Core.Path.{◌≡◌, refl, ◌∙◌}
use native.Mathlib.Omega.{arith}
use borrow.Author.Tests.{le-leb, not-false}
use lib.ListN.{length, get_or, take, drop}
use lib.Seq.{take-append_seam}
use Rattle.notes.specs.Bytes.{to_bytes}
use Rattle.notes.specs.Index.{server_ok}
use Rattle.notes.specs.Record.{record_bytes}
use Rattle.notes.specs.Reply.{first, fill}
use Rattle.notes.specs.Message.{header_size, history_most, message_size, header_of, message_of, records_ok, message_n, message_sender, brought, message_ok}
use Rattle.notes.specs.declared.index.ServerId.{ServerId}
use Rattle.notes.specs.declared.record.Record.{Record}
use Rattle.notes.proofs.Numbers.{AllBelow}
use Rattle.notes.proofs.Pieces.{Each}
use Rattle.notes.proofs.Records.{Fits, length-records, records-fit}
use Rattle.notes.proofs.Messages.{server-facts, said-n, said-sender}
use Rattle.notes.proofs.Round.{brought-back, written-right}
use Rattle.rules.specs.declared.answer.Refusal.{Refusal}
use Rattle.rules.specs.Answer.{refusal_reply, is_down}
use Rattle.rules.specs.Memory.{Memory, writes}
use Rattle.rules.specs.Sound.{sound}
use Rattle.rules.specs.Calls.{room_refusals, message_refusals, own_message, message}
use Rattle.laws.proofs.Octets.{below-cons, below-append, below-to_bytes, below-record_bytes}
use Rattle.laws.proofs.Stores.{shows-server}
use Rattle.laws.proofs.Open.{Up, opened}
use Rattle.laws.proofs.Passed.{head-known, head-right}
use Rattle.laws.proofs.Outcomes.{refusal-number}
use Rattle.farm.proofs.Held.{Sane}

-- the bytes of a message of records whose numbers fit
below-message : (n : ℕ) (j : ServerId) (rs : List Record) → n < 256 → j.0 < 256 → Each Fits rs → AllBelow 256 (message_of n j rs)
unfolding message_of header_of
below-message n j rs a b fit =
    let count = to_bytes 2 (length rs) in
    let offset = to_bytes 2 header_size in
    let total = to_bytes 2 (message_size (length rs)) in
    below-append (header_of n j (length rs)) (record_bytes rs)
    (below-cons n (j.0 ∷ count ++ offset ++ total) a
    (below-cons j.0 (count ++ offset ++ total) b
    (below-append (count ++ offset) total
    (below-append count offset (below-to_bytes 2 (length rs)) (below-to_bytes 2 header_size))
    (below-to_bytes 2 (message_size (length rs))))))
    (below-record_bytes rs fit)

module _ (n : ℕ) (j : ServerId) (m : Memory) (s : Sane n j m) (up : m.state.up ≡ true) where
  opens : Up m
  opens = opened m s.image up s.sound

  server : server_ok m.state.n m.state.own ≡ true
  server = shows-server _ _ m.image _ _ opens.shows

  fit : Each Fits (writes m)
  fit = records-fit m.state.held m.history s.bytes.history

  pub told-brings : brought (own_message m) ≡ writes m
  unfolding own_message
  told-brings = brought-back m.state.n m.state.own (writes m) fit

  pub told_below : AllBelow 256 (own_message m)
  unfolding own_message
  told_below =
      let x = server-facts m.state.n m.state.own server in
      below-message m.state.n m.state.own (writes m) (omega (arith, x.few)) (omega (arith, x.few, x.below)) fit

  pub told-right : (message_ok (own_message m) ≡ true) × (message_n (own_message m) ≡ n) × (message_sender (own_message m) ≡ j)
  unfolding own_message records_ok
  told-right =
      let f = opens.facts in
      let ok : records_ok m.state.n (writes m) ≡ true = rw (length-records, le-leb m.state.held history_most f.few) f.formed in (
        written-right m.state.n m.state.own (writes m) fit server ok,
        said-n m.state.n m.state.own (writes m) ∙ s.servers,
        said-sender m.state.n m.state.own (writes m) ∙ s.own,
      )

-- ---- what the call gives where it is not refused

done_none :
    (r : Option Refusal) (bytes out : List ℕ) → (fill (map refusal_reply r) bytes out).reply.number ≡ 0 → r ≡ none
done_none none bytes out e = refl
done_none (some k) bytes out e = absurd (refusal-number k e)

pub told-bytes :
    (m : Memory) (out : List ℕ)
    → (message m out).reply.number ≡ 0
    → (m.state.up ≡ true) × (sound m ≡ true) × (take (get_or (message m out).reply.values 0 0) (message m out).output ≡ own_message m)
unfolding message
told-bytes m out e =
    let r = done_none (first (message_refusals m out)) (own_message m) out e in (
      not-false m.state.up (head-right m (is_down m) (room_refusals m out) r),
      (head-known m (is_down m) (room_refusals m out) r).sound,
      rw r (take-append_seam (own_message m) (drop (length (own_message m)) out)),
    )
