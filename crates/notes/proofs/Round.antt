-- An update written is read back as the same writes, and an accepted update written again gives the same bytes.
-- Assumes nothing.
use Prim.Native.Nat.{ℕ, ◌/◌, ◌%◌, ◌≤◌}
use mathlib.Core.Bool.{Bool, true, false, ◌&&◌, not}
use mathlib.Core.List.{List, [], ◌∷◌, ◌++◌}
use mathlib.Core.Path.{◌≡◌, refl, ap, sym}
use native.Mathlib.Omega.{arith}
use borrow.Author.Tests.{eq-eqb, le-ltb}
use lib.Dec.{ltb}
use lib.ListN.{length, drop, length-drop}
use Rattle.notes.specs.Index.{server_ok}
use Rattle.notes.specs.Reply.{done, given, first}
use Rattle.notes.specs.Record.{record_size, record_bytes}
use Rattle.notes.specs.Message.{message_size, message_of, records_in, records_ok, message_n, message_sender, body, brought, message_ok, check, whole, fill_unless, write, write_refusal}
use Rattle.notes.specs.declared.message.Refusal.TheVariants.{OutOfRange, Malformed, TooShort}
use Rattle.notes.specs.declared.index.ServerId.{ServerId}
use Rattle.notes.specs.declared.record.Record.{Record}
use Rattle.notes.proofs.Lists.{both, same_refl}
use Rattle.notes.proofs.Numbers.{AllBelow}
use Rattle.notes.proofs.Pieces.{Each, each-also}
use Rattle.notes.proofs.Records.{Fits, records-fit, length-records, records-of-bytes, length-record_bytes}
use Rattle.notes.proofs.Messages.{said-n, said-sender, said-body, right, right-suits}

-- ---- for every N, sender and list of writes
module _ (n : ℕ) (s : ServerId) (rs : List Record) (fit : Each Fits rs) where
  pub brought-back : brought (message_of n s rs) ≡ rs
  brought-back =
      let l = length-record_bytes rs (each-also (λ r f. f.eight) rs fit) in
      let k : length (record_bytes rs) / record_size ≡ length rs = omega arith in
      rw (said-body, k) (records-of-bytes rs fit)

  pub written-right : server_ok n s ≡ true → records_ok n rs ≡ true → message_ok (message_of n s rs) ≡ true
  unfolding message_ok
  written-right hs hr = rw (said-n, said-sender, brought-back, hs, hr) (same_refl (message_of n s rs))

  -- read back, it says N, sender and count, and brings the same writes
  pub written_read : server_ok n s ≡ true → records_ok n rs ≡ true → check (message_of n s rs) ≡ done (n ∷ s.0 ∷ length rs ∷ [])
  unfolding check
  written_read hs hr =
      rw (written-right hs hr, said-n n s rs, ap (λ (o : ServerId). o.0) (said-sender n s rs), brought-back)

-- ---- for every N, sender and record bytes that the app's writer takes
taken :
    (a b c : Bool) (m out : List ℕ)
    → (fill_unless (first (given (not a) OutOfRange ∷ given (not b) Malformed ∷ given c TooShort ∷ [])) m out).reply.number ≡ 0
    → (a ≡ true) × (b ≡ true) × (c ≡ false)
taken true true false m out e = (refl, refl, refl)
taken true true true m out e = (refl, refl, cc)
taken true false c m out e = (refl, cc, cc)
taken false b c m out e = (cc, cc, cc)

module _ (n : ℕ) (s : ServerId) (b out : List ℕ) (below : AllBelow 256 b) where
  -- the message stands at the front of the output; read back, it says N, sender and count, and brings the same writes
  pub record ReadBack : Type 0 where
    pub output : (write n s b out).output ≡ message_of n s (records_in b) ++ drop (length (message_of n s (records_in b))) out
    pub says : check (message_of n s (records_in b)) ≡ done (n ∷ s.0 ∷ length (records_in b) ∷ [])
    pub brings : brought (message_of n s (records_in b)) ≡ records_in b

  pub writer-read : (write n s b out).reply.number ≡ 0 → ReadBack
  unfolding write write_refusal
  writer-read e =
      let short = ltb (length out) (message_size (length (records_in b))) in
      let t = taken (server_ok n s) (whole b && records_ok n (records_in b)) short _ out e in
      let r = (both (whole b) _ t.1).1 in
      let fit = records-fit (length b / record_size) b below in
      record {
        output = rw (t.0, t.1, t.2);
        says = written_read n s (records_in b) fit t.0 r;
        brings = brought-back n s (records_in b) fit;
      }

-- ---- for every accepted message
module _ (m : List ℕ) (ok : message_ok m ≡ true) where
  -- its N, sender and writes give its bytes
  pub accepted-again : message_of (message_n m) (message_sender m) (brought m) ≡ m
  accepted-again = sym (right m ok).bytes

  -- and so does the writer, from its record bytes
  pub accepted-rewritten :
      (out : List ℕ)
      → length m ≤ length out
      → write (message_n m) (message_sender m) (body m) out ≡ record { reply = done (length m ∷ []); output = m ++ drop (length m) out }
  unfolding write write_refusal
  accepted-rewritten out room =
      let r = right m ok in
      let s = right-suits m ok in
      let l : length (body m) % record_size ≡ 0 = rw length-drop (omega arith) in
      let k : message_size (length (brought m)) ≡ length m = rw (length-records, length-drop) (omega arith) in
      rw (r.server, eq-eqb (length (body m) % record_size) 0 l, r.records, k, le-ltb (length out) (length m) room, accepted-again)
