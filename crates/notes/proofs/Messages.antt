-- Laws of messages: what a right one is, in the form that code tests, and both round trips.
-- Assumes nothing.
use Prim.Native.Nat.{ℕ, ◌+◌, ◌*◌, ◌/◌, ◌%◌, ◌<◌, ◌≤◌}
use mathlib.Core.Bool.{Bool, true, false, ◌&&◌, and-true, and-false}
use mathlib.Core.List.{List, [], ◌∷◌, ◌++◌}
use mathlib.Core.Path.{◌≡◌, refl, ap, sym, ◌∙◌, subst}
use native.Mathlib.Nat.{zero-add}
use native.Mathlib.Omega.{arith}
use borrow.Author.Tests.{ltb-true, leb-true, eqb-true, lt-ltb, le-ltb, le-leb, eq-eqb}
use lib.Dec.{leb}
use lib.Seq.{sets}
use lib.ListN.{length, get_or, drop, length-drop, length-append}
use Rattle.notes.specs.Lists.{every}
use Rattle.notes.specs.Index.{servers, server_ok}
use Rattle.notes.specs.Bytes.{field, to_bytes}
use Rattle.notes.specs.Reply.{done, refused}
use Rattle.notes.specs.Record.{record_size, well_formed, record_bytes}
use Rattle.notes.specs.Message.{header_size, count_field, offset_field, total_field, history_most, message_size, header_of, message_of, records_in, records_ok, message_n, message_sender, body, brought, message_ok, check, whole, write_refusal, write}
use Rattle.notes.specs.Forms.{header_ok}
use Rattle.notes.specs.declared.index.ServerId.{ServerId}
use Rattle.notes.specs.declared.record.Record.{Record}
use Rattle.notes.proofs.Lists.{both, same_refl, same_true, parts_join, sets-append, sets-front}
use Rattle.notes.proofs.Numbers.{AllBelow, below-drop, one_byte, from_one, from-to, part-back, byte-join}
use Rattle.notes.proofs.Pieces.{Each}
use Rattle.notes.proofs.Records.{length-records, bytes-of-records, length-record_bytes, eight-counts}

-- ---- N and a server
pub record Server (n s : ℕ) : Type 0 where
  pub some : 1 ≤ n
  pub few : n ≤ servers
  pub below : s < n

pub server-facts : (n : ℕ) (s : ServerId) → server_ok n s ≡ true → Server n s.0
unfolding server_ok
server-facts n s h =
    let x = both _ _ h in
    let y = both _ _ x.0 in
    record { some = leb-true _ _ y.0; few = leb-true _ _ y.1; below = ltb-true _ _ x.1 }

-- ---- a header whose numbers suit each other
pub record Suits (m : List ℕ) : Type 0 where
  pub server : server_ok (message_n m) (message_sender m) ≡ true
  pub few : field count_field m ≤ history_most
  pub offset : field offset_field m ≡ header_size
  pub given : field total_field m ≡ length m
  pub total : length m ≡ message_size (field count_field m)

pub suits : (m : List ℕ) → header_ok m ≡ true → Suits m
unfolding header_ok
suits m h =
    let a = both _ _ h in
    let b = both _ _ a.0 in
    let c = both _ _ b.0 in
    let d = both _ _ c.0 in
    record {
      server = d.0;
      few = leb-true _ _ d.1;
      offset = eqb-true _ _ c.1;
      given = eqb-true _ _ b.1;
      total = eqb-true _ _ a.1;
    }

pub suits-ok : (m : List ℕ) → Suits m → header_ok m ≡ true
unfolding header_ok
suits-ok m s =
    rw (
      s.server,
      le-leb (field count_field m) history_most s.few,
      eq-eqb (field offset_field m) header_size s.offset,
      eq-eqb (field total_field m) (length m) s.given,
    )
    (eq-eqb (length m) (message_size (field count_field m)) s.total)

-- the eight bytes that such a header is
header-bytes : (m : List ℕ) → AllBelow 256 m → Suits m → header_of (message_n m) (message_sender m) (field count_field m) ++ body m ≡ m
unfolding header_of
header-bytes m h s =
    let l : header_size ≤ length m = omega arith in
    rw (
      ← s.total,
      ← s.given,
      ← s.offset,
      part-back 2 2 m (omega arith) h,
      part-back 2 4 m (omega arith) h,
      part-back 2 6 m (omega arith) h,
      parts_join 2 2 2 2 m,
      byte-join 1 m (omega arith),
      byte-join 0 m (omega arith),
    )

-- ---- a right message, in the form that code tests
module _ (m : List ℕ) (h : AllBelow 256 m) where
  -- how many records it brings
  pub brings : Suits m → length (brought m) ≡ field count_field m
  brings s = rw (length-records, length-drop) (omega arith)

  suits-same : Suits m → message_of (message_n m) (message_sender m) (brought m) ≡ m
  unfolding message_of
  suits-same s =
      let k : length (body m) / record_size ≡ field count_field m = rw length-drop (omega arith) in
      rw (
        brings s,
        bytes-of-records (length (body m) / record_size) (body m) (rw k (rw length-drop (omega arith))) (below-drop header_size m h),
      )
      (header-bytes m h s)

-- ---- what the message of some records says
module _ (n : ℕ) (s : ServerId) (rs : List Record) where
  pub said-n : message_n (message_of n s rs) ≡ n
  unfolding message_of header_of
  said-n = one_byte n

  pub said-sender : message_sender (message_of n s rs) ≡ s
  unfolding message_of header_of
  said-sender = λ i. record { 0 = one_byte s.0 i }

  pub said-body : body (message_of n s rs) ≡ record_bytes rs
  unfolding message_of header_of to_bytes
  said-body = refl

  said-length : Each (λ r. length r.stamp.counts ≡ servers) rs → length (message_of n s rs) ≡ message_size (length rs)
  unfolding message_of header_of to_bytes
  said-length e = omega (arith, length-record_bytes rs e)

  said-suits :
      Each (λ r. length r.stamp.counts ≡ servers) rs
      → length rs ≤ history_most
      → server_ok n s ≡ true
      → Suits (message_of n s rs)
  unfolding message_of header_of to_bytes
  said-suits e few ok =
      let l = said-length e in
      let count : field count_field (message_of n s rs) ≡ length rs = from-to 2 (length rs) (omega arith) in
      let total : field total_field (message_of n s rs) ≡ message_size (length rs) = from-to 2 (message_size (length rs)) (omega arith) in
      record {
        server = rw (said-n, said-sender) ok;
        few = omega arith;
        offset = from-to 2 header_size (omega arith);
        given = total ∙ sym l;
        total = l ∙ ap message_size (sym count);
      }

-- ---- what a right message is
pub record Right (m : List ℕ) : Type 0 where
  pub server : server_ok (message_n m) (message_sender m) ≡ true
  pub records : records_ok (message_n m) (brought m) ≡ true
  pub bytes : m ≡ message_of (message_n m) (message_sender m) (brought m)

pub right : (m : List ℕ) → message_ok m ≡ true → Right m
unfolding message_ok
right m e =
    let x = both (server_ok (message_n m) (message_sender m) && records_ok (message_n m) (brought m)) _ e in
    let y = both (server_ok (message_n m) (message_sender m)) _ x.0 in
    record { server = y.0; records = y.1; bytes = same_true _ _ x.1 }

pub right-few : (m : List ℕ) → message_ok m ≡ true → length (brought m) ≤ history_most
unfolding records_ok
right-few m e =
    leb-true (length (brought m)) history_most (both (leb (length (brought m)) history_most) _ (right m e).records).0

pub right-n : (m : List ℕ) → message_ok m ≡ true → message_n m ≤ servers
right-n m e = (server-facts (message_n m) (message_sender m) (right m e).server).few

pub right-suits : (m : List ℕ) → message_ok m ≡ true → Suits m
right-suits m e =
    let r = right m e in
    let k = length (body m) / record_size in
    let s = said-suits (message_n m) (message_sender m) (brought m) (eight-counts k (body m)) (right-few m e) r.server in
    subst Suits (sym r.bytes) s

-- ---- a message is right exactly if its header suits it and each of its records is well formed
module _ (m : List ℕ) (h : AllBelow 256 m) where
  suits-right : Suits m → message_ok m ≡ every (well_formed (message_n m)) (brought m)
  unfolding message_ok records_ok
  suits-right s =
      rw (
        s.server,
        le-leb (length (brought m)) history_most (rw (brings m h s) s.few),
        suits-same m h s,
        same_refl m,
        and-true,
      )

  pub message-ok : message_ok m ≡ (header_ok m && every (well_formed (message_n m)) (brought m))
  message-ok = go (header_ok m) refl
    where
      wrong : header_ok m ≡ false → (t : Bool) → message_ok m ≡ t → message_ok m ≡ false
      wrong e true q = let r = suits-ok m (right-suits m q) in cc
      wrong e false q = q

      go : (t : Bool) → header_ok m ≡ t → message_ok m ≡ (header_ok m && every (well_formed (message_n m)) (brought m))
      go true e = rw e (suits-right (suits m e))
      go false e = rw e (wrong e (message_ok m) refl)

-- ---- what a message says, byte by byte
pub n-at : (m : List ℕ) → message_n m ≡ get_or m 0 0
n-at m = from_one 0 m

pub sender-at : (m : List ℕ) → message_sender m ≡ record { 0 = get_or m 1 0 }
sender-at m = λ i. record { 0 = from_one 1 m i }

pub server-at : (m : List ℕ) → server_ok (message_n m) (message_sender m) ≡ server_ok (get_or m 0 0) (record { 0 = get_or m 1 0 })
server-at m = rw (n-at m, sender-at m)

-- ---- what a check answers
module _ (m : List ℕ) (h : AllBelow 256 m) where
  pub check-no-header : header_ok m ≡ false → check m ≡ refused 6
  unfolding check
  check-no-header e = rw (message-ok m h, e)

  pub check-no-record : every (well_formed (get_or m 0 0)) (brought m) ≡ false → check m ≡ refused 6
  unfolding check
  check-no-record e = rw (message-ok m h, n-at m, e, and-false)

  pub check-passed :
      header_ok m ≡ true
      → every (well_formed (get_or m 0 0)) (brought m) ≡ true
      → check m ≡ done (get_or m 0 0 ∷ get_or m 1 0 ∷ length (body m) / record_size ∷ [])
  unfolding check
  check-passed e w =
      rw (message-ok m h, e, n-at m, w, ap (λ (s : ServerId). s.0) (sender-at m), length-records)

-- ---- a message stored piece by piece
pub header-stored :
    (n : ℕ) (s : ServerId) (count : ℕ) (l : List ℕ)
    → n < 256
    → s.0 < 256
    → sets (sets (sets (sets (sets l 0 (to_bytes 1 n)) 1 (to_bytes 1 s.0)) 2 (to_bytes 2 count)) 4 (to_bytes 2 header_size)) 6 (to_bytes 2 (message_size count)) ≡ sets l 0 (header_of n s count)
unfolding header_of to_bytes
header-stored n s count l hn hs =
    let x : n % 256 ≡ n = omega arith in
    let y : s.0 % 256 ≡ s.0 = omega arith in
    rw (x, y) refl

length-header : (n : ℕ) (s : ServerId) (count : ℕ) → length (header_of n s count) ≡ header_size
unfolding header_of to_bytes
length-header n s count = refl

module _ (n : ℕ) (s : ServerId) (b out : List ℕ) (h : AllBelow 256 b) (w : length b ≡ record_size * (length b / record_size)) where
  pub message-stored :
      header_size + length b ≤ length out
      → sets (sets out 0 (header_of n s (length b / record_size))) header_size b ≡ message_of n s (records_in b) ++ drop (header_size + length b) out
  unfolding message_of
  message-stored room =
      let k = length b / record_size in
      let l = length-header n s k in
      let e = rw (zero-add, l) at (sets-append out (header_of n s k) b 0) in
      rw (length-records k b, bytes-of-records k b w h)
      (sym e ∙ sets-front (header_of n s k ++ b) out (header_size + length b) (rw (length-append, l)) room)

-- ---- bytes that a message takes: whole records, and not too many
pub record Whole (b : List ℕ) : Type 0 where
  pub whole : length b ≡ record_size * (length b / record_size)
  pub few : length b / record_size ≤ history_most

pub whole-facts : (n : ℕ) (b : List ℕ) → (whole b && records_ok n (records_in b)) ≡ true → Whole b
unfolding records_ok
whole-facts n b h =
    let x = both (whole b) _ h in
    let w = eqb-true (length b % record_size) 0 x.0 in
    let few = leb-true (length (records_in b)) history_most (both (leb (length (records_in b)) history_most) _ x.1).0 in
    record { whole = omega arith; few = rw length-records at few }

-- ---- what a writer answers
module _ (n : ℕ) (s : ServerId) (b out : List ℕ) where
  pub write-1 : server_ok n s ≡ false → write n s b out ≡ record { reply = refused 1; output = out }
  unfolding write write_refusal
  write-1 e = rw e

  module _ (ok : server_ok n s ≡ true) where
    pub write-6 : (whole b && records_ok n (records_in b)) ≡ false → write n s b out ≡ record { reply = refused 6; output = out }
    unfolding write write_refusal
    write-6 e = rw (ok, e)

    module _ (right : (whole b && records_ok n (records_in b)) ≡ true) where
      fits_in : header_size + length b ≡ message_size (length (records_in b))
      fits_in = rw length-records (omega (arith, (whole-facts n b right).whole))

      pub write-9 : length out < header_size + length b → write n s b out ≡ record { reply = refused 9; output = out }
      unfolding write write_refusal
      write-9 h = rw (ok, right, ← fits_in, lt-ltb (length out) (header_size + length b) h)

      pub write_done :
          header_size + length b ≤ length out
          → write n s b out ≡ record { reply = done ((header_size + length b) ∷ []); output = message_of n s (records_in b) ++ drop (header_size + length b) out }
      unfolding write write_refusal
      write_done h =
          let l : length (message_of n s (records_in b)) ≡ header_size + length b =
          said-length n s (records_in b) (eight-counts (length b / record_size) b) ∙ sym fits_in in
          rw (ok, right, ← fits_in, le-ltb (length out) (header_size + length b) h, l)
