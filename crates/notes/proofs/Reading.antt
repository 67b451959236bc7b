-- Reading a message to its end gives exactly its writes, in order.
-- Assumes nothing.
use Prim.Native.Nat.{ℕ, zero, suc, ◌+◌, ◌-◌, ◌*◌, ◌/◌, ◌<◌, ◌≤◌}
use mathlib.Core.Bool.{Bool, true, false, cond}
use mathlib.Core.List.{List, [], ◌∷◌}
use mathlib.Core.Path.{◌≡◌, refl, sym, ◌∙◌}
use native.Mathlib.Omega.{arith}
use borrow.Author.Tests.{leb-true, leb-false, lt-leb, le-leb}
use lib.ListN.{length, take, drop, length-drop}
use lib.Seq.{drop-drop}
use Rattle.std.specs.Prelude.{Some, None, OnSome, Ok, Err}
use Rattle.std.proofs.lemmas.Iterator.{YieldsList}
use Rattle.std.proofs.lemmas.Iterator.Consumers.{YieldsList-from_shown}
use Rattle.notes.specs.Reply.{done, refused}
use Rattle.notes.specs.Record.{record_size, decode, records}
use Rattle.notes.specs.Bytes.{pieces}
use Rattle.notes.specs.Message.{header_size, body, brought, message_ok, check, first_place, whole_at, begin, read_at, place_after, left_from, Reads, unread, Moves, checked_reply, refusal_reply}
use Rattle.notes.specs.declared.message.Header.{Header}
use Rattle.notes.specs.declared.message.Refusal.{Refusal}
use Rattle.notes.specs.declared.reader.Reader.{Reader}
use Rattle.notes.specs.declared.record.Record.{Record}
use Rattle.notes.proofs.Records.{length-records}
use Rattle.notes.proofs.Messages.{right-suits}
use Rattle.notes.proofs.Answers.{update-right, refused-wrong}

-- ---- at a place
pub none-there : (m : List ℕ) (at : ℕ) → length m < at + record_size → whole_at m at ≡ false
none-there m at h = lt-leb record_size (length m - at) (omega arith)

pub one-there : (m : List ℕ) (at : ℕ) → at + record_size ≤ length m → whole_at m at ≡ true
one-there m at h = le-leb record_size (length m - at) (omega arith)

module _ (m : List ℕ) (at : ℕ) where
  pub read_found : whole_at m at ≡ true → read_at m at ≡ Some (decode (take record_size (drop at m)))
  unfolding read_at
  read_found e = rw e

  pub read_none : whole_at m at ≡ false → read_at m at ≡ None
  unfolding read_at
  read_none e = rw e

  pub place_found : whole_at m at ≡ true → place_after m at ≡ at + record_size
  unfolding place_after
  place_found e = rw e

  pub place_none : whole_at m at ≡ false → place_after m at ≡ length m
  unfolding place_after
  place_none e = rw e

-- ---- where reading begins
module _ (m : List ℕ) where
  pub first-right : message_ok m ≡ true → first_place m ≡ header_size
  unfolding first_place
  first-right e = rw e

  pub begin-right : message_ok m ≡ true → begin m ≡ done (header_size ∷ [])
  unfolding begin
  begin-right e = rw (e, first-right e)

  pub first-refused : message_ok m ≡ false → first_place m ≡ length m
  unfolding first_place
  first-refused e = rw e

  pub begin-refused : message_ok m ≡ false → begin m ≡ refused 6
  unfolding begin
  begin-refused e = rw e

  -- a check's answer says which
  pub begin-passed : (h : Header) → checked_reply (Ok h) ≡ check m → done (header_size ∷ []) ≡ begin m
  begin-passed h e = sym (begin-right (update-right m h e).0)

  pub begin-checked : (r : Refusal) → checked_reply (Err r) ≡ check m → refusal_reply r ≡ begin m
  unfolding check
  begin-checked r e = let wrong = refused-wrong m r e in e ∙ rw wrong (sym (begin-refused wrong))

-- ---- to the end
reads-records : (k : ℕ) (m : List ℕ) (at : ℕ) → length m ≡ at + record_size * k → Reads m at (records k (drop at m))
unfolding Reads records pieces
reads-records zero m at l = read_none m at (none-there m at (omega arith))
reads-records (suc k) m at l =
    let e = one-there m at (omega arith) in
    (read_found m at e, rw (place_found m at e, drop-drop) (reads-records k m (at + record_size) (omega arith)))

-- of a right message its writes are read, and of any other nothing
pub reads-message : (m : List ℕ) → Reads m (first_place m) (cond (message_ok m) (brought m) [])
unfolding Reads
reads-message m = go (message_ok m) refl
  where
    go : (t : Bool) → message_ok m ≡ t → Reads m (first_place m) (cond t (brought m) [])
    go true e =
        let s = right-suits m e in
        let l : length m ≡ header_size + record_size * (length (body m) / record_size) = rw length-drop (omega arith) in
        rw (first-right m e) (reads-records (length (body m) / record_size) m header_size l)
    go false e = rw (first-refused m e) (read_none m (length m) (none-there m (length m) (omega arith)))

-- reading from a place has one outcome, and as many are left as it will find
pub reads-one : (m : List ℕ) (at : ℕ) (ws vs : List Record) → Reads m at ws → Reads m at vs → ws ≡ vs
unfolding Reads
reads-one m at [] [] p q = refl
reads-one m at [] (v ∷ vs) p (e, q) = cc
reads-one m at (w ∷ ws) [] (e, p) q = cc
reads-one m at (w ∷ ws) (v ∷ vs) (e, p) (d, q) =
    let same : w ≡ v = cc in
    let rest = reads-one m (place_after m at) ws vs p q in
    cc

pub reads-left : (m : List ℕ) (at : ℕ) (ws : List Record) → Reads m at ws → left_from m at ≡ length ws
unfolding Reads
reads-left m at [] p = go (whole_at m at) refl
  where
    go : (t : Bool) → whole_at m at ≡ t → left_from m at ≡ 0
    go true q = let found = read_found m at q in cc
    go false q = let l = leb-false record_size (length m - at) q in omega arith
reads-left m at (w ∷ ws) (e, p) = go (whole_at m at) refl (reads-left m (place_after m at) ws p)
  where
    go : (t : Bool) → whole_at m at ≡ t → left_from m (place_after m at) ≡ length ws → left_from m at ≡ suc (length ws)
    go true q r =
        let l = leb-true record_size (length m - at) q in
        let next = rw (place_found m at q) at r in
        omega arith
    go false q r = let none = read_none m at q in cc

-- ---- a reader as an iterator
one-less : (m : List ℕ) (at : ℕ) → whole_at m at ≡ true → left_from m at ≡ suc (left_from m (at + record_size))
one-less m at q = let l = leb-true record_size (length m - at) q in omega arith

-- a record that is read is one fewer to come
pub reads-down : (m : List ℕ) (at : ℕ) → OnSome (read_at m at) (left_from m (place_after m at) < left_from m at)
reads-down m at = go (whole_at m at) refl
  where
    go : (t : Bool) → whole_at m at ≡ t → OnSome (read_at m at) (left_from m (place_after m at) < left_from m at)
    go true q = rw (read_found m at q, place_found m at q) (omega (arith, one-less m at q))
    go false q = rw (read_none m at q) tt

unread-none : (s t : Reader) → Moves s None t → length (unread s) ≡ 0
unread-none s t h = go (whole_at s.message.now s.at) refl
  where
    go : (b : Bool) → whole_at s.message.now s.at ≡ b → length (unread s) ≡ 0
    go true q = let found = read_found s.message.now s.at q in let none = h.read in cc
    go false q = let l = leb-false record_size (length s.message.now - s.at) q in rw length-records (omega arith)

unread-some : (s : Reader) (w : Record) (t : Reader) → Moves s (Some w) t → unread s ≡ w ∷ unread t
unfolding records pieces
unread-some s w t h = go (whole_at s.message.now s.at) refl
  where
    go : (b : Bool) → whole_at s.message.now s.at ≡ b → unread s ≡ w ∷ unread t
    go true q =
        let m = s.message.now in
        let found = read_found m s.at q in
        let read = h.read in
        let first : w ≡ decode (take record_size (drop s.at m)) = cc in
        let place : t.at ≡ s.at + record_size = h.place ∙ place_found m s.at q in
        let rest : unread t ≡ records (left_from m (s.at + record_size)) (drop (s.at + record_size) m) = rw (h.message, place) refl in
        rw (rest, one-less m s.at q, first, drop-drop)
    go false q = let none = read_none s.message.now s.at q in let found = h.read in cc

-- a `for` over a reader goes over the records that are left
pub reader-yields : (r : Reader) → YieldsList Moves (λ w. w) r (unread r)
reader-yields r = YieldsList-from_shown Moves (λ w. w) unread unread-none unread-some r

-- behind the header all that the message brings is left
pub left-all : (m : List ℕ) → left_from m header_size ≡ length (brought m)
left-all m = rw (length-records, length-drop)

pub unread-all : (r : Reader) → r.at ≡ header_size → unread r ≡ brought r.message.now
unread-all r e = rw (e, length-drop)

-- so a `for` over a new reader of a right message goes over exactly its writes
pub reader-brings :
    (r : Reader) → message_ok r.message.now ≡ true → r.at ≡ first_place r.message.now → YieldsList Moves (λ w. w) r (brought r.message.now)
reader-brings r ok e = rw (← unread-all r (e ∙ first-right r.message.now ok)) (reader-yields r)
