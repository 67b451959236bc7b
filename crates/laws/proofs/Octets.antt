-- Bytes stay bytes: in records, in stores and in images.
-- Assumes nothing.
use Prim.Native.Nat.{ℕ, zero, suc, ◌-◌, ◌*◌, ◌/◌, ◌<◌}
use mathlib.Core.List.{List, [], ◌∷◌, ◌++◌, flat_map}
use native.Mathlib.Omega.{arith}
use lib.ListN.{take, drop, set, replicate}
use lib.Seq.{sets}
use Rattle.notes.specs.Bytes.{to_bytes}
use Rattle.notes.specs.Vector.{count_size, vector_bytes}
use Rattle.notes.specs.Record.{record_size, encode, record_bytes}
use Rattle.notes.specs.declared.index.ServerId.{ServerId}
use Rattle.notes.specs.declared.record.Record.{Record}
use Rattle.notes.proofs.Numbers.{AllBelow, below-take, below-drop}
use Rattle.notes.proofs.Pieces.{Each, each_of, each-also}
use Rattle.notes.proofs.Vectors.{zeros-at}
use Rattle.notes.proofs.Records.{Fits}
use Rattle.rules.specs.Image.{header_size, log_at, image_size, header_of, checkpoint_place, log_place, fresh_image, Store, byte, count, store, stored, byte_stores, write_plan, checkpoint_plan}

-- ---- numbers below a bound stay below it
module _ {n : ℕ} where
  pub below-cons : (x : ℕ) (l : List ℕ) → x < n → AllBelow n l → AllBelow n (x ∷ l)
  below-cons x l h k zero = h
  below-cons x l h k (suc i) = k i

  pub below-append : (a b : List ℕ) → AllBelow n a → AllBelow n b → AllBelow n (a ++ b)
  below-append [] b h k i = k i
  below-append (x ∷ a) b h k zero = h 0
  below-append (x ∷ a) b h k (suc i) = below-append a b (λ j. h (suc j)) k i

  below_set : (l : List ℕ) (p x : ℕ) → AllBelow n l → x < n → AllBelow n (set l p x)
  below_set [] p x h k i = h i
  below_set (y ∷ l) zero x h k zero = k
  below_set (y ∷ l) zero x h k (suc i) = h (suc i)
  below_set (y ∷ l) (suc p) x h k zero = h 0
  below_set (y ∷ l) (suc p) x h k (suc i) = below_set l p x (λ j. h (suc j)) k i

  pub below-sets : (vs l : List ℕ) (p : ℕ) → AllBelow n l → AllBelow n vs → AllBelow n (sets l p vs)
  below-sets [] l p h k = h
  below-sets (v ∷ vs) l p h k = below-sets vs (set l p v) (suc p) (below_set l p v h (k 0)) (λ i. k (suc i))

  below-flat_map : {A : Type 0} (f : A → List ℕ) (l : List A) → 0 < n → Each (λ a. AllBelow n (f a)) l → AllBelow n (flat_map f l)
  unfolding flat_map
  below-flat_map f [] h k = λ i. h
  below-flat_map f (a ∷ l) h k = below-append (f a) (flat_map f l) k.0 (below-flat_map f l h k.1)

-- zeros, and the bytes of any numbers
pub below-zeros : (k : ℕ) → AllBelow 256 (replicate k 0)
below-zeros k i = rw (zeros-at k i) (omega arith)

pub below-to_bytes : (w x : ℕ) → AllBelow 256 (to_bytes w x)
unfolding to_bytes
below-to_bytes zero x i = omega arith
below-to_bytes (suc w) x zero = omega arith
below-to_bytes (suc w) x (suc i) = below-to_bytes w (x / 256) i

below-counts : (l : List ℕ) → AllBelow 256 (flat_map (to_bytes count_size) l)
below-counts l = below-flat_map (to_bytes count_size) l (omega arith) (each_of (below-to_bytes count_size) l)

-- a record's bytes are bytes if its origin and its phone are
pub below-encode : (r : Record) → r.origin.0 < 256 → r.phone.0 < 256 → AllBelow 256 (encode r)
unfolding encode vector_bytes
below-encode r o p =
    let a = to_bytes 2 r.cell in
    let b = to_bytes 4 r.value in
    let c = to_bytes 4 r.time in
    below-cons r.origin.0 (r.phone.0 ∷ a ++ b ++ c ++ vector_bytes r.stamp) o
    (below-cons r.phone.0 (a ++ b ++ c ++ vector_bytes r.stamp) p
    (below-append (a ++ b ++ c) (vector_bytes r.stamp)
    (below-append (a ++ b) c (below-append a b (below-to_bytes 2 r.cell) (below-to_bytes 4 r.value))
    (below-to_bytes 4 r.time))
    (below-counts r.stamp.counts)))

-- and so are those of records whose numbers fit
pub below-record_bytes : (rs : List Record) → Each Fits rs → AllBelow 256 (record_bytes rs)
unfolding record_bytes
below-record_bytes rs h = below-flat_map encode rs (omega arith) (each-also (λ r f. below-encode r f.origin f.phone) rs h)

-- ---- stores of bytes

-- what each of a list has, each of its first has
pub each_take : {A : Type 0} (P : A → Type 0) (k : ℕ) (l : List A) → Each P l → Each P (take k l)
each_take P zero l h = tt
each_take P (suc k) [] h = tt
each_take P (suc k) (x ∷ l) h = (h.0, each_take P k l h.1)

-- a store of a byte, as a count's always is
abbrev pub IsByte : Store → Type 0
IsByte (byte p b) = b < 256
IsByte (count f k) = Unit

-- such stores leave bytes
pub below-stored : (ss : List Store) (i : List ℕ) → AllBelow 256 i → Each IsByte ss → AllBelow 256 (stored i ss)
unfolding stored
below-stored [] i h e = h
below-stored (byte p b ∷ ss) i h e =
    below-stored ss (set i p b) (below-sets (b ∷ []) i p h (below-cons b [] e.0 (λ j. omega arith))) e.1
below-stored (count f k ∷ ss) i h e =
    below-stored ss (store i (count f k)) (below-sets (to_bytes f.size k) i f.at h (below-to_bytes f.size k)) e.1

-- bytes one after the other, and what follows
byte-stores : (p : ℕ) (bs : List ℕ) (ss : List Store) → AllBelow 256 bs → Each IsByte ss → Each IsByte (byte_stores p bs ++ ss)
unfolding byte_stores
byte-stores p [] ss h e = e
byte-stores p (b ∷ bs) ss h e = (h 0, byte-stores (suc p) bs ss (λ j. h (suc j)) e)

-- the plans
pub write_bytes : (r : Record) (j : ℕ) → AllBelow 256 (encode r) → Each IsByte (write_plan r j)
unfolding write_plan
write_bytes r j e = byte-stores (log_place j) (encode r) _ e (tt, tt)

pub checkpoint-bytes : (h : List ℕ) (held kept : ℕ) → AllBelow 256 h → Each IsByte (checkpoint_plan h held kept)
unfolding checkpoint_plan
checkpoint-bytes h held kept b =
    let past = drop (record_size * kept) h in
    let size = record_size * (held - kept) in
    byte-stores (checkpoint_place kept) (take size past) _ (below-take size past (below-drop (record_size * kept) h b)) (tt, (tt, tt))

-- ---- a fresh image

-- the header is two bytes, then numbers of two bytes each
below-header : (n : ℕ) (own : ServerId) (kept logged : ℕ) → n < 256 → own.0 < 256 → AllBelow 256 (header_of n own kept logged)
unfolding header_of to_bytes flat_map
below-header n own kept logged a b =
    let numbers : List ℕ = kept ∷ header_size ∷ logged ∷ log_at ∷ image_size ∷ 0 ∷ 0 ∷ [] in
    let counts : List ℕ = flat_map (to_bytes count_size) numbers in
    below-cons n (own.0 ∷ counts) a (below-cons own.0 counts b (below-counts numbers))

-- and what stands past the image's end stays
pub below-fresh :
    (n : ℕ) (own : ServerId) (z : List ℕ)
    → n < 256 → own.0 < 256 → AllBelow 256 z → AllBelow 256 (fresh_image n own ++ z)
unfolding fresh_image
below-fresh n own z a b h =
    below-append (fresh_image n own) z
    (below-append (header_of n own 0 0) _ (below-header n own 0 0 a b) (below-zeros (image_size - header_size)))
    h
