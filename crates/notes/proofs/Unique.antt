-- Any two outcomes that meet a public call's statement are equal: a theorem for each call, about the very clauses of its contract.
-- Assumes nothing.
use mathlib.Core.Path.{◌≡◌, sym, ap, ◌∙◌}
use mathlib.Core.List.{List}
use Prim.Native.Nat.{ℕ, ◌≤◌}
use mathlib.Core.HLevel.{is_prop→PathP}
use Rattle.std.proofs.Props.{props}
use Rattle.notes.specs.declared.record.raw.Form.{Form}
use Rattle.notes.specs.Index.{servers}
use mir.Syntax.{w64}
use mir.Val.{Fits}
use Rattle.notes.specs.Forms.{limits_of}
use Rattle.notes.specs.Reply.{Filled}
use Rattle.std.specs.Prelude.{Option, Result}
use Rattle.notes.specs.Message.{filled}
use Rattle.notes.specs.declared.message.Refusal.{Refusal}
use Rattle.notes.specs.declared.record.Record.{Record}
use Rattle.notes.specs.declared.reader.Reader.{Reader}
use Rattle.notes.proofs.Answers.{checked-known, written_known, reader-known}
use Rattle.notes.proofs.index.ServerId.is_one_of.Reads as is-one-of
use Rattle.notes.proofs.vector.Vector.zero.Reads as zero
use Rattle.notes.proofs.vector.Vector.at.Reads as at
use Rattle.notes.proofs.vector.Vector.raised.Reads as raised
use Rattle.notes.proofs.vector.Vector.maximum.Reads as maximum
use Rattle.notes.proofs.vector.Vector.sum.Reads as sum
use Rattle.notes.proofs.vector.Vector.is_behind.Reads as is-behind
use Rattle.notes.proofs.vector.Vector.zero_from.Reads as zero-from
use Rattle.notes.proofs.record.Record.from_bytes.Reads as from-bytes
use Rattle.notes.proofs.record.Record.to_bytes.Reads as to-bytes
use Rattle.notes.proofs.record.Record.number.Reads as number
use Rattle.notes.proofs.record.Record.well_formed.Reads as well-formed
use Rattle.notes.proofs.record.Record.beats.Reads as beats
use Rattle.notes.proofs.message.check.Reads as check
use Rattle.notes.proofs.message.write.Reads as write
use Rattle.notes.proofs.reader.first_place.Reads as first-place
use Rattle.notes.proofs.reader.read_at.Reads as read-at
use Rattle.notes.proofs.reader.place_after.Reads as place-after
use Rattle.notes.proofs.reader.left_from.Reads as left-from
use Rattle.notes.proofs.reader.Reader.new.Reads as reader
use Rattle.notes.proofs.reader.Reader.peek.Reads as peek
use Rattle.notes.proofs.reader.Reader.advance.Reads as advance
use Rattle.notes.proofs.reader.Reader.left.Reads as left
use Rattle.notes.proofs.reader.ReaderIterator.next.Reads as next
use Rattle.notes.proofs.session.ChoiceTryFromU8.try_from.Reads as choose
use Rattle.notes.proofs.session.U8FromChoice.from.Reads as choice-number
use Rattle.notes.proofs.session.Session.new.Reads as new
use Rattle.notes.proofs.session.Session.read_carries.Reads as read-carries
use Rattle.notes.proofs.session.Session.write_carries.Reads as write-carries
use Rattle.notes.proofs.session.Session.after_read.Reads as after-read
use Rattle.notes.proofs.session.Session.after_write.Reads as after-write
use Rattle.notes.proofs.session.Session.raise.Reads as raise
use Rattle.notes.proofs.session.Session.raise_written.Reads as raise-written
use Rattle.notes.proofs.number.raw.U8Number.at.Reads as raw-u8-at
use Rattle.notes.proofs.number.raw.U16Number.at.Reads as raw-u16-at
use Rattle.notes.proofs.number.raw.U32Number.at.Reads as raw-u32-at
use Rattle.notes.proofs.number.raw.U64Number.at.Reads as raw-u64-at
use Rattle.notes.proofs.number.raw.counts_at.Reads as raw-counts-at
use Rattle.notes.proofs.number.raw.fill_counts.Reads as raw-fill-counts
use Rattle.notes.proofs.number.raw.U8Number.put.Reads as raw-put-u8
use Rattle.notes.proofs.number.raw.put_bytes.Reads as raw-put-bytes
use Rattle.notes.proofs.number.raw.U16Number.put.Reads as raw-put-u16
use Rattle.notes.proofs.number.raw.U32Number.put.Reads as raw-put-u32
use Rattle.notes.proofs.number.raw.U64Number.put.Reads as raw-put-u64
use Rattle.notes.proofs.number.raw.put_counts.Reads as raw-put-counts
use Rattle.notes.proofs.record.raw.first_records.Reads as raw-first-records
use Rattle.notes.proofs.record.raw.decoded.Reads as raw-decoded
use Rattle.notes.proofs.record.raw.limits.Reads as raw-limits
use Rattle.notes.proofs.record.raw.number_of.Reads as raw-number-of
use Rattle.notes.proofs.record.raw.Form.of.Reads as raw-of
use Rattle.notes.proofs.record.raw.Form.is_met.Reads as raw-is-met
use Rattle.notes.proofs.record.raw.all_well_formed.Reads as raw-all-well-formed
use Rattle.notes.proofs.vector.raw.vector_at.Reads as raw-vector-at
use Rattle.notes.proofs.vector.raw.put_vector.Reads as raw-put-vector
use Rattle.notes.proofs.message.raw.put_message.Reads as raw-put-message

-- for the same lifetimes and arguments, `seen` of the result and of the parameters at exit is one
abbrev pub One {ℓ κ μ ν} :
    {K : Type ℓ} {A : K → Type κ} {R : K → Type μ} {S : K → Type ν} {O : Type 0}
    → ((k : K) → A k → R k → S k → Type 0)
    → ((k : K) → R k → S k → O)
    → Type (ℓ ⊔ κ ⊔ μ ⊔ ν)
One {K} {A} {R} {S} post seen = (k : K) (a : A k) (x y : R k) (s t : S k) → post k a x s → post k a y t → seen k x s ≡ seen k y t

-- a call whose contract is an equation of its result
equal : {A : Type 0} {x y d : A} → x ≡ d → y ≡ d → x ≡ y
equal p q = p ∙ sym q

pub is-one-of-one : One is-one-of.Post (λ k r s. r)
is-one-of-one k a x y s t p q = equal p q

pub zero-one : One zero.Post (λ k r s. r)
zero-one k a x y s t p q = equal p q

pub at-one : One at.Post (λ k r s. r)
at-one k a x y s t p q = equal p q

pub raised-one : One raised.Post (λ k r s. r)
raised-one k a x y s t p q = equal p q

pub maximum-one : One maximum.Post (λ k r s. r)
maximum-one k a x y s t p q = equal p q

pub sum-one : One sum.Post (λ k r s. r)
sum-one k a x y s t p q = equal p q

pub is-behind-one : One is-behind.Post (λ k r s. r)
is-behind-one k a x y s t p q = equal p q

pub zero-from-one : One zero-from.Post (λ k r s. r)
zero-from-one k a x y s t p q = equal p q

pub from-bytes-one : One from-bytes.Post (λ k r s. r)
from-bytes-one k a x y s t p q = equal p q

pub to-bytes-one : One to-bytes.Post (λ k r s. r)
to-bytes-one k a x y s t p q = equal p q

pub number-one : One number.Post (λ k r s. r)
number-one k a x y s t p q = equal p q

pub well-formed-one : One well-formed.Post (λ k r s. r)
well-formed-one k a x y s t p q = equal p q

pub beats-one : One beats.Post (λ k r s. r)
beats-one k a x y s t p q = equal p q

pub choose-one : One choose.Post (λ k r s. r)
choose-one k a x y s t p q = equal p q

pub choice-number-one : One choice-number.Post (λ k r s. r)
choice-number-one k a x y s t p q = equal p q

pub session-new-one : One new.Post (λ k r s. r)
session-new-one k a x y s t p q = equal p q

pub read-carries-one : One read-carries.Post (λ k r s. r)
read-carries-one k a x y s t p q = equal p q

pub write-carries-one : One write-carries.Post (λ k r s. r)
write-carries-one k a x y s t p q = equal p q

pub after-read-one : One after-read.Post (λ k r s. r)
after-read-one k a x y s t p q = equal p q

pub after-write-one : One after-write.Post (λ k r s. r)
after-write-one k a x y s t p q = equal p q

pub read-at-one : One read-at.Post (λ k r s. r)
read-at-one k a x y s t p q = equal p q

pub place-after-one : One place-after.Post (λ k r s. r)
place-after-one k a x y s t p q = equal p q

pub left-from-one : One left-from.Post (λ k r s. r)
left-from-one k a x y s t p q = equal p q

-- a check is known by its number and values
pub check-one : One check.Post (λ k r s. r)
check-one k a x y s t p q = checked-known x y (equal p q)

-- a filled output by its number and values, and by its bytes
pub filled-one : (x y : Result ℕ Refusal) (o u : List ℕ) → filled x o ≡ filled y u → ◌≡◌ {A = Result ℕ Refusal × List ℕ} (x, o) (y, u)
filled-one x y o u e =
    λ i. (written_known x y (ap (λ (f : Filled). f.reply) e) i, ap (λ (f : Filled). f.output) e i)

pub write-one : One {O = Result ℕ Refusal × List ℕ} write.Post (λ k r s. (r, s.1.1.1.0.now))
write-one k a x y s t p q = filled-one x y _ _ (equal p q)

-- a place, or the refusal
pub first-place-one : One first-place.Post (λ k r s. r)
first-place-one k a x y s t p q = written_known x y (equal p q)

-- the reader, or the refusal
pub reader-new-one : One reader.Post (λ k r s. r)
reader-new-one k a x y s t p q = reader-known a.0 x y p.0 q.0 (equal p.1 q.1)

pub peek-one : One peek.Post (λ k r s. r)
peek-one k a x y s t p q = equal p q

pub advance-one : One advance.Post (λ k r s. r)
advance-one k a x y s t p q = λ i. record { message = equal p.0 q.0 i; at = equal p.1 q.1 i }

pub left-one : One left.Post (λ k r s. r)
left-one k a x y s t p q = equal p q

-- the record, and the reader left
pub next-one : One {O = Option Record × Reader} next.Post (λ k r s. (r, s.0.now))
next-one k a x y s t p q =
    λ i. (equal p.0.read q.0.read i, record { message = equal p.0.message q.0.message i; at = equal p.0.place q.0.place i })

-- a session changed in place is known by its value at exit
pub raise-one : One raise.Post (λ k r s. s.0.now)
raise-one k a x y s t p q = equal p q

pub raise-written-one : One raise-written.Post (λ k r s. s.0.now)
raise-written-one k a x y s t p q = equal p q

-- ---- the raw ones: what they ask is that places are there

pub raw-u8-at-one : One raw-u8-at.Post (λ k r s. r)
raw-u8-at-one k a x y s t p q = equal p q

pub raw-u16-at-one : One raw-u16-at.Post (λ k r s. r)
raw-u16-at-one k a x y s t p q = equal p q

pub raw-u32-at-one : One raw-u32-at.Post (λ k r s. r)
raw-u32-at-one k a x y s t p q = equal p q

pub raw-u64-at-one : One raw-u64-at.Post (λ k r s. r)
raw-u64-at-one k a x y s t p q = equal p q

-- for each number of counts
pub raw-fill-counts-one : One raw-fill-counts.Post (λ k r s. s.1.1.0.now)
raw-fill-counts-one k a x y s t p q = equal p q

pub raw-counts-at-one : (n : ℕ) (f : Fits w64 n) → One (raw-counts-at.Post n f) (λ k r s. r)
raw-counts-at-one n f k a x y s t p q = equal p q

pub raw-put-u8-one : One raw-put-u8.Post (λ k r s. s.1.0.now)
raw-put-u8-one k a x y s t p q = equal p q

pub raw-put-bytes-one : One raw-put-bytes.Post (λ k r s. s.0.now)
raw-put-bytes-one k a x y s t p q = equal p q

pub raw-put-u16-one : One raw-put-u16.Post (λ k r s. s.1.0.now)
raw-put-u16-one k a x y s t p q = equal p q

pub raw-put-u32-one : One raw-put-u32.Post (λ k r s. s.1.0.now)
raw-put-u32-one k a x y s t p q = equal p q

pub raw-put-u64-one : One raw-put-u64.Post (λ k r s. s.1.0.now)
raw-put-u64-one k a x y s t p q = equal p q

pub raw-put-counts-one : One raw-put-counts.Post (λ k r s. s.0.now)
raw-put-counts-one k a x y s t p q = equal p q

pub raw-first-records-one : One raw-first-records.Post (λ k r s. r.now)
raw-first-records-one k a x y s t p q = equal p q

pub raw-decoded-one : One raw-decoded.Post (λ k r s. r)
raw-decoded-one k a x y s t p q = equal p q

pub raw-limits-one : One raw-limits.Post (λ k r s. r)
raw-limits-one k a x y s t p q = equal p q

pub raw-number-of-one : One raw-number-of.Post (λ k r s. r)
raw-number-of-one k a x y s t p q = equal p q

-- the proofs that a form carries are one, as those of any two numbers and lists are
form-equal : (x y : Form) → x.n ≡ y.n → x.most ≡ y.most → x ≡ y
form-equal x y e m =
    λ i. record {
      n = e i;
      most = m i;
      few = is_prop→PathP (λ j. e j ≤ servers) (λ j. hlevel props) x.few y.few i;
      made = is_prop→PathP (λ j. m j ≡ limits_of (e j)) (λ j. hlevel props) x.made y.made i;
    }

pub form-raw-of-one : One raw-of.Post (λ k r s. r)
form-raw-of-one k a x y s t p q = let e = equal p q in form-equal x y e (x.made ∙ ap limits_of e ∙ sym y.made)

pub form-raw-is-met-one : One raw-is-met.Post (λ k r s. r)
form-raw-is-met-one k a x y s t p q = equal p q

pub raw-all-well-formed-one : One raw-all-well-formed.Post (λ k r s. r)
raw-all-well-formed-one k a x y s t p q = equal p q

pub raw-vector-at-one : One raw-vector-at.Post (λ k r s. r)
raw-vector-at-one k a x y s t p q = equal p q

pub raw-put-vector-one : One raw-put-vector.Post (λ k r s. s.0.now)
raw-put-vector-one k a x y s t p q = equal p q

pub raw-put-message-one : One raw-put-message.Post (λ k r s. s.0.now)
raw-put-message-one k a x y s t p q = equal p q
