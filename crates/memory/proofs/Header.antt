-- Laws of an image's header: what a right one is, in the form that code tests, and a fresh image stored number by number.
-- Assumes nothing.
use Prim.Native.Nat.{ℕ, ◌+◌, ◌-◌, ◌≤◌, ◌<◌, ◌%◌}
use mathlib.Core.Bool.{true}
use mathlib.Core.List.{List, ◌∷◌, ◌++◌, append_assoc}
use mathlib.Core.Path.{◌≡◌, refl, ap, sym, ◌∙◌}
use native.Mathlib.Omega.{arith}
use borrow.Author.Tests.{leb-true, le-leb, eqb-true, eq-eqb}
use lib.Dec.{leb, eqb}
use lib.ListN.{length, get_or, take, drop, replicate, replicate-append-replicate}
use lib.Seq.{drop-cons, drop-drop, take-add, sets}
use Rattle.notes.specs.Bytes.{Field, field, from_bytes, to_bytes}
use Rattle.notes.specs.Index.{server_ok}
use Rattle.notes.specs.Message.{history_most}
use Rattle.notes.specs.declared.index.ServerId.{ServerId}
use Rattle.notes.proofs.Lists.{both, same_refl}
use Rattle.notes.proofs.Numbers.{AllBelow, one_byte, from_one, part-back}
use Rattle.rules.specs.Image.{log_most, header_size, checkpoint_at, log_at, image_size, n_field, own_field, checkpoint_field, checkpoint_offset, log_field, log_offset, total_field, spare, header_of, checkpoint_count, log_count, header_ok, fresh_image}
use Rattle.laws.proofs.Places.{part_in}
use Rattle.laws.proofs.Stores.{laid_of}
use Rattle.memory.specs.Forms.{spare_field, header_test}
use Rattle.memory.proofs.Same.{same_truth}

-- ---- a header whose numbers are right
pub record Numbers (n : ℕ) (own : ServerId) (i : List ℕ) : Type 0 where
  pub server : server_ok n own ≡ true
  pub says-n : get_or i 0 0 ≡ n
  pub says-own : get_or i 1 0 ≡ own.0
  pub few-kept : checkpoint_count i ≤ history_most
  pub kept_at : field checkpoint_offset i ≡ checkpoint_at
  pub few-logged : log_count i ≤ log_most
  pub logged-at : field log_offset i ≡ log_at
  pub total : field total_field i ≡ image_size
  pub spared : field spare_field i ≡ 0

-- two parts, one behind the other
join : (a b p : ℕ) (l : List ℕ) → take a (drop p l) ++ take b (drop (p + a) l) ≡ take (a + b) (drop p l)
join a b p l = rw (take-add a b (drop p l), drop-drop)

-- two bytes, and what follows them
two-join : (l : List ℕ) → 2 ≤ length l → get_or l 0 0 ∷ get_or l 1 0 ∷ drop 2 l ≡ l
two-join l h =
    sym
    (drop-cons l 0 0 (omega arith)
    ∙ ap (λ (t : List ℕ). get_or l 0 0 ∷ t) (drop-cons l 1 0 (omega arith)))

-- the number in a field of bytes that begin with these
number_in : (f : Field) (b i : List ℕ) → take header_size i ≡ b → f.at + f.size ≤ header_size → field f i ≡ field f b
number_in f b i e h = rw (← part_in f.size f.at header_size i h, e)

spare-bytes : replicate spare 0 ≡ to_bytes spare 0
unfolding to_bytes
spare-bytes = refl

module _ (n : ℕ) (own : ServerId) (i : List ℕ) where
  -- a right header is the header that its counts give, so its numbers are right
  pub numbers : header_ok n own i ≡ true → Numbers n own i
  unfolding header_ok header_of to_bytes from_bytes
  numbers h =
      let l = laid_of n own i h in
      let bytes = l.bytes in
      record {
        server = l.server;
        says-n = sym (from_one 0 i) ∙ number_in n_field _ i bytes (omega arith) ∙ one_byte n;
        says-own = sym (from_one 1 i) ∙ number_in own_field _ i bytes (omega arith) ∙ one_byte own.0;
        few-kept = l.few_kept;
        kept_at = number_in checkpoint_offset _ i bytes (omega arith);
        few-logged = l.few_logged;
        logged-at = number_in log_offset _ i bytes (omega arith);
        total = number_in total_field _ i bytes (omega arith);
        spared = number_in spare_field _ i bytes (omega arith);
      }

  passes : Numbers n own i → header_test n own i ≡ true
  unfolding header_test
  passes l =
      rw (
        l.server,
        eq-eqb (get_or i 0 0) n l.says-n,
        eq-eqb (get_or i 1 0) own.0 l.says-own,
        le-leb (checkpoint_count i) history_most l.few-kept,
        eq-eqb (field checkpoint_offset i) checkpoint_at l.kept_at,
        le-leb (log_count i) log_most l.few-logged,
        eq-eqb (field log_offset i) log_at l.logged-at,
        eq-eqb (field total_field i) image_size l.total,
        eq-eqb (field spare_field i) 0 l.spared,
      )

  tested : header_test n own i ≡ true → Numbers n own i
  unfolding header_test
  tested e =
      let x1 = both _ (eqb (field spare_field i) 0) e in
      let x2 = both _ (eqb (field total_field i) image_size) x1.0 in
      let x3 = both _ (eqb (field log_offset i) log_at) x2.0 in
      let x4 = both _ (leb (log_count i) log_most) x3.0 in
      let x5 = both _ (eqb (field checkpoint_offset i) checkpoint_at) x4.0 in
      let x6 = both _ (leb (checkpoint_count i) history_most) x5.0 in
      let x7 = both _ (eqb (get_or i 1 0) own.0) x6.0 in
      let x8 = both (server_ok n own) (eqb (get_or i 0 0) n) x7.0 in
      record {
        server = x8.0;
        says-n = eqb-true _ _ x8.1;
        says-own = eqb-true _ _ x7.1;
        few-kept = leb-true _ _ x6.1;
        kept_at = eqb-true _ _ x5.1;
        few-logged = leb-true _ _ x4.1;
        logged-at = eqb-true _ _ x3.1;
        total = eqb-true _ _ x2.1;
        spared = eqb-true _ _ x1.1;
      }

  module _ (h : AllBelow 256 i) (long : header_size ≤ length i) where
    -- the bytes of a number of the header
    bytes-at : (f : Field) (k : ℕ) → f.at + f.size ≤ header_size → field f i ≡ k → to_bytes f.size k ≡ take f.size (drop f.at i)
    bytes-at f k room e = ap (to_bytes f.size) (sym e) ∙ part-back f.size f.at i (omega arith) h

    header-bytes : Numbers n own i → header_of n own (checkpoint_count i) (log_count i) ≡ take header_size i
    unfolding header_of
    header-bytes l =
        rw (
          bytes-at checkpoint_field (checkpoint_count i) (omega arith) refl,
          bytes-at checkpoint_offset checkpoint_at (omega arith) l.kept_at,
          bytes-at log_field (log_count i) (omega arith) refl,
          bytes-at log_offset log_at (omega arith) l.logged-at,
          bytes-at total_field image_size (omega arith) l.total,
          spare-bytes ∙ bytes-at spare_field 0 (omega arith) l.spared,
          join 2 2 2 i,
          join 4 2 2 i,
          join 6 2 2 i,
          join 8 2 2 i,
          join 10 4 2 i,
          ← l.says-n,
          ← l.says-own,
        )
        (ap (take header_size) (two-join i (omega arith)))

    -- numbers that are right make it right
    right : Numbers n own i → header_ok n own i ≡ true
    unfolding header_ok
    right l =
        rw (
          l.server,
          le-leb (checkpoint_count i) history_most l.few-kept,
          le-leb (log_count i) log_most l.few-logged,
          header-bytes l,
        )
        (same_refl (take header_size i))

    -- the numbers, tested one by one
    pub header-test : header_test n own i ≡ header_ok n own i
    header-test = same_truth (header_test n own i) (header_ok n own i) (λ e. right (tested e)) (λ e. passes (numbers e))

-- ---- a fresh image, stored over zeros

-- the header's numbers but for the counts, stored one after the other
abbrev pub numbers_in : ℕ → ServerId → List ℕ → List ℕ
numbers_in n own l =
    let bytes = sets (sets l n_field.at (to_bytes n_field.size n)) own_field.at (to_bytes own_field.size own.0) in
    let kept_at = sets bytes checkpoint_offset.at (to_bytes checkpoint_offset.size checkpoint_at) in
    let logged-at = sets kept_at log_offset.at (to_bytes log_offset.size log_at) in
    sets logged-at total_field.at (to_bytes total_field.size image_size)

module _ (n : ℕ) (own : ServerId) (z : List ℕ) (hn : n < 256) (ho : own.0 < 256) where
  header-stored : numbers_in n own (replicate header_size 0 ++ z) ≡ header_of n own 0 0 ++ z
  unfolding header_of to_bytes
  header-stored =
      let e : n % 256 ≡ n = omega arith in
      let f : own.0 % 256 ≡ own.0 = omega arith in
      rw (e, f) refl

zeros-split : (a b : ℕ) (z : List ℕ) → replicate (a + b) 0 ++ z ≡ replicate a 0 ++ (replicate b 0 ++ z)
zeros-split a b z = rw (← replicate-append-replicate a b, append_assoc)

pub fresh-stored :
    (n : ℕ) (own : ServerId) (z : List ℕ)
    → n < 256
    → own.0 < 256
    → numbers_in n own (replicate image_size 0 ++ z) ≡ fresh_image n own ++ z
unfolding fresh_image
fresh-stored n own z hn ho =
    let body : List ℕ = replicate (image_size - header_size) 0 in
    ap (numbers_in n own) (zeros-split header_size (image_size - header_size) z)
    ∙ header-stored n own (body ++ z) hn ho
    ∙ sym (append_assoc (header_of n own 0 0) body z)
