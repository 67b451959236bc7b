-- What an image holds after stores: all of a plan's, or the first of them.
-- Assumes nothing.
use Prim.Native.Nat.{ℕ, zero, suc, ◌+◌, ◌-◌, ◌*◌, ◌<◌, ◌≤◌}
use mathlib.Core.Bool.{true}
use mathlib.Core.List.{List, [], ◌∷◌, ◌++◌, append_assoc}
use mathlib.Core.Path.{◌≡◌, refl, ap, sym, ◌∙◌}
use native.Mathlib.Omega.{arith}
use borrow.Author.Tests.{leb-true, le-leb}
use lib.ListN.{length, take, drop, set, replicate, length-set, length-append, length-replicate, length-take, length-drop, take-append-drop}
use lib.Seq.{sets, length-sets, take_all, take_at}
use Rattle.notes.specs.Bytes.{field, to_bytes, pieces}
use Rattle.notes.specs.Index.{server_ok}
use Rattle.notes.specs.Record.{record_size, decode, encode, records}
use Rattle.notes.specs.Message.{history_most}
use Rattle.notes.specs.declared.index.ServerId.{ServerId}
use Rattle.notes.specs.declared.record.Record.{Record}
use Rattle.notes.proofs.Lists.{both, same_refl, same_true}
use Rattle.notes.proofs.Numbers.{from-to, one_byte}
use Rattle.notes.proofs.Records.{length-records}
use Rattle.rules.specs.Image.{log_most, header_size, log_at, image_size, header_of, image_n, image_own, own_field, checkpoint_field, log_field, checkpoint_count, log_count, header_ok, checkpoint_area, log_area, checkpoint, log, checkpoint_place, log_place, fresh_image, Store, byte, count, store, stored, byte_stores, write_plan, checkpoint_plan}
use Rattle.laws.proofs.Places.{take-sets, take-sets-in, drop-sets, drop-sets-in, part_in, area-kept, records-appended, records-in, records-drop}

-- ---- stores one after the other

-- stores, and further stores behind them
pub stored-append : (i : List ℕ) (a b : List Store) → stored i (a ++ b) ≡ stored (stored i a) b
unfolding stored
stored-append i [] b = refl
stored-append i (s ∷ a) b = stored-append (store i s) a b

-- stores leave an image as long as it was
pub length-stored : (i : List ℕ) (ss : List Store) → length (stored i ss) ≡ length i
unfolding stored
length-stored i [] = refl
length-stored i (byte p b ∷ ss) = length-stored (set i p b) ss ∙ length-set i p b
length-stored i (count f k ∷ ss) =
    length-stored (store i (count f k)) ss ∙ length-sets i f.at (to_bytes f.size k)

-- bytes stored one by one are one part of the image
pub stored_bytes : (p : ℕ) (bs i : List ℕ) → stored i (byte_stores p bs) ≡ sets i p bs
unfolding stored byte_stores
stored_bytes p [] i = refl
stored_bytes p (b ∷ bs) i = stored_bytes (suc p) bs (set i p b)

-- a store for each byte
pub length-byte_stores : (p : ℕ) (bs : List ℕ) → length (byte_stores p bs) ≡ length bs
unfolding byte_stores
length-byte_stores p [] = refl
length-byte_stores p (b ∷ bs) = ap suc (length-byte_stores (suc p) bs)

-- the first k stores of some bytes' and of what follows: the first k bytes are in the image, then the rest of k goes on
pub cut-bytes :
    (bs : List ℕ) (k p : ℕ) (i : List ℕ) (ss : List Store)
    → stored i (take k (byte_stores p bs ++ ss)) ≡ stored (sets i p (take k bs)) (take (k - length bs) ss)
unfolding stored byte_stores
cut-bytes [] zero p i ss = refl
cut-bytes [] (suc k) p i ss = let e : suc k - 0 ≡ suc k = omega arith in rw e
cut-bytes (b ∷ bs) zero p i ss = let e : 0 - suc (length bs) ≡ 0 = omega arith in rw e
cut-bytes (b ∷ bs) (suc k) p i ss =
    let e : suc k - suc (length bs) ≡ k - length bs = omega arith in rw e (cut-bytes bs k (suc p) (set i p b) ss)

-- ---- how many stores the plans have

-- the record's bytes and a count
pub length-write_plan : (r : Record) (k : ℕ) → length (encode r) ≡ record_size → length (write_plan r k) ≡ record_size + 1
unfolding write_plan
length-write_plan r k e = rw (length-append, length-byte_stores, e)

-- the bytes of the history's records from one on
abbrev new_bytes : List ℕ → ℕ → ℕ → List ℕ
new_bytes h held kept = take (record_size * (held - kept)) (drop (record_size * kept) h)

length-new_bytes :
    (h : List ℕ) (held kept : ℕ)
    → kept ≤ held
    → record_size * held ≤ length h
    → length (new_bytes h held kept) ≡ record_size * (held - kept)
length-new_bytes h held kept k room = rw (length-take, length-drop) (omega arith)

-- the new records' bytes and two counts
pub length-checkpoint_plan :
    (h : List ℕ) (held kept : ℕ)
    → kept ≤ held
    → record_size * held ≤ length h
    → length (checkpoint_plan h held kept) ≡ record_size * (held - kept) + 2
unfolding checkpoint_plan
length-checkpoint_plan h held kept k room =
    rw (length-append, length-byte_stores, length-new_bytes h held kept k room)

-- ---- what an image shows

-- an image's header is right for N and own number, and its checkpoint and log hold these records
pub record Shows (n : ℕ) (own : ServerId) (i : List ℕ) (c l : List Record) : Type 0 where
  pub long : image_size ≤ length i
  pub header : header_ok n own i ≡ true
  pub kept : checkpoint i ≡ c
  pub logged : log i ≡ l

-- an image has the header of these counts
pub record Laid (n : ℕ) (own : ServerId) (i : List ℕ) (kept logged : ℕ) : Type 0 where
  pub server : server_ok n own ≡ true
  pub few_kept : kept ≤ history_most
  pub few_logged : logged ≤ log_most
  pub bytes : take header_size i ≡ header_of n own kept logged

-- a right header is that of the counts that it says
pub laid_of : (n : ℕ) (own : ServerId) (i : List ℕ) → header_ok n own i ≡ true → Laid n own i (checkpoint_count i) (log_count i)
unfolding header_ok
laid_of n own i h =
    let x = both _ _ h in
    let y = both _ _ x.0 in
    let z = both _ _ y.0 in
    record {
      server = z.0;
      few_kept = leb-true _ _ z.1;
      few_logged = leb-true _ _ y.1;
      bytes = same_true _ _ x.1;
    }

module _ {n : ℕ} {own : ServerId} {i : List ℕ} {kept logged : ℕ} (h : Laid n own i kept logged) where
  -- the numbers that the header was made of are read from it
  said-n : image_n i ≡ n
  unfolding header_of
  said-n = rw (← part_in 1 0 header_size i (omega arith), h.bytes) (one_byte n)

  said-own : image_own i ≡ own
  unfolding header_of
  said-own = λ j. record { 0 = same-own j }
    where
      same-own : field own_field i ≡ own.0
      same-own = rw (← part_in 1 1 header_size i (omega arith), h.bytes) (one_byte own.0)

  said-kept : checkpoint_count i ≡ kept
  unfolding header_of to_bytes
  said-kept = rw (← part_in 2 2 header_size i (omega arith), h.bytes) (from-to 2 kept (omega (arith, h.few_kept)))

  said-logged : log_count i ≡ logged
  unfolding header_of to_bytes
  said-logged = rw (← part_in 2 6 header_size i (omega arith), h.bytes) (from-to 2 logged (omega (arith, h.few_logged)))

  -- an image with such a header shows the records at its places
  shown : image_size ≤ length i → Shows n own i (records kept (checkpoint_area i)) (records logged (log_area i))
  unfolding header_ok checkpoint log
  shown long =
      record {
        long = long;
        header =
            rw (
              h.server,
              said-kept,
              said-logged,
              le-leb kept history_most h.few_kept,
              le-leb logged log_most h.few_logged,
              h.bytes,
            )
            (same_refl (header_of n own kept logged));
        kept = rw said-kept;
        logged = rw said-logged;
      }

-- ---- an image that shows records, and each kind of store
module _ {n : ℕ} {own : ServerId} {i : List ℕ} {c l : List Record} (s : Shows n own i c l) where
  laid : Laid n own i (checkpoint_count i) (log_count i)
  laid = laid_of n own i s.header

  in-checkpoint : records (checkpoint_count i) (checkpoint_area i) ≡ c
  unfolding checkpoint
  in-checkpoint = s.kept

  in-log : records (log_count i) (log_area i) ≡ l
  unfolding log
  in-log = s.logged

  -- stores that leave a header of these counts
  put :
      (p : ℕ) (bs : List ℕ) (kept logged : ℕ)
      → kept ≤ history_most
      → logged ≤ log_most
      → take header_size (sets i p bs) ≡ header_of n own kept logged
      → Shows n own (sets i p bs) (records kept (checkpoint_area (sets i p bs))) (records logged (log_area (sets i p bs)))
  put p bs kept logged a b e =
      let header : Laid n own (sets i p bs) kept logged =
      record { server = laid.server; few_kept = a; few_logged = b; bytes = e } in
      shown header (rw length-sets s.long)

  -- bytes past the header that leave the records
  put-bytes :
      (p : ℕ) (bs : List ℕ)
      → header_size ≤ p
      → records (checkpoint_count i) (checkpoint_area (sets i p bs)) ≡ records (checkpoint_count i) (checkpoint_area i)
      → records (log_count i) (log_area (sets i p bs)) ≡ records (log_count i) (log_area i)
      → Shows n own (sets i p bs) c l
  put-bytes p bs h a b =
      let header = take-sets bs i header_size p h ∙ laid.bytes in
      rw (a ∙ in-checkpoint, b ∙ in-log) at (put p bs (checkpoint_count i) (log_count i) laid.few_kept laid.few_logged header)

  -- a count's store changes its two bytes in the header, and so how many records are seen
  put-kept : (k : ℕ) → k ≤ history_most → Shows n own (store i (count checkpoint_field k)) (records k (checkpoint_area i)) l
  unfolding header_of to_bytes
  put-kept k few =
      let bs = to_bytes 2 k in
      let header = take-sets-in bs i header_size 2 (omega arith) ∙ ap (λ (t : List ℕ). sets t 2 bs) laid.bytes in
      rw (drop-sets bs i header_size 2 (omega arith), drop-sets bs i log_at 2 (omega arith), in-log) at
      (put 2 bs k (log_count i) few laid.few_logged header)

  put-logged : (k : ℕ) → k ≤ log_most → Shows n own (store i (count log_field k)) c (records k (log_area i))
  unfolding header_of to_bytes
  put-logged k few =
      let bs = to_bytes 2 k in
      let header = take-sets-in bs i header_size 6 (omega arith) ∙ ap (λ (t : List ℕ). sets t 6 bs) laid.bytes in
      rw (drop-sets bs i header_size 6 (omega arith), drop-sets bs i log_at 6 (omega arith), in-checkpoint) at
      (put 6 bs (checkpoint_count i) k laid.few_kept few header)

module _ (n : ℕ) (own : ServerId) (i : List ℕ) (c l : List Record) (s : Shows n own i c l) where
  -- N and own number are right, and the image says them
  pub shows-server : server_ok n own ≡ true
  shows-server = (laid s).server

  pub shows-n : image_n i ≡ n
  shows-n = said-n (laid s)

  pub shows-own : image_own i ≡ own
  shows-own = said-own (laid s)

  -- the counts are the records', and these are not too many
  pub shows-counts : (checkpoint_count i ≡ length c) × (log_count i ≡ length l) × (length c ≤ history_most) × (length l ≤ log_most)
  shows-counts =
      let a : checkpoint_count i ≡ length c = sym (length-records _ (checkpoint_area i)) ∙ ap length (in-checkpoint s) in
      let b : log_count i ≡ length l = sym (length-records _ (log_area i)) ∙ ap length (in-log s) in
      (a, b, rw a at (laid s).few_kept, rw b at (laid s).few_logged)

  -- ---- a write

  -- bytes at the log's next place are not seen before the count
  in-next-place : (bs : List ℕ) → Shows n own (sets i (log_place (log_count i)) bs) c l
  in-next-place bs =
      put-bytes s (log_place (log_count i)) bs (omega arith)
      (area-kept header_size (checkpoint_count i) (log_place (log_count i)) i bs (omega (arith, (laid s).few_kept)))
      (area-kept log_at (log_count i) (log_place (log_count i)) i bs (omega arith))

  module _ (r : Record) (e : length (encode r) ≡ record_size) where
    -- cut before the count, a write leaves the records as they were
    pub write-cut : (k : ℕ) → k ≤ record_size → Shows n own (stored i (take k (write_plan r (log_count i)))) c l
    unfolding write_plan stored
    write-cut k h =
        let none_left : k - length (encode r) ≡ 0 = omega arith in
        rw (cut-bytes (encode r) k (log_place (log_count i)) i (count log_field (log_count i + 1) ∷ []), none_left)
        (in-next-place (take k (encode r)))

    -- uncut it appends the record to the log
    pub write-all : log_count i < log_most → Shows n own (stored i (write_plan r (log_count i))) c (l ++ decode (encode r) ∷ [])
    unfolding write_plan stored records pieces
    write-all room =
        let p = log_place (log_count i) in
        let area = length-drop log_at i in
        let seen : records (log_count i + 1) (log_area (sets i p (encode r))) ≡ l ++ decode (encode r) ∷ [] =
        rw (
          drop-sets-in (encode r) i log_at (record_size * log_count i),
          records-appended (log_count i) 1 (log_area i) (encode r) e (omega (arith, s.long)),
          in-log s,
          take_all record_size (encode r) (omega arith),
        ) in
        rw (
          stored-append i (byte_stores p (encode r)) (count log_field (log_count i + 1) ∷ []),
          stored_bytes p (encode r) i,
          ← seen,
        )
        (put-logged (in-next-place (encode r)) (log_count i + 1) (omega arith))

  -- ---- a checkpoint of the history's records, the first of which it holds already

  module _
      (h : List ℕ)
      (held : ℕ)
      (room : record_size * held ≤ length h)
      (few : held ≤ history_most)
      (fits : checkpoint_count i ≤ held)
      (first : c ≡ take (checkpoint_count i) (records held h))
    where
      abbrev place : ℕ
      place = checkpoint_place (checkpoint_count i)

      abbrev new : List ℕ
      new = new_bytes h held (checkpoint_count i)

      length-new : length new ≡ record_size * (held - checkpoint_count i)
      length-new = length-new_bytes h held (checkpoint_count i) fits room

      -- its bytes are not seen before the count
      in-new-places : (bs : List ℕ) → length bs ≤ length new → Shows n own (sets i place bs) c l
      in-new-places bs k =
          put-bytes s place bs (omega arith)
          (area-kept header_size (checkpoint_count i) place i bs (omega arith))
          (ap (records (log_count i)) (drop-sets bs i log_at place (omega (arith, length-new))))

      -- cut before its count, it leaves the records as they were
      pub checkpoint-cut :
          (k : ℕ)
          → k ≤ record_size * (held - checkpoint_count i)
          → Shows n own (stored i (take k (checkpoint_plan h held (checkpoint_count i)))) c l
      unfolding checkpoint_plan stored
      checkpoint-cut k b =
          let none_left : k - length new ≡ 0 = omega (arith, length-new) in
          rw (cut-bytes new k place i (count checkpoint_field held ∷ count log_field 0 ∷ []), none_left)
          (in-new-places (take k new) (rw (length-take k new) (omega arith)))

      -- the records of the checkpoint area are then the history's
      seen : records held (checkpoint_area (sets i place new)) ≡ records held h
      seen =
          let k = checkpoint_count i in
          let e : held ≡ k + (held - k) = omega arith in
          let area = length-drop header_size i in
          ap (λ (t : ℕ). records t (checkpoint_area (sets i place new))) e
          ∙ rw (
            drop-sets-in new i header_size (record_size * k),
            records-appended k (held - k) (checkpoint_area i) new length-new (omega (arith, s.long)),
            in-checkpoint s,
            first,
            records-in (held - k) (record_size * (held - k)) (drop (record_size * k) h) (omega arith),
            ← records-drop k held h,
          )
          (take-append-drop k (records held h))

      counted : Shows n own (store (sets i place new) (count checkpoint_field held)) (records held h) l
      counted = rw (← seen) (put-kept (in-new-places new (omega arith)) held few)

      -- cut between the counts, it is taken and the log still stands
      pub checkpoint-counted :
          let plan = checkpoint_plan h held (checkpoint_count i) in
          Shows n own (stored i (take (record_size * (held - checkpoint_count i) + 1) plan)) (records held h) l
      unfolding checkpoint_plan stored
      checkpoint-counted =
          let k = record_size * (held - checkpoint_count i) + 1 in
          let one_left : k - length new ≡ 1 = omega (arith, length-new) in
          rw (
            cut-bytes new k place i (count checkpoint_field held ∷ count log_field 0 ∷ []),
            one_left,
            take_all k new (omega (arith, length-new)),
          )
          counted

      -- uncut it is taken, and the log is empty
      pub checkpoint-all : Shows n own (stored i (checkpoint_plan h held (checkpoint_count i))) (records held h) []
      unfolding checkpoint_plan stored records pieces
      checkpoint-all =
          rw (
            stored-append i (byte_stores place new) (count checkpoint_field held ∷ count log_field 0 ∷ []),
            stored_bytes place new i,
          )
          (put-logged counted 0 (omega arith))

-- ---- a fresh image
length-header : (n : ℕ) (own : ServerId) (kept logged : ℕ) → length (header_of n own kept logged) ≡ header_size
unfolding header_of to_bytes
length-header n own kept logged = refl

-- it shows no records
pub fresh-shows : (n : ℕ) (own : ServerId) (z : List ℕ) → server_ok n own ≡ true → Shows n own (fresh_image n own ++ z) [] []
unfolding fresh_image records pieces
fresh-shows n own z ok =
    let body : List ℕ = replicate (image_size - header_size) 0 in
    let l = length-header n own 0 0 in
    let header : Laid n own (fresh_image n own ++ z) 0 0 =
    record {
      server = ok;
      few_kept = omega arith;
      few_logged = omega arith;
      bytes = rw append_assoc (take_at (header_of n own 0 0) (body ++ z) header_size l);
    } in
    shown header (rw (length-append, length-append, length-replicate, l) (omega arith))
