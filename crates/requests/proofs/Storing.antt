-- Laws of the first stores of a write and of a checkpoint.
-- Assumes nothing.
use Prim.Native.Nat.{ℕ, suc, ◌+◌, ◌-◌, ◌*◌, ◌≤◌, ◌<◌}
use mathlib.Core.List.{List, [], ◌∷◌, ◌++◌}
use mathlib.Core.Path.{◌≡◌, sym, ◌∙◌}
use native.Mathlib.Omega.{arith}
use lib.ListN.{length, take, drop, length-take, length-drop}
use lib.Seq.{sets, take_all}
use Rattle.notes.specs.Record.{record_size, encode}
use Rattle.notes.specs.declared.record.Record.{Record}
use Rattle.rules.specs.Image.{checkpoint_field, log_field, checkpoint_place, log_place, Store, count, store, stored, byte_stores, write_plan, checkpoint_plan}
use Rattle.laws.proofs.Stores.{cut-bytes}
use Rattle.requests.specs.Forms.{Room, write_bytes_plan}

-- the plan over a record's bytes is the record's
pub write-plan : (r : Record) (b : List ℕ) (logged : ℕ) → encode r ≡ b → write_plan r logged ≡ write_bytes_plan b logged
unfolding write_plan write_bytes_plan
write-plan r b logged e = rw e

-- bytes, and further stores behind them: none of these, the first, or all
module _ (i bs : List ℕ) (p k : ℕ) where
  abbrev after : List ℕ
  after = sets i p (take k bs)

  abbrev cut : List Store → List ℕ
  cut ss = stored i (take k (byte_stores p bs ++ ss))

  with_none : (ss : List Store) → k ≤ length bs → cut ss ≡ after
  unfolding stored
  with_none ss h = let e : k - length bs ≡ 0 = omega arith in cut-bytes bs k p i ss ∙ rw e

  with-one : (s : Store) (ss : List Store) → k ≡ length bs + 1 → cut (s ∷ ss) ≡ store after s
  unfolding stored
  with-one s ss h = let e : k - length bs ≡ 1 = omega arith in cut-bytes bs k p i (s ∷ ss) ∙ rw e

  with_all : (s : Store) (ss : List Store) → length bs + 1 + length ss ≤ k → cut (s ∷ ss) ≡ stored (store after s) ss
  unfolding stored
  with_all s ss h =
      let e : k - length bs ≡ suc (k - length bs - 1) = omega arith in
      cut-bytes bs k p i (s ∷ ss) ∙ rw (e, take_all (k - length bs - 1) ss (omega arith))

-- a write, cut before its count or not
module _ (i b : List ℕ) (logged k : ℕ) (len : length b ≡ record_size) where
  pub write-cut : k ≤ record_size → sets i (log_place logged) (take k b) ≡ stored i (take k (write_bytes_plan b logged))
  unfolding write_bytes_plan
  write-cut h = sym (with_none i b (log_place logged) k (count log_field (logged + 1) ∷ []) (omega arith))

  pub write-whole :
      record_size < k
      → store (sets i (log_place logged) (take k b)) (count log_field (logged + 1)) ≡ stored i (take k (write_bytes_plan b logged))
  unfolding write_bytes_plan stored
  write-whole h = sym (with_all i b (log_place logged) k (count log_field (logged + 1)) [] (omega arith))

-- as an image that the bytes have been stored to shows it
pub stored_cut :
    (i b j : List ℕ) (logged k : ℕ)
    → j ≡ sets i (log_place logged) (take k b)
    → length b ≡ record_size
    → k ≤ record_size
    → j ≡ stored i (take k (write_bytes_plan b logged))
stored_cut i b j logged k e len h = e ∙ write-cut i b logged k len h

-- a checkpoint of the history's records past those kept, as `&history[..]` has their bytes
module _ (i h : List ℕ) (held kept k : ℕ) where
  abbrev new : List ℕ
  new = take (record_size * held - record_size * kept) (drop (record_size * kept) h)

  abbrev in_place : List ℕ
  in_place = sets i (checkpoint_place kept) (take k new)

  abbrev wanted : List ℕ
  wanted = stored i (take k (checkpoint_plan h held kept))

  module _ (room : Room held kept h i) where
    same_new : record_size * (held - kept) ≡ record_size * held - record_size * kept
    same_new = omega arith

    length-new : length new ≡ record_size * held - record_size * kept
    length-new = rw (length-take, length-drop) (omega arith)

    -- cut before its counts, between them, or not
    pub checkpoint-cut : k ≤ record_size * held - record_size * kept → in_place ≡ wanted
    unfolding checkpoint_plan
    checkpoint-cut c =
        rw same_new
        (sym (with_none i new (checkpoint_place kept) k (count checkpoint_field held ∷ count log_field 0 ∷ []) (rw length-new c)))

    pub checkpoint-between :
        k ≡ record_size * held - record_size * kept + 1 → store in_place (count checkpoint_field held) ≡ wanted
    unfolding checkpoint_plan
    checkpoint-between c =
        rw same_new
        (sym (with-one i new (checkpoint_place kept) k (count checkpoint_field held) (count log_field 0 ∷ []) (rw length-new c)))

    pub checkpoint-whole :
        record_size * held - record_size * kept + 1 < k
        → store (store in_place (count checkpoint_field held)) (count log_field 0) ≡ wanted
    unfolding checkpoint_plan stored
    checkpoint-whole c =
        rw same_new
        (sym (with_all i new (checkpoint_place kept) k (count checkpoint_field held) (count log_field 0 ∷ []) (rw length-new (omega arith))))
