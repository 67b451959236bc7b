-- Two parts copied to the front of a list, one behind the other, and zeros up to a size: the records of a recovery.
-- Assumes nothing.
use Prim.Native.Nat.{ℕ, ◌+◌, ◌-◌, ◌*◌, ◌≤◌}
use mathlib.Core.List.{List, ◌++◌, append_assoc}
use mathlib.Core.Path.{◌≡◌, ap, sym, ◌∙◌}
use native.Mathlib.Omega.{arith}
use borrow.Rule.Slice.PartMut.{put_mid}
use lib.ListN.{length, take, drop, replicate, length-append, length-drop}
use lib.Seq.{length-take-le, take_at, drop_at, drop-append-add, drop-drop, sets, length-sets, sets-eq}
use Rattle.notes.specs.Record.{record_size, record_bytes}
use Rattle.notes.proofs.Lists.{flat_map-append, sets-front}
use Rattle.notes.proofs.Numbers.{AllBelow, below-drop}
use Rattle.notes.proofs.Records.{length-records}
use Rattle.rules.specs.Image.{history_size, checkpoint_at, checkpoint_area, log_place}
use Rattle.rules.specs.Sound.{recovered_history}
use Rattle.laws.proofs.Places.{zeroed}
use Rattle.memory.specs.declared.image.Image.{Image}
use Rattle.memory.proofs.Same.{bytes-in}
use Rattle.server.specs.Forms.{Recoverable, recovered_records}

-- a and b copied to the front one behind the other, and zeros up to a size
put_two :
    (k j size : ℕ) (h a b h1 h2 z : List ℕ)
    → length a ≡ k
    → length b ≡ j
    → k + j ≤ size
    → size ≤ length h
    → h1 ≡ sets h 0 a
    → h2 ≡ sets h1 k b
    → z ≡ take (k + j) h2 ++ (replicate (size - (k + j)) 0 ++ drop size h2)
    → z ≡ a ++ b ++ replicate (size - (k + j)) 0 ++ drop size h
put_two k j size h a b h1 h2 z la lb fits long e1 e2 e3 =
    rw both-put at e3 ∙ rw (front, behind) (sym (append_assoc (a ++ b) (replicate (size - (k + j)) 0) (drop size h)))
  where
    one : h1 ≡ a ++ drop k h
    one = e1 ∙ sets-front a h k la (omega arith)

    length-one : length h1 ≡ length h
    length-one = ap length one ∙ rw (length-append, length-drop, la) (omega arith)

    both-put : h2 ≡ a ++ b ++ drop (k + j) h
    both-put =
        e2
        ∙ sets-eq b h1 k (omega (arith, length-one))
        ∙ rw (one, take_at a (drop k h) k la, ← drop-drop, drop_at a (drop k h) k la, lb, drop-drop)

    length_both : length (a ++ b) ≡ k + j
    length_both = rw (length-append, la, lb)

    front : take (k + j) (a ++ b ++ drop (k + j) h) ≡ a ++ b
    front = take_at (a ++ b) (drop (k + j) h) (k + j) length_both

    behind : drop size (a ++ b ++ drop (k + j) h) ≡ drop size h
    behind =
        let e : size ≡ length (a ++ b) + (size - (k + j)) = omega (arith, length_both) in
        let f : k + j + (size - (k + j)) ≡ size = omega arith in
        ap (λ (i : ℕ). drop i (a ++ b ++ drop (k + j) h)) e
        ∙ drop-append-add (a ++ b) (drop (k + j) h) (size - (k + j))
        ∙ rw (drop-drop, f)

-- the same of two parts of an image, as `&image[p..p + k]` has them
pub put-parts :
    (p k q j size : ℕ) (image h h1 h2 zeros : List ℕ)
    → p + k ≤ length image
    → q + j ≤ length image
    → k + j ≤ size
    → size ≤ length h
    → h1 ≡ sets h 0 (take (p + k - p) (drop p image))
    → h2 ≡ sets h1 k (take (q + j - q) (drop q image))
    → zeros ≡ replicate (length (take (size - (k + j)) (drop (k + j) h2))) 0
    → put_mid (k + j) (size - (k + j)) h2 zeros
    ≡ take k (drop p image) ++ take j (drop q image) ++ replicate (size - (k + j)) 0 ++ drop size h
put-parts p k q j size image h h1 h2 zeros la lb fits long e1 e2 e3 =
    let f : p + k - p ≡ k = omega arith in
    let g : q + j - q ≡ j = omega arith in
    let all : k + j + (size - (k + j)) ≡ size = omega arith in
    let same : length h2 ≡ length h = rw (e2, length-sets, e1, length-sets) in
    put_two k j size h (take k (drop p image)) (take j (drop q image)) h1 h2 _
    (length-take-le k (drop p image) (rw length-drop (omega arith)))
    (length-take-le j (drop q image) (rw length-drop (omega arith)))
    fits
    long
    (rw f at e1)
    (rw g at e2)
    (rw all at (zeroed (k + j) (size - (k + j)) h2 zeros (omega (arith, same)) e3))

-- and these are the bytes of the records that the parts say
pub put_records :
    (counts : Image) (lacked : ℕ) (h image : List ℕ)
    → Recoverable counts lacked h image
    → AllBelow 256 image
    → take (record_size * counts.checkpoint) (checkpoint_area image)
    ++ take (record_size * lacked) (drop (log_place (counts.log - lacked)) image)
    ++ replicate (history_size - (record_size * counts.checkpoint + record_size * lacked)) 0
    ++ drop history_size h
    ≡ recovered_history (recovered_records counts lacked image) h
unfolding recovered_history record_bytes
put_records counts lacked h image r below =
    let p = log_place (counts.log - lacked) in
    let k = counts.checkpoint in
    let kept = bytes-in k (checkpoint_area image) (rw length-drop (omega (arith, r.image, r.few))) (below-drop checkpoint_at image below) in
    let logged = bytes-in lacked (drop p image) (rw length-drop (omega (arith, r.image, r.fits, r.logged))) (below-drop p image below) in
    let size : record_size * (k + lacked) ≡ record_size * k + record_size * lacked = omega arith in
    rw (flat_map-append, length-append, length-records k (checkpoint_area image), length-records lacked (drop p image), kept, logged, size)
