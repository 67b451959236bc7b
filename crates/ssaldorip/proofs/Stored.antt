-- Laws of a state stored in its block piece by piece.
-- Assumes nothing.
use Prim.Native.Nat.{ℕ, ◌*◌, ◌%◌, ◌<◌, ◌≤◌}
use mathlib.Core.Bool.{Bool, true, false, cond, ◌&&◌}
use mathlib.Core.List.{List, ◌++◌, append_assoc}
use mathlib.Core.Path.{◌≡◌, refl, sym, ◌∙◌}
use native.Mathlib.Omega.{arith}
use lib.Dec.{leb, eqb}
use lib.ListN.{length, get_or, length-append}
use lib.Seq.{sets}
use Rattle.std.specs.Int.{from_bool}
use Rattle.notes.specs.Bytes.{to_bytes}
use Rattle.notes.specs.Index.{servers, phones}
use Rattle.notes.specs.Vector.{count_size, count_bytes, vector_bytes}
use Rattle.notes.proofs.Lists.{sets-append, sets-front}
use Rattle.notes.proofs.Numbers.{from_one, length-to_bytes}
use Rattle.notes.proofs.Pieces.{each_of, length-flat_map}
use Rattle.notes.proofs.Vectors.{length-vector_bytes}
use Rattle.rules.specs.declared.state.State.{State}
use Rattle.rules.specs.Image.{n_field, own_field}
use Rattle.ssaldorip.specs.Calls.{block_size, up_field, spare_field, held_field, nwrites_field, vector_at, cr_field, rw_at, block_ok, block_of, onto}

-- ---- a state

-- number by number
abbrev pub numbers_in : State → List ℕ → List ℕ
numbers_in s b =
    let n = sets b n_field.at (to_bytes 1 s.n) in
    let own = sets n own_field.at (to_bytes 1 s.own.0) in
    let up = sets own up_field.at (to_bytes 1 (from_bool s.up)) in
    let spare = sets up spare_field.at (to_bytes 1 0) in
    let held = sets spare held_field.at (to_bytes held_field.size s.held) in
    let nwrites = sets held nwrites_field.at (to_bytes nwrites_field.size s.nwrites) in
    let vector = sets nwrites vector_at (count_bytes s.vector.counts) in
    let cr = sets vector cr_field.at (to_bytes cr_field.size s.cr) in
    sets cr rw_at (count_bytes s.rw.counts)

up_byte : (up : Bool) → from_bool up % 256 ≡ cond up 1 0
up_byte true = refl
up_byte false = refl

module _ (s : State) (v : length s.vector.counts ≡ servers) (w : length s.rw.counts ≡ phones) where
  length-table : length (count_bytes s.rw.counts) ≡ count_size * phones
  length-table =
      rw (length-flat_map count_size (to_bytes count_size) s.rw.counts (each_of (length-to_bytes count_size) s.rw.counts), w)

  pub length-block_of : length (block_of s) ≡ block_size
  unfolding block_of
  length-block_of = simp (length-append, length-to_bytes, length-vector_bytes s.vector v, length-table)

  module _ (n : s.n < 256) (own : s.own.0 < 256) where
    stored-front : (b : List ℕ) → sets b 0 (block_of s) ≡ numbers_in s b
    unfolding block_of to_bytes vector_bytes
    stored-front b =
        let cr = to_bytes cr_field.size s.cr in
        let rw-bytes = count_bytes s.rw.counts in
        let low_n : s.n % 256 ≡ s.n = omega arith in
        let low_own : s.own.0 % 256 ≡ s.own.0 = omega arith in
        rw (
          low_n,
          low_own,
          up_byte s.up,
          append_assoc (count_bytes s.vector.counts) cr rw-bytes,
          sets-append _ (count_bytes s.vector.counts) (cr ++ rw-bytes) vector_at,
          length-vector_bytes s.vector v,
        )

    pub state-stored : (b : List ℕ) → block_size ≤ length b → numbers_in s b ≡ onto (block_of s) b
    state-stored b room =
        sym (stored-front b) ∙ sets-front (block_of s) b (length (block_of s)) refl (omega (arith, length-block_of))

-- ---- a right block, byte by byte
pub block_told : (b : List ℕ) → block_ok b ≡ (leb (get_or b 2 0) 1 && eqb (get_or b 3 0) 0)
unfolding block_ok
block_told b = rw (from_one 2 b, from_one 3 b)
