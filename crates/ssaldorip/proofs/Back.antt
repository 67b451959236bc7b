-- A state written into its block is read back as the same state, and a right block written again has the same bytes; and so for a session.
-- Assumes nothing.
use Prim.Native.Nat.{ℕ, zero, suc, ◌+◌, ◌*◌, ◌<◌, ◌≤◌}
use mathlib.Core.Bool.{Bool, true, false, cond}
use mathlib.Core.List.{List, [], ◌∷◌, ◌++◌, flat_map, append_assoc}
use mathlib.Core.Path.{◌≡◌, refl, ap, sym, ◌∙◌}
use native.Mathlib.Omega.{arith}
use borrow.Author.Tests.{eqb-true, leb-true}
use lib.Dec.{eqb, leb}
use lib.ListN.{length, take, drop, length-take, length-drop}
use lib.Seq.{take_at, drop_at, drop-drop, take-add}
use Rattle.std.specs.Prelude.{Ok}
use Rattle.notes.specs.Bytes.{field, from_bytes, to_bytes, pieces}
use Rattle.notes.specs.Index.{servers, phones}
use Rattle.notes.specs.Vector.{vector, count_size, counts_in, count_bytes, vector_from, vector_bytes}
use Rattle.notes.specs.declared.vector.Vector.{Vector}
use Rattle.notes.specs.Session.{choice_number, choose}
use Rattle.notes.specs.declared.session.Choice.{Choice}
use Rattle.notes.specs.declared.session.Session.{Session}
use Rattle.notes.proofs.Lists.{both, part_join, parts_join}
use Rattle.notes.proofs.Numbers.{AllBelow, below-take, below-drop, one_byte, from-to, to-from, length-to_bytes, part-back, byte-join}
use Rattle.notes.proofs.Sessions.{Eight, choose-number, number-chosen}
use Rattle.notes.proofs.Vectors.{length-counts_in, length-vector_bytes, length-vector_from}
use Rattle.rules.specs.declared.state.State.{State}
use Rattle.ssaldorip.specs.Calls.{vector_size, block_size, up_field, spare_field, vector_at, cr_field, rw_at, block_ok, state_in, state_of, block_of, onto}
use Rattle.ssaldorip.specs.Sessions.{writes_at, choice_field, session_size, session_in, session_bytes}
use Rattle.ssaldorip.proofs.Stored.{length-block_of}
use Rattle.ssaldorip.proofs.Raised.{length-session_bytes, in-eight}

-- each number fits its bytes
pub record FitsBlock (s : State) : Type 0 where
  pub n : s.n < 256
  pub own : s.own.0 < 256
  pub held : s.held < 65536
  pub nwrites : s.nwrites < 65536
  pub cr : s.cr < 18446744073709551616
  pub eight : length s.vector.counts ≡ servers
  pub vector : AllBelow 65536 s.vector.counts
  pub sixty-four : length s.rw.counts ≡ phones
  pub rw : AllBelow 65536 s.rw.counts

-- ---- counts and their bytes, with more bytes behind them
counts-back : (l r : List ℕ) → AllBelow 65536 l → counts_in (length l) (count_bytes l ++ r) ≡ l
unfolding pieces flat_map to_bytes
counts-back [] r h = refl
counts-back (x ∷ l) r h = rw (from-to count_size x (h 0), counts-back l r (λ i. h (suc i)))

vector-back : (v : Vector) (r : List ℕ) → length v.counts ≡ servers → AllBelow 65536 v.counts → vector_from (vector_bytes v ++ r) ≡ v
unfolding vector_from vector_bytes
vector-back v r l h =
    ap vector (ap (λ (k : ℕ). counts_in k (vector_bytes v ++ r)) (sym l) ∙ counts-back v.counts r h)

counts-again : (k : ℕ) (b : List ℕ) → count_size * k ≤ length b → AllBelow 256 b → count_bytes (counts_in k b) ≡ take (count_size * k) b
unfolding pieces flat_map
counts-again zero b l h = refl
counts-again (suc k) b l h =
    let e : count_size * suc k ≡ count_size + count_size * k = omega arith in
    rw (
      e,
      to-from count_size (take count_size b) (simp length-take (omega arith)) (below-take count_size b h),
      counts-again k (drop count_size b) (simp length-drop (omega arith)) (below-drop count_size b h),
      take-add count_size (count_size * k) b,
    )

-- ---- a state and its block
up_ok : (up : Bool) → leb (from_bytes (cond up 1 0 ∷ [])) 1 ≡ true
unfolding from_bytes
up_ok true = refl
up_ok false = refl

up-back : (up : Bool) → eqb (from_bytes (cond up 1 0 ∷ [])) 1 ≡ up
unfolding from_bytes
up-back true = refl
up-back false = refl

module _ (s : State) (r : List ℕ) (h : FitsBlock s) where
  block-ok : block_ok (block_of s ++ r) ≡ true
  unfolding block_ok block_of
  block-ok = rw (up_ok s.up, one_byte 0)

  -- what stands behind CR
  after-cr : List ℕ
  after-cr = count_bytes s.rw.counts ++ r

  from_vector : drop vector_at (block_of s ++ r) ≡ vector_bytes s.vector ++ (to_bytes cr_field.size s.cr ++ after-cr)
  unfolding block_of to_bytes after-cr
  from_vector = simp append_assoc

  from-cr : drop cr_field.at (block_of s ++ r) ≡ to_bytes cr_field.size s.cr ++ after-cr
  from-cr =
      sym (drop-drop (count_size * servers) vector_at (block_of s ++ r))
      ∙ rw from_vector (drop_at (vector_bytes s.vector) (to_bytes cr_field.size s.cr ++ after-cr) (count_size * servers) (length-vector_bytes s.vector h.eight))

  from-rw : drop rw_at (block_of s ++ r) ≡ after-cr
  from-rw =
      sym (drop-drop cr_field.size cr_field.at (block_of s ++ r))
      ∙ rw from-cr (drop_at (to_bytes cr_field.size s.cr) after-cr cr_field.size (length-to_bytes cr_field.size s.cr))

  cr-back : field cr_field (block_of s ++ r) ≡ s.cr
  cr-back =
      rw (from-cr, take_at (to_bytes cr_field.size s.cr) after-cr cr_field.size (length-to_bytes cr_field.size s.cr))
      (from-to cr_field.size s.cr h.cr)

  rw-back : counts_in phones (drop rw_at (block_of s ++ r)) ≡ s.rw.counts
  unfolding after-cr
  rw-back = rw (from-rw, ← h.sixty-four) (counts-back s.rw.counts r h.rw)

  in-back : state_in (block_of s ++ r) ≡ s
  unfolding state_in block_of to_bytes
  in-back =
      λ i. record {
        n = one_byte s.n i;
        own = record { 0 = one_byte s.own.0 i };
        up = up-back s.up i;
        held = from-to 2 s.held h.held i;
        vector = (ap vector_from from_vector ∙ vector-back s.vector (to_bytes cr_field.size s.cr ++ after-cr) h.eight h.vector) i;
        cr = cr-back i;
        rw = record { counts = rw-back i };
        nwrites = from-to 2 s.nwrites h.nwrites i;
      }

  of-back : state_of (block_of s ++ r) ≡ s
  unfolding state_of
  of-back = rw block-ok in-back

pub block_back : (s : State) (b : List ℕ) → FitsBlock s → state_of (onto (block_of s) b) ≡ s
block_back s b h = of-back s (drop (length (block_of s)) b) h

-- ---- a right block, and its state's bytes

-- two parts behind others, and what follows them
two-join :
    (a : List ℕ) (u v i : ℕ) (b : List ℕ)
    → a ++ take u (drop i b) ++ take v (drop (i + u) b) ++ drop (i + u + v) b ≡ a ++ drop i b
two-join a u v i b = simp append_assoc (rw (part_join v (i + u) b, part_join u i b))

up-again : (x : ℕ) → leb x 1 ≡ true → cond (eqb x 1) 1 0 ≡ x
up-again zero e = refl
up-again (suc zero) e = refl
up-again (suc (suc x)) e = absurd (omega (arith, leb-true (suc (suc x)) 1 e))

module _ (b : List ℕ) (h : AllBelow 256 b) (room : block_size ≤ length b) (ok : block_ok b ≡ true) where
  up_same : cond (eqb (field up_field b) 1) 1 0 ≡ field up_field b
  unfolding block_ok
  up_same = up-again (field up_field b) (both (leb (field up_field b) 1) _ ok).0

  spare-same : field spare_field b ≡ 0
  unfolding block_ok
  spare-same = eqb-true (field spare_field b) 0 (both (leb (field up_field b) 1) _ ok).1

  vector-again : vector_bytes (vector_from (drop vector_at b)) ≡ take (count_size * servers) (drop vector_at b)
  unfolding vector_bytes vector_from
  vector-again = counts-again servers (drop vector_at b) (simp length-drop (omega arith)) (below-drop vector_at b h)

  rw-again : count_bytes (counts_in phones (drop rw_at b)) ≡ take (count_size * phones) (drop rw_at b)
  rw-again = counts-again phones (drop rw_at b) (simp length-drop (omega arith)) (below-drop rw_at b h)

  in-again : block_of (state_in b) ++ drop block_size b ≡ b
  unfolding block_of state_in
  in-again =
      rw (
        up_same,
        ← spare-same,
        part-back 2 4 b (omega arith) h,
        part-back 2 6 b (omega arith) h,
        part-back 8 24 b (omega arith) h,
        vector-again,
        rw-again,
        two-join (take 2 (drop 4 b) ++ take 2 (drop 6 b) ++ take 16 (drop 8 b)) 8 128 24 b,
        parts_join 2 2 16 4 b,
        byte-join 3 b (omega arith),
        byte-join 2 b (omega arith),
        byte-join 1 b (omega arith),
        byte-join 0 b (omega arith),
      )

  pub block-again : onto (block_of (state_of b)) b ≡ b
  unfolding state_of state_in
  block-again = rw (ok, length-block_of (state_in b) (length-vector_from (drop vector_at b)) (length-counts_in phones (drop rw_at b))) in-again

-- ---- a session and its bytes

pub record FitsSession (s : Session) : Type 0 where
  pub eight : Eight s
  pub reads : AllBelow 65536 s.reads.counts
  pub writes : AllBelow 65536 s.writes.counts

module _ (s : Session) (h : FitsSession s) (r : List ℕ) where
  abbrev bytes : List ℕ
  bytes = session_bytes s ++ r

  abbrev from-choice : List ℕ
  from-choice = choice_number s.choice ∷ r

  from-reads : bytes ≡ vector_bytes s.reads ++ (vector_bytes s.writes ++ from-choice)
  from-reads = simp append_assoc

  from-writes : drop writes_at bytes ≡ vector_bytes s.writes ++ from-choice
  from-writes = rw from-reads (drop_at (vector_bytes s.reads) (vector_bytes s.writes ++ from-choice) writes_at (length-vector_bytes s.reads h.eight.reads))

  last : drop choice_field.at bytes ≡ from-choice
  last =
      sym (drop-drop vector_size writes_at bytes)
      ∙ rw from-writes (drop_at (vector_bytes s.writes) from-choice vector_size (length-vector_bytes s.writes h.eight.writes))

  choice-back : choose (field choice_field bytes) ≡ Ok s.choice
  choice-back = rw last (ap choose (one_byte (choice_number s.choice)) ∙ choose-number s.choice)

  vectors-back : session_in s.choice bytes ≡ s
  vectors-back = λ i. record {
    choice = s.choice;
    reads = (ap vector_from from-reads ∙ vector-back s.reads (vector_bytes s.writes ++ from-choice) h.eight.reads h.reads) i;
    writes = (ap vector_from from-writes ∙ vector-back s.writes from-choice h.eight.writes h.writes) i;
  }

pub session-back :
    (s : Session) (b : List ℕ)
    → FitsSession s
    → let z = onto (session_bytes s) b in (choose (field choice_field z) ≡ Ok s.choice) × (session_in s.choice z ≡ s)
session-back s b h =
    let r = drop (length (session_bytes s)) b in
    (choice-back s h r, vectors-back s h r)

pub session-again :
    (c : Choice) (b : List ℕ)
    → AllBelow 256 b
    → session_size ≤ length b
    → choose (field choice_field b) ≡ Ok c
    → onto (session_bytes (session_in c b)) b ≡ b
unfolding vector_from vector_bytes
session-again c b h room e =
    let reads : vector_bytes (vector_from b) ≡ take vector_size b = counts-again servers b (omega arith) h in
    let writes : vector_bytes (vector_from (drop writes_at b)) ≡ take vector_size (drop writes_at b) = counts-again servers (drop writes_at b) (simp length-drop (omega arith)) (below-drop writes_at b h) in
    let l = length-session_bytes (session_in c b) (in-eight c b) in
    rw (l, reads, writes, number-chosen (field choice_field b) c e)
    (append_assoc (take vector_size b ++ take vector_size (drop writes_at b)) (field choice_field b ∷ []) (drop session_size b)
    ∙ ap (λ (r : List ℕ). take vector_size b ++ take vector_size (drop writes_at b) ++ r) (byte-join choice_field.at b (omega arith))
    ∙ two-join [] vector_size vector_size 0 b)
