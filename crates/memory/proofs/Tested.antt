-- What each test of a state, a history and an image decides.
-- Assumes nothing.
use Prim.Native.Nat.{ℕ, ◌+◌, ◌-◌, ◌≤◌, ◌<◌}
use mathlib.Core.Bool.{Bool, true, false, ◌&&◌, cond, and-false}
use mathlib.Core.List.{List, [], map}
use mathlib.Core.Path.{◌≡◌, refl, ap, sym, ◌∙◌}
use native.Mathlib.Omega.{arith}
use borrow.Author.Tests.{lt-leb, le-leb}
use lib.Dec.{leb}
use lib.ListN.{length, get_or, take, drop}
use Rattle.std.specs.Prelude.{Option, Some, None}
use Rattle.std.specs.Option.{option_eq}
use Rattle.std.specs.Str.{bytes_eq}
use Rattle.std.proofs.lemmas.List.{nil_from_length}
use Rattle.notes.specs.Lists.{every, same}
use Rattle.notes.specs.Index.{servers}
use Rattle.notes.specs.Vector.{at, vector_from}
use Rattle.notes.specs.Record.{stamp_at, decode, well_formed, records}
use Rattle.notes.specs.Message.{history_most}
use Rattle.notes.specs.declared.index.ServerId.{ServerId}
use Rattle.notes.specs.declared.vector.Vector.{Vector}
use Rattle.notes.specs.declared.record.Record.{Record}
use Rattle.notes.proofs.Lists.{both, same_true}
use Rattle.notes.proofs.Messages.{server-facts}
use Rattle.notes.proofs.Vectors.{zeros-at}
use Rattle.notes.proofs.Records.{length-records}
use Rattle.rules.specs.declared.state.State.{State}
use Rattle.rules.specs.Writes.{writes_of, count_of, tally, in_turn, same_records}
use Rattle.rules.specs.Memory.{Memory, memory}
use Rattle.rules.specs.Image.{image_size, checkpoint_count, log_count, checkpoint_area, log_area, header_ok, checkpoint, log}
use Rattle.rules.specs.Sound.{v_counts, is_first, is_last, reads_ok, is_zero, suits, sound_up, sound_down, sound}
use Rattle.laws.proofs.Places.{records-take}
use Rattle.laws.proofs.Writes.{at-tally, count_of-few, count_of-parts}
use Rattle.memory.specs.Forms.{Limits, Shown, tail, history_test, image_test, up_test, own_run, newest, added, log_test, down_test, walk_of}
use Rattle.memory.proofs.Listed.{length-listed, take-listed, listed-at, listed-records}
use Rattle.memory.proofs.Same.{counts_same}
use Rattle.memory.proofs.Walks.{walked-not, walked, first-fails}
use Rattle.memory.proofs.Header.{numbers}
use Rattle.memory.proofs.Up.{up-test}
use Rattle.memory.proofs.Down.{newest-last, down-test}

-- ---- what a right header says
pub limits : (n : ℕ) (own : ServerId) (i : List ℕ) → image_size ≤ length i → header_ok n own i ≡ true → Limits n own i
limits n own i long e =
    let l = numbers n own i e in
    let s = server-facts n own l.server in
    record {
      image = record { long = long; kept = l.few-kept; logged = l.few-logged };
      few = s.few;
      low = omega (arith, s.few, s.below);
    }

-- a count says how many records there are
pub length-checkpoint : (i : List ℕ) → length (checkpoint i) ≡ checkpoint_count i
unfolding checkpoint
length-checkpoint i = length-records (checkpoint_count i) (checkpoint_area i)

-- its bytes are as many arrays
pub kept-lent : (i : List ℕ) (r : List (List ℕ)) → map decode r ≡ checkpoint i → length r ≡ checkpoint_count i
kept-lent i r e = sym (length-listed r) ∙ ap length e ∙ length-checkpoint i

-- a checkpoint's records compared with as many of a history's bytes
pub first-shown :
    (i h : List ℕ) (history : List (List ℕ)) (held : ℕ)
    → Shown held h history
    → checkpoint_count i ≤ held
    → same_records (records (checkpoint_count i) (checkpoint_area i)) (records (checkpoint_count i) h) ≡ is_first (checkpoint i) (map decode history)
unfolding is_first checkpoint
first-shown i h history held s below =
    let k = checkpoint_count i in
    let taken : records k h ≡ take k (map decode history) =
    sym (records-take k held h below) ∙ ap (take k) (sym (listed-records history held h s.shown)) in
    rw (taken, length-checkpoint i)

pub length-log : (i : List ℕ) → length (log i) ≡ log_count i
unfolding log
length-log i = length-records (log_count i) (log_area i)

-- ---- the history
module _ (s : State) (h : List Record) where
  pub history-many : history_most < s.held → history_test s h ≡ false
  unfolding history_test
  history-many k = rw (lt-leb s.held history_most k)

  history-unwalked : (every (well_formed s.n) h && in_turn h) ≡ false → history_test s h ≡ false
  unfolding history_test
  history-unwalked e = rw (e, and-false)

  -- the walk decides, and what it counted
  pub history-decides :
      s.held ≤ history_most
      → option_eq (λ a b. bytes_eq a.counts b.counts) (walk_of s.n h) (Some s.vector) ≡ history_test s h
  unfolding history_test walk_of v_counts
  history-decides k = rw (le-leb s.held history_most k) (go (every (well_formed s.n) h && in_turn h))
    where
      go :
          (t : Bool)
          → option_eq (λ a b. bytes_eq a.counts b.counts) (cond t (Some (tally h)) None) (Some s.vector)
          ≡ (t && same s.vector.counts (tally h).counts)
      go true = counts_same (tally h).counts s.vector.counts
      go false = refl

  history-counts : history_test s h ≡ true → s.vector.counts ≡ (tally h).counts
  unfolding history_test v_counts
  history-counts e =
      let few = both (leb s.held history_most) _ e in
      let all = both (every (well_formed s.n) h && in_turn h) (v_counts s h) few.1 in
      same_true s.vector.counts (tally h).counts all.1

-- ---- the history as it is lent, and the image of an up server
module _ (s : State) (r : List (List ℕ)) (image : List ℕ) where
  abbrev h : List Record
  h = map decode r

  abbrev past : ℕ
  past = tail s.own (checkpoint image) h

  -- the walk as far as the checkpoint's count
  abbrev first : Option Vector
  first = walk_of s.n (map decode (take (checkpoint_count image) r))

  pub history-stops : walk_of s.n (map decode (take (checkpoint_count image) r)) ≡ None → history_test s (map decode r) ≡ false
  history-stops e = history-unwalked s h (first-fails s.n r (checkpoint_count image) e)

  -- what V counts at own more than is counted there are the own writes past it
  pub counted-past :
      (v : Vector)
      → s.own.0 < servers
      → walk_of s.n (map decode (take (checkpoint_count image) r)) ≡ Some v
      → history_test s (map decode r) ≡ true
      → at s.vector s.own ≡ at v s.own + tail s.own (checkpoint image) (map decode r)
  counted-past v low e ok =
      let k = checkpoint_count image in
      let front = map decode (take k r) in
      ap (λ (l : List ℕ). get_or l s.own.0 0) (history-counts s h ok)
      ∙ at-tally h s.own low
      ∙ count_of-parts s.own k h
      ∙ rw (take-listed r k, (walked s.n front v e).1, at-tally front s.own low, length-checkpoint image)

  -- a checkpoint that is longer is not the first of it
  pub image-many : length r < checkpoint_count image → image_test s (map decode r) (checkpoint image) (log image) ≡ false
  unfolding image_test
  image-many k = rw (lt-leb (length (checkpoint image)) (length h) (omega (arith, length-checkpoint image, length-listed r)))

-- ---- the log's newest number
module _ (own : ServerId) (b : List (List ℕ)) where
  pub newest-none : length b ≤ 0 → newest own (map decode b) ≡ 0
  unfolding newest
  newest-none e = rw (nil_from_length b (omega arith)) (zeros-at servers own.0)

  -- T at own, as it stands in the bytes of the last record
  pub newest-some : 0 < length b → newest own (map decode b) ≡ at (vector_from (drop stamp_at (get_or b (length b - 1) []))) own
  unfolding decode
  newest-some h =
      newest-last own (map decode b) (decode []) (rw length-listed h)
      ∙ rw (length-listed b, listed-at b (length b - 1) (omega arith) [] (decode []))

-- ---- the image of a down server
module _ (n : ℕ) (own : ServerId) (c l : List Record) (t : ℕ) (e : added own c l ≡ t) where
  pub log-long : length l < t → log_test n own c l ≡ false
  unfolding log_test
  log-long h = rw (lt-leb (added own c l) (length l) (omega arith))

  pub log-many : history_most < length c + t → log_test n own c l ≡ false
  unfolding log_test
  log-many h = rw (lt-leb (length c + added own c l) history_most (omega arith), and-false)

  -- where so many fit, the last of the log and those before them decide
  pub log-decides :
      t ≤ length l
      → length c + t ≤ history_most
      → log_test n own c l ≡ (own_run n own (count_of own c) (drop (length l - t) l) && is_last (take (length l - t) l) (writes_of own c))
  unfolding log_test
  log-decides h k =
      rw (
        le-leb (added own c l) (length l) (omega arith),
        le-leb (length c + added own c l) history_most (omega arith),
        e,
      )

module _ (n : ℕ) (own : ServerId) (image : List ℕ) where
  pub kept-few : checkpoint_count image ≤ history_most → count_of own (checkpoint image) ≤ history_most
  kept-few h = omega (arith, count_of-few own (checkpoint image), length-checkpoint image)

  -- as the two counts show it
  pub many_fails :
      history_most < checkpoint_count image + added own (checkpoint image) (log image)
      → false ≡ log_test n own (checkpoint image) (log image)
  many_fails h = sym (log-many n own (checkpoint image) (log image) _ refl (omega (arith, length-checkpoint image)))

  -- ---- the whole of it
  pub suits-not : header_ok n own image ≡ false → suits n own image ≡ false
  unfolding suits
  suits-not e = rw e

  module _ (low : own.0 < servers) where
    pub suits-unwalked : walk_of n (checkpoint image) ≡ None → suits n own image ≡ false
    unfolding suits down_test
    suits-unwalked e = rw (down-test n own (checkpoint image) (log image) low, walked-not n (checkpoint image) e, and-false)

    -- the walk counts the checkpoint's own writes
    module _ (v : Vector) (e : walk_of n (checkpoint image) ≡ Some v) where
      pub walked-own : at v own ≡ count_of own (checkpoint image)
      walked-own = ap (λ (v : Vector). at v own) (walked n (checkpoint image) v e).1 ∙ at-tally (checkpoint image) own low

      pub suits-walked : header_ok n own image ≡ true → log_test n own (checkpoint image) (log image) ≡ suits n own image
      unfolding suits down_test
      suits-walked h = rw (h, down-test n own (checkpoint image) (log image) low, (walked n (checkpoint image) v e).0)

-- ---- a state with its buffers
module _ (s : State) (history image : List ℕ) where
  abbrev m : Memory
  m = memory s history image

  abbrev wr : List Record
  wr = records s.held history

  pub up-not : header_ok s.n s.own image ≡ false → sound_up m ≡ false
  unfolding sound_up
  up-not e = rw e

  module _ (low : s.own.0 < servers) where
    pub up-no-history : history_test s wr ≡ false → sound_up m ≡ false
    unfolding sound_up up_test
    up-no-history e = rw (up-test s wr (checkpoint image) (log image) low, e, and-false)

    pub up-no-image : image_test s wr (checkpoint image) (log image) ≡ false → sound_up m ≡ false
    unfolding sound_up up_test
    up-no-image e = rw (up-test s wr (checkpoint image) (log image) low, e, and-false, and-false)

    pub up-decides :
        header_ok s.n s.own image ≡ true
        → history_test s wr ≡ true
        → image_test s wr (checkpoint image) (log image) ≡ true
        → reads_ok s ≡ sound_up m
    unfolding sound_up up_test
    up-decides a b d = rw (up-test s wr (checkpoint image) (log image) low, a, b, d)

  pub sound-up : s.up ≡ true → sound_up m ≡ sound m
  unfolding sound
  sound-up e = sym (ap (λ (t : Bool). cond t (sound_up m) (sound_down m)) e)

  sound-down : s.up ≡ false → sound_down m ≡ sound m
  unfolding sound
  sound-down e = sym (ap (λ (t : Bool). cond t (sound_up m) (sound_down m)) e)

  pub down-not : s.up ≡ false → is_zero s ≡ false → sound m ≡ false
  unfolding sound_down
  down-not e z = sym (sound-down e) ∙ rw z

  pub down-decides : s.up ≡ false → is_zero s ≡ true → suits s.n s.own image ≡ sound m
  unfolding sound_down
  down-decides e z = sym (rw z) ∙ sound-down e

  -- the image of a sound state that is down suits recovery
  pub down-suits : s.up ≡ false → sound m ≡ true → suits s.n s.own image ≡ true
  unfolding sound_down
  down-suits e o = (both (is_zero s) (suits s.n s.own image) (sound-down e ∙ o)).1
