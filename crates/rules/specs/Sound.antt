-- What recovery makes from an image, and which states are sound, up and down.
-- Assumes nothing.
use Rattle.std.specs.Prelude.{ℕ, ◌-◌, ◌*◌, true, Bool, ◌&&◌, ◌||◌, cond, List, [], ◌∷◌, ◌++◌, ltb, leb, eqb, length, drop, replicate, take}
use Rattle.notes.specs.Vector.{at, raised}
use Rattle.notes.specs.Record.{record_size, number, record_bytes, well_formed}
use Rattle.rules.specs.Memory.{State, Memory, memory, blank, holding, noting, no_reads, PhoneId, phone_ids, in_cr, rw_at, writes}
use Rattle.rules.specs.Writes.{Vector, Record, ServerId, keep, count_of, tally, writes_of, in_turn, same_records}
use Rattle.rules.specs.Image.{history_size, checkpoint, log, header_ok}
use Rattle.notes.specs.Lists.{every, same}
use Rattle.notes.specs.Message.{history_most}

-- ---- recovery, from the checkpoint's records and the log's

-- log records numbered above V[own], in order; V is counted from the checkpoint's records
unfoldable pub later : ServerId → List Record → List Record → List Record
later own kept logged = keep (λ r. ltb (at (tally kept) own) (number r)) logged

-- the history is the checkpoint, then these
unfoldable pub recovered : ServerId → List Record → List Record → List Record
recovered own kept logged = kept ++ later own kept logged

-- V raised at own only
unfoldable pub raised_by : ServerId → Vector → List Record → Vector
raised_by own v [] = v
raised_by own v (r ∷ rs) = raised_by own (raised v own (number r)) rs

unfoldable pub recovered_vector : ServerId → List Record → List Record → Vector
recovered_vector own kept logged = raised_by own (tally kept) (later own kept logged)

-- CR and RW empty; nWrites is V[own] less the checkpoint's own count
unfoldable pub recovered_state : ℕ → ServerId → List Record → List Record → State
recovered_state n own kept logged =
    let v = recovered_vector own kept logged in
    noting 0 no_reads (at v own - count_of own kept) (holding (length (recovered own kept logged)) v (blank true n own))

-- ---- recovery in memory

-- the buffer's remaining bytes are zero, and what lies past its size stays
unfoldable pub recovered_history : List Record → List ℕ → List ℕ
recovered_history rs h = record_bytes rs ++ replicate (history_size - record_size * length rs) 0 ++ drop history_size h

-- the image isn't touched
unfoldable pub recover : Memory → Memory
recover m =
    let own = m.state.own in
    let kept = checkpoint m.image in
    let logged = log m.image in
    memory (recovered_state m.state.n own kept logged) (recovered_history (recovered own kept logged) m.history) m.image

-- ---- sound, up: a state, the writes of its history, of its checkpoint and of its log; a sentence each

-- V at each position is the count of that origin's writes
unfoldable pub v_counts : State → List Record → Bool
v_counts s h = same s.vector.counts (tally h).counts

-- the checkpoint's records are the first of the history
unfoldable pub is_first : List Record → List Record → Bool
is_first c h = same_records c (take (length c) h)

-- the last k of a list
abbrev pub last : ℕ → List Record → List Record
last k rs = drop (length rs - k) rs

-- log records equal the history's own writes of consecutive numbers ending at V[own]
unfoldable pub is_last : List Record → List Record → Bool
is_last l mine = same_records l (last (length l) mine)

-- the checkpoint holds every own write before the first of the log, or, with an empty log, all
unfoldable pub holds_before : ServerId → List Record → List Record → List Record → Bool
holds_before own c l h = leb (count_of own h - length l) (count_of own c)

-- nWrites is V[own] less the checkpoint's own count
unfoldable pub writes_ok : State → List Record → Bool
writes_ok s c = eqb s.nwrites (at s.vector s.own - count_of s.own c)

-- RW is at most nWrites, and zero outside CR
abbrev pub rw_ok : State → PhoneId → Bool
rw_ok s i = leb (rw_at s i) s.nwrites && (in_cr s i || eqb (rw_at s i) 0)

unfoldable pub reads_ok : State → Bool
reads_ok s = every (rw_ok s) phone_ids

unfoldable pub consistent : State → List Record → List Record → List Record → Bool
consistent s h c l =
    leb s.held history_most
    && every (well_formed s.n) h
    && in_turn h
    && v_counts s h
    && is_first c h
    && is_last l (writes_of s.own h)
    && holds_before s.own c l h
    && writes_ok s c
    && reads_ok s

-- ---- sound, down: the state's numbers are zero but for N and own number; the state that recovery makes is sound

unfoldable pub is_zero : State → Bool
is_zero s =
    eqb s.held 0
    && every (λ x. eqb x 0) s.vector.counts
    && eqb s.cr 0
    && every (λ x. eqb x 0) s.rw.counts
    && eqb s.nwrites 0

-- the image suits a down state of this N and own number
unfoldable pub suits : ℕ → ServerId → List ℕ → Bool
suits n own i =
    let kept = checkpoint i in
    let logged = log i in
    header_ok n own i && consistent (recovered_state n own kept logged) (recovered own kept logged) kept logged

-- ---- both

unfoldable pub sound_up : Memory → Bool
sound_up m =
    header_ok m.state.n m.state.own m.image
    && consistent m.state (writes m) (checkpoint m.image) (log m.image)

unfoldable pub sound_down : Memory → Bool
sound_down m = is_zero m.state && suits m.state.n m.state.own m.image

unfoldable pub sound : Memory → Bool
sound m = cond m.state.up (sound_up m) (sound_down m)
