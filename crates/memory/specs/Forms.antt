-- A consistent state, test by test, in the forms that loops need. No public call is stated by these.
-- Assumes nothing.
use Rattle.std.specs.Prelude.{◌≡◌, ℕ, suc, ◌+◌, ◌-◌, ◌*◌, ◌≤◌, ◌<◌, List, [], ◌∷◌, map, true, ◌&&◌, cond, Bool, take, drop, length, get_or, leb, eqb, Option, Some, None}
use Rattle.notes.specs.Bytes.{Field, field, pieces}
use Rattle.notes.specs.Index.{servers, server_ok}
use Rattle.notes.specs.Record.{record_size, well_formed, number}
use Rattle.notes.specs.declared.index.ServerId.{ServerId}
use Rattle.notes.specs.Lists.{every}
use Rattle.notes.specs.Vector.{zeros, at}
use Rattle.notes.specs.declared.record.Record.{Record}
use Rattle.notes.specs.Message.{history_most}
use Rattle.rules.specs.Writes.{tally, in_turn, writes_of, count_of}
use Rattle.rules.specs.declared.state.State.{State}
use Rattle.rules.specs.Image.{image_size, log_most, checkpoint_at, log_at, n_field, own_field, checkpoint_offset, log_offset, total_field, spare, checkpoint_count, log_count}
use Rattle.rules.specs.Sound.{v_counts, is_first, is_last, reads_ok}
use Rattle.notes.specs.declared.vector.Vector.{Vector}

-- ---- what the tests ask for

-- an image has all of its bytes, and counts of at most 256 and 64
pub record Sized (i : List ℕ) : Type 0 where
  pub long : image_size ≤ length i
  pub kept : checkpoint_count i ≤ history_most
  pub logged : log_count i ≤ log_most

-- and N and own number are in range
pub record Limits (n : ℕ) (own : ServerId) (i : List ℕ) : Type 0 where
  pub image : Sized i
  pub few : n ≤ servers
  pub low : own.0 < servers

-- these are the bytes of the writes that a state of at most eight servers counts, and a history can hold them
pub record Held (s : State) (history : List (List ℕ)) : Type 0 where
  pub held : length history ≡ s.held
  pub most : length history ≤ history_most
  pub few : s.n ≤ servers

-- ---- a header, number by number

-- where the spare bytes stand, as one number
abbrev pub spare_field : Field
spare_field = record { at = total_field.at + total_field.size; size = spare }

unfoldable pub header_test : ℕ → ServerId → List ℕ → Bool
header_test n own i =
    server_ok n own
    && eqb (get_or i n_field.at 0) n
    && eqb (get_or i own_field.at 0) own.0
    && leb (checkpoint_count i) history_most
    && eqb (field checkpoint_offset i) checkpoint_at
    && leb (log_count i) log_most
    && eqb (field log_offset i) log_at
    && eqb (field total_field i) image_size
    && eqb (field spare_field i) 0

-- these are so many records of a history's bytes
pub record Shown (held : ℕ) (h : List ℕ) (history : List (List ℕ)) : Type 0 where
  pub long : record_size * held ≤ length h
  pub shown : history ≡ pieces record_size held h

-- ---- records in turn

-- the counts of records that are each well formed and next in turn; of others there are none
unfoldable pub walk_of : ℕ → List Record → Option Vector
walk_of n rs = cond (every (well_formed n) rs && in_turn rs) (Some (tally rs)) None

-- ---- up

-- how many of the history's writes past the checkpoint's count are own
abbrev pub tail : ServerId → List Record → List Record → ℕ
tail own c h = count_of own (drop (length c) h)

-- a state and the writes of its history
unfoldable pub history_test : State → List Record → Bool
history_test s h = leb s.held history_most && (every (well_formed s.n) h && in_turn h && v_counts s h)

-- and those of its checkpoint and of its log
unfoldable pub image_test : State → List Record → List Record → List Record → Bool
image_test s h c l =
    leb (length c) (length h)
    && is_first c h
    && leb (tail s.own c h) (length l)
    && eqb s.nwrites (tail s.own c h)
    && is_last l (writes_of s.own h)

unfoldable pub up_test : State → List Record → List Record → List Record → Bool
up_test s h c l = history_test s h && image_test s h c l && reads_ok s

-- ---- down: N, own number, the writes of the checkpoint and of the log

-- the records are each well formed, of origin own, and numbered k + 1, k + 2 and so on
unfoldable pub own_run : ℕ → ServerId → ℕ → List Record → Bool
own_run n own k [] = true
own_run n own k (r ∷ rs) = well_formed n r && eqb r.origin.0 own.0 && eqb (number r) (k + 1) && own_run n own (suc k) rs

-- T at own of the last record, or zero where there is none
unfoldable pub newest : ServerId → List Record → ℕ
newest own l = at (get_or (map (λ r. r.stamp) l) (length l - 1) zeros) own

-- how many of the log's records the checkpoint lacks
abbrev pub added : ServerId → List Record → List Record → ℕ
added own c l = newest own l - count_of own c

-- the log's last records go on from the checkpoint's own writes, and those before them are the last of these
unfoldable pub log_test : ℕ → ServerId → List Record → List Record → Bool
log_test n own c l =
    leb (added own c l) (length l)
    && leb (length c + added own c l) history_most
    && own_run n own (count_of own c) (drop (length l - added own c l) l)
    && is_last (take (length l - added own c l) l) (writes_of own c)

unfoldable pub down_test : ℕ → ServerId → List Record → List Record → Bool
down_test n own c l = every (well_formed n) c && in_turn c && log_test n own c l
