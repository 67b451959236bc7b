-- Scripts: turns at several servers, with what is said and what is left after each.
-- Assumes nothing.
use Prim.Native.Nat.{ℕ, zero, suc, ◌-◌}
use mathlib.Core.Bool.{Bool, true, false, ◌&&◌, not, cond}
use mathlib.Core.List.{List, [], ◌∷◌, ◌++◌, map, foldr}
use lib.Dec.{T, eqb}
use lib.ListN.{length, get_or, take, drop, set, replicate}
use Rattle.notes.specs.Lists.{same}
use Rattle.notes.specs.Index.{servers}
use Rattle.notes.specs.Vector.{vector, zeros}
use Rattle.notes.specs.Record.{record_bytes}
use Rattle.notes.specs.declared.record.Record.{Record}
use Rattle.notes.specs.declared.vector.Vector.{Vector}
use Rattle.rules.specs.declared.event.Request.TheVariants.{Read, Write}
use Rattle.rules.specs.declared.event.What.{What}
use Rattle.rules.specs.declared.event.What.TheVariants as what
use Rattle.rules.specs.declared.state.ReadTable.{ReadTable}
use Rattle.rules.specs.Writes.{server_ids, writes_of, same_records, server}
use Rattle.rules.specs.Memory.{members, phone, State, Memory, no_reads, writes}
use Rattle.rules.specs.Image.{log_at, header_of}
use Rattle.rules.specs.Sound.{last}
use Rattle.rules.specs.Answer.{Effect}
use Rattle.rules.specs.Step.{Rule, step}
use Rattle.rules.specs.Calls.{fresh, own_message}

-- a vector whose first counts are these and whose others are zero
abbrev pub vec : List ℕ → Vector
vec l = vector (l ++ replicate (servers - length l) 0)

-- the write of phone 5 to cell 300, with this origin, value and T
abbrev pub note : ℕ → ℕ → List ℕ → Record
note o value t =
    record { origin = server o; phone = phone 5; cell = 300; value = value; time = 900; stamp = vec t }

-- ---- what happens

-- the message may be what another server writes
pub record Act : Type 0 where
  pub at : ℕ
  pub what : What
  pub vector : Vector
  pub message : List Memory → List ℕ

abbrev pub act : ℕ → What → List ℕ → Act
act j w l = record { at = j; what = w; vector = vec l; message = λ farm. [] }

abbrev pub write_with : (at value : ℕ) (carried : List ℕ) → Act
write_with j x l = act j (what.Request (phone 5) (Write 300 x 900)) l

abbrev pub write5 : (at value : ℕ) → Act
write5 j x = write_with j x []

abbrev pub read : (at who : ℕ) (carried : List ℕ) → Act
read j i l = act j (what.Request (phone i) (Read 300)) l

abbrev pub write_cut : (at value stores : ℕ) → Act
write_cut j x k = act j (what.RequestCut (phone 5) (Write 300 x 900) k) []

abbrev pub read_cut : (at who : ℕ) (carried : List ℕ) (stores : ℕ) → Act
read_cut j i l k = act j (what.RequestCut (phone i) (Read 300) k) l

abbrev pub cut : (at : ℕ) → Act
cut j = act j what.Cut []

abbrev pub recover : (at : ℕ) → Act
recover j = act j what.Recovery []

abbrev pub no_server : Memory
no_server = fresh 0 (server 0) [] []

-- a message of these bytes, or the one that server k now writes
abbrev pub take_bytes : (at : ℕ) (message : List ℕ) → Act
take_bytes j m = record { at = j; what = what.Update; vector = zeros; message = λ farm. m }

abbrev pub take_from : (at sender : ℕ) → Act
take_from j k = record { at = j; what = what.Update; vector = zeros; message = λ farm. own_message (get_or farm k no_server) }

-- ---- what is said: the reply in document 01's number and values, and the vector beside it

pub record Said : Type 0 where
  pub number : ℕ
  pub values : List ℕ
  pub vector : Vector

abbrev serving : List ℕ → List ℕ → Said
serving values l = record { number = 0; values = values ++ (vec l).counts; vector = vec l }

abbrev pub wrote : List ℕ → Said
wrote l = serving [] l

abbrev pub value : ℕ → List ℕ → Said
value x l = serving (1 ∷ x ∷ []) l

abbrev pub no_note : List ℕ → Said
no_note l = serving (0 ∷ []) l

abbrev pub refusal : ℕ → Said
refusal k = record { number = k; values = []; vector = zeros }

abbrev pub done : Said
done = refusal 0

-- ---- what is left

pub record Reader : Type 0 where
  pub who : ℕ
  pub rw : ℕ

-- V, the checkpoint's and the log's count, the phones in CR each with its RW, nWrites, and three lists of writes: those held,
-- those whose bytes the history buffer shows, and those of which the checkpoint has the first and the log the last own ones
pub record Left : Type 0 where
  pub up : Bool
  pub v : Vector
  pub checkpoint : ℕ
  pub log : ℕ
  pub readers : List Reader
  pub nwrites : ℕ
  pub held : List Record
  pub shown : List Record
  pub kept : List Record

abbrev pub reader : ℕ → ℕ → Reader
reader i k = record { who = i; rw = k }

-- a server that is up: the three are its history
abbrev pub leaves : List ℕ → (checkpoint log : ℕ) → List Reader → (nwrites : ℕ) → List Record → Left
leaves l c g rs k h =
    record { up = true; v = vec l; checkpoint = c; log = g; readers = rs; nwrites = k; held = h; shown = h; kept = h }

-- one that is down: it holds nothing, its buffer is as it was, and a write that was cut stands in its image alone
abbrev pub cut_amid : (checkpoint log : ℕ) (history kept : List Record) → Left
cut_amid c g h k =
    record {
      up = false;
      v = vec [];
      checkpoint = c;
      log = g;
      readers = [];
      nwrites = 0;
      held = [];
      shown = h;
      kept = k;
    }

-- one that is down, with no write but those of its buffer
abbrev pub down : (checkpoint log : ℕ) (history : List Record) → Left
down c g h = cut_amid c g h h

abbrev pub says : Said → Effect → Bool
says w e =
    eqb e.reply.number w.number
    && same e.reply.values w.values
    && same e.vector.counts w.vector.counts

abbrev pub table_of : List Reader → ReadTable
table_of rs = record { counts = foldr (λ r t. set t r.who r.rw) no_reads.counts rs }

-- N and own number are those that were; all other numbers are these
abbrev pub is_state : Left → (before after : State) → Bool
is_state w b s =
    cond w.up s.up (not s.up)
    && eqb s.n b.n
    && eqb s.own.0 b.own.0
    && same s.vector.counts w.v.counts
    && same (map (λ i. i.0) (members s.cr)) (map (λ r. r.who) w.readers)
    && same s.rw.counts (table_of w.readers).counts
    && eqb s.nwrites w.nwrites

-- bytes begin with these
abbrev begins : List ℕ → List ℕ → Bool
begins b l = same (take (length b) l) b

-- all are zero
unfoldable pub all_zero : List ℕ → Bool
all_zero [] = true
all_zero (zero ∷ l) = all_zero l
all_zero (suc x ∷ l) = false

-- the records' bytes, then zeros to the end of the buffer, which is as long as it was
abbrev pub is_history : List Record → (before after : List ℕ) → Bool
is_history rs b h =
    let bytes = record_bytes rs in begins bytes h && all_zero (drop (length bytes) h) && eqb (length h) (length b)

-- the header, the bytes of the checkpoint's records behind it and those of the log's at their place; the image is as long as
-- it was, and its bytes past the counts mean nothing
abbrev pub is_image : Left → State → (before after : List ℕ) → Bool
is_image w s b i =
    begins (header_of s.n s.own w.checkpoint w.log ++ record_bytes (take w.checkpoint w.kept)) i
    && begins (record_bytes (last w.log (writes_of s.own w.kept))) (drop log_at i)
    && eqb (length i) (length b)

abbrev pub is_left : Left → (before after : Memory) → Bool
is_left w b m =
    is_state w b.state m.state
    && same_records (writes m) w.held
    && is_history w.shown b.history m.history
    && is_image w b.state b.image m.image

-- ---- scripts

pub record Turn : Type 0 where
  pub act : Act
  pub said : Said
  pub left : Left

abbrev pub turn : Act → Said → Left → Turn
turn a s l = record { act = a; said = s; left = l }

pub record Script : Type 0 where
  pub servers : List Memory
  pub turns : List Turn

-- at servers with these memories
abbrev pub script_from : List Memory → List Turn → Script
script_from ms ts = record { servers = ms; turns = ts }

-- at N fresh servers, one to each number
abbrev pub script : ℕ → List Turn → Script
script n ts = script_from (map (λ own. fresh n own [] []) (take n server_ids)) ts

abbrev pub does : Rule → Memory → List Memory → Act → Effect
does rule m farm a =
    rule m (record { server = server a.at; what = a.what }) a.vector (a.message farm)

unfoldable pub runs_by : Rule → List Memory → List Turn → Bool
runs_by rule farm [] = true
runs_by rule farm (t ∷ ts) =
    let m = get_or farm t.act.at no_server in
    let e = does rule m farm t.act in
    says t.said e && is_left t.left m e.after && runs_by rule (set farm t.act.at e.after) ts

-- each turn says and leaves this: by the step, or by a wrong rule
abbrev pub runs : List Memory → List Turn → Bool
runs farm ts = runs_by step farm ts

unfoldable pub holds_by : Rule → Script → Bool
holds_by rule x = runs_by rule x.servers x.turns

abbrev pub holds : Script → Bool
holds x = holds_by step x

-- the statement over a table: each of its scripts holds
abbrev pub AllHold : List Script → Type 0
AllHold [] = Unit {0}
AllHold (x ∷ xs) = T (holds x) × AllHold xs
