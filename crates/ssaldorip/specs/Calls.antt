-- The boundary: its version, a state as a block of 160 bytes, and the calls on numbers and bytes.
-- Assumes nothing.
use Rattle.std.specs.Prelude.{ℕ, ◌+◌, ◌*◌, Bool, false, ◌&&◌, cond, ◌||◌, List, ◌∷◌, ◌++◌, [], eqb, leb, ltb, drop, length, get_or, replicate, Some, None}
use Rattle.std.specs.Prelude.{Option as Maybe}
use Rattle.std.proofs.Math.Option.{Option, none, some}
use Rattle.notes.specs.Bytes.{Field, field, to_bytes}
use Rattle.notes.specs.Index.{phones, servers}
use Rattle.notes.specs.Vector.{count_size, counts_in, count_bytes, vector_from, vector_bytes}
use Rattle.notes.specs.declared.vector.Vector.{Vector}
use Rattle.notes.specs.Record.{record_size, encode}
use Rattle.notes.specs.declared.record.Record.{Record}
use Rattle.notes.specs.Message.{read_at, place_after}
use Rattle.notes.specs.Reply.{Reply, Filled}
use Rattle.rules.specs.Memory.{blank, Memory, memory}
use Rattle.rules.specs.declared.state.State.{State}
use Rattle.rules.specs.Image.{n_field, own_field}
use Rattle.rules.specs.Writes.{server}
use Rattle.rules.specs.Answer.{Effect, refusal_number}
use Rattle.rules.specs.declared.answer.Refusal.{Refusal}
use Rattle.rules.specs.Step.{step}
use Rattle.rules.specs.declared.event.What.{What}
use Rattle.rules.specs.Calls.{judge, status, message}

-- it grows whenever a signature, a size or what a call returns changes
abbrev pub version : ℕ
version = 2

-- ---- a state in its block

abbrev pub block_size : ℕ
block_size = 160

abbrev pub up_field : Field
up_field = record { at = 2; size = 1 }

abbrev pub spare_field : Field
spare_field = record { at = 3; size = 1 }

abbrev pub held_field : Field
held_field = record { at = 4; size = 2 }

abbrev pub nwrites_field : Field
nwrites_field = record { at = 6; size = 2 }

abbrev pub vector_at : ℕ
vector_at = 8

abbrev pub cr_field : Field
cr_field = record { at = 24; size = 8 }

abbrev pub rw_at : ℕ
rw_at = 32

-- up is 0 or 1, and the spare byte is zero
unfoldable pub block_ok : List ℕ → Bool
block_ok b = leb (field up_field b) 1 && eqb (field spare_field b) 0

unfoldable pub state_in : List ℕ → State
state_in b =
    record {
      n = field n_field b;
      own = server (field own_field b);
      up = eqb (field up_field b) 1;
      held = field held_field b;
      vector = vector_from (drop vector_at b);
      cr = field cr_field b;
      rw = record { counts = counts_in phones (drop rw_at b) };
      nwrites = field nwrites_field b;
    }

-- a block that is not right has the state of no server, which is unsound
unfoldable pub state_of : List ℕ → State
state_of b = cond (block_ok b) (state_in b) (blank false 0 (server 0))

unfoldable pub block_of : State → List ℕ
block_of s =
    s.n
    ∷ s.own.0
    ∷ cond s.up 1 0
    ∷ 0
    ∷ to_bytes 2 s.held
    ++ to_bytes 2 s.nwrites
    ++ vector_bytes s.vector
    ++ to_bytes 8 s.cr
    ++ count_bytes s.rw.counts

-- ---- a call

abbrev pub vector_size : ℕ
vector_size = count_size * servers

abbrev pub read_size : ℕ
read_size = 5 + vector_size

-- what is lent to a call, and what it answers and leaves
pub record Lent : Type 0 where
  pub state : List ℕ
  pub history : List ℕ
  pub image : List ℕ
  pub reply : List ℕ

pub record Called : Type 0 where
  pub number : ℕ
  pub lent : Lent

abbrev pub lent : List ℕ → List ℕ → List ℕ → List ℕ → Lent
lent b h i out = record { state = b; history = h; image = i; reply = out }

abbrev pub called : ℕ → Lent → Called
called k l = record { number = k; lent = l }

-- bytes at the start of others, which stay past them
abbrev pub onto : List ℕ → List ℕ → List ℕ
onto bytes b = bytes ++ drop (length bytes) b

-- done: the next state in the block, and the reply's bytes
abbrev pub leaves : Effect → List ℕ → Lent → Lent
leaves e bytes l = lent (onto (block_of e.after.state) l.state) e.after.history e.after.image (onto bytes l.reply)

abbrev pub memory_of : Lent → Memory
memory_of l = memory (state_of l.state) l.history l.image

-- a state or a vector shorter than its size is 9, first; a reply shorter than its size is 9, last; a refusal changes nothing
unfoldable pub call : (vector size : ℕ) → (Memory → Effect) → (Effect → List ℕ) → Lent → Called
call vector size f bytes l =
    let e = f (memory_of l) in
    cond (ltb (length l.state) block_size || ltb vector vector_size) (called 9 l)
    (cond (eqb e.reply.number 0)
    (cond (ltb (length l.reply) size) (called 9 l) (called 0 (leaves e (bytes e) l)))
    (called e.reply.number l))

-- ---- steps

abbrev pub happening : ℕ → What → Vector → List ℕ → Memory → Effect
happening j w v msg m = step m (record { server = server j; what = w }) v msg

-- a read's reply: 1 and the value, or five zeros, then V
abbrev pub read_bytes : Reply → Vector → List ℕ
read_bytes r v =
    cond (eqb (get_or r.values 0 0) 1) (1 ∷ to_bytes 4 (get_or r.values 1 0)) (replicate 5 0) ++ vector_bytes v

abbrev pub read_reply : Effect → List ℕ
read_reply e = read_bytes e.reply e.vector

-- a write's: V
abbrev pub write_reply : Effect → List ℕ
write_reply e = vector_bytes e.vector

-- nothing is replied but the number, and no vector is lent that could be too short
abbrev pub no_reply : Effect → List ℕ
no_reply e = []

abbrev pub plainly : (Memory → Effect) → Lent → Called
plainly f l = call vector_size 0 f no_reply l

-- ---- the others

-- the number that a call answers, and what it leaves in the bytes lent to it
abbrev pub left : ℕ → List ℕ → ℕ × List ℕ
left k b = (k, b)

abbrev pub answered : Filled → ℕ × List ℕ
answered f = left f.reply.number f.output

-- bytes at the start of an output: 9 where it has no room for them
abbrev pub put : List ℕ → List ℕ → ℕ × List ℕ
put bytes out = cond (ltb (length out) (length bytes)) (left 9 out) (left 0 (onto bytes out))

-- how many, and the lowest or 255; a refusal is told first
unfoldable pub status_in : Memory → List ℕ → ℕ × List ℕ
status_in m out =
    let r = status m in
    cond (eqb r.number 0) (put (get_or r.values 0 0 ∷ get_or r.values 1 255 ∷ []) out) (left r.number out)

-- the server's own message
abbrev pub message_in : Memory → List ℕ → ℕ × List ℕ
message_in m out = answered (message m out)

-- a call that changes an output only: 9 for a short state, first
unfoldable pub fills : (Memory → List ℕ → ℕ × List ℕ) → Lent → ℕ × List ℕ
fills f l = cond (ltb (length l.state) block_size) (left 9 l.reply) (f (memory_of l) l.reply)

-- a call that only answers: 9 for a short state, first
unfoldable pub judging : Lent → ℕ
judging l = cond (ltb (length l.state) block_size) 9 (judge (memory_of l)).number

-- 0 where the write is not there, the refusal's number, or the place of its record in the image
unfoldable pub place_or_number : Option Refusal → Option ℕ → ℕ
place_or_number (some r) p = refusal_number r
place_or_number none none = 0
place_or_number none (some p) = p

-- what was read at a place, copied, and the place behind it; 0 where no whole record is left
abbrev pub copied : Maybe Record → ℕ → List ℕ → ℕ × List ℕ
copied (Some x) after out = left after (onto (encode x) out)
copied None after out = left 0 out

-- the record at a place of a message, copied, and the place behind it; 0 where no whole one is left; 9 first
unfoldable pub next : List ℕ → ℕ → List ℕ → ℕ × List ℕ
next m at out = cond (ltb (length out) record_size) (left 9 out) (copied (read_at m at) (place_after m at) out)
