-- What recovering and taking a message's writes ask for and find, in the forms that they need. No public call is stated by these.
-- Assumes nothing.
use Rattle.std.specs.Prelude.{ℕ, ◌+◌, ◌-◌, ◌≤◌, Bool, true, cond, List, [], ◌∷◌, ◌++◌, ◌≡◌, ltb, leb, length, drop, map, Result, Ok, Err}
use Rattle.std.proofs.Math.Option.{Option, none, some}
use Rattle.notes.specs.Lists.{every}
use Rattle.notes.specs.Index.{servers}
use Rattle.notes.specs.Vector.{zeros, at, raised}
use Rattle.notes.specs.declared.vector.Vector.{Vector}
use Rattle.notes.specs.Record.{decode, number, records}
use Rattle.notes.specs.declared.record.Record.{Record}
use Rattle.notes.specs.Message.{history_most}
use Rattle.rules.specs.declared.answer.Refusal.{Refusal}
use Rattle.rules.specs.Memory.{Memory}
use Rattle.rules.specs.Writes.{tally}
use Rattle.rules.specs.Image.{history_size, image_size, log_most, checkpoint_count, log_count, checkpoint_area, log_place, checkpoint, log}
use Rattle.rules.specs.Sound.{suits as suits_of}
use Rattle.rules.specs.Step.{Taken}
use Rattle.memory.specs.declared.image.Image.{Image}
use Rattle.memory.specs.Forms.{added}
use Rattle.server.specs.declared.recover.Stored.{Stored}
use Rattle.server.specs.declared.take.Takes.{Takes}

-- ---- recovering

-- both buffers are large enough, and the image suits a down server of this N and own number
pub record Suited (m : Memory) : Type 0 where
  pub history : history_size ≤ length m.history
  pub image : image_size ≤ length m.image
  pub suits : suits_of m.state.n m.state.own m.image ≡ true

-- what the image says to a recovery
pub record Told (m : Memory) (said : Stored) : Type 0 where
  pub counts : said.counts ≡ record { checkpoint = checkpoint_count m.image; log = log_count m.image }
  pub vector : said.vector ≡ tally (checkpoint m.image)
  pub lacked : said.lacked ≡ added m.state.own (checkpoint m.image) (log m.image)

-- the records of the checkpoint, with so many of the log's last, are no more than a history holds
pub record Recoverable (counts : Image) (lacked : ℕ) (h i : List ℕ) : Type 0 where
  pub history : history_size ≤ length h
  pub image : image_size ≤ length i
  pub few : counts.checkpoint + lacked ≤ history_most
  pub fits : lacked ≤ counts.log
  pub logged : counts.log ≤ log_most

-- these records: the checkpoint's, and so many of the log's last
abbrev pub recovered_records : Image → ℕ → List ℕ → List Record
recovered_records counts lacked i =
    records counts.checkpoint (checkpoint_area i) ++ records lacked (drop (log_place (counts.log - lacked)) i)

-- ---- taking a message's writes

-- a record's origin is one of the eight
abbrev pub origin_ok : Record → Bool
origin_ok r = ltb r.origin.0 servers

-- these are the bytes of such records
abbrev pub Listed : List (List ℕ) → Type 0
Listed b = every origin_ok (map decode b) ≡ true

-- how many writes are new and V after them, or the first refusal
abbrev pub ended : Option Refusal → ℕ → Vector → Option Refusal × ℕ × Vector
ended none new v = (none, new, v)
ended (some r) new v = (some r, 0, zeros)

abbrev pub takes_of : Result Takes Refusal → Option Refusal × ℕ × Vector
takes_of (Ok t) = ended none t.new t.vector
takes_of (Err r) = ended (some r) 0 zeros

abbrev pub seen : Taken → Option Refusal × ℕ × Vector
seen t = ended t.refusal (length t.new) t.vector

-- the writes that are above their origin's count at their turn, where each such one raises the count
unfoldable pub ahead : Vector → List Record → List Record
ahead v [] = []
ahead v (r ∷ rs) = cond (leb (number r) (at v r.origin)) (ahead v rs) (r ∷ ahead (raised v r.origin (number r)) rs)
