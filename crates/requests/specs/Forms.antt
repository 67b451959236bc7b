-- What a request's parts ask for and find, in the forms that they need. No public call is stated by these.
-- Assumes nothing.
use Rattle.std.specs.Prelude.{ℕ, ◌+◌, ◌*◌, ◌≤◌, List, [], ◌∷◌, ◌++◌, ◌≡◌, length, take, Some, None}
use Rattle.std.specs.Prelude.{Option as Maybe}
use Rattle.std.proofs.Math.Option.{Option, none, some, map}
use Rattle.notes.specs.Record.{record_size, encode}
use Rattle.notes.specs.declared.record.Record.{Record}
use Rattle.notes.specs.Vector.{at}
use Rattle.notes.specs.Message.{history_most}
use Rattle.rules.specs.declared.state.State.{State}
use Rattle.rules.specs.Memory.{Memory}
use Rattle.rules.specs.Image.{image_size, log_field, log_place, Store, count, byte_stores, stored}
use Rattle.rules.specs.Request.{new_record, plan}
use Rattle.rules.specs.declared.event.Request.{Request}
use Rattle.rules.specs.declared.event.Request.TheVariants.{Write}
use Rattle.requests.specs.declared.write.Note.{Note}

-- a history has the bytes of the writes held, of which k are kept already, and an image has all of its own
pub record Room (held k : ℕ) (h i : List ℕ) : Type 0 where
  pub history : record_size * held ≤ length h
  pub image : image_size ≤ length i
  pub kept : k ≤ held
  pub few : held ≤ history_most

-- the numbers that a write raises
pub record Small (s : State) : Type 0 where
  pub held : s.held ≤ history_most
  pub own : at s.vector s.own ≤ history_most
  pub nwrites : s.nwrites ≤ history_most

-- the request that brings a note
abbrev pub writing : Note → Request
writing n = Write n.cell n.value n.time

-- a write after the first k of its stores: the record's bytes, and the image
pub record Stored (m : Memory) (n : Note) (k : ℕ) (r i : List ℕ) : Type 0 where
  pub bytes : r ≡ encode (new_record m n.phone n.cell n.value n.time)
  pub image : i ≡ stored m.image (take k (plan m n.phone (writing n)))

-- `write_plan` of the record with these bytes
unfoldable pub write_bytes_plan : List ℕ → ℕ → List Store
write_bytes_plan b logged = byte_stores (log_place logged) b ++ count log_field (logged + 1) ∷ []

abbrev pub winner_of : Maybe ℕ → Option ℕ
winner_of (Some x) = some x
winner_of None = none

abbrev pub winner_value : Option Record → Option ℕ
winner_value w = map (λ r. r.value) w
