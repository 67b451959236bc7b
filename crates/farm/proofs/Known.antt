-- What is known of all that was sent, as the farm's lists of writes grow.
-- Assumes nothing.
use Prim.Native.Nat.{ℕ, ◌≤◌, ◌<◌}
use mathlib.Core.Bool.{true, false}
use mathlib.Core.List.Memᴰ
use mathlib.Core.List.{List, ◌∷◌, ◌++◌}
use mathlib.Core.Path.{◌≡◌, refl, sym, ◌∙◌}
use native.Mathlib.Omega.{arith}
use lib.ListN.{length}
use Rattle.notes.specs.Index.{servers}
use Rattle.notes.specs.Vector.{at, maximum}
use Rattle.notes.specs.Session.{chosen_of, read_carries}
use Rattle.notes.specs.declared.session.Choice.TheVariants.{Reads, Writes, Both}
use Rattle.notes.specs.Message.{brought, message_ok, message_n}
use Rattle.notes.specs.declared.index.ServerId.{ServerId}
use Rattle.notes.specs.declared.record.Record.{Record}
use Rattle.notes.specs.declared.vector.Vector.{Vector}
use Rattle.notes.proofs.Numbers.{AllBelow}
use Rattle.notes.proofs.Pieces.{Each, each-also}
use Rattle.notes.proofs.Vectors.{at-maximum, length-maximum}
use Rattle.rules.specs.Request.{is_write}
use Rattle.laws.proofs.Keeps.{each_append}
use Rattle.farm.specs.Farm.{Choice, Asked, Replied, Phone, installed, Attempt, Sent, Ledger, askable, attempted}
use Rattle.farm.specs.Demand.{◌∈◌}
use Rattle.farm.specs.Beside.{Begun, owed_by, owed}
use Rattle.farm.proofs.Prefix.{pre-mem}
use Rattle.farm.proofs.Held.{Numbered, Grows, Placed, Covered, Held, placed-grows, held-grows}

-- writes, each counted by a vector
pub record Covers (n : ℕ) (c : Numbered) (v : Vector) (ws : List Record) : Type 0 where
  pub eight : length v.counts ≡ servers
  pub each : Each (Covered n c v) ws

-- a phone's two vectors: what its session has seen, and what it has written
pub record Knows (n : ℕ) (c : Numbered) (p : Phone) : Type 0 where
  pub reads : Covers n c p.session.reads p.seen
  pub writes : Covers n c p.session.writes p.wrote

-- a reply's vector: what stood in the history, and what was written
pub record Tells (n : ℕ) (c : Numbered) (r : Replied) : Type 0 where
  pub history : Covers n c r.vector r.history
  pub wrote : Covers n c r.vector r.wrote

-- a request's numbers, and where it is a read what it must find
pub record Fair (n : ℕ) (c : Numbered) (q : Asked) : Type 0 where
  pub numbers : askable q.request ≡ true
  pub knew : is_write q.request ≡ false → Covers n c q.vector (owed q)

-- a message by the places of its records; that it is a whole history is for what it is never refused with
pub record Genuine (n : ℕ) (c : Numbered) (msg : List ℕ) : Type 0 where
  pub bytes : AllBelow 256 msg
  pub right : (message_ok msg ≡ true) × (message_n msg ≡ n)
  pub placed : Each (Placed n c) (brought msg)
  pub held : Held n c (brought msg)

pub record Flight (n : ℕ) (c : Numbered) (phones : ℕ → Phone) (s : Sent) : Type 0 where
  pub sessions : (i : ℕ) → Knows n c (phones i)
  pub requests : Each (Fair n c) s.requests
  pub replies : Each (Tells n c) s.replies
  pub updates : Each (Genuine n c) s.updates

-- the records of attempts, each in a list
abbrev pub Listed : List Record → List Attempt → Type 0
Listed c l = Each (λ a. Each (λ w. w ∈ c) (attempted a)) l

-- what each server has performed stands in its list, and its list has only what it began
pub record Deeds (n : ℕ) (c : Numbered) (requests : List Asked) (t : Ledger) : Type 0 where
  pub performed : (j : ℕ) → j < n → Listed (c j) (t.performed j)
  pub begun : (j : ℕ) → j < n → (w : Record) → w ∈ c j → Begun requests (t.begun j) w

module _ (n : ℕ) (c d : Numbered) (g : Grows n c d) where
  covers-grows : (v : Vector) (ws : List Record) → Covers n c v ws → Covers n d v ws
  covers-grows v ws k =
      record {
        eight = k.eight;
        each = each-also (λ w x. record { placed = placed-grows n c d g w x.placed; counted = x.counted }) ws k.each;
      }

  knows-grows : (p : Phone) → Knows n c p → Knows n d p
  knows-grows p k =
      record {
        reads = covers-grows p.session.reads p.seen k.reads;
        writes = covers-grows p.session.writes p.wrote k.writes;
      }

  tells-grows : (r : Replied) → Tells n c r → Tells n d r
  tells-grows r k =
      record {
        history = covers-grows r.vector r.history k.history;
        wrote = covers-grows r.vector r.wrote k.wrote;
      }

  fair-grows : (q : Asked) → Fair n c q → Fair n d q
  fair-grows q k = record { numbers = k.numbers; knew = λ e. covers-grows q.vector (owed q) (k.knew e) }

  genuine-grows : (msg : List ℕ) → Genuine n c msg → Genuine n d msg
  genuine-grows msg k =
      record {
        bytes = k.bytes;
        right = k.right;
        placed = each-also (placed-grows n c d g) (brought msg) k.placed;
        held = held-grows n c d g (brought msg) k.held;
      }

  pub flight-grows : (phones : ℕ → Phone) (s : Sent) → Flight n c phones s → Flight n d phones s
  flight-grows phones s k =
      record {
        sessions = λ i. knows-grows (phones i) (k.sessions i);
        requests = each-also fair-grows s.requests k.requests;
        replies = each-also tells-grows s.replies k.replies;
        updates = each-also genuine-grows s.updates k.updates;
      }

  pub listed-grows : (j : ℕ) → j < n → (l : List Attempt) → Listed (c j) l → Listed (d j) l
  listed-grows j low l k = each-also (λ a x. each-also (λ w m. pre-mem (c j) (d j) (g j low) m) (attempted a) x) l k

-- ---- more asked, more begun
pub begun-asked : (q : Asked) (qs : List Asked) (l : List Attempt) (w : Record) → Begun qs l w → Begun (q ∷ qs) l w
begun-asked q qs l w b =
    record { attempt = b.attempt; listed = b.listed; asked = Memᴰ.tail b.asked; gives = b.gives }

pub begun_more : (qs : List Asked) (a : Attempt) (l : List Attempt) (w : Record) → Begun qs l w → Begun qs (a ∷ l) w
begun_more qs a l w b =
    record { attempt = b.attempt; listed = Memᴰ.tail b.listed; asked = b.asked; gives = b.gives }

-- ---- a vector that is nowhere lower counts the same writes
covered_more :
    (n : ℕ) (c : Numbered) (v w : Vector)
    → ((o : ServerId) → at v o ≤ at w o)
    → (x : Record)
    → Covered n c v x
    → Covered n c w x
covered_more n c v w m x k = record { placed = k.placed; counted = omega (arith, k.counted, m x.origin) }

-- ---- a vector raised to the maximum with another counts what either counts
pub covers-both :
    (n : ℕ) (c : Numbered) (v w : Vector) (old new : List Record)
    → Covers n c v old
    → Covers n c w new
    → Covers n c (maximum v w) (new ++ old)
covers-both n c v w old new k l =
    let m = at-maximum v w (k.eight ∙ sym l.eight) in
    let more = covered_more n c in
    record {
      eight = length-maximum v w k.eight l.eight;
      each =
          each_append (Covered n c (maximum v w)) new old
          (each-also (more w (maximum v w) (λ o. omega (arith, m o))) new l.each)
          (each-also (more v (maximum v w) (λ o. omega (arith, m o))) old k.each);
    }

-- ---- what a read carries counts what it must find, by the session's choice
pub carries-owed : (n : ℕ) (c : Numbered) (p : Phone) → Knows n c p → Covers n c (read_carries p.session) (owed_by p.session.choice p.seen p.wrote)
unfolding chosen_of owed_by
carries-owed n c p k = go p.session.choice
  where
    go : (o : Choice) → Covers n c (chosen_of o p.session.reads p.session.writes) (owed_by o p.seen p.wrote)
    go Reads = k.reads
    go Writes = k.writes
    go Both = covers-both n c p.session.reads p.session.writes p.seen p.wrote k.reads k.writes

-- ---- nothing is counted yet
pub new-knows : (n : ℕ) (c : Numbered) (o : Choice) → Knows n c (installed o)
new-knows n c o = record { reads = record { eight = refl; each = tt }; writes = record { eight = refl; each = tt } }
