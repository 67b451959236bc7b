-- Look-ups in images that steps have left, computed: from the checkpoint or else from the log, not there, refused.
-- Assumes nothing.
use Prim.Native.Nat.{ℕ}
use mathlib.Core.Bool.{Bool, ◌&&◌}
use mathlib.Core.List.{List, [], ◌∷◌}
use mathlib.Core.Option.{Option, none, some}
use lib.Dec.{T, eqb}
use lib.ListN.{take}
use Rattle.notes.specs.Lists.{same}
use Rattle.notes.specs.Record.{encode}
use Rattle.notes.specs.Reply.{Reply}
use Rattle.rules.specs.Writes.{server}
use Rattle.rules.specs.Memory.{Memory}
use Rattle.rules.specs.Step.{step}
use Rattle.rules.specs.Calls.{fresh, place_of, stands_at, look_up_refusal, look_up}
use Rattle.rules.proofs.Script.{note, Act, write5, read, read_cut, does}
use Rattle.rules.proofs.Computed.{computed}

-- server 0 of 2 after acts, one after the other
abbrev after : Memory → List Act → Memory
after m [] = m
after m (a ∷ acts) = after (does step m [] a).after acts

-- the number and values of a look-up, and where the record stands (0 for nowhere)
abbrev answers : Reply → ℕ → List ℕ → Bool
answers r number values = eqb r.number number && same r.values values

abbrev place : Option ℕ → ℕ
place none = 0
place (some p) = p

-- two writes: the first in checkpoint and log (example 8 at 29), or both in the log alone
abbrev new : Memory
new = fresh 2 (server 0) [] []

pub looked :
    let both = (after new (write5 0 7 ∷ read 0 5 [] ∷ read_cut 0 5 [] 29 ∷ [])).image in
    let logged = (after new (write5 0 7 ∷ write5 0 8 ∷ [])).image in
    let first = encode (note 0 7 (1 ∷ 0 ∷ [])) in
    T
    (answers (look_up both (server 0) 1) 0 first
    && eqb (place (stands_at both (server 0) 1)) 16
    && answers (look_up logged (server 0) 1) 0 first
    && eqb (place (stands_at logged (server 0) 1)) 7184
    && answers (look_up logged (server 0) 2) 0 (encode (note 0 8 (2 ∷ 0 ∷ [])))
    && eqb (place (stands_at logged (server 0) 2)) 7212
    && answers (look_up logged (server 0) 3) 0 []
    && answers (look_up logged (server 1) 1) 0 []
    && answers (look_up logged (server 0) 65537) 0 []
    && answers (look_up logged (server 2) 1) 1 []
    && answers (look_up (2 ∷ logged) (server 0) 1) 6 []
    && answers (look_up (take 8975 logged) (server 2) 1) 9 [])
unfolding computed place_of stands_at look_up_refusal look_up
looked = tt
