-- `Record::well_formed` meets its contract: each test decides where it stops.
-- Assumes nothing.
use Rattle.std.proofs.Common.{◌≡◌, ◌∙◌, true, false, not, sym, ap, leb, rules}
use Rattle.notes.specs.Vector.{behind}
use Rattle.notes.specs.Record.{in_range}
use Rattle.notes.specs.Forms.{limits_of}
use Rattle.notes.proofs.Records.{well-formed-is}
use Rattle.notes.proofs.record.Record.well_formed.Goals as goal
use Rattle.notes.proofs.record.Record.well_formed.Goals.{then-in_range, else-in_range}

pub returns-then-not-is_behind : goal.returns-then-not-is_behind
returns-then-not-is_behind c =
    let a = c.args in
    let e = well-formed-is a.n a.self (search rules) in
    elim c.if-in_range.branch [
      | then-in_range w ↦
          let ranged : in_range a.n a.self ≡ true = cc in
          let within : not (behind (limits_of a.n) a.self.stamp) ≡ true = cc in
          ap (leb 1) c.number.ensures ∙ sym (rw (ranged, within) at e)
      | else-in_range w ↦ cc
    ]

pub returns-else-not-is_behind : goal.returns-else-not-is_behind
returns-else-not-is_behind c =
    let a = c.args in
    let e = well-formed-is a.n a.self (search rules) in
    elim c.if-in_range.branch [
      | then-in_range w ↦
          let ranged : in_range a.n a.self ≡ true = cc in
          let within : not (behind (limits_of a.n) a.self.stamp) ≡ false = cc in
          c.if-not-is_behind.false ∙ sym (rw (ranged, within) at e)
      | else-in_range w ↦
          let ranged : in_range a.n a.self ≡ false = cc in
          c.if-not-is_behind.false ∙ sym (rw ranged at e)
    ]
