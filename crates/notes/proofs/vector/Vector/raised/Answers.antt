-- `Vector::raised` meets its contract: past the eight positions a store changes nothing.
-- Assumes nothing.
use Rattle.std.proofs.Common.{◌≡◌, ap, sym, length, arith, rules}
use Rattle.std.proofs.Math.Seq.{set_out}
use Rattle.notes.specs.Vector.{vector, raised}
use Rattle.notes.proofs.vector.Vector.raised.Goals as goal

pub returns-then-i-lt-LEN : goal.returns-then-i-lt-LEN
unfolding raised
returns-then-i-lt-LEN c = rw (c.max.ensures, c.from-i.ensures)

pub returns-else-i-lt-LEN : goal.returns-else-i-lt-LEN
unfolding raised
returns-else-i-lt-LEN c =
    let a = c.args in
    let l : length a.self.counts ≡ 8 = search rules in
    ap vector (sym (set_out a.self.counts a.s.0 _ (omega arith)))
