-- `record::raw::Form::is_met` meets its contract: each test decides where it stops.
-- Assumes nothing.
use Rattle.std.proofs.Common.{sym, ap, ◌∙◌, leb, drop, arith, rules}
use Rattle.notes.specs.Record.{decode}
use Rattle.notes.proofs.Numbers.{from_one}
use Rattle.notes.proofs.Vectors.{length-vector_from}
use Rattle.notes.proofs.Records.{out_of_range, origin-below, over-limits, number-decides}
use Rattle.notes.proofs.record.raw.Form.is_met.Goals as goal

pub returns-then-not-head_ok : goal.returns-then-not-head_ok
returns-then-not-head_ok c =
    let a = c.args in sym (out_of_range a.self.n (decode a.b.now) (sym c.head_ok.ensures ∙ c.if-not-head_ok.true))

pub returns-then-is_behind : goal.returns-then-is_behind
unfolding decode
returns-then-is_behind c =
    let a = c.args in
    let b = a.b.now in
    let e = rw (a.self.made, c.vector_at-stamp.ensures) at c.is_behind.ensures in
    sym (over-limits a.self.n (decode b) (length-vector_from (drop 12 b)) (sym e ∙ c.if-is_behind.true))

pub number_of-requires : goal.number_of-requires
unfolding decode
number_of-requires c =
    let a = c.args in
    let b = a.b.now in
    let ok = sym c.head_ok.ensures ∙ c.if-not-head_ok.false in
    (search rules, omega (arith, origin-below a.self.n (decode b) ok, from_one 0 b, a.self.few))

pub returns : goal.returns
unfolding decode
returns c =
    let a = c.args in
    let b = a.b.now in
    let ok = sym c.head_ok.ensures ∙ c.if-not-head_ok.false in
    let e = rw (a.self.made, c.vector_at-stamp.ensures) at c.is_behind.ensures in
    ap (leb 1) c.number_of.ensures
    ∙ sym (number-decides a.self.n (decode b) (length-vector_from (drop 12 b)) ok (sym e ∙ c.if-is_behind.false))
