-- `message::check` meets its contract: a message is right exactly if its header suits it and its records are well formed.
-- Assumes nothing.
use mathlib.Core.Path.{sym, ◌∙◌}
use native.Mathlib.Omega.{arith}
use Rattle.notes.specs.Message.{header_size}
use Rattle.notes.proofs.Lists.{rest}
use Rattle.notes.proofs.Messages.{suits, server-facts, n-at, check-no-header, check-no-record, check-passed}
use Rattle.notes.proofs.message.check.Goals as goal

pub returns-then-not-header_ok : goal.returns-then-not-header_ok
returns-then-not-header_ok c =
    sym
    (check-no-header c.args.m.now (λ i. (c.type_inv.m i).fits) (sym c.header_ok.ensures ∙ c.if-not-header_ok.true))

pub bounds-m-0 : goal.bounds-m-0
bounds-m-0 c =
    let s = suits c.args.m.now (sym c.header_ok.ensures ∙ c.if-not-header_ok.false) in omega arith

pub slice_bounds-records-count : goal.slice_bounds-records-count
slice_bounds-records-count c =
    let s = suits c.args.m.now (sym c.header_ok.ensures ∙ c.if-not-header_ok.false) in omega arith

pub slice_bounds-records-start : goal.slice_bounds-records-start
slice_bounds-records-start c =
    let s = suits c.args.m.now (sym c.header_ok.ensures ∙ c.if-not-header_ok.false) in omega arith

pub all_well_formed-requires : goal.all_well_formed-requires
all_well_formed-requires c =
    let s = suits c.args.m.now (sym c.header_ok.ensures ∙ c.if-not-header_ok.false) in
    let f = server-facts _ _ s.server in omega (arith, n-at c.args.m.now)

pub returns-then-not-all_well_formed : goal.returns-then-not-all_well_formed
returns-then-not-all_well_formed c =
    let m = c.args.m.now in
    let e = rw (rest header_size m) at c.all_well_formed.ensures in
    sym (check-no-record m (λ i. (c.type_inv.m i).fits) (sym e ∙ c.if-not-all_well_formed.true))

pub bounds-m-1 : goal.bounds-m-1
bounds-m-1 c =
    let s = suits c.args.m.now (sym c.header_ok.ensures ∙ c.if-not-header_ok.false) in omega arith

pub returns : goal.returns
returns c =
    let m = c.args.m.now in
    let e = rw (rest header_size m) at c.all_well_formed.ensures in
    let ok = check-passed m (λ i. (c.type_inv.m i).fits) (sym c.header_ok.ensures ∙ c.if-not-header_ok.false) (sym e ∙ c.if-not-all_well_formed.false) in
    rw (rest header_size m) (sym ok)
