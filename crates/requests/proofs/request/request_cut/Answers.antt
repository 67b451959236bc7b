-- `request::request_cut` meets its contract: what is refused, a count too high, or the read or the write cut.
-- Assumes nothing.
use Prim.Native.Nat.{◌≤◌, ◌<◌}
use mathlib.Core.Option.{none}
use mathlib.Core.Path.{◌≡◌, refl, sym, ap, ◌∙◌, subst}
use native.Mathlib.Omega.{arith}
use lib.ListN.{length}
use Rattle.std.proofs.Common.{Err}
use Rattle.notes.specs.Reply.{first}
use Rattle.rules.specs.Memory.{Memory, memory}
use Rattle.rules.specs.Request.{plan, cut_after, request_refusals, cut_refusals, request_cut}
use Rattle.rules.specs.declared.event.Request.{Request}
use Rattle.laws.proofs.Passed.{Admitted}
use Rattle.requests.proofs.Admitting.{lent-passed, lent-admitted, cut-refused, cut-over, cut-passed}
use borrow.Author.Rules.{rules}
use Rattle.requests.proofs.request.request_cut.Goals as goal
use Rattle.requests.proofs.request.request_cut.Goals.{In_ok-request_head, Else-stores_of-k}

passed : (c : In_ok-request_head) → let a = c.args.ask in first (request_refusals (memory c.args.s.now c.args.history.now c.args.image.now) a.server a.phone a.request a.vector) ≡ none
passed c =
    let found : Memory = memory c.args.s.now c.args.history.now c.args.image.now in
    let a = c.args.ask in
    lent-passed found a.server a.phone a.request a.vector found refl c.in_ok-request_head.ensures

let-in : (c : In_ok-request_head) → Admitted (memory c.args.s.now c.args.history.now c.args.image.now) c.args.ask.phone c.args.ask.request
let-in c =
    let found : Memory = memory c.args.s.now c.args.history.now c.args.image.now in
    let a = c.args.ask in
    lent-admitted found a.server a.phone a.request a.vector found refl c.in_ok-request_head.ensures

-- so many stores are there
counted :
    (c : Else-stores_of-k)
    → let a = c.args.ask in first (request_refusals (memory c.args.s.now c.args.history.now c.args.image.now) a.server a.phone a.request a.vector) ≡ none
    → first (cut_refusals (memory c.args.s.now c.args.history.now c.args.image.now) a.server a.phone a.request c.args.k a.vector) ≡ none
counted c above =
    let found : Memory = memory c.args.s.now c.args.history.now c.args.image.now in
    let a = c.args.ask in
    let few : c.args.k ≤ length (plan found a.phone a.request) = omega (arith, c.if-stores_of-k.false, c.stores_of.ensures) in
    cut-passed found a.server a.phone a.request a.vector c.args.k above few

pub returns-in_err-request_head : goal.returns-in_err-request_head
unfolding request_cut
returns-in_err-request_head c =
    let found : Memory = memory c.args.s.now c.args.history.now c.args.image.now in
    let a = c.args.ask in
    let told : c.from_residual.result ≡ Err c.in_err-request_head.field-0.0 = search rules in
    rw (told, cut-refused found a.server a.phone a.request a.vector c.args.k _ (sym c.in_err-request_head.ensures))

pub stores_of-requires : goal.stores_of-requires
stores_of-requires c = let-in (goal.at.stores_of-requires c).In_ok-request_head

pub returns-then-stores_of-k : goal.returns-then-stores_of-k
unfolding request_cut
returns-then-stores_of-k c =
    let found : Memory = memory c.args.s.now c.args.history.now c.args.image.now in
    let a = c.args.ask in
    let over : length (plan found a.phone a.request) < c.args.k = omega (arith, c.if-stores_of-k.true, c.stores_of.ensures) in
    let above = passed (goal.at.returns-then-stores_of-k c).In_ok-request_head in
    rw (cut-over found a.server a.phone a.request a.vector c.args.k above over)

pub read_cut-requires : goal.read_cut-requires
read_cut-requires c =
    let found : Memory = memory c.args.s.now c.args.history.now c.args.image.now in
    subst (Admitted found c.args.ask.phone) c.in-Read.is (let-in (goal.at.read_cut-requires c).In_ok-request_head)

pub write_cut-requires : goal.write_cut-requires
write_cut-requires c =
    let found : Memory = memory c.args.s.now c.args.history.now c.args.image.now in
    subst (Admitted found c.args.ask.phone) c.in-Write.is (let-in (goal.at.write_cut-requires c).In_ok-request_head)

pub returns-in-Read : goal.returns-in-Read
unfolding request_cut
returns-in-Read c =
    let found : Memory = memory c.args.s.now c.args.history.now c.args.image.now in
    let at = goal.at.returns-in-Read c in
    rw (counted at.Else-stores_of-k (passed at.In_ok-request_head))
    (c.read_cut.ensures ∙ ap (λ (q : Request). cut_after found c.args.ask.phone q c.args.k) (sym c.in-Read.is))

pub returns-in-Write : goal.returns-in-Write
unfolding request_cut
returns-in-Write c =
    let found : Memory = memory c.args.s.now c.args.history.now c.args.image.now in
    let at = goal.at.returns-in-Write c in
    rw (counted at.Else-stores_of-k (passed at.In_ok-request_head))
    (c.write_cut.ensures ∙ ap (λ (q : Request). cut_after found c.args.ask.phone q c.args.k) (sym c.in-Write.is))
