-- `serve::requested` meets its contract: refused for a buffer, for the reply's room or by the request, or served.
-- Assumes nothing.
use Rattle.std.proofs.Common.{◌≤◌, length, sym, ◌∙◌, arith, rules}
use Rattle.memory.specs.Lent.{server}
use Rattle.rules.specs.Memory.{phone}
use Rattle.ssaldorip.specs.Calls.{Lent, lent}
use Rattle.ssaldorip.specs.Forms.{reply_size, reply_bytes}
use Rattle.ssaldorip.proofs.Told.{told_again}
use Rattle.ssaldorip.proofs.Called.{state_lacks, vector_lacks, lent_as}
use Rattle.ssaldorip.proofs.Requested.{lacks_refused, lacks_room, request_refused, request_done, reply_fits}
use Rattle.ssaldorip.proofs.serve.requested.Goals as goal

pub returns-in_err-vector_in : goal.returns-in_err-vector_in
returns-in_err-vector_in c =
    let a = c.args in
    let l : Lent = lent a.state.now a.history.now a.image.now a.reply.now in
    rw (told_again c.from_residual.result _ c.from_residual.ensures.1)
    (vector_lacks a.asked.now (reply_size a.q) _ (reply_bytes a.q) l _ (sym c.vector_in.ensures ∙ c.in_err-vector_in.was))

pub returns-in_err-state_of : goal.returns-in_err-state_of
returns-in_err-state_of c =
    let a = c.args in
    let l : Lent = lent a.state.now a.history.now a.image.now a.reply.now in
    let r = c.from_residual-in_err-state_of in
    rw (told_again r.result _ r.ensures.1)
    (state_lacks _ (reply_size a.q) _ (reply_bytes a.q) l _ (sym c.state_of.ensures ∙ c.in_err-state_of.was))

pub returns-in_err-request_head : goal.returns-in_err-request_head
returns-in_err-request_head c =
    let a = c.args in
    let l : Lent = lent a.state.now a.history.now a.image.now a.reply.now in
    let read = sym c.state_of.ensures ∙ c.in_ok-state_of.was in
    let carried = sym c.vector_in.ensures ∙ c.in_ok-vector_in.was in
    let r = c.from_residual-in_err-request_head in
    rw (told_again r.result _ r.ensures.1)
    (lacks_refused a.server (phone a.phone) a.q a.asked.now l _ _ read carried _ (rw (c.in_err-request_head.was, c.lent.ensures) at c.request_head.ensures))

pub returns-then-reply-reply_len : goal.returns-then-reply-reply_len
returns-then-reply-reply_len c =
    let a = c.args in
    let l : Lent = lent a.state.now a.history.now a.image.now a.reply.now in
    let read = sym c.state_of.ensures ∙ c.in_ok-state_of.was in
    let carried = sym c.vector_in.ensures ∙ c.in_ok-vector_in.was in
    lacks_room a.server (phone a.phone) a.q a.asked.now l _ _ read carried (rw (c.in_ok-request_head.was, c.lent.ensures) at c.request_head.ensures)
    (omega (arith, c.if-reply-reply_len.true, c.reply_len.ensures))

pub returns-in_err-answer : goal.returns-in_err-answer
returns-in_err-answer c =
    let a = c.args in
    let l : Lent = lent a.state.now a.history.now a.image.now a.reply.now in
    let read = sym c.state_of.ensures ∙ c.in_ok-state_of.was in
    let carried = sym c.vector_in.ensures ∙ c.in_ok-vector_in.was in
    let r = c.from_residual-in_err-answer in
    let is = rw c.in_err-answer.was at c.request.ensures.effect in
    rw (told_again r.result _ r.ensures.1)
    (lent_as (search rules) (search rules) (request_refused a.server (phone a.phone) a.q a.asked.now l _ _ read carried (server c.request.new.m) _ is))

pub put_reply-requires : goal.put_reply-requires
put_reply-requires c =
    let a = c.args in
    let l : Lent = lent a.state.now a.history.now a.image.now a.reply.now in
    let read = sym c.state_of.ensures ∙ c.in_ok-state_of.was in
    let carried = sym c.vector_in.ensures ∙ c.in_ok-vector_in.was in
    let is = rw c.in_ok-answer.was at c.request.ensures.effect in
    let room : reply_size a.q ≤ length a.reply.now = omega (arith, c.if-reply-reply_len.false, c.reply_len.ensures) in
    reply_fits a.server (phone a.phone) a.q a.asked.now l _ _ read carried (server c.request.new.m) _ is a.reply.now room

pub returns : goal.returns
returns c =
    let a = c.args in
    let l : Lent = lent a.state.now a.history.now a.image.now a.reply.now in
    let read = sym c.state_of.ensures ∙ c.in_ok-state_of.was in
    let carried = sym c.vector_in.ensures ∙ c.in_ok-vector_in.was in
    let is = rw c.in_ok-answer.was at c.request.ensures.effect in
    let room : reply_size a.q ≤ length a.reply.now = omega (arith, c.if-reply-reply_len.false, c.reply_len.ensures) in
    rw (c.put_state.ensures, c.put_reply.ensures)
    (lent_as (search rules) (search rules) (request_done a.server (phone a.phone) a.q a.asked.now l _ _ read carried (server c.request.new.m) _ is room))
