-- `message::write` meets its contract: each refusal where it stops, and then the message.
-- Assumes nothing.
use mathlib.Core.Bool.{true, ◌&&◌}
use mathlib.Core.Path.{◌≡◌, sym, ◌∙◌}
use native.Mathlib.Omega.{arith}
use Rattle.notes.specs.Index.{server_ok}
use Rattle.notes.specs.Message.{whole, records_ok, records_in}
use Rattle.notes.proofs.Messages.{server-facts, whole-facts, write-1, write-6, write-9, write_done}
use borrow.Author.Rules.{rules}
use Rattle.notes.proofs.message.write.Goals as goal

pub returns-then-not-is_one_of : goal.returns-then-not-is_one_of
returns-then-not-is_one_of c =
    let a = c.args in
    sym (write-1 a.n a.sender a.records.now a.out.now (sym c.is_one_of.ensures ∙ c.if-not-is_one_of.true))

pub records_ok-requires : goal.records_ok-requires
records_ok-requires c =
    let server : server_ok c.args.n c.args.sender ≡ true = sym c.is_one_of.ensures ∙ c.if-not-is_one_of.false in
    let s = server-facts _ _ server in omega arith

pub returns-then-not-records_ok : goal.returns-then-not-records_ok
returns-then-not-records_ok c =
    let server : server_ok c.args.n c.args.sender ≡ true = sym c.is_one_of.ensures ∙ c.if-not-is_one_of.false in
    let a = c.args in
    sym (write-6 a.n a.sender a.records.now a.out.now server (sym c.records_ok.ensures ∙ c.if-not-records_ok.true))

pub returns-then-out-records : goal.returns-then-out-records
returns-then-out-records c =
    let server : server_ok c.args.n c.args.sender ≡ true = sym c.is_one_of.ensures ∙ c.if-not-is_one_of.false in
    let right : (whole c.args.records.now && records_ok c.args.n (records_in c.args.records.now)) ≡ true = sym c.records_ok.ensures ∙ c.if-not-records_ok.false in
    let a = c.args in
    sym (write-9 a.n a.sender a.records.now a.out.now server right c.if-out-records.true)

pub put_message-requires : goal.put_message-requires
put_message-requires c =
    let right : (whole c.args.records.now && records_ok c.args.n (records_in c.args.records.now)) ≡ true = sym c.records_ok.ensures ∙ c.if-not-records_ok.false in
    let a = c.args in
    let w = whole-facts a.n a.records.now right in (search rules, w.whole, w.few)

pub returns : goal.returns
returns c =
    let server : server_ok c.args.n c.args.sender ≡ true = sym c.is_one_of.ensures ∙ c.if-not-is_one_of.false in
    let right : (whole c.args.records.now && records_ok c.args.n (records_in c.args.records.now)) ≡ true = sym c.records_ok.ensures ∙ c.if-not-records_ok.false in
    let a = c.args in
    rw c.put_message.ensures
    (sym (write_done a.n a.sender a.records.now a.out.now server right c.if-out-records.false))
