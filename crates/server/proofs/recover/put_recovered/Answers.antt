-- `recover::put_recovered` meets its contract: two copies, one behind the other, and zeros.
-- Assumes nothing.
use Prim.Native.Nat.{◌-◌, ◌*◌}
use mathlib.Core.Path.{◌∙◌}
use native.Mathlib.Omega.{arith}
use Rattle.notes.specs.Record.{record_size}
use Rattle.rules.specs.Image.{history_size, checkpoint_at, log_place}
use Rattle.server.proofs.Copies.{put-parts, put_records}
use Rattle.server.proofs.recover.put_recovered.Goals as goal

pub returns : goal.returns
returns c =
    let a = c.args in
    let k = record_size * a.counts.checkpoint in
    let j = record_size * a.lacked in
    let p = log_place (a.counts.log - a.lacked) in
    put-parts checkpoint_at k p j history_size a.image.now a.history.now c.put_bytes.new.out c.put_bytes-2.new.out c.fill.new.self
    (omega (arith, c.requires.image, c.requires.few))
    (omega (arith, c.requires.image, c.requires.fits, c.requires.logged))
    (omega (arith, c.requires.few))
    c.requires.history
    c.put_bytes.ensures
    c.put_bytes-2.ensures
    (c.fill.ensures.after (λ y e. e))
    ∙ put_records a.counts a.lacked a.history.now a.image.now c.requires (λ i. (c.type_inv.image i).fits)
