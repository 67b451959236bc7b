-- `write::store_new` meets its contract: the new record's bytes, and the first of their stores.
-- Assumes nothing.
use mathlib.Core.Path.{◌≡◌, ap, ◌∙◌}
use Rattle.notes.specs.Record.{encode}
use Rattle.notes.specs.declared.record.Record.{Record}
use Rattle.notes.specs.declared.vector.Vector.{Vector}
use Rattle.rules.specs.Memory.{Memory, memory}
use Rattle.rules.specs.Image.{log_count}
use Rattle.rules.specs.Request.{new_record}
use Rattle.memory.specs.declared.image.Image.{Image}
use Rattle.requests.specs.Forms.{writing}
use Rattle.requests.proofs.Written.{small, plan-made}
use Rattle.requests.proofs.write.store_new.Goals as goal

pub new_vector-requires : goal.new_vector-requires
new_vector-requires c =
    let a = c.args in
    small (memory a.s.now a._history.now a.image.now) a.note.phone (writing a.note) c.requires

pub returns : goal.returns
unfolding new_record
returns c =
    let a = c.args in
    let n = a.note in
    let found : Memory = memory a.s.now a._history.now a.image.now in
    let logged : c.counts-logged.result.log ≡ log_count found.image = ap (λ (i : Image). i.log) c.counts-logged.ensures in
    let written : Vector → Record =
    λ v. record { origin = found.state.own; phone = n.phone; cell = n.cell; value = n.value; time = n.time; stamp = v } in
    let bytes : c.to_bytes-bytes.result ≡ encode (new_record found n.phone n.cell n.value n.time) = c.to_bytes-bytes.ensures ∙ ap (λ (v : Vector). encode (written v)) c.new_vector.ensures in
    record {
      bytes = bytes;
      image =
          c.store_write.ensures
          ∙ rw (plan-made found n.phone n.cell n.value n.time c.requires c.to_bytes-bytes.result c.counts-logged.result.log bytes logged);
    }
