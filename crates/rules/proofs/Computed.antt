-- The definitions opened all at once: where this is unfolded, a script is computed.
-- Assumes nothing.
use mathlib.Core.Bool.{Bool}
use mathlib.Core.List.{flat_map, zip_with}
use Rattle.notes.specs.Lists.{every, any, same, above}
use Rattle.notes.specs.Bytes.{from_bytes, to_bytes, pieces}
use Rattle.notes.specs.Index.{server_ok}
use Rattle.notes.specs.Vector.{raised, sum, behind, zero_from, vector_from, vector_bytes}
use Rattle.notes.specs.Record.{decode, encode, in_range, stamp_ok, well_formed, beats, records, record_bytes}
use Rattle.notes.specs.Message as message
use Rattle.rules.specs.Writes.{keep, counting, server_ids, writes_of, tally, in_turn, same_records, best, winner}
use Rattle.rules.specs.Memory.{phone_ids, in_set, with_phone, members}
use Rattle.rules.specs.Image.{header_of, header_ok, checkpoint, log, fresh_image, stored, byte_stores, write_plan, checkpoint_plan}
use Rattle.rules.specs.Sound.{later, recovered, raised_by, recovered_vector, recovered_state, recovered_history, recover, v_counts, is_first, is_last, holds_before, writes_ok, reads_ok, consistent, is_zero, suits, sound_up, sound_down, sound}
use Rattle.rules.specs.Request.{new_vector, new_record, written, noted, cleared, due, own_plan, plan, ready, performed, reply_to, served, cut_after, request_refusals, request, request_cut}
use Rattle.rules.specs.Step.{at_turn, taken, updated, update_refusals, update, plain_refusals, cut, recovery, step}
use Rattle.rules.specs.Calls.{fresh, own_message}
use Rattle.rules.proofs.Script.{Script, all_zero, runs_by, holds_by, holds}

unfoldable pub computed : Script → Bool
unfolding every any same above from_bytes to_bytes pieces server_ok raised sum behind zero_from vector_from vector_bytes decode encode in_range stamp_ok well_formed beats records record_bytes message.header_of message.message_of message.records_ok message.message_ok keep counting server_ids writes_of tally in_turn same_records best winner phone_ids in_set with_phone members header_of header_ok checkpoint log fresh_image later recovered raised_by recovered_vector recovered_state recovered_history recover v_counts is_first is_last holds_before writes_ok reads_ok consistent is_zero suits sound_up sound_down sound stored byte_stores write_plan checkpoint_plan new_vector new_record written noted cleared due own_plan plan ready performed reply_to served cut_after request_refusals request request_cut at_turn taken updated update_refusals update plain_refusals cut recovery step fresh own_message all_zero runs_by holds_by flat_map zip_with
computed x = holds x
