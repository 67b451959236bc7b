-- The layouts as literal bytes, and the sizes as numbers: definitions that agree with one another alone are not enough.
-- Assumes nothing.
use Prim.Native.Nat.{ℕ}
use mathlib.Core.Bool.{◌&&◌}
use mathlib.Core.List.{List, [], ◌∷◌}
use lib.Dec.{T, eqb}
use lib.ListN.{length, take, drop, replicate}
use Rattle.notes.specs.Lists.{same}
use Rattle.notes.specs.Index.{servers, phones}
use Rattle.notes.specs.Record.{record_size, cells, number_most, decode, encode}
use Rattle.notes.specs.Message.{history_most, message_size, message_of}
use Rattle.notes.specs.declared.record.Record.{Record}
use Rattle.rules.specs.Writes.{server, numbers_of}
use Rattle.rules.specs.Memory.{phone}
use Rattle.rules.specs.Image.{history_size, log_most, log_at, image_size, header_of, checkpoint_count, log_count, fresh_image}
use Rattle.rules.specs.Calls.{fresh}
use Rattle.rules.proofs.Script.{vec, note, leaves, all_zero, is_left}
use Rattle.rules.proofs.Computed.{computed}

-- ---- sizes

pub sizes :
    T
    (same (record_size ∷ history_size ∷ message_size 0 ∷ message_size history_most ∷ log_at ∷ image_size ∷ [])
    (28 ∷ 7168 ∷ 8 ∷ 7176 ∷ 7184 ∷ 8976 ∷ []))
unfolding computed
sizes = tt

pub limits :
    T (same (servers ∷ phones ∷ cells ∷ number_most ∷ history_most ∷ log_most ∷ []) (8 ∷ 64 ∷ 1024 ∷ 256 ∷ 256 ∷ 64 ∷ []))
unfolding computed
limits = tt

-- ---- a record: each byte is another one, so that no two can be exchanged

abbrev all28 : List ℕ
all28 =
    1 ∷ 2 ∷ 3 ∷ 4 ∷ 5 ∷ 6 ∷ 7 ∷ 8 ∷ 9 ∷ 10 ∷ 11 ∷ 12 ∷ 13 ∷ 14 ∷ 15 ∷ 16 ∷ 17 ∷ 18 ∷ 19 ∷ 20 ∷ 21 ∷ 22 ∷ 23 ∷ 24 ∷ 25 ∷ 26 ∷ 27 ∷ 28 ∷ []

abbrev the_record : Record
the_record =
    record {
      origin = server 0x01;
      phone = phone 0x02;
      cell = 0x0403;
      value = 0x08070605;
      time = 0x0C0B0A09;
      stamp = vec (0x0E0D ∷ 0x100F ∷ 0x1211 ∷ 0x1413 ∷ 0x1615 ∷ 0x1817 ∷ 0x1A19 ∷ 0x1C1B ∷ []);
    }

pub record-bytes : T (same (encode the_record) all28)
unfolding computed
record-bytes = tt

pub record-read : T (same (numbers_of (decode all28)) (numbers_of the_record))
unfolding computed
record-read = tt

-- ---- a message of server 2 of 3 with one write of server 1, its 256th

pub message-bytes :
    T
    (same (message_of 3 (server 2) (note 1 7 (0 ∷ 256 ∷ 4 ∷ []) ∷ []))
    (3 ∷ 2 ∷ 1 ∷ 0 ∷ 8 ∷ 0 ∷ 36 ∷ 0
    ∷ 1 ∷ 5 ∷ 44 ∷ 1 ∷ 7 ∷ 0 ∷ 0 ∷ 0 ∷ 132 ∷ 3 ∷ 0 ∷ 0 ∷ 0 ∷ 0 ∷ 0 ∷ 1 ∷ 4 ∷ 0
    ∷ replicate 10 0))
unfolding computed
message-bytes = tt

-- ---- an image of server 1 of 2

-- N, own number, counts 3 and 4, offsets 16 and 7,184, total 8,976, four zeros
abbrev header34 : List ℕ
header34 = 2 ∷ 1 ∷ 3 ∷ 0 ∷ 16 ∷ 0 ∷ 4 ∷ 0 ∷ 16 ∷ 28 ∷ 16 ∷ 35 ∷ 0 ∷ 0 ∷ 0 ∷ 0 ∷ []

pub header-bytes : T (same (header_of 2 (server 1) 3 4) header34)
unfolding computed
header-bytes = tt

pub header_read : T (eqb (checkpoint_count header34) 3 && eqb (log_count header34) 4)
unfolding computed
header_read = tt

pub fresh-image :
    let i = fresh_image 2 (server 1) in
    T
    (same (take 16 i) (2 ∷ 1 ∷ 0 ∷ 0 ∷ 16 ∷ 0 ∷ 0 ∷ 0 ∷ 16 ∷ 28 ∷ 16 ∷ 35 ∷ 0 ∷ 0 ∷ 0 ∷ 0 ∷ [])
    && all_zero (drop 16 i)
    && eqb (length i) 8976)
unfolding computed
fresh-image = tt

-- ---- the server that scripts begin with: up, of this N and number, all else zero

pub fresh-server :
    let m = fresh 2 (server 1) [] [] in
    T
    (eqb m.state.n 2
    && eqb m.state.own.0 1
    && is_left (leaves [] 0 0 [] 0 []) m m
    && eqb (length m.history) 7168)
unfolding computed
fresh-server = tt
