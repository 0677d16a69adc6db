-- What the definitions of kinds, messages and queues compute, case by case, as worked out by hand from the manual pages.
use Rattle.strm_rows.proofs.Prelude.{ℕ, suc, ◌≡◌, Bool, true, false, List, [], ◌∷◌, length, map, refl, replicate, filter, None, Some, MsgKind, Data}
use Rattle.strm_rows.proofs.Prelude.{Proto, Sig, Ctl, Ioctl, Setopts, Iocack, Iocnak, Pcproto, Pcsig, Read, Flush, Stop, Start, Hangup, Error}
use Rattle.strm_rows.proofs.Prelude.{kind_number, is_data_kind, Message, is_high_priority, is_held, cells_of, size_of, rank_of, band_of, data_message}
use Rattle.strm_rows.proofs.Prelude.{weight_of, map_message, Queue, new_queue, chunk_count, proto, urgent, options, ordinary, flow, queue}
use Rattle.std.specs.Prelude.{nat_lt}
use Rattle.strm_types.specs.Kinds.{is_control_kind, is_body_kind}
use Rattle.strm_types.specs.Flush.{is_flushed}
use Rattle.strm_types.specs.Queue.{count_of, bytes_of, flow_of, is_full, put_enables, left_with, relieved, relieves, with_writer_at, map_queue}
use Rattle.strm_types.specs.Write.{chunks_of}
use Rattle.strm_types.specs.Head.{head_read}

-- kinds

abbrev all_kinds : List MsgKind
all_kinds = Data ∷ Proto ∷ Sig ∷ Ctl ∷ Ioctl ∷ Setopts ∷ Iocack ∷ Iocnak ∷ Pcproto ∷ Pcsig ∷ Read ∷ Flush ∷ Stop ∷ Start ∷ Hangup ∷ Error ∷ []

pub kinds-have-numbers : map kind_number all_kinds ≡ 0x00 ∷ 0x01 ∷ 0x0b ∷ 0x0d ∷ 0x0e ∷ 0x10 ∷ 0x81 ∷ 0x82 ∷ 0x83 ∷ 0x84 ∷ 0x85 ∷ 0x86 ∷ 0x87 ∷ 0x88 ∷ 0x89 ∷ 0x8a ∷ []
unfolding kind_number
kinds-have-numbers = refl

pub kinds-of-high-priority : filter is_high_priority all_kinds ≡ Iocack ∷ Iocnak ∷ Pcproto ∷ Pcsig ∷ Read ∷ Flush ∷ Stop ∷ Start ∷ Hangup ∷ Error ∷ []
unfolding is_high_priority
kinds-of-high-priority = refl

pub kinds-held-back : filter is_held all_kinds ≡ Data ∷ Proto ∷ []
unfolding is_held
kinds-held-back = refl

pub kinds-of-data : filter is_data_kind all_kinds ≡ Data ∷ Proto ∷ Pcproto ∷ []
unfolding is_data_kind
kinds-of-data = refl

pub kinds-of-control-parts : filter is_control_kind all_kinds ≡ Proto ∷ Pcproto ∷ []
unfolding is_control_kind
kinds-of-control-parts = refl

pub kinds-of-data-parts : filter is_body_kind all_kinds ≡ Data ∷ []
unfolding is_body_kind
kinds-of-data-parts = refl

-- flushes: FLUSHALL, FLUSHDATA, and of band 3 and band 0 messages that stand in band 3, whatever else is asked

pub flush-takes-all : filter (λ k. is_flushed true None k 3) all_kinds ≡ all_kinds
unfolding is_data_kind
flush-takes-all = refl

pub flush-takes-data : filter (λ k. is_flushed false None k 3) all_kinds ≡ Data ∷ Proto ∷ Pcproto ∷ []
unfolding is_data_kind
flush-takes-data = refl

pub flush-takes-its-band : filter (λ k. is_flushed true (Some 3) k 3) all_kinds ≡ Data ∷ Proto ∷ []
unfolding is_data_kind is_high_priority
flush-takes-its-band = refl

pub flush-leaves-other-bands : filter (λ k. is_flushed true (Some 2) k 3) all_kinds ≡ []
unfolding is_data_kind is_high_priority
flush-leaves-other-bands = refl

pub flush-of-band-zero-takes-high-priority : filter (λ k. is_flushed false (Some 0) k 3) all_kinds ≡ Pcproto ∷ []
unfolding is_data_kind is_high_priority
flush-of-band-zero-takes-high-priority = refl

-- messages

pub data-message-is-ordinary : data_message (7 ∷ 8 ∷ []) ≡ ordinary (7 ∷ 8 ∷ [])
unfolding data_message
data-message-is-ordinary = refl

pub control-cells-come-first : map cells_of (proto ∷ urgent ∷ options ∷ []) ≡ (1 ∷ 2 ∷ 3 ∷ 4 ∷ 5 ∷ []) ∷ (9 ∷ []) ∷ [] ∷ []
unfolding cells_of
control-cells-come-first = refl

pub sizes-count-all-bytes : map size_of (proto ∷ urgent ∷ options ∷ []) ≡ 5 ∷ 1 ∷ 4 ∷ []
unfolding size_of cells_of
sizes-count-all-bytes = refl

pub ranks-of-messages : map rank_of (proto ∷ urgent ∷ options ∷ []) ≡ 2 ∷ 256 ∷ 1 ∷ []
unfolding rank_of is_high_priority
ranks-of-messages = refl

pub bands-of-messages : map band_of (proto ∷ urgent ∷ options ∷ []) ≡ 2 ∷ 0 ∷ 1 ∷ []
unfolding band_of is_high_priority
bands-of-messages = refl

pub weight-counts-cells : weight_of (λ b. nat_lt b 4) proto ≡ 3
unfolding weight_of cells_of
weight-counts-cells = refl

pub mapped-message-changes-cells-alone : map (map_message suc) (proto ∷ options ∷ []) ≡ record { kind = Proto; band = 2; control = Some (2 ∷ 3 ∷ []); body = Some (4 ∷ 5 ∷ 6 ∷ []); plain = [] } ∷ options ∷ []
unfolding map_message
mapped-message-changes-cells-alone = refl

-- counts and marks

abbrev several : List (Message ℕ)
several = urgent ∷ proto ∷ options ∷ ordinary (7 ∷ 8 ∷ []) ∷ []

pub counts-of-bands : map (λ band. count_of band several) (0 ∷ 1 ∷ 2 ∷ 3 ∷ 256 ∷ []) ≡ 3 ∷ 4 ∷ 5 ∷ 0 ∷ 0 ∷ []
unfolding band_of size_of cells_of is_high_priority
counts-of-bands = refl

pub bytes-of-several : bytes_of several ≡ 12
unfolding size_of cells_of
bytes-of-several = refl

-- a band is full from its high mark on: three bytes in band 0, four in band 1, five in band 2
pub full-from-the-mark-on : map (λ band. is_full band (queue several (flow 3 0 false ∷ flow 5 0 false ∷ flow 4 0 false ∷ []))) (0 ∷ 1 ∷ 2 ∷ []) ≡ true ∷ false ∷ true ∷ []
unfolding band_of size_of cells_of is_high_priority
full-from-the-mark-on = refl

pub band-behind-the-last-is-empty : flow_of 1 (queue [] (flow 3 2 true ∷ [])) ≡ flow 1 0 false
band-behind-the-last-is-empty = refl

pub new-queue-is-empty : new_queue {C = ℕ} 512 128 ≡ queue [] (replicate 256 (flow 512 128 false))
new-queue-is-empty = refl

-- what a put enables: by message of high priority, of a band and of band 0, with the flags want-read and no-enable

abbrev enables : Bool → Bool → List Bool
enables want_read no_enable = map (λ m. put_enables m (record { messages = []; flows = []; want_read = want_read; no_enable = no_enable })) (urgent ∷ proto ∷ ordinary [] ∷ [])

pub put-enables-a-waiting-queue : enables true false ≡ true ∷ true ∷ true ∷ []
unfolding band_of is_high_priority
put-enables-a-waiting-queue = refl

pub put-of-band-zero-enables-no-busy-queue : enables false false ≡ true ∷ true ∷ false ∷ []
unfolding band_of is_high_priority
put-of-band-zero-enables-no-busy-queue = refl

pub high-priority-enables-though-it-is-off : enables true true ≡ true ∷ false ∷ false ∷ []
unfolding band_of is_high_priority
high-priority-enables-though-it-is-off = refl

-- Writers are let go from the low mark down: two bytes in band 0 at mark 2, none in band 1 at mark 0, five in band 2 at
-- mark 4, and nobody waits in band 3.

abbrev waited : Queue ℕ
waited = queue (proto ∷ ordinary (7 ∷ 8 ∷ []) ∷ []) (flow 9 2 true ∷ flow 9 0 true ∷ flow 9 4 true ∷ flow 9 9 false ∷ [])

pub relief-comes-at-the-low-mark : (relieved waited).flows ≡ flow 9 2 false ∷ flow 9 0 false ∷ flow 9 4 true ∷ flow 9 9 false ∷ []
unfolding band_of size_of cells_of is_high_priority
relief-comes-at-the-low-mark = refl

pub relief-at-the-low-mark : relieves (queue (ordinary (7 ∷ 8 ∷ []) ∷ []) (flow 9 2 true ∷ [])) ≡ true
unfolding band_of size_of cells_of is_high_priority
relief-at-the-low-mark = refl

pub no-relief-above-the-low-mark : relieves (queue (ordinary (7 ∷ 8 ∷ 9 ∷ []) ∷ []) (flow 9 2 true ∷ [])) ≡ false
unfolding band_of size_of cells_of is_high_priority
no-relief-above-the-low-mark = refl

pub no-relief-where-nobody-waits : relieves (queue [] (flow 9 2 false ∷ flow 9 2 false ∷ [])) ≡ false
no-relief-where-nobody-waits = refl

pub relief-of-a-later-band : relieves (queue (proto ∷ ordinary (7 ∷ 8 ∷ []) ∷ []) (flow 9 1 true ∷ flow 9 0 false ∷ flow 9 5 true ∷ [])) ≡ true
unfolding band_of size_of cells_of is_high_priority
relief-of-a-later-band = refl

pub writer-waits-in-its-band : with_writer_at 1 (flow 9 2 false ∷ flow 8 1 false ∷ flow 7 0 false ∷ []) ≡ flow 9 2 false ∷ flow 8 1 true ∷ flow 7 0 false ∷ []
writer-waits-in-its-band = refl

pub taken-queue-was-read : left_with (ordinary [] ∷ []) waited ≡ record { messages = ordinary [] ∷ []; flows = waited.flows; want_read = false; no_enable = false }
taken-queue-was-read = refl

pub mapped-queue-keeps-its-flags : map_queue suc (record { messages = ordinary (7 ∷ []) ∷ []; flows = flow 9 2 true ∷ []; want_read = false; no_enable = true }) ≡ record { messages = ordinary (8 ∷ []) ∷ []; flows = flow 9 2 true ∷ []; want_read = false; no_enable = true }
unfolding map_message
mapped-queue-keeps-its-flags = refl

-- reads: of a part, of exactly one message, of exactly two, of more than there is, and of none

abbrev two : List (Message ℕ)
two = ordinary (97 ∷ 98 ∷ 99 ∷ []) ∷ ordinary (100 ∷ 101 ∷ []) ∷ []

pub read-of-a-part : head_read 1 two ≡ record { given = 97 ∷ []; left = ordinary (98 ∷ 99 ∷ []) ∷ ordinary (100 ∷ 101 ∷ []) ∷ [] }
unfolding size_of cells_of rank_of is_high_priority
read-of-a-part = refl

pub read-of-a-message : head_read 3 two ≡ record { given = 97 ∷ 98 ∷ 99 ∷ []; left = ordinary (100 ∷ 101 ∷ []) ∷ [] }
unfolding size_of cells_of rank_of is_high_priority
read-of-a-message = refl

pub read-over-a-border : head_read 4 two ≡ record { given = 97 ∷ 98 ∷ 99 ∷ 100 ∷ []; left = ordinary (101 ∷ []) ∷ [] }
unfolding size_of cells_of rank_of is_high_priority
read-over-a-border = refl

pub read-of-two-messages : head_read 5 two ≡ record { given = 97 ∷ 98 ∷ 99 ∷ 100 ∷ 101 ∷ []; left = [] }
unfolding size_of cells_of rank_of is_high_priority
read-of-two-messages = refl

pub read-of-more-than-there-is : head_read 9 two ≡ record { given = 97 ∷ 98 ∷ 99 ∷ 100 ∷ 101 ∷ []; left = [] }
unfolding size_of cells_of rank_of is_high_priority
read-of-more-than-there-is = refl

pub read-of-none : head_read 0 (ordinary [] ∷ two) ≡ record { given = []; left = ordinary [] ∷ two }
read-of-none = refl

-- what is left of an M_PROTO has no control part
pub read-within-a-data-part : head_read 3 (proto ∷ []) ≡ record { given = 1 ∷ 2 ∷ 3 ∷ []; left = record { kind = Proto; band = 2; control = None; body = Some (4 ∷ 5 ∷ []); plain = [] } ∷ [] }
unfolding size_of cells_of rank_of is_high_priority
read-within-a-data-part = refl

-- zero-length messages: alone, before others, behind them and between them

pub zero-length-alone-is-removed : head_read 5 (ordinary [] ∷ []) ≡ record { given = []; left = [] }
unfolding size_of cells_of
zero-length-alone-is-removed = refl

pub zero-length-before-others-is-removed : head_read 5 (ordinary [] ∷ ordinary (97 ∷ []) ∷ []) ≡ record { given = []; left = ordinary (97 ∷ []) ∷ [] }
unfolding size_of cells_of
zero-length-before-others-is-removed = refl

pub zero-length-behind-others-stays : head_read 5 (ordinary (97 ∷ []) ∷ ordinary [] ∷ []) ≡ record { given = 97 ∷ []; left = ordinary [] ∷ [] }
unfolding size_of cells_of
zero-length-behind-others-stays = refl

pub zero-length-between-others-stays : head_read 5 (ordinary (97 ∷ []) ∷ ordinary [] ∷ ordinary (98 ∷ []) ∷ []) ≡ record { given = 97 ∷ []; left = ordinary [] ∷ ordinary (98 ∷ []) ∷ [] }
unfolding size_of cells_of
zero-length-between-others-stays = refl

-- writes: a message for each begun 256 bytes, at least one

pub chunks-are-counted : map chunk_count (0 ∷ 1 ∷ 255 ∷ 256 ∷ 257 ∷ 512 ∷ 513 ∷ []) ≡ 1 ∷ 1 ∷ 1 ∷ 1 ∷ 2 ∷ 2 ∷ 3 ∷ []
unfolding chunk_count
chunks-are-counted = refl

pub chunks-are-of-256 : map (λ (chunk : List ℕ). length chunk) (chunks_of 3 (replicate {A = ℕ} 600 122)) ≡ 256 ∷ 256 ∷ 88 ∷ []
chunks-are-of-256 = refl
