-- What short scripts write: their answers, the first line that got ENOSR, and the first malformed line.
use Rattle.std.proofs.Common.{ℕ, ◌≡◌, List, [], ◌∷◌, ◌++◌, map, replicate, refl}
use Rattle.std.specs.Prelude.{codes, Option, None, Some}
use Rattle.std.specs.Fmt.{decimal}
use Rattle.std.specs.List.{concat}
use Rattle.strm_types.specs.Message.{data_message, is_held, rank_of, band_of, size_of, cells_of, is_high_priority, weight_of}
use Rattle.strm_types.specs.Deliver.{carried}
use Rattle.strm_types.specs.Drivers.{crosses}
use Rattle.strm_types.specs.Flush.{is_data_kind}
use Rattle.strm_types.specs.Write.{chunk_count}
use Rattle.strm_script.specs.Script.{Open, digit_of, escaped, hex_of}
use Rattle.strm_script.specs.ScriptReading.{number_from, number_in, text_from, text_in, way_in, queue_in, is_name, quoted_len, number_to, command_in, reading, token_len, token_in, last_in, part_in, prio_in, wanted_in, side_at, place_at}
use Rattle.strm_script.specs.ScriptAnswers.{line_text}
use Rattle.strm_script.specs.ScriptRun.{Enough, TooFew, Told, script_limits, call_of, turn_of, by_call, by_flush, band_of as named_band, by_put, by_get, by_show, by_ledger, by_turn, turns_of, by_run, by_open, answered, new_callers, new_session, told_from}

-- lines of text, each with LF behind it, and what comes behind them
abbrev text : List (List ℕ) → List ℕ → List ℕ
text [] last = last
text (line ∷ lines) last = (line ++ 10 ∷ []) ++ text lines last

-- the messages and the bytes of a queue
abbrev size : List ℕ → ℕ → ℕ → List ℕ
size name messages bytes = name ++ (decimal messages ++ (codes " " ++ decimal bytes))

-- what stands on the queues of a side's stream: the head's messages and bytes, and the driver's
abbrev stands : List ℕ → ℕ → ℕ → ℕ → ℕ → List ℕ
stands shown a b c d = shown ++ concat (size (codes " head.r ") a b ∷ size (codes " drv.w ") c d ∷ [])

-- the ledger of a direction in which so much was written, nothing was made, and so much stands on queues, with what has gone
abbrev booked : List ℕ → ℕ → ℕ → List (List ℕ) → List ℕ
booked direction written queued gone =
    concat (codes "ledger " ∷ direction ∷ codes " written " ∷ decimal written ∷ codes " made " ∷ decimal 0 ∷ codes " queued " ∷ decimal queued ∷ codes " inline " ∷ decimal 0 ∷ gone)

-- a script that goes to its end, with this short line
abbrev wrote : List (List ℕ) → Option ℕ → Told
wrote lines short = record { text = text lines []; short = short; fault = None }

-- a script that ends at a malformed line of this number
abbrev ended : List (List ℕ) → ℕ → Told
ended lines n = record { text = text lines (codes "err line " ++ decimal n ++ 10 ∷ []); short = None; fault = Some n }

pub pair-of-a-script : script_limits 16 ≡ record { mblks = 16; dblks = 16; journal_events = 8192; journal_bytes = 262144 }
pair-of-a-script = refl

-- where a script names no number, its pair has 256 blocks of each kind
pub usual-pair : (answered new_callers (Open None) [] None).pair ≡ (answered new_callers (Open (Some 256)) [] None).pair
unfolding answered by_open by_call call_of
usual-pair = refl

-- lines count from 1, silent ones too, and nothing is said behind a malformed one
pub malformed-line-ends-a-script : told_from 1 [] new_session (codes "# a" ∷ [] ∷ codes "unlock" ∷ codes "bad" ∷ codes "open" ∷ []) ≡ ended (codes "err ENXIO" ∷ []) 4
unfolding told_from reading command_in answered line_text token_len token_in last_in quoted_len number_in number_from digit_of number_to text_in text_from part_in is_name prio_in wanted_in queue_in side_at place_at way_in escaped hex_of
malformed-line-ends-a-script = refl

pub first-line-is-line-one : told_from 1 [] new_session (codes "bad" ∷ []) ≡ ended [] 1
unfolding told_from reading command_in line_text token_len token_in last_in quoted_len number_in number_from digit_of number_to text_in text_from part_in is_name prio_in wanted_in queue_in side_at place_at way_in escaped hex_of
first-line-is-line-one = refl

-- commands before a pair is there, pairs with no blocks and with too many, and a second pair
pub pair-is-made-once : told_from 1 [] new_session (codes "slave" ∷ codes "write m \"\"" ∷ codes "read s 1" ∷ codes "turn m.drv.w" ∷ codes "run 1" ∷ codes "open 0" ∷ codes "open 4097" ∷ codes "open 4096" ∷ codes "open" ∷ []) ≡ wrote (codes "err ENXIO" ∷ codes "err ENXIO" ∷ codes "err ENXIO" ∷ codes "err ENXIO" ∷ codes "err ENXIO" ∷ codes "err EINVAL" ∷ codes "err EINVAL" ∷ codes "ok" ∷ codes "err EINVAL" ∷ []) None
unfolding told_from reading command_in answered by_open by_call call_of line_text token_len token_in last_in quoted_len number_in number_from digit_of number_to text_in text_from part_in is_name prio_in wanted_in queue_in side_at place_at way_in escaped hex_of
pair-is-made-once = refl

-- a whole script: what the master writes, the slave reads; turns end where none is enabled
pub bytes-go-through : told_from 1 [] new_session (codes "open" ∷ codes "unlock" ∷ codes "slave" ∷ codes "turn m.drv.w" ∷ codes "write m \"a\"" ∷ codes "write m \"b\"" ∷ codes "run 0" ∷ codes "run 1" ∷ codes "run 9" ∷ codes "read s 9" ∷ codes "read s 9" ∷ []) ≡ wrote (codes "ok" ∷ codes "ok" ∷ codes "ok" ∷ codes "err EINVAL" ∷ (codes "ok " ++ decimal 1) ∷ (codes "ok " ++ decimal 1) ∷ (codes "ran " ++ decimal 0) ∷ (codes "ran " ++ decimal 1) ∷ (codes "ran " ++ decimal 1) ∷ (codes "data " ++ decimal 2 ++ codes " " ++ codes "\"ab\"") ∷ codes "err EAGAIN" ∷ []) None
unfolding told_from reading command_in answered by_open by_call call_of by_run turns_of by_turn turn_of line_text chunk_count data_message rank_of band_of size_of cells_of is_high_priority is_held is_data_kind carried token_len token_in last_in quoted_len number_in number_from digit_of number_to text_in text_from part_in is_name prio_in wanted_in queue_in side_at place_at way_in escaped hex_of
bytes-go-through = refl

-- the other way, by turns: towards a slave that isn't open a turn is blocked, and its opening enables the queue again
pub turns-are-told : told_from 1 [] new_session (codes "open" ∷ codes "write m \"a\"" ∷ codes "turn m.drv.w" ∷ codes "turn m.drv.w" ∷ codes "unlock" ∷ codes "slave" ∷ codes "turn m.drv.w" ∷ codes "write s \"b\"" ∷ codes "turn s.drv.w" ∷ codes "read m 9" ∷ []) ≡ wrote (codes "ok" ∷ (codes "ok " ++ decimal 1) ∷ codes "blocked" ∷ codes "err EINVAL" ∷ codes "ok" ∷ codes "ok" ∷ (codes "ok " ++ decimal 1) ∷ (codes "ok " ++ decimal 1) ∷ (codes "ok " ++ decimal 1) ∷ (codes "data " ++ decimal 1 ++ codes " " ++ codes "\"b\"") ∷ []) None
unfolding told_from reading command_in answered by_open by_call call_of by_turn turn_of line_text chunk_count data_message rank_of band_of size_of cells_of is_high_priority is_held is_data_kind carried token_len token_in last_in quoted_len number_in number_from digit_of number_to text_in text_from part_in is_name prio_in wanted_in queue_in side_at place_at way_in escaped hex_of
turns-are-told = refl

-- An account: what asks for no blocks has enough of them. A write and turns that get too few are refused by ENOSR and
-- count nothing, and the first such line is the short one.
pub account-of-blocks : told_from 1 (TooFew ∷ TooFew ∷ TooFew ∷ TooFew ∷ Enough ∷ TooFew ∷ Enough ∷ TooFew ∷ []) new_session (codes "open" ∷ codes "unlock" ∷ codes "slave" ∷ codes "write m \"a\"" ∷ codes "write m \"a\"" ∷ codes "run 9" ∷ codes "run 9" ∷ codes "read s 1" ∷ codes "write s \"b\"" ∷ []) ≡ wrote (codes "ok" ∷ codes "ok" ∷ codes "ok" ∷ codes "err ENOSR" ∷ (codes "ok " ++ decimal 1) ∷ (codes "ran " ++ decimal 0) ∷ (codes "ran " ++ decimal 1) ∷ (codes "data " ++ decimal 1 ++ codes " " ++ codes "\"a\"") ∷ (codes "ok " ++ decimal 1) ∷ []) (Some 4)
unfolding told_from reading command_in answered by_open by_call call_of by_run turns_of by_turn turn_of line_text chunk_count data_message rank_of band_of size_of cells_of is_high_priority is_held is_data_kind carried token_len token_in last_in quoted_len number_in number_from digit_of number_to text_in text_from part_in is_name prio_in wanted_in queue_in side_at place_at way_in escaped hex_of
account-of-blocks = refl

-- turns that get too few make their line the short one, and a turn too; turns before them count
pub short-lines-of-turns : map (λ account. (told_from 1 account new_session (codes "open" ∷ codes "unlock" ∷ codes "slave" ∷ codes "write m \"a\"" ∷ codes "write s \"b\"" ∷ codes "run 9" ∷ codes "turn s.drv.w" ∷ [])).short) ((Enough ∷ Enough ∷ Enough ∷ Enough ∷ Enough ∷ TooFew ∷ Enough ∷ []) ∷ (Enough ∷ Enough ∷ Enough ∷ Enough ∷ Enough ∷ Enough ∷ TooFew ∷ []) ∷ []) ≡ Some 6 ∷ Some 6 ∷ []
unfolding told_from reading command_in answered by_open by_call call_of by_run turns_of by_turn turn_of line_text chunk_count data_message rank_of band_of size_of cells_of is_high_priority is_held is_data_kind carried token_len token_in last_in quoted_len number_in number_from digit_of number_to text_in text_from part_in is_name prio_in wanted_in queue_in side_at place_at way_in escaped hex_of
short-lines-of-turns = refl

-- the second of two turns gets too few: one is counted, and the queue stays enabled for a turn
pub turns-before-a-short-one-count : told_from 1 (Enough ∷ Enough ∷ Enough ∷ Enough ∷ Enough ∷ Enough ∷ TooFew ∷ TooFew ∷ []) new_session (codes "open" ∷ codes "unlock" ∷ codes "slave" ∷ codes "write m \"a\"" ∷ codes "write s \"b\"" ∷ codes "run 9" ∷ codes "turn s.drv.w" ∷ codes "turn s.drv.w" ∷ codes "read m 1" ∷ []) ≡ wrote (codes "ok" ∷ codes "ok" ∷ codes "ok" ∷ (codes "ok " ++ decimal 1) ∷ (codes "ok " ++ decimal 1) ∷ (codes "ran " ++ decimal 1) ∷ codes "err ENOSR" ∷ (codes "ok " ++ decimal 1) ∷ (codes "data " ++ decimal 1 ++ codes " " ++ codes "\"b\"") ∷ []) (Some 6)
unfolding told_from reading command_in answered by_open by_call call_of by_run turns_of by_turn turn_of line_text chunk_count data_message rank_of band_of size_of cells_of is_high_priority is_held is_data_kind carried token_len token_in last_in quoted_len number_in number_from digit_of number_to text_in text_from part_in is_name prio_in wanted_in queue_in side_at place_at way_in escaped hex_of
turns-before-a-short-one-count = refl

-- commands on a stream before a pair is there
pub streams-want-a-pair : told_from 1 [] new_session (codes "close m" ∷ codes "push m ldterm" ∷ codes "pop m" ∷ codes "look s" ∷ codes "flush m r" ∷ codes "flush m r 256" ∷ codes "show m" ∷ []) ≡ wrote (codes "err ENXIO" ∷ codes "err ENXIO" ∷ codes "err ENXIO" ∷ codes "err ENXIO" ∷ codes "err ENXIO" ∷ codes "err ENXIO" ∷ codes "err ENXIO" ∷ []) None
unfolding told_from reading command_in answered by_open by_call by_flush by_show call_of by_run turns_of by_turn turn_of line_text chunk_count data_message rank_of band_of size_of cells_of is_high_priority is_held is_data_kind carried token_len token_in last_in quoted_len number_in number_from digit_of number_to text_in text_from part_in is_name prio_in wanted_in queue_in side_at place_at way_in escaped hex_of
streams-want-a-pair = refl

-- a band above 255 is refused before the call is made, and so on a stream that isn't open; what stands is told of that too
pub bands-and-sizes-of-a-closed-stream : told_from 1 [] new_session (codes "open" ∷ codes "flush s r 256" ∷ codes "flush s r 255" ∷ codes "flush m r 4294967295" ∷ codes "flush m r 255" ∷ codes "flush m r 7" ∷ codes "show s" ∷ []) ≡ wrote (codes "ok" ∷ codes "err EINVAL" ∷ codes "err ENXIO" ∷ codes "err EINVAL" ∷ codes "ok" ∷ codes "ok" ∷ stands (codes "show s") 0 0 0 0 ∷ []) None
unfolding told_from reading command_in answered by_open by_call by_flush by_show call_of by_run turns_of by_turn turn_of line_text chunk_count data_message rank_of band_of size_of cells_of is_high_priority is_held is_data_kind carried token_len token_in last_in quoted_len number_in number_from digit_of number_to text_in text_from part_in is_name prio_in wanted_in queue_in side_at place_at way_in escaped hex_of
bands-and-sizes-of-a-closed-stream = refl

-- what a side's queues have before a turn and behind it, each its messages and then its bytes
pub sizes-are-told : told_from 1 [] new_session (codes "open" ∷ codes "unlock" ∷ codes "slave" ∷ codes "write m \"ab\"" ∷ codes "write m \"c\"" ∷ codes "show m" ∷ codes "show s" ∷ codes "run 9" ∷ codes "show m" ∷ codes "show s" ∷ []) ≡ wrote (codes "ok" ∷ codes "ok" ∷ codes "ok" ∷ (codes "ok " ++ decimal 2) ∷ (codes "ok " ++ decimal 1) ∷ stands (codes "show m") 0 0 2 3 ∷ stands (codes "show s") 0 0 0 0 ∷ (codes "ran " ++ decimal 2) ∷ stands (codes "show m") 0 0 0 0 ∷ stands (codes "show s") 2 3 0 0 ∷ []) None
unfolding told_from reading command_in answered by_open by_call by_flush by_show call_of by_run turns_of by_turn turn_of line_text chunk_count data_message rank_of band_of size_of cells_of is_high_priority is_held is_data_kind carried token_len token_in last_in quoted_len number_in number_from digit_of number_to text_in text_from part_in is_name prio_in wanted_in queue_in side_at place_at way_in escaped hex_of
sizes-are-told = refl

-- a flush takes what is on its way, and another queue's isn't touched
pub flush-takes-bytes : told_from 1 [] new_session (codes "open" ∷ codes "unlock" ∷ codes "slave" ∷ codes "write m \"ab\"" ∷ codes "write s \"c\"" ∷ codes "flush m w" ∷ codes "show m" ∷ codes "show s" ∷ []) ≡ wrote (codes "ok" ∷ codes "ok" ∷ codes "ok" ∷ (codes "ok " ++ decimal 2) ∷ (codes "ok " ++ decimal 1) ∷ codes "ok" ∷ stands (codes "show m") 0 0 0 0 ∷ stands (codes "show s") 0 0 1 1 ∷ []) None
unfolding told_from reading command_in answered by_open by_call by_flush by_show call_of by_run turns_of by_turn turn_of line_text chunk_count data_message rank_of band_of size_of cells_of is_high_priority is_held is_data_kind carried token_len token_in last_in quoted_len number_in number_from digit_of number_to text_in text_from part_in is_name prio_in wanted_in queue_in side_at place_at way_in escaped hex_of
flush-takes-bytes = refl

-- a module is pushed only if its name is known
pub other-modules-are-not-known : told_from 1 [] new_session (codes "open" ∷ codes "look m" ∷ codes "pop m" ∷ codes "push m foo" ∷ codes "push m pckt" ∷ codes "look m" ∷ []) ≡ wrote (codes "ok" ∷ codes "err EINVAL" ∷ codes "err EINVAL" ∷ codes "err EINVAL" ∷ codes "ok" ∷ codes "name pckt" ∷ []) None
unfolding told_from reading command_in answered by_open by_call by_flush by_show call_of by_run turns_of by_turn turn_of line_text chunk_count data_message rank_of band_of size_of cells_of is_high_priority is_held is_data_kind carried token_len token_in last_in quoted_len number_in number_from digit_of number_to text_in text_from part_in is_name prio_in wanted_in queue_in side_at place_at way_in escaped hex_of
other-modules-are-not-known = refl

-- ptem stands once, and is popped as any other
pub ptem-stands-once : told_from 1 [] new_session (codes "open" ∷ codes "push m ptem" ∷ codes "push m ptem" ∷ codes "look m" ∷ codes "pop m" ∷ codes "look m" ∷ []) ≡ wrote (codes "ok" ∷ codes "ok" ∷ codes "err EINVAL" ∷ codes "name ptem" ∷ codes "ok" ∷ codes "err EINVAL" ∷ []) None
unfolding told_from reading command_in answered by_open by_call by_flush by_show call_of by_run turns_of by_turn turn_of line_text chunk_count data_message rank_of band_of size_of cells_of is_high_priority is_held is_data_kind carried token_len token_in last_in quoted_len number_in number_from digit_of number_to text_in text_from part_in is_name prio_in wanted_in queue_in side_at place_at way_in escaped hex_of
ptem-stands-once = refl

-- an account: a look asks for no blocks, and a close that gets too few is refused
pub account-of-closes : told_from 1 (TooFew ∷ TooFew ∷ TooFew ∷ []) new_session (codes "open" ∷ codes "show m" ∷ codes "close m" ∷ []) ≡ wrote (codes "ok" ∷ stands (codes "show m") 0 0 0 0 ∷ codes "err ENOSR" ∷ []) (Some 3)
unfolding told_from reading command_in answered by_open by_call by_flush by_show call_of by_run turns_of by_turn turn_of line_text chunk_count data_message rank_of band_of size_of cells_of is_high_priority is_held is_data_kind carried token_len token_in last_in quoted_len number_in number_from digit_of number_to text_in text_from part_in is_name prio_in wanted_in queue_in side_at place_at way_in escaped hex_of
account-of-closes = refl

-- puts of three ranks come as their ranks say, and of one rank in their order; a part that is absent stays so
pub puts-come-in-order-of-rank : told_from 1 [] new_session (codes "open" ∷ codes "unlock" ∷ codes "slave" ∷ codes "put m 0 - \"a\"" ∷ codes "put m 1 - \"b\"" ∷ codes "put m hi \"c\" -" ∷ codes "put m 1 - \"d\"" ∷ codes "run 10" ∷ codes "get s" ∷ codes "get s" ∷ codes "get s" ∷ codes "get s" ∷ []) ≡ wrote (codes "ok" ∷ codes "ok" ∷ codes "ok" ∷ codes "ok" ∷ codes "ok" ∷ codes "ok" ∷ codes "ok" ∷ (codes "ran " ++ decimal 4) ∷ codes "msg hi \"c\" - -" ∷ concat (codes "msg " ∷ decimal 1 ∷ codes " - \"b\" -" ∷ []) ∷ concat (codes "msg " ∷ decimal 1 ∷ codes " - \"d\" -" ∷ []) ∷ concat (codes "msg " ∷ decimal 0 ∷ codes " - \"a\" -" ∷ []) ∷ []) None
unfolding told_from reading command_in answered by_open by_call by_flush by_put by_get named_band by_show call_of by_run turns_of by_turn turn_of line_text chunk_count data_message rank_of band_of size_of cells_of is_high_priority is_held is_data_kind carried token_len token_in last_in quoted_len number_in number_from digit_of number_to text_in text_from part_in is_name prio_in wanted_in queue_in side_at place_at way_in escaped hex_of
puts-come-in-order-of-rank = refl

-- a get of less than a message tells what there is more of, and the rest comes with the next one
pub gets-leave-a-rest : told_from 1 [] new_session (codes "open" ∷ codes "unlock" ∷ codes "slave" ∷ codes "put m 0 \"abc\" \"wxyz\"" ∷ codes "run 10" ∷ codes "get s any 2 3" ∷ codes "get s" ∷ []) ≡ wrote (codes "ok" ∷ codes "ok" ∷ codes "ok" ∷ codes "ok" ∷ (codes "ran " ++ decimal 1) ∷ concat (codes "msg " ∷ decimal 0 ∷ codes " \"ab\" \"wxy\" cd" ∷ []) ∷ concat (codes "msg " ∷ decimal 0 ∷ codes " \"c\" \"z\" -" ∷ []) ∷ []) None
unfolding told_from reading command_in answered by_open by_call by_flush by_put by_get named_band by_show call_of by_run turns_of by_turn turn_of line_text chunk_count data_message rank_of band_of size_of cells_of is_high_priority is_held is_data_kind carried token_len token_in last_in quoted_len number_in number_from digit_of number_to text_in text_from part_in is_name prio_in wanted_in queue_in side_at place_at way_in escaped hex_of
gets-leave-a-rest = refl

-- a band above 255 is refused before the call is made, on a stream that isn't open too; a put of high priority has a control part
pub bands-of-puts-and-gets : told_from 1 [] new_session (codes "open" ∷ codes "put s 256 - \"a\"" ∷ codes "put s 255 - \"a\"" ∷ codes "get s 256 1 1" ∷ codes "get s 255 1 1" ∷ codes "put m 256 - -" ∷ codes "put m 255 - -" ∷ codes "get m 255 1 1" ∷ codes "put m hi - \"a\"" ∷ codes "put m 0 - -" ∷ codes "get m" ∷ []) ≡ wrote (codes "ok" ∷ codes "err EINVAL" ∷ codes "err ENXIO" ∷ codes "err EINVAL" ∷ codes "err ENXIO" ∷ codes "err EINVAL" ∷ codes "ok" ∷ codes "err EAGAIN" ∷ codes "err EINVAL" ∷ codes "ok" ∷ codes "err EAGAIN" ∷ []) None
unfolding told_from reading command_in answered by_open by_call by_flush by_put by_get named_band by_show call_of by_run turns_of by_turn turn_of line_text chunk_count data_message rank_of band_of size_of cells_of is_high_priority is_held is_data_kind carried token_len token_in last_in quoted_len number_in number_from digit_of number_to text_in text_from part_in is_name prio_in wanted_in queue_in side_at place_at way_in escaped hex_of
bands-of-puts-and-gets = refl

-- commands about messages before a pair is there, also with a band above 255
pub messages-want-a-pair : told_from 1 [] new_session (codes "put m 0 - \"a\"" ∷ codes "put m 256 - \"a\"" ∷ codes "get m" ∷ codes "get m 256 1 1" ∷ codes "mode m msgn" ∷ []) ≡ wrote (codes "err ENXIO" ∷ codes "err ENXIO" ∷ codes "err ENXIO" ∷ codes "err ENXIO" ∷ codes "err ENXIO" ∷ []) None
unfolding told_from reading command_in answered by_open by_call by_flush by_put by_get named_band by_show call_of by_run turns_of by_turn turn_of line_text chunk_count data_message rank_of band_of size_of cells_of is_high_priority is_held is_data_kind carried token_len token_in last_in quoted_len number_in number_from digit_of number_to text_in text_from part_in is_name prio_in wanted_in queue_in side_at place_at way_in escaped hex_of
messages-want-a-pair = refl

-- a mode ends a read at its message, and the other one stays
pub modes-end-reads : told_from 1 [] new_session (codes "open" ∷ codes "unlock" ∷ codes "slave" ∷ codes "mode s msgd" ∷ codes "put m 0 \"c\" \"ab\"" ∷ codes "run 9" ∷ codes "read s 1" ∷ codes "mode s protdat" ∷ codes "read s 1" ∷ codes "read s 9" ∷ []) ≡ wrote (codes "ok" ∷ codes "ok" ∷ codes "ok" ∷ codes "ok" ∷ codes "ok" ∷ (codes "ran " ++ decimal 1) ∷ codes "err EBADMSG" ∷ codes "ok" ∷ (codes "data " ++ decimal 1 ++ codes " " ++ codes "\"c\"") ∷ codes "err EAGAIN" ∷ []) None
unfolding told_from reading command_in answered by_open by_call by_flush by_put by_get named_band by_show call_of by_run turns_of by_turn turn_of line_text chunk_count data_message rank_of band_of size_of cells_of is_high_priority is_held is_data_kind carried token_len token_in last_in quoted_len number_in number_from digit_of number_to text_in text_from part_in is_name prio_in wanted_in queue_in side_at place_at way_in escaped hex_of
modes-end-reads = refl

-- An ioctl that no driver knows: the master's waits for turns and the slave's is answered at once. An answer is given once.
pub ioctls-are-answered : told_from 1 [] new_session (codes "open" ∷ codes "unlock" ∷ codes "slave" ∷ codes "ioctl m TIOCGWINSZ" ∷ codes "ioctl m TIOCGWINSZ" ∷ codes "run 10" ∷ codes "poll m 1" ∷ codes "ioctl s TIOCGWINSZ" ∷ codes "poll s 1" ∷ []) ≡ wrote (codes "ok" ∷ codes "ok" ∷ codes "ok" ∷ (codes "pending " ++ decimal 1) ∷ codes "err EAGAIN" ∷ (codes "ran " ++ decimal 2) ∷ codes "nak EINVAL" ∷ codes "nak EINVAL" ∷ codes "err EINVAL" ∷ []) None
unfolding told_from reading command_in answered by_open by_call by_flush by_put by_get named_band by_show call_of by_run turns_of by_turn turn_of line_text chunk_count data_message rank_of band_of size_of cells_of is_high_priority is_held is_data_kind crosses carried token_len token_in last_in quoted_len number_in number_from digit_of number_to text_in text_from part_in is_name prio_in wanted_in queue_in side_at place_at way_in escaped hex_of
ioctls-are-answered = refl

-- an account: a poll and a look at signals ask for no blocks, and an ioctl that gets too few is refused and counts nothing
pub account-of-ioctls : told_from 1 (TooFew ∷ TooFew ∷ TooFew ∷ Enough ∷ TooFew ∷ []) new_session (codes "open" ∷ codes "ioctl m TCGETS" ∷ codes "signals m" ∷ codes "ioctl m TCGETS" ∷ codes "poll m 1" ∷ []) ≡ wrote (codes "ok" ∷ codes "err ENOSR" ∷ codes "signals -" ∷ codes "nak EINVAL" ∷ codes "err EINVAL" ∷ []) (Some 2)
unfolding told_from reading command_in answered by_open by_call by_flush by_put by_get named_band by_show call_of by_run turns_of by_turn turn_of line_text chunk_count data_message rank_of band_of size_of cells_of is_high_priority is_held is_data_kind crosses carried token_len token_in last_in quoted_len number_in number_from digit_of number_to text_in text_from part_in is_name prio_in wanted_in queue_in side_at place_at way_in escaped hex_of
account-of-ioctls = refl

-- commands about ioctls before a pair is there, and on a stream that isn't open
pub ioctls-want-a-pair : told_from 1 [] new_session (codes "ioctl m TCGETS" ∷ codes "ioctl s raw 99 \"x\"" ∷ codes "poll m 1" ∷ codes "signals s" ∷ codes "open" ∷ codes "ioctl s TCGETS" ∷ codes "poll s 1" ∷ codes "signals s" ∷ []) ≡ wrote (codes "err ENXIO" ∷ codes "err ENXIO" ∷ codes "err ENXIO" ∷ codes "err ENXIO" ∷ codes "ok" ∷ codes "err ENXIO" ∷ codes "err ENXIO" ∷ codes "err ENXIO" ∷ []) None
unfolding told_from reading command_in answered by_open by_call by_flush by_put by_get named_band by_show call_of by_run turns_of by_turn turn_of line_text chunk_count data_message rank_of band_of size_of cells_of is_high_priority is_held is_data_kind crosses carried token_len token_in last_in quoted_len number_in number_from digit_of number_to text_in text_from part_in is_name prio_in wanted_in queue_in side_at place_at way_in escaped hex_of
ioctls-want-a-pair = refl

-- an ioctl sends 256 bytes at most
pub ioctls-send-256-bytes : told_from 1 [] new_session (codes "open" ∷ codes "unlock" ∷ codes "slave" ∷ (codes "ioctl s raw 99 \"" ++ (replicate 257 120 ++ codes "\"")) ∷ (codes "ioctl s raw 99 \"" ++ (replicate 256 120 ++ codes "\"")) ∷ (codes "ioctl m raw 99 \"" ++ (replicate 256 120 ++ codes "\"")) ∷ []) ≡ wrote (codes "ok" ∷ codes "ok" ∷ codes "ok" ∷ codes "err ERANGE" ∷ codes "nak EINVAL" ∷ (codes "pending " ++ decimal 2) ∷ []) None
unfolding told_from reading command_in answered by_open by_call by_flush by_put by_get named_band by_show call_of by_run turns_of by_turn turn_of line_text chunk_count data_message rank_of band_of size_of cells_of is_high_priority is_held is_data_kind crosses carried token_len token_in last_in quoted_len number_in number_from digit_of number_to text_in text_from part_in is_name prio_in wanted_in queue_in side_at place_at way_in escaped hex_of
ioctls-send-256-bytes = refl

-- the ioctls of a pair are numbered in turn, and one that is under way waits for a slave that was closed
pub ioctls-wait-for-the-slave : told_from 1 [] new_session (codes "open" ∷ codes "unlock" ∷ codes "slave" ∷ codes "ioctl m TCGETS" ∷ codes "close s" ∷ codes "run 10" ∷ codes "poll m 1" ∷ codes "poll m 2" ∷ codes "slave" ∷ codes "ioctl s TCGETS" ∷ codes "run 10" ∷ codes "poll m 1" ∷ codes "ioctl m TCGETS" ∷ []) ≡ wrote (codes "ok" ∷ codes "ok" ∷ codes "ok" ∷ (codes "pending " ++ decimal 1) ∷ codes "ok" ∷ (codes "ran " ++ decimal 1) ∷ codes "err EAGAIN" ∷ codes "err EINVAL" ∷ codes "ok" ∷ codes "nak EINVAL" ∷ (codes "ran " ++ decimal 2) ∷ codes "nak EINVAL" ∷ (codes "pending " ++ decimal 3) ∷ []) None
unfolding told_from reading command_in answered by_open by_call by_flush by_put by_get named_band by_show call_of by_run turns_of by_turn turn_of line_text chunk_count data_message rank_of band_of size_of cells_of is_high_priority is_held is_data_kind crosses carried token_len token_in last_in quoted_len number_in number_from digit_of number_to text_in text_from part_in is_name prio_in wanted_in queue_in side_at place_at way_in escaped hex_of
ioctls-wait-for-the-slave = refl

-- no ledger before a pair is there
pub ledgers-want-a-pair : told_from 1 [] new_session (codes "ledger ms" ∷ []) ≡ wrote (codes "err ENXIO" ∷ []) None
unfolding told_from reading command_in answered by_open by_call by_flush by_show by_ledger call_of by_run turns_of by_turn turn_of line_text chunk_count data_message rank_of band_of size_of cells_of is_high_priority is_held is_data_kind carried token_len token_in last_in quoted_len number_in number_from digit_of number_to text_in text_from part_in is_name prio_in wanted_in queue_in side_at place_at way_in escaped hex_of
ledgers-want-a-pair = refl

-- where bytes are that were written, before and behind a read, in their direction and not in the other; what a flush takes is told by its rule
pub ledgers-are-told : told_from 1 [] new_session (codes "open" ∷ codes "unlock" ∷ codes "slave" ∷ codes "write m \"abc\"" ∷ codes "ledger ms" ∷ codes "run 9" ∷ codes "read s 2" ∷ codes "flush s r" ∷ codes "ledger ms" ∷ codes "ledger sm" ∷ []) ≡ wrote (codes "ok" ∷ codes "ok" ∷ codes "ok" ∷ (codes "ok " ++ decimal 3) ∷ booked (codes "ms") 3 3 [] ∷ (codes "ran " ++ decimal 1) ∷ (codes "data " ++ decimal 2 ++ codes " " ++ codes "\"ab\"") ∷ codes "ok" ∷ booked (codes "ms") 3 0 (codes " read " ∷ decimal 2 ∷ codes " flushed " ∷ decimal 1 ∷ []) ∷ booked (codes "sm") 0 0 [] ∷ []) None
unfolding told_from reading command_in answered by_open by_call by_flush by_show by_ledger call_of by_run turns_of by_turn turn_of line_text chunk_count data_message rank_of band_of size_of cells_of is_high_priority is_held is_data_kind weight_of carried token_len token_in last_in quoted_len number_in number_from digit_of number_to text_in text_from part_in is_name prio_in wanted_in queue_in side_at place_at way_in escaped hex_of
ledgers-are-told = refl
