-- What the definitions of scripts compute, for lines, answers and short scripts.
use Rattle.strm_script.proofs.Prelude.{ℕ, Bool, ◌≡◌, [], ◌∷◌, ◌++◌, map, refl, replicate, codes}
use Rattle.strm_script.specs.Prelude.{Done, Name, Count, Bytes, Msg, Nak, Moved, Blocked, Idle, MasterToSlave, SlaveToMaster, Master, Slave, Way, Up}
use Rattle.strm_script.specs.Prelude.{Down, Place, Head, Driver, Einval, Eagain, Enxio, Ebadmsg, Enosr, Erange, JournalFull, NoMinor}
use Rattle.strm_script.specs.Prelude.{NoMemory, StillShared, Eio, Ttin, Ttou, Side, ByteStream, MessageKeep, MessageDiscard, Refuse, Data, Discard}
use Rattle.strm_script.specs.Prelude.{Unlock, OpenSlave, Shut, Push, Pop, Look, Write, Read, Ioctl, IoctlResult, head_of, driver_of, number_of}
use Rattle.strm_types.specs.declared.names.Place.TheVariants as places
use Rattle.std.specs.Prelude.{true, false, None, Some, Ok, Err, slice_set}
use Rattle.std.specs.Fmt.{decimal}
use Rattle.std.specs.List.{concat}
use Rattle.strm_types.specs.declared.answers.Answer.TheVariants.{Sizes as Counts, Pending as UnderWay, Signals as Waited, Stop}
use Rattle.strm_types.specs.declared.names.ModuleName.TheVariants as modules
use Rattle.strm_types.specs.declared.events.FlushQueues.TheVariants as queues
use Rattle.strm_types.specs.declared.modes.Prio.TheVariants as sent
use Rattle.strm_types.specs.declared.modes.Mode.TheVariants as modes
use Rattle.strm_script.specs.declared.commands.NamedPrio.TheVariants as prios
use Rattle.strm_script.specs.declared.commands.NamedWanted.TheVariants as wanteds
use Rattle.strm_types.specs.declared.events.Event.TheVariants.{Mode, Signals as SignalsOf}
use Rattle.strm_script.specs.Script.{Open, Call, Flush, Put, Get, Turn, Run, Show, Ledger, Group, queue_name, window_bytes, digit_of, hex_of, escaped, lines_of}
use Rattle.strm_script.specs.ScriptReading.{Reading, Silent, Malformed, Spoken, number_from, number_in, text_from, text_in, way_in, queue_in, is_name, quoted_len, number_to, command_in, reading, token_len, token_in, last_in, part_in, prio_in, wanted_in, side_at, place_at}
use Rattle.strm_script.specs.ScriptAnswers.{Plain, Named, Number, Text, Message, Waiting, Pending, Denied, Signals, Stopped, Held, Empty, Ran, Sizes, Booked, Refused, Wrong, rule_name, in_order, printed, printed_line, line_text, reply_line, turn_line}

-- the lines of a script: LF ends each, and the last may lack it

pub lines-end-with-lf : map lines_of ((97 ∷ 98 ∷ 10 ∷ 99 ∷ []) ∷ (97 ∷ 10 ∷ []) ∷ (10 ∷ 10 ∷ 97 ∷ []) ∷ [] ∷ []) ≡ ((97 ∷ 98 ∷ []) ∷ (99 ∷ []) ∷ []) ∷ ((97 ∷ []) ∷ []) ∷ ([] ∷ [] ∷ (97 ∷ []) ∷ []) ∷ [] ∷ []
unfolding lines_of
lines-end-with-lf = refl

-- what lines say

pub commands-are-spelled : map reading (codes "open" ∷ codes "open 16" ∷ codes "unlock" ∷ codes "slave" ∷ codes "write m \"ab\"" ∷ codes "write s \"\"" ∷ codes "read s 10" ∷ codes "read m 0" ∷ codes "run 5" ∷ []) ≡ Spoken (Open None) ∷ Spoken (Open (Some 16)) ∷ Spoken (Call Master Unlock) ∷ Spoken (Call Slave OpenSlave) ∷ Spoken (Call Master (Write (97 ∷ 98 ∷ []))) ∷ Spoken (Call Slave (Write [])) ∷ Spoken (Call Slave (Read 10)) ∷ Spoken (Call Master (Read 0)) ∷ Spoken (Run 5) ∷ []
unfolding reading command_in token_len token_in last_in quoted_len number_in number_from digit_of number_to text_in text_from part_in is_name prio_in wanted_in queue_in side_at place_at way_in escaped hex_of
commands-are-spelled = refl

abbrev turn_of : Place → Way → Reading
turn_of place way = Spoken (Turn (record { side = Master; place = place; way = way }))

pub queues-are-spelled : map reading (codes "turn m.head.r" ∷ codes "turn m.head.w" ∷ codes "turn m.ldterm.r" ∷ codes "turn m.ldterm.w" ∷ codes "turn m.drv.r" ∷ codes "turn m.drv.w" ∷ codes "turn s.drv.w" ∷ []) ≡ turn_of Head Up ∷ turn_of Head Down ∷ turn_of (places.Module modules.Ldterm) Up ∷ turn_of (places.Module modules.Ldterm) Down ∷ turn_of Driver Up ∷ turn_of Driver Down ∷ Spoken (Turn (record { side = Slave; place = Driver; way = Down })) ∷ []
unfolding reading command_in token_len token_in last_in quoted_len number_in number_from digit_of number_to text_in text_from part_in is_name prio_in wanted_in queue_in side_at place_at way_in escaped hex_of
queues-are-spelled = refl

pub names-of-queues : map queue_name (record { side = Master; place = Driver; way = Down } ∷ record { side = Slave; place = Head; way = Up } ∷ record { side = Slave; place = places.Module modules.Ldterm; way = Up } ∷ []) ≡ codes "m.drv.w" ∷ codes "s.head.r" ∷ codes "s.ldterm.r" ∷ []
names-of-queues = refl

pub malformed-lines : map reading (codes "open " ∷ codes "open 1 " ∷ codes " open" ∷ codes "opens" ∷ codes "unlock " ∷ codes "slaves" ∷ codes "write m ab" ∷ codes "write m \"ab" ∷ codes "write m \"ab\" " ∷ codes "write x \"\"" ∷ codes "read m" ∷ codes "read m 1x" ∷ codes "turn m.drv" ∷ codes "turn m.drv.x" ∷ codes "run" ∷ codes "run -1" ∷ []) ≡ replicate 16 Malformed
unfolding reading command_in token_len token_in last_in quoted_len number_in number_from digit_of number_to text_in text_from part_in is_name prio_in wanted_in queue_in side_at place_at way_in escaped hex_of
malformed-lines = refl

-- commands on a stream: a name of a module, a name of none, the queues of a flush with and without a band
pub commands-on-streams-are-spelled : map reading (codes "close m" ∷ codes "close s" ∷ codes "pop m" ∷ codes "look s" ∷ codes "push s ldterm" ∷ codes "push m ptem" ∷ codes "push m pckt" ∷ codes "push s foo" ∷ codes "push s ldter" ∷ codes "push s ldterma" ∷ codes "flush m r" ∷ codes "flush s w" ∷ codes "flush m rw" ∷ codes "flush m rw 0" ∷ codes "flush s r 256" ∷ codes "flush s w 07" ∷ codes "show m" ∷ codes "show s" ∷ []) ≡ Spoken (Call Master Shut) ∷ Spoken (Call Slave Shut) ∷ Spoken (Call Master Pop) ∷ Spoken (Call Slave Look) ∷ Spoken (Call Slave (Push (Some modules.Ldterm))) ∷ Spoken (Call Master (Push (Some modules.Ptem))) ∷ Spoken (Call Master (Push (Some modules.Pckt))) ∷ Spoken (Call Slave (Push None)) ∷ Spoken (Call Slave (Push None)) ∷ Spoken (Call Slave (Push None)) ∷ Spoken (Flush Master queues.Read None) ∷ Spoken (Flush Slave queues.Write None) ∷ Spoken (Flush Master queues.Both None) ∷ Spoken (Flush Master queues.Both (Some 0)) ∷ Spoken (Flush Slave queues.Read (Some 256)) ∷ Spoken (Flush Slave queues.Write (Some 7)) ∷ Spoken (Show Master) ∷ Spoken (Show Slave) ∷ []
unfolding reading command_in token_len token_in last_in quoted_len number_in number_from digit_of number_to text_in text_from part_in is_name prio_in wanted_in queue_in side_at place_at way_in escaped hex_of
commands-on-streams-are-spelled = refl

pub malformed-commands-on-streams : map reading (codes "close" ∷ codes "close " ∷ codes "close x" ∷ codes "close m " ∷ codes "closem" ∷ codes "push s" ∷ codes "push s " ∷ codes "push s Foo" ∷ codes "push s ld-term" ∷ codes "push s abcdefghi" ∷ codes "push s foo 1" ∷ codes "push x foo" ∷ codes "pop" ∷ codes "pop m 1" ∷ codes "look m x" ∷ codes "flush m" ∷ codes "flush m " ∷ codes "flush m q" ∷ codes "flush m wr" ∷ codes "flush m r " ∷ codes "flush m r x" ∷ codes "flush m r -1" ∷ codes "flush m r 4294967296" ∷ codes "flush m  r" ∷ codes "flush m rw1" ∷ codes "show" ∷ codes "show m 1" ∷ codes "show m.head.r" ∷ []) ≡ replicate 28 Malformed
unfolding reading command_in token_len token_in last_in quoted_len number_in number_from digit_of number_to text_in text_from part_in is_name prio_in wanted_in queue_in side_at place_at way_in escaped hex_of
malformed-commands-on-streams = refl

-- commands about messages: a put of a priority and of parts that are there, empty or absent; a get of any message and the usual
-- sizes, or of what it names; each word of a mode
pub commands-on-messages-are-spelled : map reading (codes "put m 0 - \"a\"" ∷ codes "put s hi \"c\" -" ∷ codes "put m 256 \"\" \"\"" ∷ codes "put s 07 - -" ∷ codes "put m 1 \"a b\" \"\\\"\\\\\\x20\"" ∷ codes "get m" ∷ codes "get s" ∷ codes "get s any 2 3" ∷ codes "get m hi 0 1024" ∷ codes "get m 256 4294967295 07" ∷ codes "mode m norm" ∷ codes "mode s msgn" ∷ codes "mode s msgd" ∷ codes "mode m protnorm" ∷ codes "mode m protdat" ∷ codes "mode s protdis" ∷ []) ≡ Spoken (Put Master (prios.Band 0) None (Some (97 ∷ []))) ∷ Spoken (Put Slave prios.High (Some (99 ∷ [])) None) ∷ Spoken (Put Master (prios.Band 256) (Some []) (Some [])) ∷ Spoken (Put Slave (prios.Band 7) None None) ∷ Spoken (Put Master (prios.Band 1) (Some (97 ∷ 32 ∷ 98 ∷ [])) (Some (34 ∷ 92 ∷ 32 ∷ []))) ∷ Spoken (Get Master wanteds.Any 1024 1024) ∷ Spoken (Get Slave wanteds.Any 1024 1024) ∷ Spoken (Get Slave wanteds.Any 2 3) ∷ Spoken (Get Master wanteds.High 0 1024) ∷ Spoken (Get Master (wanteds.Band 256) 4294967295 7) ∷ Spoken (Call Master (Mode (modes.Read ByteStream))) ∷ Spoken (Call Slave (Mode (modes.Read MessageKeep))) ∷ Spoken (Call Slave (Mode (modes.Read MessageDiscard))) ∷ Spoken (Call Master (Mode (modes.Control Refuse))) ∷ Spoken (Call Master (Mode (modes.Control Data))) ∷ Spoken (Call Slave (Mode (modes.Control Discard))) ∷ []
unfolding reading command_in token_len token_in last_in quoted_len number_in number_from digit_of number_to text_in text_from part_in is_name prio_in wanted_in queue_in side_at place_at way_in escaped hex_of
commands-on-messages-are-spelled = refl

pub malformed-commands-on-messages : map reading (codes "put" ∷ codes "put m" ∷ codes "put m 0" ∷ codes "put m 0 -" ∷ codes "put m 0 - " ∷ codes "put m 0 - - " ∷ codes "put m 0 - - -" ∷ codes "put m any - \"a\"" ∷ codes "put m high - \"a\"" ∷ codes "put m 0 a \"b\"" ∷ codes "put m 0 -- -" ∷ codes "put m 0 \"a\"\"b\"" ∷ codes "put m 0 \"a\" \"b" ∷ codes "put m 0 \"a\\\" \"b\"" ∷ codes "put m 4294967296 - -" ∷ codes "put x 0 - -" ∷ codes "get" ∷ codes "get " ∷ codes "get x" ∷ codes "get m " ∷ codes "get m any" ∷ codes "get m any 1" ∷ codes "get m any 1 " ∷ codes "get m any 1 2 " ∷ codes "get m any 1 2 3" ∷ codes "get m any -1 2" ∷ codes "get m low 1 2" ∷ codes "get m any 1  2" ∷ codes "mode" ∷ codes "mode m" ∷ codes "mode m " ∷ codes "mode m norm " ∷ codes "mode m NORM" ∷ codes "mode m rnorm" ∷ codes "mode m msg" ∷ codes "mode x norm" ∷ []) ≡ replicate 36 Malformed
unfolding reading command_in token_len token_in last_in quoted_len number_in number_from digit_of number_to text_in text_from part_in is_name prio_in wanted_in queue_in side_at place_at way_in escaped hex_of
malformed-commands-on-messages = refl

-- ioctls: each name with what it takes, numbers up to their limits, and any command by its number; and what is asked about them
pub ioctls-are-spelled : map reading (codes "ioctl m TCGETS" ∷ codes "ioctl s TCSETS \"ab\"" ∷ codes "ioctl s TCSETSW \"\"" ∷ codes "ioctl m TCSETSF \"\\n\"" ∷ codes "ioctl s TIOCGWINSZ" ∷ codes "ioctl m TIOCSWINSZ 1 258 0 65535" ∷ codes "ioctl m TIOCSIGNAL 20" ∷ codes "ioctl m TIOCSIGNAL 0255" ∷ codes "ioctl s raw 0 \"\"" ∷ codes "ioctl s raw 0000000099 \"x y\"" ∷ codes "ioctl m raw 4294967295 \"\\xff\"" ∷ codes "poll m 1" ∷ codes "poll s 4294967295" ∷ codes "signals m" ∷ codes "signals s" ∷ []) ≡ Spoken (Call Master (Ioctl 1 [])) ∷ Spoken (Call Slave (Ioctl 2 (97 ∷ 98 ∷ []))) ∷ Spoken (Call Slave (Ioctl 3 [])) ∷ Spoken (Call Master (Ioctl 4 (10 ∷ []))) ∷ Spoken (Call Slave (Ioctl 5 [])) ∷ Spoken (Call Master (Ioctl 6 (0 ∷ 1 ∷ 1 ∷ 2 ∷ 0 ∷ 0 ∷ 255 ∷ 255 ∷ []))) ∷ Spoken (Call Master (Ioctl 7 (20 ∷ []))) ∷ Spoken (Call Master (Ioctl 7 (255 ∷ []))) ∷ Spoken (Call Slave (Ioctl 0 [])) ∷ Spoken (Call Slave (Ioctl 99 (120 ∷ 32 ∷ 121 ∷ []))) ∷ Spoken (Call Master (Ioctl 4294967295 (255 ∷ []))) ∷ Spoken (Call Master (IoctlResult 1)) ∷ Spoken (Call Slave (IoctlResult 4294967295)) ∷ Spoken (Call Master SignalsOf) ∷ Spoken (Call Slave SignalsOf) ∷ []
unfolding reading command_in token_len token_in last_in quoted_len number_in number_from digit_of number_to text_in text_from part_in is_name prio_in wanted_in queue_in side_at place_at way_in escaped hex_of
ioctls-are-spelled = refl

pub malformed-ioctls : map reading (codes "ioctl" ∷ codes "ioctl m" ∷ codes "ioctl m " ∷ codes "ioctl x TCGETS" ∷ codes "ioctl m TCGET" ∷ codes "ioctl m tcgets" ∷ codes "ioctl m TCGETS " ∷ codes "ioctl s TCGETS \"x\"" ∷ codes "ioctl m TIOCGWINSZ 1" ∷ codes "ioctl s TCSETS" ∷ codes "ioctl s TCSETS " ∷ codes "ioctl s TCSETS ab" ∷ codes "ioctl s TCSETSW" ∷ codes "ioctl s TCSETSX \"\"" ∷ codes "ioctl s TCSETSF \"a\" " ∷ codes "ioctl s TCSETS \"a\" \"b\"" ∷ codes "ioctl s TIOCSWINSZ" ∷ codes "ioctl s TIOCSWINSZ 1 2 3" ∷ codes "ioctl s TIOCSWINSZ 1 2 3 4 " ∷ codes "ioctl s TIOCSWINSZ 1 2 3 4 5" ∷ codes "ioctl s TIOCSWINSZ 1 2 3 70000" ∷ codes "ioctl s TIOCSWINSZ 65536 2 3 4" ∷ codes "ioctl s TIOCSWINSZ 1 65536 3 4" ∷ codes "ioctl s TIOCSWINSZ 1 2 65536 4" ∷ codes "ioctl s TIOCSWINSZ 1 2  3 4" ∷ codes "ioctl s TIOCSIGNAL" ∷ codes "ioctl s TIOCSIGNAL " ∷ codes "ioctl s TIOCSIGNAL 256" ∷ codes "ioctl s TIOCSIGNAL -1" ∷ codes "ioctl s TIOCSIGNAL 1 2" ∷ codes "ioctl s raw" ∷ codes "ioctl s raw 1" ∷ codes "ioctl s raw 1 " ∷ codes "ioctl s raw 1 x" ∷ codes "ioctl s raw \"x\"" ∷ codes "ioctl s raw 4294967296 \"x\"" ∷ codes "ioctl s raw 00000000001 \"x\"" ∷ codes "ioctl s 1 \"x\"" ∷ codes "poll" ∷ codes "poll m" ∷ codes "poll m " ∷ codes "poll x 1" ∷ codes "poll m 4294967296" ∷ codes "poll m 00000000001" ∷ codes "poll m 1 " ∷ codes "signals" ∷ codes "signals " ∷ codes "signals x" ∷ codes "signals s " ∷ codes "signal s" ∷ []) ≡ replicate 50 Malformed
unfolding reading command_in token_len token_in last_in quoted_len number_in number_from digit_of number_to text_in text_from part_in is_name prio_in wanted_in queue_in side_at place_at way_in escaped hex_of
malformed-ioctls = refl

-- a look at a ledger, by the word of its direction and no other
pub ledgers-are-spelled : map reading (codes "ledger ms" ∷ codes "ledger sm" ∷ []) ≡ Spoken (Ledger MasterToSlave) ∷ Spoken (Ledger SlaveToMaster) ∷ []
unfolding reading command_in token_len token_in last_in quoted_len number_in number_from digit_of number_to text_in text_from part_in is_name prio_in wanted_in queue_in side_at place_at way_in escaped hex_of
ledgers-are-spelled = refl

abbrev group_of : Side → ℕ → Bool → Bool → Reading
group_of side group ignores orphaned = Spoken (Group (record { side = side; group = group; ignores = ignores; orphaned = orphaned }))

-- a caller: its side, its process group and its flags
pub callers-are-spelled : map reading (codes "group s 7 -" ∷ codes "group m 0 i" ∷ codes "group s 4294967295 o" ∷ codes "group s 07 io" ∷ []) ≡ group_of Slave 7 false false ∷ group_of Master 0 true false ∷ group_of Slave 4294967295 false true ∷ group_of Slave 7 true true ∷ []
unfolding reading command_in token_len token_in last_in quoted_len number_in number_from digit_of number_to text_in text_from part_in is_name prio_in wanted_in queue_in side_at place_at way_in escaped hex_of
callers-are-spelled = refl

pub malformed-callers : map reading (codes "group" ∷ codes "group s" ∷ codes "group s 7" ∷ codes "group s 7 " ∷ codes "group s 7 x" ∷ codes "group s 7 oi" ∷ codes "group s 7 ii" ∷ codes "group s 7 - " ∷ codes "group s 7  -" ∷ codes "group s -7 -" ∷ codes "group s 4294967296 -" ∷ codes "group x 7 -" ∷ codes "group s - 7" ∷ codes "groups s 7 -" ∷ []) ≡ replicate 14 Malformed
unfolding reading command_in token_len token_in last_in quoted_len number_in number_from digit_of number_to text_in text_from part_in is_name prio_in wanted_in queue_in side_at place_at way_in escaped hex_of
malformed-callers = refl

-- what is asked about the foreground process group
pub ioctls-of-groups-are-spelled : map reading (codes "ioctl s TIOCGPGRP" ∷ codes "ioctl s TIOCSPGRP 5" ∷ codes "ioctl m TIOCSPGRP 4294967295" ∷ codes "ioctl s TIOCSPGRP" ∷ codes "ioctl s TIOCGPGRP 5" ∷ codes "ioctl s TIOCSPGRP 4294967296" ∷ codes "ioctl s TIOCSPGRP \"\"" ∷ []) ≡ Spoken (Call Slave (Ioctl 8 [])) ∷ Spoken (Call Slave (Ioctl 9 (0 ∷ 0 ∷ 0 ∷ 5 ∷ []))) ∷ Spoken (Call Master (Ioctl 9 (255 ∷ 255 ∷ 255 ∷ 255 ∷ []))) ∷ Malformed ∷ Malformed ∷ Malformed ∷ Malformed ∷ []
unfolding reading command_in token_len token_in last_in quoted_len number_in number_from digit_of number_to text_in text_from part_in is_name prio_in wanted_in queue_in side_at place_at way_in escaped hex_of
ioctls-of-groups-are-spelled = refl

pub malformed-ledgers : map reading (codes "ledger" ∷ codes "ledger " ∷ codes "ledger m" ∷ codes "ledger xx" ∷ codes "ledger ms " ∷ codes "ledger  ms" ∷ codes "ledger MS" ∷ codes "ledger mss" ∷ codes "ledger s" ∷ codes "ledgerms" ∷ []) ≡ replicate 10 Malformed
unfolding reading command_in token_len token_in last_in quoted_len number_in number_from digit_of number_to text_in text_from part_in is_name prio_in wanted_in queue_in side_at place_at way_in escaped hex_of
malformed-ledgers = refl

-- the size of a window: rows, columns, width, height, each in two bytes
pub bytes-of-a-window : window_bytes (record { rows = 1; columns = 258; width = 65535; height = 4096 }) ≡ 0 ∷ 1 ∷ 1 ∷ 2 ∷ 255 ∷ 255 ∷ 16 ∷ 0 ∷ []
bytes-of-a-window = refl

-- a name has 1 to 8 letters from a to z
pub names-are-spelled : map is_name (codes "a" ∷ codes "z" ∷ codes "abcdefgh" ∷ codes "abcdefghi" ∷ [] ∷ codes "`" ∷ codes "{" ∷ codes "A" ∷ codes "a1" ∷ []) ≡ true ∷ true ∷ true ∷ false ∷ false ∷ false ∷ false ∷ false ∷ false ∷ []
unfolding is_name
names-are-spelled = refl

-- an empty line and a comment ask for nothing; a line of 4096 bytes may, a longer one is malformed
pub silent-lines : map reading ([] ∷ codes "# open" ∷ codes "#" ∷ (35 ∷ replicate 4095 32) ∷ (35 ∷ replicate 4096 32) ∷ []) ≡ Silent ∷ Silent ∷ Silent ∷ Silent ∷ Malformed ∷ []
unfolding reading
silent-lines = refl

-- 1 to 10 digits, of which the first may be zeros, up to 4294967295
pub numbers-are-spelled : map number_in (codes "0" ∷ codes "12" ∷ codes "0000000012" ∷ codes "00000000012" ∷ codes "4294967295" ∷ codes "4294967296" ∷ [] ∷ codes "9/" ∷ codes "9:" ∷ []) ≡ Some 0 ∷ Some 12 ∷ Some 12 ∷ None ∷ Some 4294967295 ∷ None ∷ None ∷ None ∷ None ∷ []
unfolding number_in number_from digit_of
numbers-are-spelled = refl

pub digits-in-either-case : map hex_of (codes "09afAF/:`g@G") ≡ Some 0 ∷ Some 9 ∷ Some 10 ∷ Some 15 ∷ Some 10 ∷ Some 15 ∷ None ∷ None ∷ None ∷ None ∷ None ∷ None ∷ []
unfolding hex_of
digits-in-either-case = refl

-- each escape: \n \r \t \" \\, and \x with two digits, the high one first; another letter is none
pub escapes-are-read : map text_in (codes "\"\\n\\r\\t\\\"\\\\\"" ∷ codes "\"\\x1fa\\xA0\"" ∷ codes "\"\\q\"" ∷ codes "\"\\x1\"" ∷ codes "\"\\" ∷ (34 ∷ 10 ∷ 34 ∷ []) ∷ codes "\"a\"b" ∷ codes "ab\"" ∷ []) ≡ Some (10 ∷ 13 ∷ 9 ∷ 34 ∷ 92 ∷ []) ∷ Some (31 ∷ 97 ∷ 160 ∷ []) ∷ None ∷ None ∷ None ∷ None ∷ None ∷ None ∷ []
unfolding text_in text_from escaped hex_of
escapes-are-read = refl

-- how bytes are printed: escapes by name, the border of what is printed as it is, and 0x7f
pub bytes-are-printed : map printed (10 ∷ 13 ∷ 9 ∷ 34 ∷ 92 ∷ 31 ∷ 32 ∷ 97 ∷ 126 ∷ 127 ∷ 0 ∷ 169 ∷ 255 ∷ []) ≡ codes "\\n" ∷ codes "\\r" ∷ codes "\\t" ∷ codes "\\\"" ∷ codes "\\\\" ∷ codes "\\x1f" ∷ codes " " ∷ codes "a" ∷ codes "~" ∷ codes "\\x7f" ∷ codes "\\x00" ∷ codes "\\xa9" ∷ codes "\\xff" ∷ []
bytes-are-printed = refl

-- answer lines

pub lines-of-answers : map line_text (Plain ∷ Number 12 ∷ Text (97 ∷ 10 ∷ []) ∷ Text [] ∷ Held ∷ Empty ∷ Ran 3 ∷ Wrong 7 ∷ []) ≡ codes "ok" ∷ (codes "ok " ++ decimal 12) ∷ (codes "data " ++ decimal 2 ++ codes " " ++ codes "\"a\\n\"") ∷ (codes "data " ++ decimal 0 ++ codes " " ++ codes "\"\"") ∷ codes "blocked" ∷ codes "idle" ∷ (codes "ran " ++ decimal 3) ∷ (codes "err line " ++ decimal 7) ∷ []
unfolding line_text
lines-of-answers = refl

-- a message: its priority or band, its parts, of which one that is absent isn't an empty one, and what there is more of
pub lines-of-messages : map line_text (Message sent.High (Some (99 ∷ [])) None false false ∷ Message (sent.Band (record { 0 = 0 })) (Some (97 ∷ 98 ∷ [])) (Some (119 ∷ [])) true true ∷ Message (sent.Band (record { 0 = 7 })) None (Some []) false true ∷ Message sent.High (Some []) (Some (0 ∷ [])) true false ∷ Message (sent.Band (record { 0 = 0 })) None None false false ∷ []) ≡ codes "msg hi \"c\" - -" ∷ concat (codes "msg " ∷ decimal 0 ∷ codes " \"ab\" \"w\" cd" ∷ []) ∷ concat (codes "msg " ∷ decimal 7 ∷ codes " - \"\" d" ∷ []) ∷ codes "msg hi \"\" \"\\x00\" c" ∷ concat (codes "msg " ∷ decimal 0 ∷ codes " - - -" ∷ []) ∷ []
unfolding line_text
lines-of-messages = refl

-- what I_NREAD answers, which no command asks for
pub lines-of-what-waits : line_text (Waiting 3 2) ≡ codes "ok " ++ (decimal 3 ++ (codes " " ++ decimal 2))
unfolding line_text
lines-of-what-waits = refl

-- an ioctl that is under way, and one that was answered with M_IOCNAK
pub lines-of-ioctls : map line_text (Pending 7 ∷ Pending 4294967294 ∷ Denied Einval ∷ Denied Erange ∷ []) ≡ (codes "pending " ++ decimal 7) ∷ (codes "pending " ++ decimal 4294967294) ∷ codes "nak EINVAL" ∷ codes "nak ERANGE" ∷ []
unfolding line_text
lines-of-ioctls = refl

-- signals in the order in which they came: six have names, and none is told by `-`
pub lines-of-signals : map line_text (Signals [] ∷ Signals (20 ∷ []) ∷ Signals (3 ∷ 24 ∷ 2 ∷ []) ∷ Signals (1 ∷ 31 ∷ 4 ∷ []) ∷ Signals (26 ∷ 27 ∷ []) ∷ []) ≡ codes "signals -" ∷ codes "signals WINCH" ∷ codes "signals QUIT TSTP INT" ∷ concat (codes "signals " ∷ decimal 1 ∷ codes " " ∷ decimal 31 ∷ codes " " ∷ decimal 4 ∷ []) ∷ codes "signals TTIN TTOU" ∷ []
unfolding line_text
lines-of-signals = refl

-- the signal that stops a caller in the background, and the refusal of one that may not be stopped
pub lines-of-job-control : map line_text (Stopped Ttin ∷ Stopped Ttou ∷ Refused Eio ∷ Denied Eio ∷ []) ≡ codes "stop TTIN" ∷ codes "stop TTOU" ∷ codes "err EIO" ∷ codes "nak EIO" ∷ []
unfolding line_text
lines-of-job-control = refl

pub lines-of-names : map (λ known. line_text (Named known)) (modules.Ldterm ∷ modules.Ptem ∷ modules.Pckt ∷ modules.Own 4 ∷ [])
    ≡ codes "name ldterm" ∷ codes "name ptem" ∷ codes "name pckt" ∷ (codes "name " ++ decimal 20) ∷ []
unfolding line_text
lines-of-names = refl

-- the queues of a stream, each with its messages and then its bytes
pub lines-of-sizes : line_text (Sizes Slave (record { name = head_of Slave; messages = 1; bytes = 23 } ∷ record { name = record { side = Slave; place = places.Module modules.Ldterm; way = Down }; messages = 4; bytes = 5 } ∷ record { name = driver_of Slave; messages = 6; bytes = 7 } ∷ [])) ≡ concat (codes "show s" ∷ (codes " head.r " ++ (decimal 1 ++ (codes " " ++ decimal 23))) ∷ (codes " ldterm.w " ++ (decimal 4 ++ (codes " " ++ decimal 5))) ∷ (codes " drv.w " ++ (decimal 6 ++ (codes " " ++ decimal 7))) ∷ [])
unfolding line_text
lines-of-sizes = refl

-- the rules stand in the order of their numbers, and each has a name
pub rules-by-their-numbers : map number_of in_order ≡ 0 ∷ 1 ∷ 2 ∷ 3 ∷ 4 ∷ 5 ∷ 6 ∷ 7 ∷ 8 ∷ 9 ∷ 10 ∷ 11 ∷ 12 ∷ 13 ∷ 14 ∷ 15 ∷ 16 ∷ 17 ∷ 18 ∷ 19 ∷ 20 ∷ []
rules-by-their-numbers = refl

pub names-of-rules : map rule_name in_order ≡ codes "read" ∷ codes "igncr" ∷ codes "erase-key" ∷ codes "erased" ∷ codes "killed" ∷ codes "eof-key" ∷ codes "signal-key" ∷ codes "flow-key" ∷ codes "lnext-key" ∷ codes "reprint-key" ∷ codes "line-full" ∷ codes "line-over" ∷ codes "flushed" ∷ codes "rest-discarded" ∷ codes "control-dropped" ∷ codes "doubled" ∷ codes "module-popped" ∷ codes "end-closed" ∷ codes "replaced" ∷ codes "onocr" ∷ codes "echo-full" ∷ []
names-of-rules = refl

-- a ledger: a rule that took nothing isn't told
pub lines-of-ledgers : line_text (Booked SlaveToMaster (record { written = 12; made = 3; queued = 4; inline = 5; fates = slice_set (slice_set (replicate 21 0) 20 1) 3 2 })) ≡ concat (codes "ledger sm written " ∷ decimal 12 ∷ codes " made " ∷ decimal 3 ∷ codes " queued " ∷ decimal 4 ∷ codes " inline " ∷ decimal 5 ∷ codes " erased " ∷ decimal 2 ∷ codes " echo-full " ∷ decimal 1 ∷ [])
unfolding line_text
lines-of-ledgers = refl

pub lines-of-empty-ledgers : line_text (Booked MasterToSlave (record { written = 0; made = 0; queued = 0; inline = 0; fates = replicate 21 0 })) ≡ concat (codes "ledger ms written " ∷ decimal 0 ∷ codes " made " ∷ decimal 0 ∷ codes " queued " ∷ decimal 0 ∷ codes " inline " ∷ decimal 0 ∷ [])
unfolding line_text
lines-of-empty-ledgers = refl

pub lines-of-refusals : map (λ refusal. line_text (Refused refusal)) (Einval ∷ Eagain ∷ Enxio ∷ Ebadmsg ∷ Enosr ∷ Erange ∷ JournalFull ∷ NoMinor ∷ NoMemory ∷ StillShared ∷ Eio ∷ []) ≡ codes "err EINVAL" ∷ codes "err EAGAIN" ∷ codes "err ENXIO" ∷ codes "err EBADMSG" ∷ codes "err ENOSR" ∷ codes "err ERANGE" ∷ codes "err JournalFull" ∷ codes "err NoMinor" ∷ codes "err NoMemory" ∷ codes "err StillShared" ∷ codes "err EIO" ∷ []
unfolding line_text
lines-of-refusals = refl

pub line-ends-with-lf : printed_line Held ≡ codes "blocked" ++ 10 ∷ []
unfolding line_text
line-ends-with-lf = refl

pub lines-of-replies : map reply_line (Ok Done ∷ Ok (Name modules.Ptem) ∷ Ok (Count 3) ∷ Ok (Bytes (97 ∷ [])) ∷ Ok (Msg sent.High (Some (97 ∷ [])) None true false) ∷ Ok (Counts 3 2) ∷ Ok (UnderWay 7) ∷ Ok (Nak Erange) ∷ Ok (Waited (2 ∷ 3 ∷ [])) ∷ Ok (Stop Ttin) ∷ Err Eagain ∷ []) ≡ Plain ∷ Named modules.Ptem ∷ Number 3 ∷ Text (97 ∷ []) ∷ Message sent.High (Some (97 ∷ [])) None true false ∷ Waiting 3 2 ∷ Pending 7 ∷ Denied Erange ∷ Signals (2 ∷ 3 ∷ []) ∷ Stopped Ttin ∷ Refused Eagain ∷ []
lines-of-replies = refl

pub lines-of-turns : map turn_line (Ok (Moved 3) ∷ Ok Blocked ∷ Ok Idle ∷ Err Einval ∷ []) ≡ Number 3 ∷ Held ∷ Empty ∷ Refused Einval ∷ []
lines-of-turns = refl
