-- The answer lines of a script.
use Rattle.std.specs.Prelude.{ℕ, ◌/◌, ◌%◌, ◌+◌, nat_lt, nat_le, ◌==◌, ◌&&◌, ◌||◌, Bool, true, false, if◌then◌else◌, List, [], ◌∷◌, ◌++◌, length, codes, Option, None, Some, Result, Ok, Err, slice_index_or}
use Rattle.std.specs.List.{flat_map}
use Rattle.std.specs.Fmt.{decimal}
use Rattle.strm_script.specs.Prelude.{Turn, Moved, Blocked, Idle, Refusal, Einval, Eagain, Enxio, Ebadmsg, Enosr, Erange, JournalFull, NoMinor}
use Rattle.strm_script.specs.Prelude.{NoMemory, StillShared, Eio, Done, Name, Count, Bytes, Msg, Nak, Prio, Dir, ModuleName, Side, Reply, number_of}
use Rattle.strm_types.specs.declared.answers.Answer.TheVariants as answers
use Rattle.strm_types.specs.declared.modes.Prio.TheVariants.{High, Band}
use Rattle.strm_types.specs.declared.ledger.Ledger.{Ledger}
use Rattle.strm_types.specs.declared.rules.Rule.{Rule}
use Rattle.strm_types.specs.declared.rules.Rule.TheVariants.{Read, Igncr, EraseKey, Erased, Killed, EofKey, SignalKey, FlowKey, LnextKey, ReprintKey, LineFull, LineOver, Flushed, RestDiscarded, ControlDropped, Doubled, ModulePopped, EndClosed, Replaced, Onocr, EchoFull}
use Rattle.strm_types.specs.declared.signals.StopSignal.{StopSignal}
use Rattle.strm_types.specs.JobControl.{stop_number}
use Rattle.strm_script.specs.Script.{side_name, direction_name, queue_in_stream, module_name}
use Rattle.strm_script.specs.declared.answers.QueueSize.{QueueSize}

-- an answer line, without its LF
pub data Line : Type 0 where
  Plain : Line
  Named : ModuleName → Line
  Number : ℕ → Line
  Text : List ℕ → Line
  Message : Prio → Option (List ℕ) → Option (List ℕ) → Bool → Bool → Line  -- its parts, and whether there is more of each
  Waiting : ℕ → ℕ → Line  -- bytes of the first message, and messages; no command asks for them
  Pending : ℕ → Line  -- the number of an ioctl that is under way
  Denied : Refusal → Line  -- why an ioctl was answered with M_IOCNAK
  Signals : List ℕ → Line
  Stopped : StopSignal → Line  -- the caller is in the background, and this signal stops it
  Held : Line
  Empty : Line
  Ran : ℕ → Line
  Sizes : Side → List QueueSize → Line  -- of the queues of a side's stream, from the head down
  Booked : Dir → Ledger → Line  -- how much was written and made in a direction, and where it is
  Refused : Refusal → Line
  Wrong : ℕ → Line

-- a hexadecimal digit, in lower case
abbrev pub hex_digit : ℕ → ℕ
hex_digit d = if nat_lt d 10 then 48 + d else 87 + d

-- How a byte of a text is printed: 0x20 to 0x7e as they are but for the quote and the backslash, then the named
-- escapes, else by its two hexadecimal digits.
abbrev pub printed : ℕ → List ℕ
printed b =
    if b == 10 then codes "\\n"
    else (if b == 13 then codes "\\r"
    else (if b == 9 then codes "\\t"
    else (if b == 34 then codes "\\\""
    else (if b == 92 then codes "\\\\"
    else (if nat_le 32 b && nat_le b 126 then b ∷ []
    else codes "\\x" ++ hex_digit (b / 16) ∷ hex_digit (b % 16) ∷ [])))))

-- a byte that is printed by an escape
abbrev pub is_escaped : ℕ → Bool
is_escaped b = (b == 34) || ((b == 92) || (nat_lt b 32 || nat_lt 126 b))

-- a text as it is printed, in quotes
abbrev pub quoted : List ℕ → List ℕ
quoted bytes = codes "\"" ++ flat_map printed bytes ++ codes "\""

-- the name by which a refusal is printed
abbrev pub refusal_name : Refusal → List ℕ
refusal_name Einval = codes "EINVAL"
refusal_name Eagain = codes "EAGAIN"
refusal_name Enxio = codes "ENXIO"
refusal_name Ebadmsg = codes "EBADMSG"
refusal_name Enosr = codes "ENOSR"
refusal_name Erange = codes "ERANGE"
refusal_name JournalFull = codes "JournalFull"
refusal_name NoMinor = codes "NoMinor"
refusal_name NoMemory = codes "NoMemory"
refusal_name StillShared = codes "StillShared"
refusal_name Eio = codes "EIO"

-- how much stands on a queue: its name without the side, how many messages, and how many bytes they have
abbrev pub size_text : QueueSize → List ℕ
size_text size = queue_in_stream size.name ++ (codes " " ++ (decimal size.messages ++ (codes " " ++ decimal size.bytes)))

-- `hi`, or the number of a band
abbrev pub prio_text : Prio → List ℕ
prio_text High = codes "hi"
prio_text (Band band) = decimal band.0

-- a part of a message: its text in quotes, which may be empty, or `-` where it is absent
abbrev pub part_text : Option (List ℕ) → List ℕ
part_text None = codes "-"
part_text (Some bytes) = quoted bytes

-- what there is more of: `c` of the control part, `d` of the data part, `-` for neither
abbrev pub more_text : Bool → Bool → List ℕ
more_text false false = codes "-"
more_text true false = codes "c"
more_text false true = codes "d"
more_text true true = codes "cd"

-- the name of a signal that terminals send (signal.h(3HEAD)), and the number of another one
abbrev pub signal_text : ℕ → List ℕ
signal_text n =
    if n == 2 then codes "INT"
    else (if n == 3 then codes "QUIT"
    else (if n == 20 then codes "WINCH"
    else (if n == 24 then codes "TSTP"
    else (if n == 26 then codes "TTIN"
    else (if n == 27 then codes "TTOU" else decimal n)))))

-- each signal behind a space, or `-` where there is none
abbrev pub spaced_signal : ℕ → List ℕ
spaced_signal n = codes " " ++ signal_text n

abbrev pub signals_text : List ℕ → List ℕ
signals_text [] = codes " -"
signals_text (n ∷ ns) = flat_map spaced_signal (n ∷ ns)

-- the name of a rule by which bytes go
abbrev pub rule_name : Rule → List ℕ
rule_name Read = codes "read"
rule_name Igncr = codes "igncr"
rule_name EraseKey = codes "erase-key"
rule_name Erased = codes "erased"
rule_name Killed = codes "killed"
rule_name EofKey = codes "eof-key"
rule_name SignalKey = codes "signal-key"
rule_name FlowKey = codes "flow-key"
rule_name LnextKey = codes "lnext-key"
rule_name ReprintKey = codes "reprint-key"
rule_name LineFull = codes "line-full"
rule_name LineOver = codes "line-over"
rule_name Flushed = codes "flushed"
rule_name RestDiscarded = codes "rest-discarded"
rule_name ControlDropped = codes "control-dropped"
rule_name Doubled = codes "doubled"
rule_name ModulePopped = codes "module-popped"
rule_name EndClosed = codes "end-closed"
rule_name Replaced = codes "replaced"
rule_name Onocr = codes "onocr"
rule_name EchoFull = codes "echo-full"

-- the rules, in the order of their numbers
abbrev pub in_order : List Rule
in_order =
    Read ∷ Igncr ∷ EraseKey ∷ Erased ∷ Killed ∷ EofKey ∷ SignalKey ∷ FlowKey ∷ LnextKey ∷ ReprintKey ∷ LineFull
    ∷ LineOver ∷ Flushed ∷ RestDiscarded ∷ ControlDropped ∷ Doubled ∷ ModulePopped ∷ EndClosed ∷ Replaced ∷ Onocr ∷ EchoFull ∷ []

-- how many bytes have gone by a rule, behind its name, and nothing where none have
abbrev pub rule_text : Rule → ℕ → List ℕ
rule_text rule n = if n == 0 then [] else codes " " ++ (rule_name rule ++ (codes " " ++ decimal n))

abbrev pub counted_text : List ℕ → Rule → List ℕ
counted_text counts rule = rule_text rule (slice_index_or counts (number_of rule) 0)

abbrev pub rules_text : List ℕ → List ℕ
rules_text counts = flat_map (counted_text counts) in_order

-- the text of an answer line
unfoldable pub line_text : Line → List ℕ
line_text Plain = codes "ok"
line_text (Named known) = codes "name " ++ module_name known
line_text (Number n) = codes "ok " ++ decimal n
line_text (Text bytes) = codes "data " ++ decimal (length bytes) ++ codes " " ++ quoted bytes
line_text (Message prio control body more_control more_data) =
    codes "msg " ++ (prio_text prio ++ (codes " " ++ (part_text control ++ (codes " " ++ (part_text body ++ (codes " " ++ more_text more_control more_data))))))
line_text (Waiting first messages) = codes "ok " ++ (decimal first ++ (codes " " ++ decimal messages))
line_text (Pending n) = codes "pending " ++ decimal n
line_text (Denied refusal) = codes "nak " ++ refusal_name refusal
line_text (Signals ns) = codes "signals" ++ signals_text ns
line_text (Stopped signal) = codes "stop " ++ signal_text (stop_number signal)
line_text Held = codes "blocked"
line_text Empty = codes "idle"
line_text (Ran n) = codes "ran " ++ decimal n
line_text (Sizes side sizes) = codes "show " ++ side_name side ++ flat_map (λ size. codes " " ++ size_text size) sizes
line_text (Booked direction ledger) =
    codes "ledger " ++ (direction_name direction ++ (codes " written " ++ (decimal ledger.written ++ (codes " made " ++ (decimal ledger.made ++ (codes " queued " ++ (decimal ledger.queued ++ (codes " inline " ++ (decimal ledger.inline ++ rules_text ledger.fates)))))))))
line_text (Refused refusal) = codes "err " ++ refusal_name refusal
line_text (Wrong n) = codes "err line " ++ decimal n

-- the line with its LF
abbrev pub printed_line : Line → List ℕ
printed_line line = line_text line ++ 10 ∷ []

-- what a call is answered by
abbrev pub reply_line : Result (Reply) Refusal → Line
reply_line (Ok Done) = Plain
reply_line (Ok (Name known)) = Named known
reply_line (Ok (Count n)) = Number n
reply_line (Ok (Bytes bytes)) = Text bytes
reply_line (Ok (Msg prio control body more_control more_data)) = Message prio control body more_control more_data
reply_line (Ok (answers.Sizes first messages)) = Waiting first messages
reply_line (Ok (answers.Pending n)) = Pending n
reply_line (Ok (Nak refusal)) = Denied refusal
reply_line (Ok (answers.Signals ns)) = Signals ns
reply_line (Ok (answers.Stop signal)) = Stopped signal
reply_line (Err refusal) = Refused refusal

-- what a turn is answered by
abbrev pub turn_line : Result Turn Refusal → Line
turn_line (Ok (Moved n)) = Number n
turn_line (Ok Blocked) = Held
turn_line (Ok Idle) = Empty
turn_line (Err refusal) = Refused refusal
