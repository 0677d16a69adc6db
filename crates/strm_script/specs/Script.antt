-- The commands of a script, and how each is spelled: one command a line, words parted by one space.
use Rattle.std.specs.Prelude.{◌≡◌, ◌≢◌, ℕ, ◌≤◌, ◌<◌, ◌+◌, ◌-◌, ◌*◌, nat_le, ◌==◌, ◌&&◌, Bool, true, false, if◌then◌else◌, List, [], ◌∷◌, ◌++◌, length, codes, Option, None, Some}
use Rattle.std.specs.Int.{w16, w32, to_be_bytes}
use Rattle.std.specs.Fmt.{decimal}
use Rattle.std.specs.List.{AllByRecursion}
use Rattle.strm_script.specs.Prelude.{Caller, Dir, MasterToSlave, SlaveToMaster, Side, Master, Slave, Way, Up, Down, Place, Head, Driver}
use Rattle.strm_script.specs.Prelude.{QueueName, ModuleName, FlushQueues, Mode, ByteStream, MessageKeep, MessageDiscard, Refuse, Data, Discard}
use Rattle.strm_script.specs.Prelude.{Request}
use Rattle.strm_types.specs.declared.names.Place.TheVariants as places
use Rattle.strm_types.specs.declared.names.ModuleName.TheVariants as modules
use Rattle.strm_types.specs.declared.events.FlushQueues.TheVariants as queues
use Rattle.strm_types.specs.declared.modes.Mode.TheVariants as modes
use Rattle.strm_types.specs.Names.{have_queues}
use Rattle.strm_script.specs.declared.commands.NamedPrio.{NamedPrio}
use Rattle.strm_script.specs.declared.commands.NamedPrio.TheVariants as prios
use Rattle.strm_script.specs.declared.commands.NamedWanted.{NamedWanted}
use Rattle.strm_script.specs.declared.commands.NamedWanted.TheVariants as wanteds
use Rattle.strm_script.specs.declared.commands.WindowSize.{WindowSize}

-- a command
pub data Command : Type 0 where
  Open : Option ℕ → Command  -- with so many blocks of each kind, or as many as is usual
  Call : Side → Request → Command  -- on a side's stream
  Flush : Side → FlushQueues → Option ℕ → Command  -- of all bands or of one, whose number may be none that a band has
  Put : Side → NamedPrio → Option (List ℕ) → Option (List ℕ) → Command  -- of a control part and a data part, each there or absent
  Get : Side → NamedWanted → ℕ → ℕ → Command  -- of at most so many bytes of the control part, and of the data part
  Turn : QueueName → Command
  Run : ℕ → Command  -- so many turns at most
  Show : Side → Command  -- what stands on the queues of a side's stream
  Ledger : Dir → Command  -- where the bytes of a direction are
  Cut : Command  -- the journal begins anew
  Group : Caller → Command  -- who makes the later calls on the caller's side

-- the most bytes of a line, without its LF
abbrev pub line_max : ℕ
line_max = 4096

-- the largest number that a script can name
abbrev pub number_max : ℕ
number_max = 4294967295

abbrev pub side_name : Side → List ℕ
side_name Master = codes "m"
side_name Slave = codes "s"

-- the name of a module: one of a user's own has its number
abbrev pub module_name : ModuleName → List ℕ
module_name modules.Ldterm = codes "ldterm"
module_name modules.Ptem = codes "ptem"
module_name modules.Pckt = codes "pckt"
module_name (modules.Own n) = decimal (16 + n)

-- whether scripts have a word for a module: for none of a user's own
abbrev pub has_word : ModuleName → Bool
has_word (modules.Own n) = false
has_word _ = true

-- whether the queues of a place have a name: those of heads, drivers, and modules that have queues and a word
abbrev pub has_name : Place → Bool
has_name (places.Module name) = has_word name && have_queues name
has_name _ = true

abbrev pub place_name : Place → List ℕ
place_name Head = codes "head"
place_name (places.Module name) = module_name name
place_name Driver = codes "drv"

abbrev pub way_name : Way → List ℕ
way_name Up = codes "r"
way_name Down = codes "w"

-- a direction: from the master to the slave, or back
abbrev pub direction_name : Dir → List ℕ
direction_name MasterToSlave = codes "ms"
direction_name SlaveToMaster = codes "sm"

-- the name of a queue without its side, as `drv.w`, and with it, as `m.drv.w`
abbrev pub queue_in_stream : QueueName → List ℕ
queue_in_stream name = place_name name.place ++ (codes "." ++ way_name name.way)

abbrev pub queue_name : QueueName → List ℕ
queue_name name = side_name name.side ++ (codes "." ++ queue_in_stream name)

-- how job control treats a caller that isn't in the foreground: whether SIGTTIN and SIGTTOU are ignored, and whether its process group is
-- orphaned
abbrev pub flags_name : Bool → Bool → List ℕ
flags_name false false = codes "-"
flags_name true false = codes "i"
flags_name false true = codes "o"
flags_name true true = codes "io"

-- which queues a flush is for
abbrev pub flush_name : FlushQueues → List ℕ
flush_name queues.Read = codes "r"
flush_name queues.Write = codes "w"
flush_name queues.Both = codes "rw"

-- the word of a mode that I_SRDOPT of streamio(7I) sets: RNORM, RMSGN, RMSGD, RPROTNORM, RPROTDAT, RPROTDIS
abbrev pub mode_name : Mode → List ℕ
mode_name (modes.Read ByteStream) = codes "norm"
mode_name (modes.Read MessageKeep) = codes "msgn"
mode_name (modes.Read MessageDiscard) = codes "msgd"
mode_name (modes.Control Refuse) = codes "protnorm"
mode_name (modes.Control Data) = codes "protdat"
mode_name (modes.Control Discard) = codes "protdis"

-- the most bytes of each part that a get takes where a script names no sizes
abbrev pub usual_size : ℕ
usual_size = 1024

-- the value of a decimal digit
unfoldable pub digit_of : ℕ → Option ℕ
digit_of b = if nat_le 48 b && nat_le b 57 then Some (b - 48) else None

-- digits of this value, the first of them behind those of another value
abbrev pub HasValue : ℕ → List ℕ → ℕ → Type 0
HasValue before [] n = n ≡ before
HasValue before (b ∷ digits) n = (d : ℕ) × (digit_of b ≡ Some d) × HasValue (10 * before + d) digits n

-- the spelling of a number: 1 to 10 decimal digits, of which the first may be zeros
pub record IsNumber (digits : List ℕ) (n : ℕ) : Type 0 where
  pub some : 0 < length digits
  pub most : length digits ≤ 10
  pub value : HasValue 0 digits n
  pub fits : n ≤ number_max

-- a letter from a to z
abbrev pub is_letter : ℕ → Bool
is_letter b = nat_le 97 b && nat_le b 122

-- what may be the name of a module: 1 to 8 letters
pub record IsName (name : List ℕ) : Type 0 where
  pub some : 0 < length name
  pub most : length name ≤ 8
  pub letters : AllByRecursion (λ b. is_letter b ≡ true) name

-- a name that no module has
pub record IsUnknown (name : List ℕ) : Type 0 where
  pub is_name : IsName name
  pub other : (known : ModuleName) → has_word known ≡ true → name ≢ module_name known

-- the value of a hexadecimal digit, in either case
unfoldable pub hex_of : ℕ → Option ℕ
hex_of b =
    if nat_le 48 b && nat_le b 57 then Some (b - 48)
    else (if nat_le 97 b && nat_le b 102 then Some (b - 87)
    else (if nat_le 65 b && nat_le b 70 then Some (b - 55) else None))

-- the byte that an escape of one letter stands for: \n \r \t \" \\
unfoldable pub escaped : ℕ → Option ℕ
escaped b =
    if b == 110 then Some 10
    else (if b == 114 then Some 13
    else (if b == 116 then Some 9
    else (if b == 34 then Some 34
    else (if b == 92 then Some 92 else None))))

-- A byte is spelled as itself, unless it is a quote, a backslash or LF, or by an escape: of one letter, or \x and two
-- hexadecimal digits.
pub data IsPiece : List ℕ → ℕ → Type 0 where
  Itself : (b : ℕ) → b ≢ 34 → b ≢ 92 → b ≢ 10 → IsPiece (b ∷ []) b
  Named : (c b : ℕ) → escaped c ≡ Some b → IsPiece (92 ∷ c ∷ []) b
  Coded : (h l high low : ℕ) → hex_of h ≡ Some high → hex_of l ≡ Some low → IsPiece (92 ∷ 120 ∷ h ∷ l ∷ []) (16 * high + low)

-- the spelling of a text, without its quotes: a piece for each byte
abbrev pub IsText : List ℕ → List ℕ → Type 0
IsText spelled [] = spelled ≡ []
IsText spelled (b ∷ text) = (piece rest : List ℕ) × IsPiece piece b × (spelled ≡ piece ++ rest) × IsText rest text

-- a text in quotes
abbrev pub IsQuoted : List ℕ → List ℕ → Type 0
IsQuoted text word = (spelled : List ℕ) × IsText spelled text × (word ≡ codes "\"" ++ (spelled ++ codes "\""))

-- a priority: `hi`, or the number of a band
abbrev pub IsPrio : NamedPrio → List ℕ → Type 0
IsPrio prios.High word = word ≡ codes "hi"
IsPrio (prios.Band n) word = IsNumber word n

-- which message is wanted: `any`, `hi`, or the number of a band
abbrev pub IsWanted : NamedWanted → List ℕ → Type 0
IsWanted wanteds.Any word = word ≡ codes "any"
IsWanted wanteds.High word = word ≡ codes "hi"
IsWanted (wanteds.Band n) word = IsNumber word n

-- a part of a message: `-` where it is absent, else its text in quotes
abbrev pub IsPart : Option (List ℕ) → List ℕ → Type 0
IsPart None word = word ≡ codes "-"
IsPart (Some text) word = IsQuoted text word

-- the name of a module for which there is a word, or a name that no module has
abbrev pub IsModule : Option ModuleName → List ℕ → Type 0
IsModule (Some known) word = (word ≡ module_name known) × (has_word known ≡ true)
IsModule None word = IsUnknown word

-- a number up to a limit
abbrev pub IsNumberTo : ℕ → ℕ → List ℕ → Type 0
IsNumberTo limit n digits = IsNumber digits n × (n ≤ limit)

-- the largest number of one byte, and of two
abbrev pub byte_max : ℕ
byte_max = 255

abbrev pub short_max : ℕ
short_max = 65535

-- what TIOCSWINSZ sends (termio(7I): struct winsize): each number in two bytes, the most significant first
abbrev pub window_bytes : WindowSize → List ℕ
window_bytes size = to_be_bytes w16 size.rows ++ (to_be_bytes w16 size.columns ++ (to_be_bytes w16 size.width ++ to_be_bytes w16 size.height))

-- what TIOCSPGRP sends (tcsetpgrp(3C)): the process group in four bytes, the most significant first
abbrev pub group_bytes : ℕ → List ℕ
group_bytes n = to_be_bytes w32 n

-- a line that asks for nothing: an empty one, and a comment
abbrev pub is_silent : List ℕ → Bool
is_silent [] = true
is_silent (b ∷ _) = b == 35

-- the lines of a script: each ends with LF, which the last may lack
abbrev pub begun_with : ℕ → List (List ℕ) → List (List ℕ)
begun_with b [] = (b ∷ []) ∷ []
begun_with b (line ∷ lines) = (b ∷ line) ∷ lines

unfoldable pub lines_of : List ℕ → List (List ℕ)
lines_of [] = []
lines_of (b ∷ bytes) = if b == 10 then [] ∷ lines_of bytes else begun_with b (lines_of bytes)
