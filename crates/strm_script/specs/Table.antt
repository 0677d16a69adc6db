-- How each command is spelled: its word, a row of `verbs`, and by `form_of` the form of what stands behind it.
use Rattle.std.specs.Prelude.{◌≡◌, ℕ, Bool, true, List, [], ◌∷◌, ◌++◌, codes, Option, None, Some}
use Rattle.strm_script.specs.Prelude.{Dir, Side, Master, Slave, QueueName, ModuleName, FlushQueues, Unlock, OpenSlave, Shut, Push, Pop, Look, Write}
use Rattle.strm_script.specs.Prelude.{Read, Ioctl, IoctlResult, Mode}
use Rattle.strm_types.specs.declared.events.Event.TheVariants as calls
use Rattle.strm_types.specs.declared.ioctls.TheConstants.{TCGETS, TCSETS, TCSETSW, TCSETSF, TIOCGPGRP, TIOCSPGRP, TIOCGWINSZ, TIOCSWINSZ, TIOCSIGNAL}
use Rattle.strm_script.specs.declared.commands.NamedPrio.{NamedPrio}
use Rattle.strm_script.specs.declared.commands.NamedWanted.{NamedWanted}
use Rattle.strm_script.specs.declared.commands.NamedWanted.TheVariants as wanteds
use Rattle.strm_script.specs.declared.ioctls.IoctlName.{IoctlName}
use Rattle.strm_script.specs.declared.ioctls.IoctlName.TheVariants as ioctls
use Rattle.strm_script.specs.declared.verbs.Verb.{Verb}
use Rattle.strm_script.specs.declared.verbs.Verb.TheVariants as words
use Rattle.strm_script.specs.Named.{named}
use Rattle.strm_script.specs.Script.{Command, Open, Call, Flush, Put, Get, Turn, Run, Show, Ledger, Cut, Group, side_name, has_name, queue_name, direction_name, flags_name, flush_name, mode_name, usual_size, byte_max, short_max, window_bytes, group_bytes, IsNumber, IsNumberTo, IsQuoted, IsPart, IsPrio, IsWanted, IsModule}

-- the kinds of words that a line has
pub data Kind : Type 0 where
  AVerb : Kind  -- the word of a command
  AnIoctl : Kind  -- the word of an ioctl
  ASide : Kind
  ANumber : Kind
  AShort : Kind  -- a number of two bytes
  AByte : Kind  -- a number of one byte
  AText : Kind
  APart : Kind
  APrio : Kind
  AWanted : Kind
  AQueue : Kind
  ADirection : Kind
  AModule : Kind
  SomeQueues : Kind  -- those that a flush is for
  AMode : Kind
  Flags : Kind  -- of a caller

-- what a word of each kind says
abbrev pub Said : Kind → Type 0
Said AVerb = Verb
Said AnIoctl = IoctlName
Said ASide = Side
Said ANumber = ℕ
Said AShort = ℕ
Said AByte = ℕ
Said AText = List ℕ
Said APart = Option (List ℕ)
Said APrio = NamedPrio
Said AWanted = NamedWanted
Said AQueue = QueueName
Said ADirection = Dir
Said AModule = Option ModuleName
Said SomeQueues = FlushQueues
Said AMode = Mode
Said Flags = Bool × Bool

-- the words of commands
abbrev pub verbs : List (List ℕ × Verb)
verbs =
    (codes "open", words.Open) ∷
    (codes "unlock", words.Unlock) ∷
    (codes "slave", words.Slave) ∷
    (codes "close", words.Close) ∷
    (codes "push", words.Push) ∷
    (codes "pop", words.Pop) ∷
    (codes "look", words.Look) ∷
    (codes "write", words.Write) ∷
    (codes "read", words.Read) ∷
    (codes "put", words.Put) ∷
    (codes "get", words.Get) ∷
    (codes "mode", words.Mode) ∷
    (codes "flush", words.Flush) ∷
    (codes "ioctl", words.Ioctl) ∷
    (codes "poll", words.Poll) ∷
    (codes "signals", words.Signals) ∷
    (codes "group", words.Group) ∷
    (codes "turn", words.Turn) ∷
    (codes "run", words.Run) ∷
    (codes "show", words.Show) ∷
    (codes "ledger", words.Ledger) ∷
    (codes "cut", words.Cut) ∷
    []

-- the words of ioctls
abbrev pub ioctl_names : List (List ℕ × IoctlName)
ioctl_names =
    (codes "TCGETS", ioctls.Tcgets) ∷
    (codes "TIOCGWINSZ", ioctls.Tiocgwinsz) ∷
    (codes "TIOCGPGRP", ioctls.Tiocgpgrp) ∷
    (codes "TIOCSPGRP", ioctls.Tiocspgrp) ∷
    (codes "TIOCSIGNAL", ioctls.Tiocsignal) ∷
    (codes "TIOCSWINSZ", ioctls.Tiocswinsz) ∷
    (codes "TCSETS", ioctls.Tcsets) ∷
    (codes "TCSETSW", ioctls.Tcsetsw) ∷
    (codes "TCSETSF", ioctls.Tcsetsf) ∷
    (codes "raw", ioctls.Raw) ∷
    []

-- how a word of each kind is spelled
abbrev pub IsWord : (kind : Kind) → Said kind → List ℕ → Type 0
IsWord AVerb verb word = named verbs word ≡ Some verb
IsWord AnIoctl name word = named ioctl_names word ≡ Some name
IsWord ASide side word = word ≡ side_name side
IsWord ANumber n word = IsNumber word n
IsWord AShort n word = IsNumberTo short_max n word
IsWord AByte n word = IsNumberTo byte_max n word
IsWord AText text word = IsQuoted text word
IsWord APart part word = IsPart part word
IsWord APrio prio word = IsPrio prio word
IsWord AWanted wanted word = IsWanted wanted word
IsWord AQueue name word = (word ≡ queue_name name) × (has_name name.place ≡ true)
IsWord ADirection direction word = word ≡ direction_name direction
IsWord AModule known word = IsModule known word
IsWord SomeQueues what word = word ≡ flush_name what
IsWord AMode mode word = word ≡ mode_name mode
IsWord Flags flags word = word ≡ flags_name flags.0 flags.1

-- what stands behind a word, and the command that it makes
pub data Form : Type 0 where
  Ends : Command → Form  -- nothing
  MayEnd : Command → Form → Form  -- nothing, or what this form has
  Last : (kind : Kind) → (Said kind → Command) → Form  -- a space and one word
  Then : (kind : Kind) → (Said kind → Form) → Form  -- a space and a word, and behind it what this form has

-- how a form is spelled that makes a command
abbrev pub IsForm : Form → Command → List ℕ → Type 0
IsForm (Ends made) command rest = (made ≡ command) × (rest ≡ [])
IsForm (MayEnd made form) command [] = made ≡ command
IsForm (MayEnd made form) command (b ∷ rest) = IsForm form command (b ∷ rest)
IsForm (Last kind made) command rest = (x : Said kind) × (word : List ℕ) × IsWord kind x word × (made x ≡ command) × (rest ≡ codes " " ++ word)
IsForm (Then kind form) command rest =
    (x : Said kind) × (word more : List ℕ) × IsWord kind x word × IsForm (form x) command more × (rest ≡ codes " " ++ (word ++ more))

-- an ioctl of this command, which sends these bytes
abbrev pub sends : Side → ℕ → List ℕ → Command
sends side command bytes = Call side (Ioctl command bytes)

-- what stands behind the word of each ioctl of a side (streamio(7I), termio(7I), ptm(7D), tcgetpgrp(3C))
abbrev pub ioctl_form : Side → IoctlName → Form
ioctl_form side ioctls.Tcgets = Ends (sends side TCGETS [])
ioctl_form side ioctls.Tiocgwinsz = Ends (sends side TIOCGWINSZ [])
ioctl_form side ioctls.Tiocgpgrp = Ends (sends side TIOCGPGRP [])
ioctl_form side ioctls.Tiocspgrp = Last ANumber (λ n. sends side TIOCSPGRP (group_bytes n))
ioctl_form side ioctls.Tiocsignal = Last AByte (λ n. sends side TIOCSIGNAL (n ∷ []))
ioctl_form side ioctls.Tiocswinsz =
    Then AShort (λ rows. Then AShort (λ columns. Then AShort (λ width. Last AShort (λ height.
    sends side TIOCSWINSZ (window_bytes (record { rows = rows; columns = columns; width = width; height = height }))))))
ioctl_form side ioctls.Tcsets = Last AText (sends side TCSETS)
ioctl_form side ioctls.Tcsetsw = Last AText (sends side TCSETSW)
ioctl_form side ioctls.Tcsetsf = Last AText (sends side TCSETSF)
ioctl_form side ioctls.Raw = Then ANumber (λ command. Last AText (sends side command))

-- a get of what is wanted, with a size for each part
abbrev pub get_form : Side → Form
get_form side = Then AWanted (λ wanted. Then ANumber (λ cmax. Last ANumber (λ dmax. Get side wanted cmax dmax)))

-- What stands behind the word of each command. What opens the master is `open`, which also makes the pair; a flush, a put and a get are
-- commands of their own, and nothing spells I_NREAD.
abbrev pub form_of : Verb → Form
form_of words.Open = MayEnd (Open None) (Last ANumber (λ n. Open (Some n)))
form_of words.Unlock = Ends (Call Master Unlock)
form_of words.Slave = Ends (Call Slave OpenSlave)
form_of words.Close = Last ASide (λ side. Call side Shut)
form_of words.Push = Then ASide (λ side. Last AModule (λ name. Call side (Push name)))
form_of words.Pop = Last ASide (λ side. Call side Pop)
form_of words.Look = Last ASide (λ side. Call side Look)
form_of words.Write = Then ASide (λ side. Last AText (λ text. Call side (Write text)))
form_of words.Read = Then ASide (λ side. Last ANumber (λ n. Call side (Read n)))
form_of words.Put = Then ASide (λ side. Then APrio (λ prio. Then APart (λ control. Last APart (λ body. Put side prio control body))))
form_of words.Get = Then ASide (λ side. MayEnd (Get side wanteds.Any usual_size usual_size) (get_form side))
form_of words.Mode = Then ASide (λ side. Last AMode (λ mode. Call side (calls.Mode mode)))
form_of words.Flush = Then ASide (λ side. Then SomeQueues (λ what. MayEnd (Flush side what None) (Last ANumber (λ n. Flush side what (Some n)))))
form_of words.Ioctl = Then ASide (λ side. Then AnIoctl (ioctl_form side))
form_of words.Poll = Then ASide (λ side. Last ANumber (λ n. Call side (IoctlResult n)))
form_of words.Signals = Last ASide (λ side. Call side calls.Signals)
form_of words.Group =
    Then ASide (λ side. Then ANumber (λ n. Last Flags (λ flags.
    Group (record { side = side; group = n; ignores = flags.0; orphaned = flags.1 }))))
form_of words.Turn = Last AQueue (λ name. Turn name)
form_of words.Run = Last ANumber (λ n. Run n)
form_of words.Show = Last ASide (λ side. Show side)
form_of words.Ledger = Last ADirection (λ direction. Ledger direction)
form_of words.Cut = Ends Cut

-- how a command is spelled: by the word of a verb, and behind it by the verb's form
abbrev pub IsSpelled : Command → List ℕ → Type 0
IsSpelled command line = (verb : Verb) × (word rest : List ℕ) × IsWord AVerb verb word × IsForm (form_of verb) command rest × (line ≡ word ++ rest)
