-- The text of the modules of a stream.
use Rattle.std.specs.Prelude.{ℕ, Bool, true, false, not, nat_le, List, [], ◌∷◌, ◌++◌, Option, None}
use Rattle.std.specs.List.{list_any}
use Rattle.strm_image.specs.Prelude.{MODULES, SETTINGS_MAX, ModuleName, COLUMN_MAX, Termios, Winsize, Between, Ldterm, same_module}
use Rattle.strm_image.specs.Prelude.{new_pckt, Ptem, Queue, QueuePair, have_queues, ldterm_rests, Module, OfLdterm, OfOwn, OfPtem, OfPckt, Standing}
use Rattle.strm_image.specs.Prelude.{kind_name, module_name, stood}
use Rattle.strm_types.specs.declared.names.ModuleName.TheVariants as names
use Rattle.strm_types.specs.Ldterms.{new_ldterm}
use Rattle.strm_types.specs.Ptems.{new_ptem}
use Rattle.strm_image.specs.declared.versions.QueueKind.TheVariants as queues
use Rattle.strm_image.specs.declared.versions.Version.{Version}
use Rattle.strm_image.specs.declared.versions.Version.TheVariants.{First, Second}
use Rattle.strm_image.specs.Codes.{flag, module_kind}
use Rattle.strm_image.specs.Format.{Format, byte, u16, u32, nothing, bytes_of, octets_of, only, counted, chain, if_there, ◌then◌, made, tagged}
use Rattle.strm_image.specs.Messages.{any}
use Rattle.strm_image.specs.Queues.{queue}

-- ---- what a terminal is set to

abbrev pub TermiosParts : Type 0
TermiosParts = ℕ × (ℕ × (ℕ × (ℕ × List ℕ)))

abbrev pub termios_of : TermiosParts → Termios
termios_of (iflag, (oflag, (cflag, (lflag, control)))) = record { iflag = record { 0 = iflag }; oflag = record { 0 = oflag }; cflag = cflag; lflag = record { 0 = lflag }; control = control }

abbrev pub termios_parts : Termios → TermiosParts
termios_parts t = (t.iflag.0, (t.oflag.0, (t.cflag, (t.lflag.0, t.control))))

unfoldable pub termios : Format Termios
termios = made any termios_of termios_parts (u32 then (u32 then (u32 then (u32 then bytes_of 19))))

abbrev pub winsize_of : ℕ × (ℕ × (ℕ × ℕ)) → Winsize
winsize_of (rows, (columns, (x, y))) = record { rows = rows; columns = columns; x_pixels = x; y_pixels = y }

abbrev pub winsize_parts : Winsize → ℕ × (ℕ × (ℕ × ℕ))
winsize_parts w = (w.rows, (w.columns, (w.x_pixels, w.y_pixels)))

unfoldable pub winsize : Format Winsize
winsize = made any winsize_of winsize_parts (u16 then (u16 then (u16 then u16)))

-- ---- ldterm, ptem and pckt, without their queues

abbrev pub is_column : ℕ → Bool
is_column column = nat_le column COLUMN_MAX

abbrev pub LdtermParts : Type 0
LdtermParts = Termios × (Bool × (Bool × (ℕ × List ℕ)))

-- between two turns, so that nothing of one is under way
abbrev pub ldterm_of : LdtermParts → Ldterm ℕ
ldterm_of (set, (stopped, (after, (column, line)))) = record {
  termios = set;
  stopped = stopped;
  after_lnext = after;
  column = column;
  line = line;
  in_work = None;
  gathered = [];
  echoing = false;
  stage = Between;
}

abbrev pub ldterm_parts : Ldterm ℕ → LdtermParts
ldterm_parts l = (l.termios, (l.stopped, (l.after_lnext, (l.column, l.line))))

unfoldable pub ldterm : Format (Ldterm ℕ)
ldterm = made (λ l. ldterm_rests l) ldterm_of ldterm_parts (termios then (flag then (flag then (only is_column u32 then counted byte bytes_of))))

abbrev pub ptem_of : Termios × Winsize → Ptem
ptem_of (set, size) = record { termios = set; window = size }

abbrev pub ptem_parts : Ptem → Termios × Winsize
ptem_parts p = (p.termios, p.window)

unfoldable pub ptem : Format Ptem
ptem = made any ptem_of ptem_parts (termios then winsize)

-- ---- a module of a user's own, without its queues

abbrev pub are_settings : ℕ → Bool
are_settings n = nat_le n SETTINGS_MAX

-- what it is set to: how many bytes, and these
unfoldable pub settings : Format (List ℕ)
settings = counted (only are_settings u16) octets_of

-- ---- what a module of a name is by itself

abbrev pub is_kind_of : ModuleName → Module ℕ → Bool
is_kind_of name x = same_module (kind_name x) name

abbrev pub the_ldterm : Module ℕ → Ldterm ℕ
the_ldterm (OfLdterm l) = l
the_ldterm _ = new_ldterm

abbrev pub the_ptem : Module ℕ → Ptem
the_ptem (OfPtem p) = p
the_ptem _ = new_ptem

abbrev pub pckt_of : Unit {0} → Module ℕ
pckt_of x = OfPckt new_pckt

abbrev pub pckt_parts : Module ℕ → Unit {0}
pckt_parts x = tt

abbrev pub own_of : ℕ → List ℕ → Module ℕ
own_of n bytes = OfOwn (record { number = n; settings = bytes })

abbrev pub settings_of : Module ℕ → List ℕ
settings_of (OfOwn o) = o.settings
settings_of _ = []

abbrev pub kind_body : ModuleName → Format (Module ℕ)
kind_body names.Ldterm = made (is_kind_of names.Ldterm) (λ l. OfLdterm l) the_ldterm ldterm
kind_body names.Ptem = made (is_kind_of names.Ptem) (λ p. OfPtem p) the_ptem ptem
kind_body names.Pckt = made (is_kind_of names.Pckt) pckt_of pckt_parts (nothing tt)
kind_body (names.Own n) = made (is_kind_of (names.Own n)) (own_of n) settings_of settings

-- ---- a module, behind its name: what it is by itself, and its read queue and its write queue, where those of its name have queues

abbrev pub pair_of : Queue ℕ × Queue ℕ → QueuePair ℕ
pair_of (reads, writes) = record { read = reads; write = writes }

abbrev pub pair_parts : QueuePair ℕ → Queue ℕ × Queue ℕ
pair_parts pair = (pair.read, pair.write)

unfoldable pub pair : Version → Format (QueuePair ℕ)
pair v = made any pair_of pair_parts (queue v queues.ModuleRead then queue v queues.ModuleWrite)

-- a module that has none
abbrev pub alone : Module ℕ → Standing ℕ
alone x = stood x None

abbrev pub StandingParts : Type 0
StandingParts = Module ℕ × Option (QueuePair ℕ)

abbrev pub standing_of : StandingParts → Standing ℕ
standing_of (x, own) = stood x own

abbrev pub standing_parts : Standing ℕ → StandingParts
standing_parts m = (m.part, m.queues)

abbrev pub module_body : Version → ModuleName → Format (Standing ℕ)
module_body v name = made any standing_of standing_parts (kind_body name then if_there (have_queues name) (pair v))

-- Images of version 1 have no modules of a user's own.
abbrev pub may_stand : Version → ModuleName → Bool
may_stand First (names.Own n) = false
may_stand First _ = true
may_stand Second _ = true

unfoldable pub module_format : Version → Format (Standing ℕ)
module_format v = tagged module_name (only (may_stand v) module_kind) (module_body v)

-- ---- the modules of a stream, from the top

abbrev pub has_name : ModuleName → List ModuleName → Bool
has_name name names = list_any (λ n. same_module n name) names

-- a module below others of these names, none of which is its own
unfoldable pub module_below : Version → List ModuleName → Format (Standing ℕ)
module_below v above = only (λ m. not (has_name (module_name m) above)) (module_format v)

abbrev pub next_names : Standing ℕ → List ModuleName → List ModuleName
next_names m above = above ++ module_name m ∷ []

abbrev pub are_few : ℕ → Bool
are_few n = nat_le n MODULES

-- three at most, and each once
unfoldable pub modules : Version → Format (List (Standing ℕ))
modules v = counted (only are_few byte) (chain next_names (module_below v) [])
