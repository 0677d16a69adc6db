-- The modules and the streams of a restorable state fit their formats.
use Rattle.strm_image.proofs.Prelude.{◌≡◌, ℕ, ◌<◌, ◌≤◌, Bool, true, false, not, ◌&&◌, ◌||◌, eqb, List, [], ◌∷◌, ◌++◌, length, map, refl, ap}
use Rattle.strm_image.proofs.Prelude.{Option, None, Some, is_some, arith, ◌^◌, nat_lt, and_from, eq-eqb, le-leb, lt-ltb, ltb-false, signals-fit, times}
use Rattle.strm_image.proofs.Prelude.{times-cons, top-times}
use Rattle.strm_image.specs.Prelude.{IOCTL_MAX, MODULES, SIGNAL_LAST, ControlMode, ReadMode, ModuleName, Side, COLUMN_MAX, Free, Waiting, Answered}
use Rattle.strm_image.specs.Prelude.{Termios, Winsize, Ldterm, Rests, have_queues, waits_there, is_master, is_open, same_module, is_none_left}
use Rattle.strm_image.specs.Prelude.{QueuePair, stood, AreSignals, is_signal, PlainSlot, answer_bytes, is_free, ldterm_rests, GoodKind, GoodModule}
use Rattle.strm_image.specs.Prelude.{GoodModules, GoodPair, GoodStream, IsShut, IsWhole, goes_out, is_part_kind, stands_below, EachOnce, times_there}
use Rattle.strm_image.specs.Prelude.{IsAtRest, KindRests, Module, OfLdterm, OfOwn, OfPtem, OfPckt, Standing, kind_name, module_name, module_queues}
use Rattle.strm_image.specs.Prelude.{queues_of_modules, SETTINGS_MAX, Stream, stream_queues, IsWithin}
use Rattle.std.specs.List.{AllByRecursion}
use Rattle.strm_types.specs.declared.modes.ControlMode.TheVariants as controls
use Rattle.strm_types.specs.declared.modes.ReadMode.TheVariants as reads
use Rattle.strm_types.specs.declared.names.ModuleName.TheVariants as names
use Rattle.strm_types.proofs.EnabledNames.{same_module-self}
use Rattle.strm_laws.specs.Restorable.{GoodLdterm}
use Rattle.strm_image.specs.declared.versions.QueueKind.TheVariants as queues
use Rattle.strm_image.specs.declared.versions.Version.TheVariants.{Second}
use Rattle.strm_image.specs.Codes.{control_mode, module_kind, name_kind, read_mode}
use Rattle.strm_image.specs.Format.{byte, if_there, only, u16, u32}
use Rattle.strm_image.specs.HasImage.{HasHalves, HasKindNumbers, HasModuleNumbers, HasNumbers, HasSlotNumbers, HasWords, IsLaid}
use Rattle.strm_image.specs.Image.{is_quiet, laid_on}
use Rattle.strm_image.specs.Modules.{are_few, are_settings, kind_body, ldterm, may_stand, module_below, module_format, modules, next_names, pair, ptem}
use Rattle.strm_image.specs.Modules.{settings, termios, winsize}
use Rattle.strm_image.specs.Streams.{Bits, HeadBits, bits, bits_code, group_if, head_bits, is_answer, laid, signals, signals_behind, slot, slot_kind}
use Rattle.strm_image.proofs.EachOnce.{AreNew, IsCount, all_new}
use Rattle.strm_image.proofs.FitQueues.{flag_fits, queue_fits, with_parts}
use Rattle.strm_image.proofs.Fitting.{all_back, all_flat, all_front, bytes_fit, chain_fits, counted_fits, octets_fit, u16_fits, u32_fits}
use Rattle.strm_image.proofs.FlowRows.{same_bool_refl}

-- ---- modules

termios_fits : (t : Termios) → IsWhole t → HasWords t → termios.fits t ≡ true
unfolding termios
termios_fits t whole words = and_from _ _ (u32_fits t.iflag.0 words.input) (and_from _ _ (u32_fits t.oflag.0 words.output) (and_from _ _ (u32_fits t.cflag words.line) (and_from _ _ (u32_fits t.lflag.0 words.local) (eq-eqb _ _ whole))))

winsize_fits : (w : Winsize) → HasHalves w → winsize.fits w ≡ true
unfolding winsize
winsize_fits w halves = and_from _ _ (u16_fits w.rows halves.rows) (and_from _ _ (u16_fits w.columns halves.columns) (and_from _ _ (u16_fits w.x_pixels halves.x_pixels) (u16_fits w.y_pixels halves.y_pixels)))

rests : (l : Ldterm ℕ) → Rests l → ldterm_rests l ≡ true
rests l idle = rw (idle.0, idle.1, idle.2, idle.3) refl

ldterm_fits : (l : Ldterm ℕ) → GoodLdterm l → Rests l → HasWords l.termios → ldterm.fits l ≡ true
unfolding ldterm
ldterm_fits l good idle words =
    and_from _ _ (rests l idle) (and_from _ _ (termios_fits l.termios good.termios words) (and_from _ _ (flag_fits l.stopped) (and_from _ _ (flag_fits l.after_lnext)
    (and_from _ _ (and_from _ _ (u32_fits l.column (omega (arith, good.column))) (le-leb l.column COLUMN_MAX good.column))
    (bytes_fit byte l.line (lt-ltb (length l.line) 256 (omega (arith, good.line))))))))

-- the number of a name has 8 bits
abbrev pub IsNumbered : ModuleName → Type 0
IsNumbered (names.Own n) = n < 256
IsNumbered name = Unit {0}

pub kind_numbered : (x : Module ℕ) → GoodKind x → IsNumbered (kind_name x)
kind_numbered (OfLdterm l) good = tt
kind_numbered (OfPtem p) good = tt
kind_numbered (OfPckt p) good = tt
kind_numbered (OfOwn o) good = good.number

name_fits : (name : ModuleName) → IsNumbered name → (only (may_stand Second) module_kind).fits name ≡ true
unfolding module_kind name_kind
name_fits names.Ldterm low = refl
name_fits names.Ptem low = refl
name_fits names.Pckt low = refl
name_fits (names.Own n) low = and_from _ _ (lt-ltb n 256 low) refl

kind_fits : (x : Module ℕ) → GoodKind x → KindRests x → HasKindNumbers x → (kind_body (kind_name x)).fits x ≡ true
unfolding ptem settings
kind_fits (OfLdterm l) good idle words = ldterm_fits l good idle words
kind_fits (OfPtem p) good idle words = and_from _ _ (termios_fits p.termios good words.0) (winsize_fits p.window words.1)
kind_fits (OfPckt p) good idle words = refl
kind_fits (OfOwn o) good idle words =
    let few = and_from _ _ (u16_fits (length o.settings) (omega (arith, good.few))) (le-leb (length o.settings) SETTINGS_MAX good.few) in
    and_from _ _ (same_module-self (names.Own o.number)) (octets_fit (only are_settings u16) o.settings few good.bytes)

-- the queues of a module, where it has any
pair_fits : (x : Module ℕ) (own : Option (QueuePair ℕ)) (has : Bool) → is_some own ≡ has → GoodPair own → AllByRecursion IsLaid (module_queues (stood x own))
    → (if_there has (pair Second)).fits own ≡ true
unfolding pair
pair_fits x None false is good laid = refl
pair_fits x None true is good laid = absurd cc
pair_fits x (Some both) false is good laid = absurd cc
pair_fits x (Some both) true is good laid =
    and_from _ _ (queue_fits queues.ModuleRead waits_there (λ k. refl) both.read good.0 laid.0) (queue_fits queues.ModuleWrite goes_out (λ k. refl) both.write good.1 laid.1.0)

module_fits : (p : Standing ℕ) → GoodModule p → IsAtRest p → HasModuleNumbers p → AllByRecursion IsLaid (module_queues p) → (module_format Second).fits p ≡ true
unfolding module_format
module_fits p good idle words laid =
    and_from _ _ (name_fits (module_name p) (kind_numbered p.part good.kind))
    (and_from _ _ (kind_fits p.part good.kind idle words) (pair_fits p.part p.queues (have_queues (module_name p)) good.has good.queues laid))

each_fits : (ps : List (Standing ℕ)) → AllByRecursion GoodModule ps → AllByRecursion (λ p. IsAtRest p) ps → AllByRecursion HasModuleNumbers ps → AllByRecursion (λ p. AllByRecursion IsLaid (module_queues p)) ps
    → AllByRecursion (λ p. (module_format Second).fits p ≡ true) ps
each_fits [] good idle words queues = tt
each_fits (p ∷ ps) good idle words queues = (module_fits p good.0 idle.0 words.0 queues.0, each_fits ps good.1 idle.1 words.1 queues.1)

-- how often a name stands among others
unfoldable pub names_count : ModuleName → List ModuleName → ℕ
names_count name ns = times_there name ns (length ns)

pub is_names_count : IsCount same_module names_count
unfolding names_count
is_names_count = record { none = λ name. refl; more = λ name n ns. top-times name n ns (length ns) }

pub names_once : (ns : List ModuleName) → EachOnce ns → (name : ModuleName) → names_count name ns ≤ 1
unfolding names_count
names_once ns each name = each.once name (length ns)

-- modules that fit, none of which has a name above
record Below (above : List ModuleName) (ps : List (Standing ℕ)) : Type 0 where
  new : AreNew same_module above (map module_name ps)
  each : AllByRecursion (λ p. (module_format Second).fits p ≡ true) ps

below_fits : (above : List ModuleName) (p : Standing ℕ) (ps : List (Standing ℕ)) → Below above (p ∷ ps) → ((module_below Second above).fits p ≡ true) × Below (next_names p above) ps
unfolding module_below AreNew
below_fits above p ps b = (and_from _ _ b.each.0 (ap not b.new.0), record { new = b.new.1; each = b.each.1 })

modules_fit : (ps : List (Standing ℕ)) → GoodModules ps → AllByRecursion (λ p. (module_format Second).fits p ≡ true) ps → (modules Second).fits ps ≡ true
unfolding modules
modules_fit ps good each =
    let new = all_new same_module same_module-self names_count is_names_count (map module_name ps) (names_once (map module_name ps) good.once) in
    counted_fits next_names (module_below Second) (only are_few byte) [] ps (and_from _ _ (lt-ltb (length ps) 256 (omega (arith, good.few))) (le-leb (length ps) MODULES good.few))
    (chain_fits next_names (module_below Second) Below below_fits [] ps (record { new = new; each = each }))

-- ---- heads

signals_new : (before ns : List ℕ) → AreNew eqb before ns → AllByRecursion (λ n. is_signal n ≡ true) ns → signals_behind before ns ≡ true
unfolding AreNew
signals_new before [] new known = refl
signals_new before (n ∷ ns) new known = and_from _ _ (and_from _ _ known.0 (ap not new.0)) (signals_new (before ++ n ∷ []) ns new.1 known.1)

signals_fit : (ns : List ℕ) → AreSignals ns → signals.fits ns ≡ true
unfolding signals
signals_fit ns are =
    let few : length ns ≤ SIGNAL_LAST = signals-fit ns are in
    let new = all_new eqb (λ n. eq-eqb n n refl) times (record { none = λ n. refl; more = λ n k ks. times-cons n k ks }) ns are.once in
    and_from _ _ (bytes_fit byte ns (lt-ltb (length ns) 256 (omega (arith, few)))) (signals_new [] ns new are.known)

slot_fits : (s : PlainSlot) → HasSlotNumbers s → length (answer_bytes s) ≤ IOCTL_MAX → slot.fits s ≡ true
unfolding slot slot_kind
slot_fits Free numbers few = refl
slot_fits (Waiting number command) numbers few = and_from _ _ (u32_fits number numbers.0) (u32_fits command numbers.1)
slot_fits (Answered number command acked error body) numbers few =
    and_from _ _ (u32_fits number numbers.0) (and_from _ _ (u32_fits command numbers.1.0) (and_from _ _ (flag_fits acked) (and_from _ _ (u32_fits error numbers.1.1)
    (bytes_fit (only is_answer u32) body (and_from _ _ (u32_fits (length body) (omega (arith, few))) (le-leb (length body) IOCTL_MAX few))))))

bits_fit : (b : Bits) → bits.fits b ≡ true
unfolding bits bits_code
bits_fit (false, (false, false)) = refl
bits_fit (true, (false, false)) = refl
bits_fit (false, (true, false)) = refl
bits_fit (true, (true, false)) = refl
bits_fit (false, (false, true)) = refl
bits_fit (true, (false, true)) = refl
bits_fit (false, (true, true)) = refl
bits_fit (true, (true, true)) = refl

group_fits : (b : Bool) (group : ℕ) → nat_lt 0 group ≡ b → group < 2 ^ 32 → (group_if b).fits group ≡ true
group_fits true group is bits = and_from _ _ (u32_fits group bits) is
group_fits false group is bits = let low : group ≤ 0 = ltb-false 0 group is in and_from _ _ (eq-eqb group 0 (omega (arith, low))) refl

head_fits : (side : Side) (x : HeadBits) → (is_master side ≡ true → x.1.1 ≡ 0) → x.1.1 < 2 ^ 32 → (head_bits (not (is_master side))).fits x ≡ true
unfolding head_bits
head_fits side x none low =
    let b = nat_lt 0 x.1.1 in
    and_from _ _ (and_from _ _ (bits_fit (x.0, (x.1.0, b))) (at (is_master side) none))
    (and_from _ _ (and_from _ _ (same_bool_refl x.0) (and_from _ _ (same_bool_refl x.1.0) (same_bool_refl b))) (group_fits b x.1.1 refl low))
  where
    at : (master : Bool) → (master ≡ true → x.1.1 ≡ 0) → (not master || not (nat_lt 0 x.1.1)) ≡ true
    at true zero_group = let zero_is : x.1.1 ≡ 0 = zero_group refl in rw zero_is refl
    at false zero_group = refl

read_fits : (m : ReadMode) → read_mode.fits m ≡ true
unfolding read_mode
read_fits reads.ByteStream = refl
read_fits reads.MessageDiscard = refl
read_fits reads.MessageKeep = refl

control_fits : (m : ControlMode) → control_mode.fits m ≡ true
unfolding control_mode
control_fits controls.Refuse = refl
control_fits controls.Data = refl
control_fits controls.Discard = refl

-- ---- streams

pub stream_fits : (side : Side) (t : Stream ℕ) → GoodStream side t → IsWithin t.head → AllByRecursion (λ p. IsAtRest p) t.modules → HasNumbers t → AllByRecursion IsLaid (stream_queues t)
    → (laid Second (not (is_master side))).fits (laid_on t) ≡ true
unfolding laid
stream_fits side t good within idle numbers laid_queues =
    let inner = queues_of_modules t.modules in
    let of_modules = all_flat IsLaid module_queues t.modules (all_front IsLaid inner (t.driver.queue ∷ []) laid_queues.1) in
    let below = all_back IsLaid inner (t.driver.queue ∷ []) laid_queues.1 in
    and_from _ _ (read_fits t.head.read_mode) (and_from _ _ (control_fits t.head.control_mode) (and_from _ _ (head_fits side (t.head.hung_up, (t.head.tostop, t.head.group)) good.head.group numbers.group)
    (and_from _ _ (signals_fit t.head.signals within.signals) (and_from _ _ (slot_fits t.head.ioctl numbers.ioctl within.answer)
    (and_from _ _ (modules_fit t.modules good.modules (each_fits t.modules good.modules.each idle numbers.modules of_modules))
    (and_from _ _ (queue_fits queues.Head is_part_kind (λ k. (with_parts k).0) t.head.queue good.head.queue laid_queues.0) (queue_fits queues.Driver stands_below (λ k. refl) t.driver.queue good.driver below.0)))))))

-- a side that isn't open has none of what its users see
pub shut_quiet : (side : Side) (t : Stream ℕ) → GoodStream side t → is_quiet t ≡ true
shut_quiet side t good = at (is_open t.opened) good.shut
  where
    at : (opened : Bool) → (opened ≡ false → IsShut t) → (opened || (is_none_left t.modules && (is_none_left t.head.signals && (is_free t.head.ioctl && is_none_left t.head.queue.messages)))) ≡ true
    at true shut = refl
    at false shut = let none = shut refl in rw (none.modules, none.signals, none.ioctl, none.unread) refl
