-- The modules and the streams that fit their formats are good, at rest, and have their widths: the other way round of FitStreams.
use Rattle.strm_image.proofs.Prelude.{◌≡◌, ℕ, zero, suc, ◌<◌, ◌≤◌, Bool, true, false, not, ◌&&◌, ◌||◌, eqb, List, [], ◌∷◌, ◌++◌, length, map, Option}
use Rattle.strm_image.proofs.Prelude.{None, Some, refl, arith, ◌^◌, nat_lt, is_some, and_parts, eqb-true, leb-true, ltb-false, ltb-true, not-true}
use Rattle.strm_image.proofs.Prelude.{times, times-cons, top-times}
use Rattle.strm_image.specs.Prelude.{IOCTL_MAX, MODULES, ModuleName, Side, COLUMN_MAX, Free, Waiting, Answered, Termios, Winsize, Ldterm, Between}
use Rattle.strm_image.specs.Prelude.{Rests, Stage, have_queues, is_between, waits_there, Message, is_master, is_open, same_module, is_none_left}
use Rattle.strm_image.specs.Prelude.{AreSignals, has_signal, is_signal, PlainSlot, answer_bytes, is_free, ldterm_rests, QueuePair, stood, GoodKind}
use Rattle.strm_image.specs.Prelude.{GoodModule, GoodPair, GoodStream, IsShut, IsWhole, goes_out, is_part_kind, stands_below, EachOnce, times_there}
use Rattle.strm_image.specs.Prelude.{IsAtRest, KindRests, Module, OfLdterm, OfOwn, OfPtem, OfPckt, Standing, kind_name, module_name, module_queues}
use Rattle.strm_image.specs.Prelude.{queues_of_modules, SETTINGS_MAX, Stream, stream_queues, IsWithin}
use Rattle.std.specs.List.{AllByRecursion}
use Rattle.strm_types.specs.declared.names.ModuleName.TheVariants as names
use Rattle.strm_types.proofs.EnabledNames.{same_module-sound}
use Rattle.strm_laws.specs.Restorable.{IsWork}
use Rattle.strm_laws.proofs.StackOnce.{nothing-there}
use Rattle.strm_image.specs.declared.versions.QueueKind.TheVariants as queues
use Rattle.strm_image.specs.declared.versions.Version.TheVariants.{Second}
use Rattle.strm_image.specs.Codes.{control_mode, flag, module_kind, name_kind, read_mode}
use Rattle.strm_image.specs.Format.{byte, bytes_of, counted, if_there, only, u16, u32}
use Rattle.strm_image.specs.HasImage.{HasHalves, HasKindNumbers, HasModuleNumbers, HasNumbers, HasSlotNumbers, HasWords, IsLaid}
use Rattle.strm_image.specs.Image.{is_quiet, laid_on}
use Rattle.strm_image.specs.Modules.{are_few, are_settings, has_name, is_column, is_kind_of, kind_body, ldterm, may_stand, module_below, module_format}
use Rattle.strm_image.specs.Modules.{modules, next_names, pair, ptem, settings, termios, winsize}
use Rattle.strm_image.specs.Queues.{queue}
use Rattle.strm_image.specs.Streams.{HeadBits, are_signals, bits, bits_of, group_if, head_bits, is_answer, laid, may_have_group, signals}
use Rattle.strm_image.specs.Streams.{signals_behind, slot, slot_kind}
use Rattle.strm_image.proofs.EachOnce.{AreNew, new_once}
use Rattle.strm_image.proofs.FitQueues.{with_parts}
use Rattle.strm_image.proofs.FitStreams.{IsNumbered, is_names_count, names_count}
use Rattle.strm_image.proofs.Fitted.{all_flattened, all_join, all_so, bytes_count, chain_holds, counted_parts, octets_parts, u16_below, u32_below}
use Rattle.strm_image.proofs.FittedQueues.{queue_told}

-- ---- modules

termios_told : (t : Termios) → termios.fits t ≡ true → IsWhole t × HasWords t
unfolding termios
termios_told t fits =
    let a = and_parts (u32.fits t.iflag.0) _ fits in
    let b = and_parts (u32.fits t.oflag.0) _ a.1 in
    let c = and_parts (u32.fits t.cflag) _ b.1 in
    let d = and_parts (u32.fits t.lflag.0) ((bytes_of 19).fits t.control) c.1 in
    (eqb-true (length t.control) 19 d.1, record { input = u32_below t.iflag.0 a.0; output = u32_below t.oflag.0 b.0; line = u32_below t.cflag c.0; local = u32_below t.lflag.0 d.0 })

winsize_told : (w : Winsize) → winsize.fits w ≡ true → HasHalves w
unfolding winsize
winsize_told w fits =
    let a = and_parts (u16.fits w.rows) _ fits in
    let b = and_parts (u16.fits w.columns) _ a.1 in
    let c = and_parts (u16.fits w.x_pixels) (u16.fits w.y_pixels) b.1 in
    record { rows = u16_below w.rows a.0; columns = u16_below w.columns b.0; x_pixels = u16_below w.x_pixels c.0; y_pixels = u16_below w.y_pixels c.1 }

no_work : (work : Option (Message ℕ)) → work ≡ None → IsWork work
no_work None e = tt
no_work (Some m) e = absurd cc

free_is : (s : PlainSlot) → is_free s ≡ true → s ≡ Free
free_is Free e = refl
free_is _ e = absurd cc

-- what is told of a module: it is good and at rest, and its words and its queues have their widths
record IsTold (p : Standing ℕ) : Type 0 where
  good : GoodModule p
  rests : IsAtRest p
  words : HasModuleNumbers p
  laid : AllByRecursion IsLaid (module_queues p)

none_there : {A : Type 0} (o : Option A) → not (is_some o) ≡ true → o ≡ None
none_there None e = refl
none_there (Some x) e = absurd cc

nothing_left : {A : Type 0} (xs : List A) → is_none_left xs ≡ true → xs ≡ []
nothing_left [] e = refl
nothing_left (x ∷ xs) e = absurd cc

between : (s : Stage ℕ) → is_between s ≡ true → s ≡ Between
between Between e = refl
between _ e = absurd cc

idle_told : (l : Ldterm ℕ) → ldterm_rests l ≡ true → Rests l
idle_told l rests =
    let a = and_parts (not (is_some l.in_work)) _ rests in
    let b = and_parts (is_none_left l.gathered) _ a.1 in
    let c = and_parts (not l.echoing) (is_between l.stage) b.1 in
    (none_there l.in_work a.0, nothing_left l.gathered b.0, not-true l.echoing c.0, between l.stage c.1)

-- what is told of a module by itself
record KindTold (x : Module ℕ) : Type 0 where
  good : GoodKind x
  rests : KindRests x
  words : HasKindNumbers x

ldterm_told : (l : Ldterm ℕ) → ldterm.fits l ≡ true → KindTold (OfLdterm l)
unfolding ldterm
ldterm_told l fits =
    let rests = and_parts (ldterm_rests l) _ fits in
    let set = and_parts (termios.fits l.termios) _ rests.1 in
    let stopped = and_parts (flag.fits l.stopped) _ set.1 in
    let after = and_parts (flag.fits l.after_lnext) _ stopped.1 in
    let column = and_parts ((only is_column u32).fits l.column) ((counted byte bytes_of).fits l.line) after.1 in
    let terminal = termios_told l.termios set.0 in
    let idle = idle_told l rests.0 in
    let short : length l.line < 256 = ltb-true (length l.line) 256 (bytes_count byte l.line column.1) in
    record {
      good = record {
        termios = terminal.0;
        column = leb-true l.column COLUMN_MAX (and_parts (u32.fits l.column) _ column.0).1;
        line = omega (arith, short);
        work = no_work l.in_work idle.0;
      };
      rests = idle;
      words = terminal.1;
    }

name_told : (name : ModuleName) → (only (may_stand Second) module_kind).fits name ≡ true → IsNumbered name
unfolding module_kind name_kind
name_told names.Ldterm fits = tt
name_told names.Ptem fits = tt
name_told names.Pckt fits = tt
name_told (names.Own n) fits = ltb-true n 256 (and_parts (byte.fits n) true fits).0

kind_told : (x : Module ℕ) → IsNumbered (kind_name x) → (kind_body (kind_name x)).fits x ≡ true → KindTold x
unfolding ptem settings
kind_told (OfLdterm l) low fits = ldterm_told l fits
kind_told (OfPtem p) low fits =
    let a = and_parts (termios.fits p.termios) (winsize.fits p.window) fits in
    let set = termios_told p.termios a.0 in
    record { good = set.0; rests = tt; words = (set.1, winsize_told p.window a.1) }
kind_told (OfPckt p) low fits = record { good = tt; rests = tt; words = tt }
kind_told (OfOwn o) low fits =
    let a = octets_parts (only are_settings u16) o.settings (and_parts (is_kind_of (names.Own o.number) (OfOwn o)) _ fits).1 in
    let few = and_parts (u16.fits (length o.settings)) (are_settings (length o.settings)) a.0 in
    record { good = record { number = low; few = leb-true (length o.settings) SETTINGS_MAX few.1; bytes = a.1 }; rests = tt; words = tt }

-- what is told of the queues of a module
record PairTold (x : Module ℕ) (own : Option (QueuePair ℕ)) (has : Bool) : Type 0 where
  there : is_some own ≡ has
  good : GoodPair own
  laid : AllByRecursion IsLaid (module_queues (stood x own))

pair_told : (x : Module ℕ) (own : Option (QueuePair ℕ)) (has : Bool) → (if_there has (pair Second)).fits own ≡ true → PairTold x own has
unfolding pair
pair_told x None false fits = record { there = refl; good = tt; laid = tt }
pair_told x None true fits = absurd cc
pair_told x (Some both) false fits = absurd cc
pair_told x (Some both) true fits =
    let a = and_parts ((queue Second queues.ModuleRead).fits both.read) ((queue Second queues.ModuleWrite).fits both.write) fits in
    let reads = queue_told queues.ModuleRead waits_there (λ k. refl) both.read a.0 in
    let writes = queue_told queues.ModuleWrite goes_out (λ k. refl) both.write a.1 in
    record { there = refl; good = (reads.0, writes.0); laid = (reads.1, (writes.1, tt)) }

module_told : (p : Standing ℕ) → (module_format Second).fits p ≡ true → IsTold p
unfolding module_format
module_told p fits =
    let a = and_parts ((only (may_stand Second) module_kind).fits (module_name p)) _ fits in
    let b = and_parts ((kind_body (module_name p)).fits p.part) ((if_there (have_queues (module_name p)) (pair Second)).fits p.queues) a.1 in
    let itself = kind_told p.part (name_told (module_name p) a.0) b.0 in
    let own = pair_told p.part p.queues (have_queues (module_name p)) b.1 in
    record { good = record { kind = itself.good; queues = own.good; has = own.there }; rests = itself.rests; words = itself.words; laid = own.laid }

-- A name stands among the first of others no more often than among all.
among_all : (name : ModuleName) (ns : List ModuleName) (at : ℕ) → times_there name ns at ≤ names_count name ns
unfolding names_count
among_all name [] at = omega (arith, nothing-there name at)
among_all name (n ∷ ns) zero = omega arith
among_all name (n ∷ ns) (suc at) = omega (arith, top-times name n ns at, top-times name n ns (length ns), among_all name ns at)

each_once : (ns : List ModuleName) → AreNew same_module [] ns → EachOnce ns
each_once ns new = record { once = λ name at. omega (arith, among_all name ns at, new_once same_module same_module-sound names_count is_names_count ns new name) }

-- modules of which each is told, and none has a name above
record AreTold (above : List ModuleName) (ps : List (Standing ℕ)) : Type 0 where
  new : AreNew same_module above (map module_name ps)
  each : AllByRecursion IsTold ps

none_told : (above : List ModuleName) → AreTold above []
unfolding AreNew
none_told above = record { new = tt; each = tt }

one_told : (above : List ModuleName) (p : Standing ℕ) (ps : List (Standing ℕ)) → (module_below Second above).fits p ≡ true → AreTold (next_names p above) ps → AreTold above (p ∷ ps)
unfolding module_below AreNew
one_told above p ps fits rest =
    let a = and_parts ((module_format Second).fits p) (not (has_name (module_name p) above)) fits in
    record { new = (not-true (has_name (module_name p) above) a.1, rest.new); each = (module_told p a.0, rest.each) }

-- what is told of the modules of a stream
record ModulesTold (ps : List (Standing ℕ)) : Type 0 where
  few : length ps ≤ MODULES
  once : EachOnce (map module_name ps)
  each : AllByRecursion IsTold ps

modules_told : (ps : List (Standing ℕ)) → (modules Second).fits ps ≡ true → ModulesTold ps
unfolding modules
modules_told ps fits =
    let a = counted_parts next_names (module_below Second) (only are_few byte) [] ps fits in
    let b = and_parts (byte.fits (length ps)) (are_few (length ps)) a.0 in
    let t = chain_holds next_names (module_below Second) AreTold none_told one_told [] ps a.1 in
    record { few = leb-true (length ps) MODULES b.1; once = each_once (map module_name ps) t.new; each = t.each }

-- ---- heads

signals_new : (before ns : List ℕ) → signals_behind before ns ≡ true → AreNew eqb before ns × AllByRecursion (λ n. is_signal n ≡ true) ns
unfolding AreNew
signals_new before [] fits = (tt, tt)
signals_new before (n ∷ ns) fits =
    let a = and_parts (is_signal n && not (has_signal n before)) (signals_behind (before ++ n ∷ []) ns) fits in
    let b = and_parts (is_signal n) (not (has_signal n before)) a.0 in
    let rest = signals_new (before ++ n ∷ []) ns a.1 in
    ((not-true (has_signal n before) b.1, rest.0), (b.0, rest.1))

signals_told : (ns : List ℕ) → signals.fits ns ≡ true → AreSignals ns
unfolding signals
signals_told ns fits =
    let a = and_parts _ (are_signals ns) fits in
    let new = signals_new [] ns a.1 in
    record { once = new_once eqb (λ n k e. eqb-true n k e) times (record { none = λ n. refl; more = λ n k ks. times-cons n k ks }) ns new.0; known = new.1 }

slot_told : (s : PlainSlot) → slot.fits s ≡ true → HasSlotNumbers s × (length (answer_bytes s) ≤ IOCTL_MAX)
unfolding slot slot_kind
slot_told Free fits = (tt, omega arith)
slot_told (Waiting number command) fits = let a = and_parts (u32.fits number) (u32.fits command) fits in ((u32_below number a.0, u32_below command a.1), omega arith)
slot_told (Answered number command acked error body) fits =
    let a = and_parts (u32.fits number) _ fits in
    let b = and_parts (u32.fits command) _ a.1 in
    let c = and_parts (flag.fits acked) _ b.1 in
    let d = and_parts (u32.fits error) _ c.1 in
    let e = and_parts (u32.fits (length body)) (is_answer (length body)) (bytes_count (only is_answer u32) body d.1) in
    ((u32_below number a.0, (u32_below command b.0, u32_below error d.0)), leb-true (length body) IOCTL_MAX e.1)

group_told : (b : Bool) (group : ℕ) → (group_if b).fits group ≡ true → group < 2 ^ 32
group_told true group fits = u32_below group (and_parts (u32.fits group) _ fits).0
group_told false group fits = let zero_is : group ≡ 0 = eqb-true group 0 (and_parts (eqb group 0) _ fits).0 in omega (arith, zero_is)

no_group : (master : Bool) (group : ℕ) → (not master || not (nat_lt 0 group)) ≡ true → master ≡ true → group ≡ 0
no_group true group may is = let low : group ≤ 0 = ltb-false 0 group (not-true (nat_lt 0 group) may) in omega (arith, low)
no_group false group may is = absurd cc

head_told : (side : Side) (x : HeadBits) → (head_bits (not (is_master side))).fits x ≡ true → (is_master side ≡ true → x.1.1 ≡ 0) × (x.1.1 < 2 ^ 32)
unfolding head_bits
head_told side x fits =
    let a = and_parts _ _ fits in
    let b = and_parts (bits.fits (bits_of x)) (may_have_group (not (is_master side)) (bits_of x)) a.0 in
    (no_group (is_master side) x.1.1 b.1, group_told (nat_lt 0 x.1.1) x.1.1 (and_parts _ _ a.1).1)

-- ---- streams

shut_told : (t : Stream ℕ) → is_quiet t ≡ true → is_open t.opened ≡ false → IsShut t
shut_told t quiet not_open = at (is_open t.opened) not_open quiet
  where
    at : (opened : Bool) → opened ≡ false → (opened || (is_none_left t.modules && (is_none_left t.head.signals && (is_free t.head.ioctl && is_none_left t.head.queue.messages)))) ≡ true → IsShut t
    at true e quiet = absurd cc
    at false e quiet =
        let a = and_parts (is_none_left t.modules) _ quiet in
        let b = and_parts (is_none_left t.head.signals) _ a.1 in
        let c = and_parts (is_free t.head.ioctl) (is_none_left t.head.queue.messages) b.1 in
        record { modules = nothing_left t.modules a.0; signals = nothing_left t.head.signals b.0; ioctl = free_is t.head.ioctl c.0; unread = nothing_left t.head.queue.messages c.1 }

-- what is told of the stream of a side
pub record StreamTold (side : Side) (t : Stream ℕ) : Type 0 where
  pub good : GoodStream side t
  pub within : IsWithin t.head
  pub rests : AllByRecursion (λ p. IsAtRest p) t.modules
  pub numbers : HasNumbers t
  pub laid : AllByRecursion IsLaid (stream_queues t)

pub stream_told : (side : Side) (t : Stream ℕ) → (laid Second (not (is_master side))).fits (laid_on t) ≡ true → is_quiet t ≡ true → StreamTold side t
unfolding laid
stream_told side t fits quiet =
    let reads = and_parts (read_mode.fits t.head.read_mode) _ fits in
    let controls = and_parts (control_mode.fits t.head.control_mode) _ reads.1 in
    let flagged = and_parts ((head_bits (not (is_master side))).fits (t.head.hung_up, (t.head.tostop, t.head.group))) _ controls.1 in
    let waiting = and_parts (signals.fits t.head.signals) _ flagged.1 in
    let under_way = and_parts (slot.fits t.head.ioctl) _ waiting.1 in
    let stands = and_parts ((modules Second).fits t.modules) _ under_way.1 in
    let both = and_parts ((queue Second queues.Head).fits t.head.queue) ((queue Second queues.Driver).fits t.driver.queue) stands.1 in
    let group = head_told side (t.head.hung_up, (t.head.tostop, t.head.group)) flagged.0 in
    let answer = slot_told t.head.ioctl under_way.0 in
    let on = modules_told t.modules stands.0 in
    let above = queue_told queues.Head is_part_kind (λ k. (with_parts k).0) t.head.queue both.0 in
    let below = queue_told queues.Driver stands_below (λ k. refl) t.driver.queue both.1 in
    let inner = all_flattened IsLaid module_queues t.modules (all_so IsTold (λ p. AllByRecursion IsLaid (module_queues p)) (λ p told. told.laid) t.modules on.each) in
    record {
      good = record {
        head = record { queue = above.0; group = group.0 };
        modules = record { each = all_so IsTold GoodModule (λ p told. told.good) t.modules on.each; few = on.few; once = on.once };
        driver = below.0;
        shut = shut_told t quiet;
      };
      within = record { signals = signals_told t.head.signals waiting.0; answer = answer.1 };
      rests = all_so IsTold (λ p. IsAtRest p) (λ p told. told.rests) t.modules on.each;
      numbers = record { group = group.1; ioctl = answer.0; modules = all_so IsTold HasModuleNumbers (λ p told. told.words) t.modules on.each };
      laid = (above.1, all_join IsLaid (queues_of_modules t.modules) (t.driver.queue ∷ []) inner (below.1, tt));
    }
