-- How long the texts of version 2 are at most.
use Rattle.strm_image.proofs.Prelude.{◌≡◌, ℕ, ◌≤◌, ◌+◌, ◌*◌, Bool, true, false, not, cond, List, [], ◌∷◌, ◌++◌, length, Option, None, Some, refl}
use Rattle.strm_image.proofs.Prelude.{sym, arith, nat_lt, length-append, flat_map-cons, sum_by-append, sum_by-cons, signals-fit}
use Rattle.strm_image.specs.Prelude.{BANDS, BLOCK_SIZE, HIGH_PRIORITY_RANK, IOCTL_MAX, MODULES, SETTINGS_MAX, SIGNAL_LAST, ModuleName, Openness, Place}
use Rattle.strm_image.specs.Prelude.{Side, Master, Slave}
use Rattle.strm_image.specs.Prelude.{QueueName, RULES, Free, Waiting, Answered, Termios, Winsize, is_data_kind, QueuePair}
use Rattle.strm_image.specs.Prelude.{stood, Message, cells_of, part, size_of, is_master, Flow, Queue, bytes_of, AreSignals}
use Rattle.strm_image.specs.Prelude.{PlainSlot}
use Rattle.strm_image.specs.Prelude.{answer_bytes, GoodKind, GoodModule, GoodModules, GoodStream, IsWhole, Module, OfLdterm, OfPtem}
use Rattle.strm_image.specs.Prelude.{OfOwn, OfPckt, Standing, kind_name}
use Rattle.strm_image.specs.Prelude.{module_name, module_queues, queues_of_modules, Stream, messages_in, queues_of, stream, stream_queues, IsWithin}
use Rattle.std.specs.List.{AllByRecursion, sum_by}
use Rattle.std.proofs.Math.Nat.{suc-mul, zero-mul}
use Rattle.strm_types.specs.declared.keys.TheConstants.{LINE_MAX}
use Rattle.strm_types.specs.declared.names.ModuleName.TheVariants as names
use Rattle.strm_types.specs.declared.names.Place.TheVariants as places
use Rattle.strm_laws.proofs.EnabledFew.{restorable-few}
use Rattle.strm_image.specs.declared.lengths.TheConstants.{IMAGE_BLOCK, IMAGE_FIXED, MESSAGE_FIXED, MODULE_FIXED, QUEUE_FIXED, STREAM_FIXED}
use Rattle.strm_image.specs.declared.versions.QueueKind.{QueueKind}
use Rattle.strm_image.specs.declared.versions.QueueKind.TheVariants as queues
use Rattle.strm_image.specs.declared.versions.Version.TheVariants.{Second}
use Rattle.strm_image.specs.Codes.{control_mode, flag, kind, module_kind, name_kind, openness, place, place_kind, read_mode, side, version, way}
use Rattle.strm_image.specs.Format.{Format, always, byte, keep, text_from, text_there, u16, u32, u64}
use Rattle.strm_image.specs.HasImage.{HasImage, bytes_in}
use Rattle.strm_image.specs.Image.{Account, Imaged, account, body, enabled, enabled_behind, image, laid_on, mark, next_enabled, queue_name, rule_counts}
use Rattle.strm_image.specs.Messages.{message, message_behind, messages, next_rank, part as part_text, parts_with}
use Rattle.strm_image.specs.Modules.{kind_body, ldterm, module_below, module_format, modules, next_names, pair, ptem, settings, termios, winsize}
use Rattle.strm_image.specs.Queues.{first_flow, flags, flow, flows, list_out, listed_behind, next_band, queue}
use Rattle.strm_image.specs.Streams.{HeadBits, bits, bits_of, group_if, head_bits, laid, signals, slot, slot_kind}
use Rattle.strm_image.proofs.Fitting.{all_back, all_flat, all_front}
use Rattle.strm_image.proofs.LaterRows.{listed_few}

-- a text of at most so many bytes
pub record AtMost (n : ℕ) (bytes : List ℕ) : Type 0 where
  pub few : length bytes ≤ n

short : (n : ℕ) (bytes : List ℕ) → length bytes ≤ n → AtMost n bytes
short n bytes le = record { few = le }

-- one behind the other
behind : {a b : List ℕ} {m n : ℕ} → AtMost m a → AtMost n b → AtMost (m + n) (a ++ b)
behind {a} {b} p q = record { few = omega (arith, length-append a b, p.few, q.few) }

within : {bytes : List ℕ} {m n : ℕ} → AtMost m bytes → m ≤ n → AtMost n bytes
within p q = record { few = omega (arith, p.few, q) }

-- ---- lists

all_of : {A : Type 0} (P : A → Type 0) → ((x : A) → P x) → (xs : List A) → AllByRecursion P xs
all_of P p [] = tt
all_of P p (x ∷ xs) = (p x, all_of P p xs)

alike : {A : Type 0} (n : ℕ) (xs : List A) → sum_by (λ x. n) xs ≡ length xs * n
alike n [] = sym (zero-mul n)
alike n (x ∷ xs) = rw (sum_by-cons (λ y. n) x xs, alike n xs) (omega (arith, suc-mul (length xs) n))

module _ {A S : Type 0} (next : A → S → S) (f : S → Format A) where
  -- Each value has a text of at most so many bytes, whatever the state.
  IsWeighed : (A → ℕ) → A → Type 0
  IsWeighed weigh x = (s : S) → AtMost (weigh x) ((f s).text x)

  texts : (weigh : A → ℕ) (xs : List A) → AllByRecursion (IsWeighed weigh) xs → (s : S) → AtMost (sum_by weigh xs) (text_from next f s xs)
  unfolding IsWeighed
  texts weigh [] each s = short _ [] (omega arith)
  texts weigh (x ∷ xs) each s = rw (sum_by-cons weigh x xs) (behind (each.0 s) (texts weigh xs each.1 (next x s)))

  all_texts : (weigh : A → ℕ) → ((s : S) (x : A) → AtMost (weigh x) ((f s).text x)) → (xs : List A) (s : S) → AtMost (sum_by weigh xs) (text_from next f s xs)
  unfolding IsWeighed
  all_texts weigh each xs s = texts weigh xs (all_of (IsWeighed weigh) (λ x s. each s x) xs) s

  -- where each has so many
  alike_texts : (n : ℕ) → ((s : S) (x : A) → AtMost n ((f s).text x)) → (xs : List A) (s : S) → AtMost (length xs * n) (text_from next f s xs)
  alike_texts n each xs s = rw (← alike n xs) (all_texts (λ x. n) each xs s)

-- ---- queues

part_length : (o : Option (List ℕ)) → length (part_text.text o) ≡ 5 + length (part o)
unfolding part_text flag
part_length None = refl
part_length (Some bytes) = omega arith

message_length : (m : Message ℕ) → AtMost (MESSAGE_FIXED + size_of m) ((message Second).text m)
unfolding message kind size_of cells_of
message_length m =
    let body = (parts_with (is_data_kind m.kind) m).1.1.1 in
    let parts : length (part_text.text m.control ++ part_text.text body) ≤ 10 + (length (part m.control) + length (part body)) = omega (arith, length-append (part_text.text m.control) (part_text.text body), part_length m.control, part_length body) in
    let one : length (part body) ≤ length (part m.body) + length m.plain = at (is_data_kind m.kind) in
    short _ _ (omega (arith, parts, one, length-append (part m.control) (part m.body)))
  where
    at : (cells : Bool) → length (part (cond cells m.body (Some m.plain))) ≤ length (part m.body) + length m.plain
    at true = omega arith
    at false = omega arith

weighed : (ms : List (Message ℕ)) → sum_by (λ m. MESSAGE_FIXED + size_of m) ms ≡ MESSAGE_FIXED * length ms + bytes_of ms
weighed [] = omega arith
weighed (m ∷ ms) = omega (arith, sum_by-cons (λ x. MESSAGE_FIXED + size_of x) m ms, sum_by-cons size_of m ms, weighed ms)

messages_length : (at : QueueKind) (ms : List (Message ℕ)) → AtMost (4 + (MESSAGE_FIXED * length ms + bytes_of ms)) ((messages Second at).text ms)
unfolding messages message_behind
messages_length at ms =
    behind (short 4 (u32.text (length ms)) (omega arith)) (rw (← weighed ms) (all_texts next_rank (message_behind Second at) (λ m. MESSAGE_FIXED + size_of m) (λ s m. message_length m) ms HIGH_PRIORITY_RANK))

entry_length : (first : Flow) (from : ℕ) (e : ℕ × Flow) → AtMost 10 ((listed_behind first from).text e)
unfolding listed_behind flow flag
entry_length first from e = short 10 _ (omega arith)

flows_length : (at : QueueKind) (fs : List Flow) → length fs ≡ BANDS → AtMost (2 + 10 * BANDS) ((flows Second at).text fs)
unfolding flows
flows_length at fs banded =
    let es = list_out at fs in
    behind {n = 10 * BANDS} (short 2 (u16.text (length es)) (omega arith)) (within (alike_texts next_band (listed_behind (first_flow at)) 10 (entry_length (first_flow at)) es 0) (omega (arith, listed_few (first_flow at) 0 fs, banded)))

HasBands : Queue ℕ → Type 0
HasBands q = length q.flows ≡ BANDS

-- what the messages of a queue take
load : Queue ℕ → ℕ
load q = MESSAGE_FIXED * length q.messages + bytes_of q.messages

queue_length : (at : QueueKind) (q : Queue ℕ) → HasBands q → AtMost (QUEUE_FIXED + load q) ((queue Second at).text q)
unfolding queue flags load HasBands
queue_length at q banded = within (behind (short 1 (flags.text (q.want_read, q.no_enable)) (omega arith)) (behind (flows_length at q.flows banded) (messages_length at q.messages))) (omega arith)

-- ---- modules

termios_length : (t : Termios) → IsWhole t → AtMost 35 (termios.text t)
unfolding termios
termios_length t whole = short 35 _ (omega (arith, whole))

winsize_length : (w : Winsize) → AtMost 8 (winsize.text w)
unfolding winsize
winsize_length w = short 8 _ (omega arith)

flag_length : (b : Bool) → AtMost 1 (flag.text b)
unfolding flag
flag_length b = short 1 _ (omega arith)

-- what a module takes by itself, behind its kind
kind_length : (x : Module ℕ) → GoodKind x → AtMost (2 + SETTINGS_MAX) ((kind_body (kind_name x)).text x)
unfolding ldterm ptem settings
kind_length (OfLdterm l) good =
    let line = behind (short 1 (byte.text (length l.line)) (omega arith)) (short LINE_MAX l.line good.line) in
    within (behind (termios_length l.termios good.termios) (behind (flag_length l.stopped) (behind (flag_length l.after_lnext) (behind (short 4 (u32.text l.column) (omega arith)) line)))) (omega arith)
kind_length (OfPtem p) good = within (behind (termios_length p.termios good) (winsize_length p.window)) (omega arith)
kind_length (OfPckt p) good = short _ [] (omega arith)
kind_length (OfOwn o) good = behind (short 2 (u16.text (length o.settings)) (omega arith)) (short SETTINGS_MAX o.settings good.few)

name_length : (name : ModuleName) → AtMost 2 (module_kind.text name)
unfolding module_kind name_kind
name_length names.Ldterm = short 2 _ (omega arith)
name_length names.Ptem = short 2 _ (omega arith)
name_length names.Pckt = short 2 _ (omega arith)
name_length (names.Own n) = short 2 _ (omega arith)

pair_length : (x : Module ℕ) (own : Option (QueuePair ℕ)) → AllByRecursion HasBands (module_queues (stood x own))
    → AtMost (2 * QUEUE_FIXED + sum_by load (module_queues (stood x own))) (text_there (pair Second) own)
unfolding pair
pair_length x None banded = short _ [] (omega arith)
pair_length x (Some both) banded =
    within (behind (queue_length queues.ModuleRead both.read banded.0) (queue_length queues.ModuleWrite both.write banded.1.0))
    (omega (arith, sum_by-cons load both.read (both.write ∷ []), sum_by-cons load both.write []))

weigh : Standing ℕ → ℕ
weigh p = MODULE_FIXED + sum_by load (module_queues p)

module_length : (p : Standing ℕ) → GoodModule p → AllByRecursion HasBands (module_queues p) → AtMost (weigh p) ((module_format Second).text p)
unfolding module_format weigh
module_length p good banded =
    within (behind (name_length (module_name p)) (behind (kind_length p.part good.kind) (pair_length p.part p.queues banded))) (omega arith)

each_length : (ps : List (Standing ℕ)) → AllByRecursion GoodModule ps → AllByRecursion (λ p. AllByRecursion HasBands (module_queues p)) ps → AllByRecursion (IsWeighed next_names (module_below Second) weigh) ps
unfolding module_below IsWeighed
each_length [] good banded = tt
each_length (p ∷ ps) good banded = (λ above. module_length p good.0 banded.0, each_length ps good.1 banded.1)

modules_weigh : (ps : List (Standing ℕ)) → sum_by weigh ps ≡ MODULE_FIXED * length ps + sum_by load (queues_of_modules ps)
modules_weigh [] = omega arith
modules_weigh (p ∷ ps) =
    let one : weigh p ≡ MODULE_FIXED + sum_by load (module_queues p) = unfold weigh in refl in
    let split : sum_by load (queues_of_modules (p ∷ ps)) ≡ sum_by load (module_queues p) + sum_by load (queues_of_modules ps) = rw (flat_map-cons module_queues p ps) (sum_by-append load (module_queues p) (queues_of_modules ps)) in
    omega (arith, sum_by-cons weigh p ps, one, split, modules_weigh ps)

modules_length : (ps : List (Standing ℕ)) → GoodModules ps → AllByRecursion (λ p. AllByRecursion HasBands (module_queues p)) ps
    → AtMost (1 + MODULES * MODULE_FIXED + sum_by load (queues_of_modules ps)) ((modules Second).text ps)
unfolding modules
modules_length ps good banded =
    let each = texts next_names (module_below Second) weigh ps (each_length ps good.each banded) [] in
    within (behind (short 1 (byte.text (length ps)) (omega arith)) each) (omega (arith, modules_weigh ps, good.few))

-- ---- streams

signals_length : (ns : List ℕ) → AreSignals ns → AtMost 32 (signals.text ns)
unfolding signals
signals_length ns are = behind (short 1 (byte.text (length ns)) (omega arith)) (short SIGNAL_LAST ns (signals-fit ns are))

slot_length : (s : PlainSlot) → length (answer_bytes s) ≤ IOCTL_MAX → AtMost 274 (slot.text s)
unfolding slot slot_kind flag
slot_length Free few = short _ _ (omega arith)
slot_length (Waiting number command) few = short _ _ (omega arith)
slot_length (Answered number command acked error body) few = short _ _ (omega (arith, few))

group_length : (b : Bool) (group : ℕ) → AtMost 4 ((group_if b).text group)
group_length true group = short _ _ (omega arith)
group_length false group = short _ _ (omega arith)

head_length : (is_slave : Bool) (x : HeadBits) → AtMost 5 ((head_bits is_slave).text x)
unfolding head_bits bits
head_length is_slave x = behind (short 1 (bits.text (bits_of x)) (omega arith)) (group_length (nat_lt 0 x.1.1) x.1.1)

laid_length : (side : Side) (t : Stream ℕ) → GoodStream side t → IsWithin t.head → AllByRecursion HasBands (stream_queues t) → AtMost (STREAM_FIXED + sum_by load (stream_queues t)) ((laid Second (not (is_master side))).text (laid_on t))
unfolding laid read_mode control_mode
laid_length side t good heads banded =
    let inner = queues_of_modules t.modules in
    let last = t.driver.queue ∷ [] in
    let of_modules = all_flat HasBands module_queues t.modules (all_front HasBands inner last banded.1) in
    let below = all_back HasBands inner last banded.1 in
    let modes = short 1 (read_mode.text t.head.read_mode) (omega arith) in
    let controls = short 1 (control_mode.text t.head.control_mode) (omega arith) in
    let above = head_length (not (is_master side)) (t.head.hung_up, (t.head.tostop, t.head.group)) in
    let two = behind (queue_length queues.Head t.head.queue banded.0) (queue_length queues.Driver t.driver.queue below.0) in
    within (behind modes (behind controls (behind above (behind (signals_length t.head.signals heads.signals) (behind (slot_length t.head.ioctl heads.answer) (behind (modules_length t.modules good.modules of_modules) two))))))
    (omega (arith, sum_by-cons load t.head.queue (inner ++ last), sum_by-append load inner last, sum_by-cons load t.driver.queue []))

-- ---- images

place_length : (p : Place) → AtMost 2 (place.text p)
unfolding place place_kind
place_length places.Head = short 2 _ (omega arith)
place_length (places.Module names.Ldterm) = short 2 _ (omega arith)
place_length (places.Module names.Ptem) = short 2 _ (omega arith)
place_length (places.Module names.Pckt) = short 2 _ (omega arith)
place_length (places.Module (names.Own n)) = short 2 _ (omega arith)
place_length places.Driver = short 2 _ (omega arith)

queue_name_length : (before : List QueueName) (n : QueueName) → AtMost 4 ((enabled_behind before).text n)
unfolding enabled_behind queue_name side way
queue_name_length before n = behind (short 1 (side.text n.side) (omega arith)) (behind (place_length n.place) (short 1 (way.text n.way) (omega arith)))

enabled_length : (ns : List QueueName) → length ns ≤ 14 → AtMost 57 (enabled.text ns)
unfolding enabled
enabled_length ns few = within (behind (short 1 (byte.text (length ns)) (omega arith)) (alike_texts next_enabled enabled_behind 4 queue_name_length ns [])) (omega (arith, few))

account_length : (a : Account) → length a.fates ≡ RULES → AtMost 184 (account.text a)
unfolding account rule_counts
account_length a rules =
    let counts = alike_texts keep (always u64) 8 (λ s n. short 8 (u64.text n) (omega arith)) a.fates tt in
    within (behind (short 8 (u64.text a.book.written) (omega arith)) (behind (short 8 (u64.text a.book.made) (omega arith)) counts)) (omega (arith, rules))

openness_length : (o : Openness) → AtMost 1 (openness.text o)
unfolding openness
openness_length o = short 1 _ (omega arith)

loads : (qs : List (Queue ℕ)) → sum_by load qs ≡ MESSAGE_FIXED * sum_by (λ q. length q.messages) qs + sum_by (λ q. bytes_of q.messages) qs
loads [] = omega arith
loads (q ∷ qs) =
    let one : load q ≡ MESSAGE_FIXED * length q.messages + bytes_of q.messages = unfold load in refl in
    omega (arith, one, loads qs, sum_by-cons load q qs, sum_by-cons (λ (p : Queue ℕ). length p.messages) q qs, sum_by-cons (λ (p : Queue ℕ). bytes_of p.messages) q qs)

body_length : (x : Imaged) → HasImage x → AtMost (432 + 2 * STREAM_FIXED + sum_by load (queues_of x.state)) ((body Second).text x)
unfolding body HasBands
body_length x h =
    let s = x.state in
    let r = h.restorable in
    let of_master = stream_queues (stream Master s) in
    let of_slave = stream_queues (stream Slave s) in
    let master = laid_length Master s.ends.master (r.streams Master) (r.heads Master) (all_front HasBands of_master of_slave h.banded) in
    let slave = laid_length Slave s.ends.slave (r.streams Slave) (r.heads Slave) (all_back HasBands of_master of_slave h.banded) in
    let ledgers = behind (account_length (record { book = s.books.master; fates = x.fates.master }) (h.gone Master).all) (account_length (record { book = s.books.slave; fates = x.fates.slave }) (h.gone Slave).all) in
    within (behind (openness_length s.ends.master.opened) (behind (openness_length s.ends.slave.opened) (behind (flag_length s.locked) (behind (short 4 (u32.text s.next_ioctl) (omega arith)) (behind master (behind slave (behind (enabled_length s.enabled (restorable-few s r)) ledgers)))))))
    (omega (arith, sum_by-append load of_master of_slave))

pub image_length : (x : Imaged) → HasImage x → length (image.text (Second, x)) ≤ IMAGE_FIXED + (MESSAGE_FIXED * messages_in x.state + bytes_in x.state)
unfolding image version
image_length x h =
    let all : AtMost (IMAGE_FIXED + (MESSAGE_FIXED * messages_in x.state + bytes_in x.state)) (image.text (Second, x)) = within (behind (short 4 mark (omega arith)) (behind (short 1 (version.text Second) (omega arith)) (body_length x h))) (omega (arith, loads (queues_of x.state))) in
    all.few

pub image_length_in : (x : Imaged) (blocks : ℕ) → HasImage x → messages_in x.state ≤ blocks → bytes_in x.state ≤ BLOCK_SIZE * blocks → length (image.text (Second, x)) ≤ IMAGE_FIXED + IMAGE_BLOCK * blocks
image_length_in x blocks h few small = let all = image_length x h in omega (arith, all, few, small)

-- as docs/IMAGES.md has them
pub sizes-in-numbers : IMAGE_FIXED ∷ MESSAGE_FIXED ∷ IMAGE_BLOCK ∷ [] ≡ 44081 ∷ 12 ∷ 268 ∷ []
sizes-in-numbers = refl
