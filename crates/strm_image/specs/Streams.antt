-- The text of a stream: its head, its modules and its driver.
use Rattle.std.specs.Prelude.{ℕ, ◌+◌, Bool, true, false, not, ◌&&◌, ◌||◌, ◌==◌, nat_le, nat_lt, if◌then◌else◌, List, [], ◌∷◌, ◌++◌}
use Rattle.strm_image.specs.Prelude.{IOCTL_MAX, ControlMode, ReadMode, Free, Waiting, Answered, Head, Queue, is_signal, has_signal, PlainSlot}
use Rattle.strm_image.specs.Prelude.{Standing}
use Rattle.strm_image.specs.declared.versions.QueueKind.TheVariants as queues
use Rattle.strm_image.specs.declared.versions.SlotKind.{SlotKind}
use Rattle.strm_image.specs.declared.versions.SlotKind.TheVariants as slots
use Rattle.strm_image.specs.declared.versions.Version.{Version}
use Rattle.strm_image.specs.Codes.{flag, control_mode, read_mode}
use Rattle.strm_image.specs.Format.{Format, byte, u32, nothing, bytes_of, only, counted, ◌then◌, made, tagged, coded}
use Rattle.strm_image.specs.Messages.{any}
use Rattle.strm_image.specs.Modules.{modules}
use Rattle.strm_image.specs.Queues.{queue, same_bool}

-- ---- the signals that wait

-- whether these are signals, none of which stands among those before it
abbrev pub signals_behind : List ℕ → List ℕ → Bool
signals_behind before [] = true
signals_behind before (n ∷ ns) = (is_signal n && not (has_signal n before)) && signals_behind (before ++ n ∷ []) ns

abbrev pub are_signals : List ℕ → Bool
are_signals ns = signals_behind [] ns

unfoldable pub signals : Format (List ℕ)
signals = only are_signals (counted byte bytes_of)

-- ---- the ioctl that is under way

abbrev pub kind_of_slot : PlainSlot → SlotKind
kind_of_slot Free = slots.Free
kind_of_slot (Waiting number command) = slots.Waiting
kind_of_slot (Answered number command acked error body) = slots.Answered

abbrev pub slot_code : SlotKind → ℕ
slot_code slots.Free = 0
slot_code slots.Waiting = 1
slot_code slots.Answered = 2

unfoldable pub slot_kind : Format SlotKind
slot_kind = coded slot_code (slots.Free ∷ slots.Waiting ∷ slots.Answered ∷ [])

abbrev pub same_slot_kind : SlotKind → SlotKind → Bool
same_slot_kind slots.Free slots.Free = true
same_slot_kind slots.Waiting slots.Waiting = true
same_slot_kind slots.Answered slots.Answered = true
same_slot_kind _ _ = false

abbrev pub is_slot : SlotKind → PlainSlot → Bool
is_slot k s = same_slot_kind (kind_of_slot s) k

abbrev pub free_of : Unit {0} → PlainSlot
free_of x = Free

abbrev pub free_parts : PlainSlot → Unit {0}
free_parts s = tt

abbrev pub waiting_of : ℕ × ℕ → PlainSlot
waiting_of (number, command) = Waiting number command

abbrev pub waiting_parts : PlainSlot → ℕ × ℕ
waiting_parts (Waiting number command) = (number, command)
waiting_parts _ = (0, 0)

abbrev pub AnsweredParts : Type 0
AnsweredParts = ℕ × (ℕ × (Bool × (ℕ × List ℕ)))

abbrev pub answered_of : AnsweredParts → PlainSlot
answered_of (number, (command, (acked, (error, body)))) = Answered number command acked error body

abbrev pub answered_parts : PlainSlot → AnsweredParts
answered_parts (Answered number command acked error body) = (number, (command, (acked, (error, body))))
answered_parts _ = (0, (0, (false, (0, []))))

abbrev pub is_answer : ℕ → Bool
is_answer n = nat_le n IOCTL_MAX

abbrev pub slot_body : SlotKind → Format PlainSlot
slot_body slots.Free = made (is_slot slots.Free) free_of free_parts (nothing tt)
slot_body slots.Waiting = made (is_slot slots.Waiting) waiting_of waiting_parts (u32 then u32)
slot_body slots.Answered = made (is_slot slots.Answered) answered_of answered_parts (u32 then (u32 then (flag then (u32 then counted (only is_answer u32) bytes_of))))

unfoldable pub slot : Format PlainSlot
slot = tagged kind_of_slot slot_kind slot_body

-- ---- the flags of a head, with a foreground group where there is one

-- whether an M_HANGUP came, whether TOSTOP is set, and whether a group follows
abbrev pub Bits : Type 0
Bits = Bool × (Bool × Bool)

unfoldable pub bits_code : Bits → ℕ
bits_code (hung, (stops, group)) = (if hung then 1 else 0) + ((if stops then 2 else 0) + (if group then 4 else 0))

abbrev pub all_bits : List Bits
all_bits = (false, (false, false)) ∷ (true, (false, false)) ∷ (false, (true, false)) ∷ (true, (true, false))
    ∷ (false, (false, true)) ∷ (true, (false, true)) ∷ (false, (true, true)) ∷ (true, (true, true)) ∷ []

-- the same with the group, which is 0 where there is none
abbrev pub HeadBits : Type 0
HeadBits = Bool × (Bool × ℕ)

abbrev pub bits_of : HeadBits → Bits
bits_of (hung, (stops, group)) = (hung, (stops, nat_lt 0 group))

abbrev pub same_bits : Bits → HeadBits → Bool
same_bits b x = same_bool x.0 b.0 && (same_bool x.1.0 b.1.0 && same_bool (nat_lt 0 x.1.1) b.1.1)

abbrev pub with_bits : Bits → ℕ → HeadBits
with_bits b group = (b.0, (b.1.0, group))

abbrev pub group_of : HeadBits → ℕ
group_of x = x.1.1

abbrev pub is_group : ℕ → Bool
is_group n = nat_lt 0 n

abbrev pub is_none : ℕ → Bool
is_none group = group == 0

abbrev pub no_group : Unit {0} → ℕ
no_group x = 0

abbrev pub no_parts : ℕ → Unit {0}
no_parts x = tt

-- the group, where it follows: a number above 0
abbrev pub group_if : Bool → Format ℕ
group_if true = only is_group u32
group_if false = made is_none no_group no_parts (nothing tt)

abbrev pub behind_bits : Bits → Format HeadBits
behind_bits b = made (same_bits b) (with_bits b) group_of (group_if b.1.1)

-- a group may follow on the slave's stream alone
abbrev pub may_have_group : Bool → Bits → Bool
may_have_group is_slave b = is_slave || not b.1.1

unfoldable pub bits : Format Bits
bits = coded bits_code all_bits

unfoldable pub head_bits : Bool → Format HeadBits
head_bits is_slave = tagged bits_of (only (may_have_group is_slave) bits) behind_bits

-- ---- streams

-- a stream, whether open or not
pub record Laid : Type 0 where
  pub head : Head ℕ
  pub modules : List (Standing ℕ)
  pub driver : Queue ℕ

abbrev pub LaidParts : Type 0
LaidParts = ReadMode × (ControlMode × (HeadBits × (List ℕ × (PlainSlot × (List (Standing ℕ) × (Queue ℕ × Queue ℕ))))))

abbrev pub laid_of : LaidParts → Laid
laid_of (reads, (controls, (flagged, (ns, (under_way, (ms, (heads, drivers))))))) = record {
  head = record {
    queue = heads;
    read_mode = reads;
    control_mode = controls;
    tostop = flagged.1.0;
    group = flagged.1.1;
    hung_up = flagged.0;
    signals = ns;
    ioctl = under_way;
  };
  modules = ms;
  driver = drivers;
}

abbrev pub laid_parts : Laid → LaidParts
laid_parts t = (t.head.read_mode, (t.head.control_mode, ((t.head.hung_up, (t.head.tostop, t.head.group)), (t.head.signals, (t.head.ioctl, (t.modules, (t.head.queue, t.driver)))))))

unfoldable pub laid : Version → Bool → Format Laid
laid v is_slave = made any laid_of laid_parts
    (read_mode then (control_mode then (head_bits is_slave then (signals then (slot then (modules v then (queue v queues.Head then queue v queues.Driver)))))))
