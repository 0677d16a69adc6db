-- The messages and the queues of a restorable state fit their formats.
use Rattle.strm_image.proofs.Prelude.{◌≡◌, ℕ, ◌<◌, ◌≤◌, Bool, true, false, not, ◌&&◌, ◌||◌, cond, eqb, leb, List, [], ◌∷◌, length, Option, None, Some}
use Rattle.strm_image.proofs.Prelude.{refl, sym, ap, ◌∙◌, arith, ◌^◌, is_some, and_from, eq-eqb, le-leb, lt-ltb, or_right}
use Rattle.strm_image.specs.Prelude.{MsgKind, Data, Proto, Sig, Ctl, Ioctl, Setopts, Iocack, Iocnak, Pcproto, Pcsig, Read, Flush, Stop, Start, Hangup}
use Rattle.strm_image.specs.Prelude.{Error, BANDS, HIGH_PRIORITY_RANK, is_data_kind, is_body_kind, is_control_kind, kind_number, Message}
use Rattle.strm_image.specs.Prelude.{is_high_priority, is_part, part, rank_of, Flow, IsOrdered, Queue, AreMarks, GoodMessage, GoodQueue, StandsOn}
use Rattle.strm_image.specs.Prelude.{has_header, is_part_kind}
use Rattle.std.specs.List.{AllByRecursion}
use Rattle.std.proofs.lemmas.Bool.{or_left}
use Rattle.strm_image.specs.declared.versions.QueueKind.{QueueKind}
use Rattle.strm_image.specs.declared.versions.Version.TheVariants.{Second}
use Rattle.strm_image.specs.Codes.{flag, kind}
use Rattle.strm_image.specs.Format.{u32}
use Rattle.strm_image.specs.HasImage.{IsLaid, IsShort}
use Rattle.strm_image.specs.Messages.{band_fits, is_ioctl_kind, message, message_behind, messages, next_rank, part as part_text, parts_fit, parts_with, stands_at, stands_with}
use Rattle.strm_image.specs.Queues.{flags, flags_code, flow, queue}
use Rattle.strm_image.proofs.Fitting.{all_both, bytes_fit, chain_fits, counted_fits, u32_fits}
use Rattle.strm_image.proofs.LaterRows.{AllFit, flows_fit}

pub flag_fits : (b : Bool) → flag.fits b ≡ true
unfolding flag
flag_fits false = refl
flag_fits true = refl

-- ---- messages

kind_fits : (k : MsgKind) → kind.fits k ≡ true
unfolding kind kind_number
kind_fits Data = refl
kind_fits Proto = refl
kind_fits Sig = refl
kind_fits Ctl = refl
kind_fits Ioctl = refl
kind_fits Setopts = refl
kind_fits Iocack = refl
kind_fits Iocnak = refl
kind_fits Pcproto = refl
kind_fits Pcsig = refl
kind_fits Read = refl
kind_fits Flush = refl
kind_fits Stop = refl
kind_fits Start = refl
kind_fits Hangup = refl
kind_fits Error = refl

-- what has cells has parts, and no header
pub with_parts : (k : MsgKind) → (is_part_kind k ≡ is_data_kind k) × ((is_data_kind k && has_header k ≡ false) × (is_ioctl_kind k ≡ has_header k))
unfolding is_data_kind is_control_kind is_body_kind
with_parts Data = (refl, (refl, refl))
with_parts Proto = (refl, (refl, refl))
with_parts Sig = (refl, (refl, refl))
with_parts Ctl = (refl, (refl, refl))
with_parts Ioctl = (refl, (refl, refl))
with_parts Setopts = (refl, (refl, refl))
with_parts Iocack = (refl, (refl, refl))
with_parts Iocnak = (refl, (refl, refl))
with_parts Pcproto = (refl, (refl, refl))
with_parts Pcsig = (refl, (refl, refl))
with_parts Read = (refl, (refl, refl))
with_parts Flush = (refl, (refl, refl))
with_parts Stop = (refl, (refl, refl))
with_parts Start = (refl, (refl, refl))
with_parts Hangup = (refl, (refl, refl))
with_parts Error = (refl, (refl, refl))

part_fits : (o : Option (List ℕ)) → length (part o) < 2 ^ 32 → part_text.fits o ≡ true
unfolding part_text
part_fits None short = and_from _ _ (and_from _ _ (flag_fits false) refl) refl
part_fits (Some bytes) short = and_from _ _ (and_from _ _ (flag_fits true) (bytes_fit u32 bytes (u32_fits (length bytes) short))) refl

control_is : (b : Bool) (o : Option (List ℕ)) → is_part o ≡ b → cond b (is_some o) (not (is_some o)) ≡ true
control_is true None e = absurd cc
control_is true (Some bytes) e = refl
control_is false None e = refl
control_is false (Some bytes) e = absurd cc

data_is : (control body : Bool) (o : Option (List ℕ)) → (control || body) ≡ true → (body ≡ true → is_part o ≡ true) → (control || is_some o) ≡ true
data_is true body o e there = refl
data_is false true None e there = absurd (let h = there refl in cc)
data_is false true (Some bytes) e there = refl
data_is false false o e there = absurd cc

neither : (control body : Bool) (a b : Option (List ℕ)) → (control || body) ≡ false → is_part a ≡ control → is_part b ≡ false → (not (is_some a) && not (is_some b)) ≡ true
neither true body a b e is none = absurd cc
neither false body None None e is none = refl
neither false body (Some bytes) b e is none = absurd cc
neither false body None (Some bytes) e is none = absurd cc

band_is : (high : Bool) (band : ℕ) → (high ≡ true → band ≡ 0) → (not high || eqb band 0) ≡ true
band_is true band zero = eq-eqb band 0 (zero refl)
band_is false band zero = refl

header_is : (header : Bool) (n : ℕ) → (header ≡ true → (16 ≤ n) × (n ≤ 272)) → (not header || (leb 16 n && leb n 272)) ≡ true
header_is true n within = let w = within refl in and_from _ _ (le-leb 16 n w.0) (le-leb n 272 w.1)
header_is false n within = refl

module _ (m : Message ℕ) (good : GoodMessage m) (short : IsShort m) where
  band_fit : band_fits Second m.kind m.band ≡ true
  band_fit = and_from _ _ (lt-ltb m.band BANDS good.band) (band_is (is_high_priority m.kind) m.band good.high)

  -- where its kind has cells or not
  with_cells : (cells : Bool) → is_data_kind m.kind ≡ cells → (stands_with cells m ≡ true) × ((part_text.fits (parts_with cells m).1.1.1 ≡ true) × (parts_fit Second (parts_with cells m) ≡ true))
  with_cells true is =
      let parted : is_part_kind m.kind ≡ true = (with_parts m.kind).0 ∙ is in
      let bare : has_header m.kind ≡ false = ap (λ b. b && has_header m.kind) (sym is) ∙ (with_parts m.kind).1.0 in
      let header : is_ioctl_kind m.kind ≡ false = (with_parts m.kind).1.1 ∙ bare in
      let none : length m.plain ≡ 0 = ap length (good.plain parted) in (
        eq-eqb _ _ none,
        (
          part_fits m.body short.body,
          and_from _ _ band_fit (and_from _ _ (control_is (is_control_kind m.kind) m.control good.control) (and_from _ _ (data_is (is_control_kind m.kind) (is_body_kind m.kind) m.body parted good.body)
              (or_left (not (is_ioctl_kind m.kind)) _ (ap not header)))),
        ),
      )
  with_cells false is =
      let bare : is_part_kind m.kind ≡ false = (with_parts m.kind).0 ∙ is in (
        neither (is_control_kind m.kind) (is_body_kind m.kind) m.control m.body bare good.control (good.bare bare),
        (
          part_fits (Some m.plain) short.plain,
          and_from _ _ band_fit (and_from _ _ (control_is (is_control_kind m.kind) m.control good.control) (and_from _ _ (or_right (is_control_kind m.kind) true refl)
              (header_is (is_ioctl_kind m.kind) (length m.plain) (λ e. good.header (sym (with_parts m.kind).1.1 ∙ e))))),
        ),
      )

  pub message_fits : (message Second).fits m ≡ true
  unfolding message
  message_fits =
      let w = with_cells (is_data_kind m.kind) refl in
      and_from _ _ w.0 (and_from _ _ (and_from _ _ (kind_fits m.kind) (and_from _ _ (lt-ltb m.band 256 good.band) (and_from _ _ (part_fits m.control short.control) w.1.0))) w.1.1)

-- ---- the messages of a queue

rank_low : (m : Message ℕ) → m.band < BANDS → rank_of m ≤ HIGH_PRIORITY_RANK
unfolding rank_of
rank_low m low = at (is_high_priority m.kind)
  where
    at : (high : Bool) → cond high HIGH_PRIORITY_RANK m.band ≤ HIGH_PRIORITY_RANK
    at true = omega arith
    at false = omega (arith, low)

-- a message that fits, of a kind that stands there
record IsFit (at : QueueKind) (m : Message ℕ) : Type 0 where
  fits : (message Second).fits m ≡ true
  stands : stands_at at m.kind ≡ true
  low : rank_of m ≤ HIGH_PRIORITY_RANK

-- messages in order, the first of at most a rank
record Follow (at : QueueKind) (rank : ℕ) (ms : List (Message ℕ)) : Type 0 where
  low : AllByRecursion (λ m. rank_of m ≤ rank) ms
  ordered : IsOrdered ms
  each : AllByRecursion (λ m. IsFit at m) ms

behind_fits : (at : QueueKind) (rank : ℕ) (m : Message ℕ) (ms : List (Message ℕ)) → Follow at rank (m ∷ ms) → ((message_behind Second at rank).fits m ≡ true) × Follow at (next_rank m rank) ms
unfolding message_behind
behind_fits at rank m ms f =
    (and_from _ _ f.each.0.fits (and_from _ _ f.each.0.stands (le-leb (rank_of m) rank f.low.0)), record { low = f.ordered.0; ordered = f.ordered.1; each = f.each.1 })

messages_fit : (at : QueueKind) (ms : List (Message ℕ)) → length ms < 2 ^ 32 → Follow at HIGH_PRIORITY_RANK ms → (messages Second at).fits ms ≡ true
unfolding messages
messages_fit at ms few f = counted_fits next_rank (message_behind Second at) u32 HIGH_PRIORITY_RANK ms (u32_fits (length ms) few) (chain_fits next_rank (message_behind Second at) (Follow at) (behind_fits at) HIGH_PRIORITY_RANK ms f)

all_low : (at : QueueKind) (ms : List (Message ℕ)) → AllByRecursion (λ m. IsFit at m) ms → AllByRecursion (λ m. rank_of m ≤ HIGH_PRIORITY_RANK) ms
all_low at [] all = tt
all_low at (m ∷ ms) all = (all.0.low, all_low at ms all.1)

-- ---- queues

flow_fits : (f : Flow) → AreMarks f → flow.fits f ≡ true
unfolding flow
flow_fits f marks =
    and_from _ _ (and_from _ _ (u32_fits f.high marks.bits) (and_from _ _ (u32_fits f.low (omega (arith, marks.order, marks.bits))) (flag_fits f.want_write)))
    (and_from _ _ (le-leb 1 f.high marks.some) (le-leb f.low f.high marks.order))

all_flows_fit : (fs : List Flow) → AllByRecursion AreMarks fs → AllFit fs
unfolding AllFit
all_flows_fit [] all = tt
all_flows_fit (f ∷ fs) all = (flow_fits f all.0, all_flows_fit fs all.1)

flags_fit : (reads off : Bool) → flags.fits (reads, off) ≡ true
unfolding flags flags_code
flags_fit false false = refl
flags_fit true false = refl
flags_fit false true = refl
flags_fit true true = refl

pub queue_fits : (at : QueueKind) (stands : MsgKind → Bool) → ((k : MsgKind) → stands k ≡ stands_at at k) → (q : Queue ℕ) → GoodQueue stands q → IsLaid q → (queue Second at).fits q ≡ true
unfolding queue
queue_fits at stands same q good laid =
    let one : (m : Message ℕ) → StandsOn stands m → IsShort m → IsFit at m = λ m on short. record { fits = message_fits m on.good short; stands = sym (same m.kind) ∙ on.kind; low = rank_low m on.good.band } in
    let each = all_both (λ m. StandsOn stands m) IsShort (λ m. IsFit at m) one q.messages good.messages laid.short.each in
    and_from _ _ (flags_fit q.want_read q.no_enable) (and_from _ _ (flows_fit at q.flows laid.banded (all_flows_fit q.flows good.marks))
    (messages_fit at q.messages laid.short.few (record { low = all_low at q.messages each; ordered = laid.ordered; each = each })))
