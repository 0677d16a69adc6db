-- The messages and the queues that fit their formats are good, and have their widths: the other way round of FitQueues.
use Rattle.strm_image.proofs.Prelude.{◌≡◌, ℕ, suc, ◌<◌, ◌≤◌, ◌+◌, Bool, true, false, not, ◌&&◌, ◌||◌, cond, eqb, leb, List, [], ◌∷◌, length, Option}
use Rattle.strm_image.proofs.Prelude.{None, Some, refl, sym, ap, subst, ltb, ◌∙◌, arith, ◌^◌, is_some, and_parts, eqb-true, leb-true, ltb-true}
use Rattle.strm_image.proofs.Prelude.{or_right}
use Rattle.strm_image.specs.Prelude.{MsgKind, Data, Setopts, BANDS, HIGH_PRIORITY_RANK, crosses, is_data_kind, is_body_kind, is_control_kind, Message}
use Rattle.strm_image.specs.Prelude.{is_high_priority, is_part, part, rank_of, Flow, IsOrdered, Queue, AreMarks, GoodMessage, GoodQueue, StandsOn}
use Rattle.strm_image.specs.Prelude.{has_header, is_part_kind}
use Rattle.std.specs.List.{AllByRecursion}
use Rattle.strm_laws.specs.GoodMessages.{sets_options}
use Rattle.strm_image.specs.declared.versions.QueueKind.{QueueKind}
use Rattle.strm_image.specs.declared.versions.QueueKind.TheVariants as queues
use Rattle.strm_image.specs.declared.versions.Version.TheVariants.{Second}
use Rattle.strm_image.specs.Codes.{kind}
use Rattle.strm_image.specs.Format.{byte, fit_from, u32}
use Rattle.strm_image.specs.HasImage.{IsLaid, IsShort}
use Rattle.strm_image.specs.Messages.{band_fits, bytes_in, control_fits, data_fits, ioctl_fits, is_ioctl_kind, is_message, message, message_behind, message_parts, messages, next_rank, part as part_text, parts_fit, parts_with, stands_at, stands_with}
use Rattle.strm_image.specs.Queues.{entries, first_flow, flags, flow, flows, list_out, listed, listed_behind, next_band, queue, same_flow}
use Rattle.strm_image.proofs.BandRows.{same_flow_is}
use Rattle.strm_image.proofs.FitQueues.{with_parts}
use Rattle.strm_image.proofs.Fitted.{all_so, chain_holds, counted_parts, u32_below}

-- ---- messages

part_short : (o : Option (List ℕ)) → part_text.fits o ≡ true → length (part o) < 2 ^ 32
unfolding part_text
part_short None fits = omega arith
part_short (Some bytes) fits = u32_below (length bytes) (and_parts _ _ (and_parts _ _ (and_parts _ _ fits).0).1).0

none_left : (xs : List ℕ) → length xs ≡ 0 → xs ≡ []
none_left [] none = refl
none_left (x ∷ xs) none = absurd (omega (arith, none))

is_there : (b : Bool) (o : Option (List ℕ)) → cond b (is_some o) (not (is_some o)) ≡ true → is_part o ≡ b
is_there true None e = absurd cc
is_there true (Some bytes) e = refl
is_there false None e = refl
is_there false (Some bytes) e = absurd cc

data_there : (control : Bool) (o : Option (List ℕ)) → control ≡ false → (control || is_some o) ≡ true → is_part o ≡ true
data_there true o apart e = absurd cc
data_there false None apart e = absurd cc
data_there false (Some bytes) apart e = refl

is_absent : (o : Option (List ℕ)) → not (is_some o) ≡ true → o ≡ None
is_absent None e = refl
is_absent (Some bytes) e = absurd cc

band_zero : (high : Bool) (band : ℕ) → (not high || eqb band 0) ≡ true → high ≡ true → band ≡ 0
band_zero true band e is = eqb-true band 0 e
band_zero false band e is = absurd cc

header_within : (header : Bool) (n : ℕ) → (not header || (leb 16 n && leb n 272)) ≡ true → header ≡ true → (16 ≤ n) × (n ≤ 272)
header_within true n e is = let a = and_parts (leb 16 n) (leb n 272) e in (leb-true 16 n a.0, leb-true n 272 a.1)
header_within false n e is = absurd cc

-- what has a data part has no control part, where it needs none
apart : (k : MsgKind) → is_body_kind k ≡ true → is_control_kind k ≡ false
unfolding is_body_kind is_control_kind
apart Data is = refl
apart _ is = absurd cc

-- no M_SETOPTS stands on a queue
setopts_nowhere : (at : QueueKind) → stands_at at Setopts ≡ false
unfolding is_data_kind crosses
setopts_nowhere queues.Head = refl
setopts_nowhere queues.ModuleRead = refl
setopts_nowhere queues.ModuleWrite = refl
setopts_nowhere queues.Driver = refl

no_options : (at : QueueKind) (k : MsgKind) → stands_at at k ≡ true → sets_options k ≡ false
no_options at Setopts stands = let nowhere = setopts_nowhere at in absurd cc
no_options at _ stands = refl

-- what its format tells of a message, whose kind has cells or not
record Told (cells : Bool) (m : Message ℕ) : Type 0 where
  stands : stands_with cells m ≡ true
  control : part_text.fits m.control ≡ true
  body : part_text.fits (parts_with cells m).1.1.1 ≡ true
  band : band_fits Second m.kind m.band ≡ true
  has_control : control_fits m.kind m.control ≡ true
  has_data : data_fits m.kind (parts_with cells m).1.1.1 ≡ true
  header : ioctl_fits m.kind (length (bytes_in (parts_with cells m).1.1.1)) ≡ true

told : (m : Message ℕ) → (message Second).fits m ≡ true → Told (is_data_kind m.kind) m
unfolding message
told m fits =
    let a = and_parts (is_message m) _ fits in
    let b = and_parts _ (parts_fit Second (message_parts m)) a.1 in
    let parts = and_parts (part_text.fits m.control) _ (and_parts (byte.fits m.band) _ (and_parts (kind.fits m.kind) _ b.0).1).1 in
    let c = and_parts (band_fits Second m.kind m.band) _ b.1 in
    let d = and_parts (control_fits m.kind m.control) _ c.1 in
    let e = and_parts (data_fits m.kind (message_parts m).1.1.1) _ d.1 in
    record { stands = a.0; control = parts.0; body = parts.1; band = c.0; has_control = d.0; has_data = e.0; header = e.1 }

module _ (m : Message ℕ) (none : sets_options m.kind ≡ false) where
  good_with : (cells : Bool) → is_data_kind m.kind ≡ cells → Told cells m → GoodMessage m × IsShort m
  good_with true is t =
      let parted : is_part_kind m.kind ≡ true = (with_parts m.kind).0 ∙ is in
      let bare : has_header m.kind ≡ false = ap (λ b. b && has_header m.kind) (sym is) ∙ (with_parts m.kind).1.0 in
      let no_bytes : length m.plain ≡ 0 = eqb-true _ _ t.stands in
      let band = and_parts (ltb m.band BANDS) _ t.band in (
        record {
          control = is_there (is_control_kind m.kind) m.control t.has_control;
          body = λ e. data_there (is_control_kind m.kind) m.body (apart m.kind e) t.has_data;
          bare = λ e. absurd cc;
          plain = λ e. none_left m.plain no_bytes;
          band = ltb-true m.band BANDS band.0;
          high = band_zero (is_high_priority m.kind) m.band band.1;
          header = λ e. absurd cc;
          options = λ e. absurd cc;
        },
        record { control = part_short m.control t.control; body = part_short m.body t.body; plain = omega (arith, no_bytes) },
      )
  good_with false is t =
      let bare : is_part_kind m.kind ≡ false = (with_parts m.kind).0 ∙ is in
      let absent = and_parts (not (is_some m.control)) (not (is_some m.body)) t.stands in
      let no_control : m.control ≡ None = is_absent m.control absent.0 in
      let no_body : m.body ≡ None = is_absent m.body absent.1 in
      let band = and_parts (ltb m.band BANDS) _ t.band in (
        record {
          control = is_there (is_control_kind m.kind) m.control t.has_control;
          body = λ e. absurd (let parted = or_right (is_control_kind m.kind) (is_body_kind m.kind) e in cc);
          bare = λ e. ap is_part no_body;
          plain = λ e. absurd cc;
          band = ltb-true m.band BANDS band.0;
          high = band_zero (is_high_priority m.kind) m.band band.1;
          header = λ e. header_within (is_ioctl_kind m.kind) (length m.plain) t.header ((with_parts m.kind).1.1 ∙ e);
          options = λ e. absurd cc;
        },
        record { control = short m.control no_control; body = short m.body no_body; plain = part_short (Some m.plain) t.body },
      )
    where
      short : (o : Option (List ℕ)) → o ≡ None → length (part o) < 2 ^ 32
      short o is = subst (λ o. length (part o) < 2 ^ 32) (sym is) (omega arith)

-- ---- the messages of a queue

module _ (at : QueueKind) (stands : MsgKind → Bool) (same : (k : MsgKind) → stands k ≡ stands_at at k) where
  -- messages in order, the first of at most a rank
  record Following (rank : ℕ) (ms : List (Message ℕ)) : Type 0 where
    low : AllByRecursion (λ m. rank_of m ≤ rank) ms
    ordered : IsOrdered ms
    each : AllByRecursion (λ m. StandsOn stands m) ms
    short : AllByRecursion IsShort ms

  nothing_follows : (rank : ℕ) → Following rank []
  nothing_follows rank = record { low = tt; ordered = tt; each = tt; short = tt }

  one_follows : (rank : ℕ) (m : Message ℕ) (ms : List (Message ℕ)) → (message_behind Second at rank).fits m ≡ true → Following (next_rank m rank) ms → Following rank (m ∷ ms)
  unfolding message_behind
  one_follows rank m ms fits rest =
      let a = and_parts ((message Second).fits m) _ fits in
      let b = and_parts (stands_at at m.kind) (leb (rank_of m) rank) a.1 in
      let both = good_with m (no_options at m.kind b.0) (is_data_kind m.kind) refl (told m a.0) in
      let below : rank_of m ≤ rank = leb-true (rank_of m) rank b.1 in
      let lower : (x : Message ℕ) → rank_of x ≤ rank_of m → rank_of x ≤ rank = λ x low. omega (arith, low, below) in
      record {
        low = (below, all_so (λ x. rank_of x ≤ rank_of m) (λ x. rank_of x ≤ rank) lower ms rest.low);
        ordered = (rest.low, rest.ordered);
        each = (record { good = both.0; kind = same m.kind ∙ b.0 }, rest.each);
        short = (both.1, rest.short);
      }

  messages_follow : (ms : List (Message ℕ)) → fit_from next_rank (message_behind Second at) HIGH_PRIORITY_RANK ms ≡ true → Following HIGH_PRIORITY_RANK ms
  messages_follow ms fits = chain_holds next_rank (message_behind Second at) Following nothing_follows one_follows HIGH_PRIORITY_RANK ms fits

-- ---- the flow control of bands

marks_told : (f : Flow) → flow.fits f ≡ true → AreMarks f
unfolding flow
marks_told f fits =
    let a = and_parts _ (leb 1 f.high && leb f.low f.high) fits in
    let b = and_parts (leb 1 f.high) (leb f.low f.high) a.1 in
    record { some = leb-true 1 f.high b.0; order = leb-true f.low f.high b.1; bits = u32_below f.high (and_parts (u32.fits f.high) _ a.0).0 }

first_marks : (at : QueueKind) → AreMarks (first_flow at)
first_marks queues.Head = record { some = omega arith; order = omega arith; bits = omega arith }
first_marks _ = record { some = omega arith; order = omega arith; bits = omega arith }

listed_told : (first : Flow) (i from : ℕ) (f : Flow) → (listed_behind first from).fits (i, f) ≡ true → AreMarks f
unfolding listed_behind
listed_told first i from f fits = marks_told f (and_parts (byte.fits i) (flow.fits f) (and_parts _ _ fits).0).1

-- those that are listed fit, and the others are as at first
listed_marks : (first : Flow) → AreMarks first → (i from : ℕ) (fs : List Flow) → fit_from next_band (listed_behind first) from (listed first i fs) ≡ true → AllByRecursion AreMarks fs
listed_marks first marks i from [] fits = tt
listed_marks first marks i from (f ∷ fs) fits = at (same_flow f first) refl (λ next rest. listed_marks first marks (suc i) next fs rest) fits
  where
    at : (b : Bool) → same_flow f first ≡ b → ((next : ℕ) → fit_from next_band (listed_behind first) next (listed first (suc i) fs) ≡ true → AllByRecursion AreMarks fs)
        → fit_from next_band (listed_behind first) from (cond b (listed first (suc i) fs) ((i, f) ∷ listed first (suc i) fs)) ≡ true → AreMarks f × AllByRecursion AreMarks fs
    at true e others fits = (subst AreMarks (sym (same_flow_is f first e)) marks, others from fits)
    at false e others fits = let a = and_parts ((listed_behind first from).fits (i, f)) _ fits in (listed_told first i from f a.0, others (i + 1) a.1)

flows_told : (at : QueueKind) (fs : List Flow) → (flows Second at).fits fs ≡ true → (length fs ≡ BANDS) × AllByRecursion AreMarks fs
unfolding flows
flows_told at fs fits =
    let a = and_parts (eqb (length fs) BANDS) ((entries at).fits (list_out at fs)) fits in
    let b = and_parts _ _ a.1 in
    (eqb-true (length fs) BANDS a.0, listed_marks (first_flow at) (first_marks at) 0 0 fs (and_parts _ (fit_from next_band (listed_behind (first_flow at)) 0 (list_out at fs)) b.1).1)

-- ---- queues

pub queue_told : (at : QueueKind) (stands : MsgKind → Bool) → ((k : MsgKind) → stands k ≡ stands_at at k) → (q : Queue ℕ) → (queue Second at).fits q ≡ true → GoodQueue stands q × IsLaid q
unfolding queue messages
queue_told at stands same q fits =
    let a = and_parts (flags.fits (q.want_read, q.no_enable)) _ fits in
    let b = and_parts ((flows Second at).fits q.flows) ((messages Second at).fits q.messages) a.1 in
    let bands = flows_told at q.flows b.0 in
    let c = counted_parts next_rank (message_behind Second at) u32 HIGH_PRIORITY_RANK q.messages b.1 in
    let on = messages_follow at stands same q.messages c.1 in (
      record { messages = on.each; order = on.ordered; marks = bands.1 },
      record { ordered = on.ordered; short = record { few = u32_below (length q.messages) c.0; each = on.short }; banded = bands.0 },
    )
