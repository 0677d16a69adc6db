-- What comes up to a head leaves it good, and what it sends down is good (STREAMS Programming Guide, "Stream Head").
use Rattle.strm_laws.proofs.Prelude.{ℕ, ◌≡◌, ◌≤◌, Bool, true, false, cond, List, [], ◌∷◌, length, refl, sym, ◌∙◌, arith, false≢true, ◌==◌, ◌||◌}
use Rattle.strm_laws.proofs.Prelude.{Option, None, Some}
use Rattle.strm_laws.specs.Prelude.{FlushAsked, Ioc, MsgKind, Data, Proto, Sig, Ctl, Ioctl, Setopts, Iocack, Iocnak, Pcproto, Pcsig, Flush, Hangup}
use Rattle.strm_laws.specs.Prelude.{Error, IOCTL_MAX, ReadMode, ByteStream, MessageKeep, MessageDiscard, Side, Down, Marks, Spot, Acted, of_data}
use Rattle.strm_laws.specs.Prelude.{asked_by, flush_bytes, flush_message, Head, flush_up, head_flushed, head_put, is_doubled, nak_down, obeyed}
use Rattle.strm_laws.specs.Prelude.{passed_by, turned_round, waits_for_readers, ioc_bytes, ioctl_message, nak_message, read_ioc, is_control_kind}
use Rattle.strm_laws.specs.Prelude.{is_body_kind, Message, data_message, has_parts, is_high_priority, is_part, mode_message, options_in, bare}
use Rattle.std.proofs.lemmas.List.{length-append}
use Rattle.std.specs.Prelude.{◌+◌}
use Rattle.strm_types.specs.declared.kinds.MsgKind.TheVariants.{Read, Stop, Start}
use Rattle.strm_types.specs.declared.options.Options.{Options}
use Rattle.strm_types.specs.Heads.{with_options}
use Rattle.strm_types.specs.Ioctls.{refused}
use Rattle.strm_laws.specs.GoodMessages.{AreGood, GoodMessage, has_header, is_part_kind, sets_options}
use Rattle.strm_laws.specs.Restorable.{GoodHead, StandsOn}
use Rattle.strm_laws.proofs.GoodQueues.{behind-good, put-good}

-- messages that the parts of a pair make

pub header-long : (ioc : Ioc) → length (ioc_bytes ioc) ≡ 16
header-long ioc = refl

module _ {C : Type 0} where
  pub data-good : (cells : List C) → GoodMessage (data_message cells)
  unfolding data_message is_control_kind is_body_kind is_high_priority
  data-good cells = record {
    control = refl;
    body = λ is. refl;
    bare = λ is. absurd (false≢true (sym is));
    plain = λ is. refl;
    band = omega arith;
    high = λ is. refl;
    header = λ is. absurd (false≢true is);
    options = λ is. absurd (false≢true is);
  }

  -- one without parts, of a kind that has neither parts nor a header nor options
  bare-good : (kind : MsgKind) (bytes : List ℕ) → is_control_kind kind ≡ false → is_body_kind kind ≡ false → has_header kind ≡ false → sets_options kind ≡ false → GoodMessage {C = C} (bare kind bytes)
  bare-good kind bytes no_control no_body no_header no_options = record {
    control = sym no_control;
    body = λ is. absurd (false≢true (sym no_body ∙ is));
    bare = λ is. refl;
    plain = λ is. absurd (false≢true (sym (none (is_control_kind kind) (is_body_kind kind) no_control no_body) ∙ is));
    band = omega arith;
    high = λ is. refl;
    header = λ is. absurd (false≢true (sym no_header ∙ is));
    options = λ is. absurd (false≢true (sym no_options ∙ is));
  }
    where
      none : (one two : Bool) → one ≡ false → two ≡ false → (one || two) ≡ false
      none false false first second = refl
      none true two first second = absurd (false≢true (sym first))
      none false true first second = absurd (false≢true (sym second))

  pub flush-good : (bytes : List ℕ) → GoodMessage {C = C} (flush_message bytes)
  unfolding is_control_kind is_body_kind
  flush-good bytes = bare-good Flush bytes refl refl refl refl

  pub signal-good : (bytes : List ℕ) → GoodMessage {C = C} (bare Pcsig bytes)
  unfolding is_control_kind is_body_kind
  signal-good bytes = bare-good Pcsig bytes refl refl refl refl

  pub stop-good : GoodMessage {C = C} (bare Stop [])
  unfolding is_control_kind is_body_kind
  stop-good = bare-good Stop [] refl refl refl refl

  pub start-good : GoodMessage {C = C} (bare Start [])
  unfolding is_control_kind is_body_kind
  start-good = bare-good Start [] refl refl refl refl

  pub mode-good : (mode : ReadMode) (tostop : Bool) → GoodMessage {C = C} (mode_message mode tostop)
  unfolding is_control_kind is_body_kind is_high_priority
  mode-good mode tostop = record {
    control = refl;
    body = λ is. absurd (false≢true is);
    bare = λ is. refl;
    plain = λ is. absurd (false≢true is);
    band = omega arith;
    high = λ is. absurd (false≢true is);
    header = λ is. absurd (false≢true is);
    options = λ is. sets mode tostop;
  }
    where
      sets : (mode : ReadMode) (tostop : Bool) → (options_in (mode_message {C = C} mode tostop).plain).marks ≡ None
      sets ByteStream true = refl
      sets ByteStream false = refl
      sets MessageKeep true = refl
      sets MessageKeep false = refl
      sets MessageDiscard true = refl
      sets MessageDiscard false = refl

  pub ioctl-good : (ioc : Ioc) (given : List ℕ) → length given ≤ IOCTL_MAX → GoodMessage {C = C} (ioctl_message ioc given)
  unfolding is_control_kind is_body_kind is_high_priority
  ioctl-good ioc given few = record {
    control = refl;
    body = λ is. absurd (false≢true is);
    bare = λ is. refl;
    plain = λ is. absurd (false≢true is);
    band = omega arith;
    high = λ is. absurd (false≢true is);
    header = λ is. (omega (arith, length-append (ioc_bytes ioc) given, header-long ioc), omega (arith, length-append (ioc_bytes ioc) given, header-long ioc, few));
    options = λ is. absurd (false≢true is);
  }

  pub nak-good : (ioc : Ioc) → GoodMessage {C = C} (nak_message ioc)
  unfolding is_control_kind is_body_kind is_high_priority
  nak-good ioc = record {
    control = refl;
    body = λ is. absurd (false≢true is);
    bare = λ is. refl;
    plain = λ is. absurd (false≢true is);
    band = omega arith;
    high = λ is. refl;
    header = λ is. (omega (arith, header-long (refused ioc)), omega (arith, header-long (refused ioc)));
    options = λ is. absurd (false≢true is);
  }

  -- a message with parts is of a kind that has them
  pub with-parts : (m : Message C) → GoodMessage m → has_parts m ≡ true → is_part_kind m.kind ≡ true
  with-parts m good is = at (is_part m.control) (is_part m.body) (is_control_kind m.kind) (is_body_kind m.kind) is good.control good.bare
    where
      at : (control body controls bodies : Bool) → (control || body) ≡ true → control ≡ controls → ((controls || bodies) ≡ false → body ≡ false) → (controls || bodies) ≡ true
      at control body true bodies is same none = refl
      at control body false true is same none = refl
      at true body false false is same none = absurd (false≢true (sym same))
      at false true false false is same none = absurd (false≢true (sym (none refl)))
      at false false false false is same none = absurd (false≢true is)

module _ {C : Type 0} (side : Side) where
  -- what a head does is good, and what it sends
  pub record GoodAtHead (t : Acted C (Head C)) : Type 0 where
    pub state : GoodHead side t.state
    pub sent : AreGood GoodMessage t.sent

  either-head : (b : Bool) (one another : Acted C (Head C)) → GoodAtHead one → GoodAtHead another → GoodAtHead (cond b one another)
  either-head true one another first second = first
  either-head false one another first second = second

  flush-head : (here : Spot) (asked : FlushAsked) (h : Head C) → GoodHead side h → GoodAtHead (flush_up here asked h)
  flush-head here asked h good = record { state = at asked.for_read; sent = rounds asked.for_write }
    where
      at : (own : Bool) → GoodHead side (record (cond own (head_flushed here asked h) (passed_by h)) { sent = turned_round here asked }).state
      at true = record { queue = behind-good is_part_kind (of_data asked.band) h.queue good.queue; group = good.group }
      at false = good

      rounds : (goes : Bool) → AreGood {C = C} GoodMessage (cond goes (record { to = record here { at = here.at + 1; way = Down }; message = flush_message (flush_bytes (record asked { for_read = false })) } ∷ []) [])
      rounds true = (flush-good _, tt)
      rounds false = tt

  nak-sent : (here : Spot) (known : Option Ioc) (h : Head C) → AreGood {C = C} GoodMessage (nak_down here known)
  nak-sent here None h = tt
  nak-sent here (Some ioc) h = at (ioc.number == 0)
    where
      at : (none : Bool) → AreGood {C = C} GoodMessage (cond none [] (record { to = record here { at = here.at + 1; way = Down }; message = nak_message ioc } ∷ []))
      at true = tt
      at false = (nak-good ioc, tt)

  options-head : (options : Options) (h : Head C) → options.marks ≡ None → GoodHead side h → GoodHead side (with_options options h)
  options-head options h none good = at options.marks none
    where
      at : (marks : Option Marks) → marks ≡ None → GoodHead side (with_options (record options { marks = marks }) h)
      at None is = record { queue = good.queue; group = good.group }
      at (Some marks) is = absurd (cc is)

  -- it is obeyed where it has no parts
  obeyed-head : (here : Spot) (m : Message C) (h : Head C) → GoodMessage m → GoodHead side h → GoodAtHead (obeyed here m.kind m.plain h)
  obeyed-head here m h fits good = at m.kind fits.options
    where
      at : (kind : MsgKind) → (sets_options kind ≡ true → (options_in m.plain).marks ≡ None) → GoodAtHead (obeyed here kind m.plain h)
      at Flush sets = flush-head here (asked_by m.plain) h good
      at Ioctl sets = record { state = good; sent = nak-sent here (read_ioc m.plain) h }
      at Setopts sets = record { state = options-head (options_in m.plain) h (sets refl) good; sent = tt }
      at Hangup sets = record { state = record { queue = good.queue; group = good.group }; sent = tt }
      at Sig sets = record { state = record { queue = good.queue; group = good.group }; sent = tt }
      at Pcsig sets = record { state = record { queue = good.queue; group = good.group }; sent = tt }
      at Iocack sets = record { state = record { queue = good.queue; group = good.group }; sent = tt }
      at Iocnak sets = record { state = record { queue = good.queue; group = good.group }; sent = tt }
      at Data sets = record { state = good; sent = tt }
      at Proto sets = record { state = good; sent = tt }
      at Ctl sets = record { state = good; sent = tt }
      at Pcproto sets = record { state = good; sent = tt }
      at Read sets = record { state = good; sent = tt }
      at Stop sets = record { state = good; sent = tt }
      at Start sets = record { state = good; sent = tt }
      at Error sets = record { state = good; sent = tt }

  waits-head : (here : Spot) (m : Message C) (h : Head C) → StandsOn is_part_kind m → GoodHead side h → GoodAtHead (waits_for_readers here m h)
  waits-head here m h fits good =
      either-head (is_doubled m h.queue.messages) _ _ (record { state = good; sent = tt })
      (record { state = record { queue = put-good is_part_kind m h.queue fits good.queue; group = good.group }; sent = tt })

  pub head-good : (here : Spot) (m : Message C) (h : Head C) → GoodMessage m → GoodHead side h → GoodAtHead (head_put here m h)
  head-good here m h fits good = at (has_parts m) refl
    where
      at : (parts : Bool) → has_parts m ≡ parts → GoodAtHead (cond parts (waits_for_readers here m h) (obeyed here m.kind m.plain h))
      at true is = waits-head here m h (record { good = fits; kind = with-parts m fits is }) good
      at false is = obeyed-head here m h fits good
