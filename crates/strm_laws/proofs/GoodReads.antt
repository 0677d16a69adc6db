-- What a read and a get leave at a head is good (read(2), getmsg(2); streamio(7I): I_SRDOPT).
use Rattle.strm_laws.proofs.Prelude.{ℕ, zero, suc, ◌≡◌, ◌<◌, Bool, true, false, cond, List, [], ◌∷◌, ◌++◌, length, drop, refl, sym, subst, ◌∙◌, arith}
use Rattle.strm_laws.proofs.Prelude.{false≢true, ◌==◌, ◌||◌, nat_lt, Option, None, Some, of-each}
use Rattle.strm_laws.specs.Prelude.{MsgKind, Data, Proto, Pcproto, BANDS, ControlMode, Refuse, Discard, ReadMode, ByteStream, MessageKeep}
use Rattle.strm_laws.specs.Prelude.{MessageDiscard, Wanted, get_queue, gets_none, none_got, queue_got, got_none, head_get, is_wanted, left_behind}
use Rattle.strm_laws.specs.Prelude.{parts_of, is_body_kind, is_control_kind, Message, band_of, is_high_priority, is_part, part, IsOrdered, Queue}
use Rattle.strm_laws.specs.Prelude.{is_none_left, left_with, relieved, Drawn, all_cells, and_more, control_gone, drawn, emptied_of, front_of}
use Rattle.strm_laws.specs.Prelude.{head_draw, is_passed, is_refused, no_cells, none_went, offered, queue_drawn, read_queue, rest_after, rest_with}
use Rattle.strm_laws.specs.Prelude.{shown, stopped, takes_none, wanted_after}
use Rattle.std.specs.List.{AllByRecursion}
use Rattle.strm_types.specs.declared.modes.ControlMode.TheVariants as controls
use Rattle.strm_laws.specs.GoodMessages.{GoodMessage, is_part_kind}
use Rattle.strm_laws.specs.Restorable.{GoodQueue, StandsOn}
use Rattle.strm_laws.proofs.GoodDeliveries.{all-join}
use Rattle.strm_laws.proofs.GoodQueues.{all-put_back, relieved-good}
use Rattle.strm_laws.proofs.QueueOrder.{drawn-order, got-order}

-- a kind with a control part
controls-only : (kind : MsgKind) → is_control_kind kind ≡ true → is_body_kind kind ≡ false
unfolding is_control_kind is_body_kind
controls-only Proto is = refl
controls-only Pcproto is = refl
controls-only _ is = absurd (false≢true is)

drop-none : (A : Type 0) (n : ℕ) → is_none_left {A = A} (drop n []) ≡ true
drop-none A zero = refl
drop-none A (suc n) = refl

module _ {C : Type 0} where
  abbrev Read : Message C → Type 0
  Read m = StandsOn is_part_kind m

  -- what is left of one is M_DATA where no control part is left
  data-rest : (m : Message C) (cells : List C) → m.plain ≡ [] → band_of m < BANDS → Read (record m { kind = Data; band = band_of m; control = None; body = Some cells })
  unfolding is_control_kind is_body_kind is_high_priority
  data-rest m cells none low = record {
    good = record {
      control = refl;
      body = λ is. refl;
      bare = λ is. absurd (false≢true (sym is));
      plain = λ is. none;
      band = low;
      high = λ is. absurd (false≢true is);
      header = λ is. absurd (false≢true is);
      options = λ is. absurd (false≢true is);
    };
    kind = refl;
  }

  low-band : (m : Message C) → GoodMessage m → band_of m < BANDS
  unfolding band_of
  low-band m good = at (is_high_priority m.kind)
    where
      at : (high : Bool) → cond high 0 m.band < BANDS
      at true = omega arith
      at false = good.band

  rest-with : (control body : List C) (m : Message C) → Read m → (is_none_left control ≡ false → is_part m.control ≡ true) → Read (rest_with control body m)
  rest-with [] body m fits there = data-rest m body (fits.good.plain fits.kind) (low-band m fits.good)
  rest-with (c ∷ control) body m fits there =
      let is = sym fits.good.control ∙ there refl in
      record {
        good = record {
          control = sym is;
          body = λ bodies. absurd (false≢true (sym (controls-only m.kind is) ∙ bodies));
          bare = λ none. absurd (false≢true (sym none ∙ fits.kind));
          plain = fits.good.plain;
          band = fits.good.band;
          high = fits.good.high;
          header = fits.good.header;
          options = fits.good.options;
        };
        kind = fits.kind;
      }

  part-there : (n : ℕ) (o : Option (List C)) → is_none_left (drop n (part o)) ≡ false → is_part o ≡ true
  part-there n None is = absurd (false≢true (sym is ∙ drop-none C n))
  part-there n (Some cells) is = refl

  -- a message as it is read, once its first cells were given
  shown-rest : (control : ControlMode) (n : ℕ) (m : Message C) → Read m → Read (rest_after n (shown control m))
  unfolding band_of is_high_priority
  shown-rest Refuse n m fits = rest-with _ _ m fits (part-there n m.control)
  shown-rest controls.Data n m fits = rest-with _ _ m fits (part-there n m.control)
  shown-rest Discard n m fits = none n
    where
      bare : Message C
      bare = record m { kind = Data; band = band_of m; control = None }

      counted : band_of bare ≡ band_of m
      counted = refl

      rest : (cells : List C) → Read (rest_with [] cells bare)
      rest cells = data-rest bare cells (fits.good.plain fits.kind) (subst (λ n. n < BANDS) (sym counted) (low-band m fits.good))

      none : (n : ℕ) → Read (rest_after n bare)
      none zero = rest _
      none (suc n) = rest _

  abbrev AllRead : List (Message C) → Type 0
  AllRead ms = AllByRecursion Read ms

  front-read : (read : ReadMode) (control : ControlMode) (n : ℕ) (dropped : List C) (m : Message C) (q : List (Message C)) → Read m → AllRead q → AllRead (front_of read n dropped (shown control m) q).left
  front-read ByteStream control n dropped m q fits all = all-put_back Read (rest_after n (shown control m)) q (shown-rest control n m fits) all
  front-read MessageKeep control n dropped m q fits all = all-put_back Read (rest_after n (shown control m)) q (shown-rest control n m fits) all
  front-read MessageDiscard control n dropped m q fits all = all

  drawn-read : (read : ReadMode) (control : ControlMode) (begun : Bool) (n : ℕ) (passed q : List (Message C)) → AllRead passed → AllRead q → AllRead (drawn read control begun n passed q).left
  drawn-read read control begun n passed [] over all = over
  drawn-read read control begun n passed (m ∷ q) over all =
      let gone = all_cells passed ++ control_gone control m in
      let cells = offered control m in
      let more = drawn read control true (wanted_after read n (length cells)) [] q in
      of-each (λ (d : Drawn C). AllRead d.left)
      (n == 0 || is_refused control m) (is_passed control m) (no_cells cells) begun (nat_lt n (length cells))
      (stopped (passed ++ m ∷ q)) (drawn read control begun n (passed ++ m ∷ []) q) (emptied_of gone q) (front_of read n gone (shown control m) q) (and_more cells gone more)
      (all-join Read passed (m ∷ q) over all)
      (λ is. drawn-read read control begun n (passed ++ m ∷ []) q (all-join Read passed (m ∷ []) over (all.0, tt)) all.1)
      (λ is. all.1)
      (λ is. front-read read control n gone m q all.0 all.1)
      (λ is. drawn-read read control true (wanted_after read n (length cells)) [] q tt all.1)

  either-queue : (b : Bool) (one another : Queue C) → GoodQueue is_part_kind one → GoodQueue is_part_kind another → GoodQueue is_part_kind (cond b one another)
  either-queue true one another first second = first
  either-queue false one another first second = second

  left-good : (ms : List (Message C)) (q : Queue C) → AllRead ms → IsOrdered ms → GoodQueue is_part_kind q → GoodQueue is_part_kind (left_with ms q)
  left-good ms q all order good = record { messages = all; order = order; marks = good.marks }

  pub read-good : (read : ReadMode) (control : ControlMode) (n : ℕ) (q : Queue C) → GoodQueue is_part_kind q → GoodQueue is_part_kind (read_queue read control n q)
  read-good read control n q good =
      let d = head_draw read control n q.messages in
      let left = left-good d.left q (drawn-read read control false n [] q.messages tt good.messages) (drawn-order read control false n [] q.messages good.order) good in
      either-queue (takes_none control n q.messages) q (queue_drawn d q) good
      (either-queue (none_went d) (left_with d.left q) (relieved (left_with d.left q)) left (relieved-good is_part_kind (left_with d.left q) left))

  -- a get
  behind-read : (more : Bool) (cmax dmax : ℕ) (m : Message C) (q : List (Message C)) → Read m → AllRead q → AllRead (left_behind more cmax dmax m q)
  behind-read true cmax dmax m q fits all = all-put_back Read _ q (rest-with (drop cmax (part m.control)) (drop dmax (part m.body)) m fits (part-there cmax m.control)) all
  behind-read false cmax dmax m q fits all = all

  got-read : (wanted : Wanted) (cmax dmax : ℕ) (q : List (Message C)) → AllRead q → AllRead (head_get wanted cmax dmax q).left
  got-read wanted cmax dmax [] all = tt
  got-read wanted cmax dmax (m ∷ q) all = at (is_wanted wanted m)
    where
      at : (is : Bool) → AllRead (cond is (parts_of cmax dmax m q) (got_none (m ∷ q))).left
      at true = behind-read (nat_lt cmax (length (part m.control)) || nat_lt dmax (length (part m.body))) cmax dmax m q all.0 all.1
      at false = all

  pub get-good : (wanted : Wanted) (cmax dmax : ℕ) (q : Queue C) → GoodQueue is_part_kind q → GoodQueue is_part_kind (get_queue wanted cmax dmax q)
  get-good wanted cmax dmax q good =
      let g = head_get wanted cmax dmax q.messages in
      let left = left-good g.left q (got-read wanted cmax dmax q.messages good.messages) (got-order wanted cmax dmax q.messages good.order) good in
      either-queue (gets_none wanted q.messages) q (queue_got g q) good
      (either-queue (none_got g) (left_with g.left q) (relieved (left_with g.left q)) left (relieved-good is_part_kind (left_with g.left q) left))
