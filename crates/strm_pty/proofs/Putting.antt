-- A put at a driver, by the kind of its message and the way that it goes.
use Rattle.strm_pty.proofs.Prelude.{ℕ, ◌≡◌, true, false, refl, sym, ap, subst, ◌∙◌, arith, kind-is, parts-same}
use Rattle.strm_pty.specs.Prelude.{MsgKind, Side, Up, Down, Fates, Across, Spot, taken_in, is_data_kind, Message, has_parts, is_held, StoreValue}
use Rattle.strm_pty.specs.Prelude.{in_hand, block_at, IsChain, Queue, queue_in, Acts, message_in}
use Rattle.strm_types.specs.declared.kinds.MsgKind.TheVariants.{Data, Proto}
use Rattle.strm_types.specs.Commands.{is_ioctl}
use Rattle.strm_types.specs.Drivers.{put_down, put_across, driver_put}
use Rattle.strm_types.specs.Queue as plain
use Rattle.strm_pty.specs.Does.{Does, driver_cost}
use Rattle.strm_pty.proofs.Doing.{does-more}

-- M_DATA and M_PROTO have parts
pub held-data : (kind : MsgKind) → is_held kind ≡ true → is_data_kind kind ≡ true
unfolding is_held is_data_kind
held-data Data is = refl
held-data Proto is = refl
held-data _ is = absurd (cc)

-- and none of them is an M_IOCTL
held-other : (kind : MsgKind) → is_held kind ≡ true → is_ioctl kind ≡ true → ⊥
unfolding is_held
held-other Data is asks = absurd (cc)
held-other Proto is asks = absurd (cc)
held-other _ is asks = absurd (cc)

pub held-passes : (s : StoreValue) (i : ℕ) (kind : MsgKind) → kind ≡ (block_at 0 (in_hand s i)).kind → is_held (message_in s i).kind ≡ true → is_ioctl kind ≡ true → ⊥
held-passes s i kind is held asks = held-other (message_in s i).kind held (ap is_ioctl (kind-is (in_hand s i) ∙ sym is) ∙ asks)

data-is : (side : Side) (across : Across) (here : Spot) (m : Message ℕ) (q : plain.Queue ℕ) → has_parts m ≡ true → driver_put side across here m q ≡ taken_in side across m q
data-is side across here m q is = rw is refl

down-is : (side : Side) (across : Across) (here : Spot) (m : Message ℕ) (q : plain.Queue ℕ) → has_parts m ≡ false → here.way ≡ Down → driver_put side across here m q ≡ put_down side across here m.kind m q
down-is side across here m q is way = rw (is, way) refl

across-is : (side : Side) (across : Across) (here : Spot) (m : Message ℕ) (q : plain.Queue ℕ) → has_parts m ≡ false → here.way ≡ Up → driver_put side across here m q ≡ put_across side across m.kind m q
across-is side across here m q is way = rw (is, way) refl

module _ (s t : StoreValue) (q q' : Queue) (i : ℕ) (acts : Acts) (f f' : Fates) (across : Across) (here : Spot) (kind : MsgKind)
    (chain : IsChain (in_hand s i)) (kind_is : (block_at 0 (in_hand s i)).kind ≡ kind) where
  parts : has_parts (message_in s i) ≡ is_data_kind kind
  parts = parts-same (in_hand s i) chain ∙ ap is_data_kind kind_is

  same-kind : kind ≡ (message_in s i).kind
  same-kind = sym (kind-is (in_hand s i) ∙ kind_is)

  pub put-data : is_data_kind kind ≡ true → Does s t q q' i 0 acts f f' (taken_in here.side across (message_in s i) (queue_in s q))
      → Does s t q q' i (driver_cost here.way kind) acts f f' (driver_put here.side across here (message_in s i) (queue_in s q))
  put-data is does =
      does-more s t q q' i 0 (driver_cost here.way kind) acts f f' _ (omega arith)
      (subst (λ x. Does s t q q' i 0 acts f f' x) (sym (data-is here.side across here (message_in s i) (queue_in s q) (parts ∙ is))) does)

  pub put-down : is_data_kind kind ≡ false → here.way ≡ Down → Does s t q q' i (driver_cost Down kind) acts f f' (put_down here.side across here kind (message_in s i) (queue_in s q))
      → Does s t q q' i (driver_cost here.way kind) acts f f' (driver_put here.side across here (message_in s i) (queue_in s q))
  put-down is way does =
      let m = message_in s i in
      let p = queue_in s q in
      subst (λ w. Does s t q q' i (driver_cost w kind) acts f f' (driver_put here.side across here m p)) (sym way)
      (subst (λ x. Does s t q q' i (driver_cost Down kind) acts f f' x) (ap (λ k. put_down here.side across here k m p) same-kind ∙ sym (down-is here.side across here m p (parts ∙ is) way)) does)

  pub put-across : is_data_kind kind ≡ false → here.way ≡ Up → Does s t q q' i (driver_cost Up kind) acts f f' (put_across here.side across kind (message_in s i) (queue_in s q))
      → Does s t q q' i (driver_cost here.way kind) acts f f' (driver_put here.side across here (message_in s i) (queue_in s q))
  put-across is way does =
      let m = message_in s i in
      let p = queue_in s q in
      subst (λ w. Does s t q q' i (driver_cost w kind) acts f f' (driver_put here.side across here m p)) (sym way)
      (subst (λ x. Does s t q q' i (driver_cost Up kind) acts f f' x) (ap (λ k. put_across here.side across k m p) same-kind ∙ sym (across-is here.side across here m p (parts ∙ is) way)) does)
