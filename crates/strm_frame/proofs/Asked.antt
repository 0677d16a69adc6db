-- A message in hand that is looked at for its kind, which has no parts.
use Rattle.strm_frame.proofs.Prelude.{ℕ, ◌≡◌, Bool, true, false, refl, sym, ap, ◌∙◌, ◌&&◌, not}
use Rattle.strm_frame.specs.Prelude.{Message, StoreValue, in_hand, IsChain}
use Rattle.std.proofs.lemmas.Bool.{and_parts}
use Rattle.strm_types.specs.declared.kinds.MsgKind.{MsgKind}
use Rattle.strm_types.specs.declared.kinds.MsgKind.TheVariants.{Ioctl, Iocack}
use Rattle.strm_types.specs.Commands.{is_acked, is_asked, is_iocack, is_ioctl}
use Rattle.strm_types.specs.Flush.{is_data_kind}
use Rattle.strm_types.specs.Message.{has_parts}
use Rattle.strm_blocks.specs.Blocks.{block_at}
use Rattle.strm_msg.proofs.Chains.{kind-is}
use Rattle.strm_msg.proofs.MadePlain.{parts-same}
use Rattle.strm_frame.specs.Outboxes.{message_in}

module _ (looks : MsgKind → Bool) (no-data : (kind : MsgKind) → looks kind ≡ true → is_data_kind kind ≡ false) (s : StoreValue) (i : ℕ) where
  abbrev looked : Message ℕ → Bool
  looked m = looks m.kind && not (has_parts m)

  looked-plain : looked (message_in s i) ≡ true → is_data_kind (block_at 0 (in_hand s i)).kind ≡ false
  looked-plain is = let m = message_in s i in ap is_data_kind (sym (kind-is (in_hand s i))) ∙ no-data m.kind (and_parts (looks m.kind) (not (has_parts m)) is).0

  looked-is : (kind : MsgKind) → IsChain (in_hand s i) → kind ≡ (block_at 0 (in_hand s i)).kind → looks kind ≡ true → looked (message_in s i) ≡ true
  looked-is kind chain kind_is is =
      let m = message_in s i in
      let same : looks m.kind ≡ true = ap looks (kind-is (in_hand s i) ∙ sym kind_is) ∙ is in
      let none : has_parts m ≡ false = parts-same (in_hand s i) chain ∙ ap is_data_kind (sym kind_is) ∙ no-data kind is in
      ap (λ parts. looks m.kind && not parts) none ∙ ap (λ b. b && true) same

  looked-not : (kind : MsgKind) → kind ≡ (block_at 0 (in_hand s i)).kind → looks kind ≡ false → looked (message_in s i) ≡ false
  looked-not kind kind_is is = let m = message_in s i in ap (λ b. b && not (has_parts m)) (ap looks (kind-is (in_hand s i) ∙ sym kind_is) ∙ is)

ioctl-plain : (kind : MsgKind) → is_ioctl kind ≡ true → is_data_kind kind ≡ false
unfolding is_data_kind
ioctl-plain Ioctl is = refl
ioctl-plain _ is = absurd (cc)

iocack-plain : (kind : MsgKind) → is_iocack kind ≡ true → is_data_kind kind ≡ false
unfolding is_data_kind
iocack-plain Iocack is = refl
iocack-plain _ is = absurd (cc)

module _ (s : StoreValue) (i : ℕ) where
  -- an M_IOCTL
  pub asked-plain : is_asked (message_in s i) ≡ true → is_data_kind (block_at 0 (in_hand s i)).kind ≡ false
  asked-plain is = looked-plain is_ioctl ioctl-plain s i is

  pub asked-is : (kind : MsgKind) → IsChain (in_hand s i) → kind ≡ (block_at 0 (in_hand s i)).kind → is_ioctl kind ≡ true → is_asked (message_in s i) ≡ true
  asked-is kind chain kind_is is = looked-is is_ioctl ioctl-plain s i kind chain kind_is is

  pub asked-not : (kind : MsgKind) → kind ≡ (block_at 0 (in_hand s i)).kind → is_ioctl kind ≡ false → is_asked (message_in s i) ≡ false
  asked-not kind kind_is is = looked-not is_ioctl ioctl-plain s i kind kind_is is

  -- an M_IOCACK
  pub acked-plain : is_acked (message_in s i) ≡ true → is_data_kind (block_at 0 (in_hand s i)).kind ≡ false
  acked-plain is = looked-plain is_iocack iocack-plain s i is

  pub acked-is : (kind : MsgKind) → IsChain (in_hand s i) → kind ≡ (block_at 0 (in_hand s i)).kind → is_iocack kind ≡ true → is_acked (message_in s i) ≡ true
  acked-is kind chain kind_is is = looked-is is_iocack iocack-plain s i kind chain kind_is is

  pub acked-not : (kind : MsgKind) → kind ≡ (block_at 0 (in_hand s i)).kind → is_iocack kind ≡ false → is_acked (message_in s i) ≡ false
  acked-not kind kind_is is = looked-not is_iocack iocack-plain s i kind kind_is is
