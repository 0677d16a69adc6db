-- What a message is whose data part has other bytes, by a table of three, worked out by hand.
use Rattle.std.proofs.Common.{ℕ, ◌≡◌, List, [], ◌∷◌, None, Some, refl}
use Rattle.std.specs.Prelude.{Option}
use Rattle.strm_types.specs.declared.kinds.MsgKind.{MsgKind}
use Rattle.strm_types.specs.declared.kinds.MsgKind.TheVariants.{Ioctl, Proto}
use Rattle.strm_types.specs.Message.{Message}
use Rattle.strm_msg.specs.Translated.{translated_message}

abbrev table : List ℕ
table = 7 ∷ 6 ∷ 5 ∷ []

abbrev message : MsgKind → Option (List ℕ) → List ℕ → Message ℕ
message kind body plain = record { kind = kind; band = 3; control = Some (0 ∷ 1 ∷ []); body = body; plain = plain }

pub body-alone : translated_message table (message Proto (Some (1 ∷ 0 ∷ 2 ∷ 1 ∷ [])) []) ≡ message Proto (Some (6 ∷ 7 ∷ 5 ∷ 6 ∷ [])) []
body-alone = refl

pub no-body : translated_message table (message Proto None []) ≡ message Proto None []
no-body = refl

pub plain-stays : translated_message table (message Ioctl None (1 ∷ 2 ∷ [])) ≡ message Ioctl None (1 ∷ 2 ∷ [])
plain-stays = refl
