-- What stands in a text, seen as plain values.
use Rattle.std.specs.Prelude.{◌≡◌, ◌<◌, ◌^◌, ℕ, true, List, [], length, Option, None, Some, option_map}
use Rattle.strm_image.specs.Prelude.{HIGH_PRIORITY_RANK, Message, Flow}
use Rattle.strm_image.specs.declared.messages.MessageText.{MessageText}
use Rattle.strm_image.specs.declared.passed.FlowsText.{FlowsText}
use Rattle.strm_image.specs.declared.passed.MessagesText.{MessagesText}
use Rattle.strm_image.specs.declared.versions.Version.{Version}
use Rattle.strm_image.specs.FlowTexts.{read_flows}
use Rattle.strm_image.specs.Format.{read_from}
use Rattle.strm_image.specs.Messages.{Parts, bytes_in, message_behind, message_of, next_rank, parts_fit}

abbrev pub parts_now : MessageText → Parts
parts_now m = (m.kind, (m.band, (option_map (λ p. p.now) m.control, option_map (λ p. p.now) m.body)))

-- parts of a message, with lengths of 32 bits
pub record IsGoodParts (v : Version) (x : Parts) : Type 0 where
  pub fits : parts_fit v x ≡ true
  pub control : length (bytes_in x.1.1.0) < 2 ^ 32
  pub body : length (bytes_in x.1.1.1) < 2 ^ 32

abbrev pub IsGood : Version → MessageText → Type 0
IsGood v m = IsGoodParts v (parts_now m)

abbrev pub message_now : MessageText → Message ℕ
message_now m = message_of (parts_now m)

-- the values that were read
abbrev pub values_read : {A : Type 0} → Option (List A × List ℕ) → List A
values_read None = []
values_read (Some x) = x.0

abbrev pub messages_now : MessagesText → List (Message ℕ)
messages_now ms = values_read (read_from next_rank (message_behind ms.version ms.queue) HIGH_PRIORITY_RANK ms.count ms.text.now)

abbrev pub flows_now : FlowsText → List Flow
flows_now fs = values_read (read_flows fs.version fs.queue fs.count fs.text.now)
