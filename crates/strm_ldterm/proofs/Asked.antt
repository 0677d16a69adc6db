-- What the first message of a queue asks.
use Rattle.strm_ldterm.proofs.Prelude.{ℕ, ◌≡◌, Bool, [], map, sym, ap, ◌∙◌, kind-is, band-is}
use Rattle.strm_ldterm.specs.Prelude.{MsgKind, Way, StoreValue, list_at, message_of, messages_on, asked_first}
use Rattle.strm_types.specs.declared.spots.Asks.TheVariants as asked
use Rattle.strm_blocks.specs.declared.asked.Peek.{Peek}
use Rattle.strm_blocks.specs.Outcomes.{PeekedFirst}
use Rattle.strm_types.specs.Asking.{asked_by}

pub asked-peek : (s : StoreValue) (k : ℕ) (way : Way) (stopped : Bool) (peek : Peek) → PeekedFirst s k peek → asked_first way stopped (messages_on s k) ≡ asked_by way stopped peek.kind peek.band.0
asked-peek s k way stopped peek p =
    ap (λ l. asked_first way stopped (map message_of l)) p.joined
    ∙ ap (λ (kind : MsgKind). asked_by way stopped kind (message_of p.message).band) (kind-is p.message ∙ sym p.seen.kind)
    ∙ ap (λ band. asked_by way stopped peek.kind band) (band-is p.message ∙ sym p.seen.band)

pub asked-none : (s : StoreValue) (k : ℕ) (way : Way) (stopped : Bool) → list_at s k ≡ [] → asked.Empty ≡ asked_first way stopped (messages_on s k)
asked-none s k way stopped none = ap (λ l. asked_first way stopped (map message_of l)) (sym none)
