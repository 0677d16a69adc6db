-- What the first message of a queue asks, by what is seen of it.
use Rattle.strm_own.proofs.Prelude.{ℕ, ◌≡◌, false, true, cond, List, [], ◌∷◌, map, sym, ap, subst, ◌∙◌}
use Rattle.strm_own.specs.Prelude.{StoreValue, Message, Own, Way, is_high_priority, message_of, list_at, messages_on}
use Rattle.strm_types.specs.declared.spots.Asks.{Asks}
use Rattle.strm_types.specs.declared.spots.Asks.TheVariants as asked
use Rattle.strm_types.specs.OwnStands.{OwnActs, own_asked}
use Rattle.strm_blocks.specs.declared.asked.Peek.{Peek}
use Rattle.strm_blocks.specs.Outcomes.{PeekedFirst}
use Rattle.strm_msg.proofs.Chains.{band-is, kind-is}
use Rattle.strm_own.specs.Stands.{BeginsOrdinary}

pub asks-none : (own : OwnActs ℕ) (way : Way) (o : Own) (s : StoreValue) (k : ℕ) → list_at s k ≡ [] → asked.Empty ≡ own_asked own way o (messages_on s k)
asks-none own way o s k none = ap (λ l. own_asked own way o (map message_of l)) (sym none)

module _ (own : OwnActs ℕ) (way : Way) (o : Own) (s : StoreValue) (k : ℕ) (peek : Peek) (p : PeekedFirst s k peek) where
  stand : messages_on s k ≡ message_of p.message ∷ map message_of p.rest
  stand = ap (λ l. map message_of l) p.joined

  kind : is_high_priority (message_of p.message).kind ≡ is_high_priority peek.kind
  kind = ap is_high_priority (kind-is p.message ∙ sym p.seen.kind)

  -- of high priority
  pub asks-high : is_high_priority peek.kind ≡ true → asked.Free ≡ own_asked own way o (messages_on s k)
  asks-high high =
      let ms : List (Message ℕ) = message_of p.message ∷ map message_of p.rest in
      sym (
      ap (own_asked own way o) stand
      ∙ ap (λ h. cond h asked.Free (cond (own.goes way ms o) (asked.Room (record { 0 = (message_of p.message).band })) asked.Held)) (kind ∙ high)
      )

  -- or else, as the module says
  pub begins : is_high_priority peek.kind ≡ false → BeginsOrdinary (messages_on s k)
  begins low = subst BeginsOrdinary (sym stand) (kind ∙ low)

  pub asks-low : is_high_priority peek.kind ≡ false
      → cond {A = Asks} (own.goes way (messages_on s k) o) (asked.Room peek.band) asked.Held ≡ own_asked own way o (messages_on s k)
  asks-low low =
      let ms : List (Message ℕ) = message_of p.message ∷ map message_of p.rest in
      sym (
      ap (own_asked own way o) stand
      ∙ ap (λ h. cond h asked.Free (cond (own.goes way ms o) (asked.Room (record { 0 = (message_of p.message).band })) asked.Held)) (kind ∙ low)
      ∙ ap (λ g. cond g (asked.Room (record { 0 = (message_of p.message).band })) asked.Held) (ap (λ l. own.goes way l o) (sym stand))
      ∙ ap (λ b. cond {A = Asks} (own.goes way (messages_on s k) o) (asked.Room (record { 0 = b })) asked.Held) (band-is p.message ∙ sym p.seen.band)
      )
