-- Messages that come to stand on a queue of a pair with their blocks, so that none becomes free (put(9E), putq(9F)).
use Rattle.std.specs.Prelude.{ℕ, ◌≡◌, ◌<◌, true, List, [], ◌∷◌}
use Rattle.std.proofs.Common.{sym, subst}
use Rattle.strm_pair.specs.Prelude.{Side, Way, Down, Spot, plain, Parcel, Message, is_held, IsKeptAhead, put_in, State, StoreValue, FreesNone}
use Rattle.strm_pair.specs.Prelude.{StaysAlone, message_in, Behaviour}
use Rattle.strm_laws.proofs.Staying.{SentOn, kept-ahead, puts-go, puts-same, puts-stand-there}
use Rattle.strm_pair.specs.declared.streams.Streams.{Streams}
use Rattle.strm_pair.specs.Pairs.{state_in}

-- An M_DATA or M_PROTO that is put at a spot and is kept ahead: one that goes down is below the head.
pub record ComesToStand (s : State ℕ) (to : Spot) (m : Message ℕ) : Type 0 where
  pub held : is_held m.kind ≡ true
  pub below : to.way ≡ Down → 0 < to.at
  pub kept : IsKeptAhead to.way to.side s

-- such a message frees no block
abbrev pub KeepsBlocks : (old new : StoreValue) → Streams → Spot → ℕ → Type 0
KeepsBlocks old new p to message = ComesToStand (state_in old p) to (message_in old message) → FreesNone old new

-- What is sent on from a spot, where it is one such message or none, stays.
pub sent-stays : (to : Spot) (s : State ℕ) (ps : List (Parcel ℕ)) → SentOn to ps → IsKeptAhead to.way to.side s → StaysAlone ComesToStand s ps
sent-stays to s [] on kept = tt
sent-stays to s (x ∷ []) on kept = record {
  held = on.0;
  below = on.3;
  kept = subst (λ (w : Way). IsKeptAhead w x.to.side s) (sym on.2) (subst (λ (sd : Side). IsKeptAhead to.way sd s) (sym on.1) kept);
}
sent-stays to s (x ∷ y ∷ more) on kept = absurd on

-- It waits there, or goes on as one.
pub comes-on : (K : Behaviour) (to : Spot) (m : Message ℕ) (s : State ℕ) → ComesToStand s to m
    → let t = put_in K plain to m s in StaysAlone ComesToStand t.state t.sent
comes-on K to m s is =
    let t = put_in K plain to m s in
    sent-stays to t.state t.sent (puts-go to m is.held K s)
    (kept-ahead to.way to.side s t.state (puts-same K to m s) (puts-stand-there K to m s) is.kept)
