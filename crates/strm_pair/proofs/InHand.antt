-- A message that was made while nobody is in a call is alone in hand, and the streams stay; so is one that was taken.
use Rattle.strm_pair.proofs.Prelude.{ℕ, ◌≡◌, ◌≤◌, ◌+◌, ◌∷◌, sym, ap, subst, ◌∙◌, arith}
use Rattle.strm_pair.specs.Prelude.{Fates, Spot, plain, most_of, Carried, tallied, Message, AreIdle, delivered, spare, State, StoreValue, held}
use Rattle.strm_pair.specs.Prelude.{in_hand, message_of, IsChain, Takes, Behaviour}
use Rattle.strm_pair.specs.declared.streams.Streams.{Streams}
use Rattle.strm_pair.specs.Alone.{IsAlone}
use Rattle.strm_pair.specs.Effects.{AreAtRest, Leads}
use Rattle.strm_pair.specs.Enabling.{AreFewEnabled}
use Rattle.strm_pair.specs.Framing.{rests, same-state, same-beside}
use Rattle.strm_pair.specs.Pairs.{state_in, Stays, kept_by}
use Rattle.strm_pair.proofs.Leading.{pool-both}

module _ (s t : StoreValue) (p : Streams) (at_rest : AreAtRest s p) (i : ℕ) (after : t ≡ held s i (in_hand t i)) where
  -- nothing is kept
  none-moved : Stays s t (kept_by p)
  none-moved = record {
    mblks = ap (λ (v : StoreValue). v.mblks) after;
    dblks = ap (λ (v : StoreValue). v.dblks) after;
    kept = λ j some. absurd (omega (arith, some, rests s p at_rest.held.beside at_rest.idle j));
  }

  pub made-state : state_in t p ≡ state_in s p
  made-state = same-state s t (ap (λ (v : StoreValue). v.lists) after) p at_rest.held.beside none-moved

  pub made-alone : IsChain (in_hand t i) → IsAlone t p i
  made-alone chain = record {
    hand = ap (λ (v : StoreValue). v.hand) after ∙ ap (λ h. record { name = i; chain = in_hand t i } ∷ h) at_rest.held.hand;
    chain = chain;
    beside = same-beside s t (ap (λ (v : StoreValue). v.lists) after) p at_rest.held.beside none-moved;
    idle = subst AreIdle (sym made-state) at_rest.idle;
    enabled = subst AreFewEnabled (sym made-state) at_rest.enabled;
  }

  -- what a delivery of it led to, by the message that it stands for
  pub made-leads : (K : Behaviour) (u : StoreValue) (q : Streams) (f f' : Fates) (to : Spot) (m : Message ℕ) → message_of (in_hand t i) ≡ m
      → (let is = delivered K plain to (message_of (in_hand t i)) (state_in t p) in Leads t u q f f' is.state is.gone)
      → (let is = delivered K plain to m (state_in s p) in Leads s u q f f' is.state is.gone)
  made-leads K u q f f' to m shows leads =
      let same = ap (delivered K plain to (message_of (in_hand t i))) made-state ∙ ap (λ (x : Message ℕ). delivered K plain to x (state_in s p))
      shows in
      record {
        state = leads.state ∙ ap (λ (o : Carried ℕ (State ℕ)). o.state) same;
        tells = leads.tells ∙ ap (λ (o : Carried ℕ (State ℕ)). tallied o.gone f) same;
        held = leads.held;
        pool = pool-both s t u (record { mblks = ap (λ (v : StoreValue). v.mblks) after; dblks = ap (λ (v : StoreValue). v.dblks) after }) leads.pool;
      }

  -- and what the books have left behind it, where that message becomes so many packets at most
  pub made-left : (u : StoreValue) (q : Streams) (to : Spot) (m : Message ℕ) (n : ℕ) → message_of (in_hand t i) ≡ m → most_of to m ≤ n
      → Takes t u (spare (state_in t p)) (spare (state_in u q)) (most_of to (message_of (in_hand t i))) 0 → spare (state_in s p) ≤ spare (state_in u q) + n
  made-left u q to m n shows few takes = omega (arith, takes.spare, ap spare made-state, ap (most_of to) shows, few)
