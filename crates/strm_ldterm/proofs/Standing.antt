-- The module where it stands, in the frame's words: with the queues that its stream gives it.
use Rattle.strm_ldterm.proofs.Prelude.{ℕ, ◌≡◌, true, sym, ap, subst, Option, None, Some}
use Rattle.strm_ldterm.specs.Prelude.{Fates, Spot, own_at, plain, ldterm_puts, Ends, as_stands, is_held, ldterm_does, StoreValue, FreesNone, Acts}
use Rattle.strm_ldterm.specs.Prelude.{QueuePair, Served, message_in, stop_of}
use Rattle.std.specs.Prelude.{Bool}
use Rattle.strm_types.specs.LdtermStands.{discipline_at, puts_there, serves_there}
use Rattle.strm_types.specs.Standings.{of_part}
use Rattle.strm_frame.specs.Does as frame
use Rattle.strm_frame.specs.Standings.{Fits, keeps_of, owns, standing, standing_in}
use Rattle.strm_ldterm.specs.declared.ldterm.Ldterm.{Ldterm}
use Rattle.strm_ldterm.specs.Bounds.{turn_cost}
use Rattle.strm_ldterm.specs.Does.{Puts}
use Rattle.strm_ldterm.specs.Stands.{HasInHand, IsHeld, keeps_itself, ldterm_in, own_in, paired}

-- without queues it fits no store
pub never-bare : (s : StoreValue) (x : Ldterm) (queues : Option QueuePair) → queues ≡ None → Fits HasInHand s (standing x queues) → ⊥
never-bare s x queues none fits = subst (HasInHand s x) none fits.itself

module _ (s : StoreValue) (x : Ldterm) (pair : QueuePair) where
  -- with them it fits as its procedures want it, and the other way round
  pub there-held : Fits HasInHand s (standing x (Some pair)) → IsHeld s (paired x pair)
  there-held fits = record {
    read = fits.queues.read;
    write = fits.queues.write;
    apart = fits.queues.apart;
    work = fits.itself.work;
    gathers = fits.itself.gathers;
    echoes = fits.itself.echoes;
    once_each = fits.itself.once_each;
  }

  pub held-there : IsHeld s (paired x pair) → Fits HasInHand s (standing x (Some pair))
  held-there held = record {
    queues = record { read = held.read; write = held.write; apart = held.apart };
    itself = record { work = held.work; gathers = held.gathers; echoes = held.echoes; once_each = held.once_each };
  }

pub stands-held : (s : StoreValue) (x : Ldterm) (queues : Option QueuePair) (pair : QueuePair) → queues ≡ Some pair → Fits HasInHand s (standing x queues) → IsHeld s (paired x pair)
stands-held s x queues pair is fits = there-held s x pair (subst (λ q. Fits HasInHand s (standing x q)) is fits)

-- a put
module _ (s t : StoreValue) (x x' : Ldterm) (pair pair' : QueuePair) (here : Spot) (n : ℕ) (acts : Acts) (f f' : Fates) where
  abbrev PutsAt : Option QueuePair → Type 0
  PutsAt queues =
      let m = message_in s n in
      let y = standing x queues in
      frame.Puts (standing_in own_in) (Fits HasInHand) owns (keeps_of keeps_itself) s t y (standing x' (Some pair')) true n (own_at ldterm_does here m) acts f f'
      (puts_there here m (standing_in own_in s y))

  pub puts-stand : (queues : Option QueuePair) → queues ≡ Some pair
      → Puts s t (paired x pair) (paired x' pair') n (own_at ldterm_does here (message_in s n)) acts f f' (ldterm_puts here (message_in s n) (ldterm_in s (paired x pair)))
      → (is_held (message_in s n).kind ≡ true → FreesNone s t) → PutsAt queues
  puts-stand queues is e blocks = subst PutsAt (sym is) (record {
    state = ap as_stands e.state;
    notes = e.notes;
    sent = e.sent;
    told = e.told;
    held = held-there t x' pair' e.held;
    own = record { lists = e.own.lists; owns_same = e.own.owns_same };
    chains = e.chains;
    hands = record { counts = e.hands.counts; others = e.hands.others };
    spends = e.spends;
    blocks = λ holds. blocks;
    pool = e.pool;
  })

-- a call of its service procedure, from queues to others
abbrev pub ServesAt : (s t : StoreValue) → (x y : Ldterm) → Option QueuePair → QueuePair → Spot → Bool → Served → (f f' : Fates) → Type 0
ServesAt s t x y queues pair here again r f f' =
    let z = standing x queues in
    frame.Serves (standing_in own_in) (Fits HasInHand) owns (keeps_of keeps_itself) (of_part (turn_cost here true)) (λ bytes p. Ends here.way again (discipline_at p) bytes)
    s t z (standing y (Some pair)) r f f' (serves_there plain here 0 again (stop_of r) (standing_in own_in s z))
