-- The calls of a turn of a module's queue as they are made over plain bytes: each goes as far as it may, or stops for want of blocks (srv(9E);
-- STREAMS Programming Guide, "Service Procedures").
use Rattle.std.specs.Prelude.{ℕ, ◌≡◌, ◌-◌, Bool, false, List, ◌++◌, slice_index_or, Option, None, Some}
use Rattle.strm_laws.specs.Prelude.{HOPS, Spot, plain, Acted, Carried, carried, in_turn, Ends, disciplined, Discipline, new_ldterm, at_place}
use Rattle.strm_laws.specs.Prelude.{act_among, new_pair}
use Rattle.strm_types.specs.Ldterms.{Ldterm}
use Rattle.strm_laws.specs.Behaviours.{Behaviour}
use Rattle.strm_laws.specs.Puts.{module_acted, put_in}
use Rattle.strm_laws.specs.Stacked.{Module, OfLdterm, Standing, module_serves}
use Rattle.strm_laws.specs.State.{State, stream}

-- The line discipline that a module is, beside its queues. In one of another kind nothing is ever under way, as in a new one.
abbrev pub ldterm_of : Module ℕ → Ldterm ℕ
ldterm_of (OfLdterm l) = l
ldterm_of part = new_ldterm

-- and with them
abbrev pub discipline_of : Standing ℕ → Discipline ℕ
discipline_of x = disciplined (ldterm_of x.part) x.queues

-- what stands where no module does
abbrev pub none_there : Standing ℕ
none_there = record { part = OfLdterm new_ldterm; queues = Some new_pair }

module _ (here : Spot) where
  -- the module at a place
  abbrev pub module_at : State ℕ → Standing ℕ
  module_at s = slice_index_or (stream here.side s).modules (here.at - 1) none_there

  module _ (K : Behaviour) (again : Bool) (stop : Option ℕ) where
    -- a call as a store makes it: what the modules do, how many bytes it treated, and whether it asks for another one
    abbrev pub called : List (Standing ℕ) → Acted ℕ (List (Standing ℕ))
    called ps = act_among (λ p. (module_serves K plain here 0 again stop p).acted) (here.at - 1) ps

    abbrev pub treated : List (Standing ℕ) → ℕ
    treated ps = at_place (λ p. (module_serves K plain here 0 again stop p).bytes) 0 here.at ps

    abbrev pub asks_on : List (Standing ℕ) → Bool
    asks_on ps = at_place (λ p. (module_serves K plain here 0 again stop p).again) false here.at ps

  -- Where a call stops, it did so at what it treated, and what had begun is among that.
  abbrev pub Stopped : Behaviour → Bool → State ℕ → Option ℕ → Type 0
  Stopped K again s None = Unit {0}
  Stopped K again s (Some bytes) =
      (bytes ≡ treated K again (Some bytes) (stream here.side s).modules) × Ends here.way again (discipline_of (module_at s)) bytes

-- what a call leads to, with what it sent
abbrev pub led : Behaviour → Spot → Bool → Option ℕ → State ℕ → Carried ℕ (State ℕ)
led K here again stop s =
    let t = module_acted here (called here K again stop (stream here.side s).modules) s in
    let u = in_turn (carried (put_in K plain) HOPS) t.sent t.state in
    record { state = u.state; gone = t.gone ++ u.gone }
