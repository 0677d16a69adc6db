-- The modules that may stand on a stream, beside a store: each is what one of its kind is by itself.
use Rattle.std.specs.Prelude.{ℕ, ◌≡◌, Bool, false, true, List, [], ◌∷◌, map, Option, None, Some, is_some}
use Rattle.std.specs.List.{AllByRecursion}
use Rattle.std.proofs.Common.{refl, ap}
use Rattle.strm_pair.specs.Prelude.{ModuleName, Way, Up, Spot, plain, disciplined, Message, have_queues, has_queues, stood, Module, OfLdterm, OfPtem}
use Rattle.strm_pair.specs.Prelude.{Behaviour, OfOwn, OfPckt}
use Rattle.strm_pair.specs.Prelude.{Standing, kind_name, module_name, module_puts, module_serves, without_kind_line, ldterm_of, StoreValue, SameOwn}
use Rattle.strm_pair.specs.Prelude.{Fits, keeps_of, owns, queues_in, queues_own, standing_in, own-rests, ptem_in, pckt_in}
use Rattle.strm_types.specs.Standings.{QueuePair}
use Rattle.strm_laws.specs.Behaviours.{own_by}
use Rattle.strm_laws.specs.Pushes.{is_known, kind_named}
use Rattle.strm_frame.specs.declared.queue_pair.QueuePair as frame
use Rattle.strm_frame.specs.declared.standing.Standing as standing
use Rattle.strm_frame.specs.StandingLaws.{none-same, standing-frame}
use Rattle.strm_frame.specs.Standings.{lists_of}
use Rattle.strm_ldterm.specs.Bounds as bounds
use Rattle.strm_ldterm.specs.Frames.{own-frame, own-rested}
use Rattle.strm_ldterm.specs.Served.{MayBeServed}
use Rattle.strm_ldterm.specs.ServedLaws.{either-served, line-served, puts-served, serves-served}
use Rattle.strm_ldterm.specs.Stands as stands
use Rattle.strm_own.specs.Stands.{HasQueues}
use Rattle.strm_own.specs.StandsLaws.{has-same, own-once}
use Rattle.strm_pair.specs.declared.modules.AnyModule.{AnyModule}
use Rattle.strm_pair.specs.declared.modules.AnyModule.TheVariants as kinds

-- Whether its service procedure may be called. One of a user's own has no message in work, which a turn of a read queue would go on with. ptem and
-- pckt have none, and a call does nothing.
abbrev pub MayServe : Way → Bool → Module ℕ → Type 0
MayServe way again (OfLdterm l) = MayBeServed way again l
MayServe way again (OfOwn o) = way ≡ Up → again ≡ false
MayServe way again other = Unit {0}

-- how many blocks of each kind a call of it may count on; none of ptem or pckt is ever made
abbrev pub kind_cost : Spot → Bool → Module ℕ → ℕ
kind_cost here again p = bounds.turn_cost here again (ldterm_of p)

-- what it stands for
abbrev pub kind_in : StoreValue → AnyModule → Module ℕ
kind_in s (kinds.Ldterm x) = OfLdterm (stands.own_in s x)
kind_in s (kinds.Ptem x) = OfPtem (ptem_in x)
kind_in s (kinds.Pckt x) = OfPckt pckt_in
kind_in s (kinds.Own o) = OfOwn o

-- What it has in hand fits the store and its queues: ldterm has them and may have some in hand, one of a user's own has them where its number says.
abbrev pub IsKindHeld : StoreValue → AnyModule → Option frame.QueuePair → Type 0
IsKindHeld s (kinds.Ldterm x) queues = stands.HasInHand s x queues
IsKindHeld s (kinds.Ptem x) queues = queues ≡ None
IsKindHeld s (kinds.Pckt x) queues = queues ≡ None
IsKindHeld s (kinds.Own o) queues = HasQueues o queues

-- how often it keeps a message of a name in hand
abbrev pub kind_keeps : AnyModule → ℕ → ℕ
kind_keeps (kinds.Ldterm x) i = stands.keeps_itself x i
kind_keeps (kinds.Ptem x) i = 0
kind_keeps (kinds.Pckt x) i = 0
kind_keeps (kinds.Own o) i = 0

-- One that was just made keeps nothing in hand, and fits any queues where those of its name have queues, and else none.
abbrev pub FitsAny : Bool → AnyModule → Type 0
FitsAny b x = (s : StoreValue) (queues : Option frame.QueuePair) → is_some queues ≡ b → IsKindHeld s x queues

pub record IsFresh (name : ModuleName) (x : AnyModule) : Type 0 where
  pub held : FitsAny (have_queues name) x
  pub rests : (i : ℕ) → kind_keeps x i ≡ 0

-- There are modules of a name, and one was just made.
pub record IsMade (K : Behaviour) (name : ModuleName) (x : AnyModule) : Type 0 where
  pub known : is_known K name ≡ true
  pub made : (s : StoreValue) → kind_in s x ≡ kind_named K name
  pub fresh : IsFresh name x

-- nothing of an unfinished line is left in it
abbrev pub IsBare : AnyModule → Type 0
IsBare (kinds.Ldterm x) = x.line ≡ []
IsBare (kinds.Ptem x) = Unit {0}
IsBare (kinds.Pckt x) = Unit {0}
IsBare (kinds.Own o) = Unit {0}

-- the same of a module where it stands, with its queues
abbrev pub AnyStanding : Type 0
AnyStanding = standing.Standing AnyModule

abbrev pub module_in : StoreValue → AnyStanding → Standing ℕ
module_in s x = standing_in kind_in s x

abbrev pub IsHeld : StoreValue → AnyStanding → Type 0
IsHeld s x = Fits IsKindHeld s x

abbrev pub keeps : AnyStanding → ℕ → ℕ
keeps x i = keeps_of kind_keeps x i

abbrev pub turn_cost : Spot → Bool → Standing ℕ → ℕ
turn_cost here again x = kind_cost here again x.part

-- It stands for the same, and fits, where its queues' lists are the same and what it keeps is.
pub module-frame : (s t : StoreValue) (x : AnyModule) (queues others : Option frame.QueuePair) → lists_of others ≡ lists_of queues
    → SameOwn s t (queues_own queues) (kind_keeps x) → IsKindHeld s x queues → (kind_in t x ≡ kind_in s x) × IsKindHeld t x others
module-frame s t (kinds.Ldterm x) queues others lists same held =
    let r = own-frame s t x queues others lists (record { lists = same.lists; mblks = same.mblks; dblks = same.dblks; kept = same.kept }) held in (ap OfLdterm r.0, r.1)
module-frame s t (kinds.Ptem x) queues others lists same held = (refl, none-same queues others lists held)
module-frame s t (kinds.Pckt x) queues others lists same held = (refl, none-same queues others lists held)
module-frame s t (kinds.Own o) queues others lists same held = (refl, has-same o queues others lists held)

-- and where it keeps nothing, whatever stands on them
pub module-rested : (s t : StoreValue) (x : AnyModule) (queues others : Option frame.QueuePair) → lists_of others ≡ lists_of queues
    → ((i : ℕ) → kind_keeps x i ≡ 0) → IsKindHeld s x queues → (kind_in t x ≡ kind_in s x) × IsKindHeld t x others
module-rested s t (kinds.Ldterm x) queues others lists none held = let r = own-rested s t x queues others lists none held in (ap OfLdterm r.0, r.1)
module-rested s t (kinds.Ptem x) queues others lists none held = (refl, none-same queues others lists held)
module-rested s t (kinds.Pckt x) queues others lists none held = (refl, none-same queues others lists held)
module-rested s t (kinds.Own o) queues others lists none held = (refl, has-same o queues others lists held)

pub any-frame : (s t : StoreValue) (x : AnyStanding) → SameOwn s t (owns x) (keeps x) → IsHeld s x
    → (module_in t x ≡ module_in s x) × IsHeld t x
any-frame s t x same held = standing-frame kind_in IsKindHeld kind_keeps module-frame s t x same held

-- It has queues where those of its name have.
abbrev pub HasAsNamed : Standing ℕ → Type 0
HasAsNamed p = has_queues p ≡ have_queues (module_name p)

kind-has : (s : StoreValue) (x : AnyModule) (queues : Option frame.QueuePair) → IsKindHeld s x queues → is_some (queues_in s queues) ≡ have_queues (kind_name (kind_in s x))
kind-has s (kinds.Ldterm x) None held = absurd held
kind-has s (kinds.Ldterm x) (Some pair) held = refl
kind-has s (kinds.Ptem x) queues held = ap (λ o. is_some (queues_in s o)) held
kind-has s (kinds.Pckt x) queues held = ap (λ o. is_some (queues_in s o)) held
kind-has s (kinds.Own o) None held = held
kind-has s (kinds.Own o) (Some pair) held = held

pub any-has : (s : StoreValue) (x : AnyStanding) → IsHeld s x → HasAsNamed (module_in s x)
any-has s x held = kind-has s x.module x.queues held.itself

pub all-have : (s : StoreValue) (xs : List AnyStanding) → AllByRecursion (IsHeld s) xs
    → AllByRecursion HasAsNamed (map (module_in s) xs)
all-have s [] held = tt
all-have s (x ∷ xs) held = (any-has s x held.0, all-have s xs held.1)

-- where a turn may begin it keeps nothing
pub serves-rests : (s : StoreValue) (x : AnyModule) (queues : Option frame.QueuePair) (way : Way) (i : ℕ) → IsKindHeld s x queues → MayServe way false (kind_in s x) → kind_keeps x i ≡ 0
serves-rests s (kinds.Ldterm x) queues way i held may = own-rests s x queues way i held may
serves-rests s (kinds.Ptem x) queues way i held may = refl
serves-rests s (kinds.Pckt x) queues way i held may = refl
serves-rests s (kinds.Own o) queues way i held may = refl

-- A turn of either queue may begin where none is under way; behind a call one may begin, or the call is made again; and a put or a line that is gone leave
-- it so.
pub either-serves : (way at : Way) (p : Module ℕ) → MayServe way false p → MayServe at false p
either-serves way at (OfLdterm l) may = either-served way at l may
either-serves way at (OfOwn o) may = λ up. refl
either-serves way at other may = tt

pub serves-on : (K : Behaviour) (here : Spot) (again : Bool) (stop : Option ℕ) (p : Module ℕ) (queues : Option (QueuePair ℕ))
    → MayServe here.way again p
    → (let t = module_serves K plain here 0 again stop (stood p queues) in MayServe here.way t.again t.acted.state.part)
serves-on K here again stop (OfLdterm l) queues may = serves-served plain here 0 again stop (disciplined l queues) may
serves-on K here again stop (OfOwn o) queues may = λ up. own-once (own_by K plain) here (stood o queues)
serves-on K here again stop other queues may = tt

pub puts-serve : (K : Behaviour) (here : Spot) (m : Message ℕ) (way : Way) (again : Bool) (p : Module ℕ) (queues : Option (QueuePair ℕ))
    → MayServe way again p
    → MayServe way again (module_puts K plain 0 here m (stood p queues)).state.part
puts-serve K here m way again (OfLdterm l) queues may = puts-served here m way again (disciplined l queues) may
puts-serve K here m way again other queues may = may

pub line-serves : (way : Way) (again : Bool) (p : Module ℕ) → MayServe way again p → MayServe way again (without_kind_line p)
line-serves way again (OfLdterm l) may = line-served way again l may
line-serves way again other may = may
