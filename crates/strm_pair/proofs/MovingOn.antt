-- A turn that moved something treated its message whole, or a byte of it at least.
use Rattle.strm_pair.proofs.Prelude.{ℕ, zero, suc, ◌≡◌, ◌≤◌, ◌<◌, ◌-◌, Bool, true, false, cond, List, [], ◌∷◌, length, map, take, inl, inr, refl, sym}
use Rattle.strm_pair.proofs.Prelude.{ap}
use Rattle.strm_pair.proofs.Prelude.{◌+◌, ◌*◌, ◌==◌}
use Rattle.strm_pair.proofs.Prelude.{subst, ◌∙◌, arith, ◌&&◌, nat_le, nat_lt, not, slice_index_or, Some, Option, None, nat_tests, FullFirst}
use Rattle.strm_pair.proofs.Prelude.{kept-ahead, kind-is}
use Rattle.strm_pair.specs.Prelude.{Turn, Moved, Blocked, Idle, MsgKind, STOP_BLOCKS, Data, Place, Driver, ModuleName, QueueName, Way, Spot, plain}
use Rattle.strm_pair.specs.Prelude.{is_data_kind, is_data, bytes_left, Message, at_place, messages_at, is_open, other, first_size, disciplined}
use Rattle.strm_pair.specs.Prelude.{have_queues, same_module, named_from, places_of, Standing, module_name, MODULES}
use Rattle.strm_pair.specs.Prelude.{moved_by, place_named, IsKeptAhead, MovesOn, Free, enough, State, Stream, stream, discipline_of, module_at}
use Rattle.strm_pair.specs.Prelude.{module_serves, module_turn_ended, moved_on, Module, OfLdterm, OfPtem, OfPckt, OfOwn, stood}
use Rattle.strm_pair.specs.Prelude.{none_there, ldterm_of, TurnOutcome, stayed_put, driver_serves, driver_turned, is_stopped_across, moved_across}
use Rattle.strm_pair.specs.Prelude.{Block, StoreValue, free_d, free_m, list_at, message_of, least_free, QueuePair, queues_in, Behaviour}
use Rattle.std.specs.List.{AllByRecursion}
use Rattle.std.specs.Prelude.{unwrap_or}
use Rattle.std.proofs.Math.Nat.{le-min}
use Rattle.strm_types.specs.declared.names.Place.TheVariants as places
use Rattle.strm_types.specs.Ldterms as ldterms
use Rattle.strm_types.specs.declared.names.ModuleName.TheVariants as names
use Rattle.strm_types.specs.Owns.{Own}
use Rattle.strm_laws.specs.Behaviours.{own_by}
use Rattle.strm_laws.specs.ModuleTurns.{Calls, again_at, bytes_at, calls, made_below, whole_module}
use Rattle.strm_laws.specs.Stacked.{kind_name}
use Rattle.strm_laws.specs.Turns.{whole_at}
use Rattle.strm_types.proofs.EnabledNames.{same_module-sound}
use Rattle.strm_laws.proofs.ModuleTurnCalls.{first-left, index-map}
use Rattle.strm_msg.proofs.MadePlain.{booked-data}
use Rattle.strm_pair.specs.declared.streams.Streams.{Streams}
use Rattle.strm_pair.specs.AnyModules.{AnyStanding, IsHeld, any-has, kind_in, module_in}
use Rattle.strm_pair.specs.Stacks.{IsStackHeld}
use Rattle.strm_pair.specs.ModuleTurned.{MayMove}
use Rattle.strm_pair.specs.ModuleServed.{StopsFew}
use Rattle.strm_pair.specs.Pairs.{end_at, free_in, state_in}
use Rattle.strm_pair.proofs.CallsOn.{Full}
use Rattle.strm_pair.proofs.OwnCalls.{own-over, own-whole}
use Rattle.strm_pair.proofs.Sides.{modules-are}

-- a store's M_DATA is made of cells alone
typed-data : (kind : MsgKind) → is_data kind ≡ true → is_data_kind kind ≡ true
unfolding is_data_kind
typed-data Data is = refl
typed-data _ is = absurd (cc)

module _ (here : Spot) where
  full-first : (q : List (List Block)) → FullFirst (map message_of q)
  full-first [] = tt
  full-first (chain ∷ q) = λ is. booked-data chain (typed-data _ (sym (ap is_data (kind-is chain)) ∙ is))

  pair-full : (s : StoreValue) (l : ldterms.Ldterm ℕ) (queues : Option QueuePair) → let d = disciplined l (queues_in s queues) in FullFirst d.read_queue.messages × FullFirst d.write_queue.messages
  pair-full s l None = (tt, tt)
  pair-full s l (Some pair) = (full-first (list_at s pair.read.list), full-first (list_at s pair.write.list))

  full-one : (s : StoreValue) (x : AnyStanding) → IsHeld s x → Full (module_in s x)
  full-one s x held = let full = pair-full s (ldterm_of (kind_in s x.module)) x.queues in (full.0, full.1, any-has s x held)

  full-among : (s : StoreValue) (i : ℕ) (xs : List AnyStanding) → AllByRecursion (IsHeld s) xs → Full (slice_index_or (map (module_in s) xs) i none_there)
  full-among s i [] held = (tt, tt, refl)
  full-among s zero (x ∷ xs) held = full-one s x held.0
  full-among s (suc i) (x ∷ xs) held = full-among s i xs held.1

  pub full-at : (s : StoreValue) (p : Streams) → IsStackHeld s (end_at here.side p).stack → Full (module_at here (state_in s p))
  full-at s p held =
      subst (λ ms. Full (slice_index_or ms (here.at - 1) none_there)) (sym (modules-are s p here.side)) (full-among s (here.at - 1) (end_at here.side p).stack.modules.items held.each)

whole-found : (owner : ModuleName) (way : Way) (on : Stream ℕ) (at : ℕ) → place_named (places.Module owner) on.modules ≡ Some at → whole_module (places.Module owner) way on ≡ Moved (at_place (λ p. first_size (messages_at way p)) 0 at on.modules)
whole-found owner way on at is = rw is refl

-- a module whose queues are found has some
found-has : (owner : ModuleName) (from : ℕ) (ps : List (Standing ℕ)) (at : ℕ) → named_from (places.Module owner) from (places_of ps) ≡ Some at → have_queues owner ≡ true
found-has owner from [] at is = absurd (cc)
found-has owner from (p ∷ ps) at is =
    by (module_name p) (have_queues (module_name p)) refl (same_module (module_name p) owner) refl (λ more. found-has owner (suc from) ps at more) is
  where
    behind : Option ℕ
    behind = named_from (places.Module owner) (suc from) (places_of ps)

    by : (name : ModuleName) (has : Bool) → have_queues name ≡ has → (same : Bool) → same_module name owner ≡ same → (behind ≡ Some at → have_queues owner ≡ true)
        → named_from (places.Module owner) from (cond has (Some (places.Module name)) None ∷ places_of ps) ≡ Some at → have_queues owner ≡ true
    by name false none same alike more is = more is
    by name true has true alike more is = subst (λ n. have_queues n ≡ true) (same_module-sound name owner alike) has
    by name true has false alike more is = more (sym (ap (λ b. cond b (Some from) behind) alike) ∙ is)

-- a turn that treats as many bytes as there are goes whole
size-whole : (owner : ModuleName) (name : QueueName) (here : Spot) (s : State ℕ) (n : ℕ) → name.place ≡ places.Module owner → here ≡ record { side = name.side; at = here.at; way = name.way } → place_named name.place (stream name.side s).modules ≡ Some here.at
    → here.at - 1 < length (stream here.side s).modules → bytes_left here.way false (discipline_of (module_at here s)) ≡ n → Moved n ≡ whole_at name.place name.way (stream name.side s)
size-whole owner name here s n place named found low left =
    let side = ap (λ (h : Spot). h.side) named in
    let way = ap (λ (h : Spot). h.way) named in
    let there = subst (λ w. at_place (λ p. first_size (messages_at w p)) 0 here.at (stream here.side s).modules ≡ n) way (first-left here s low ∙ left) in
    let size = subst (λ sd. at_place (λ p. first_size (messages_at name.way p)) 0 here.at (stream sd s).modules ≡ n) side there in
    sym (ap (λ (pl : Place). whole_at pl name.way (stream name.side s)) place
    ∙ whole-found owner name.way (stream name.side s) here.at (subst (λ (pl : Place). place_named pl (stream name.side s).modules ≡ Some here.at) place found)
    ∙ ap Moved size)

-- few blocks aren't enough
least-enough : (t : StoreValue) → least_free t < STOP_BLOCKS → enough STOP_BLOCKS (free_in t) ≡ false
least-enough t few = at (nat_le STOP_BLOCKS (free_m t)) refl (nat_le STOP_BLOCKS (free_d t)) refl
  where
    at : (a : Bool) → nat_le STOP_BLOCKS (free_m t) ≡ a → (b : Bool) → nat_le STOP_BLOCKS (free_d t) ≡ b → (a && b) ≡ false
    at false one b two = refl
    at true one false two = refl
    at true one true two =
        let first : STOP_BLOCKS ≤ free_m t = grind (arith, nat_tests, one) in
        let second : STOP_BLOCKS ≤ free_d t = grind (arith, nat_tests, two) in
        let low : STOP_BLOCKS ≤ least_free t = le-min first second in
        absurd (omega (arith, low, few))

-- the module that is found has the name
found-name : (owner : ModuleName) (n from : ℕ) (ps : List (Standing ℕ)) (at : ℕ) → named_from (places.Module owner) from (places_of (take n ps)) ≡ Some at
    → (from ≤ at) × (module_name (slice_index_or ps (at - from) none_there) ≡ owner)
found-name owner zero from ps at is = absurd (cc)
found-name owner (suc n) from [] at is = absurd (cc)
found-name owner (suc n) from (p ∷ ps) at is =
    by (module_name p) refl (have_queues (module_name p)) (same_module (module_name p) owner) refl (λ more. found-name owner n (suc from) ps at more) is
  where
    behind : Option ℕ
    behind = named_from (places.Module owner) (suc from) (places_of (take n ps))

    Found : Type 0
    Found = (from ≤ at) × (module_name (slice_index_or (p ∷ ps) (at - from) none_there) ≡ owner)

    later : (suc from ≤ at) × (module_name (slice_index_or ps (at - suc from) none_there) ≡ owner) → Found
    later found =
        let less = found.0 in
        let next : at - from ≡ suc (at - suc from) = omega (arith, less) in
        (omega (arith, less), ap (λ i. module_name (slice_index_or (p ∷ ps) i none_there)) next ∙ found.1)

    by : (name : ModuleName) → module_name p ≡ name → (has same : Bool) → same_module name owner ≡ same
        → (behind ≡ Some at → (suc from ≤ at) × (module_name (slice_index_or ps (at - suc from) none_there) ≡ owner))
        → named_from (places.Module owner) from (cond has (Some (places.Module name)) None ∷ places_of (take n ps)) ≡ Some at → Found
    by name named false same alike more is = later (more is)
    by name named true true alike more is =
        let here : Some from ≡ Some at = sym (ap (λ b. cond b (Some from) behind) alike) ∙ is in
        let there : from ≡ at = ap (λ (o : Option ℕ). unwrap_or o 0) here in
        let none : at - from ≡ 0 = omega (arith, there) in
        (omega (arith, there), ap (λ i. module_name (slice_index_or (p ∷ ps) i none_there)) none ∙ named ∙ same_module-sound name owner alike)
    by name named true false alike more is = later (more (sym (ap (λ b. cond b (Some from) behind) alike) ∙ is))

-- One of a user's own treats the first message whole, in one call.
own-once : (K : Behaviour) (here : Spot) (way : Way) (made : ℕ) (again : Bool) (left : ℕ) (p : Standing ℕ) (o : Own) → p.part ≡ OfOwn o
    → let t = module_serves K plain (record here { way = way }) made again (Some left) p in
    (t.again ≡ false) × (bytes_left way again (discipline_of p) ≤ t.bytes)
own-once K here way made again left p o is =
    subst
    (λ part. let q = stood part p.queues in let t = module_serves K plain (record here { way = way }) made again (Some left) q in (t.again ≡ false) × (bytes_left way again (discipline_of q) ≤ t.bytes))
    (sym is) (own-over (own_by K plain) here way o p.queues, own-whole (own_by K plain) here way again o p.queues)

-- so a turn of it is over behind one call, and as far as it goes
abbrev bytes_of_turn : Turn → ℕ
bytes_of_turn (Moved n) = n
bytes_of_turn Blocked = 0
bytes_of_turn Idle = 0

one-over : (again : Bool) (one another : Calls ℕ) (n : ℕ) → again ≡ false → another.ended ≡ true → n ≤ another.bytes
    → let t = cond again one another in (t.ended ≡ true) × (n ≤ t.bytes)
one-over true one another n over ended few = absurd (cc)
one-over false one another n over ended few = (ended, few)

module _ (K : Behaviour) (name : QueueName) (here : Spot) (s : State ℕ) (o : Own) (low : here.at - 1 < length (stream here.side s).modules) (own : (module_at here s).part ≡ OfOwn o) where
  one-call : (more bytes : ℕ) → let t = calls K plain here (suc more) false bytes s in (t.ended ≡ true) × (bytes_left here.way false (discipline_of (module_at here s)) ≤ t.bytes)
  one-call more bytes =
      let i = here.at - 1 in
      let ps = (stream here.side s).modules in
      let made = made_below here.side s in
      let once = own-once K here here.way made false bytes (module_at here s) o own in
      let over = index-map none_there (λ p. (module_serves K plain here made false (Some bytes) p).again) false i ps low ∙ once.0 in
      let long = index-map none_there (λ p. (module_serves K plain here made false (Some bytes) p).bytes) 0 i ps low in
      let few : bytes_left here.way false (discipline_of (module_at here s)) ≤ bytes_at K plain here made false bytes ps = omega (arith, once.1, long) in
      one-over (again_at K plain here made false bytes ps) _ _ _ over refl few

  own-all : (bytes : ℕ) → (moved_on K plain here name bytes s).turn ≡ Moved bytes → bytes_left here.way false (discipline_of (module_at here s)) ≤ bytes
  own-all bytes moved =
      let more : 3 * bytes + 1 ≡ suc (3 * bytes) = omega arith in
      let one = subst (λ n. let t = calls K plain here n false bytes s in (t.ended ≡ true) × (bytes_left here.way false (discipline_of (module_at here s)) ≤ t.bytes)) (sym more) (one-call (3 * bytes) bytes) in
      let t = calls K plain here (3 * bytes + 1) false bytes s in
      let told = ap (λ ended. (cond {A = TurnOutcome ℕ} ended (record { turn = Moved t.bytes; state = module_turn_ended name here (not (t.bytes == 0)) t.state; gone = t.gone }) (stayed_put Blocked s)).turn) (sym one.0) in
      let all = ap bytes_of_turn (told ∙ moved) in
      omega (arith, one.1, all)

-- a turn of a module's queue
pub serves-moves : (K : Behaviour) (name : QueueName) (here : Spot) (old begun : State ℕ) (t : StoreValue) (bytes : ℕ) → MayMove K old begun name here
    → (moved_on K plain here name bytes begun).turn ≡ Moved bytes → bytes ≤ bytes_left here.way false (discipline_of (module_at here begun))
    → (bytes ≡ 0 → bytes_left here.way false (discipline_of (module_at here begun)) ≡ 0) → StopsFew here bytes begun t → (owner : ModuleName) → name.place ≡ places.Module owner → MovesOn old (free_in t) name (Moved bytes)
serves-moves K name here old begun t bytes may moved within some few owner place = at (nat_lt bytes left) refl
  where
    left : ℕ
    left = bytes_left here.way false (discipline_of (module_at here begun))

    found : place_named (places.Module owner) (stream name.side old).modules ≡ Some here.at
    found = subst (λ (pl : Place). place_named pl (stream name.side old).modules ≡ Some here.at) place may.found

    side : here.side ≡ name.side
    side = ap (λ (h : Spot). h.side) may.named

    low : here.at - 1 < length (stream here.side old).modules
    low = let inside = may.inside in let within = may.within in omega (arith, inside, within)

    ahead : IsKeptAhead name.way name.side old → IsKeptAhead here.way here.side begun
    ahead kept =
        let there = subst (λ sd. IsKeptAhead name.way sd old) (sym side) kept in
        subst (λ v. IsKeptAhead here.way here.side v) (sym may.stays) (subst (λ w. IsKeptAhead w here.side old) (sym (ap (λ (h : Spot). h.way) may.named)) there)

    called : module_name (module_at here begun) ≡ owner
    called =
        ap (λ (v : State ℕ). module_name (module_at here v)) may.stays
        ∙ ap (λ sd. module_name (slice_index_or (stream sd old).modules (here.at - 1) none_there)) side
        ∙ (found-name owner MODULES 1 (stream name.side old).modules here.at found).1

    -- ldterm alone stops within a message
    ldterm : (part : Module ℕ) → (module_at here begun).part ≡ part → bytes < left → owner ≡ names.Ldterm
    ldterm (OfLdterm l) is less = sym called ∙ ap (λ (part : Module ℕ). kind_name part) is
    ldterm (OfPtem p) is less =
        let has = found-has owner 1 (take MODULES (stream name.side old).modules) here.at found in
        absurd (let no = ap have_queues (sym (ap (λ (part : Module ℕ). kind_name part) is) ∙ called) ∙ has in cc)
    ldterm (OfPckt p) is less =
        let has = found-has owner 1 (take MODULES (stream name.side old).modules) here.at found in
        absurd (let no = ap have_queues (sym (ap (λ (part : Module ℕ). kind_name part) is) ∙ called) ∙ has in cc)
    ldterm (OfOwn o) is less =
        absurd (let all = own-all K name here begun o (subst (λ (v : State ℕ). here.at - 1 < length (stream here.side v).modules) (sym may.stays) low) is bytes moved in omega (arith, all, less))

    at : (less : Bool) → nat_lt bytes left ≡ less → MovesOn old (free_in t) name (Moved bytes)
    at true is =
        let less : bytes < left = grind (arith, nat_tests, is) in
        inr (record {
          place = place ∙ ap (λ n. places.Module n) (ldterm (module_at here begun).part refl less);
          some = positive bytes less some;
          few = λ kept. least-enough t (few less (ahead kept));
        })
      where
        positive : (n : ℕ) → n < left → (n ≡ 0 → left ≡ 0) → 0 < n
        positive zero less some = let none = some refl in absurd (omega (arith, less, none))
        positive (suc n) less some = omega arith
    at false is =
        let most : left ≤ bytes = grind (arith, nat_tests, is) in
        let all : left ≡ bytes = omega (arith, most, within) in
        inl (size-whole owner name here old bytes place may.named may.found low (subst (λ v. bytes_left here.way false (discipline_of (module_at here v)) ≡ bytes) may.stays all))

-- whichever queues are enabled
pub moves-taken : (names : List QueueName) (s : State ℕ) (free : Free) (name : QueueName) (turn : Turn) → MovesOn (record s { enabled = names }) free name turn → MovesOn s free name turn
moves-taken names s free name (Moved bytes) moves = elim moves [
  | inl whole ↦ inl whole
  | inr within ↦ inr (record { place = within.place; some = within.some; few = λ kept. within.few (kept-ahead name.way name.side s (record s { enabled = names }) (λ side. refl) refl kept) })
]
moves-taken names s free name Blocked moves = tt
moves-taken names s free name Idle moves = tt

-- one that moved nothing
pub stays-moves : (name : QueueName) (s : State ℕ) (free : Free) (turn : Turn) → moved_by turn ≡ 0 → MovesOn s free name turn
stays-moves name s free (Moved bytes) none = absurd (at bytes none)
  where
    at : (bytes : ℕ) → moved_by (Moved bytes) ≡ 0 → ⊥
    at zero none = absurd (omega (arith, none))
    at (suc bytes) none = absurd (omega (arith, none))
stays-moves name s free Blocked none = tt
stays-moves name s free Idle none = tt

-- a driver's goes whole
pub driver-moves : (K : Behaviour) (name : QueueName) (turn : Turn) (s : State ℕ) (free : Free) → name.place ≡ Driver → turn ≡ (driver_turned K plain name.side s).turn → MovesOn s free name turn
driver-moves K name turn s free place is = subst (MovesOn s free name) (sym is) (at (stream name.side s).driver.queue.messages refl)
  where
    by : (m : Message ℕ) (closed stopped : Bool) (one another : State ℕ) (t : TurnOutcome ℕ) → MovesOn s free name t.turn → MovesOn s free name (cond closed (stayed_put Blocked one) (cond stopped (stayed_put Blocked another) t)).turn
    by m true stopped one another t moves = tt
    by m false true one another t moves = tt
    by m false false one another t moves = moves

    at : (ms : List (Message ℕ)) → (stream name.side s).driver.queue.messages ≡ ms → MovesOn s free name (driver_serves K plain name.side ms s).turn
    at [] first = tt
    at (m ∷ rest) first =
        by m (not (is_open (stream (other name.side) s).opened)) (is_stopped_across name.side m s) _ _ (moved_across K plain name.side m rest s)
        (inl (sym (ap (λ (pl : Place). whole_at pl name.way (stream name.side s)) place ∙ ap (λ (ms : List (Message ℕ)). Moved (first_size ms)) first)))
