-- What a turn of a module's queue begins with, where nothing of one is under way.
use Rattle.strm_pair.proofs.Prelude.{ℕ, zero, suc, ◌≡◌, ◌≤◌, ◌<◌, ◌-◌, true, false, cond, List, [], ◌∷◌, length, map, refl, sym, ap, ◌∙◌, arith, ◌&&◌}
use Rattle.strm_pair.proofs.Prelude.{not, slice_index_or, Option, None, Some, is_some, get-set-same, index-map}
use Rattle.strm_pair.specs.Prelude.{Turn, Idle, Blocked, QueueName, Side, Way, Up, Down, Spot, plain, AreIdle, at_place, place_past, messages_at}
use Rattle.strm_pair.specs.Prelude.{module_turned, moved_within, place_named, stayed_at, change_among, has_room_past, waits_on, writer_waits}
use Rattle.strm_pair.specs.Prelude.{is_none_left, first_size, IsAtRest, KindRests, Module, OfLdterm, Standing, module_asks, State, Stream, stream}
use Rattle.strm_pair.specs.Prelude.{none_there, TurnOutcome, stayed_put, Behaviour}
use Rattle.std.specs.List.{AllByRecursion}
use Rattle.strm_types.specs.declared.kinds.Band.{Band}
use Rattle.strm_types.specs.declared.spots.Asks.{Asks}
use Rattle.strm_types.specs.declared.spots.Asks.TheVariants as asked
use Rattle.strm_types.specs.Ldterms.{is_between}
use Rattle.strm_types.specs.ModuleQueues.{waits}
use Rattle.strm_laws.specs.ModuleTurns.{asked_turn, turned_named}
use Rattle.strm_laws.specs.Stacked.{kind_rests, module_rests}
use Rattle.strm_laws.proofs.ModuleTurnCalls.{whole}
use Rattle.strm_pair.proofs.NamedPlaces.{found-low}
use Rattle.strm_pair.specs.ModuleTurned.{MayMove}

-- one of which nothing of a turn is under way rests
rests-idle : (p : Standing ℕ) → IsAtRest p → module_rests p ≡ true
rests-idle p idle = by p.part idle
  where
    by : (part : Module ℕ) → KindRests part → kind_rests part ≡ true
    by (OfLdterm l) idle =
        ap (λ o. not (is_some o) && (is_none_left l.gathered && (not l.echoing && is_between l.stage))) idle.0
        ∙ ap (λ xs. is_none_left xs && (not l.echoing && is_between l.stage)) idle.1
        ∙ ap (λ b. not b && is_between l.stage) idle.2
        ∙ ap is_between idle.3
    by other idle = refl

rests-at : (i : ℕ) (ps : List (Standing ℕ)) → AllByRecursion (λ p. IsAtRest p) ps → i < length ps → slice_index_or (map module_rests ps) i false ≡ true
rests-at i [] idle low = absurd (omega (arith, low))
rests-at zero (p ∷ ps) idle low = rests-idle p idle.0
rests-at (suc i) (p ∷ ps) idle low = rests-at i ps idle.1 (omega (arith, low))

abbrev pub spot_of : QueueName → ℕ → Spot
spot_of name at = record { side = name.side; at = at; way = name.way }

-- without such a module it is over
pub turned-nowhere : (K : Behaviour) (name : QueueName) (turn : Turn) (s : State ℕ) → place_named name.place (stream name.side s).modules ≡ None → module_turned K plain name turn s ≡ stayed_put Idle s
turned-nowhere K name turn s none = ap (turned_named K plain name turn s) none

-- with one it goes by what its first message asks
pub turned-asks : (K : Behaviour) (name : QueueName) (at : ℕ) (asks : Asks) (turn : Turn) (s : State ℕ) → AreIdle s → place_named name.place (stream name.side s).modules ≡ Some at
    → asks ≡ at_place (module_asks K plain name.way) asked.Empty at (stream name.side s).modules → module_turned K plain name turn s ≡ asked_turn K plain (spot_of name at) asks name turn s
turned-asks K name at asks turn s idle found is =
    let ps = (stream name.side s).modules in
    let low = found-low name.place ps at found in
    let rested : at_place module_rests false at ps ≡ true = rests-at (at - 1) ps (idle name.side) (omega (arith, low.0, low.1)) in
    ap (turned_named K plain name turn s) found
    ∙ ap (λ b. cond {A = TurnOutcome ℕ} b (asked_turn K plain (spot_of name at) (at_place (module_asks K plain name.way) asked.Empty at ps) name turn s) (stayed_put Blocked s)) rested
    ∙ ap (λ a. asked_turn K plain (spot_of name at) a name turn s) (sym is)

pub turned-waits : (K : Behaviour) (name : QueueName) (at : ℕ) (band : Band) (turn : Turn) (s : State ℕ)
    → has_room_past name.side name.way at band.0 s ≡ false
    → asked_turn K plain (spot_of name at) (asked.Room band) name turn s ≡ stayed_at Blocked (spot_of name at) (writer_waits name.side name.way at band.0 s)
turned-waits K name at band turn s none = ap (λ b. cond {A = TurnOutcome ℕ} b (moved_within K plain (spot_of name at) name turn s) (stayed_at Blocked (spot_of name at) (writer_waits name.side name.way at band.0 s))) none

pub turned-room : (K : Behaviour) (name : QueueName) (at : ℕ) (band : Band) (turn : Turn) (s : State ℕ)
    → has_room_past name.side name.way at band.0 s ≡ true
    → asked_turn K plain (spot_of name at) (asked.Room band) name turn s ≡ moved_within K plain (spot_of name at) name turn s
turned-room K name at band turn s room = ap (λ b. cond {A = TurnOutcome ℕ} b (moved_within K plain (spot_of name at) name turn s) (stayed_at Blocked (spot_of name at) (writer_waits name.side name.way at band.0 s))) room

-- where it may serve
pub may-move : (K : Behaviour) (name : QueueName) (at : ℕ) (s : State ℕ) → place_named name.place (stream name.side s).modules ≡ Some at
    → at_place (λ p. first_size (messages_at name.way p)) 0 at (stream name.side s).modules ≤ 16777216 → ((turn : Turn) → module_turned K plain name turn s ≡ moved_within K plain (spot_of name at) name turn s)
    → MayMove K s s name (spot_of name at)
may-move K name at s found few moves =
    let ps = (stream name.side s).modules in
    let low = found-low name.place ps at found in
    let size = index-map none_there (λ p. first_size (messages_at name.way p)) 0 (at - 1) ps (omega (arith, low.0, low.1)) in
    record { stays = refl; named = refl; found = found; inside = low.0; within = low.1; low = low.2; few = omega (arith, few, size, whole (spot_of name at) name.way (slice_index_or ps (at - 1) none_there)); moves = moves }

-- as many modules stand behind a writer that waits
change-long : (f : Standing ℕ → Standing ℕ) (i : ℕ) (ps : List (Standing ℕ)) → length (change_among f i ps) ≡ length ps
change-long f i [] = refl
change-long f zero (p ∷ ps) = refl
change-long f (suc i) (p ∷ ps) = ap suc (change-long f i ps)

waits-long : (way : Way) (band : ℕ) (o : Option ℕ) (t : Stream ℕ) → length (waits_on way band o t).modules ≡ length t.modules
waits-long Up band None t = refl
waits-long Down band None t = refl
waits-long way band (Some at) t = change-long (waits way band) (at - 1) t.modules

pub waiting-long : (side : Side) (way : Way) (at band : ℕ) (s : State ℕ) → length (stream side (writer_waits side way at band s)).modules ≡ length (stream side s).modules
waiting-long side way at band s =
    let t = stream side s in
    let past = place_past way at t.modules in
    ap (λ (x : Stream ℕ). length x.modules) (get-set-same side (waits_on way band past t) s.ends) ∙ waits-long way band past t
