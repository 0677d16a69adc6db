-- What a call of a turn sends that stops within its message is one M_DATA, which comes to stand where it is kept ahead: what was gathered, or output. Calls
-- open and close no side.
use Rattle.strm_pair.proofs.Prelude.{ℕ, zero, suc, ◌≡◌, ◌<◌, ◌+◌, ◌-◌, Bool, true, false, cond, List, [], ◌∷◌, ◌++◌, length, map, refl, sym, ap}
use Rattle.strm_pair.proofs.Prelude.{subst, ◌∙◌, arith, false≢true, ◌&&◌, slice_index_or, Option, Some, is_some, kept-ahead}
use Rattle.strm_pair.specs.Prelude.{MsgKind, Data, Way, Up, Down, Spot, plain, Acted, Parcel, input_begins, is_data, made_of, passes, stages}
use Rattle.strm_pair.specs.Prelude.{stages_done, treats, Begins, bytes_left, Discipline, Message, cells_of, data_message, is_held, size_of, act_among}
use Rattle.strm_pair.specs.Prelude.{Outgoing, output_serves, posted, unchanged, first_size, is_none_left, left_with, Serving, opost, stood}
use Rattle.strm_pair.specs.Prelude.{disciplined, IsKeptAhead, module_acted, Module, OfLdterm, Standing, module_serves, State, stream, asks_on, called}
use Rattle.strm_pair.specs.Prelude.{discipline_of, led, module_at, none_there, treated, StaysAlone, stop_at, Behaviour}
use Rattle.strm_pair.specs.Prelude.{HOPS, put_in, stands_of, OfOwn}
use Rattle.std.proofs.Common.{◌*◌}
use Rattle.std.specs.Bool.{OnTrue}
use Rattle.strm_types.specs.Deliver.{carried, onward}
use Rattle.strm_types.specs.Input.{next_stage}
use Rattle.strm_types.specs.LdtermServes.{ldterm_serves}
use Rattle.strm_types.specs.OutputTurns.{with_given}
use Rattle.strm_types.specs.Typing.{gathered_up}
use Rattle.strm_types.proofs.DeliveryHolds.{carried-holds, in_turn-holds}
use Rattle.strm_laws.specs.Puts.{SameButMade}
use Rattle.strm_laws.proofs.PutParts.{acted-holds, sent-holds}
use Rattle.strm_laws.proofs.PutsKeep.{same-itself, same-stays}
use Rattle.strm_laws.proofs.SameNames.{serve-names}
use Rattle.strm_laws.proofs.StackStays.{Stand, puts-stand, same-names}
use Rattle.strm_laws.proofs.Staying.{SentOn}
use Rattle.strm_ldterm.proofs.Spending.{next-works}
use Rattle.strm_laws.specs.Behaviours.{own_by}
use Rattle.strm_pair.specs.declared.service_calls.Call.{Call}
use Rattle.strm_pair.specs.ModuleServed.{TellsAs, acts_in, stop_in}
use Rattle.strm_pair.specs.Staying.{ComesToStand, sent-stays}
use Rattle.strm_pair.proofs.OwnCalls.{own-whole}

module _ (here : Spot) where
  -- what goes up at the end of a turn was gathered
  abbrev Gathered : List (Parcel ℕ) → Type 0
  Gathered ps = (line : List ℕ) × (ps ≡ gathered_up plain here line)

  stages-gathered : (n made : ℕ) (l : Discipline ℕ) → is_some l.in_work ≡ true → is_some (stages plain here n made l).state.in_work ≡ false → Gathered (stages plain here n made l).sent
  stages-gathered zero made l some over = (l.gathered, refl)
  stages-gathered (suc n) made l some over = at (is_none_left t.sent) over (λ none. stages-gathered n (made + made_of t.gone) t.state still none)
    where
      t : Acted ℕ (Discipline ℕ)
      t = next_stage plain here made l

      still : is_some t.state.in_work ≡ true
      still = next-works here made l ∙ some

      u : Acted ℕ (Discipline ℕ)
      u = stages plain here n (made + made_of t.gone) t.state

      at : (none : Bool) → is_some (cond {A = Acted ℕ (Discipline ℕ)} none (record { state = u.state; notes = t.notes ++ u.notes; sent = u.sent; gone = t.gone ++ u.gone }) t).state.in_work ≡ false
          → (is_some u.state.in_work ≡ false → Gathered u.sent) → Gathered (cond {A = Acted ℕ (Discipline ℕ)} none (record { state = u.state; notes = t.notes ++ u.notes; sent = u.sent; gone = t.gone ++ u.gone }) t).sent
      at true over behind = behind over
      at false over behind = absurd (false≢true (sym over ∙ still))

  -- that is M_DATA, or nothing
  gathered-on : here.way ≡ Up → (ps : List (Parcel ℕ)) → Gathered ps → SentOn here ps
  unfolding data_message is_held
  gathered-on up ps g = subst (λ qs. SentOn here qs) (sym g.1) (at g.0)
    where
      at : (line : List ℕ) → SentOn here (gathered_up plain here line)
      at [] = tt
      at (c ∷ more) = (refl, refl, sym up, λ down. absurd (cc))

  -- and so is what goes down of a message that is output
  both-true : (a b : Bool) → (a && b) ≡ true → a ≡ true
  both-true true b is = refl
  both-true false b is = absurd (false≢true is)

  data-held : (kind : MsgKind) → is_data kind ≡ true → is_held kind ≡ true
  unfolding is_held
  data-held Data is = refl
  data-held _ is = absurd (cc)

  given-on : here.way ≡ Down → (m : Message ℕ) → is_held m.kind ≡ true → (given : List ℕ) → SentOn here (map (onward Down here) (with_given given m))
  given-on down m held [] = tt
  given-on down m held (c ∷ given) = (held, refl, sym down, λ is. omega arith)

  output-on : here.way ≡ Down → (bytes : ℕ) (ms : List (Message ℕ)) (l : Discipline ℕ) → let t = output_serves plain (record here { way = Down }) (Some bytes) 0 ms l in t.bytes < first_size ms → SentOn here t.acted.sent
  output-on down bytes [] l less = tt
  output-on down bytes (m ∷ rest) l less = at (is_data m.kind && opost l.termios) refl (cells_of m) refl less
    where
      at : (treated : Bool) → (is_data m.kind && opost l.termios) ≡ treated → (xs : List ℕ) → cells_of m ≡ xs
          → let t = cond {A = Outgoing ℕ} treated (posted plain (record here { way = Down }) (Some bytes) 0 xs m l) (unchanged m l) in t.bytes < size_of m → SentOn here (map (onward Down here) t.messages)
      at false is xs cells less = absurd (omega (arith, less))
      at true is [] cells less = absurd (omega (arith, less))
      at true is (x ∷ xs) cells less = given-on down m (data-held m.kind (both-true (is_data m.kind) (opost l.termios) is)) _

-- so it is of a call that stops within its message
module _ (K : Behaviour) (here : Spot) (again : Bool) (bytes : ℕ) where
  abbrev up : Spot
  up = record here { way = Up }

  serves-gathered : (more : Bool) (l : Discipline ℕ) → Begins Up more l → let t = ldterm_serves plain up 0 more (Some bytes) l in t.again ≡ false → t.bytes < bytes_left Up more l → Gathered here t.acted.sent
  serves-gathered true l begins over less = stages-gathered up (3 * bytes - stages_done l.stage) 0 l begins over
  serves-gathered false l begins over less = of l.read_queue.messages refl over less
    where
      of : (ms : List (Message ℕ)) → l.read_queue.messages ≡ ms → let t = input_begins plain up (Some bytes) 0 ms l in t.again ≡ false → t.bytes < bytes_left Up false l → Gathered here t.acted.sent
      of [] is over less = ([], refl)
      of (m ∷ rest) is over less = at (is_data m.kind) over less
        where
          begun : Discipline ℕ
          begun = record l { read_queue = left_with rest l.read_queue; in_work = Some m }

          at : (typed : Bool) → let t = cond {A = Serving ℕ (Discipline ℕ)} typed (treats plain up bytes 0 begun) (passes plain up Up m rest l) in t.again ≡ false → t.bytes < bytes_left Up false l → Gathered here t.acted.sent
          at true over less = stages-gathered up (3 * bytes - stages_done begun.stage) 0 begun refl over
          at false over less = let size = ap first_size is in absurd (omega (arith, less, size))

  down-on : here.way ≡ Down → (more : Bool) (l : Discipline ℕ) → let t = ldterm_serves plain (record here { way = Down }) 0 more (Some bytes) l in t.bytes < bytes_left Down more l → SentOn here t.acted.sent
  down-on is true l less = output-on here is bytes l.write_queue.messages l less
  down-on is false l less = output-on here is bytes l.write_queue.messages l less

  module-on : (way : Way) → here.way ≡ way → (p : Standing ℕ) → Begins way again (discipline_of p) → let t = module_serves K plain (record here { way = way }) 0 again (Some bytes) p in
      t.again ≡ false → t.bytes < bytes_left way again (discipline_of p) → SentOn here t.acted.sent
  module-on way is p begins over less = by way is p.part begins over less
    where
      by : (way : Way) → here.way ≡ way → (part : Module ℕ) → let q = stood part p.queues in Begins way again (discipline_of q) → let t = module_serves K plain (record here { way = way }) 0 again (Some bytes) q in
          t.again ≡ false → t.bytes < bytes_left way again (discipline_of q) → SentOn here t.acted.sent
      by Up is (OfLdterm l) begins over less =
          let d = disciplined l p.queues in
          gathered-on here is (ldterm_serves plain up 0 again (Some bytes) d).acted.sent (serves-gathered again d begins over less)
      by Down is (OfLdterm l) begins over less = down-on is again (disciplined l p.queues) less
      by way is (OfOwn o) begins over less =
          let all = own-whole (own_by K plain) here way again o p.queues in absurd (omega (arith, less, all))
      by way is other begins over less = tt

  among-on : (i : ℕ) (ps : List (Standing ℕ)) → i < length ps → Begins here.way again (discipline_of (slice_index_or ps i none_there))
      → slice_index_or (map (λ p. (module_serves K plain here 0 again (Some bytes) p).again) ps) i false ≡ false
      → slice_index_or (map (λ p. (module_serves K plain here 0 again (Some bytes) p).bytes) ps) i 0 < bytes_left here.way again (discipline_of (slice_index_or ps i none_there))
      → SentOn here (act_among (λ p. (module_serves K plain here 0 again (Some bytes) p).acted) i ps).sent
  among-on i [] low begins over less = absurd (omega (arith, low))
  among-on zero (p ∷ ps) low begins over less = module-on here.way refl p begins over less
  among-on (suc i) (p ∷ ps) low begins over less = among-on i ps (omega (arith, low)) begins over less

-- which sides are open stays
pub acted-same : (K : Behaviour) (here : Spot) (again : Bool) (stop : Option ℕ) (s : State ℕ) → SameButMade s (module_acted here (called here K again stop (stream here.side s).modules) s).state
acted-same K here again stop s =
    let stays = same-stays s in
    let t = called here K again stop (stream here.side s).modules in
    acted-holds (SameButMade s) stays.names stays.books here t s
    (stays.modules here.side t.state s (serve-names K plain here 0 again stop (here.at - 1) (stream here.side s).modules) (same-itself s))

-- and which modules stand there
pub acted-stands : (K : Behaviour) (here : Spot) (again : Bool) (stop : Option ℕ) (s : State ℕ)
    → stands_of (module_acted here (called here K again stop (stream here.side s).modules) s).state ≡ stands_of s
acted-stands K here again stop s =
    let t = called here K again stop (stream here.side s).modules in
    acted-holds (Stand (stands_of s)) (λ names v is. is) (λ dir n v is. is) here t s
    (same-names here.side (record (stream here.side s) { modules = t.state }) s
    (serve-names K plain here 0 again stop (here.at - 1) (stream here.side s).modules))

pub led-stands : (K : Behaviour) (here : Spot) (again : Bool) (stop : Option ℕ) (s : State ℕ) → stands_of (led K here again stop s).state
    ≡ stands_of s
led-stands K here again stop s =
    let w = module_acted here (called here K again stop (stream here.side s).modules) s in
    let put = put_in K plain in
    in_turn-holds (Stand (stands_of s)) (carried put HOPS) (carried-holds (Stand (stands_of s)) put (puts-stand (stands_of s) K plain) HOPS) w.sent
    w.state
    (acted-stands K here again stop s)

pub led-same : (K : Behaviour) (here : Spot) (again : Bool) (stop : Option ℕ) (s : State ℕ) → SameButMade s (led K here again stop s).state
led-same K here again stop s =
    let w = module_acted here (called here K again stop (stream here.side s).modules) s in
    sent-holds (SameButMade s) K (same-stays s) plain w.sent w.state (acted-same K here again stop s)

pub stopped-stays : (K : Behaviour) (here : Spot) (again : Bool) (call : Call) (s : State ℕ) → TellsAs K here again call s → here.at - 1 < length (stream here.side s).modules → Begins here.way again (discipline_of (module_at here s))
    → call.stopped ≡ true → call.bytes < bytes_left here.way again (discipline_of (module_at here s)) → IsKeptAhead here.way here.side s → StaysAlone ComesToStand (acts_in K here again call s).state (acts_in K here again call s).sent
stopped-stays K here again call s tells low begins is less ahead =
    let ps = (stream here.side s).modules in
    let some : stop_in call ≡ Some call.bytes = ap (λ b. stop_at b call.bytes) is in
    let over : call.again ≡ false = subst (λ b. OnTrue b (call.again ≡ false)) is tells.over in
    let ends : asks_on here K again (Some call.bytes) ps ≡ false = ap (λ o. asks_on here K again o ps) (sym some) ∙ sym tells.asks ∙ over in
    let bytes : treated here K again (Some call.bytes) ps ≡ call.bytes = ap (λ o. treated here K again o ps) (sym some) ∙ sym tells.bytes in
    let on = among-on K here again call.bytes (here.at - 1) ps low begins ends (omega (arith, bytes, less)) in
    let behind = (module_acted here (called here K again (Some call.bytes) ps) s).state in
    let kept = kept-ahead here.way here.side s behind (acted-same K here again (Some call.bytes) s).opened
    (acted-stands K here again (Some call.bytes) s) ahead in
    subst (λ o. StaysAlone ComesToStand (module_acted here (called here K again o ps) s).state (module_acted here (called here K again o ps) s).sent) (sym some)
    (sent-stays here behind (called here K again (Some call.bytes) ps).sent on kept)
