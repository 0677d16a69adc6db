-- What the first message asks says what becomes of the turn.
use Rattle.strm_pair.proofs.Prelude.{ℕ, ◌≤◌, length, refl, sym, ap, subst, ◌∙◌, arith, length-map}
use Rattle.strm_pair.specs.Prelude.{Blocked, Idle, plain, at_place, messages_at, stayed_at, module_asks, State, Stream, stream, first_size, stayed_put}
use Rattle.strm_types.specs.declared.spots.Asks.TheVariants as asked
use Rattle.strm_pair.specs.ModuleTurned.{BeginsAs}
use Rattle.strm_pair.specs.AnyModules.{module_in}
use Rattle.strm_pair.specs.Pairs.{state_in}
use Rattle.strm_pair.specs.Stacks.{IsStackHeld}
use Rattle.strm_pair.proofs.ModuleTurns.{may-move, spot_of, turned-asks, turned-room, turned-waits, waiting-long}
use Rattle.strm_pair.proofs.NamedPlaces.{found-low}
use Rattle.strm_pair.proofs.Sides.{stack-held}
use Rattle.strm_pair.proofs.streams.Streams.begin_module_turn.Goals as goal

pub returns-in-Free-clause-begins : goal.returns-in-Free-clause-begins
returns-in-Free-clause-begins g c =
    let s = g.B.Blocks.value c.args.store.now in
    let st = state_in s c.args.self.now in
    let name = c.args.name in
    let at = c.in-Some.at in
    let found = sym (c.module_named.ensures s) ∙ c.in-Some.is in
    let asks = sym c.in-Free.is ∙ c.asks.ensures.asks ∙ ap (λ (t : Stream ℕ). at_place (module_asks g.M.Behaves.does plain name.way) asked.Empty at t.modules) (c.end.ensures.stream s) in
    let few = subst (λ (t : Stream ℕ). at_place (λ p. first_size (messages_at name.way p)) 0 at t.modules ≤ 16777216) (c.end.ensures.stream s) c.asks.ensures.few in
    may-move g.M.Behaves.does name at st found few (λ turn. turned-asks g.M.Behaves.does name at asked.Free turn st c.requires.idle found asks)

pub returns-then-has_room_past-clause-begins : goal.returns-then-has_room_past-clause-begins
returns-then-has_room_past-clause-begins g c =
    let K = g.M.Behaves.does in
    let s = g.B.Blocks.value c.args.store.now in
    let st = state_in s c.args.self.now in
    let name = c.args.name in
    let at = c.in-Some.at in
    let band = c.in-Room.band in
    let found = sym (c.module_named.ensures s) ∙ c.in-Some.is in
    let asks = sym c.in-Room.is ∙ c.asks.ensures.asks ∙ ap (λ (t : Stream ℕ). at_place (module_asks g.M.Behaves.does plain name.way) asked.Empty at t.modules) (c.end.ensures.stream s) in
    let room = sym c.has_room_past.ensures ∙ c.if-has_room_past.true in
    let few = subst (λ (t : Stream ℕ). at_place (λ p. first_size (messages_at name.way p)) 0 at t.modules ≤ 16777216) (c.end.ensures.stream s) c.asks.ensures.few in
    may-move K name at st found few (λ turn. turned-asks K name at (asked.Room band) turn st c.requires.idle found asks ∙ turned-room K name at band turn st room)

pub overflow_cast-here : goal.overflow_cast-here
overflow_cast-here g c =
    let st = state_in (g.B.Blocks.value c.args.store.now) c.args.self.now in
    let low = found-low c.args.name.place (stream c.args.name.side st).modules c.in-Some.at (sym (c.module_named.ensures (g.B.Blocks.value c.args.store.now)) ∙ c.in-Some.is) in
    omega (arith, low.2)

pub stay-requires-clause-inside : goal.stay-requires-clause-inside
stay-requires-clause-inside g c =
    let s = g.B.Blocks.value c.args.store.now in
    let st = state_in s c.args.self.now in
    (found-low c.args.name.place (stream c.args.name.side st).modules c.in-Some.at (sym (c.module_named.ensures s) ∙ c.in-Some.is)).0

pub stay-requires-clause-within : goal.stay-requires-clause-within
stay-requires-clause-within g c =
    let s = g.B.Blocks.value c.args.store.now in
    let st = state_in s c.args.self.now in
    (found-low c.args.name.place (stream c.args.name.side st).modules c.in-Some.at (sym (c.module_named.ensures s) ∙ c.in-Some.is)).1

pub stay-requires-in-Held-clause-inside : goal.stay-requires-in-Held-clause-inside
stay-requires-in-Held-clause-inside g c =
    let s = g.B.Blocks.value c.args.store.now in
    let st = state_in s c.args.self.now in
    (found-low c.args.name.place (stream c.args.name.side st).modules c.in-Some.at (sym (c.module_named.ensures s) ∙ c.in-Some.is)).0

pub stay-requires-in-Room-clause-held : goal.stay-requires-in-Room-clause-held
stay-requires-in-Room-clause-held g c = c.wait_past.ensures.held (g.B.Blocks.value c.args.store.now) c.requires.held

pub stay-requires-in-Room-clause-inside : goal.stay-requires-in-Room-clause-inside
stay-requires-in-Room-clause-inside g c =
    let s = g.B.Blocks.value c.args.store.now in
    let st = state_in s c.args.self.now in
    (found-low c.args.name.place (stream c.args.name.side st).modules c.in-Some.at (sym (c.module_named.ensures s) ∙ c.in-Some.is)).0

pub stay-requires-in-Room-clause-within : goal.stay-requires-in-Room-clause-within
stay-requires-in-Room-clause-within g c =
    let s = g.B.Blocks.value c.args.store.now in
    let st = state_in s c.args.self.now in
    let name = c.args.name in
    let at = c.in-Some.at in
    let low = found-low name.place (stream name.side st).modules at (sym (c.module_named.ensures s) ∙ c.in-Some.is) in
    let long = ap (λ (v : State ℕ). length (stream name.side v).modules) (c.wait_past.ensures.state s) ∙ waiting-long name.side name.way at c.in-Room.band.0 st in
    omega (arith, low.1, long)

pub returns-else-has_room_past-clause-begins : goal.returns-else-has_room_past-clause-begins
returns-else-has_room_past-clause-begins g c =
    let K = g.M.Behaves.does in
    let s = g.B.Blocks.value c.args.store.now in
    let st = state_in s c.args.self.now in
    let name = c.args.name in
    let at = c.in-Some.at in
    let band = c.in-Room.band in
    let new = state_in s c.stay-in-Room.new.self in
    let found = sym (c.module_named.ensures s) ∙ c.in-Some.is in
    let asks = sym c.in-Room.is ∙ c.asks.ensures.asks ∙ ap (λ (t : Stream ℕ). at_place (module_asks g.M.Behaves.does plain name.way) asked.Empty at t.modules) (c.end.ensures.stream s) in
    let none = sym c.has_room_past.ensures ∙ c.if-has_room_past.false in
    let behind = c.stay-in-Room.ensures.state ∙ ap (λ (v : State ℕ). (stayed_at Blocked (spot_of name at) v).state) (c.wait_past.ensures.state s) in
    subst (BeginsAs K st new name) (sym c.stay-in-Room.ensures.over)
    (refl, λ turn. turned-asks K name at (asked.Room band) turn st c.requires.idle found asks ∙ turned-waits K name at band turn st none ∙ ap (stayed_put Blocked) (sym behind))

pub returns-in-Held-clause-begins : goal.returns-in-Held-clause-begins
returns-in-Held-clause-begins g c =
    let K = g.M.Behaves.does in
    let s = g.B.Blocks.value c.args.store.now in
    let st = state_in s c.args.self.now in
    let name = c.args.name in
    let at = c.in-Some.at in
    let new = state_in s c.stay-in-Held.new.self in
    let found = sym (c.module_named.ensures s) ∙ c.in-Some.is in
    let asks = sym c.in-Held.is ∙ c.asks.ensures.asks ∙ ap (λ (t : Stream ℕ). at_place (module_asks g.M.Behaves.does plain name.way) asked.Empty at t.modules) (c.end.ensures.stream s) in
    subst (BeginsAs K st new name) (sym c.stay-in-Held.ensures.over) (refl, λ turn. turned-asks K name at asked.Held turn st c.requires.idle found asks ∙ ap (stayed_put Blocked) (sym c.stay-in-Held.ensures.state))

pub returns-in-Empty-clause-begins : goal.returns-in-Empty-clause-begins
returns-in-Empty-clause-begins g c =
    let K = g.M.Behaves.does in
    let s = g.B.Blocks.value c.args.store.now in
    let st = state_in s c.args.self.now in
    let name = c.args.name in
    let at = c.in-Some.at in
    let new = state_in s c.stay.new.self in
    let found = sym (c.module_named.ensures s) ∙ c.in-Some.is in
    let asks = sym c.in-Empty.is ∙ c.asks.ensures.asks ∙ ap (λ (t : Stream ℕ). at_place (module_asks g.M.Behaves.does plain name.way) asked.Empty at t.modules) (c.end.ensures.stream s) in
    subst (BeginsAs K st new name) (sym c.stay.ensures.over) (refl, λ turn. turned-asks K name at asked.Empty turn st c.requires.idle found asks ∙ ap (stayed_put Idle) (sym c.stay.ensures.state))

pub asks-requires : goal.asks-requires
asks-requires g c =
    let s = g.B.Blocks.value c.args.store.now in
    let st = state_in s c.args.self.now in
    let low = found-low c.args.name.place (stream c.args.name.side st).modules c.in-Some.at (sym (c.module_named.ensures s) ∙ c.in-Some.is) in
    let there = ap (λ (t : Stream ℕ). length t.modules) (c.end.ensures.stream s) in
    let few = length-map c.end.result.now.stack.modules.items (module_in s) in
    (omega arith, (low.0, (omega (arith, low.1, there, few), subst (λ e. IsStackHeld s e.stack) (sym c.end.ensures.end) (stack-held s c.args.self.now c.requires.held.beside c.args.name.side))))
