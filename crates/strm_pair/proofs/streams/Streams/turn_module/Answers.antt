-- Where the module may serve, its calls are those of the turn's definition.
use Rattle.strm_pair.proofs.Prelude.{ℕ, ◌≡◌, false, [], refl, sym, ap, subst, ◌∙◌, arith, not, ◌==◌, turn-few, range-spare, same-spare, spare-low}
use Rattle.strm_pair.specs.Prelude.{Moved, plain, tallied, AreIdle, module_turn_ended, module_turned, FewBooked, spare, bytes_left, discipline_of}
use Rattle.strm_pair.specs.Prelude.{module_at, TurnOutcome, State, stands_of}
use Rattle.strm_laws.specs.Restorable.{IsThere}
use Rattle.strm_laws.proofs.EnabledExist.{named-is-there}
use Rattle.strm_laws.proofs.Balances.{range-low}
use Rattle.strm_laws.proofs.InOrder.{BooksMade}
use Rattle.strm_laws.proofs.StepBooks.{ended-books, module-books}
use Rattle.strm_laws.proofs.ModuleTurnKeeps.{module_turned-rests}
use Rattle.strm_frame.proofs.Handing.{no-hand}
use Rattle.strm_pair.specs.Framing.{rests}
use Rattle.strm_pair.specs.Pairs.{free_in, state_in}
use Rattle.strm_pair.proofs.CallsOn.{some-taken, turned-by}
use Rattle.strm_pair.proofs.MovingOn.{serves-moves, stays-moves}
use Rattle.strm_pair.proofs.streams.Streams.turn_module.Goals as goal

pub end_module_turn-requires-clause-within : goal.end_module_turn-requires-clause-within
end_module_turn-requires-clause-within g c = let stands = c.call_on-bytes.ensures.treats.stands in let inside = c.in-Serves.ensures.begins.inside in omega arith

-- the module stands there still whose queue has its turn
pub end_module_turn-requires-clause-there : goal.end_module_turn-requires-clause-there
end_module_turn-requires-clause-there g c =
    let s = g.B.Blocks.value c.args.store.now in
    let old = state_in s c.args.self.now in
    let begins = c.in-Serves.ensures.begins in
    let there = named-is-there (stands_of old) old refl c.args.name c.in-Serves.here.at begins.found in
    subst (λ a. IsThere a c.args.name) (sym (c.call_on-bytes.ensures.stands ∙ ap (λ (x : State ℕ). stands_of x) begins.stays)) there

-- No more is treated than the first message has.
pub overflow_cast-result : goal.overflow_cast-result
overflow_cast-result g c =
    let begins = c.in-Serves.ensures.begins in
    let left = ap (λ v. bytes_left c.in-Serves.here.way false (discipline_of (module_at c.in-Serves.here v))) begins.stays in
    omega (arith, c.call_on-bytes.ensures.treats.within, begins.few, left)

pub returns-in-Over-clause-turn : goal.returns-in-Over-clause-turn
returns-in-Over-clause-turn g c = sym (ap (λ (t : TurnOutcome ℕ). t.turn) (c.in-Over.ensures.begins.1 c.in-Over.turn))

pub returns-in-Over-clause-leads : goal.returns-in-Over-clause-leads
returns-in-Over-clause-leads g c =
    let is = c.in-Over.ensures.begins.1 c.in-Over.turn in
    record {
      state = sym (ap (λ (t : TurnOutcome ℕ). t.state) is);
      tells = sym (ap (λ (t : TurnOutcome ℕ). tallied t.gone c.args.told.now) is);
      held = c.begin_module_turn.ensures.held;
      pool = record { mblks = refl; dblks = refl };
    }

pub returns-in-Serves-clause-turn : goal.returns-in-Serves-clause-turn
returns-in-Serves-clause-turn g c =
    let K = g.M.Behaves.does in
    let s = g.B.Blocks.value c.args.store.now in
    let on = c.call_on-bytes in
    sym (ap (λ (t : TurnOutcome ℕ). t.turn)
    (turned-by K c.args.name c.in-Serves.here on.result (state_in s c.args.self.now) (state_in s c.begin_module_turn.new.self) (state_in (g.B.Blocks.value on.new.store) on.new.self)
    c.args.told.now on.new.told c.in-Serves.ensures.begins on.ensures.treats))

-- Nothing of a turn is under way behind it, so that nothing is in hand.
pub returns-in-Serves-clause-leads : goal.returns-in-Serves-clause-leads
returns-in-Serves-clause-leads g c =
    let K = g.M.Behaves.does in
    let s = g.B.Blocks.value c.args.store.now in
    let on = c.call_on-bytes in
    let t = g.B.Blocks.value on.new.store in
    let old = state_in s c.args.self.now in
    let st = state_in t on.new.self in
    let q = c.end_module_turn.new.self in
    let is = turned-by K c.args.name c.in-Serves.here on.result old (state_in s c.begin_module_turn.new.self) st c.args.told.now on.new.told c.in-Serves.ensures.begins on.ensures.treats in
    let state = c.end_module_turn.ensures.state ∙ ap (λ took. module_turn_ended c.args.name c.in-Serves.here took st) (some-taken on.result) ∙ sym (ap (λ (t : TurnOutcome ℕ). t.state) is) in
    let idle = subst AreIdle (sym state) (module_turned-rests K plain c.args.name (Moved on.result) old c.requires.may.rests.idle) in
    record {
      state = state;
      tells = on.ensures.treats.tells ∙ sym (ap (λ (t : TurnOutcome ℕ). tallied t.gone c.args.told.now) is);
      held = record {
        hand = no-hand t.hand (λ i. on.ensures.hand i ∙ sym (c.end_module_turn.ensures.keeps i) ∙ rests t q c.end_module_turn.ensures.beside idle i);
        beside = c.end_module_turn.ensures.beside;
      };
      pool = on.ensures.pool;
    }

-- no book goes round
pub returns-in-Over-clause-few : goal.returns-in-Over-clause-few
returns-in-Over-clause-few g c =
    let K = g.M.Behaves.does in
    let s = g.B.Blocks.value c.args.store.now in
    let old = state_in s c.args.self.now in
    let is = c.in-Over.ensures.begins.1 c.in-Over.turn in
    let books = subst (λ (t : TurnOutcome ℕ). BooksMade plain old t.gone t.state) is (module-books plain K c.args.name c.in-Over.turn old) in
    turn-few plain old (state_in s c.begin_module_turn.new.self) [] c.requires.may.range books (λ dir. let low = range-low dir old c.requires.may.range in let same = books.made dir in omega (arith, low.1, same))

pub returns-in-Serves-clause-few : goal.returns-in-Serves-clause-few
returns-in-Serves-clause-few g c =
    let K = g.M.Behaves.does in
    let s = g.B.Blocks.value c.args.store.now in
    let on = c.call_on-bytes in
    let old = state_in s c.args.self.now in
    let begun = state_in s c.begin_module_turn.new.self in
    let st = state_in (g.B.Blocks.value on.new.store) on.new.self in
    let new = state_in (g.B.Blocks.value on.new.store) c.end_module_turn.new.self in
    let is = turned-by K c.args.name c.in-Serves.here on.result old begun st c.args.told.now on.new.told c.in-Serves.ensures.begins
    on.ensures.treats in
    let shows : new ≡ (module_turned K plain c.args.name (Moved on.result) old).state =
    c.end_module_turn.ensures.state ∙ ap (λ took. module_turn_ended c.args.name c.in-Serves.here took st) (some-taken on.result) ∙ sym (ap (λ (t : TurnOutcome ℕ). t.state) is) in
    let ended = ended-books plain c.in-Serves.here c.args.name (not (on.result == 0)) st in
    let within = on.ensures.treats.within in
    let few = c.in-Serves.ensures.begins.few in
    let stays = ap spare c.in-Serves.ensures.begins.stays in
    let behind = ap (λ (t : TurnOutcome ℕ). spare t.state) is in
    let same = same-spare st (module_turn_ended c.args.name c.in-Serves.here (not (on.result == 0)) st) ended in
    let left = ap (λ v. bytes_left c.in-Serves.here.way false (discipline_of (module_at c.in-Serves.here v))) c.in-Serves.ensures.begins.stays in
    subst FewBooked (sym shows)
    (turn-few plain old (module_turned K plain c.args.name (Moved on.result) old).state (module_turned K plain c.args.name (Moved on.result) old).gone c.requires.may.range (module-books plain K c.args.name (Moved on.result) old)
    (spare-low (module_turned K plain c.args.name (Moved on.result) old).state (omega (arith, range-spare old c.requires.may.range, stays, behind, same, on.ensures.treats.left, within, few, left))))

-- a byte went, where the message has one
pub returns-in-Over-clause-stops : goal.returns-in-Over-clause-stops
returns-in-Over-clause-stops g c = λ owner place. stays-moves c.args.name (state_in (g.B.Blocks.value c.args.store.now) c.args.self.now) (free_in (g.B.Blocks.value c.args.store.now)) c.in-Over.turn c.in-Over.ensures.begins.0

pub returns-in-Serves-clause-stops : goal.returns-in-Serves-clause-stops
returns-in-Serves-clause-stops g c = λ owner place.
    let K = g.M.Behaves.does in
    let s = g.B.Blocks.value c.args.store.now in
    serves-moves K c.args.name c.in-Serves.here (state_in s c.args.self.now) (state_in s c.begin_module_turn.new.self) (g.B.Blocks.value c.call_on-bytes.new.store) c.call_on-bytes.result c.in-Serves.ensures.begins
    (ap (λ (t : TurnOutcome ℕ). t.turn) (c.call_on-bytes.ensures.treats.moves c.args.name)) c.call_on-bytes.ensures.treats.within c.call_on-bytes.ensures.treats.some c.call_on-bytes.ensures.few owner place
