-- The module on top is taken off, and then all others.
use Rattle.strm_pair.proofs.Prelude.{ℕ, suc, ◌≡◌, ◌-◌, length, sym, subst, ◌∙◌, arith}
use Rattle.strm_pair.specs.Prelude.{Carried, all_taken, top_taken, State, stream}
use Rattle.strm_pair.specs.Pairs.{state_in}
use Rattle.strm_pair.specs.Effects.{Leads}
use Rattle.strm_pair.proofs.Enabling.{taken-few}
use Rattle.strm_pair.proofs.Idle.{top-idle}
use Rattle.strm_pair.proofs.Takings.{all-by-one, none-taken, one-less}
use Rattle.strm_pair.proofs.Leading.{leads-both, leads-nowhere, rests-behind}
use Rattle.strm_pair.proofs.streams.Streams.+take_all.Goals as goal

pub returns-then-count-eq0-clause-leads : goal.returns-then-count-eq0-clause-leads
returns-then-count-eq0-clause-leads g t c =
    let s = g.B.Blocks.value c.args.store.now in
    let p = c.args.self.now in
    let f = c.args.told.now in
    subst (λ (o : Carried ℕ (State ℕ)). Leads s s p f f o.state o.gone) (sym (none-taken c.args.rule c.args.side (state_in s p) (sym c.requires.count ∙ c.if-count-eq0.true)))
    (leads-nowhere s p f c.requires.rests.held)

pub take_all-requires : goal.take_all-requires
take_all-requires g t c κs within =
    let s = g.B.Blocks.value c.args.store.now in
    let st = state_in s c.args.self.now in
    let taken = top_taken c.args.rule c.args.side (stream c.args.side st).modules st in
    let leads = c.take_top.ensures.taken.leads in
    let many : suc (c.args.count - 1) ≡ length (stream c.args.side st).modules = omega (arith, c.requires.count, c.if-count-eq0.false) in
    let some = c.if-count-eq0.false in
    let left = sym (one-less c.args.rule c.args.side st (state_in (g.B.Blocks.value c.take_top.new.store) c.take_top.new.self) leads.state (c.args.count - 1) many) in
    let rests = rests-behind s (g.B.Blocks.value c.take_top.new.store) c.take_top.new.self c.args.told.now c.take_top.new.told taken.state taken.gone leads
    (top-idle c.args.rule c.args.side st c.requires.rests.idle) (taken-few c.args.rule c.args.side st c.requires.rests.enabled) in
    (omega arith, (within, (rests, (left, omega (arith, c.requires.room, c.take_top.ensures.shelf.tables, c.take_top.ensures.shelf.room)))))

pub returns-clause-leads : goal.returns-clause-leads
returns-clause-leads g t c =
    let s = g.B.Blocks.value c.args.store.now in
    let mid = g.B.Blocks.value c.take_top.new.store in
    let new = g.B.Blocks.value c.take_all.new.store in
    let st = state_in s c.args.self.now in
    let u = state_in mid c.take_top.new.self in
    let f = c.args.told.now in
    let leads = c.take_top.ensures.taken.leads in
    let many : suc (c.args.count - 1) ≡ length (stream c.args.side st).modules = omega (arith, c.requires.count, c.if-count-eq0.false) in
    subst (λ (o : Carried ℕ (State ℕ)). Leads s new c.take_all.new.self f c.take_all.new.told o.state o.gone) (sym (all-by-one c.args.rule c.args.side st u leads.state (c.args.count - 1) many))
    (leads-both s mid new c.take_top.new.self c.take_all.new.self f c.take_top.new.told c.take_all.new.told (top_taken c.args.rule c.args.side (stream c.args.side st).modules st)
    (all_taken c.args.rule c.args.side (stream c.args.side u).modules u) leads c.take_all.ensures.leads)

pub returns-then-count-eq0-clause-shelf : goal.returns-then-count-eq0-clause-shelf
returns-then-count-eq0-clause-shelf g t c = record { tables = omega arith; room = omega arith }

pub returns-clause-shelf : goal.returns-clause-shelf
returns-clause-shelf g t c = record {
  tables = omega (arith, c.take_top.ensures.shelf.tables, c.take_all.ensures.shelf.tables);
  room = omega (arith, c.take_top.ensures.shelf.room, c.take_all.ensures.shelf.room);
}
