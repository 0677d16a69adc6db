-- The module on top has let all go, and is taken off.
use Rattle.strm_pair.proofs.Prelude.{◌≡◌, refl, sym, ◌∙◌, arith, None}
use Rattle.strm_pair.proofs.ModuleTaken.{cleared-pairs, none-top, took-top}
use Rattle.strm_pair.proofs.stacks.take_top.Goals as goal

pub returns-in_err-name-clause-took : goal.returns-in_err-name-clause-took
returns-in_err-name-clause-took g c =
    let gone : c.from_residual.result ≡ None = grind arith in
    let bare = none-top (g.B.Blocks.value c.args.store.now) c.args.stack.now.modules.items (sym (c.look.ensures (g.B.Blocks.value c.args.store.now)) ∙ c.in_err-name.was) in
    rw gone (record { none = bare; store = refl; stack = refl; tells = refl })

pub returns-clause-took : goal.returns-clause-took
returns-clause-took g c =
    let e = c.clear_top-gone.ensures.does in
    took-top (g.B.Blocks.value c.args.store.now) (g.B.Blocks.value c.clear_top-gone.new.store) c.args.side c.args.rule c.args.told.now c.clear_top-gone.new.told _ c.args.stack.now c.clear_top-gone.new.self c.pop_top.new.stack
    (sym (c.look.ensures (g.B.Blocks.value c.args.store.now)) ∙ c.in_ok-name.was) e.state e.notes e.told e.held e.rests e.own e.hand e.frees c.pop_top.ensures.rest

pub pop_top-requires : goal.pop_top-requires
pop_top-requires g c =
    let same = cleared-pairs (g.B.Blocks.value c.args.store.now) (g.B.Blocks.value c.clear_top-gone.new.store) c.args.side c.args.rule c.args.stack.now.modules.items c.clear_top-gone.new.self.modules.items c.clear_top-gone.ensures.does.state in
    omega (arith, c.requires.room, same)

pub returns-clause-shelf : goal.returns-clause-shelf
returns-clause-shelf g c =
    let same = cleared-pairs (g.B.Blocks.value c.args.store.now) (g.B.Blocks.value c.clear_top-gone.new.store) c.args.side c.args.rule c.args.stack.now.modules.items c.clear_top-gone.new.self.modules.items c.clear_top-gone.ensures.does.state in
    record { tables = omega (arith, c.pop_top.ensures.shelf.tables, same); room = c.pop_top.ensures.shelf.room }

pub returns-in_err-name-clause-shelf : goal.returns-in_err-name-clause-shelf
returns-in_err-name-clause-shelf g c = record { tables = omega arith; room = omega arith }
