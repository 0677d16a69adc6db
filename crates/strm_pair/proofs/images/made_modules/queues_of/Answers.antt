-- There are none, or both stand on their lists.
use Rattle.strm_pair.proofs.Prelude.{ap, sym, subst, arith, None, Some}
use Rattle.strm_pair.specs.Placing.{ArePlaced, queues_pair}
use Rattle.strm_pair.proofs.StacksMade.{placed-none, placed-pair}
use Rattle.strm_pair.proofs.images.made_modules.queues_of.Goals as goal

pub returns-in_default : goal.returns-in_default
returns-in_default g c =
    let s = g.B.Blocks.value c.args.store.now in
    subst (λ text. ArePlaced s s c.args.first c.args.shelf.now c.args.shelf.now text None) (sym c.in_default.is) (placed-none s c.args.first c.args.shelf.now)

pub take-requires : goal.take-requires
take-requires g c = (c.requires.free (omega (arith, ap queues_pair c.in-Some.is))).tables

pub pair_of-requires-clause-first : goal.pair_of-requires-clause-first
pair_of-requires-clause-first g c = (c.requires.free (omega (arith, ap queues_pair c.in-Some.is))).list

pub pair_of-requires-clause-reads : goal.pair_of-requires-clause-reads
pair_of-requires-clause-reads g c = (c.requires.free (omega (arith, ap queues_pair c.in-Some.is))).reads

pub pair_of-requires-clause-writes : goal.pair_of-requires-clause-writes
pair_of-requires-clause-writes g c = (c.requires.free (omega (arith, ap queues_pair c.in-Some.is))).writes

pub returns : goal.returns
returns g c =
    let s = g.B.Blocks.value c.args.store.now in
    let t = g.B.Blocks.value c.pair_of.new.store in
    let e = c.pair_of.ensures in
    subst (λ text. ArePlaced s t c.args.first c.args.shelf.now c.take.new.self text (Some c.pair_of.result)) (sym c.in-Some.is)
    (placed-pair s t c.args.first c.args.shelf.now c.take.new.self c.in-Some.found c.pair_of.result e.state e.ready e.owns e.fills e.spent c.take.ensures.tables c.take.ensures.room)
