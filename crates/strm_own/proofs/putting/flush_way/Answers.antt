-- The queue of the way is flushed, or nothing is done.
use Rattle.std.proofs.Common.{List, [], ◌∷◌, cond, sym, ap, subst}
use Rattle.strm_types.specs.declared.spots.Note.{Note}
use Rattle.strm_types.specs.declared.spots.Note.TheVariants.{Room}
use Rattle.strm_types.specs.OwnStands.{way_flushed}
use Rattle.strm_frame.specs.Standings.{IsPairReady, pair_in}
use Rattle.strm_own.specs.Flushed.{Flushes}
use Rattle.strm_own.proofs.Flushing.{flush-none}
use Rattle.strm_own.proofs.putting.flush_way.Goals as goal

pub returns-then-takes : goal.returns-then-takes
returns-then-takes g c =
    let s = g.B.Blocks.value c.args.store.now in
    let e = c.flush.ensures in
    subst (λ takes. Flushes s (g.B.Blocks.value c.flush.new.store) c.args.pair.now c.flush.new.self c.args.way c.flush.result c.args.told.now c.flush.new.told
    (way_flushed c.args.here c.args.band takes c.args.way (pair_in s c.args.pair.now))) (sym c.if-takes.true)
    (record {
      state = e.state;
      notes = ap (λ b. cond {A = List Note} b (Room c.args.way ∷ []) []) e.went;
      told = e.told;
      ready = e.ready;
      lists = e.lists;
      own = e.own;
      hand = e.hand;
      frees = e.frees;
    })

pub returns-else-takes : goal.returns-else-takes
returns-else-takes g c =
    let s = g.B.Blocks.value c.args.store.now in
    let ready : IsPairReady s c.args.pair.now = record { read = c.requires.read; write = c.requires.write; apart = c.requires.apart } in
    subst (λ takes. Flushes s s c.args.pair.now c.args.pair.now c.args.way takes c.args.told.now c.args.told.now
    (way_flushed c.args.here c.args.band takes c.args.way (pair_in s c.args.pair.now))) (sym c.if-takes.false)
    (flush-none s c.args.pair.now c.args.way c.args.here c.args.band c.args.told.now ready)
