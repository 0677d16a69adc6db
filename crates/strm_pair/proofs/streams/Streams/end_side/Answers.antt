-- The head is as new, and the driver stays.
use Rattle.std.proofs.Common.{refl, ◌∙◌}
use Rattle.strm_types.specs.declared.names.Openness.TheVariants.{Closed}
use Rattle.strm_pair.proofs.Sides.{renewed-beside, renewed-state}
use Rattle.strm_pair.proofs.streams.Streams.end_side.Goals as goal

pub returns : goal.returns
returns g c = λ told.
    let s = g.B.Blocks.value c.args.store.now in
    let t = g.B.Blocks.value c.close.new.store in
    let side = c.args.side in
    let x = c.close.new.self in
    let e = rw c.get_mut.ensures.value at c.close.ensures in
    record {
      state = renewed-state s t c.args.self.now x c.requires.beside side Closed e;
      tells = refl;
      held = record {
        hand = e.keeps.hand ∙ c.requires.hand;
        beside = renewed-beside s t c.args.self.now x c.requires.beside side Closed e;
      };
      pool = record { mblks = e.keeps.mblks; dblks = e.keeps.dblks };
    }
