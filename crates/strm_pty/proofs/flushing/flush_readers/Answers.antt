-- They are told where that side is open.
use Rattle.std.proofs.Common.{refl}
use Rattle.strm_types.specs.Drivers.{bottom_across}
use Rattle.strm_pty.proofs.Made.{readers-open, readers-closed}
use Rattle.strm_pty.proofs.flushing.flush_readers.Goals as goal

pub returns-then-across : goal.returns-then-across
returns-then-across g c = readers-open _ _ c.args.goes c.args.across.is_open c.args.asked c.bottom_across.result (bottom_across c.args.side c.args.across) _ c.flush_to.ensures c.bottom_across.ensures c.if-across.true

pub returns-else-across : goal.returns-else-across
returns-else-across g c =
    let s = g.B.Blocks.value c.args.store.now in
    readers-closed s s c.args.goes c.args.across.is_open c.args.asked (bottom_across c.args.side c.args.across) (bottom_across c.args.side c.args.across) _ refl c.if-across.false
