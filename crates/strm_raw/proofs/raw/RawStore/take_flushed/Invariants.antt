use Rattle.strm_raw.proofs.Flushed.{Sifting}
use Rattle.strm_raw.proofs.raw.RawStore.take_flushed.Given as goal

abbrev pub invariant-loop-left : goal.invariant-loop-left
invariant-loop-left l = let t = l.self-inside in Sifting l.fn.self l.list l.what t.memory t.ends t.ledger.roster t.free_msg t.free_data t.spare_m t.spare_d l.at l.left l.taken

abbrev pub decreases-loop-left : goal.decreases-loop-left
decreases-loop-left l = l.left
