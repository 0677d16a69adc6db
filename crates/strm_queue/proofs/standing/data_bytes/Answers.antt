-- The kept bytes of data are those that a flush takes.
use Rattle.std.proofs.Common.{ℕ, ◌≡◌, List, length, map, sym, refl, ◌∙◌}
use Rattle.std.specs.Prelude.{Option, None, Some, sum_by}
use Rattle.strm_types.specs.declared.kinds.Band.{Band}
use Rattle.strm_types.specs.Emptied.{cells_gone, of_data}
use Rattle.strm_blocks.specs.Blocks.{Block, list_at}
use Rattle.strm_msg.specs.Messages.{message_of, AreMessages}
use Rattle.strm_queue.specs.Kept.{data_bytes_of, data_share}
use Rattle.strm_queue.proofs.Going.{gone-all, gone-band}
use Rattle.strm_queue.proofs.standing.data_bytes.Goals as goal

by-band : (n : ℕ) (band : Option Band) (q : List (List Block)) → AreMessages q
    → (band ≡ None → n ≡ sum_by data_bytes_of q) → ((b : Band) → band ≡ Some b → n ≡ sum_by (data_share b.0) q)
    → n ≡ length (cells_gone (of_data band) (map message_of q))
by-band n None q are all one = all refl ∙ sym (gone-all q are.chains)
by-band n (Some b) q are all one = one b refl ∙ sym (gone-band b q are.chains)

pub returns : goal.returns
returns g c =
    let q = list_at (g.B.Blocks.value c.args.store.now) c.args.queue.now.list in
    by-band c.data_bytes.result c.args.band q c.requires.ready.messages (λ none. c.data_bytes.ensures.all q c.requires.ready.counted none) (λ b some. c.data_bytes.ensures.one q b c.requires.ready.counted some)
