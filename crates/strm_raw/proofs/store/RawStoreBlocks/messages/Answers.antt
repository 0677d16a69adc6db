use Rattle.std.proofs.Common.{List, length, sym, ap, ◌∙◌}
use Rattle.std.proofs.lemmas.List.{length-map}
use Rattle.strm_blocks.specs.Blocks.{Block, StoreValue, list_at}
use Rattle.strm_raw.specs.Lists.{queue_at}
use Rattle.strm_raw.specs.Raw.{chain_of}
use Rattle.strm_raw.proofs.Moved.{queue-value}
use Rattle.strm_raw.proofs.store.RawStoreBlocks.messages.Goals as goal

pub returns : goal.returns
returns c =
    let t = c.self.inside in let v = t.memory in let b = t.ledger.roster in let k = c.args.list in
    c.self.invariant.listed.counted k ∙ sym (length-map (queue_at k b.lists) (chain_of v))
    ∙ ap (λ (q : List (List Block)). length q) (sym (queue-value v b.lists k) ∙ ap (λ (s : StoreValue). list_at s k) c.self.view_is)
