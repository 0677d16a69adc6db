use Rattle.std.proofs.Common.{◌∙◌, List, ap, sym, length}
use Rattle.std.proofs.lemmas.List.{length-map}
use Rattle.strm_blocks.specs.declared.message.Message.{Message}
use Rattle.strm_blocks.specs.Blocks.{Block}
use Rattle.strm_blocks.specs.Table.{chain_of}
use Rattle.strm_blocks.proofs.Lists.{list, list-read, list-is}
use Rattle.strm_blocks.proofs.table.TableStoreBlocks.messages.Goals as goal

pub returns : goal.returns
returns c =
    let t = c.self.inside in
    let k = c.args.list in
    let q = list t c.self.view_is c.self.invariant k c.requires in
    let read = list-read t c.self.view_is c.self.invariant k c.requires c.index-self-list.result in
    let is = list-is t c.self.view_is c.self.invariant k c.requires in
    c.len.ensures.value ∙ ap (λ (q : List Message). length q) read ∙ sym (length-map q (chain_of t.data.bytes)) ∙ ap (λ (q : List (List Block)). length q) (sym is)
