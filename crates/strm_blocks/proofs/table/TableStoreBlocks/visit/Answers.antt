use Rattle.std.proofs.Common.{◌∙◌, List, ap, map, sym, subst}
use Rattle.std.specs.List.{AllByRecursion}
use Rattle.strm_blocks.specs.Blocks.{Block}
use Rattle.strm_blocks.specs.Outcomes.{seen_on, told}
use Rattle.strm_blocks.specs.Table.{IsShown, chain_of}
use Rattle.strm_blocks.specs.declared.message.Message.{Message}
use Rattle.strm_blocks.proofs.Lists.{list-read, list-is}
use Rattle.strm_blocks.proofs.Peeks.{list-shown}
use Rattle.strm_blocks.proofs.table.TableStoreBlocks.visit.Goals as goal

pub tell_list-requires : goal.tell_list-requires
tell_list-requires g c =
    let t = c.self.inside in
    let k = c.args.list in
    let read = list-read t c.self.view_is c.self.invariant k c.requires c.index-self-list.result in
    subst (λ (q : List Message). AllByRecursion (λ m. AllByRecursion (IsShown t.data) m.blocks) q) (sym read) (list-shown t c.self.view_is c.self.invariant k c.requires)

pub returns : goal.returns
returns g c =
    let t = c.self.inside in
    let k = c.args.list in
    let read = list-read t c.self.view_is c.self.invariant k c.requires c.index-self-list.result in
    let chains = ap (λ (q : List Message). map (chain_of t.data.bytes) q) read ∙ sym (list-is t c.self.view_is c.self.invariant k c.requires) in
    c.tell_list.ensures ∙ ap (λ (q : List (List Block)). told g.V.Visitor.after g.V.Visitor.goes_on c.args.visitor.now (seen_on q)) chains
