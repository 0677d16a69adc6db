use Rattle.std.proofs.Common.{◌∙◌, List, true, ap, map, sym, subst}
use Rattle.std.specs.List.{AllByRecursion}
use Rattle.strm_blocks.specs.Blocks.{Block}
use Rattle.strm_blocks.specs.Outcomes.{seen_in, told}
use Rattle.strm_blocks.specs.Table.{IsShown, shown}
use Rattle.strm_blocks.specs.declared.message.MessageBlock.{MessageBlock}
use Rattle.strm_blocks.proofs.Found as found
use Rattle.strm_blocks.proofs.Peeks.{held-shown}
use Rattle.strm_blocks.proofs.Visits.{told-alone}
use Rattle.strm_blocks.proofs.table.TableStoreBlocks.visit_message.Goals as goal

pub blocks_of-requires : goal.blocks_of-requires
blocks_of-requires g c = found.within c.self.inside c.self.view_is c.args.message.now.name c.requires

pub tell_message-requires : goal.tell_message-requires
tell_message-requires g c =
    subst (λ (blocks : List MessageBlock). AllByRecursion (IsShown c.self.inside.data) blocks) (sym c.blocks_of.ensures) (held-shown c.self.inside c.self.view_is c.self.invariant c.args.message.now.name c.requires)

pub returns : goal.returns
returns g c =
    let t = c.self.inside in
    let name = c.args.message.now.name in
    let chain = ap (λ (blocks : List MessageBlock). map (shown t.data.bytes) blocks) c.blocks_of.ensures ∙ sym (found.chain-is t c.self.view_is name) in
    told-alone g.V.Visitor.after g.V.Visitor.goes_on c.args.visitor.now _ _ c.tell_message.result c.tell_message.ensures
    ∙ ap (λ (q : List Block). told g.V.Visitor.after g.V.Visitor.goes_on c.args.visitor.now (seen_in true q)) chain
