use Rattle.std.proofs.Common.{ℕ, ◌-◌, sym, ap, ◌∙◌, subst, arith}
use Rattle.std.specs.Prelude.{slice_range, Result, Ok, Err, MatchResult}
use Rattle.strm_blocks.specs.declared.in_hand.InHand.{InHand}
use Rattle.strm_blocks.specs.declared.asked.NoBlocks.{NoBlocks}
use Rattle.strm_blocks.specs.Blocks.{StoreValue, token, Block}
use Rattle.strm_blocks.specs.Outcomes.{Copied, NoneFree}
use Rattle.strm_raw.specs.Numbered.{Row, DataRow, msg_number, data_number}
use Rattle.strm_raw.specs.Raw.{shown, askew}
use Rattle.strm_raw.proofs.Finding as finding
use Rattle.strm_raw.proofs.Edited as edited
use Rattle.strm_raw.proofs.store.RawStoreBlocks.copy.Goals as goal

-- a copy of a block is one of each block of that kind and band that shows the same bytes
recopied : (old new : StoreValue) (b : Block) (number room : ℕ) (r : Result InHand NoBlocks) → MatchResult r (λ m. Copied old new (token m) b) (λ _. NoneFree old new)
    → MatchResult r (λ m. Copied old new (token m) (record b { number = number; room = room })) (λ _. NoneFree old new)
recopied old new b number room (Ok m) c = record { number = c.number; room_m = c.room_m; room_d = c.room_d; fresh_name = c.fresh_name; exists = c.exists; fresh_number = c.fresh_number; after = c.after }
recopied old new b number room (Err _) none = none

pub message_link-first-requires : goal.message_link-first-requires
message_link-first-requires c = finding.token-below c.self.invariant.raw _ c.self.view_is (token c.args.message.now) _ c.name.ensures c.requires.in_hand

pub slice_bounds-shown-end : goal.slice_bounds-shown-end
slice_bounds-shown-end c =
    let o = ap (λ (r : Row). askew r) c.message-block.ensures.row ∙ c.self.invariant.raw.straight (msg_number c.self.inside.memory.mat c.block_link-link.result) in
    let sized = c.datum.ensures.sized in
    omega arith

pub returns : goal.returns
returns c =
    let v = c.self.inside.memory in let is = c.self.invariant.raw in let l = c.message_link-first.result in let k = c.block_link-link.result in
    let here = finding.here-by v c.self.inside.ledger.roster _ c.self.view_is l (token c.args.message.now) _ c.message_link-first.ensures.there c.message_link-first.ensures.number c.name.ensures c.requires.in_hand in
    let node = c.message-block.result in
    let number = data_number v.dat node.number in
    let block = edited.block-is is c.self.view_is l here (c.message_link-first.ensures.number ∙ c.name.ensures) c.args.at c.requires.within k (c.block_link-link.ensures.number _ (finding.found-linked is l here)) ∙ ap (λ (r : Row). shown v.datas r) (sym c.message-block.ensures.row)
    ∙ ap (λ (d : DataRow). record { kind = node.kind; band = node.band; number = number; bytes = slice_range d.bytes node.start node.end; room = 256 - node.end }) (sym c.datum.ensures.row) in
    subst (λ (b : Block). MatchResult c.alloc_with.result (λ m. Copied c.args.self.now c.alloc_with.new.self (token m) b) (λ _. NoneFree c.args.self.now c.alloc_with.new.self)) (sym block)
    (recopied c.args.self.now c.alloc_with.new.self _ number (256 - node.end) c.alloc_with.result c.alloc_with.ensures)
