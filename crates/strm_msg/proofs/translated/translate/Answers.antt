-- The message stays, or all of its blocks go to its end.
use Rattle.std.proofs.Common.{◌≡◌, ap, arith, false, sym, true, ◌∙◌}
use Rattle.strm_types.specs.Flush.{is_data_kind}
use Rattle.strm_blocks.specs.Blocks.{block_at, in_hand, token}
use Rattle.strm_msg.proofs.Translating.{translated-all, translated-none, rotating-in_hand, rotating-next, rotating-none, rotating-wide}
use Rattle.strm_msg.proofs.translated.translate.Goals as goal

pub returns-then-not-is_data_kind : goal.returns-then-not-is_data_kind
returns-then-not-is_data_kind g c =
    let chain = in_hand (g.B.Blocks.value c.args.store.now) (token c.args.message) in
    let is : is_data_kind (block_at 0 chain).kind ≡ false =
    ap is_data_kind (sym c.kind.ensures) ∙ sym c.is_data_kind.ensures ∙ c.if-not-is_data_kind.true in
    translated-none c.args.table.now c.requires.in_hand c.requires.chain is

pub loop-init : goal.loop-init
loop-init g c = rotating-none c.args.table.now c.requires.in_hand

pub rotate-message-requires-clause-in_hand : goal.rotate-message-requires-clause-in_hand
rotate-message-requires-clause-in_hand g c = rotating-in_hand c.args.table.now c.loop.invariant

pub rotate-message-requires-clause-wide : goal.rotate-message-requires-clause-wide
rotate-message-requires-clause-wide g c = rotating-wide c.args.table.now c.loop.invariant c.requires.wide

pub loop-preserved : goal.loop-preserved
loop-preserved g c = rotating-next c.args.table.now c.loop.invariant (omega arith) c.rotate-message.ensures

pub returns : goal.returns
returns g c =
    let chain = in_hand (g.B.Blocks.value c.args.store.now) (token c.args.message) in
    let is : is_data_kind (block_at 0 chain).kind ≡ true =
    ap is_data_kind (sym c.kind.ensures) ∙ sym c.is_data_kind.ensures ∙ c.if-not-is_data_kind.false in
    translated-all c.args.table.now c.requires.in_hand c.requires.chain (omega arith) c.loop.invariant is
