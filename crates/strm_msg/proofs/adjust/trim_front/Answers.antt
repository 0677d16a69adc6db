-- The blocks are all of them.
use Rattle.std.proofs.Common.{◌∙◌, ◌++◌, drop, ap, arith, append-nil}
use Rattle.std.proofs.lemmas.List.{take_all, drop_all}
use Rattle.strm_blocks.specs.Blocks.{in_hand, changed, trimmed_head, token}
use Rattle.strm_msg.specs.Adjusted.{trimmed_by}
use Rattle.strm_msg.proofs.adjust.trim_front.Goals as goal

pub returns : goal.returns
returns g c =
    let s = g.B.Blocks.value c.args.store.now in
    let i = token c.args.message.now in
    let chain = in_hand s i in
    let all = c.blocks-count.ensures.count in
    c.trim_blocks.ensures
    ∙ ap (λ xs. changed s i (trimmed_by trimmed_head c.args.n xs ++ drop c.blocks-count.result chain)) (take_all c.blocks-count.result chain (omega (arith, all)))
    ∙ ap (λ xs. changed s i (trimmed_by trimmed_head c.args.n chain ++ xs)) (drop_all c.blocks-count.result chain (omega (arith, all)))
    ∙ ap (changed s i) (append-nil (trimmed_by trimmed_head c.args.n chain))
