-- The first bytes of the message are those of its control part.
use Rattle.std.proofs.Common.{◌∙◌, ◌<◌, ◌^◌, length, ap, refl, arith, w64}
use Rattle.std.proofs.lemmas.Int.{to_z_pos}
use Rattle.strm_blocks.specs.Blocks.{in_hand, changed, token}
use Rattle.strm_msg.specs.Adjusted.{adjusted}
use Rattle.strm_msg.proofs.Cutting.{head-cut, control-given}
use Rattle.strm_msg.proofs.control.take_control.Goals as goal

pub returns-clause-given : goal.returns-clause-given
returns-clause-given g c =
    let chain = in_hand (g.B.Blocks.value c.args.store.now) (token c.args.message.now) in
    let buffer = c.args.buffer.now in
    c.first_bytes.ensures.given ∙ control-given (length buffer) chain buffer c.requires.chain refl c.requires.has

pub returns-clause-trimmed : goal.returns-clause-trimmed
returns-clause-trimmed g c =
    let s = g.B.Blocks.value c.args.store.now in
    let i = token c.args.message.now in
    let chain = in_hand s i in
    let n = length c.args.buffer.now in
    let small : n < 2 ^ 63 = omega arith in
    c.adjmsg.ensures.trimmed ∙ ap (λ z. changed s i (adjusted z chain)) (to_z_pos w64 n small) ∙ ap (λ xs. changed s i xs) (head-cut n chain c.requires.chain c.requires.has)
