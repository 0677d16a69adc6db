-- A visitor of the message's blocks adds up its parts.
use Rattle.std.proofs.Common.{◌∙◌, ap, arith}
use Rattle.strm_blocks.specs.Blocks.{in_hand, token}
use Rattle.strm_msg.specs.declared.sizes.PartSizes.{PartSizes}
use Rattle.strm_msg.proofs.Bounds.{bytes-few}
use Rattle.strm_msg.proofs.Parts.{parts-are}
use Rattle.strm_msg.proofs.sizes.part_sizes.Goals as goal

pub returns-clause-control : goal.returns-clause-control
returns-clause-control g c =
    let s = g.B.Blocks.value c.args.store.now in
    let i = token c.args.message.now in
    ap (λ (v : PartSizes). v.control) c.visit_message.ensures ∙ (parts-are (in_hand s i) (omega (arith, bytes-few s i c.audit.ensures))).control

pub returns-clause-body : goal.returns-clause-body
returns-clause-body g c =
    let s = g.B.Blocks.value c.args.store.now in
    let i = token c.args.message.now in
    ap (λ (v : PartSizes). v.body) c.visit_message.ensures ∙ (parts-are (in_hand s i) (omega (arith, bytes-few s i c.audit.ensures))).body
