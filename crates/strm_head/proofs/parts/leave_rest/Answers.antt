-- The bytes that are trimmed are those of the control part and then those of the data part.
use Rattle.strm_head.proofs.Prelude.{◌≡◌, ◌-◌, ◌∙◌, length, sym, ap, subst, arith, length-drop, front-cut, changed-chain, changed-in_hand}
use Rattle.strm_head.specs.Prelude.{in_hand, changed, dropped, IsInHand, trimmed_head, token, trimmed_by, bytes_of, control_bytes, without_emptied}
use Rattle.strm_msg.proofs.AdjustingBytes.{trimmed-heads}
use Rattle.strm_msg.proofs.Hands.{dropped-changed}
use Rattle.strm_head.specs.Parted.{cut_by}
use Rattle.strm_head.proofs.parts.leave_rest.Goals as goal

pub free_emptied-requires-clause-in_hand : goal.free_emptied-requires-clause-in_hand
free_emptied-requires-clause-in_hand g c =
    let s = g.B.Blocks.value c.args.store.now in
    let i = token c.args.message in
    subst (λ v. IsInHand v i) (sym c.trim_front.ensures) (changed-in_hand s i (trimmed_by trimmed_head c.args.n (in_hand s i)) i c.requires.in_hand)

pub free_emptied-requires-clause-some : goal.free_emptied-requires-clause-some
free_emptied-requires-clause-some g c =
    let s = g.B.Blocks.value c.args.store.now in
    let i = token c.args.message in
    let chain = in_hand s i in
    let cut = trimmed_by trimmed_head c.args.n chain in
    let now = ap (λ v. in_hand v i) c.trim_front.ensures ∙ changed-chain s i cut c.requires.in_hand in
    omega (arith, ap (λ xs. length (bytes_of xs)) now, ap length (trimmed-heads c.args.n chain), length-drop c.args.n (bytes_of chain), c.requires.less)

pub returns : goal.returns
returns g c =
    let s = g.B.Blocks.value c.args.store.now in
    let t = g.B.Blocks.value c.trim_front.new.store in
    let i = token c.args.message in
    let chain = in_hand s i in
    let cut = cut_by c.args.n (c.args.n - length (control_bytes chain)) chain in
    let trimmed : t ≡ changed s i cut = c.trim_front.ensures ∙ ap (changed s i) (front-cut c.args.n chain c.requires.chain c.requires.data) in
    let b = c.free_emptied.ensures in
    record {
      here = b.here;
      chain_is = b.chain_is ∙ ap without_emptied (ap (λ v. in_hand v i) trimmed ∙ changed-chain s i cut c.requires.in_hand);
      others = b.others ∙ ap (λ v. dropped v i) trimmed ∙ dropped-changed s i cut;
    }
