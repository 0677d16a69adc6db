-- The bytes that are trimmed are those of the control part, and under the other modes all stays.
use Rattle.strm_head.proofs.Prelude.{◌≡◌, ◌-◌, ◌∙◌, length, sym, ap, arith, unwrap_or, front-cut}
use Rattle.strm_head.specs.Prelude.{in_hand, changed, trimmed_head, token, trimmed_by, control_blocks, control_bytes}
use Rattle.strm_msg.proofs.Hands.{changed-same}
use Rattle.strm_head.specs.Parted.{cut_by, shown_chain}
use Rattle.strm_head.proofs.Resting.{part-length}
use Rattle.strm_head.proofs.Showing.{shown-all}
use Rattle.strm_head.proofs.parts.show.Goals as goal

pub returns-in-Discard : goal.returns-in-Discard
returns-in-Discard g c =
    let s = g.B.Blocks.value c.args.store.now in
    let i = token c.args.message.now in
    let chain = in_hand s i in
    let n = length (control_bytes chain) in
    let size : c.unwrap_or-size.result ≡ n = c.unwrap_or-size.ensures ∙ ap (λ o. unwrap_or o 0) c.control_len.ensures ∙ part-length (control_blocks chain) in
    c.trim_front.ensures ∙ ap (λ m. changed s i (trimmed_by trimmed_head m chain)) size ∙ ap (changed s i) (front-cut n chain c.requires.chain c.requires.data)
    ∙ ap (λ d. changed s i (cut_by n d chain)) (let none : n - n ≡ 0 = omega arith in none)
    ∙ ap (λ mode. changed s i (shown_chain mode chain)) (sym c.in-Discard.is)

pub returns-in_default : goal.returns-in_default
returns-in_default g c =
    let s = g.B.Blocks.value c.args.store.now in
    let i = token c.args.message.now in
    sym (ap (changed s i) (shown-all c.args.control (in_hand s i) c.in_default.not-Discard) ∙ changed-same s i)
