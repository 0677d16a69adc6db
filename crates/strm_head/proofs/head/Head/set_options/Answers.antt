-- Ten bytes are enough.
use Rattle.strm_head.proofs.Prelude.{◌≡◌, ap, ◌∙◌, take, replicate}
use Rattle.strm_head.specs.Prelude.{options_in, in_hand, token, bytes_of}
use Rattle.strm_types.specs.Heads.{with_options}
use Rattle.strm_head.specs.Heads.{head_in}
use Rattle.strm_head.proofs.Heeding.{first-of, options-first}
use Rattle.strm_head.proofs.head.Head.set_options.Goals as goal

pub returns-clause-state : goal.returns-clause-state
returns-clause-state g c = λ s ready.
    let bytes = bytes_of (in_hand (g.B.Blocks.value c.args.store.now) (token c.args.message.now)) in
    let count = c.first_bytes-count in
    let options : c.read-options.result ≡ options_in bytes =
    c.read-options.ensures
    ∙ ap (λ xs. options_in xs) (ap (λ xs. take count.result xs) count.ensures.given ∙ first-of (replicate 10 0) bytes count.result count.ensures.count)
    ∙ options-first bytes in
    let h = head_in s c.args.self.now in
    c.set_marks.ensures.state s ready
    ∙ ap (λ mode. record (with_options c.read-options.result h) { read_mode = mode; tostop = c.unwrap_or-self-2.result }) c.unwrap_or-self.ensures
    ∙ ap (λ tostop. record (with_options c.read-options.result h) { tostop = tostop }) c.unwrap_or-self-2.ensures
    ∙ ap (λ o. with_options o h) options
