-- What stands across.
use Rattle.strm_pair.proofs.Prelude.{ℕ, Bool, ap, ◌∙◌}
use Rattle.strm_pair.specs.Prelude.{modules_on, is_open, other, Stream, stream, across_of}
use Rattle.strm_pair.specs.Pairs.{state_in}
use Rattle.strm_pair.proofs.streams.Streams.across.Goals as goal

pub returns : goal.returns
returns c = λ s.
    let st = state_in s c.args.self.now in
    let side = c.args.side in
    ap (λ (b : Bool). record { is_open = b; bottom = c.modules_on.result; ended = c.is_closed.result })
    (c.is_open.ensures ∙ ap (λ (t : Stream ℕ). is_open t.opened) (c.end.ensures.stream s ∙ ap (λ sd. stream sd st) c.other-other.ensures))
    ∙ ap (λ (n : ℕ). record { is_open = is_open (stream (other side) st).opened; bottom = n; ended = c.is_closed.result }) (c.modules_on.ensures.on s ∙ ap (λ sd. modules_on sd st) c.other-other.ensures)
    ∙ ap (λ (b : Bool). record (across_of side st) { ended = b }) c.is_closed.ensures
