-- Each reason is the one of the plain pair.
use Rattle.strm_pair.proofs.Prelude.{refl, ap, ◌∙◌}
use Rattle.strm_pair.specs.Prelude.{is_enabled, PairState, in_range}
use Rattle.strm_pair.proofs.pair.Pair.turn_refusal.Goals as goal

pub returns : goal.returns
returns g c =
    let contains = c.contains.ensures ∙ ap (λ (v : PairState). is_enabled c.args.name v.state.enabled) c.self.view_is in
    let ranged = c.in_range.ensures (g.B.Blocks.value c.self.inside.store) ∙ ap (λ (v : PairState). in_range v.state) c.self.view_is in
    rw (c.or_else-3.ensures, c.or_else-2.ensures, c.or_else.ensures, c.unless.ensures, c.unless-2.ensures, c.unless-3.ensures, c.unless-4.ensures, contains, ranged, c.has_room.ensures, c.has_blocks.ensures, c.turn_blocks.ensures) refl
