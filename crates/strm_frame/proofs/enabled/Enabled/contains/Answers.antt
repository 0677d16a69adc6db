-- A name that isn't the first one stands among the others, or not at all.
use Rattle.std.proofs.Common.{◌≡◌, ◌∙◌, false, ap, sym}
use Rattle.std.specs.Prelude.{◌||◌}
use Rattle.strm_types.specs.Names.{is_enabled, same_queue}
use Rattle.strm_frame.proofs.enabled.Enabled.contains.Goals as goal

pub returns-else-is_same : goal.returns-else-is_same
returns-else-is_same c =
    let name = c.args.name in
    let other : same_queue c.in-Some.first.now name ≡ false = sym c.is_same.ensures ∙ c.if-is_same.false in
    c.is_among.ensures
    ∙ sym (ap (λ same. same || is_enabled name c.in-Some.rest.now) other)
    ∙ ap (is_enabled name) (sym c.in-Some.ensures.cases.0 ∙ (c.as_slice.ensures.value ∙ c.self.view_is))
