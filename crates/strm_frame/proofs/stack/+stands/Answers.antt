-- The first module has the name, or one of the rest.
use Rattle.std.proofs.Common.{◌≡◌, ◌||◌, Bool, true, false, map, ap, sym, ◌∙◌}
use Rattle.strm_types.specs.Modules.{stands}
use Rattle.strm_types.specs.Names.{same_module}
use Rattle.strm_types.specs.Standings.{of_part}
use Rattle.strm_frame.specs.Standings.{standing_in}
use Rattle.strm_frame.proofs.stack.+stands.Goals as goal

here : (said first rest : Bool) → said ≡ first → said ≡ true → said ≡ (first || rest)
here said first rest is so = so ∙ sym (ap (λ b. b || rest) (sym is ∙ so))

there : (said first found rest : Bool) → said ≡ first → said ≡ false → found ≡ rest → found ≡ (first || rest)
there said first found rest is so same = same ∙ sym (ap (λ b. b || rest) (sym is ∙ so))

pub returns-then-is_same : goal.returns-then-is_same
returns-then-is_same g t c = λ s.
    let w = g.M.Module in
    here c.is_same.result (same_module (of_part w.name_of (standing_in w.plain s c.in-Some.first.now)) c.args.name) (stands (of_part w.name_of) c.args.name (map (standing_in w.plain s) c.in-Some.rest.now))
    (c.is_same.ensures ∙ ap (λ name. same_module name c.args.name) (c.name.ensures s)) c.if-is_same.true
    ∙ ap (λ xs. stands (of_part w.name_of) c.args.name (map (standing_in w.plain s) xs)) (sym c.in-Some.ensures.cases.0)

pub returns-else-is_same : goal.returns-else-is_same
returns-else-is_same g t c = λ s.
    let w = g.M.Module in
    there c.is_same.result (same_module (of_part w.name_of (standing_in w.plain s c.in-Some.first.now)) c.args.name) c.stands.result (stands (of_part w.name_of) c.args.name (map (standing_in w.plain s) c.in-Some.rest.now))
    (c.is_same.ensures ∙ ap (λ name. same_module name c.args.name) (c.name.ensures s)) c.if-is_same.false (c.stands.ensures s)
    ∙ ap (λ xs. stands (of_part w.name_of) c.args.name (map (standing_in w.plain s) xs)) (sym c.in-Some.ensures.cases.0)
