-- The place of a module is one of a module, and what stands there is told by the modules of the side's stack.
use Rattle.strm_pair.proofs.Prelude.{ℕ, ◌≡◌, length, ap, arith, subst, sym, ◌∙◌, min, length-map}
use Rattle.strm_pair.specs.Prelude.{MODULES, place_of, before_among, before_by, places_of, Standing, module_name, Stream}
use Rattle.strm_laws.specs.Earlier.{before_modules, queue_named}
use Rattle.strm_frame.specs.Stacks.{IsPlace}
use Rattle.strm_pair.specs.Stacks.{modules_in}
use Rattle.strm_pair.proofs.streams.Streams.before.Goals as goal

pub place_at-requires-clause-inside : goal.place_at-requires-clause-inside
place_at-requires-clause-inside c = (subst (IsPlace (length c.end.result.now.stack.modules.items)) c.in-Some.is c.place_before.ensures.inside).0

pub returns-in-Some : goal.returns-in-Some
returns-in-Some c = λ s.
    let ms = modules_in s c.end.result.now.stack in
    c.queue_named.ensures ∙ ap (queue_named c.args.side c.args.way) (c.place_at.ensures s)
    ∙ ap (before_by c.args.side c.args.way c.args.at (places_of ms)) (sym (sym (c.place_before.ensures.place s) ∙ c.in-Some.is))
    ∙ ap (λ (t : Stream ℕ). before_among c.args.side c.args.way c.args.at t.modules) (c.end.ensures.stream s)

pub returns-in-None : goal.returns-in-None
returns-in-None c = λ s.
    let ms = modules_in s c.end.result.now.stack in
    let many : c.min.result ≡ min MODULES (length (places_of ms)) =
    omega (arith, c.min.ensures, c.module_count.ensures s, length-map ms (λ (p : Standing ℕ). place_of (module_name p))) in
    c.before_modules.ensures ∙ ap (λ n. before_modules c.args.side c.args.way n c.args.at) many
    ∙ ap (before_by c.args.side c.args.way c.args.at (places_of ms)) (sym (sym (c.place_before.ensures.place s) ∙ c.in-None.is))
    ∙ ap (λ (t : Stream ℕ). before_among c.args.side c.args.way c.args.at t.modules) (c.end.ensures.stream s)
