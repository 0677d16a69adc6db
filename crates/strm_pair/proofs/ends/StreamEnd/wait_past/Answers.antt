-- The modules keep their names.
use Rattle.strm_pair.proofs.Prelude.{ℕ, List, map, ap, sym, ◌∙◌, Option}
use Rattle.strm_pair.specs.Prelude.{waits_on, Standing, module_name}
use Rattle.strm_types.specs.ModuleQueues.{waits_at}
use Rattle.strm_laws.proofs.SameNames.{waits-names}
use Rattle.strm_pair.proofs.Puttings.{side-changed}
use Rattle.strm_pair.proofs.ends.StreamEnd.wait_past.Goals as goal
use Rattle.strm_pair.specs.Stacks.{modules_in}
use Rattle.strm_pair.specs.Streams.{stream_in}

pub returns-in-Some-clause-side : goal.returns-in-Some-clause-side
returns-in-Some-clause-side c = λ s first is.
    let e = c.let_wait_past.ensures.does in
    let end = c.args.self.now in
    side-changed s first end c.let_wait_past.new.self is (e.held s is.stack) e.owns_same (ap (map module_name) (e.state s) ∙ waits-names c.args.way c.args.band.0 c.args.at (modules_in s end.stack))

pub returns-in-Some-clause-stream : goal.returns-in-Some-clause-stream
returns-in-Some-clause-stream c = λ s.
    let x = c.args.self.now in
    let t = stream_in s x in
    ap (λ (ms : List (Standing ℕ)). record t { modules = ms }) (c.let_wait_past.ensures.does.state s)
    ∙ ap (λ (o : Option ℕ). record t { modules = waits_at c.args.way c.args.band.0 t.modules o }) (sym (c.place_past.ensures.place s) ∙ c.in-Some.is)
    ∙ ap (λ o. waits_on c.args.way c.args.band.0 o t) (sym (sym (c.place_past.ensures.place s) ∙ c.in-Some.is))

pub returns-in-None-clause-stream : goal.returns-in-None-clause-stream
returns-in-None-clause-stream c = λ s.
    let t = stream_in s c.args.self.now in
    c.wait_at_end.ensures.stream s ∙ ap (λ o. waits_on c.args.way c.args.band.0 o t) (sym (sym (c.place_past.ensures.place s) ∙ c.in-None.is))
