-- The first reason that holds is the one that is told.
use Rattle.strm_pair.proofs.Prelude.{◌≡◌, ◌+◌, sym, ap, ◌∙◌, None}
use Rattle.strm_pair.specs.Prelude.{request, judged, PairState, enough, has_room, refused_at_once, refused_by_state, stop_of}
use Rattle.strm_types.specs.declared.needs.Needs.{Needs}
use Rattle.strm_laws.specs.Refusals.{unmet}
use Rattle.strm_pair.specs.Pairs.{state_in}
use Rattle.strm_pair.proofs.Refusing.{first-told, full-told, few-told, state-told}
use Rattle.strm_pair.proofs.pair.Pair.verdict.Goals as goal

pub returns-then-not-has_room : goal.returns-then-not-has_room
returns-then-not-has_room g c =
    let v = c.args.self.now in
    let asked = request c.args.event.now in
    let at_once : refused_at_once v.state c.args.caller asked ≡ None =
    ap (λ (n : Needs). unmet v.state c.args.caller.side n) (sym c.needs-needs.ensures.value)
    ∙ ap (λ (x : PairState). unmet x.state c.args.caller.side c.needs-needs.result) (sym c.self.view_is) ∙ sym (c.unmet.ensures (g.B.Blocks.value c.self.inside.store)) ∙ c.in_default.is in
    ap (λ told. judged told (stop_of v.state c.args.caller asked)) (full-told g.M.Behaves.does v c.args.caller asked at_once
    (ap (λ (n : Needs). has_room v.journal v.limits (n.brings + n.gives)) (sym c.needs-needs.ensures.value) ∙ sym c.has_room.ensures ∙ c.if-not-has_room.true))

pub returns-then-not-has_blocks : goal.returns-then-not-has_blocks
returns-then-not-has_blocks g c =
    let v = c.args.self.now in
    let asked = request c.args.event.now in
    let at_once : refused_at_once v.state c.args.caller asked ≡ None =
    ap (λ (n : Needs). unmet v.state c.args.caller.side n) (sym c.needs-needs.ensures.value)
    ∙ ap (λ (x : PairState). unmet x.state c.args.caller.side c.needs-needs.result) (sym c.self.view_is) ∙ sym (c.unmet.ensures (g.B.Blocks.value c.self.inside.store)) ∙ c.in_default.is in
    ap (λ told. judged told (stop_of v.state c.args.caller asked)) (few-told g.M.Behaves.does v c.args.caller asked at_once
    (ap (λ (n : Needs). has_room v.journal v.limits (n.brings + n.gives)) (sym c.needs-needs.ensures.value) ∙ sym c.has_room.ensures ∙ c.if-not-has_room.false)
    (ap (λ (n : Needs). enough n.blocks v.free) (sym c.needs-needs.ensures.value) ∙ sym c.has_blocks.ensures ∙ c.if-not-has_blocks.true))

pub returns : goal.returns
returns g c =
    let K = g.M.Behaves.does in
    let v = c.args.self.now in
    let asked = request c.args.event.now in
    let at_once : refused_at_once v.state c.args.caller asked ≡ None =
    ap (λ (n : Needs). unmet v.state c.args.caller.side n) (sym c.needs-needs.ensures.value)
    ∙ ap (λ (x : PairState). unmet x.state c.args.caller.side c.needs-needs.result) (sym c.self.view_is) ∙ sym (c.unmet.ensures (g.B.Blocks.value c.self.inside.store)) ∙ c.in_default.is in
    c.verdict.ensures ∙ ap (λ (x : PairState). judged (refused_by_state K x.state c.args.caller asked) (stop_of x.state c.args.caller asked)) c.self.view_is
    ∙ ap (λ told. judged told (stop_of v.state c.args.caller asked)) (state-told K v c.args.caller asked at_once
    (ap (λ (n : Needs). has_room v.journal v.limits (n.brings + n.gives)) (sym c.needs-needs.ensures.value) ∙ sym c.has_room.ensures ∙ c.if-not-has_room.false)
    (ap (λ (n : Needs). enough n.blocks v.free) (sym c.needs-needs.ensures.value) ∙ sym c.has_blocks.ensures ∙ c.if-not-has_blocks.false))

pub verdict-requires-clause-allowed : goal.verdict-requires-clause-allowed
verdict-requires-clause-allowed g c =
    ap (λ (n : Needs). unmet (state_in (g.B.Blocks.value c.self.inside.store) c.self.inside.streams) c.args.caller.side n) (sym c.needs-needs.ensures.value)
    ∙ sym (c.unmet.ensures (g.B.Blocks.value c.self.inside.store)) ∙ c.in_default.is

pub returns-in-Some : goal.returns-in-Some
returns-in-Some g c =
    let v = c.args.self.now in
    let asked = request c.args.event.now in
    let at_once = sym c.in-Some.is ∙ c.unmet.ensures (g.B.Blocks.value c.self.inside.store) ∙ ap (λ (x : PairState). unmet x.state c.args.caller.side c.needs-needs.result) c.self.view_is
    ∙ ap (λ (n : Needs). unmet v.state c.args.caller.side n) c.needs-needs.ensures.value in
    ap (λ told. judged told (stop_of v.state c.args.caller asked)) (first-told c.in-Some.refusal (refused_at_once v.state c.args.caller asked) _ at_once)

pub verdict-requires-clause-access : goal.verdict-requires-clause-access
verdict-requires-clause-access g c = ap (λ (n : Needs). n.access) c.needs-needs.ensures.value
