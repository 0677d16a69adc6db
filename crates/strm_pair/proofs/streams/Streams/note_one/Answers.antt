-- By its kind the note enables a queue of the place, or the nearest earlier one.
use Rattle.strm_pair.proofs.Prelude.{◌∙◌, ◌≤◌, [], ◌∷◌, length, ap, subst, sym}
use Rattle.strm_types.specs.Names.{enable_found}
use Rattle.strm_pair.specs.Nearest.{noted_on}
use Rattle.strm_pair.proofs.Enabling.{found-room}
use Rattle.strm_pair.proofs.streams.Streams.note_one.Goals as goal

pub enable_found-requires : goal.enable_found-requires
enable_found-requires c =
    let p = c.args.self.now in
    let s = c.requires.few.0 in
    let few = subst (λ n. length (noted_on s c.args.side c.args.place c.args.at (n ∷ []) p).enabled ≤ 14) c.in-Enable.is c.requires.few.1 in
    record { room = found-room c.queue_named.result p.enabled (subst (λ o. length (enable_found o p.enabled) ≤ 14) (sym c.queue_named.ensures) few) }

pub let_go-requires : goal.let_go-requires
let_go-requires c =
    let p = c.args.self.now in
    let s = c.requires.few.0 in
    record { few = (s, subst (λ n. length (noted_on s c.args.side c.args.place c.args.at (n ∷ []) p).enabled ≤ 14) c.in-Room.is c.requires.few.1) }

pub returns-in-Enable : goal.returns-in-Enable
returns-in-Enable c = λ s.
    let p = c.args.self.now in
    ap (λ names. record p { enabled = names }) (c.enable_found.ensures ∙ ap (λ name. enable_found name p.enabled) c.queue_named.ensures)
    ∙ ap (λ n. noted_on s c.args.side c.args.place c.args.at (n ∷ []) p) (sym c.in-Enable.is)

pub returns-in-Room : goal.returns-in-Room
returns-in-Room c = λ s.
    let p = c.args.self.now in
    c.let_go.ensures s ∙ ap (λ n. noted_on s c.args.side c.args.place c.args.at (n ∷ []) p) (sym c.in-Room.is)
