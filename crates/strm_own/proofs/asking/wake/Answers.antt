-- By what the first messages ask now.
use Rattle.std.proofs.Common.{List, [], ◌∷◌, ◌++◌, cond, ap, ◌∙◌}
use Rattle.strm_types.specs.declared.names.Way.TheVariants.{Up, Down}
use Rattle.strm_types.specs.declared.spots.Asks.{Asks}
use Rattle.strm_types.specs.declared.spots.Note.{Note}
use Rattle.strm_types.specs.declared.spots.Note.TheVariants.{Enable}
use Rattle.strm_types.specs.Cells.{plain}
use Rattle.strm_types.specs.OwnStands.{goes_anew, own_asked}
use Rattle.strm_types.specs.Standings.{way_queue}
use Rattle.strm_laws.specs.Behaviours.{own_by}
use Rattle.strm_frame.specs.Standings.{pair_in}
use Rattle.strm_own.proofs.asking.wake.Goals as goal

pub returns-clause-notes : goal.returns-clause-notes
returns-clause-notes g c =
    let before = c.args.before in
    let after = c.both_ask-after in
    let noted : Asks → Asks → List Note = λ read write. c.args.acts.notes.items
    ++ (cond {A = List Note} (goes_anew before.read read) (Enable Up ∷ []) [] ++ cond {A = List Note} (goes_anew before.write write) (Enable Down ∷ []) []) in
    let up = own_asked (own_by g.M.Behaves.does plain) Up c.args.own.now (way_queue Up (pair_in (g.B.Blocks.value c.args.store.now) c.args.pair.now)).messages in
    c.note_anew.ensures ∙ ap (λ read. noted read after.result.write) after.ensures.read ∙ ap (λ write. noted up write) after.ensures.write
