use Rattle.std.proofs.Common.{refl, sym, ap, ◌∙◌, append-nil, []}
use Rattle.strm_script.specs.ScriptReading.{reading}
use Rattle.strm_script.specs.Commands.{reading_of}
use Rattle.strm_script.specs.Steps.{point_of}
use Rattle.strm_script.proofs.Ways.{goes_silent}
use Rattle.strm_script.proofs.EngineSteps.{fails_none, refused_line, obeyed_line}
use Rattle.strm_script.proofs.engine.Engine.answer_line.Goals as goal

pub returns-in_default-clause-answers : goal.returns-in_default-clause-answers
returns-in_default-clause-answers g c = fails_none _ _ _ refl refl

pub returns-in-Silent : goal.returns-in-Silent
returns-in-Silent g c =
    let line = ap reading (sym c.as_slice.ensures.value) ∙ sym c.in-Ok.ensures.same ∙ ap reading_of c.in-Silent.is in
    record {
      answers = record { text = []; goes = goes_silent (point_of c.args.self.now) line; answers = sym (append-nil _) };
      lines = refl;
    }

pub returns-in-Malformed-clause-answers : goal.returns-in-Malformed-clause-answers
returns-in-Malformed-clause-answers g c =
    let line = ap reading (sym c.as_slice.ensures.value) ∙ sym c.in-Ok.ensures.same ∙ ap reading_of c.in-Malformed.is in
    refused_line c.args.self.now c.refuse.new.self c.refuse.result c.refuse.ensures.refused line

pub returns-in-Spoken-clause-answers : goal.returns-in-Spoken-clause-answers
returns-in-Spoken-clause-answers g c =
    let line = ap reading (sym c.as_slice.ensures.value) ∙ sym c.in-Ok.ensures.same ∙ ap reading_of c.in-Spoken.is in
    obeyed_line _ c.args.self.now c.obey.new.self c.obey.result c.obey.ensures.obeyed c.obey.ensures.lines line
