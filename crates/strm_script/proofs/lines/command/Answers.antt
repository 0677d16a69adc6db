use Rattle.strm_script.proofs.Prelude.{◌≡◌, ℕ, List, Option, None, Some, ap, ◌∙◌, IfOk-weaker}
use Rattle.strm_script.specs.declared.verbs.Verb.{Verb}
use Rattle.strm_script.specs.Named.{and_then, named}
use Rattle.strm_script.specs.Table.{verbs, form_of}
use Rattle.strm_script.specs.ScriptReading.{Front, split, form_in, command_in}
use Rattle.strm_script.specs.Views.{words_of}
use Rattle.strm_script.proofs.lines.command.Goals as goal

-- the command of a line that is parted behind its first word
command_by : (parts : Front (List ℕ)) (line : List ℕ) (o : Option Verb) → parts ≡ split line → o ≡ named verbs parts.value
    → and_then (λ verb. form_in (form_of verb) parts.rest) o ≡ command_in line
unfolding command_in
command_by parts line o same names =
    ap (and_then (λ verb. form_in (form_of verb) parts.rest)) names
    ∙ ap (λ (parts : Front (List ℕ)). and_then (λ verb. form_in (form_of verb) parts.rest) (named verbs parts.value)) same

pub returns-in-Some : goal.returns-in-Some
returns-in-Some c =
    let same = command_by (words_of c.split.result) c.args.line.now (Some c.in-Some.verb) c.split.ensures c.in-Some.ensures in
    IfOk-weaker c.of_verb.result _ _ (λ found h. h ∙ same) c.of_verb.ensures

pub returns-in-None : goal.returns-in-None
returns-in-None c = command_by (words_of c.split.result) c.args.line.now None c.split.ensures c.in-None.ensures
