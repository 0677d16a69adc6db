use Rattle.std.proofs.Common.{Ok, ap, sym, ◌∙◌, subst}
use Rattle.std.specs.Fmt.{HasWritten}
use Rattle.strm_types.specs.Journal.{reply_in}
use Rattle.strm_script.specs.ScriptAnswers.{Message, line_text, reply_line}
use Rattle.strm_script.proofs.answers.ShownAnswerDisplay.fmt.Goals as goal

pub returns-in-Msg-clause-writes : goal.returns-in-Msg-clause-writes
unfolding line_text
returns-in-Msg-clause-writes g c = λ plain ok.
    let m = c.in-Msg in
    let bytes = c.args.self.now.bytes.now in
    let parts = c.shown_parts.ensures in
    subst (λ k. HasWritten g.W.Write.write_str_gives c.args.f.now k c.write-in-Msg.new.self)
    ((λ i. line_text (Message m.prio (parts.control i) (parts.body i) m.more_control m.more_data))
    ∙ ap (λ answer. line_text (reply_line (Ok (reply_in answer bytes)))) (sym m.is))
    (c.write-in-Msg.ensures.writes plain ok)
