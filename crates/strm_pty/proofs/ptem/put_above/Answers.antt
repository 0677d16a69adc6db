-- What goes to no module that sets anything is one message.
use Rattle.strm_frame.specs.Outboxes.{sent_of}
use Rattle.strm_pty.proofs.Carried.{lone-carries}
use Rattle.strm_pty.proofs.ptem.put_above.Goals as goal

pub returns-then-ioc-eq-TCGETS-clause-shared : goal.returns-then-ioc-eq-TCGETS-clause-shared
returns-then-ioc-eq-TCGETS-clause-shared g c = λ can. lone-carries (g.B.Blocks.value c.tell_termios.new.store) _ (sent_of c.tell_termios.result.sent) _ c.tell_termios.ensures.sent

pub returns-then-ioc-eq-TIOCGWINSZ-clause-shared : goal.returns-then-ioc-eq-TIOCGWINSZ-clause-shared
returns-then-ioc-eq-TIOCGWINSZ-clause-shared g c = λ can. lone-carries (g.B.Blocks.value c.tell_window.new.store) _ (sent_of c.tell_window.result.sent) _ c.tell_window.ensures.sent

pub returns-clause-shared : goal.returns-clause-shared
returns-clause-shared g c = λ can. lone-carries (g.B.Blocks.value c.args.store.now) _ (sent_of c.pass_on.result.sent) _ c.pass_on.ensures.sent
