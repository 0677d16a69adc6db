-- Whether the byte starts output.
use Rattle.strm_ldterm.proofs.Prelude.{◌≡◌, sym, ap, ◌∙◌, ◌&&◌}
use Rattle.strm_ldterm.specs.Prelude.{plain, restarts, stroke_at}
use Rattle.strm_ldterm.specs.Stands.{ldterm_in, paired}
use Rattle.strm_ldterm.proofs.Begun.{begins-quiet, begins-starts, start-plain}
use Rattle.strm_ldterm.proofs.first_steps.begin_with.Goals.{then-ldterm, else-ldterm}
use Rattle.strm_ldterm.proofs.first_steps.begin_with.Goals as goal

pub make-message-requires-clause-kind : goal.make-message-requires-clause-kind
make-message-requires-clause-kind g c = start-plain

pub returns-then-not-started : goal.returns-then-not-started
returns-then-not-started g c = λ q f held kept.
    let s = g.B.Blocks.value c.args.store.now in
    let x = (paired c.args.ldterm.now q) in
    let is : c.if-ldterm.started ≡ (x.stopped && restarts x.termios (stroke_at plain c.args.here c.args.byte (ldterm_in s x))) =
    elim c.if-ldterm.branch [
      | then-ldterm w ↦ w.started-is ∙ w.restarts-started.ensures ∙ ap (λ k. restarts x.termios k) c.stroke_of-stroke.ensures ∙ sym (ap (λ v. v && restarts x.termios (stroke_at plain c.args.here c.args.byte (ldterm_in s x))) w.if-ldterm.true)
      | else-ldterm w ↦ w.started-is ∙ w.if-ldterm.false ∙ sym (ap (λ v. v && restarts x.termios (stroke_at plain c.args.here c.args.byte (ldterm_in s x))) w.if-ldterm.false)
    ] in
    begins-quiet s x c.args.here c.args.byte c.if-ldterm.started _ f held is c.if-not-started.true c.none.ensures

pub returns : goal.returns
returns g c = λ q f held kept.
    let s = g.B.Blocks.value c.args.store.now in
    let x = (paired c.args.ldterm.now q) in
    let is : c.if-ldterm.started ≡ (x.stopped && restarts x.termios (stroke_at plain c.args.here c.args.byte (ldterm_in s x))) =
    elim c.if-ldterm.branch [
      | then-ldterm w ↦ w.started-is ∙ w.restarts-started.ensures ∙ ap (λ k. restarts x.termios k) c.stroke_of-stroke.ensures ∙ sym (ap (λ v. v && restarts x.termios (stroke_at plain c.args.here c.args.byte (ldterm_in s x))) w.if-ldterm.true)
      | else-ldterm w ↦ w.started-is ∙ w.if-ldterm.false ∙ sym (ap (λ v. v && restarts x.termios (stroke_at plain c.args.here c.args.byte (ldterm_in s x))) w.if-ldterm.false)
    ] in
    begins-starts s x c.args.here c.args.byte c.if-ldterm.started _ f held is (g.B.Blocks.value c.make-message.new.store) (record { to = c.toward.result; message = c.make-message.result })
    c.if-not-started.false kept c.make-message.ensures c.one.ensures c.toward.ensures
