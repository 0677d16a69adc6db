-- By the command, and then by the length of the payload.
use Rattle.strm_ldterm.proofs.Prelude.{◌≡◌, Bool, cond, sym, ap, subst, ◌∙◌, arith, Option, None, Some, acked-plain, can-in_hand}
use Rattle.strm_ldterm.specs.Prelude.{Termios, own_at, ldterm_does, goes_on, message_in, token}
use Rattle.strm_types.specs.Acks.{payload}
use Rattle.strm_types.specs.LdtermPuts.{told_termios}
use Rattle.strm_types.specs.Termios.{read_termios}
use Rattle.strm_frame.proofs.Behind.{first-tell, termios_read}
use Rattle.strm_ldterm.specs.Does.{Puts}
use Rattle.strm_ldterm.specs.Stands.{ldterm_in, paired}
use Rattle.strm_ldterm.proofs.answers.obey.Goals as goal

pub returns-then-not-sets_termios : goal.returns-then-not-sets_termios
returns-then-not-sets_termios g c =
    let s = g.B.Blocks.value c.args.store.now in
    let x = (paired c.args.ldterm.now c.args.queues.now) in
    let i = token c.args.message in
    let here = c.args.here in
    let m = message_in s i in
    let p = ldterm_in s x in
    let f = c.args.told.now in
    subst (λ (b : Bool). Puts s s x x i (own_at ldterm_does here m) c.go_on.result f f (cond b (told_termios here c.args.ioc (read_termios (payload m.plain)) m p) (goes_on here m p))) (sym c.if-not-sets_termios.true ∙ c.sets_termios.ensures) (c.go_on.ensures s x f c.requires.held c.requires.chain)

pub payload_of-given-requires-clause-in_hand : goal.payload_of-given-requires-clause-in_hand
payload_of-given-requires-clause-in_hand g c = can-in_hand _ _ _ c.audit.ensures c.requires.can_put

pub payload_of-given-requires-clause-kind : goal.payload_of-given-requires-clause-kind
payload_of-given-requires-clause-kind g c = acked-plain (g.B.Blocks.value c.args.store.now) (token c.args.message) c.requires.acked

pub returns-in_default : goal.returns-in_default
returns-in_default g c =
    let s = g.B.Blocks.value c.args.store.now in
    let x = (paired c.args.ldterm.now c.args.queues.now) in
    let i = token c.args.message in
    let here = c.args.here in
    let m = message_in s i in
    let given = payload m.plain in
    let p = ldterm_in s x in
    let f = c.args.told.now in
    let said : c.read.result ≡ read_termios given = c.read.ensures ∙ ap read_termios (c.as_slice.ensures.value ∙ c.payload_of-given.ensures) ∙ first-tell termios_read 35 36 given (omega arith) in
    let none : read_termios given ≡ None = sym said ∙ c.in_default.is in
    let acts = c.go_on-in_default.result in
    subst (λ (b : Bool). Puts s s x x i (own_at ldterm_does here m) acts f f (cond b (told_termios here c.args.ioc (read_termios given) m p) (goes_on here m p))) (sym c.if-not-sets_termios.false ∙ c.sets_termios.ensures)
    (subst (λ (o : Option Termios). Puts s s x x i (own_at ldterm_does here m) acts f f (told_termios here c.args.ioc o m p)) (sym none) (c.go_on-in_default.ensures s x f c.requires.held c.requires.chain))

pub returns : goal.returns
returns g c =
    let s = g.B.Blocks.value c.args.store.now in
    let t = g.B.Blocks.value c.take_up.new.store in
    let x = (paired c.args.ldterm.now c.args.queues.now) in
    let y = (paired c.take_up.new.ldterm c.take_up.new.queues) in
    let i = token c.args.message in
    let here = c.args.here in
    let m = message_in s i in
    let given = payload m.plain in
    let p = ldterm_in s x in
    let f = c.args.told.now in
    let f' = c.take_up.new.told in
    let said : c.read.result ≡ read_termios given = c.read.ensures ∙ ap read_termios (c.as_slice.ensures.value ∙ c.payload_of-given.ensures) ∙ first-tell termios_read 35 36 given (omega arith) in
    let some : read_termios given ≡ Some c.in-Some.termios = sym said ∙ c.in-Some.is in
    let acts = c.take_up.result in
    subst (λ (b : Bool). Puts s t x y i (own_at ldterm_does here m) acts f f' (cond b (told_termios here c.args.ioc (read_termios given) m p) (goes_on here m p))) (sym c.if-not-sets_termios.false ∙ c.sets_termios.ensures)
    (subst (λ (o : Option Termios). Puts s t x y i (own_at ldterm_does here m) acts f f' (told_termios here c.args.ioc o m p)) (sym some) c.take_up.ensures)
