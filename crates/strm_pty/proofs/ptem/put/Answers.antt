-- By the kind, the header and the way.
use Rattle.strm_pty.proofs.Prelude.{◌≡◌, sym, subst, ◌∙◌, arith, Some, asked-plain}
use Rattle.strm_pty.specs.Prelude.{read_ioc, own_at, ptem_does, message_in, sent_of, token}
use Rattle.strm_pty.specs.Beside.{Answers, MayPass, ptem_in}
use Rattle.strm_frame.proofs.Asked.{asked-is, asked-not}
use Rattle.strm_pty.proofs.Carried.{lone-carries}
use Rattle.strm_pty.proofs.Putting.{held-passes}
use Rattle.strm_pty.proofs.Replied.{may-above, may-below, puts-above, puts-below, puts-other}
use Rattle.strm_pty.proofs.ptem.put.Goals as goal

pub returns-then-not-is_ioctl-clause-does : goal.returns-then-not-is_ioctl-clause-does
returns-then-not-is_ioctl-clause-does g c =
    let s = g.B.Blocks.value c.args.store.now in
    let i = token c.args.message in
    let m = message_in s i in
    let x = c.args.ptem.now in
    let other = asked-not s i c.kind-kind.result c.kind-kind.ensures (sym c.is_ioctl.ensures ∙ c.if-not-is_ioctl.true) in
    subst (λ is. Answers s s x i (own_at ptem_does c.args.here m) c.pass_on.result is) (sym (puts-other c.args.here m (ptem_in x) other)) c.pass_on.ensures

pub header_of-requires-clause-kind : goal.header_of-requires-clause-kind
header_of-requires-clause-kind g c =
    let s = g.B.Blocks.value c.args.store.now in
    let i = token c.args.message in
    asked-plain s i (asked-is s i c.kind-kind.result c.requires.chain c.kind-kind.ensures (sym c.is_ioctl.ensures ∙ c.if-not-is_ioctl.false))

pub put_above-requires : goal.put_above-requires
put_above-requires g c =
    let s = g.B.Blocks.value c.args.store.now in
    let i = token c.args.message in
    let passes : MayPass s i c.args.here = record { held = c.requires.in_hand; chain = c.requires.chain; inside = c.requires.inside; small = c.requires.small } in
    may-above s i c.args.here passes c.requires.room (asked-is s i c.kind-kind.result c.requires.chain c.kind-kind.ensures (sym c.is_ioctl.ensures ∙ c.if-not-is_ioctl.false)) c.in-Down.is

pub put_below-requires : goal.put_below-requires
put_below-requires g c =
    let s = g.B.Blocks.value c.args.store.now in
    let i = token c.args.message in
    let passes : MayPass s i c.args.here = record { held = c.requires.in_hand; chain = c.requires.chain; inside = c.requires.inside; small = c.requires.small } in
    may-below s i c.args.here passes c.requires.room (asked-is s i c.kind-kind.result c.requires.chain c.kind-kind.ensures (sym c.is_ioctl.ensures ∙ c.if-not-is_ioctl.false)) c.in-Up.is

pub returns-in-Down-clause-does : goal.returns-in-Down-clause-does
returns-in-Down-clause-does g c =
    let s = g.B.Blocks.value c.args.store.now in
    let i = token c.args.message in
    let m = message_in s i in
    let asked = asked-is s i c.kind-kind.result c.requires.chain c.kind-kind.ensures (sym c.is_ioctl.ensures ∙ c.if-not-is_ioctl.false) in
    let header : read_ioc m.plain ≡ Some c.in-Some.ioc = sym c.header_of.ensures ∙ c.in-Some.is in
    subst (λ is. Answers s (g.B.Blocks.value c.put_above.new.store) c.put_above.new.ptem i (own_at ptem_does c.args.here m) c.put_above.result is)
    (sym (puts-above c.args.here m (ptem_in c.args.ptem.now) c.in-Some.ioc asked header c.in-Down.is)) c.put_above.ensures.does

pub returns-in-Up-clause-does : goal.returns-in-Up-clause-does
returns-in-Up-clause-does g c =
    let s = g.B.Blocks.value c.args.store.now in
    let i = token c.args.message in
    let m = message_in s i in
    let asked = asked-is s i c.kind-kind.result c.requires.chain c.kind-kind.ensures (sym c.is_ioctl.ensures ∙ c.if-not-is_ioctl.false) in
    let header : read_ioc m.plain ≡ Some c.in-Some.ioc = sym c.header_of.ensures ∙ c.in-Some.is in
    subst (λ is. Answers s (g.B.Blocks.value c.put_below.new.store) c.put_below.new.ptem i (own_at ptem_does c.args.here m) c.put_below.result is)
    (sym (puts-below c.args.here m (ptem_in c.args.ptem.now) c.in-Some.ioc asked header c.in-Up.is)) c.put_below.ensures

pub returns-then-not-is_ioctl-clause-shared : goal.returns-then-not-is_ioctl-clause-shared
returns-then-not-is_ioctl-clause-shared g c = λ way can. lone-carries (g.B.Blocks.value c.args.store.now) _ (sent_of c.pass_on.result.sent) _ c.pass_on.ensures.sent

pub returns-in-Down-clause-shared : goal.returns-in-Down-clause-shared
returns-in-Down-clause-shared g c = λ way can. c.put_above.ensures.shared can

pub returns-in-Up-clause-shared : goal.returns-in-Up-clause-shared
returns-in-Up-clause-shared g c = λ way can. absurd (let up = c.in-Up.is in cc)

pub returns-in_default-clause-shared : goal.returns-in_default-clause-shared
returns-in_default-clause-shared g c = λ way can. lone-carries (g.B.Blocks.value c.args.store.now) _ (sent_of c.pass_on-in_default.result.sent) _ c.pass_on-in_default.ensures.sent

pub returns-then-not-is_ioctl-clause-blocks : goal.returns-then-not-is_ioctl-clause-blocks
returns-then-not-is_ioctl-clause-blocks g c = λ held. (omega arith, omega arith)

pub returns-in_default-clause-blocks : goal.returns-in_default-clause-blocks
returns-in_default-clause-blocks g c = λ held. (omega arith, omega arith)

pub returns-in-Down-clause-blocks : goal.returns-in-Down-clause-blocks
returns-in-Down-clause-blocks g c = λ held.
    let s = g.B.Blocks.value c.args.store.now in
    absurd (held-passes s (token c.args.message) c.kind-kind.result c.kind-kind.ensures held (sym c.is_ioctl.ensures ∙ c.if-not-is_ioctl.false))

pub returns-in-Up-clause-blocks : goal.returns-in-Up-clause-blocks
returns-in-Up-clause-blocks g c = λ held.
    let s = g.B.Blocks.value c.args.store.now in
    absurd (held-passes s (token c.args.message) c.kind-kind.result c.kind-kind.ensures held (sym c.is_ioctl.ensures ∙ c.if-not-is_ioctl.false))
