-- By the kind, and then by the header.
use Rattle.strm_ldterm.proofs.Prelude.{◌≡◌, Bool, true, false, cond, sym, subst, ◌∙◌, arith, Option, None, Some, acked-plain, can-in_hand, acked-own}
use Rattle.strm_ldterm.specs.Prelude.{own_at, ldterm_does, read_ioc, goes_on, message_in, token}
use Rattle.strm_types.specs.declared.ioctls.Ioc.{Ioc}
use Rattle.strm_types.specs.Commands.{is_acked}
use Rattle.strm_types.specs.LdtermPuts.{told_by_header}
use Rattle.strm_frame.proofs.Asked.{acked-is, acked-not}
use Rattle.strm_ldterm.specs.Does.{Puts}
use Rattle.strm_ldterm.specs.Stands.{ldterm_in, paired}
use Rattle.strm_ldterm.proofs.answers.pass_up.Goals as goal

pub returns-then-not-is_iocack : goal.returns-then-not-is_iocack
returns-then-not-is_iocack g c =
    let s = g.B.Blocks.value c.args.store.now in
    let x = (paired c.args.ldterm.now c.args.queues.now) in
    let i = token c.args.message in
    let here = c.args.here in
    let m = message_in s i in
    let p = ldterm_in s x in
    let f = c.args.told.now in
    let other : is_acked m ≡ false = acked-not s i c.args.kind c.requires.kind (sym c.is_iocack.ensures ∙ c.if-not-is_iocack.true) in
    subst (λ (b : Bool). Puts s s x x i (own_at ldterm_does here m) c.go_on.result f f (cond b (told_by_header here (read_ioc m.plain) m p) (goes_on here m p))) (sym other) (c.go_on.ensures s x f c.requires.held c.requires.chain)

pub header_of-requires-clause-in_hand : goal.header_of-requires-clause-in_hand
header_of-requires-clause-in_hand g c = can-in_hand _ _ _ c.audit.ensures c.requires.can_put

pub header_of-requires-clause-kind : goal.header_of-requires-clause-kind
header_of-requires-clause-kind g c =
    let s = g.B.Blocks.value c.args.store.now in
    let i = token c.args.message in
    acked-plain s i (acked-is s i c.args.kind c.requires.chain c.requires.kind (sym c.is_iocack.ensures ∙ c.if-not-is_iocack.false))

pub returns-in_default : goal.returns-in_default
returns-in_default g c =
    let s = g.B.Blocks.value c.args.store.now in
    let x = (paired c.args.ldterm.now c.args.queues.now) in
    let i = token c.args.message in
    let here = c.args.here in
    let m = message_in s i in
    let p = ldterm_in s x in
    let f = c.args.told.now in
    let acked : is_acked m ≡ true = acked-is s i c.args.kind c.requires.chain c.requires.kind (sym c.is_iocack.ensures ∙ c.if-not-is_iocack.false) in
    let none : read_ioc m.plain ≡ None = sym c.header_of.ensures ∙ c.in_default.is in
    let acts = c.go_on-in_default.result in
    subst (λ (b : Bool). Puts s s x x i (own_at ldterm_does here m) acts f f (cond b (told_by_header here (read_ioc m.plain) m p) (goes_on here m p))) (sym acked)
    (subst (λ (o : Option Ioc). Puts s s x x i (own_at ldterm_does here m) acts f f (told_by_header here o m p)) (sym none) (c.go_on-in_default.ensures s x f c.requires.held c.requires.chain))

pub obey-requires-clause-acked : goal.obey-requires-clause-acked
obey-requires-clause-acked g c =
    acked-is (g.B.Blocks.value c.args.store.now) (token c.args.message) c.args.kind c.requires.chain c.requires.kind (sym c.is_iocack.ensures ∙ c.if-not-is_iocack.false)

pub obey-requires-clause-room : goal.obey-requires-clause-room
obey-requires-clause-room g c =
    let s = g.B.Blocks.value c.args.store.now in
    let i = token c.args.message in
    let acked = acked-is s i c.args.kind c.requires.chain c.requires.kind (sym c.is_iocack.ensures ∙ c.if-not-is_iocack.false) in
    let two = acked-own c.args.here (message_in s i) c.requires.up acked in
    record { mblks = (let r = c.requires.room.mblks in omega arith); dblks = (let r = c.requires.room.dblks in omega arith) }

pub returns : goal.returns
returns g c =
    let s = g.B.Blocks.value c.args.store.now in
    let t = g.B.Blocks.value c.obey.new.store in
    let x = (paired c.args.ldterm.now c.args.queues.now) in
    let y = (paired c.obey.new.ldterm c.obey.new.queues) in
    let i = token c.args.message in
    let here = c.args.here in
    let m = message_in s i in
    let p = ldterm_in s x in
    let f = c.args.told.now in
    let f' = c.obey.new.told in
    let acked : is_acked m ≡ true = acked-is s i c.args.kind c.requires.chain c.requires.kind (sym c.is_iocack.ensures ∙ c.if-not-is_iocack.false) in
    let some : read_ioc m.plain ≡ Some c.in-Some.ioc = sym c.header_of.ensures ∙ c.in-Some.is in
    let acts = c.obey.result in
    subst (λ (b : Bool). Puts s t x y i (own_at ldterm_does here m) acts f f' (cond b (told_by_header here (read_ioc m.plain) m p) (goes_on here m p))) (sym acked)
    (subst (λ (o : Option Ioc). Puts s t x y i (own_at ldterm_does here m) acts f f' (told_by_header here o m p)) (sym some) c.obey.ensures)
