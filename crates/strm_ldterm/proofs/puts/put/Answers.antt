-- By what becomes of the message.
use Rattle.strm_ldterm.proofs.Prelude.{ℕ, ◌≡◌, true, refl, sym, ap, subst, ◌∙◌, ◌||◌, false≢true, kind-is, can-in_hand}
use Rattle.strm_ldterm.specs.Prelude.{MsgKind, Data, Way, own_at, ldterm_does, is_flush, goes_behind, waits_on, flush_passes, queued_at, waits_there}
use Rattle.strm_ldterm.specs.Prelude.{Message, is_held, in_hand, token, message_in}
use Rattle.strm_types.specs.declared.kinds.MsgKind.TheVariants.{Proto}
use Rattle.strm_ldterm.specs.Stands.{ldterm_in, paired}
use Rattle.strm_ldterm.specs.Does.{Puts}
use Rattle.strm_ldterm.proofs.Last.{waits-low}
use Rattle.strm_ldterm.proofs.Passing.{puts-flush, puts-pass, puts-wait}
use Rattle.strm_ldterm.proofs.TakingUp.{does-puts}
use Rattle.strm_ldterm.proofs.puts.put.Goals as goal

pub kind-kind-requires-clause-in_hand : goal.kind-kind-requires-clause-in_hand
kind-kind-requires-clause-in_hand g c = can-in_hand _ _ _ c.audit.ensures c.requires.can_put

pub waits_on-requires-clause-in_hand : goal.waits_on-requires-clause-in_hand
waits_on-requires-clause-in_hand g c = can-in_hand _ _ _ c.audit.ensures c.requires.can_put

pub wait-requires-clause-low : goal.wait-requires-clause-low
wait-requires-clause-low g c = waits-low c.args.here.way (message_in (g.B.Blocks.value c.args.store.now) (token c.args.message)) (sym c.waits_on.ensures ∙ c.if-waits_on.true)

pub returns-then-waits_on-clause-does : goal.returns-then-waits_on-clause-does
returns-then-waits_on-clause-does g c =
    let s = g.B.Blocks.value c.args.store.now in
    let t = g.B.Blocks.value c.wait.new.store in
    let x = (paired c.args.ldterm.now c.args.queues.now) in
    let i = token c.args.message in
    let f = c.args.told.now in
    let here = c.args.here in
    let m = message_in s i in
    let p = ldterm_in s x in
    subst (λ a. Puts s t x (paired c.wait.new.ldterm c.wait.new.queues) i (own_at ldterm_does here m) c.wait.result f f a) (sym (puts-wait here m p (sym c.waits_on.ensures ∙ c.if-waits_on.true)))
    (does-puts s t x (paired c.wait.new.ldterm c.wait.new.queues) i (own_at ldterm_does here m) c.wait.result f f (queued_at here.way m p) (c.wait.ensures.does f))

pub pass_flush-requires-clause-kind : goal.pass_flush-requires-clause-kind
pass_flush-requires-clause-kind g c =
    let chain = in_hand (g.B.Blocks.value c.args.store.now) (token c.args.message) in
    ap is_flush (kind-is chain ∙ sym c.kind-kind.ensures) ∙ sym c.is_flush.ensures ∙ c.if-is_flush.true

pub returns-then-is_flush-clause-does : goal.returns-then-is_flush-clause-does
returns-then-is_flush-clause-does g c =
    let s = g.B.Blocks.value c.args.store.now in
    let t = g.B.Blocks.value c.pass_flush.new.store in
    let x = (paired c.args.ldterm.now c.args.queues.now) in
    let i = token c.args.message in
    let f = c.args.told.now in
    let here = c.args.here in
    let m = message_in s i in
    let p = ldterm_in s x in
    let flush = ap is_flush (kind-is (in_hand s i) ∙ sym c.kind-kind.ensures) ∙ sym c.is_flush.ensures ∙ c.if-is_flush.true in
    subst (λ a. Puts s t x (paired c.pass_flush.new.ldterm c.pass_flush.new.queues) i (own_at ldterm_does here m) c.pass_flush.result f c.pass_flush.new.told a) (sym (puts-flush here m p (sym c.waits_on.ensures ∙ c.if-waits_on.false) flush))
    (does-puts s t x (paired c.pass_flush.new.ldterm c.pass_flush.new.queues) i (own_at ldterm_does here m) c.pass_flush.result f c.pass_flush.new.told (flush_passes here m p) c.pass_flush.ensures)

pub returns-clause-does : goal.returns-clause-does
returns-clause-does g c =
    let s = g.B.Blocks.value c.args.store.now in
    let x = (paired c.args.ldterm.now c.args.queues.now) in
    let i = token c.args.message in
    let here = c.args.here in
    let m = message_in s i in
    let p = ldterm_in s x in
    let flush = ap is_flush (kind-is (in_hand s i) ∙ sym c.kind-kind.ensures) ∙ sym c.is_flush.ensures ∙ c.if-is_flush.false in
    subst (λ a. Puts s (g.B.Blocks.value c.pass.new.store) x (paired c.pass.new.ldterm c.pass.new.queues) i (own_at ldterm_does here m) c.pass.result c.args.told.now c.pass.new.told a) (sym (puts-pass here m p (sym c.waits_on.ensures ∙ c.if-waits_on.false) flush)) c.pass.ensures

-- M_DATA and M_PROTO wait
held-there : (kind : MsgKind) → is_held kind ≡ true → waits_there kind ≡ true
unfolding is_held
held-there Data held = refl
held-there Proto held = refl
held-there _ held = absurd (cc)

held-waits : (way : Way) (m : Message ℕ) → is_held m.kind ≡ true → waits_on way m ≡ true
held-waits way m held = ap (λ b. b || goes_behind way m) (held-there m.kind held)

pub returns-then-waits_on-clause-blocks : goal.returns-then-waits_on-clause-blocks
returns-then-waits_on-clause-blocks g c = λ held. c.wait.ensures.blocks

pub returns-then-is_flush-clause-blocks : goal.returns-then-is_flush-clause-blocks
returns-then-is_flush-clause-blocks g c = λ held.
    absurd (false≢true (sym (sym c.waits_on.ensures ∙ c.if-waits_on.false) ∙ held-waits c.args.here.way (message_in (g.B.Blocks.value c.args.store.now) (token c.args.message)) held))

pub returns-clause-blocks : goal.returns-clause-blocks
returns-clause-blocks g c = λ held.
    absurd (false≢true (sym (sym c.waits_on.ensures ∙ c.if-waits_on.false) ∙ held-waits c.args.here.way (message_in (g.B.Blocks.value c.args.store.now) (token c.args.message)) held))
