-- One that may wait, and of which the module says so.
use Rattle.std.proofs.Common.{sym, ap, ◌∙◌}
use Rattle.std.specs.Prelude.{◌&&◌}
use Rattle.strm_types.specs.Cells.{plain}
use Rattle.strm_types.specs.OwnStands.{may_wait}
use Rattle.strm_blocks.specs.Blocks.{in_hand, token}
use Rattle.strm_frame.specs.Outboxes.{message_in}
use Rattle.strm_laws.proofs.OwnForgets.{message-plain}
use Rattle.strm_types.specs.Message.{map_message}
use Rattle.strm_msg.proofs.Chains.{kind-is}
use Rattle.strm_own.proofs.putting.holds.Goals as goal

pub returns-then-may_wait : goal.returns-then-may_wait
returns-then-may_wait g c =
    let K = g.M.Behaves.does in
    let s = g.B.Blocks.value c.args.store.now in
    let i = token c.args.message.now in
    let m = message_in s i in
    let here = c.args.here in
    let may = ap (may_wait here.way) (kind-is (in_hand s i) ∙ sym c.requires.kind) ∙ sym c.may_wait.ensures ∙ c.if-may_wait.true in
    c.holds.ensures ∙ ap (λ x. K.holds here x c.args.own.now) (sym (message-plain m))
    ∙ ap (λ b. b && K.holds here (map_message plain.byte m) c.args.own.now) (sym may)

pub returns-else-may_wait : goal.returns-else-may_wait
returns-else-may_wait g c =
    let K = g.M.Behaves.does in
    let s = g.B.Blocks.value c.args.store.now in
    let i = token c.args.message.now in
    let m = message_in s i in
    let here = c.args.here in
    let may = ap (may_wait here.way) (kind-is (in_hand s i) ∙ sym c.requires.kind) ∙ sym c.may_wait.ensures ∙ c.if-may_wait.false in
    c.if-may_wait.false ∙ ap (λ b. b && K.holds here (map_message plain.byte m) c.args.own.now) (sym may)
