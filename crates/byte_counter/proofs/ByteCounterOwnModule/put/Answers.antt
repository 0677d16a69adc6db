-- It counts on by the bytes of the data part, and the message goes on.
use Rattle.std.proofs.Common.{◌≡◌, ◌∙◌, ap, subst}
use Rattle.strm_types.specs.Budgets.{own_at}
use Rattle.strm_types.specs.Owns.{Own}
use Rattle.strm_types.specs.Tables.{own_does}
use Rattle.strm_blocks.specs.Blocks.{token}
use Rattle.strm_frame.specs.Outboxes.{message_in}
use Rattle.strm_laws.specs.Behaviours.{passes_all}
use Rattle.strm_own.specs.OwnPuts.{OwnPuts}
use Rattle.byte_counter.specs.ByteCounter.{counted_on, data_length}
use Rattle.byte_counter.proofs.ByteCounterOwnModule.put.Goals as goal

pub returns : goal.returns
returns g c =
    let s = g.B.Blocks.value c.args.store.now in
    let m = message_in s (token c.args.message) in
    let own : Own = c.args.own.now in
    let most = own_at own_does c.args.here m in
    let counted : c.count_on.new.own ≡ record own { settings = counted_on own.settings (data_length m) } =
    c.count_on.ensures ∙ ap (λ n. record own { settings = counted_on own.settings n }) c.data_length.ensures in
    let told = c.args._told.now in
    subst (λ x. OwnPuts s s c.count_on.new.own (token c.args.message) most c.pass_on.result told told (passes_all c.args.here m x)) counted
    (c.pass_on.ensures s c.count_on.new.own told most c.requires.may)
