-- What was held stays held, and what is told of an ioctl or of the group books nothing.
use Rattle.strm_pair.proofs.Prelude.{ℕ, refl, sym, ap, ◌∙◌, arith, same-spare}
use Rattle.strm_pair.specs.Prelude.{plain, Carried, spare, State}
use Rattle.strm_laws.specs.Calls.{group_at, ioctl_sent, ioctl_told}
use Rattle.strm_laws.proofs.Balances.{told-books}
use Rattle.strm_pair.specs.Pairs.{state_in}
use Rattle.strm_pair.proofs.Leading.{leads-alone, leads-becoming}
use Rattle.strm_pair.proofs.streams.Streams.ioctl.Goals as goal

pub returns-then-asks_group-clause-delivers : goal.returns-then-asks_group-clause-delivers
returns-then-asks_group-clause-delivers g c =
    let s = g.B.Blocks.value c.args.store.now in
    let p = c.args.self.now in
    let f = c.args.told.now in
    let old = state_in s p in
    let told = c.tell_group.ensures.becomes in
    record {
      leads = rw (sym c.asks_group.ensures ∙ c.if-asks_group.true) (leads-alone (λ (v : State ℕ). (group_at c.args.side c.args.command c.args.body.now v).state) s p c.tell_group.new.self f c.requires.may.rests.held told);
      left = omega (arith, ap spare (told.state s), same-spare old (group_at c.args.side c.args.command c.args.body.now old).state refl);
    }

pub returns-clause-delivers : goal.returns-clause-delivers
returns-clause-delivers g c =
    let s = g.B.Blocks.value c.args.store.now in
    let t = g.B.Blocks.value c.send_ioctl.new.store in
    let sent = state_in t c.send_ioctl.new.self in
    let sends = c.send_ioctl.ensures in
    let told = c.tell_ioctl.ensures.becomes in
    let is : Carried ℕ (State ℕ) = ioctl_sent g.M.Behaves.does plain c.args.side c.args.command c.args.body.now (state_in s c.args.self.now) in
    record {
      leads = rw (sym c.asks_group.ensures ∙ c.if-asks_group.false) (leads-becoming (λ (v : State ℕ). (ioctl_told c.args.side v).state) s t c.send_ioctl.new.self c.tell_ioctl.new.self c.args.told.now c.send_ioctl.new.told is sends.leads told);
      left = omega (arith, sends.left, ap spare (told.state t), same-spare sent (ioctl_told c.args.side sent).state (told-books c.args.side sent));
    }
