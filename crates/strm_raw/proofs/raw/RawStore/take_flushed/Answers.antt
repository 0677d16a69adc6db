use Rattle.std.proofs.Common.{ℕ, ◌≡◌, ◌-◌, [], inl, inr, refl, sym, ap, ◌∙◌, subst}
use Rattle.std.specs.Prelude.{Option, None, Some}
use Rattle.strm_blocks.specs.declared.in_hand.InHand.{InHand}
use Rattle.strm_blocks.specs.Blocks.{placed, token}
use Rattle.strm_raw.specs.Numbered.{Row, msg_number}
use Rattle.strm_raw.specs.Raw.{value_of}
use Rattle.strm_raw.specs.Tails.{Hangs}
use Rattle.strm_raw.proofs.Finding.{token-below}
use Rattle.strm_raw.proofs.Flushed.{Loose, Taken, takes_row, sift-begins, sift-ends, some-left, walk-passes, walk-takes, loose-first, loose-joins, loose-others}
use Rattle.strm_raw.proofs.raw.RawStore.take_flushed.Goals as goal
use Rattle.strm_raw.proofs.raw.RawStore.take_flushed.Goals.{After-unseat-message}

pub loop-left-init : goal.loop-left-init
loop-left-init c = sift-begins c.args.self.now c.args.list c.args.what c.self.invariant.raw c.self.invariant.wiped c.self.invariant.listed c.self.view_is _ c.open-at.ensures _ c.messages-left.ensures

pub returns-in_default : goal.returns-in_default
returns-in_default c = sift-ends c.args.self.now c.args.list c.args.what c.loop-left.taken c.loop-left.invariant (inl c.in_default.is)

pub returns : goal.returns
returns c = sift-ends c.args.self.now c.args.list c.args.what c.loop-left.taken c.loop-left.invariant (inr c.loop-left-test.false)

pub loop-left-preserved-then-not-is_flushed : goal.loop-left-preserved-then-not-is_flushed
loop-left-preserved-then-not-is_flushed c = record {
  walk = walk-passes c.args.self.now c.args.list c.args.what c.loop-left.invariant.walk c.loop-left-test.true c.in-Some.link c.in-Some.is c.message-node.result.ahead (ap (λ (r : Row). r.ahead) c.message-node.ensures.row) c.message-node.ensures.links.ahead
      (ap (λ (r : Row). takes_row c.args.what r) (sym c.message-node.ensures.row) ∙ sym c.is_flushed.ensures ∙ c.if-not-is_flushed.true);
  gathered = c.loop-left.invariant.gathered;
}

pub unseat-message-requires-clause-some : goal.unseat-message-requires-clause-some
unseat-message-requires-clause-some c =
    some-left c.args.self.now c.args.list c.args.what c.loop-left.invariant.walk c.loop-left-test.true c.in-Some.link c.in-Some.is c.message-node.result.ahead (ap (λ (r : Row). r.ahead) c.message-node.ensures.row) c.message-node.ensures.links.ahead

-- the message is in hand, beside what was taken before
loosened : (c : After-unseat-message) (o : Option InHand) → c.loop-left.taken ≡ o → let t = c.loop-left.self-inside in
    Loose c.args.self.now c.args.list c.args.what c.unseat-message.new.memory c.unseat-message.new.ends c.unseat-message.new.ledger.roster t.free_msg t.free_data t.spare_m t.spare_d c.message-node.result.ahead (c.loop-left.left - 1) o (msg_number t.memory.mat c.in-Some.link)
loosened c o e =
    let t = c.loop-left.self-inside in let s = c.args.self.now in let k = c.args.list in
    walk-takes s k c.args.what c.loop-left.invariant.walk c.loop-left-test.true c.in-Some.link c.in-Some.is c.message-node.result.ahead (ap (λ (r : Row). r.ahead) c.message-node.ensures.row) c.message-node.ensures.links.ahead c.requires
    (ap (λ (r : Row). takes_row c.args.what r) (sym c.message-node.ensures.row) ∙ sym c.is_flushed.ensures ∙ c.if-not-is_flushed.false) c.unseat-message.ensures.unseats
    o (subst (λ (o : Option InHand). Taken o s (placed s k []) (placed (value_of t.memory t.ledger.roster) k [])) e c.loop-left.invariant.gathered)

pub loop-left-preserved-in-None : goal.loop-left-preserved-in-None
loop-left-preserved-in-None c = loose-first c.args.self.now c.args.list c.args.what (loosened (goal.at.loop-left-preserved-in-None c).After-unseat-message None c.in-None.is) c.unseat-message.result c.unseat-message.ensures.name

pub hang-requires-clause-second : goal.hang-requires-clause-second
hang-requires-clause-second c =
    let lo = loosened (goal.at.hang-requires-clause-second c).After-unseat-message (Some c.in-Some-taken.rest) c.in-Some-taken.is in
    token-below lo.walk.raw _ refl _ _ refl (loose-others c.args.self.now c.args.list c.args.what c.in-Some-taken.rest lo)

pub loop-left-preserved : goal.loop-left-preserved
loop-left-preserved c =
    let lo = loosened (goal.at.loop-left-preserved c).After-unseat-message (Some c.in-Some-taken.rest) c.in-Some-taken.is in
    let hangs = subst (λ (n : ℕ). Hangs c.unseat-message.new.memory c.hang.new.memory c.unseat-message.new.ledger.roster c.hang.new.ledger.roster n (token c.in-Some-taken.rest)) c.unseat-message.ensures.name c.hang.ensures.hangs in
    loose-joins c.args.self.now c.args.list c.args.what c.in-Some-taken.rest lo hangs c.hang.result (c.hang.ensures.kept_name ∙ c.unseat-message.ensures.name)
