use Rattle.std.proofs.Common.{sym, ap, ◌∙◌, map}
use Rattle.std.specs.Prelude.{Option, option_map}
use Rattle.strm_blocks.specs.Blocks.{StoreValue, list_at}
use Rattle.strm_raw.specs.Numbered.{Row, msg_number, row_at}
use Rattle.strm_raw.specs.Raw.{chain_of}
use Rattle.strm_raw.specs.Lists.{ends_at, queue_at}
use Rattle.strm_raw.specs.declared.neighbours.Ends.{Ends}
use Rattle.strm_raw.specs.declared.msg_nodes.MsgLink.{MsgLink}
use Rattle.strm_raw.proofs.Moved.{queue-value}
use Rattle.strm_raw.proofs.Seating.{no-queue}
use Rattle.strm_raw.proofs.Tied.{list-begin, no-first, a-first}
use Rattle.strm_raw.proofs.store.RawStoreBlocks.peek.Goals as goal

pub returns-in_err-first : goal.returns-in_err-first
returns-in_err-first c =
    let t = c.self.inside in let v = t.memory in let b = t.ledger.roster in let k = c.args.list in
    let first = sym (list-begin v (ends_at k t.ends) (queue_at k b.lists) (c.self.invariant.listed.tied k)) ∙ ap (λ (e : Ends). option_map (msg_number v.mat) e.first) (sym c.open.ensures) ∙ ap (λ (o : Option MsgLink). option_map (msg_number v.mat) o) c.in_err-first.was in
    rw c.from_residual.ensures (ap (λ (s : StoreValue). list_at s k) (sym c.self.view_is) ∙ no-queue v b k (no-first (queue_at k b.lists) first))

pub returns : goal.returns
returns c =
    let t = c.self.inside in let v = t.memory in let b = t.ledger.roster in let k = c.args.list in
    let first = sym (list-begin v (ends_at k t.ends) (queue_at k b.lists) (c.self.invariant.listed.tied k)) ∙ ap (λ (e : Ends). option_map (msg_number v.mat) e.first) (sym c.open.ensures) ∙ ap (λ (o : Option MsgLink). option_map (msg_number v.mat) o) c.in_ok-first.was in
    let at = a-first (queue_at k b.lists) (msg_number v.mat c.in_ok-first.first) first in
    let row = c.message-node.ensures.row ∙ ap (λ i. row_at i v.rows) (sym at.1.1.1) in
    record {
      message = chain_of v at.0;
      rest = map (chain_of v) at.1.0;
      joined = ap (λ (s : StoreValue). list_at s k) (sym c.self.view_is) ∙ queue-value v b.lists k ∙ ap (λ q. map (chain_of v) q) at.1.1.0;
      seen = record { kind = ap (λ (r : Row). r.kind) row; band = ap (λ (r : Row). r.band) row };
    }
