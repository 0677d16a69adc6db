use Rattle.std.proofs.Common.{ap, ◌∙◌, length, arith}
use Rattle.std.specs.Prelude.{slice_range}
use Rattle.strm_raw.specs.Numbered.{Row, DataRow}
use Rattle.strm_raw.specs.Raw.{shown}
use Rattle.strm_raw.proofs.Walks.{sum-begins, sum-ends, walk-within}
use Rattle.strm_raw.proofs.chains.chain_bytes.Goals as goal

pub returns-in_default : goal.returns-in_default
returns-in_default c =
    let v = c.args.memory.now in let node = c.message-node.result in
    let here = ap (λ (d : DataRow). length (slice_range d.bytes node.start node.end)) c.datum.ensures.row ∙ ap (λ (r : Row). length (shown v.datas r).bytes) c.message-node.ensures.row in
    λ is chain few.
    let s = sum-begins {v = c.args.memory.now} c.args.most c.requires.there in let n = walk-within s.walk is chain in
    let e = sum-ends s (omega arith) here (ap (λ (r : Row). r.next) c.message-node.ensures.row) c.in_default.is is chain in omega arith
