use Rattle.std.proofs.Common.{ap, sym, ◌∙◌, length, arith}
use Rattle.std.specs.Prelude.{slice_range}
use Rattle.strm_raw.specs.Numbered.{Row, DataRow, row_of, msg_number}
use Rattle.strm_raw.specs.Raw.{askew, shown}
use Rattle.strm_raw.proofs.Edited.{shown-len}
use Rattle.strm_raw.proofs.Walks.{sum-begins, sum-steps, sum-ends, walk-within}
use Rattle.strm_raw.proofs.chains.walk_bytes.Goals as goal

pub loop-left-init : goal.loop-left-init
loop-left-init c = sum-begins c.args.most c.requires.there

pub overflow_add-bytes : goal.overflow_add-bytes
overflow_add-bytes c =
    let v = c.args.memory.now in let node = c.message-node.result in
    let straight = ap (λ (r : Row). askew r) c.message-node.ensures.row ∙ c.requires.straight (msg_number v.mat c.loop-left.link) in
    let sized = ap (λ (d : DataRow). length d.bytes) (sym c.datum.ensures.row) ∙ c.datum.ensures.sized in
    let len = ap (λ (d : DataRow). length (slice_range d.bytes node.start node.end)) c.datum.ensures.row ∙ shown-len v.datas (row_of v.mat v.dat node) straight sized in
    let few = c.loop-left.invariant.few in
    omega arith

pub returns-in_default : goal.returns-in_default
returns-in_default c =
    let v = c.args.memory.now in let node = c.message-node.result in
    let here = ap (λ (d : DataRow). length (slice_range d.bytes node.start node.end)) c.datum.ensures.row ∙ ap (λ (r : Row). length (shown v.datas r).bytes) c.message-node.ensures.row in
    λ is chain few. sum-ends c.loop-left.invariant c.loop-left-test.true here (ap (λ (r : Row). r.next) c.message-node.ensures.row) c.in_default.is is chain

pub returns : goal.returns
returns c = λ is chain few. let n = walk-within c.loop-left.invariant.walk is chain in absurd (omega arith)

pub loop-left-preserved : goal.loop-left-preserved
loop-left-preserved c =
    let v = c.args.memory.now in let node = c.message-node.result in
    let here = ap (λ (d : DataRow). length (slice_range d.bytes node.start node.end)) c.datum.ensures.row ∙ ap (λ (r : Row). length (shown v.datas r).bytes) c.message-node.ensures.row in
    let row = ap (λ (r : Row). r.next) c.message-node.ensures.row in
    let straight = ap (λ (r : Row). askew r) c.message-node.ensures.row ∙ c.requires.straight (msg_number v.mat c.loop-left.link) in
    let sized = ap (λ (d : DataRow). length d.bytes) (sym c.datum.ensures.row) ∙ c.datum.ensures.sized in
    let len = ap (λ (d : DataRow). length (slice_range d.bytes node.start node.end)) c.datum.ensures.row ∙ shown-len v.datas (row_of v.mat v.dat node) straight sized in
    sum-steps c.loop-left.invariant c.loop-left-test.true here row (omega arith) c.in-Some.next c.in-Some.is c.message-node.ensures.links.next
