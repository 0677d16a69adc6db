use Rattle.std.proofs.Common.{ap, arith, refl}
use Rattle.strm_raw.specs.Numbered.{Row}
use Rattle.strm_raw.proofs.Walks.{walk-begins, walk-counts, walk-within}
use Rattle.strm_raw.proofs.chains.chain_len.Goals as goal

pub returns-in_default : goal.returns-in_default
returns-in_default c = λ is chain few.
    let w = walk-begins {v = c.args.memory.now} c.args.most c.args.most refl c.requires in let n = walk-within w is chain in
    let e = walk-counts w (omega arith) (ap (λ (r : Row). r.next) c.message.ensures.row) c.in_default.is is chain in omega arith
