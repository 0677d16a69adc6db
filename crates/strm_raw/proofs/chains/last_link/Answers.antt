use Rattle.std.proofs.Common.{ap, arith, refl}
use Rattle.strm_raw.specs.Numbered.{Row}
use Rattle.strm_raw.proofs.Walks.{walk-begins, walk-ends, walk-within}
use Rattle.strm_raw.proofs.chains.last_link.Goals as goal

pub returns-in_default-clause-number : goal.returns-in_default-clause-number
returns-in_default-clause-number c = λ is chain few.
    let w = walk-begins {v = c.args.memory.now} c.args.most c.args.most refl c.requires in let n = walk-within w is chain in
    walk-ends w (omega arith) (ap (λ (r : Row). r.next) c.message.ensures.row) c.in_default.is is chain
