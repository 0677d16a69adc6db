-- Before a read has begun the one that it takes is known of.
use Rattle.std.proofs.Common.{◌≡◌, ◌∙◌, true, false, sym, ap}
use Rattle.strm_queue.specs.Stored.{messages_on}
use Rattle.strm_head.specs.Drawing.{behind_passed, first_goes}
use Rattle.strm_head.proofs.standing.takes_one.Goals as goal

pub returns-then-not-begun : goal.returns-then-not-begun
returns-then-not-begun g c =
    let q = messages_on (g.B.Blocks.value c.args.store.now) c.args.queue.now.list in
    let fresh : c.args.begun ≡ false = cc in
    sym (ap (λ b. first_goes c.args.control b (behind_passed c.args.control q)) fresh ∙ c.requires.goes fresh)

pub returns : goal.returns
returns g c =
    let q = messages_on (g.B.Blocks.value c.args.store.now) c.args.queue.now.list in
    let begun : c.args.begun ≡ true = cc in
    c.reaches_one.ensures ∙ ap (λ b. first_goes c.args.control b (behind_passed c.args.control q)) (sym begun)
