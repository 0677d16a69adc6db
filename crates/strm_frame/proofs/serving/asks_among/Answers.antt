-- What one module answers.
use Rattle.strm_frame.proofs.Prelude.{◌≤◌, ◌∙◌, sym, subst}
use Rattle.strm_frame.specs.Prelude.{messages_at, first_size}
use Rattle.strm_frame.specs.Standings.{standing_in}
use Rattle.strm_frame.proofs.Beside.{said-of}
use Rattle.strm_frame.proofs.serving.asks_among.Goals as goal

pub returns-clause-asks : goal.returns-clause-asks
returns-clause-asks g c =
    let s = g.B.Blocks.value c.args.store.now in
    let w = g.M.Module in
    let d = c.index-modules-at.result in
    let xs = c.args.modules.now in
    c.asks.ensures.asks ∙ sym (said-of (standing_in w.plain s) (w.asks g.M.Procedures.by c.args.way) xs c.args.at d d _ c.requires.within c.index-modules-at.is)

pub returns-clause-few : goal.returns-clause-few
returns-clause-few g c =
    let s = g.B.Blocks.value c.args.store.now in
    let w = g.M.Module in
    let d = c.index-modules-at.result in
    let xs = c.args.modules.now in
    subst (λ n. n ≤ 16777216) (sym (said-of (standing_in w.plain s) (λ p. first_size (messages_at c.args.way p)) xs c.args.at d d 0 c.requires.within c.index-modules-at.is)) c.asks.ensures.few
