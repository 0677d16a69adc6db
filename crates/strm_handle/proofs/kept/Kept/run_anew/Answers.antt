-- Turn by turn.
use Rattle.std.proofs.Common.{◌≡◌, true, subst, ◌∙◌, arith}
use Rattle.strm_handle.specs.Outcomes.{RanAt}
use Rattle.strm_handle.proofs.RunsAnew.{made-all, one-more, ran-choices, stopped-anew}
use Rattle.strm_handle.proofs.kept.Kept.run_anew.Goals as goal

pub returns-in-Err : goal.returns-in-Err
returns-in-Err c =
    let l = c.loop-made in
    let anew : l.self.anew ≡ true = (ran-choices l.made c.args.self.now l.self l.invariant).anew ∙ c.requires in
    stopped-anew l.made c.args.self.now l.self c.turn_first.new.self c.in-Err.why c.told.result (omega arith) l.invariant c.in-Err.ensures.stopped (c.in-Err.ensures.goes_on anew) c.told.ensures

pub loop-made-preserved : goal.loop-made-preserved
loop-made-preserved c = let l = c.loop-made in one-more l.made c.args.self.now l.self c.turn_first.new.self l.invariant c.in_default.ensures.ok

pub returns : goal.returns
returns c =
    let l = c.loop-made in
    let all : l.made ≡ 65536 = omega arith in
    made-all c.args.self.now l.self c.waits.result c.requires (subst (λ n. RanAt n c.args.self.now l.self) all l.invariant) c.waits.ensures
