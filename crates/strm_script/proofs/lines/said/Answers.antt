use Rattle.strm_script.proofs.Prelude.{length, sym, cond-true, lt-ltb}
use Rattle.strm_script.specs.ScriptReading.{reading}
use Rattle.strm_script.proofs.lines.said.Goals as goal

pub returns-then-line-gt-LINE_MAX : goal.returns-then-line-gt-LINE_MAX
unfolding reading
returns-then-line-gt-LINE_MAX c = sym (cond-true _ _ _ (lt-ltb 4096 (length c.args.line.now) c.if-line-gt-LINE_MAX.true))
