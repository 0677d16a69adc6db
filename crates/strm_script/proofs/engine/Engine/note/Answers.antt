use Rattle.std.proofs.Common.{◌≡◌, ℕ, ◌+◌, Bool, true, false, Option, None, Some, is_some, ap, sym}
use Rattle.strm_script.specs.ScriptRun.{first_of, line_if}
use Rattle.strm_script.proofs.engine.Engine.note.Goals as goal

-- the first short line, where there was none before
noted : (short : Option ℕ) (is_short : Bool) (n : ℕ) → is_some short ≡ false → is_short ≡ true → Some n ≡ first_of short (line_if is_short n)
noted None is_short n none h = ap (λ b. line_if b n) (sym h)
noted (Some k) is_short n none h = absurd cc

pub returns-then-is_none : goal.returns-then-is_none
returns-then-is_none g c =
    let self = c.args.self.now in
    ap (λ short. record self { short = short }) (noted self.short c.args.short (self.lines + 1) c.if-is_none.ensures c.if-short.true)
