use Rattle.std.proofs.Common.{◌≤◌, length, sym, subst}
use Rattle.strm_script.specs.ScriptReading.{is_space}
use Rattle.strm_script.proofs.Readings.{position-within}
use Rattle.strm_script.proofs.words.token_len.Goals as goal

pub returns-in-None-clause-within : goal.returns-in-None-clause-within
returns-in-None-clause-within c =
    subst (λ n. n ≤ length c.args.text.now) (sym c.word_len.ensures) (position-within is_space c.args.text.now)
