use Rattle.std.proofs.Common.{refl}
use Rattle.strm_laws.proofs.Prefixes.{last-begins, word-begins}
use Rattle.strm_laws.proofs.line_laws.edits_leave_a_prefix.Goals as goal

pub returns-clause-byte : goal.returns-clause-byte
returns-clause-byte g c = λ blank line. last-begins line

pub returns-clause-word : goal.returns-clause-word
returns-clause-word g c = λ blank line. word-begins blank line

pub returns-clause-all : goal.returns-clause-all
returns-clause-all g c = λ blank line. refl
