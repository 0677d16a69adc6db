use Rattle.std.proofs.Common.{◌≡◌, ◌+◌, true, false, List, ℕ, Option, None, Some, take, drop, length, nat_eq, sym, ap, ◌∙◌, MatchOption, Bor}
use Rattle.std.specs.Option.{option_copied}
use Rattle.std.proofs.lemmas.Bool.{both_ways}
use lib.Pointwise.{bytes_decides, pointwise}
use Rattle.strm_script.specs.Named.{after}
use Rattle.strm_script.proofs.Readings.{after_front, after_none}
use Rattle.strm_script.proofs.named.after.Goals as goal

after_stripped : (r : Option (Bor (List ℕ))) (word line : List ℕ)
    → MatchOption r (pointwise nat_eq (take (length word) line) word ≡ false)
    (λ x. (pointwise nat_eq (take (length word) line) word ≡ true) × (x.now ≡ drop (length word) line) × (length x.now + length word ≡ length line))
    → option_copied r ≡ after word line
after_stripped None word line h =
    sym (after_none word line (λ same. both_ways _ h ((bytes_decides (take (length word) line) word).1 same)))
after_stripped (Some x) word line h =
    ap Some h.1 ∙ sym (after_front word line ((bytes_decides (take (length word) line) word).0 h.0))

pub returns : goal.returns
returns c = after_stripped c.strip_prefix.result c.args.word.now c.args.text.now c.strip_prefix.ensures.cases
