use Rattle.std.proofs.Common.{◌∙◌, length, ap, sym, arith, subst, length-append}
use Rattle.std.specs.Prelude.{All}
use Rattle.std.proofs.lemmas.List.Elements.{All-append}
use Rattle.strm_storm.specs.Rounds.{IsRoundOf}
use Rattle.strm_storm.proofs.hosting.both.Goals as goal

pub returns : goal.returns
returns g c = λ host m n a b.
    let is = c.in_ok-append.ensures.items in
    let long = ap (λ xs. length xs) is ∙ length-append c.args.first.made.items c.args.second.made.items in
    let p = a.1 in
    let q = b.1 in (
      subst (λ xs. All (λ r. IsRoundOf host r) xs) (sym is) (All-append (λ r. IsRoundOf host r) c.args.first.made.items c.args.second.made.items a.0 b.0),
      omega (arith, long, p, q),
    )
