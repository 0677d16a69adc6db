use Rattle.std.proofs.Common.{rules, ◌≡◌, ◌*◌, ◌≤◌, length, ap, arith, ◌∙◌}
use Rattle.std.proofs.lemmas.Bool.{eqb-true}
use Rattle.std.proofs.lemmas.List.Elements.{All-weaker}
use Rattle.strm_storm.proofs.storms.crew.fn.blow.scope.Goals as goal

pub joined-hands-requires : goal.joined-hands-requires
joined-hands-requires g c =
    let kept = c.in_ok-threads.ensures.kept c.captures.calls (λ k d low. (c.requires.0 k d low).calls_are) in
    let low = c.requires.4 in record {
      hands = c.requires.2;
      kept = All-weaker (λ t. (t.promise.system.now ≡ c.captures.system.now) × (t.promise.calls ≡ c.captures.calls)) (λ t. (t.promise.system.now ≡ c.captures.system.now) × (t.promise.calls ≤ 65536)) (λ t p. (p.0, (let q = p.1 in omega (arith, q, low)))) _ kept;
      few = (let n = c.in_ok-threads.ensures.few in let m = c.requires.1 in let w = c.requires.3 in omega (arith, n, m, w));
    }

pub returns : goal.returns
returns g c =
    let kept = c.in_ok-threads.ensures.kept c.captures.calls (λ k d low. (c.requires.0 k d low).calls_are) in record {
      hands = c.joined-hands.ensures.hands;
      whole = λ is. c.joined-hands.ensures.all c.captures.calls (λ k d low. (kept k d low).1) ∙ ap (λ n. n * c.captures.calls) (let long : length c.in_ok-threads.threads.items ≡ c.len.result = search rules in long ∙ eqb-true c.len.result c.captures.wanted is);
      few = c.joined-hands.ensures.few;
    }
