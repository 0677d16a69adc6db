use Rattle.std.proofs.Common.{◌≡◌, ◌+◌, length, refl, sym, ap, arith, ◌∙◌, subst, length-append}
use Rattle.std.specs.Prelude.{All}
use Rattle.std.proofs.lemmas.List.Elements.{All-push}
use Rattle.strm_storm.specs.Storms.{IsJob}
use Rattle.strm_storm.proofs.storms.dealing.all_dealt.Goals as goal

pub loop-thread-preserved : goal.loop-thread-preserved
loop-thread-preserved g c =
    let i = c.loop-thread.invariant in
    let dealt = c.in_ok-left.ensures in
    let many : length c.in_ok-left.hands.items ≡ c.args.plan.pairs = dealt.given.1 ∙ i.masters.1 in record {
      masters = (dealt.masters.0, dealt.masters.1 ∙ i.masters.1);
      slaves = (dealt.slaves.0, dealt.slaves.1 ∙ i.masters.1);
      jobs = subst (λ xs. All (λ j. IsJob c.args.system.now c.args.plan.calls j) xs) (sym c.in_ok-push.ensures.items) (All-push (λ j. IsJob c.args.system.now c.args.plan.calls j) _ _ i.jobs (record {
        hands = dealt.given.0;
        some = (let p = c.args.plan.some_pairs.0 in omega (arith, p, many));
        calls_are = refl;
      }));
      as_many = ap (λ xs. length xs) c.in_ok-push.ensures.items ∙ length-append _ _ ∙ ap (λ n. n + 1) i.as_many;
    }
