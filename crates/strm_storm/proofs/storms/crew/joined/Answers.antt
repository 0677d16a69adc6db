use Rattle.std.proofs.Common.{rules, ◌≡◌, suc, ◌≤◌, ◌∷◌, ◌∙◌, length, ap, arith, subst}
use Rattle.std.specs.Prelude.{All}
use Rattle.std.proofs.lemmas.List.Elements.{All-head, All-rest}
use Rattle.strm_storm.proofs.Hands.{counted_on}
use Rattle.strm_storm.proofs.storms.crew.joined.Goals as goal

pub loop-thread-preserved : goal.loop-thread-preserved
loop-thread-preserved g c =
    let i = c.loop-thread.invariant in
    let is : c.loop-thread.thread-iterator.rest.items ≡ c.in-Some.thread ∷ c.next.new.self.rest.items = search rules in
    let long : length c.loop-thread.thread-iterator.rest.items ≡ suc (length c.next.new.self.rest.items) = ap (λ ts. length ts) is in
    let kept = All-head (λ t. (t.promise.system.now ≡ c.args.system.now) × (t.promise.calls ≤ 65536)) _ _ (subst (λ ts. All (λ t. (t.promise.system.now ≡ c.args.system.now) × (t.promise.calls ≤ 65536)) ts) is i.kept) in record {
      hands = c.more_gathered-hands.ensures;
      kept = All-rest (λ t. (t.promise.system.now ≡ c.args.system.now) × (t.promise.calls ≤ 65536)) _ _ _ is i.kept;
      all = λ calls each. let a = i.all calls each in (
        All-rest (λ t. t.promise.calls ≡ calls) _ _ _ is a.0,
        counted_on _ _ _ _ _ calls _ (ap (λ ts. length ts) is) (c.join-done.ensures.1 ∙ All-head (λ t. t.promise.calls ≡ calls) _ _ (subst (λ ts. All (λ t. t.promise.calls ≡ calls) ts) is a.0)) c.plus-counts.ensures a.1,
      );
      few = (let f = i.few in let s = c.plus-counts.ensures in let d = c.join-done.ensures.1 in let k = kept.1 in omega (arith, f, s, d, k, long));
    }
