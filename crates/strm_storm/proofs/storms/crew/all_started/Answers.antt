use Rattle.std.proofs.Common.{rules, ◌≡◌, ◌+◌, ◌≤◌, ◌∷◌, ◌∙◌, suc, length, ap, arith, subst, length-append}
use Rattle.std.specs.Prelude.{All}
use Rattle.std.proofs.lemmas.List.Elements.{All-head, All-rest}
use Rattle.strm_storm.specs.Storms.{IsJob}
use Rattle.strm_storm.proofs.Hands.{kept_more}
use Rattle.strm_storm.proofs.storms.crew.all_started.Goals as goal

pub loop-job-preserved-in_default : goal.loop-job-preserved-in_default
loop-job-preserved-in_default g c =
    let i = c.loop-job.invariant in
    let is : c.loop-job.job-iterator.rest.items ≡ c.in-Some.job ∷ c.next.new.self.rest.items = search rules in
    let long : length c.loop-job.job-iterator.rest.items ≡ suc (length c.next.new.self.rest.items) = ap (λ js. length js) is in record {
      jobs = All-rest (λ j. IsJob c.args.system.now j.calls j × (j.calls ≤ 65536)) _ _ _ is i.jobs;
      few = (let f = i.few in omega (arith, f, long));
      kept = λ calls each. let k = i.kept calls each in (All-rest (λ j. j.calls ≡ calls) _ _ _ is k.0, k.1);
    }

pub loop-job-preserved : goal.loop-job-preserved
loop-job-preserved g c =
    let i = c.loop-job.invariant in
    let is : c.loop-job.job-iterator.rest.items ≡ c.in-Some.job ∷ c.next.new.self.rest.items = search rules in
    let long : length c.loop-job.job-iterator.rest.items ≡ suc (length c.next.new.self.rest.items) = ap (λ js. length js) is in
    let more : length c.push.new.self.items ≡ length c.loop-job.threads.items + 1 = ap (λ ts. length ts) c.in_ok-push.ensures.items ∙ length-append _ _ in record {
      jobs = All-rest (λ j. IsJob c.args.system.now j.calls j × (j.calls ≤ 65536)) _ _ _ is i.jobs;
      few = (let f = i.few in omega (arith, f, long, more));
      kept = λ calls each. let k = i.kept calls each in (
        All-rest (λ j. j.calls ≡ calls) _ _ _ is k.0,
        kept_more (λ t. (t.promise.system.now ≡ c.args.system.now) × (t.promise.calls ≡ calls)) _ _ _ c.in_ok-push.ensures.items k.1 (
          c.in-Some-started.ensures.0,
          c.in-Some-started.ensures.1 ∙ All-head (λ j. j.calls ≡ calls) _ _ (subst (λ js. All (λ j. j.calls ≡ calls) js) is k.0),
        ),
      );
    }
