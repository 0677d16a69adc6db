use Rattle.std.proofs.Common.{rules, ◌≡◌, ◌+◌, [], ◌∷◌, ◌++◌, ◌∙◌, length, ap, sym, arith, subst, length-append}
use Rattle.strm_system.specs.Hosts.{AreOf}
use Rattle.strm_system.proofs.Openers.{all_fresh, all_turned, empty, fresh_own, turn_kept, turn_of, turn_opened, turn_within}
use Rattle.strm_system.proofs.hosts.Host.split_opener.Goals as goal

pub at-requires : goal.at-requires
at-requires g c =
    let i = c.loop-here.invariant in
    let is : c.loop-here.here-iterator.rest.items ≡ c.in-Some.here ∷ c.next.new.self.rest.items = search rules in
    turn_within c.args.self.now c.args.opener c.loop-here.kept.items _ _ c.loop-here.system c.requires (subst (λ xs. c.loop-here.kept.items ++ xs ≡ c.args.opener) is i.front) i.many

pub split_opener-first-requires : goal.split_opener-first-requires
split_opener-first-requires g c =
    let i = c.loop-here.invariant in
    let is : c.loop-here.here-iterator.rest.items ≡ c.in-Some.here ∷ c.next.new.self.rest.items = search rules in
    turn_of c.args.self.now c.args.opener c.loop-here.kept.items _ _ c.loop-here.system c.requires (subst (λ xs. c.loop-here.kept.items ++ xs ≡ c.args.opener) is i.front) i.many _ c.at.ensures

pub push_reserved-requires : goal.push_reserved-requires
push_reserved-requires g c =
    let i = c.loop-here.invariant in
    let is : c.loop-here.here-iterator.rest.items ≡ c.in-Some.here ∷ c.next.new.self.rest.items = search rules in
    let low = turn_within c.args.self.now c.args.opener c.loop-here.kept.items _ _ c.loop-here.system c.requires (subst (λ xs. c.loop-here.kept.items ++ xs ≡ c.args.opener) is i.front) i.many in
    let many = i.many in let room = i.room in omega (arith, low, many, room)

pub push_reserved-requires-in-loop-here : goal.push_reserved-requires-in-loop-here
push_reserved-requires-in-loop-here g c =
    let i = c.loop-here.invariant in
    let is : c.loop-here.here-iterator.rest.items ≡ c.in-Some.here ∷ c.next.new.self.rest.items = search rules in
    let low = turn_within c.args.self.now c.args.opener c.loop-here.kept.items _ _ c.loop-here.system c.requires (subst (λ xs. c.loop-here.kept.items ++ xs ≡ c.args.opener) is i.front) i.many in
    let more = i.more in let space = i.space in omega (arith, low, more, space)

pub overflow_add-system : goal.overflow_add-system
overflow_add-system g c =
    let i = c.loop-here.invariant in
    let is : c.loop-here.here-iterator.rest.items ≡ c.in-Some.here ∷ c.next.new.self.rest.items = search rules in
    let low = turn_within c.args.self.now c.args.opener c.loop-here.kept.items _ _ c.loop-here.system c.requires (subst (λ xs. c.loop-here.kept.items ++ xs ≡ c.args.opener) is i.front) i.many in
    let is = c.systems-count.ensures.value in let few = c.systems-count.ensures.at_most in
    omega (arith, low, is, few)

pub loop-here-preserved : goal.loop-here-preserved
loop-here-preserved g c =
    let i = c.loop-here.invariant in
    let n = c.loop-here.system in
    let is : c.loop-here.here-iterator.rest.items ≡ c.in-Some.here ∷ c.next.new.self.rest.items = search rules in
    let front = subst (λ xs. c.loop-here.kept.items ++ xs ≡ c.args.opener) is i.front in
    let first = c.push_reserved.ensures in
    let second = c.push_reserved-in-loop-here.ensures in
    let room = i.room in
    let space = i.space in record {
      front = turn_kept c.args.self.now c.args.opener c.loop-here.kept.items _ _ n c.requires front i.many _ _ first.items c.split_opener-first.ensures.first;
      opened = turn_opened c.args.self.now c.loop-here.new.items _ n (n + 1) _ _ c.at.ensures i.opened second.items c.split_opener-first.ensures.second (omega arith);
      many = ap (λ xs. length xs) first.items ∙ length-append c.loop-here.kept.items (_ ∷ []) ∙ ap (λ k. k + 1) i.many;
      more = ap (λ xs. length xs) second.items ∙ length-append c.loop-here.new.items (_ ∷ []) ∙ ap (λ k. k + 1) i.more;
      room = (let k = first.capacity in omega (arith, k, room));
      space = (let k = second.capacity in omega (arith, k, space));
    }

pub returns : goal.returns
returns g c =
    let i = c.loop-here.invariant in
    let none : c.loop-here.here-iterator.rest.items ≡ [] = empty _ (let n = c.in-None.ensures.steps.0 in let k = c.loop-here.here-iterator.rest.ok.0 in omega (arith, n, k)) in
    let front = subst (λ xs. c.loop-here.kept.items ++ xs ≡ c.args.opener) none i.front in
    let all = all_turned c.args.self.now c.args.opener c.loop-here.kept.items c.loop-here.system c.requires front i.many in
    let new = all_fresh c.args.self.now c.loop-here.new.items c.loop-here.system all.1 i.opened in (
      all.0,
      new,
      subst (λ xs. AreOf c.args.self.now xs) (sym new) (fresh_own c.args.self.now),
    )
