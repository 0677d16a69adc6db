-- What is pushed stands on top, on lists that are no other module's.
use Rattle.strm_pair.proofs.Prelude.{ℕ, ◌≡◌, ◌≤◌, ◌+◌, ◌*◌, ◌∙◌, List, length, false, ap, arith, sym, subst, sum_by, false≢true, MatchOption, Option, None, Some}
use Rattle.strm_pair.specs.Prelude.{Behaviour, ModuleName, QueuePair, standing}
use Rattle.strm_laws.specs.Pushes.{is_known}
use Rattle.strm_pair.proofs.ModulePushed.{few-below, pushed-held, pushed-keeps, pushed-lists, pushed-modules, pushed-shelf}
use Rattle.strm_pair.proofs.stacks.push_named.Goals as goal
use Rattle.strm_pair.specs.declared.modules.AnyModule.{AnyModule}
use Rattle.strm_pair.specs.AnyModules.{AnyStanding, IsMade}
use Rattle.strm_pair.specs.Given.{GivenFor}
use Rattle.strm_pair.specs.Shows.{one_pair}
use Rattle.strm_pair.specs.Stacks.{modules_in}
use Rattle.strm_pair.proofs.Modes.{stands-known}

-- the module with the queues that it is given
abbrev pushed_of : AnyModule → Option QueuePair → AnyStanding
pushed_of x queues = standing x queues

-- one that was made
made-of : (K : Behaviour) (name : ModuleName) (o : Option AnyModule) (x : AnyModule) → o ≡ Some x
    → MatchOption o (is_known K name ≡ false) (IsMade K name) → IsMade K name x
made-of K name o x is made = subst (λ (o : Option AnyModule). MatchOption o (is_known K name ≡ false) (IsMade K name)) is made

-- one is, as the name of what may stand is known
none-made : (K : Behaviour) (name : ModuleName) (o : Option AnyModule) → o ≡ None
    → MatchOption o (is_known K name ≡ false) (IsMade K name) → is_known K name ≡ false
none-made K name o is made = subst (λ (o : Option AnyModule). MatchOption o (is_known K name ≡ false) (IsMade K name)) is made

pub unreachable-requires : goal.unreachable-requires
unreachable-requires g c =
    let K = g.M.Behaves.does in
    let ms = modules_in (g.B.Blocks.value c.args.store.now) c.args.stack.now in
    false≢true (sym (none-made K c.args.name c.made.result c.in_default.is c.made.ensures) ∙ stands-known K c.args.name ms c.requires.may_stand)

-- its queues stand behind those of the modules below it
given-at : (name : ModuleName) (first n : ℕ) (queues : Option QueuePair) (items xs : List AnyStanding) → GivenFor name (first + 2 + 2 * n) queues → n ≡ sum_by (λ (y : AnyStanding). one_pair y.queues) items → items ≡ xs
    → GivenFor name (first + 2 + 2 * sum_by (λ (y : AnyStanding). one_pair y.queues) xs) queues
given-at name first n queues items xs given many are =
    subst (λ m. GivenFor name (first + 2 + 2 * m) queues) (many ∙ ap (λ ys. sum_by (λ (y : AnyStanding). one_pair y.queues) ys) are) given

pub pairs_among-pairs-requires : goal.pairs_among-pairs-requires
pairs_among-pairs-requires g c =
    let K = g.M.Behaves.does in
    let s = g.B.Blocks.value c.args.store.now in
    let xs = c.args.stack.now.modules.items in
    let few = few-below K c.args.name s xs c.requires.may_stand in
    subst (λ ys. length ys ≤ 3) (sym c.as_slice.ensures.value) (omega (arith, few))

pub queues_for-requires-clause-first : goal.queues_for-requires-clause-first
queues_for-requires-clause-first g c = λ has.
    let K = g.M.Behaves.does in
    let s = g.B.Blocks.value c.args.store.now in
    let xs = c.args.stack.now.modules.items in
    omega (arith, c.requires.small, c.pairs_among-pairs.ensures.few, ap length c.as_slice.ensures.value, few-below K c.args.name s xs c.requires.may_stand)

pub returns-clause-modules : goal.returns-clause-modules
returns-clause-modules g c =
    let K = g.M.Behaves.does in
    let s = g.B.Blocks.value c.args.store.now in
    let given = given-at c.args.name c.args.first c.pairs_among-pairs.result c.queues_for.result c.as_slice.result.now c.args.stack.now.modules.items c.queues_for.ensures.given c.pairs_among-pairs.ensures.pairs c.as_slice.ensures.value in
    pushed-modules s K c.args.first c.args.name c.args.stack.now c.push.new.self (pushed_of c.in-Some.module c.queues_for.result) c.requires.held c.requires.may_stand c.requires.lists
    (made-of K c.args.name c.made.result c.in-Some.module c.in-Some.is c.made.ensures) given c.push.result (c.push.ensures.pushed s)

pub returns-clause-held : goal.returns-clause-held
returns-clause-held g c =
    let K = g.M.Behaves.does in
    let s = g.B.Blocks.value c.args.store.now in
    let given = given-at c.args.name c.args.first c.pairs_among-pairs.result c.queues_for.result c.as_slice.result.now c.args.stack.now.modules.items c.queues_for.ensures.given c.pairs_among-pairs.ensures.pairs c.as_slice.ensures.value in
    pushed-held s K c.args.first c.args.name c.args.stack.now c.push.new.self (pushed_of c.in-Some.module c.queues_for.result) c.requires.held c.requires.may_stand c.requires.lists
    (made-of K c.args.name c.made.result c.in-Some.module c.in-Some.is c.made.ensures) given c.push.result (c.push.ensures.pushed s)

pub returns-clause-lists : goal.returns-clause-lists
returns-clause-lists g c =
    let K = g.M.Behaves.does in
    let s = g.B.Blocks.value c.args.store.now in
    let given = given-at c.args.name c.args.first c.pairs_among-pairs.result c.queues_for.result c.as_slice.result.now c.args.stack.now.modules.items c.queues_for.ensures.given c.pairs_among-pairs.ensures.pairs c.as_slice.ensures.value in
    pushed-lists s K c.args.first c.args.name c.args.stack.now c.push.new.self (pushed_of c.in-Some.module c.queues_for.result) c.requires.held c.requires.may_stand c.requires.lists
    (made-of K c.args.name c.made.result c.in-Some.module c.in-Some.is c.made.ensures) given c.push.result (c.push.ensures.pushed s)

pub returns-clause-keeps : goal.returns-clause-keeps
returns-clause-keeps g c =
    let K = g.M.Behaves.does in
    let s = g.B.Blocks.value c.args.store.now in
    let given = given-at c.args.name c.args.first c.pairs_among-pairs.result c.queues_for.result c.as_slice.result.now c.args.stack.now.modules.items c.queues_for.ensures.given c.pairs_among-pairs.ensures.pairs c.as_slice.ensures.value in
    pushed-keeps s K c.args.first c.args.name c.args.stack.now c.push.new.self (pushed_of c.in-Some.module c.queues_for.result) c.requires.held c.requires.may_stand c.requires.lists
    (made-of K c.args.name c.made.result c.in-Some.module c.in-Some.is c.made.ensures) given c.push.result (c.push.ensures.pushed s)

pub returns-clause-shelf : goal.returns-clause-shelf
returns-clause-shelf g c =
    let K = g.M.Behaves.does in
    let s = g.B.Blocks.value c.args.store.now in
    let given = given-at c.args.name c.args.first c.pairs_among-pairs.result c.queues_for.result c.as_slice.result.now c.args.stack.now.modules.items c.queues_for.ensures.given c.pairs_among-pairs.ensures.pairs c.as_slice.ensures.value in
    pushed-shelf s K c.args.first c.args.name c.args.stack.now c.push.new.self (pushed_of c.in-Some.module c.queues_for.result) c.requires.held c.requires.may_stand c.requires.lists
    (made-of K c.args.name c.made.result c.in-Some.module c.in-Some.is c.made.ensures) given c.push.result (c.push.ensures.pushed s) c.args.shelf.now c.queues_for.new.shelf c.queues_for.ensures.shelf
