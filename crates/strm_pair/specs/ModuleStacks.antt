-- What holds of stacks of modules, whatever stands on them.
use Rattle.std.specs.Prelude.{ℕ, ◌≡◌, List, [], ◌∷◌, length, map, Option}
use Rattle.std.specs.List.{AllByRecursion}
use Rattle.std.proofs.Common.{arith, refl, sym, ◌∙◌}
use Rattle.std.proofs.lemmas.List.{length-map}
use Rattle.std.proofs.lemmas.List.Sums.{sum_by-cons}
use Rattle.strm_pair.specs.Prelude.{Up, IsAtRest, KindRests, StoreValue, QueuePair, SameOwn, stack-stays, all_of, own-rests, owns}
use Rattle.strm_pair.specs.declared.modules.AnyModule.{AnyModule}
use Rattle.strm_pair.specs.declared.modules.AnyModule.TheVariants as kinds
use Rattle.strm_pair.specs.AnyModules.{AnyStanding, IsHeld, IsKindHeld, any-frame, keeps, kind_in, kind_keeps, module_in}
use Rattle.strm_pair.specs.ModuleLists.{none-own, stack-shown}
use Rattle.strm_pair.specs.Stacks.{modules_in, IsStackHeld, stack_owns, stack_keeps, Stack}
use Rattle.strm_pair.specs.Streams.{AreFor, AreShown}

-- modules at rest keep nothing
rest-keeps : (s : StoreValue) (x : AnyModule) (queues : Option QueuePair) → IsKindHeld s x queues → KindRests (kind_in s x) → (i : ℕ) → kind_keeps x i ≡ 0
rest-keeps s (kinds.Ldterm x) queues held rest i = own-rests s x queues Up i held rest
rest-keeps s (kinds.Ptem x) queues held rest i = refl
rest-keeps s (kinds.Pckt x) queues held rest i = refl
rest-keeps s (kinds.Own o) queues held rest i = refl

pub rests-keep : (s : StoreValue) (xs : List AnyStanding) → AllByRecursion (IsHeld s) xs → AllByRecursion (λ p. IsAtRest p) (map (module_in s) xs) → (i : ℕ) → all_of keeps xs i ≡ 0
rests-keep s [] held rest i = omega arith
rests-keep s (x ∷ xs) held rest i = omega (arith, sum_by-cons (λ y. keeps y i) x xs, rest-keeps s x.module x.queues held.0.itself rest.0 i, rests-keep s xs held.1 rest.1 i)

-- A stack stands for the same, and fits, wherever its own lists are the same and what it keeps in hand is.
pub stack-frame : (s t : StoreValue) (x : Stack) → SameOwn s t (stack_owns x) (stack_keeps x) → IsStackHeld s x → (modules_in t x ≡ modules_in s x) × IsStackHeld t x
stack-frame s t x same held = stack-stays module_in IsHeld owns keeps any-frame s t x.modules.items same held

-- where nothing of a turn is under way it keeps nothing
pub stack-idle : (s : StoreValue) (x : Stack) → IsStackHeld s x → AllByRecursion (λ p. IsAtRest p) (modules_in s x) → (i : ℕ)
    → stack_keeps x i ≡ 0
stack-idle s x held idle = rests-keep s x.modules.items held.each idle

-- and the lists that are for it show its queues
pub stack-shows : (s : StoreValue) (x : Stack) (first : ℕ) → IsStackHeld s x → AllByRecursion (λ p. IsAtRest p) (modules_in s x) → AreFor s first (stack_owns x) → AreShown s first (modules_in s x)
stack-shows s x first held idle are = stack-shown s first x.modules.items held are

-- without a module it owns no list
pub stack-bare : (s : StoreValue) (x : Stack) → IsStackHeld s x → modules_in s x ≡ [] → (k : ℕ) → stack_owns x k ≡ 0
stack-bare s x held none = none-own s x.modules.items none

-- as many modules stand there whatever the store
pub stack-long : (s t : StoreValue) (x : Stack) → length (modules_in t x) ≡ length (modules_in s x)
stack-long s t x = length-map x.modules.items (module_in t) ∙ sym (length-map x.modules.items (module_in s))
