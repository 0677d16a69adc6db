-- Stacks of modules beside a store, the module on top first.
use Rattle.std.specs.Prelude.{ℕ, List, map}
use Rattle.strm_laws.specs.Stacked as plain
use Rattle.strm_pair.specs.Prelude.{StoreValue, all_of, AreHeld, owns}
use Rattle.strm_frame.specs.declared.stack.Stack as frame
use Rattle.strm_pair.specs.declared.modules.AnyModule.{AnyModule}
use Rattle.strm_pair.specs.AnyModules.{IsHeld, keeps, module_in}

abbrev pub Stack : Type 0
Stack = frame.Stack AnyModule

-- what the modules of a stack stand for
abbrev pub modules_in : StoreValue → Stack → List (plain.Standing ℕ)
modules_in s x = map (module_in s) x.modules.items

-- a stack and the store fit
abbrev pub IsStackHeld : StoreValue → Stack → Type 0
IsStackHeld s x = AreHeld IsHeld owns s x.modules.items

-- 1 for each list of the store that is a stack's own
abbrev pub stack_owns : Stack → ℕ → ℕ
stack_owns x = all_of owns x.modules.items

-- how often a stack keeps a message of a name in hand
abbrev pub stack_keeps : Stack → ℕ → ℕ
stack_keeps x = all_of keeps x.modules.items
