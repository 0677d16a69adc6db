-- The module on top of a stack, taken off it with all that stood on its queues and in its line (streamio(7I): I_POP; close(2)).
use Rattle.std.specs.Prelude.{ℕ, ◌≡◌, ◌≤◌, ◌<◌, List, [], ◌∷◌, Option}
use Rattle.strm_pair.specs.Prelude.{Side, Fates, Rule, ModuleName, Acted, tallied, top_on, top_taken, Standing, module_name, without_kind_line}
use Rattle.strm_pair.specs.Prelude.{kind_line, stream, StoreValue, list_at, FreesBlocks, SameHand}
use Rattle.strm_types.specs.Service.{cleared}
use Rattle.strm_pair.specs.declared.stacks.Taken.{Taken}
use Rattle.strm_pair.specs.declared.streams.Streams.{Streams}
use Rattle.strm_pair.specs.Effects.{Leads}
use Rattle.strm_pair.specs.Pairs.{state_in}
use Rattle.strm_pair.specs.Stacks.{modules_in, IsStackHeld, stack_owns, stack_keeps, Stack}

-- what a module lets go by a rule that is taken off a side's stream
abbrev pub let_go_of : Side → Rule → Standing ℕ → Acted ℕ (Standing ℕ)
let_go_of side rule p = cleared kind_line without_kind_line side rule p

-- No module stood there, and nothing changed.
pub record TookNone (old new : StoreValue) (x y : Stack) (told told' : Fates) : Type 0 where
  pub none : modules_in old x ≡ []
  pub store : new ≡ old
  pub stack : y ≡ x
  pub tells : told' ≡ told

-- It was on top of the others, which stay. Its lists are empty now, and come behind those of the others; the lists that weren't the stack's are as
-- they were.
pub record TookTop (side : Side) (rule : Rule) (old new : StoreValue) (x y : Stack) (told told' : Fates) (taken : Taken) : Type 0 where
  pub top : Standing ℕ
  pub rest : List (Standing ℕ)
  pub was : modules_in old x ≡ top ∷ rest
  pub name : taken.name ≡ module_name top
  pub notes : taken.notes.items ≡ (let_go_of side rule top).notes
  pub tells : told' ≡ tallied (let_go_of side rule top).gone told
  pub stays : modules_in new y ≡ rest
  pub held : IsStackHeld new y
  pub rests : (i : ℕ) → stack_keeps y i ≡ 0
  pub owns : (k : ℕ) → stack_owns y k ≤ stack_owns x k
  pub closed : (j k : ℕ) → j ≤ k → 0 < stack_owns x j → 0 < stack_owns y k → 0 < stack_owns y j
  pub others : (k : ℕ) → stack_owns x k ≡ 0 → list_at new k ≡ list_at old k
  pub emptied : (k : ℕ) → 0 < stack_owns x k → stack_owns y k ≡ 0 → list_at new k ≡ []
  pub hand : SameHand old new
  pub frees : FreesBlocks old new

-- The module on top of a side's stream has gone, and its name is told, where one stood there. No block was taken.
pub record WithoutTop (side : Side) (rule : Rule) (old new : StoreValue) (p q : Streams) (told told' : Fates) (name : Option ModuleName) : Type 0 where
  pub name_is : name ≡ top_on side (state_in old p)
  pub leads : let st = state_in old p in let is = top_taken rule side (stream side st).modules st in Leads old new q told told' is.state is.gone
  pub frees : FreesBlocks old new
