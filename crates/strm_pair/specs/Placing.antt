-- Modules of a text in a store.
use Rattle.std.specs.Prelude.{ℕ, ◌≡◌, ◌≤◌, ◌<◌, ◌+◌, List, [], Option, None, Some, IfSome, is_some, length, map, sum_by}
use Rattle.std.specs.List.{AllByRecursion}
use Rattle.strm_pair.specs.Prelude.{MODULES, EachOnce, StoreValue, list_at, once, all_of, AreHeld, ModuleText, module_now, modules_now, names_now}
use Rattle.strm_pair.specs.Prelude.{LISTS, owns, have_queues, kind_name, QueuePair, IsPairReady, queues_in, queues_own}
use Rattle.strm_types.specs.declared.limits.TheConstants.{SETTINGS_MAX}
use Rattle.strm_image.specs.declared.modules.KindText.{KindText}
use Rattle.strm_image.specs.declared.modules.KindText.TheVariants as texts
use Rattle.strm_image.specs.declared.modules.QueuesText.{QueuesText}
use Rattle.strm_image.specs.ModuleTexts.{kind_now, own_pair_now}
use Rattle.strm_pair.specs.AnyModules.{AnyStanding, IsHeld, keeps, module_in}
use Rattle.strm_pair.specs.Runs.{Spent}
use Rattle.strm_pair.specs.declared.shelves.Shelf.{Shelf}
use Rattle.strm_pair.specs.Shelves.{Restocks, tables_on}
use Rattle.strm_pair.specs.Shows.{one_pair}
use Rattle.strm_pair.specs.Streams.{AreFor}
use Rattle.strm_pair.specs.Standing.{FillsTwo, IsLdtermText, pair_blocks}

-- how many blocks the messages on the queues of a module take
abbrev pub queues_blocks : Option QueuesText → ℕ
queues_blocks None = 0
queues_blocks (Some q) = pair_blocks q

abbrev pub module_blocks : ModuleText → ℕ
module_blocks m = queues_blocks m.queues

-- what the text of a module has as its format says: what it is by itself, and queues where those of its name have any
abbrev pub IsKindText : KindText → Type 0
IsKindText (texts.Ldterm l) = IsLdtermText l
IsKindText (texts.Ptem p) = Unit {0}
IsKindText texts.Pckt = Unit {0}
IsKindText (texts.Own o) = length o.settings.now ≤ SETTINGS_MAX

pub record IsModuleText (m : ModuleText) : Type 0 where
  pub kind : IsKindText m.kind
  pub has : is_some m.queues ≡ have_queues (kind_name (kind_now m.kind))

-- 1 for one that has queues
abbrev pub queues_pair : Option QueuesText → ℕ
queues_pair None = 0
queues_pair (Some q) = 1

abbrev pub text_pair : ModuleText → ℕ
text_pair m = queues_pair m.queues

-- One that has queues finds nothing on its lists, which are two from a number on, and tables on the shelf.
pub record IsFreeFor (s : StoreValue) (first : ℕ) (shelf : Shelf) : Type 0 where
  pub list : first + 1 < LISTS
  pub reads : list_at s first ≡ []
  pub writes : list_at s (first + 1) ≡ []
  pub tables : 0 < tables_on shelf

-- Queues stand as a text has them, on the two lists, and no other list changed. Where there are none, the store and the shelf are as they were.
pub record ArePlaced (old new : StoreValue) (first : ℕ) (was is : Shelf) (text : Option QueuesText) (queues : Option QueuePair) : Type 0 where
  pub state : queues_in new queues ≡ own_pair_now text
  pub ready : IfSome queues (IsPairReady new)
  pub has : is_some queues ≡ is_some text
  pub pairs : one_pair queues ≡ queues_pair text
  pub own : 0 < queues_pair text → (k : ℕ) → queues_own queues k ≡ once first k + once (first + 1) k
  pub stays : queues_pair text ≡ 0 → new ≡ old
  pub shelf : Restocks was is 0 (queues_pair text)
  pub fills : FillsTwo old new first
  pub spent : Spent old new (queues_blocks text)

-- A module stands as a text has it. It keeps nothing in hand. Its queues stand on the two lists, and no other list changed; where it has none the
-- store and the shelf are as they were.
pub record IsPlaced (old new : StoreValue) (first : ℕ) (was is : Shelf) (text : ModuleText) (x : AnyStanding) : Type 0 where
  pub state : module_in new x ≡ module_now text
  pub held : IsHeld new x
  pub rests : (i : ℕ) → keeps x i ≡ 0
  pub pairs : one_pair x.queues ≡ text_pair text
  pub own : 0 < text_pair text → (k : ℕ) → owns x k ≡ once first k + once (first + 1) k
  pub stays : text_pair text ≡ 0 → new ≡ old
  pub shelf : Restocks was is 0 (text_pair text)
  pub fills : FillsTwo old new first
  pub spent : Spent old new (module_blocks text)

-- what the text of the modules of a stream has as its format says: three at most, each name once
pub record AreModuleTexts (ms : List ModuleText) : Type 0 where
  pub few : length ms ≤ MODULES
  pub each : AllByRecursion IsModuleText ms
  pub names : EachOnce (names_now ms)

-- Modules stand as a text has them, the one on top first, on six lists of a store from a number on, and no other list changed.
pub record AreStacked (old new : StoreValue) (first : ℕ) (was is : Shelf) (ms : List ModuleText) (xs : List AnyStanding) : Type 0 where
  pub state : map (module_in new) xs ≡ modules_now ms
  pub held : AreHeld IsHeld owns new xs
  pub rests : (i : ℕ) → all_of keeps xs i ≡ 0
  pub lists : AreFor new first (all_of owns xs)
  pub shelf : Restocks was is 0 (sum_by text_pair ms)
  pub others : (k : ℕ) → (first ≤ k → first + 6 ≤ k) → list_at new k ≡ list_at old k
  pub hand : new.hand ≡ old.hand
  pub mblks : new.mblks ≡ old.mblks
  pub dblks : new.dblks ≡ old.dblks
  pub spent : Spent old new (sum_by module_blocks ms)
