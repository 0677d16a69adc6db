-- How many of the modules that stand have queues, and that no more have than tables are made for.
use Rattle.strm_pair.proofs.Prelude.{ℕ, zero, suc, ◌≡◌, ◌≤◌, ◌<◌, ◌+◌, ◌*◌, Bool, true, false, cond, List, [], ◌∷◌, length, map, refl, sym, ap, subst, ◌∙◌, arith}
use Rattle.strm_pair.proofs.Prelude.{Option, None, Some, and_parts, is_some, length-map, sum_by, sum_by-cons, false≢true}
use Rattle.std.proofs.lemmas.Bool.{and_from}
use Rattle.strm_pair.specs.Prelude.{MODULES, ModuleName, Side, Master, Slave, Behaviour, EachOnce, Stands, State, Standing, StoreValue, have_queues, may_stand, module_named, named_by}
use Rattle.strm_pair.specs.Prelude.{QueuePair, module_name, other, queues_in, same_module, opening, stands_of, stands_on, stream}
use Rattle.std.specs.List.{AllByRecursion}
use Rattle.strm_types.specs.declared.names.ModuleName.TheVariants as names
use Rattle.strm_types.specs.Standings as plain
use Rattle.strm_laws.specs.Known.{all_known, are_known}
use Rattle.strm_laws.specs.Pushes.{is_known}
use Rattle.strm_laws.specs.Restorable.{GoodModule, Restorable}
use Rattle.strm_laws.specs.StackCosts.{times_there}
use Rattle.strm_laws.proofs.SameNames.{kind-is}
use Rattle.strm_laws.proofs.StackOnce.{nothing-there, push-once, top-times}
use Rattle.strm_pair.specs.declared.shelves.Shelf.{Shelf}
use Rattle.strm_pair.specs.declared.ends.StreamEnd.{StreamEnd}
use Rattle.strm_pair.specs.declared.streams.Streams.{Streams}
use Rattle.strm_pair.specs.AnyModules.{AnyStanding, IsHeld, any-has, module_in}
use Rattle.strm_pair.specs.ModuleLists.{pairs-same, three-pairs}
use Rattle.strm_pair.specs.Pairs.{AreBeside, end_at, state_in, with_end}
use Rattle.strm_pair.specs.Shelves.{IsFull, IsStocked, Restocks, pairs_among, pairs_for, pairs_in, pairs_named, pairs_stand, room_on, tables_on}
use Rattle.strm_pair.specs.Shows.{one_pair, pairs_of}
use Rattle.strm_pair.specs.Stacks.{modules_in}
use Rattle.strm_pair.specs.Streams.{IsSide}
use Rattle.strm_pair.proofs.ModulePushed.{few-below}
use Rattle.strm_pair.proofs.Modes.{named-known, stands-known}

-- ---- by their names

one-named : (queues : Option QueuePair) (b : Bool) → is_some queues ≡ b → one_pair queues ≡ cond b 1 0
one-named None b is = ap (λ (v : Bool). cond {A = ℕ} v 1 0) is
one-named (Some pair) b is = ap (λ (v : Bool). cond {A = ℕ} v 1 0) is

same-some : (s : StoreValue) (queues : Option QueuePair) → is_some (queues_in s queues) ≡ is_some queues
same-some s None = refl
same-some s (Some pair) = refl

pub among-named : (s : StoreValue) (xs : List AnyStanding) → AllByRecursion (IsHeld s) xs → pairs_among xs ≡ pairs_named (map module_name (map (module_in s) xs))
among-named s [] held = refl
among-named s (x ∷ xs) held =
    let name = module_name (module_in s x) in
    omega (
      arith,
      sum_by-cons (λ (y : AnyStanding). one_pair y.queues) x xs,
      sum_by-cons (λ (n : ModuleName). cond {A = ℕ} (have_queues n) 1 0) name (map module_name (map (module_in s) xs)),
      one-named x.queues (have_queues name) (sym (same-some s x.queues) ∙ any-has s x held.0),
      among-named s xs held.1,
    )

-- of both streams
pub in-named : (s : StoreValue) (p : Streams) → AreBeside s p → pairs_in p ≡ pairs_stand (stands_of (state_in s p))
in-named s p beside = omega (
  arith,
  among-named s (end_at Master p).stack.modules.items (beside Master).stack.each,
  among-named s (end_at Slave p).stack.modules.items (beside Slave).stack.each,
)

-- of one of them
pub in-side : (p : Streams) (side : Side) → pairs_among (end_at side p).stack.modules.items ≤ pairs_in p
in-side p Master = omega arith
in-side p Slave = omega arith

-- with another stream on a side
pub in-with : (p : Streams) (side : Side) (e : StreamEnd)
    → pairs_in (with_end side e p) + pairs_among (end_at side p).stack.modules.items ≡ pairs_in p + pairs_among e.stack.modules.items
in-with p Master e = omega arith
in-with p Slave e = omega arith

-- ---- how many there may be

-- how many of these names are ldterm's
abbrev ldterms : List ModuleName → ℕ
ldterms ns = sum_by (λ (n : ModuleName). cond {A = ℕ} (same_module n names.Ldterm) 1 0) ns

times-ldterm : (ns : List ModuleName) (at : ℕ) → length ns ≤ at → times_there names.Ldterm ns at ≡ ldterms ns
times-ldterm [] at within = nothing-there names.Ldterm at
times-ldterm (n ∷ ns) zero within = absurd (omega (arith, within))
times-ldterm (n ∷ ns) (suc at) within = omega (
  arith,
  top-times names.Ldterm n ns at,
  times-ldterm ns at (omega (arith, within)),
  sum_by-cons (λ (m : ModuleName). cond {A = ℕ} (same_module m names.Ldterm) 1 0) n ns,
)

-- What a kind of modules of a user's own owes: where there are some of a number, and these have queues, some have.
abbrev pub Tells : Behaviour → Bool → Type 0
Tells K queued = (n : ℕ) → K.knows n ≡ true → have_queues (names.Own n) ≡ true → queued ≡ true

module _ (K : Behaviour) (tells : Tells K false) where
  -- where none of them has queues ldterm alone has any
  one-ldterm : (n : ModuleName) → is_known K n ≡ true → cond {A = ℕ} (have_queues n) 1 0 ≤ cond (same_module n names.Ldterm) 1 0
  one-ldterm names.Ldterm known = omega arith
  one-ldterm names.Ptem known = omega arith
  one-ldterm names.Pckt known = omega arith
  one-ldterm (names.Own m) known = by (have_queues (names.Own m)) refl
    where
      by : (b : Bool) → have_queues (names.Own m) ≡ b → cond {A = ℕ} b 1 0 ≤ cond (same_module (names.Own m) names.Ldterm) 1 0
      by true has = absurd (false≢true (tells m known has))
      by false has = omega arith

  all-ldterms : (ns : List ModuleName) → are_known K ns ≡ true → pairs_named ns ≤ ldterms ns
  all-ldterms [] known = omega arith
  all-ldterms (n ∷ ns) known =
      let parts = and_parts (is_known K n) (are_known K ns) known in
      omega (
        arith,
        sum_by-cons (λ (m : ModuleName). cond {A = ℕ} (have_queues m) 1 0) n ns,
        sum_by-cons (λ (m : ModuleName). cond {A = ℕ} (same_module m names.Ldterm) 1 0) n ns,
        one-ldterm n parts.0,
        all-ldterms ns parts.1,
      )

-- On a side no more have queues than may.
pub few-named : (K : Behaviour) (queued : Bool) → Tells K queued → (ns : List ModuleName) → EachOnce ns → are_known K ns ≡ true → pairs_named ns ≤ MODULES → pairs_named ns ≤ pairs_for queued
few-named K true tells ns once known few = few
few-named K false tells ns once known few =
    omega (arith, all-ldterms K tells ns known, times-ldterm ns (length ns) (omega arith), once.once names.Ldterm (length ns))

pub named-length : (ns : List ModuleName) → pairs_named ns ≤ length ns
named-length [] = omega arith
named-length (n ∷ ns) = omega (arith, sum_by-cons (λ (m : ModuleName). cond {A = ℕ} (have_queues m) 1 0) n ns, one-most (have_queues n), named-length ns)
  where
    one-most : (b : Bool) → cond {A = ℕ} b 1 0 ≤ 1
    one-most true = omega arith
    one-most false = omega arith

-- ---- what is on the shelf

-- where names stay, so does what is on it
pub stocked-same : (queued : Bool) (shelf : Shelf) (all others : Stands) → others ≡ all → IsStocked queued shelf all → IsStocked queued shelf others
stocked-same queued shelf all others same is = subst (IsStocked queued shelf) (sym same) is

-- there is room for all that stand
pub stocked-room : (queued : Bool) (shelf : Shelf) (s : StoreValue) (p : Streams) → AreBeside s p → IsStocked queued shelf (stands_of (state_in s p)) → tables_on shelf + pairs_in p ≤ room_on shelf
stocked-room queued shelf s p beside is = omega (arith, is.tables, is.room, in-named s p beside)

-- tables that went to modules, or came from them
pub stocked-moved : (queued : Bool) (old new : Shelf) (s t : StoreValue) (p q : Streams) → AreBeside s p → AreBeside t q
    → Restocks old new (pairs_in p) (pairs_in q) → IsStocked queued old (stands_of (state_in s p)) → IsStocked queued new (stands_of (state_in t q))
stocked-moved queued old new s t p q beside after moved is = record {
  tables = omega (arith, moved.tables, is.tables, in-named s p beside, in-named t q after);
  room = omega (arith, moved.room, is.room);
}

-- a full one, from which so many were taken
pub stocked-full : (queued : Bool) (old new : Shelf) (all : Stands) → IsFull queued old → Restocks old new 0 (pairs_stand all) → IsStocked queued new all
stocked-full queued old new all full taken = record {
  tables = omega (arith, taken.tables, full.tables);
  room = omega (arith, taken.room, full.room);
}

-- Where one with queues may be pushed on a side, there is a pair of tables for it.
pub some-left : (K : Behaviour) (queued : Bool) → Tells K queued → (shelf : Shelf) (all : Stands) (side : Side) (name : ModuleName) → IsStocked queued shelf all
    → EachOnce (name ∷ stands_on side all) → are_known K (name ∷ stands_on side all) ≡ true → pairs_named (name ∷ stands_on side all) ≤ MODULES
    → EachOnce (stands_on (other side) all) → are_known K (stands_on (other side) all) ≡ true → pairs_named (stands_on (other side) all) ≤ MODULES
    → have_queues name ≡ true → 0 < tables_on shelf
some-left K queued tells shelf all side name is once known few once_there known_there few_there has =
    let here = few-named K queued tells (name ∷ stands_on side all) once known few in
    let there = few-named K queued tells (stands_on (other side) all) once_there known_there few_there in
    let one : cond {A = ℕ} (have_queues name) 1 0 ≡ 1 = ap (λ (b : Bool). cond {A = ℕ} b 1 0) has in
    omega (arith, here, there, one, is.tables, both side, sum_by-cons (λ (m : ModuleName). cond {A = ℕ} (have_queues m) 1 0) name (stands_on side all))
  where
    both : (side : Side) → pairs_stand all ≡ pairs_named (stands_on side all) + pairs_named (stands_on (other side) all)
    both Master = refl
    both Slave = omega arith

-- ---- a push

-- one that may stand there has a name of its own
once-named : (K : Behaviour) (name : ModuleName) (ms : List (Standing ℕ)) → may_stand (named_by K (Some name)) ms ≡ true → EachOnce (map module_name ms) → EachOnce (name ∷ map module_name ms)
once-named K name ms may each =
    let new = module_named K name in
    let named = named-known K name (stands-known K name ms may) in
    subst (λ n. EachOnce (n ∷ map module_name ms)) (kind-is ℕ K name) (push-once new ms (ap (λ o. may_stand o ms) (sym named) ∙ may) each)

-- the modules of a side's stack are known, and few of them have queues
few-there : (s : StoreValue) (first : ℕ) (e : StreamEnd) → IsSide s first e → pairs_named (map module_name (modules_in s e.stack)) ≤ MODULES
few-there s first e is = omega (
  arith,
  three-pairs s (first + 2) e.stack.modules.items is.stack is.lists,
  pairs-same s e.stack.modules.items,
  among-named s e.stack.modules.items is.stack.each,
)

few-pushed : (K : Behaviour) (name : ModuleName) (s : StoreValue) (xs : List AnyStanding) → may_stand (named_by K (Some name)) (map (module_in s) xs) ≡ true
    → pairs_named (name ∷ map module_name (map (module_in s) xs)) ≤ MODULES
few-pushed K name s xs may = omega (
  arith,
  named-length (name ∷ map module_name (map (module_in s) xs)),
  few-below K name s xs may,
  length-map (map (module_in s) xs) module_name,
  length-map xs (module_in s),
)

pub push-left : (K : Behaviour) (queued : Bool) → Tells K queued → (shelf : Shelf) (s : StoreValue) (p : Streams) (side : Side) (name : ModuleName) → AreBeside s p
    → all_known K (state_in s p) ≡ true → IsStocked queued shelf (stands_of (state_in s p)) → may_stand (named_by K (Some name)) (stream side (state_in s p)).modules ≡ true
    → have_queues name ≡ true → 0 < tables_on shelf
push-left K queued tells shelf s p Master name beside known stocked may has =
    let ms = modules_in s p.ends.master.stack in
    let ns = modules_in s p.ends.slave.stack in
    let parts = and_parts (are_known K (map module_name ms)) (are_known K (map module_name ns)) known in
    some-left K queued tells shelf (stands_of (state_in s p)) Master name stocked
    (once-named K name ms may (beside Master).once) (and_from _ _ (stands-known K name ms may) parts.0) (few-pushed K name s p.ends.master.stack.modules.items may)
    (beside Slave).once parts.1 (few-there s 8 p.ends.slave (beside Slave)) has
push-left K queued tells shelf s p Slave name beside known stocked may has =
    let ms = modules_in s p.ends.master.stack in
    let ns = modules_in s p.ends.slave.stack in
    let parts = and_parts (are_known K (map module_name ms)) (are_known K (map module_name ns)) known in
    some-left K queued tells shelf (stands_of (state_in s p)) Slave name stocked
    (once-named K name ns may (beside Slave).once) (and_from _ _ (stands-known K name ns may) parts.1) (few-pushed K name s p.ends.slave.stack.modules.items may)
    (beside Master).once parts.0 (few-there s 0 p.ends.master (beside Master)) has

-- ---- a new pair, and one of an image

-- where no module stands a full one is as it should be
pub stocked-new : (queued : Bool) (shelf : Shelf) (st : State ℕ) → st ≡ opening → IsFull queued shelf → IsStocked queued shelf (stands_of st)
stocked-new queued shelf st is full =
    subst (λ (v : State ℕ). IsStocked queued shelf (stands_of v)) (sym is) (record { tables = omega (arith, full.tables); room = full.room })

-- once all modules have gone it is full
pub all-back : (queued : Bool) (old new : Shelf) (s : StoreValue) (p : Streams) → AreBeside s p → IsStocked queued old (stands_of (state_in s p)) → Restocks old new (pairs_in p) 0
    → IsFull queued new
all-back queued old new s p beside is back = record {
  tables = omega (arith, back.tables, is.tables, in-named s p beside);
  room = omega (arith, back.room, is.room);
}

-- modules that an image may hold have queues where their names say so
pub good-named : (ps : List (Standing ℕ)) → AllByRecursion GoodModule ps → pairs_of ps ≡ pairs_named (map module_name ps)
good-named [] good = refl
good-named (p ∷ ps) good = omega (
  arith,
  sum_by-cons (λ (q : Standing ℕ). one_pair q.queues) p ps,
  sum_by-cons (λ (n : ModuleName). cond {A = ℕ} (have_queues n) 1 0) (module_name p) (map module_name ps),
  one-plain p.queues (have_queues (module_name p)) good.0.has,
  good-named ps good.1,
)
  where
    one-plain : (queues : Option (plain.QueuePair ℕ)) (b : Bool) → is_some queues ≡ b → one_pair queues ≡ cond b 1 0
    one-plain None b is = ap (λ (v : Bool). cond {A = ℕ} v 1 0) is
    one-plain (Some pair) b is = ap (λ (v : Bool). cond {A = ℕ} v 1 0) is

pub image-few : (K : Behaviour) (queued : Bool) → Tells K queued → (st : State ℕ) → Restorable st → all_known K st ≡ true → pairs_stand (stands_of st) ≤ 2 * pairs_for queued
image-few K queued tells st good known =
    let ms = st.ends.master.modules in
    let ns = st.ends.slave.modules in
    let parts = and_parts (are_known K (map module_name ms)) (are_known K (map module_name ns)) known in
    let above = (good.streams Master).modules in
    let below = (good.streams Slave).modules in
    omega (
      arith,
      few-named K queued tells (map module_name ms) above.once parts.0 (omega (arith, named-length (map module_name ms), length-map ms module_name, above.few)),
      few-named K queued tells (map module_name ns) below.once parts.1 (omega (arith, named-length (map module_name ns), length-map ns module_name, below.few)),
    )
