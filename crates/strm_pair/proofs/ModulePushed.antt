-- A module that is pushed on a stack of others.
use Rattle.strm_pair.proofs.Prelude.{ℕ, ◌≡◌, ◌≤◌, ◌<◌, ◌+◌, ◌*◌, true, false, List, [], ◌∷◌, map, refl, sym, ap, subst, ◌∙◌, arith, nat_tests, and_parts}
use Rattle.strm_pair.proofs.Prelude.{sum_by, sum_by-cons, length-map, Option, None, is_some, Some, IfSome, Result, Ok, Err, ◌&&◌, not, nat_lt}
use Rattle.strm_pair.specs.Prelude.{MODULES, ModuleName, stands, stood, may_stand, module_named, named_by, once, Standing}
use Rattle.strm_pair.specs.Prelude.{kind_name, Behaviour}
use Rattle.strm_pair.specs.Prelude.{module_name, StoreValue, list_at, all_of, AreHeld, Stack, QueuePair, owns, queues_in}
use Rattle.std.specs.Prelude.{MatchResult, length}
use Rattle.strm_types.specs.Modules.{may_push}
use Rattle.strm_laws.specs.Pushes.{kind_named}
use Rattle.strm_pair.specs.declared.modules.AnyModule.{AnyModule}
use Rattle.strm_pair.specs.declared.shelves.Shelf.{Shelf}
use Rattle.strm_pair.specs.AnyModules.{AnyStanding, IsHeld, IsMade, keeps, module_in}
use Rattle.strm_pair.specs.Given.{GivenFor}
use Rattle.strm_pair.specs.ModuleLists.{Lines, either-within, for-lines, spans}
use Rattle.strm_pair.specs.Shelves.{Restocks}
use Rattle.strm_pair.specs.Shows.{one_pair}
use Rattle.strm_pair.specs.Streams.{AreFor}
use Rattle.strm_pair.proofs.MadeModules.{given-are, given-ready}
use Rattle.strm_pair.proofs.StackTops.{some-pair, top-for, top-held}
use Rattle.strm_laws.proofs.SameNames.{kind-is}
use Rattle.strm_pair.proofs.Modes.{named-known, stands-known}

-- the module that a name makes, where it may stand
pub made-named : (K : Behaviour) (kind : ModuleName) (ms : List (Standing ℕ)) → may_stand (named_by K (Some kind)) ms ≡ true → (p : Standing ℕ) × (named_by K (Some kind) ≡ Some p)
made-named K kind ms may = (module_named K kind, named-known K kind (stands-known K kind ms may))

-- whatever module has the name that may be pushed may be
pub may-named : (K : Behaviour) (kind : ModuleName) (p : Standing ℕ) (ms : List (Standing ℕ)) → module_name p ≡ kind → may_stand (named_by K (Some kind)) ms ≡ true → may_push module_name p ms ≡ true
may-named K kind p ms is may =
    ap (λ name. nat_lt (length ms) MODULES && not (stands module_name name ms)) (is ∙ sym (kind-is ℕ K kind))
    ∙ ap (λ o. may_stand o ms) (sym (named-known K kind (stands-known K kind ms may)))
    ∙ may

-- how many of modules have queues is no more than how many there are
pub pairs-length : (xs : List AnyStanding) → sum_by (λ (y : AnyStanding). one_pair y.queues) xs ≤ length xs
pairs-length [] = omega arith
pairs-length (x ∷ xs) = omega (arith, sum_by-cons (λ (y : AnyStanding). one_pair y.queues) x xs, one-most x.queues, pairs-length xs)
  where
    one-most : (queues : Option QueuePair) → one_pair queues ≤ 1
    one-most None = omega arith
    one-most (Some pair) = omega arith

-- where one may be pushed fewer than three stand
few-stand : (o : Option (Standing ℕ)) (ms : List (Standing ℕ)) → may_stand o ms ≡ true → length ms < MODULES
few-stand None ms may = absurd (cc)
few-stand (Some p) ms may =
    let less : nat_lt (length ms) MODULES ≡ true = (and_parts (nat_lt (length ms) MODULES) (not (stands module_name (module_name p) ms)) may).0 in
    grind (arith, nat_tests)

pub few-below : (K : Behaviour) (kind : ModuleName) (s : StoreValue) (xs : List AnyStanding) → may_stand (named_by K (Some kind)) (map (module_in s) xs) ≡ true → length xs < MODULES
few-below K kind s xs may = omega (arith, few-stand (named_by K (Some kind)) (map (module_in s) xs) may, length-map xs (module_in s))

has-pair : (queues : Option QueuePair) → one_pair queues ≡ 1 → is_some queues ≡ true
has-pair None one = absurd (omega (arith, one))
has-pair (Some pair) one = refl

module _ (s : StoreValue) where
  module _ (K : Behaviour) (first : ℕ) (kind : ModuleName) (a b : Stack AnyModule) (x : AnyStanding)
      (before : AreHeld IsHeld owns s a.modules.items)
      (may : may_stand (named_by K (Some kind)) (map (module_in s) a.modules.items) ≡ true)
      (lists : AreFor s (first + 2) (all_of owns a.modules.items))
      (made : IsMade K kind x.module) (given : GivenFor kind (first + 2 + 2 * sum_by (λ (y : AnyStanding). one_pair y.queues) a.modules.items) x.queues)
      {U : Type 0} (r : Result U AnyStanding)
      (pushed : MatchResult r (λ _. (may_push module_name (module_in s x) (map (module_in s) a.modules.items) ≡ true) × (b.modules.items ≡ x ∷ a.modules.items)) (λ back. (may_push module_name (module_in s x) (map (module_in s) a.modules.items) ≡ false) × ((back ≡ x) × (b ≡ a)))) where
    may-be : may_push module_name (module_in s x) (map (module_in s) a.modules.items) ≡ true
    may-be = may-named K kind (module_in s x) (map (module_in s) a.modules.items) (ap kind_name (made.made s) ∙ kind-is ℕ K kind) may

    -- its own lists are the next two behind the others'
    abbrev many : ℕ
    many = 2 * sum_by (λ (y : AnyStanding). one_pair y.queues) a.modules.items

    abbrev next : ℕ
    next = first + 2 + many

    lines : Lines (first + 2) (all_of owns a.modules.items)
    lines = for-lines s (first + 2) (all_of owns a.modules.items) lists

    own-at : one_pair x.queues ≡ 1 → (k : ℕ) → owns x k ≡ once next k + once (next + 1) k
    own-at one k = given.own (has-pair x.queues one) k

    room : one_pair x.queues ≡ 1 → many + 2 ≤ 6
    room one = omega (arith, pairs-length a.modules.items, few-below K kind s a.modules.items may)

    -- and nothing stands on them
    empty : (k : ℕ) → 0 < owns x k → list_at s k ≡ []
    empty k some =
        let one = some-pair x.queues k some in
        let own = either-within next k (omega (arith, some, own-at one k)) in
        lists.spare k (omega (arith, own.0)) (omega (arith, own.1, room one)) ((spans s (first + 2) a.modules.items before lines).none k own.0)

    state : module_in s x ≡ module_named K kind
    state =
        ap (λ part. stood part (queues_in s x.queues)) (made.made s) ∙ ap (λ queues. stood (kind_named K kind) queues)
        (given-are kind next s x.queues given empty)

    fits : IsHeld s x
    fits = record { queues = given-ready kind next s x.queues given empty; itself = made.fresh.held s x.queues given.has }

    -- it stands on top of them
    is : b.modules.items ≡ x ∷ a.modules.items
    is = by r pushed
      where
        by : (r : Result U AnyStanding) → MatchResult r (λ _. (may_push module_name (module_in s x) (map (module_in s) a.modules.items) ≡ true) × (b.modules.items ≡ x ∷ a.modules.items)) (λ back. (may_push module_name (module_in s x) (map (module_in s) a.modules.items) ≡ false) × ((back ≡ x) × (b ≡ a))) → b.modules.items ≡ x ∷ a.modules.items
        by (Ok u) pushed = pushed.1
        by (Err back) pushed = absurd (let never = sym pushed.0 ∙ may-be in cc)

    pub pushed-modules : IfSome (named_by K (Some kind)) (λ p. map (module_in s) b.modules.items ≡ p ∷ map (module_in s) a.modules.items)
    pushed-modules =
        subst (λ o. IfSome o (λ p. map (module_in s) b.modules.items ≡ p ∷ map (module_in s) a.modules.items)) (sym (named-known K kind made.known))
        (ap (map (module_in s)) is ∙ ap (λ p. p ∷ map (module_in s) a.modules.items) state)

    pub pushed-keeps : (i : ℕ) → all_of keeps b.modules.items i ≡ all_of keeps a.modules.items i
    pushed-keeps i = omega (arith, ap (λ xs. all_of keeps xs i) is, sum_by-cons (λ y. keeps y i) x a.modules.items, made.fresh.rests i)

    pub pushed-held : AreHeld IsHeld owns s b.modules.items
    pushed-held = subst (λ xs. AreHeld IsHeld owns s xs) (sym is) (top-held s (first + 2) x a.modules.items fits before lines own-at)

    pub pushed-lists : AreFor s (first + 2) (all_of owns b.modules.items)
    pushed-lists = subst (λ xs. AreFor s (first + 2) (all_of owns xs)) (sym is) (top-for s (first + 2) x a.modules.items fits before lines own-at room lists.owned
        (λ k low high none. lists.spare k low high (omega (arith, none, sum_by-cons (λ y. owns y k) x a.modules.items))))

    -- the tables go with it, or are where they were
    pub pushed-shelf : (old new : Shelf) → Restocks old new 0 (one_pair x.queues)
        → Restocks old new (sum_by (λ (y : AnyStanding). one_pair y.queues) a.modules.items) (sum_by (λ (y : AnyStanding). one_pair y.queues) b.modules.items)
    pushed-shelf old new taken = record {
      tables = omega (
        arith,
        taken.tables,
        ap (λ xs. sum_by (λ (y : AnyStanding). one_pair y.queues) xs) is,
        sum_by-cons (λ (y : AnyStanding). one_pair y.queues) x a.modules.items,
      );
      room = taken.room;
    }
