-- The module on top of a side's stream, taken off it.
use Rattle.strm_pair.proofs.Prelude.{ℕ, zero, suc, ◌≡◌, ◌≤◌, ◌<◌, ◌+◌, List, [], ◌∷◌, ◌++◌, length, map, refl, sym, ap, subst, ◌∙◌, arith}
use Rattle.strm_pair.proofs.Prelude.{None, Some, get-set-same, ready-same}
use Rattle.strm_pair.specs.Prelude.{QueueName, Side, Fates, Rule, Note, Carried, Fate, tallied, top_name, without_module, other, place_of, all_taken}
use Rattle.strm_pair.specs.Prelude.{top_taken, with_modules, earlier_at, noted, Standing, module_name, State, Stream, stream, with_stream, StoreValue}
use Rattle.strm_pair.specs.Prelude.{free_d, free_m, list_at, queue_in, HoldsReadable}
use Rattle.strm_laws.proofs.StackOnce.{pop-once}
use Rattle.strm_pair.specs.declared.ends.StreamEnd.{StreamEnd}
use Rattle.strm_pair.specs.declared.stacks.Taken.{Taken}
use Rattle.strm_pair.specs.declared.streams.Streams.{Streams}
use Rattle.strm_pair.specs.Framing.{stays-at, still}
use Rattle.strm_pair.specs.Lists.{first_list}
use Rattle.strm_pair.specs.Pairs.{state_in, end_at, with_end, AreBeside, AreHeld, kept_by}
use Rattle.strm_pair.specs.Streams.{stream_in, IsSide, AreApart}
use Rattle.strm_pair.specs.Taken.{TookNone, TookTop, WithoutTop, let_go_of}
use Rattle.strm_pair.proofs.Sides.{OtherStays, modules-are, never-both, one-beside, one-state, queue-same, stream-is, stream_of}
use Rattle.strm_pair.specs.Stacks.{modules_in, stack_owns, Stack}

zero-if : (n : ℕ) → (0 < n → 1 ≤ 0) → n ≡ 0
zero-if zero never = refl
zero-if (suc n) never = absurd (let one : 0 < suc n = omega arith in omega (arith, never one))

module _ (s t : StoreValue) where
  module _ (first : ℕ) (e : StreamEnd) (is : IsSide s first e) where
    -- a stack owns no list but those that are for it
    pub unowned : (k : ℕ) → (first + 2 ≤ k → k < first + 2 + 6 → ⊥) → stack_owns e.stack k ≡ 0
    unowned k away = zero-if (stack_owns e.stack k) (λ some. let own = is.lists.owned k some in absurd (away own.0 own.1))

    module _ (side : Side) (rule : Rule) (told told' : Fates) (taken : Taken) (y : Stack) (took : TookTop side rule s t e.stack y told told' taken) where
      head-beside : list_at t e.head.queue.list ≡ list_at s e.head.queue.list
      head-beside = took.others e.head.queue.list (unowned e.head.queue.list (λ low high. omega (arith, is.head_list, low)))

      driver-beside : list_at t e.driver.list ≡ list_at s e.driver.list
      driver-beside = took.others e.driver.list (unowned e.driver.list (λ low high. omega (arith, is.driver_list, low)))

      took-spare : (k : ℕ) → first + 2 ≤ k → k < first + 2 + 6 → stack_owns y k ≡ 0 → list_at t k ≡ []
      took-spare k low high none = by (stack_owns e.stack k) refl
        where
          by : (n : ℕ) → stack_owns e.stack k ≡ n → list_at t k ≡ []
          by zero was = took.others k was ∙ is.lists.spare k low high was
          by (suc n) was = took.emptied k (omega (arith, was)) none

      pub took-side : IsSide t first (record e { stack = y })
      took-side = record {
        head_list = is.head_list;
        driver_list = is.driver_list;
        head = record { ready = ready-same s t e.head.queue head-beside is.head.ready; readable = subst HoldsReadable (sym head-beside) is.head.readable };
        driver = ready-same s t e.driver driver-beside is.driver;
        stack = took.held;
        once = subst AreApart (sym took.stays) (pop-once (module_name took.top) (map module_name took.rest) (subst AreApart took.was is.once));
        lists = record {
          owned = λ k some. is.lists.owned k (omega (arith, took.owns k, some));
          closed = λ j k low le some. took.closed j k le (is.lists.closed j k low le (omega (arith, took.owns k, some))) some;
          spare = took-spare;
        };
      }

      pub took-stream : stream_in t (record e { stack = y }) ≡ record (stream_in s e) { modules = took.rest }
      took-stream =
          ap (λ h. stream_of e h (modules_in t y) (queue_in t e.driver)) (queue-same s t e.head.queue head-beside)
          ∙ ap (λ ms. stream_of e (queue_in s e.head.queue) ms (queue_in t e.driver)) took.stays
          ∙ ap (λ d. stream_of e (queue_in s e.head.queue) took.rest d) (queue-same s t e.driver driver-beside)

  module _ (p : Streams) (beside : AreBeside s p) (rule : Rule) (told told' : Fates) (taken : Taken) where
    module _ (side : Side) (y : Stack) (took : TookTop side rule s t (end_at side p).stack y told told' taken) where
      elsewhere : OtherStays s t p beside side
      elsewhere = record {
        lists = λ k low high. took.others k (unowned (first_list side) (end_at side p) (beside side) k (λ above below. never-both side k (omega (arith, above)) (omega (arith, below)) low high));
        keeps = stays-at s t (other side) p (still s t (kept_by p) took.hand.hand took.hand.mblks took.hand.dblks);
      }

      took-beside : AreBeside t (with_end side (record (end_at side p) { stack = y }) p)
      took-beside = one-beside s t p beside side (record (end_at side p) { stack = y }) (took-side (first_list side) (end_at side p) (beside side) side rule told told' taken y took) elsewhere

      took-state : state_in t (with_end side (record (end_at side p) { stack = y }) p) ≡ with_modules side took.rest (state_in s p)
      took-state =
          one-state s t p beside side (record (end_at side p) { stack = y }) (record (stream_in s (end_at side p)) { modules = took.rest })
          (took-stream (first_list side) (end_at side p) (beside side) side rule told told' taken y took) elsewhere
          ∙ ap (λ (x : Stream ℕ). with_stream side (record x { modules = took.rest }) (state_in s p)) (sym (stream-is s p side))

module _ (side : Side) (rule : Rule) (s : StoreValue) (p : Streams) (held : AreHeld s p) (told : Fates) where
  -- the module on top went, and these queues are enabled behind it
  pub top-went : (t : StoreValue) (q : Streams) (told' : Fates) (taken : Taken) (names : List QueueName) → q ≡ with_end side (record (end_at side p) { stack = (end_at side q).stack }) p
      → TookTop side rule s t (end_at side p).stack (end_at side q).stack told told' taken
      → names ≡ without_module side taken.name (noted side (place_of taken.name) (earlier_at side 1 (state_in s p)) taken.notes.items p.enabled)
      → WithoutTop side rule s t p (record q { enabled = names }) told told' (Some taken.name)
  top-went t q told' taken names same took are =
      let st = state_in s p in
      let y = (end_at side q).stack in
      let these : (stream side st).modules ≡ took.top ∷ took.rest = modules-are s p side ∙ took.was in
      let earlier = earlier_at side 1 st in
      let enabled : names ≡ without_module side (module_name took.top) (noted side (place_of (module_name took.top)) earlier (let_go_of side rule took.top).notes p.enabled) =
      are ∙ ap (λ n. without_module side n (noted side (place_of n) earlier taken.notes.items p.enabled)) took.name
      ∙ ap (λ (ns : List Note). without_module side (module_name took.top) (noted side (place_of (module_name took.top)) earlier ns p.enabled)) took.notes in
      record {
        name_is = ap (λ n. Some n) took.name ∙ sym (ap (λ ms. top_name module_name ms) these);
        leads = record {
          state =
              ap (λ (r : Streams). state_in t (record r { enabled = names })) same
              ∙ ap (λ (x : State ℕ). record x { enabled = names }) (took-state s t p held.beside rule told told' taken side y took)
              ∙ ap (λ (ns : List QueueName). record (with_modules side took.rest st) { enabled = ns }) enabled
              ∙ sym (ap (λ ms. (top_taken rule side ms st).state) these);
          tells = took.tells ∙ sym (ap (λ ms. tallied (top_taken rule side ms st).gone told) these);
          held = record {
            hand = took.hand.hand ∙ held.hand;
            beside = subst (AreBeside t) (sym same) (took-beside s t p held.beside rule told told' taken side y took);
          };
          pool = record { mblks = took.hand.mblks; dblks = took.hand.dblks };
        };
        frees = took.frees;
      }

-- no module stood there
pub none-went : (side : Side) (rule : Rule) (s t : StoreValue) (p q : Streams) (told told' : Fates) → AreHeld s p → q ≡ p
    → TookNone s t (end_at side p).stack (end_at side q).stack told told' → WithoutTop side rule s t p q told told' None
none-went side rule s t p q told told' held same took =
    let st = state_in s p in
    let none = modules-are s p side ∙ took.none in
    record {
      name_is = sym (ap (λ ms. top_name module_name ms) none);
      leads = record {
        state = ap (state_in t) same ∙ ap (λ v. state_in v p) took.store ∙ sym (ap (λ ms. (top_taken rule side ms st).state) none);
        tells = took.tells ∙ sym (ap (λ ms. tallied (top_taken rule side ms st).gone told) none);
        held = subst (λ v. AreHeld v q) (sym took.store) (subst (AreHeld s) (sym same) held);
        pool = record { mblks = ap (λ (v : StoreValue). v.mblks) took.store; dblks = ap (λ (v : StoreValue). v.dblks) took.store };
      };
      frees = record { mblks = omega (arith, ap free_m took.store); dblks = omega (arith, ap free_d took.store) };
    }

-- what all modules lead to that are taken off, by the one on top and the rest
abbrev after_top : Rule → Side → State ℕ → Carried ℕ (State ℕ)
after_top rule side s = top_taken rule side (stream side s).modules s

abbrev after_all : Rule → Side → State ℕ → Carried ℕ (State ℕ)
after_all rule side s = all_taken rule side (stream side s).modules s

abbrev joined : Rule → Side → List (Fate ℕ) → List (Standing ℕ) → State ℕ → Carried ℕ (State ℕ)
joined rule side gone ms s = record { state = (all_taken rule side ms s).state; gone = gone ++ (all_taken rule side ms s).gone }

rest-stands : (rule : Rule) (side : Side) (p : Standing ℕ) (ps : List (Standing ℕ)) (s : State ℕ) → (stream side (top_taken rule side (p ∷ ps) s).state).modules ≡ ps
rest-stands rule side p ps s = ap (λ (x : Stream ℕ). x.modules) (get-set-same side (record (stream side s) { modules = ps }) s.ends)

pub none-taken : (rule : Rule) (side : Side) (s : State ℕ) → length (stream side s).modules ≡ 0 → after_all rule side s ≡ record { state = s; gone = [] }
none-taken rule side s none = by (stream side s).modules none
  where
    by : (ms : List (Standing ℕ)) → length ms ≡ 0 → all_taken rule side ms s ≡ record { state = s; gone = [] }
    by [] none = refl
    by (p ∷ ps) none = absurd (omega (arith, none))

module _ (rule : Rule) (side : Side) (s t : State ℕ) (is : t ≡ (after_top rule side s).state) (n : ℕ) (many : suc n ≡ length (stream side s).modules) where
  pub one-less : length (stream side t).modules ≡ n
  one-less = by (stream side s).modules refl
    where
      by : (ms : List (Standing ℕ)) → (stream side s).modules ≡ ms → length (stream side t).modules ≡ n
      by [] none = absurd (omega (arith, many, ap (λ (ms : List (Standing ℕ)). length ms) none))
      by (p ∷ ps) these =
          let left : (stream side t).modules ≡ ps = ap (λ (x : State ℕ). (stream side x).modules) (is ∙ ap (λ ms. (top_taken rule side ms s).state) these) ∙ rest-stands rule side p ps s in
          omega (arith, many, ap (λ (ms : List (Standing ℕ)). length ms) these, ap (λ (ms : List (Standing ℕ)). length ms) left)

  pub all-by-one : after_all rule side s ≡ record { state = (after_all rule side t).state; gone = (after_top rule side s).gone ++ (after_all rule side t).gone }
  all-by-one = by (stream side s).modules refl
    where
      by : (ms : List (Standing ℕ)) → (stream side s).modules ≡ ms → after_all rule side s ≡ record { state = (after_all rule side t).state; gone = (after_top rule side s).gone ++ (after_all rule side t).gone }
      by [] none = absurd (omega (arith, many, ap (λ (ms : List (Standing ℕ)). length ms) none))
      by (p ∷ ps) these =
          let u = (top_taken rule side (p ∷ ps) s).state in
          let same : t ≡ u = is ∙ ap (λ ms. (top_taken rule side ms s).state) these in
          let left : (stream side t).modules ≡ ps = ap (λ (x : State ℕ). (stream side x).modules) same ∙ rest-stands rule side p ps s in
          ap (λ ms. all_taken rule side ms s) these
          ∙ ap (joined rule side (top_taken rule side (p ∷ ps) s).gone ps) (sym same)
          ∙ ap (λ ms. joined rule side (top_taken rule side (p ∷ ps) s).gone ms t) (sym left)
          ∙ ap (λ ms. joined rule side (top_taken rule side ms s).gone (stream side t).modules t) (sym these)
