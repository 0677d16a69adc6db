-- The streams stand for the same, and fit, where the lists of the store are the same.
use Rattle.std.specs.Prelude.{ℕ, ◌≡◌, ◌+◌, ◌≤◌, ◌<◌, List, [], slice_index_or}
use Rattle.std.proofs.Common.{refl, sym, ap, subst, ◌∙◌, arith}
use Rattle.std.specs.List.{AllByRecursion}
use Rattle.strm_pair.specs.Prelude.{Both, Side, Master, Slave, AreIdle, other, IsAtRest, State, StoreValue, in_hand, list_at, head_in, queue_in}
use Rattle.strm_pair.specs.Prelude.{HoldsReadable}
use Rattle.strm_types.proofs.BySide.{map-same}
use Rattle.strm_laws.specs.Stacked as plain
use Rattle.strm_laws.specs.State as state
use Rattle.strm_frame.specs.Hands.{SameFor}
use Rattle.strm_queue.proofs.Placed.{ready-same}
use Rattle.strm_pair.specs.declared.ends.StreamEnd.{StreamEnd}
use Rattle.strm_pair.specs.declared.streams.Streams.{Streams}
use Rattle.strm_pair.specs.Lists.{first_list}
use Rattle.strm_pair.specs.Pairs.{state_in, end_at, with_end, AreBeside, Stays, kept_by}
use Rattle.strm_pair.specs.Streams.{stream_in, AreFor, IsSide, AreApart}
use Rattle.strm_pair.specs.Stacks.{modules_in, IsStackHeld, stack_owns, stack_keeps}
use Rattle.strm_pair.specs.ModuleStacks.{stack-frame, stack-idle}

-- what is kept stays where all in hand does
pub still : (s t : StoreValue) (keeps : ℕ → ℕ) → t.hand ≡ s.hand → t.mblks ≡ s.mblks → t.dblks ≡ s.dblks → Stays s t keeps
still s t keeps hand mblks dblks = record { mblks = mblks; dblks = dblks; kept = λ i some. ap (λ h. in_hand (record s { hand = h }) i) hand }

-- a stream with these modules
abbrev pub stream_with : StoreValue → StreamEnd → List (plain.Standing ℕ) → state.Stream ℕ
stream_with s e modules = record {
  opened = e.opened;
  head = head_in s e.head;
  modules = modules;
  driver = record { queue = queue_in s e.driver };
}

-- a state by its streams
abbrev pub state_with : Streams → Both (state.Stream ℕ) → State ℕ
state_with p ends = record {
  ends = ends;
  locked = p.locked;
  enabled = p.enabled;
  next_ioctl = p.next_ioctl;
  books = p.books;
}

-- a stack that rests keeps nothing
none-kept : (s : StoreValue) (first : ℕ) (e : StreamEnd) → IsSide s first e → AllByRecursion (λ p. IsAtRest p) (modules_in s e.stack) → (i : ℕ) → stack_keeps e.stack i ≡ 0
none-kept s first e is idle i = stack-idle s e.stack is.stack idle i

pub rests : (s : StoreValue) (p : Streams) → AreBeside s p → AreIdle (state_in s p) → (i : ℕ) → kept_by p i ≡ 0
rests s p beside idle i = omega (arith, none-kept s 0 p.ends.master (beside Master) (idle Master) i, none-kept s 8 p.ends.slave (beside Slave) (idle Slave) i)

-- what the stack of a side keeps, and the other one's
pub kept-parts : (side : Side) (p : Streams) (i : ℕ) → kept_by p i ≡ stack_keeps (end_at side p).stack i + stack_keeps (end_at (other side) p).stack i
kept-parts Master p i = refl
kept-parts Slave p i = omega arith

pub kept-with : (side : Side) (e : StreamEnd) (p : Streams) (i : ℕ) → kept_by (with_end side e p) i ≡ stack_keeps e.stack i + stack_keeps (end_at (other side) p).stack i
kept-with Master e p i = refl
kept-with Slave e p i = omega arith

-- lists that are for a stack are so in a store where they are the same, and for one that has the same
pub for-on : (s t : StoreValue) (first : ℕ) (owns : ℕ → ℕ) → ((k : ℕ) → first ≤ k → k < first + 6 → list_at t k ≡ list_at s k) → AreFor s first owns → AreFor t first owns
for-on s t first owns same are = record { owned = are.owned; closed = are.closed; spare = λ k low high none. same k low high ∙ are.spare k low high none }

pub for-same : (s : StoreValue) (first : ℕ) (owned owns : ℕ → ℕ) → ((k : ℕ) → owns k ≡ owned k) → AreFor s first owned → AreFor s first owns
for-same s first owned owns same are = record {
  owned = λ k some. are.owned k (omega (arith, some, same k));
  closed = λ j k low le some. omega (arith, are.closed j k low le (omega (arith, some, same k)), same j);
  spare = λ k low high none. are.spare k low high (omega (arith, none, same k));
}

module _ (s t : StoreValue) where
  pub stays-at : (side : Side) (p : Streams) → Stays s t (kept_by p) → Stays s t (stack_keeps (end_at side p).stack)
  stays-at side p stays = record { mblks = stays.mblks; dblks = stays.dblks; kept = λ i some. stays.kept i (omega (arith, some, kept-parts side p i)) }

  -- a stack stands for the same, and fits, where its lists are the same and what it keeps is
  pub stack-same : (first : ℕ) (e : StreamEnd) → IsSide s first e → Stays s t (stack_keeps e.stack) → ((k : ℕ) → first + 2 ≤ k → k < first + 2 + 6 → list_at t k ≡ list_at s k) → (modules_in t e.stack ≡ modules_in s e.stack) × IsStackHeld t e.stack
  stack-same first e is stays same = stack-frame s t e.stack (record {
    lists = λ k some. let own = is.lists.owned k some in same k own.0 own.1;
    mblks = stays.mblks;
    dblks = stays.dblks;
    kept = stays.kept;
  }) is.stack

  module _ (same : t.lists ≡ s.lists) where
    at : (k : ℕ) → list_at t k ≡ list_at s k
    at k = ap (λ ls. slice_index_or ls k []) same

    side-fits : (first : ℕ) (e : StreamEnd) → IsSide s first e → Stays s t (stack_keeps e.stack) → IsSide t first e
    side-fits first e is stays = record {
      head_list = is.head_list;
      driver_list = is.driver_list;
      head = record { ready = ready-same s t e.head.queue (at e.head.queue.list) is.head.ready; readable = subst HoldsReadable (sym (at e.head.queue.list)) is.head.readable };
      driver = ready-same s t e.driver (at e.driver.list) is.driver;
      stack = (stack-same first e is stays (λ k low high. at k)).1;
      once = subst AreApart (sym (stack-same first e is stays (λ k low high. at k)).0) is.once;
      lists = for-on s t (first + 2) (stack_owns e.stack) (λ k low high. at k) is.lists;
    }

    side-same : (first : ℕ) (e : StreamEnd) → IsSide s first e → Stays s t (stack_keeps e.stack) → stream_in t e ≡ stream_in s e
    side-same first e is stays =
        ap (λ ls. stream_with (record s { lists = ls }) e (modules_in t e.stack)) same
        ∙ ap (stream_with s e) (stack-same first e is stays (λ k low high. at k)).0

    pub same-state : (p : Streams) → AreBeside s p → Stays s t (kept_by p) → state_in t p ≡ state_in s p
    same-state p beside stays =
        ap (state_with p) (map-same (stream_in t) (stream_in s) p.ends (λ side. side-same (first_list side) (end_at side p) (beside side) (stays-at side p stays)))

    pub same-beside : (p : Streams) → AreBeside s p → Stays s t (kept_by p) → AreBeside t p
    same-beside p beside stays = λ side. side-fits (first_list side) (end_at side p) (beside side) (stays-at side p stays)

pub streams-frame : (s t : StoreValue) (p : Streams) → SameFor s t (kept_by p) → AreBeside s p → (state_in t p ≡ state_in s p) × AreBeside t p
streams-frame s t p same beside =
    let stays : Stays s t (kept_by p) = record { mblks = same.mblks; dblks = same.dblks; kept = same.kept } in
    (same-state s t same.lists p beside stays, same-beside s t same.lists p beside stays)
