-- The queues of both sides beside their store, where one of them changed.
use Rattle.strm_pair.proofs.Prelude.{ℕ, zero, suc, ◌≡◌, ◌≤◌, ◌<◌, ◌+◌, Bool, true, false, cond, List, [], ◌∷◌, map, refl, sym, ap, subst, ◌∙◌}
use Rattle.strm_pair.proofs.Prelude.{arith, replicate, slice_index_or, get-map, get-set-same, map-set, set-all, ready-same}
use Rattle.strm_pair.proofs.Prelude.{all-gone}
use Rattle.strm_pair.specs.Prelude.{LISTS, Openness, Side, Master, Slave, is_data_kind, of_all, emptied, none_goes, queue_behind, set, map_both, new_head}
use Rattle.strm_pair.specs.Prelude.{enable_some, other, is_none_left, before_driver, before_head, State, stream, with_stream, with_driver_queue}
use Rattle.strm_pair.specs.Prelude.{with_head_queue, Block, StoreValue, empty_store, list_at, message_of, Head, head_in, plain_slot, plain_flows}
use Rattle.strm_pair.specs.Prelude.{queue_in, HoldsReadable, IsHeadQueue, IsReady, Keeps, Changes, OnlyQueue}
use Rattle.strm_types.specs.declared.kinds.MsgKind.TheVariants as kinds
use Rattle.strm_types.specs.Heads as heads
use Rattle.strm_types.proofs.BySide.{get-set-other, set-same, side-and-other}
use Rattle.strm_types.specs.Queue as state
use Rattle.strm_laws.specs.Stacked as stacked
use Rattle.strm_laws.specs.State as streams
use Rattle.strm_queue.specs.declared.queue.Queue.{Queue}
use Rattle.strm_pair.specs.declared.ends.StreamEnd.{StreamEnd}
use Rattle.strm_pair.specs.declared.streams.Streams.{Streams}
use Rattle.strm_pair.specs.Framing.{for-on, state_with, stack-same, stays-at, still}
use Rattle.strm_pair.specs.Lists.{first_list}
use Rattle.strm_pair.specs.Streams.{stream_in, AreFor, IsBlank, IsSide, AreApart}
use Rattle.strm_pair.specs.Pairs.{state_in, end_at, with_end, AreBeside, AreHeld, Stays, kept_by}
use Rattle.strm_pair.specs.Renewed.{RenewsHead}
use Rattle.strm_pair.specs.Stacks.{modules_in, IsStackHeld, Stack, stack_owns, stack_keeps}

-- the driver of a side is ready, and so is the head
pub driver-ready : (s : StoreValue) (p : Streams) → AreBeside s p → (side : Side) → IsReady s (end_at side p).driver
driver-ready s p beside side = (beside side).driver

pub head-queue : (s : StoreValue) (p : Streams) → AreBeside s p → (side : Side) → IsHeadQueue s (end_at side p).head.queue
head-queue s p beside side = (beside side).head

pub stack-held : (s : StoreValue) (p : Streams) → AreBeside s p → (side : Side) → IsStackHeld s (end_at side p).stack
stack-held s p beside side = (beside side).stack

-- a list that stays has a message still, or none
none-map : {A B : Type 0} (f : A → B) (xs : List A) → is_none_left (map f xs) ≡ is_none_left xs
none-map f [] = refl
none-map f (x ∷ xs) = refl

pub none-left : (s t : StoreValue) (k : ℕ) → list_at t k ≡ list_at s k → is_none_left (map message_of (list_at s k)) ≡ is_none_left (list_at t k)
none-left s t k same = none-map message_of (list_at s k) ∙ ap is_none_left (sym same)

-- a store with nothing in it
pub no-list : (n k : ℕ) → slice_index_or (replicate {A = List (List Block)} n []) k [] ≡ []
no-list zero k = refl
no-list (suc n) zero = refl
no-list (suc n) (suc k) = no-list n k

pub blank : (mblks dblks : ℕ) → IsBlank (empty_store mblks dblks) 0 × IsBlank (empty_store mblks dblks) 8
blank mblks dblks = (record { head = refl; driver = refl; modules = λ k low high. no-list LISTS k }, record { head = refl; driver = refl; modules = λ k low high. no-list LISTS k })

-- where no module stands the six lists behind the head's and the driver's are for it
pub blank-for : (s : StoreValue) (first : ℕ) → IsBlank s first → (owns : ℕ → ℕ) → ((k : ℕ) → owns k ≡ 0) → AreFor s (first + 2) owns
blank-for s first blank owns none = record {
  owned = λ k some. absurd (omega (arith, some, none k));
  closed = λ j k low le some. absurd (omega (arith, some, none k));
  spare = λ k low high own. blank.modules k low (omega (arith, high));
}

-- what is kept or changed of one queue alone
pub only-kept : (s t : StoreValue) (q q' : Queue) → Keeps s t q q' → OnlyQueue s t q q'
only-kept s t q q' keeps = record { ready = keeps.ready; list = keeps.list; others = keeps.others }

pub only-changed : (s t : StoreValue) (q q' : Queue) → Changes s t q q' → OnlyQueue s t q q'
only-changed s t q q' changes = record { ready = changes.ready; list = changes.list; others = changes.others }

-- readers may read what is left of what they could
pub data-is : is_data_kind kinds.Data ≡ true
unfolding is_data_kind
data-is = refl

pub readable-kept : (s t : StoreValue) (q q' : Queue) → IsHeadQueue s q → Keeps s t q q' → HoldsReadable (list_at t q'.list)
readable-kept s t q q' is keeps = keeps.holds is_data_kind data-is is.readable

pub readable-none : (l : List (List Block)) → l ≡ [] → HoldsReadable l
readable-none l none = subst HoldsReadable (sym none) (record { each = tt })

-- a queue whose list stays
pub queue-same : (s t : StoreValue) (q : Queue) → list_at t q.list ≡ list_at s q.list → queue_in t q ≡ queue_in s q
queue-same s t q same = ap (λ l. record { messages = map message_of l; flows = plain_flows q.flows; want_read = q.want_read; no_enable = q.no_enable }) same

-- a stream by its two queues and its modules
abbrev pub stream_of : StreamEnd → state.Queue ℕ → List (stacked.Standing ℕ) → state.Queue ℕ → streams.Stream ℕ
stream_of e h ms d = record {
  opened = e.opened;
  head = record { queue = h; read_mode = e.head.read_mode; control_mode = e.head.control_mode; tostop = e.head.tostop; group = e.head.group; hung_up = e.head.hung_up; signals = e.head.signals; ioctl = plain_slot e.head.ioctl };
  modules = ms;
  driver = record { queue = d };
}

module _ (s t : StoreValue) (first : ℕ) (e : StreamEnd) (is : IsSide s first e) (stays : Stays s t (stack_keeps e.stack)) where
  -- all lists of the side stay
  abbrev Stay : Type 0
  Stay = (k : ℕ) → first ≤ k → k < first + 8 → list_at t k ≡ list_at s k

  head-at : Stay → list_at t e.head.queue.list ≡ list_at s e.head.queue.list
  head-at stay = stay e.head.queue.list (let l = is.head_list in omega arith) (let l = is.head_list in omega arith)

  driver-at : Stay → list_at t e.driver.list ≡ list_at s e.driver.list
  driver-at stay = stay e.driver.list (let l = is.driver_list in omega arith) (let l = is.driver_list in omega arith)

  -- so do those of the modules
  abbrev Beside : Type 0
  Beside = (k : ℕ) → first + 2 ≤ k → k < first + 2 + 6 → list_at t k ≡ list_at s k

  within : Stay → Beside
  within stay k low high = stay k (omega (arith, low)) (omega (arith, high))

  pub side-stays : Stay → IsSide t first e
  side-stays stay = record {
    head_list = is.head_list;
    driver_list = is.driver_list;
    head = record { ready = ready-same s t e.head.queue (head-at stay) is.head.ready; readable = subst HoldsReadable (sym (head-at stay)) is.head.readable };
    driver = ready-same s t e.driver (driver-at stay) is.driver;
    stack = (stack-same s t first e is stays (within stay)).1;
    once = subst AreApart (sym (stack-same s t first e is stays (within stay)).0) is.once;
    lists = for-on s t (first + 2) (stack_owns e.stack) (within stay) is.lists;
  }

  pub stream-stays : Stay → stream_in t e ≡ stream_in s e
  stream-stays stay =
      ap (λ h. stream_of e h (modules_in t e.stack) (queue_in t e.driver)) (queue-same s t e.head.queue (head-at stay))
      ∙ ap (λ ms. stream_of e (queue_in s e.head.queue) ms (queue_in t e.driver)) (stack-same s t first e is stays (within stay)).0
      ∙ ap (λ d. stream_of e (queue_in s e.head.queue) (modules_in s e.stack) d) (queue-same s t e.driver (driver-at stay))

  -- the driver's queue changed
  module _ (q : Queue) (only : OnlyQueue s t e.driver q) where
    head-beside : list_at t e.head.queue.list ≡ list_at s e.head.queue.list
    head-beside = only.others e.head.queue.list (λ eq. let a = is.head_list in let b = is.driver_list in absurd (omega arith))

    driver-apart : Beside
    driver-apart k low high = only.others k (λ eq. let a = is.driver_list in absurd (omega arith))

    driver-side : IsSide t first (record e { driver = q })
    driver-side = record {
      head_list = is.head_list;
      driver_list = only.list ∙ is.driver_list;
      head = record { ready = ready-same s t e.head.queue head-beside is.head.ready; readable = subst HoldsReadable (sym head-beside) is.head.readable };
      driver = only.ready;
      stack = (stack-same s t first e is stays driver-apart).1;
      once = subst AreApart (sym (stack-same s t first e is stays driver-apart).0) is.once;
      lists = for-on s t (first + 2) (stack_owns e.stack) driver-apart is.lists;
    }

    driver-stream : stream_in t (record e { driver = q }) ≡ with_driver_queue (queue_in t q) (stream_in s e)
    driver-stream =
        ap (λ h. stream_of e h (modules_in t e.stack) (queue_in t q)) (queue-same s t e.head.queue head-beside)
        ∙ ap (λ ms. stream_of e (queue_in s e.head.queue) ms (queue_in t q)) (stack-same s t first e is stays driver-apart).0

  -- the head changed
  module _ (h : Head) (only : OnlyQueue s t e.head.queue h.queue) where
    driver-beside : list_at t e.driver.list ≡ list_at s e.driver.list
    driver-beside = only.others e.driver.list (λ eq. let a = is.head_list in let b = is.driver_list in absurd (omega arith))

    head-apart : Beside
    head-apart k low high = only.others k (λ eq. let a = is.head_list in absurd (omega arith))

    head-side : HoldsReadable (list_at t h.queue.list) → IsSide t first (record e { head = h })
    head-side readable = record {
      head_list = only.list ∙ is.head_list;
      driver_list = is.driver_list;
      head = record { ready = only.ready; readable = readable };
      driver = ready-same s t e.driver driver-beside is.driver;
      stack = (stack-same s t first e is stays head-apart).1;
      once = subst AreApart (sym (stack-same s t first e is stays head-apart).0) is.once;
      lists = for-on s t (first + 2) (stack_owns e.stack) head-apart is.lists;
    }

    head-stream : stream_in t (record e { head = h }) ≡ record (stream_in s e) { head = head_in t h }
    head-stream =
        ap (λ d. record { opened = e.opened; head = head_in t h; modules = modules_in t e.stack; driver = record { queue = d } }) (queue-same s t e.driver driver-beside)
        ∙ ap (λ ms. record { opened = e.opened; head = head_in t h; modules = ms; driver = record { queue = queue_in s e.driver } }) (stack-same s t first e is stays head-apart).0

-- a stream that was closed has the same driver
as-side : (t : StoreValue) (first : ℕ) (e e' : StreamEnd) → e'.driver ≡ e.driver → e'.stack ≡ e.stack → IsSide t first (record e { head = e'.head }) → IsSide t first e'
as-side t first e e' same stays is = record {
  head_list = is.head_list;
  driver_list = ap (λ d. d.list) same ∙ is.driver_list;
  head = is.head;
  driver = subst (IsReady t) (sym same) is.driver;
  stack = subst (IsStackHeld t) (sym stays) is.stack;
  once = subst (λ x. AreApart (modules_in t x)) (sym stays) is.once;
  lists = subst (λ x. AreFor t (first + 2) (stack_owns x)) (sym stays) is.lists;
}

-- a queue from which all went has what readers may read
no-chain : (l : List (List Block)) → map message_of l ≡ [] → l ≡ []
no-chain [] none = refl
no-chain (chain ∷ l) none = absurd (cc)

pub readable-cleared : (t : StoreValue) (q : Queue) (old : state.Queue ℕ) → queue_in t q ≡ queue_behind of_all old → HoldsReadable (list_at t q.list)
readable-cleared t q old is = readable-none (list_at t q.list) (no-chain (list_at t q.list) (ap (λ (x : state.Queue ℕ). x.messages) is ∙ behind (none_goes of_all old)))
  where
    behind : (b : Bool) → (cond b (emptied of_all old) (state.relieved (emptied of_all old))).messages ≡ []
    behind true = all-gone old.messages
    behind false = all-gone old.messages

-- no list is of both sides
pub never-both : (side : Side) (k : ℕ) → first_list side ≤ k → k < first_list side + 8 → first_list (other side) ≤ k → k < first_list (other side) + 8 → ⊥
never-both Master k low high above below = omega (arith, high, above)
never-both Slave k low high above below = omega (arith, low, below)

-- the streams as the state has them
pub stream-is : (s : StoreValue) (p : Streams) (side : Side) → stream side (state_in s p) ≡ stream_in s (end_at side p)
stream-is s p side = get-map (stream_in s) side p.ends

pub modules-are : (s : StoreValue) (p : Streams) (side : Side) → (stream side (state_in s p)).modules
    ≡ modules_in s (end_at side p).stack
modules-are s p side = ap (λ (x : streams.Stream ℕ). x.modules) (stream-is s p side)

-- behind another stream of a side with the same stack the same modules stand there
pub modules-behind : (s : StoreValue) (p : Streams) (side : Side) (e : StreamEnd) → e.stack ≡ (end_at side p).stack → (stream side (state_in s (with_end side e p))).modules ≡ (stream side (state_in s p)).modules
modules-behind s p side e same =
    modules-are s (with_end side e p) side
    ∙ ap (λ (x : StreamEnd). modules_in s x.stack) (get-set-same side e p.ends)
    ∙ ap (modules_in s) same
    ∙ sym (modules-are s p side)

-- a stream that fits may stand on its side
pub held-with : (s : StoreValue) (p : Streams) (side : Side) (e : StreamEnd) → AreHeld s p → IsSide s (first_list side) e → AreHeld s (with_end side e p)
held-with s p side e held is = record { hand = held.hand; beside = set-all (λ sd x. IsSide s (first_list sd) x) side e p.ends is held.beside }

-- so does one whose head has the same queue
pub head-held : (s : StoreValue) (p : Streams) (side : Side) (r : StreamEnd) (h : Head) → r ≡ end_at side p → h.queue ≡ r.head.queue → AreHeld s p → AreHeld s (with_end side (record r { head = h }) p)
head-held s p side r h is same held =
    let fits : IsSide s (first_list side) r = subst (IsSide s (first_list side)) (sym is) (held.beside side) in
    held-with s p side (record r { head = h }) held (record {
      head_list = ap (λ q. q.list) same ∙ fits.head_list;
      driver_list = fits.driver_list;
      head = subst (IsHeadQueue s) (sym same) fits.head;
      driver = fits.driver;
      stack = fits.stack;
      once = fits.once;
      lists = fits.lists;
    })

-- a stream whose stack alone is another one
pub stack-there : (p : Streams) (side : Side) (r : StreamEnd) (y : Stack) → r ≡ end_at side p
    → let q = with_end side (record r { stack = y }) p in ((end_at side q).stack ≡ y) × (q ≡ with_end side (record (end_at side p) { stack = (end_at side q).stack }) p)
stack-there p side r y is =
    let there = ap (λ (e : StreamEnd). e.stack) (get-set-same side (record r { stack = y }) p.ends) in (
      there,
      ap (λ (e : StreamEnd). with_end side (record e { stack = y }) p) is ∙ ap (λ z. with_end side (record (end_at side p) { stack = z }) p)
          (sym there),
    )

-- a stream that is put where it stands
pub same-end : (side : Side) (p : Streams) → with_end side (end_at side p) p ≡ p
same-end Master p = refl
same-end Slave p = refl

-- a stream whose stack alone is another one, by the whole
pub end-there : (p : Streams) (side : Side) (r e : StreamEnd) → r ≡ end_at side p → e ≡ record r { stack = e.stack }
    → let q = with_end side e p in (end_at side q ≡ e) × (q ≡ with_end side (record (end_at side p) { stack = (end_at side q).stack }) p)
end-there p side r e is only =
    let there = get-set-same side e p.ends in (
      there,
      ap (λ x. with_end side x p) only ∙ ap (λ (x : StreamEnd). with_end side (record x { stack = e.stack }) p) is
          ∙ ap (λ (x : StreamEnd). with_end side (record (end_at side p) { stack = x.stack }) p) (sym there),
    )

-- the state with another stream of a side
pub set-state : (s : StoreValue) (p : Streams) (side : Side) (e : StreamEnd) → state_in s (with_end side e p) ≡ with_stream side (stream_in s e) (state_in s p)
set-state s p side e = ap (state_with p) (map-set (stream_in s) side e p.ends)

module _ (s t : StoreValue) (p : Streams) (beside : AreBeside s p) (side : Side) where
  -- the lists of the other side stay, and what its stack keeps
  pub record OtherStays : Type 0 where
    pub lists : (k : ℕ) → first_list (other side) ≤ k → k < first_list (other side) + 8 → list_at t k ≡ list_at s k
    pub keeps : Stays s t (stack_keeps (end_at (other side) p).stack)

  pub other-same : OtherStays → stream_in t (end_at (other side) p) ≡ stream_in s (end_at (other side) p)
  other-same stays = stream-stays s t (first_list (other side)) (end_at (other side) p) (beside (other side)) stays.keeps stays.lists

  -- one side changed
  pub one-beside : (e : StreamEnd) → IsSide t (first_list side) e → OtherStays → AreBeside t (with_end side e p)
  one-beside e is stays = side-and-other (λ sd x. IsSide t (first_list sd) x) side (set side e p.ends)
      (subst (IsSide t (first_list side)) (sym (get-set-same side e p.ends)) is)
      (subst (IsSide t (first_list (other side))) (sym (get-set-other side e p.ends)) (side-stays s t (first_list (other side)) (end_at (other side) p) (beside (other side)) stays.keeps stays.lists))

  pub one-state : (e : StreamEnd) (x : streams.Stream ℕ) → stream_in t e ≡ x → OtherStays → state_in t (with_end side e p) ≡ with_stream side x (state_in s p)
  one-state e x is stays = ap (state_with p)
      (map-set (stream_in t) side e p.ends
      ∙ ap (λ y. set side y (map_both (stream_in t) p.ends)) is
      ∙ set-same side x (map_both (stream_in t) p.ends) (map_both (stream_in s) p.ends) (get-map (stream_in t) (other side) p.ends ∙ other-same stays ∙ sym (get-map (stream_in s) (other side) p.ends)))

module _ (s t : StoreValue) (p : Streams) (beside : AreBeside s p) (stays : Stays s t (kept_by p)) where
  -- one queue of a side changed
  pub only-here : (side : Side) (q q' : Queue) → first_list side ≤ q.list → q.list < first_list side + 8 → OnlyQueue s t q q' → OtherStays s t p beside side
  only-here side q q' low high only = record {
    lists = λ k above below. only.others k (λ eq. never-both side k (omega (arith, eq, low)) (omega (arith, eq, high)) above below);
    keeps = stays-at s t (other side) p stays;
  }

  only-driver : (side : Side) (q : Queue) → OnlyQueue s t (end_at side p).driver q → OtherStays s t p beside side
  only-driver side q only = let l = (beside side).driver_list in only-here side (end_at side p).driver q (omega (arith, l)) (omega (arith, l)) only

  only-head : (side : Side) (h : Head) → OnlyQueue s t (end_at side p).head.queue h.queue → OtherStays s t p beside side
  only-head side h only = let l = (beside side).head_list in only-here side (end_at side p).head.queue h.queue (omega (arith, l)) (omega (arith, l)) only

  -- the queue of a side's driver changed
  pub driver-changed : (side : Side) (q : Queue) → OnlyQueue s t (end_at side p).driver q → AreBeside t (with_end side (record (end_at side p) { driver = q }) p)
  driver-changed side q only = one-beside s t p beside side (record (end_at side p) { driver = q })
      (driver-side s t (first_list side) (end_at side p) (beside side) (stays-at s t side p stays) q only) (only-driver side q only)

  pub driver-state : (side : Side) (q : Queue) → OnlyQueue s t (end_at side p).driver q
      → state_in t (with_end side (record (end_at side p) { driver = q }) p) ≡ with_stream side (with_driver_queue (queue_in t q) (stream side (state_in s p))) (state_in s p)
  driver-state side q only =
      one-state s t p beside side (record (end_at side p) { driver = q }) (with_driver_queue (queue_in t q) (stream_in s (end_at side p)))
      (driver-stream s t (first_list side) (end_at side p) (beside side) (stays-at s t side p stays) q only) (only-driver side q only)
      ∙ ap (λ x. with_stream side (with_driver_queue (queue_in t q) x) (state_in s p)) (sym (stream-is s p side))

  -- the head of a side changed
  pub head-changed : (side : Side) (h : Head) → OnlyQueue s t (end_at side p).head.queue h.queue → HoldsReadable (list_at t h.queue.list) → AreBeside t (with_end side (record (end_at side p) { head = h }) p)
  head-changed side h only readable = one-beside s t p beside side (record (end_at side p) { head = h })
      (head-side s t (first_list side) (end_at side p) (beside side) (stays-at s t side p stays) h only readable) (only-head side h only)

  pub head-state : (side : Side) (h : Head) → OnlyQueue s t (end_at side p).head.queue h.queue
      → state_in t (with_end side (record (end_at side p) { head = h }) p) ≡ with_stream side (record (stream side (state_in s p)) { head = head_in t h }) (state_in s p)
  head-state side h only =
      one-state s t p beside side (record (end_at side p) { head = h }) (record (stream_in s (end_at side p)) { head = head_in t h })
      (head-stream s t (first_list side) (end_at side p) (beside side) (stays-at s t side p stays) h only) (only-head side h only)
      ∙ ap (λ (x : streams.Stream ℕ). with_stream side (record x { head = head_in t h }) (state_in s p)) (sym (stream-is s p side))

-- the same while nobody is in a call
pub driver-held : (s t : StoreValue) (p : Streams) (side : Side) (q : Queue) → AreHeld s p → OnlyQueue s t (end_at side p).driver q → t.hand ≡ s.hand → t.mblks ≡ s.mblks → t.dblks ≡ s.dblks
    → AreHeld t (with_end side (record (end_at side p) { driver = q }) p)
driver-held s t p side q held only hand mblks dblks = record {
  hand = hand ∙ held.hand;
  beside = driver-changed s t p held.beside (still s t (kept_by p) hand mblks dblks) side q only;
}

-- the queue of a side's driver, as the state has it
pub driver-is : (s : StoreValue) (p : Streams) (side : Side) → (stream side (state_in s p)).driver.queue
    ≡ queue_in s (end_at side p).driver
driver-is s p side = ap (λ (x : streams.Stream ℕ). x.driver.queue) (stream-is s p side)

-- and its head
pub head-is : (s : StoreValue) (p : Streams) (side : Side) → (stream side (state_in s p)).head ≡ head_in s (end_at side p).head
head-is s p side = ap (λ (x : streams.Stream ℕ). x.head) (stream-is s p side)

-- a side whose head's queue was emptied, and whose driver stays
module _ (s t : StoreValue) (p : Streams) (e : StreamEnd) (beside : AreBeside s p) (side : Side) (openness : Openness) (renews : RenewsHead s t (end_at side p) e openness) where
  all-kept : Stays s t (kept_by p)
  all-kept = still s t (kept_by p) renews.keeps.hand renews.keeps.mblks renews.keeps.dblks

  only-renewed : OnlyQueue s t (end_at side p).head.queue e.head.queue
  only-renewed = only-kept s t (end_at side p).head.queue e.head.queue renews.keeps

  pub renewed-beside : AreBeside t (with_end side e p)
  renewed-beside =
      one-beside s t p beside side e
      (as-side t (first_list side) (end_at side p) e renews.driver renews.stack (head-side s t (first_list side) (end_at side p) (beside side) (stays-at s t side p all-kept) e.head only-renewed (readable-kept s t (end_at side p).head.queue e.head.queue (beside side).head renews.keeps)))
      (only-head s t p beside all-kept side e.head only-renewed)

  -- what it stands for: its head alone, and whether it was opened
  as-stream : stream_in t e ≡ record (stream_in t (record (end_at side p) { head = e.head })) { opened = e.opened }
  as-stream =
      ap (λ d. record { opened = e.opened; head = head_in t e.head; modules = modules_in t e.stack; driver = record { queue = queue_in t d } }) renews.driver
      ∙ ap (λ x. record { opened = e.opened; head = head_in t e.head; modules = modules_in t x; driver = record { queue = queue_in t (end_at side p).driver } }) renews.stack

  pub renewed-state : state_in t (with_end side e p) ≡ with_stream side (record (stream side (state_in s p)) { opened = openness; head = new_head }) (state_in s p)
  renewed-state =
      one-state s t p beside side e (record (stream_in s (end_at side p)) { opened = e.opened; head = head_in t e.head })
      (as-stream ∙ ap (λ (x : streams.Stream ℕ). record x { opened = e.opened }) (head-stream s t (first_list side) (end_at side p) (beside side) (stays-at s t side p all-kept) e.head only-renewed))
      (only-head s t p beside all-kept side e.head only-renewed)
      ∙ ap (λ (x : streams.Stream ℕ). with_stream side (record x { opened = e.opened; head = head_in t e.head }) (state_in s p)) (sym (stream-is s p side))
      ∙ ap (λ (o : Openness). with_stream side (record (stream side (state_in s p)) { opened = o; head = head_in t e.head }) (state_in s p)) renews.opened
      ∙ ap (λ (h : heads.Head ℕ). with_stream side (record (stream side (state_in s p)) { opened = openness; head = h }) (state_in s p)) renews.head

-- the queue of a side's head, or of its driver, once messages went from it, and a writer before it
module _ (s t : StoreValue) (p : Streams) (beside : AreBeside s p) (q q' : Queue) (plain : state.Queue ℕ) (goes goes' : Bool) (changes : Changes s t q q') where
  keeps-all : Stays s t (kept_by p)
  keeps-all = still s t (kept_by p) changes.hand changes.mblks changes.dblks

  pub head-went : (side : Side) → q ≡ (end_at side p).head.queue → queue_in t q' ≡ plain → goes ≡ goes'
      → let e = end_at side p in let st = state_in s p in
      record (state_in t (with_end side (record e { head = record e.head { queue = q' } }) p)) { enabled = enable_some goes (before_head side st) p.enabled }
      ≡ record (with_stream side (with_head_queue plain (stream side st)) st) { enabled = enable_some goes' (before_head side st) st.enabled }
  head-went side there is same =
      let e = end_at side p in
      let st = state_in s p in
      let only : OnlyQueue s t e.head.queue q' = subst (λ x. OnlyQueue s t x q') there (only-changed s t q q' changes) in
      ap (λ (v : State ℕ). record v { enabled = enable_some goes (before_head side st) p.enabled }) (head-state s t p beside keeps-all side (record e.head { queue = q' }) only)
      ∙ ap (λ (v : state.Queue ℕ). record (with_stream side (record (stream side st) { head = record (head_in s e.head) { queue = v } }) st) { enabled = enable_some goes (before_head side st) p.enabled }) is
      ∙ ap (λ (x : streams.Stream ℕ). record (with_stream side (record (stream side st) { head = record x.head { queue = plain } }) st) { enabled = enable_some goes (before_head side st) p.enabled }) (sym (stream-is s p side))
      ∙ ap (λ b. record (with_stream side (with_head_queue plain (stream side st)) st) { enabled = enable_some b (before_head side st) st.enabled }) same

  pub driver-went : (side : Side) → q ≡ (end_at side p).driver → queue_in t q' ≡ plain → goes ≡ goes'
      → let st = state_in s p in
      record (state_in t (with_end side (record (end_at side p) { driver = q' }) p)) { enabled = enable_some goes (before_driver side st) p.enabled }
      ≡ record (with_stream side (with_driver_queue plain (stream side st)) st) { enabled = enable_some goes' (before_driver side st) st.enabled }
  driver-went side there is same =
      let e = end_at side p in
      let st = state_in s p in
      let only : OnlyQueue s t e.driver q' = subst (λ x. OnlyQueue s t x q') there (only-changed s t q q' changes) in
      ap (λ (v : State ℕ). record v { enabled = enable_some goes (before_driver side st) p.enabled }) (driver-state s t p beside keeps-all side q' only)
      ∙ ap (λ (v : state.Queue ℕ). record (with_stream side (with_driver_queue v (stream side st)) st) { enabled = enable_some goes (before_driver side st) p.enabled }) is
      ∙ ap (λ b. record (with_stream side (with_driver_queue plain (stream side st)) st) { enabled = enable_some b (before_driver side st) p.enabled }) same
