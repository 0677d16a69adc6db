-- What the state of a pair shows of its store.
use Rattle.strm_pair.proofs.Prelude.{◌≡◌, ◌≤◌, ◌+◌, ℕ, List, [], ◌∷◌, ◌++◌, length, map, refl, sym, ap, ◌∙◌, arith, sum_by, length-map, sum_by-append}
use Rattle.strm_pair.proofs.Prelude.{sum_by-cons, free_m-is}
use Rattle.strm_pair.specs.Prelude.{Master, Slave, Message, Config, AreIdle, IsOrdered, Queue, AreOrdered, messages_in, stream_queues, IsAtRest}
use Rattle.strm_pair.specs.Prelude.{queues_of_modules, Block, StoreValue, IsStore, list_at, empty_store, used, message_of, messages_on, queue_in}
use Rattle.std.specs.List.{AllByRecursion}
use Rattle.strm_pair.specs.declared.ends.StreamEnd.{StreamEnd}
use Rattle.strm_pair.specs.declared.streams.Streams.{Streams}
use Rattle.strm_pair.specs.ModuleLists.{ordered-map}
use Rattle.strm_pair.specs.Pairs.{state_in, free_in, AreHeld}
use Rattle.strm_pair.specs.Pool.{IsPoolOf}
use Rattle.strm_pair.specs.Shows.{ShowsStream, pairs_of}
use Rattle.strm_pair.specs.Streams.{AreShown, IsSide, stream_in}
use Rattle.strm_pair.proofs.FreeBlocks.{IsBare, all-lists, side_sum, used-enough, bare-free_m, bare-free_d}
use Rattle.strm_pair.proofs.ModuleSums.{queues-sum, six-lists, three-pairs}
use Rattle.strm_pair.specs.Stacks.{modules_in}
use Rattle.strm_pair.specs.ModuleStacks.{stack-shows}

pub all-joined : {A : Type 0} (P : A → Type 0) (xs ys : List A) → AllByRecursion P xs → AllByRecursion P ys → AllByRecursion P (xs ++ ys)
all-joined P [] ys all more = more
all-joined P (x ∷ xs) ys all more = (all.0, all-joined P xs ys all.1 more)

-- what a side's lists show of its stream, while nothing of a turn is under way
module _ (s : StoreValue) (first : ℕ) (e : StreamEnd) (is : IsSide s first e) (idle : AllByRecursion (λ p. IsAtRest p) (modules_in s e.stack)) where
  pub modules-shown : AreShown s (first + 2) (modules_in s e.stack)
  modules-shown = stack-shows s e.stack (first + 2) is.stack idle is.lists

  pub stream-shown : ShowsStream s first (stream_in s e)
  stream-shown = record {
    head = ap (messages_on s) (sym is.head_list);
    driver = ap (messages_on s) (sym is.driver_list);
    modules = modules-shown.modules;
    others = λ k low high. ap (map message_of) (modules-shown.others k low (omega (arith, high)));
  }

  -- a number of each queue, summed over the lists
  pub stream-sum : (g : List (Message ℕ) → ℕ) → g [] ≡ 0
      → sum_by (λ (q : Queue ℕ). g q.messages) (stream_queues (stream_in s e)) ≡ side_sum (λ k. g (messages_on s k)) first
  stream-sum g none =
      let qs = queues_of_modules (modules_in s e.stack) in
      let h = queue_in s e.head.queue in
      let d = queue_in s e.driver in
      let f : ℕ → ℕ = λ k. g (messages_on s k) in
      let n = pairs_of (modules_in s e.stack) in
      omega (
        arith,
        sum_by-cons (λ (q : Queue ℕ). g q.messages) h (qs ++ d ∷ []),
        sum_by-append (λ (q : Queue ℕ). g q.messages) qs (d ∷ []),
        sum_by-cons (λ (q : Queue ℕ). g q.messages) d [],
        queues-sum s (first + 2) g (modules_in s e.stack) modules-shown.modules,
        three-pairs f (first + 2) n modules-shown.few (λ k low high. ap g (ap (map message_of) (modules-shown.others k low high)) ∙ none),
        six-lists f first,
        ap f is.head_list,
        ap f is.driver_list,
      )

  pub stream-ordered : AllByRecursion (λ q. IsOrdered q.messages) (stream_queues (stream_in s e))
  stream-ordered = (
    ordered-map (list_at s e.head.queue.list) is.head.ready.messages.ordered,
    all-joined (λ (q : Queue ℕ). IsOrdered q.messages) (queues_of_modules (modules_in s e.stack)) (queue_in s e.driver ∷ []) modules-shown.ordered
        (ordered-map (list_at s e.driver.list) is.driver.messages.ordered, tt),
  )

  pub stream-many : sum_by (λ (q : Queue ℕ). length q.messages) (stream_queues (stream_in s e)) ≡ side_sum (λ k. length (messages_on s k)) first
  stream-many = stream-sum (λ ms. length ms) refl

module _ (s : StoreValue) (p : Streams) (held : AreHeld s p) (idle : AreIdle (state_in s p)) where
  -- each queue is in order
  pub ordered : AreOrdered (state_in s p)
  ordered = all-joined (λ (q : Queue ℕ). IsOrdered q.messages) (stream_queues (stream_in s p.ends.master)) (stream_queues (stream_in s p.ends.slave))
      (stream-ordered s 0 p.ends.master (held.beside Master) (idle Master)) (stream-ordered s 8 p.ends.slave (held.beside Slave) (idle Slave))

  -- how many messages stand on the queues
  many : messages_in (state_in s p) ≡ side_sum (λ k. length (messages_on s k)) 0 + side_sum (λ k. length (messages_on s k)) 8
  many = omega (
    arith,
    sum_by-append (λ (q : Queue ℕ). length q.messages) (stream_queues (stream_in s p.ends.master)) (stream_queues (stream_in s p.ends.slave)),
    stream-many s 0 p.ends.master (held.beside Master) (idle Master),
    stream-many s 8 p.ends.slave (held.beside Slave) (idle Slave),
  )

  -- as many as there are chains on the lists
  chains : (first : ℕ) → side_sum (λ k. length (messages_on s k)) first ≡ side_sum (λ k. length (list_at s k)) first
  chains first =
      let one : (k : ℕ) → length (messages_on s k) ≡ length (list_at s k) = λ k. length-map (list_at s k) message_of in
      omega (
        arith,
        one first,
        one (first + 1),
        one (first + 2),
        one (first + 3),
        one (first + 4),
        one (first + 5),
        one (first + 6),
        one (first + 7),
      )

  pub in-use : IsStore s → messages_in (state_in s p) ≤ used s
  in-use is = omega (arith, used-enough s is, many, chains 0, chains 8)

  bare : IsStore s → messages_in (state_in s p) ≡ 0 → IsBare s
  bare is none = record {
    hand = held.hand;
    none = omega (arith, none, many, chains 0, chains 8, all-lists (λ (q : List (List Block)). length q) s is.eight);
  }

  pub free-shown : (limits : Config) → IsStore s → s.mblks ≡ limits.mblks → s.dblks ≡ limits.dblks → IsPoolOf (messages_in (state_in s p)) limits (free_in s)
  free-shown limits is mblks dblks = record {
    in_use = omega (arith, free_m-is s, in-use is, is.enough, mblks);
    all_free = λ none.
        let empty = bare is none in
        rw (bare-free_m s empty, bare-free_d s empty, mblks, dblks) refl;
  }

-- a store with nothing in it has all blocks free
pub free-empty : (mblks dblks : ℕ) → free_in (empty_store mblks dblks) ≡ record { mblks = mblks; dblks = dblks }
free-empty mblks dblks =
    let s = empty_store mblks dblks in
    let empty : IsBare s = record { hand = refl; none = refl } in
    rw (bare-free_m s empty, bare-free_d s empty) refl
