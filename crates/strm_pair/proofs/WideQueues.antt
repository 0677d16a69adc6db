-- What the queues of a pair have, as an image wants it: the flow control of each band, and few bytes.
use Rattle.strm_pair.proofs.Prelude.{ℕ, ◌≡◌, List, [], ◌∷◌, ◌++◌, length, length-append, map, ◌∙◌, arith, ◌*◌, sum_by, Option, None, Some, IfSome}
use Rattle.strm_pair.proofs.Prelude.{length-map, sum_by-cons, few-bytes}
use Rattle.strm_pair.specs.Prelude.{BANDS, Side, Master, Slave, Queue, bytes_of, stood, StoreValue, IsStore, list_at, GoodStream, Restorable}
use Rattle.strm_pair.specs.Prelude.{Standing, queues_of_modules, Stream, stream_queues, plain_flow, queue_in, IsReady, IsPairReady, standing}
use Rattle.std.specs.Prelude.{◌≤◌}
use Rattle.std.specs.List.{AllByRecursion}
use Rattle.strm_types.specs.Standings.{QueuePair}
use Rattle.strm_laws.specs.State.{queues_of}
use Rattle.strm_image.specs.HasImage.{AreBanded, bytes_in}
use Rattle.strm_queue.specs.declared.queue.Queue as kept
use Rattle.strm_queue.proofs.Sizes.{bytes-same}
use Rattle.strm_frame.specs.declared.queue_pair.QueuePair as pairs
use Rattle.strm_pair.specs.declared.ends.StreamEnd.{StreamEnd}
use Rattle.strm_pair.specs.declared.streams.Streams.{Streams}
use Rattle.strm_pair.specs.AnyModules.{AnyStanding, IsHeld, module_in}
use Rattle.strm_pair.specs.Pairs.{state_in, AreHeld}
use Rattle.strm_pair.specs.Stacks.{modules_in}
use Rattle.strm_pair.specs.Streams.{IsSide, stream_in}
use Rattle.strm_pair.proofs.Shown.{all-joined}

record IsWide (q : Queue ℕ) : Type 0 where
  banded : length q.flows ≡ BANDS
  bytes : bytes_of q.messages ≤ 16777216

-- what queues have together
wide-bytes : (qs : List (Queue ℕ)) → AllByRecursion IsWide qs → sum_by (λ (q : Queue ℕ). bytes_of q.messages) qs ≤ 16777216 * length qs
wide-bytes [] wide = omega arith
wide-bytes (q ∷ qs) wide = omega (arith, wide-bytes qs wide.1, wide.0.bytes, sum_by-cons (λ (p : Queue ℕ). bytes_of p.messages) q qs)

wide-banded : (qs : List (Queue ℕ)) → AllByRecursion IsWide qs → AllByRecursion (λ q. length q.flows ≡ BANDS) qs
wide-banded [] wide = tt
wide-banded (q ∷ qs) wide = (wide.0.banded, wide-banded qs wide.1)

-- a module has two queues at most, and a stream eight
two-each : (ps : List (Standing ℕ)) → length (queues_of_modules ps) ≤ 2 * length ps
two-each [] = omega arith
two-each (p ∷ ps) = by p.queues (two-each ps)
  where
    by : (queues : Option (QueuePair ℕ)) → length (queues_of_modules ps) ≤ 2 * length ps → length (queues_of_modules (stood p.part queues ∷ ps)) ≤ 2 * length (p ∷ ps)
    by None few = omega (arith, few)
    by (Some pair) few = omega (arith, few)

eight-queues : (side : Side) (t : Stream ℕ) → GoodStream side t → length (stream_queues t) ≤ 8
eight-queues side t good = omega (arith, length-append (queues_of_modules t.modules) (t.driver.queue ∷ []), two-each t.modules, good.modules.few)

module _ (s : StoreValue) (is : IsStore s) where
  ready-wide : (q : kept.Queue) → IsReady s q → IsWide (queue_in s q)
  ready-wide q ready = record {
    banded = length-map q.flows plain_flow ∙ ready.counted.eight;
    bytes = omega (arith, few-bytes s is q.list 0, bytes-same (list_at s q.list) ready.messages.chains);
  }

  modules-wide : (xs : List AnyStanding) → AllByRecursion (IsHeld s) xs → AllByRecursion IsWide (queues_of_modules (map (module_in s) xs))
  modules-wide [] held = tt
  modules-wide (x ∷ xs) held = by x.queues held.0.queues (modules-wide xs held.1)
    where
      by : (queues : Option pairs.QueuePair) → IfSome queues (IsPairReady s) → AllByRecursion IsWide (queues_of_modules (map (module_in s) xs))
          → AllByRecursion IsWide (queues_of_modules (map (module_in s) (standing x.module queues ∷ xs)))
      by None ready below = below
      by (Some pair) ready below = (ready-wide pair.read ready.read, (ready-wide pair.write ready.write, below))

  stream-wide : (first : ℕ) (e : StreamEnd) → IsSide s first e → AllByRecursion IsWide (stream_queues (stream_in s e))
  stream-wide first e side = (
    ready-wide e.head.queue side.head.ready,
    all-joined IsWide (queues_of_modules (modules_in s e.stack)) (queue_in s e.driver ∷ []) (modules-wide e.stack.modules.items side.stack.each) (ready-wide e.driver side.driver, tt),
  )

  module _ (p : Streams) (held : AreHeld s p) where
    state-wide : AllByRecursion IsWide (queues_of (state_in s p))
    state-wide = all-joined IsWide (stream_queues (stream_in s p.ends.master)) (stream_queues (stream_in s p.ends.slave))
        (stream-wide 0 p.ends.master (held.beside Master)) (stream-wide 8 p.ends.slave (held.beside Slave))

    pub state-banded : AreBanded (state_in s p)
    state-banded = wide-banded (queues_of (state_in s p)) state-wide

    -- sixteen queues have 256 MiB at most
    pub state-small : Restorable (state_in s p) → bytes_in (state_in s p) ≤ 268435456
    state-small good =
        let m = stream_queues (stream_in s p.ends.master) in
        let n = stream_queues (stream_in s p.ends.slave) in
        omega (
          arith,
          wide-bytes (m ++ n) state-wide,
          length-append m n,
          eight-queues Master (stream_in s p.ends.master) (good.streams Master),
          eight-queues Slave (stream_in s p.ends.slave) (good.streams Slave),
        )
