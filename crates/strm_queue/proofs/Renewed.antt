-- A queue as new.
use Rattle.std.proofs.Common.{ℕ, ◌≡◌, ◌<◌, true, false, List, [], ◌∷◌, length, refl, sym, ap, subst, ◌∙◌}
use Rattle.std.specs.Prelude.{None, replicate}
use Rattle.strm_types.specs.Queue as plain
use Rattle.strm_blocks.specs.Blocks.{Block, StoreValue, list_at, placed}
use Rattle.strm_blocks.specs.Outcomes.{flushed}
use Rattle.strm_queue.specs.declared.queue.Queue.{Queue}
use Rattle.strm_queue.specs.Flows.{plain_flows}
use Rattle.strm_queue.specs.Kept.{AreCounted}
use Rattle.strm_queue.specs.Stored.{queue_in, Keeps}
use Rattle.strm_queue.proofs.Placed.{Landed, landed, keeps-landed}

-- a queue as new, on an empty list
pub fresh-queue : (s : StoreValue) (q : Queue) (high low : ℕ) → list_at s q.list ≡ [] → plain_flows q.flows ≡ replicate 256 (record { high = high; low = low; want_write = false }) → q.want_read ≡ true → q.no_enable ≡ false → queue_in s q ≡ plain.new_queue high low
fresh-queue s q high low empty flows want_read no_enable = rw (empty, flows, want_read, no_enable) refl

-- a flush of all leaves nothing
all-flushed : (q : List (List Block)) → flushed (record { all = true; band = None }) q ≡ []
all-flushed [] = refl
all-flushed (chain ∷ q) = all-flushed q

-- the store whose list was emptied
pub cleared : (s new : StoreValue) (k : ℕ) → k < length s.lists → new ≡ placed s k (flushed (record { all = true; band = None }) (list_at s k)) → Landed s new k []
cleared s new k within is =
    subst (λ v. Landed s v k []) (ap (λ q. placed s k q) (sym (all-flushed (list_at s k))) ∙ sym is) (landed s k [] within)

-- another queue on that list, as new
pub renewed-keeps : (s new : StoreValue) (q q' : Queue) → Landed s new q.list [] → q'.list ≡ q.list → AreCounted q'.flows [] → Keeps s new q q'
renewed-keeps s new q q' l list counted =
    keeps-landed s new q q' [] l (record { chains = tt; ordered = tt }) (λ test passes h. record { each = tt }) list (subst (AreCounted q'.flows) (sym (ap (list_at new) list ∙ l.here)) counted)
