-- An ldterm that was made of a text, with its two queues.
use Rattle.strm_pair.proofs.Prelude.{ℕ, ◌≡◌, ◌<◌, ◌+◌, arith, ready-same}
use Rattle.strm_pair.specs.Prelude.{StoreValue, list_at, IsReady}
use Rattle.strm_queue.specs.declared.queue.Queue.{Queue}
use Rattle.strm_pair.specs.Standing.{Fills}

-- ---- its queues

module _ {s t u : StoreValue} {first : ℕ} {r w : Queue} (a : Fills s t first r) (b : Fills t u (first + 1) w) where
  read-list : list_at u r.list ≡ list_at t r.list
  read-list = b.others r.list (λ e. let f = a.list_is in absurd (omega (arith, e, f)))

  pub read-ready : IsReady u r
  read-ready = ready-same t u r read-list a.ready

  pub lists-apart : r.list < w.list
  lists-apart = omega (arith, a.list_is, b.list_is)
