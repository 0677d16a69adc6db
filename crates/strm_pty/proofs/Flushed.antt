-- What a driver does with an M_FLUSH, step by step.
use Rattle.strm_pty.proofs.Prelude.{ℕ, ◌≡◌, true, false, cond, List, [], ◌++◌, refl, sym, ap, subst, append-nil, ◌&&◌}
use Rattle.strm_pty.specs.Prelude.{FlushAsked, Side, Fates, Across, Note, Spot, reader_flush, bottom_across, StoreValue, Queue, queue_in, IsReady}
use Rattle.strm_pty.specs.Prelude.{Acts, Sent, sent_of}
use Rattle.strm_types.specs.Drivers.{own_flushed, freed, flush_down, flush_across, driver_across}
use Rattle.strm_types.specs.Queue as plain
use Rattle.strm_pty.specs.Does.{Does, Alters, Makes, Swaps}
use Rattle.strm_pty.proofs.Doing.{makes-both, flush-does}

-- a flush that comes across, in the form in which it is made
pub across-is : (side : Side) (across : Across) (asked : FlushAsked) (q : plain.Queue ℕ)
    → flush_across side across asked q ≡ record (cond asked.for_read (own_flushed side asked q) (freed q)) { sent = reader_flush (asked.for_read && across.is_open) asked (bottom_across side across) }
across-is side across asked q =
    elim asked.for_read as (λ v. cond v (record (own_flushed side asked q) { sent = reader_flush across.is_open asked (bottom_across side across) }) (freed q)
    ≡ record (cond v (own_flushed side asked q) (freed q)) { sent = reader_flush (v && across.is_open) asked (bottom_across side across) }) [ true ↦ refl | false ↦ refl ]

pub append-none : {X : Type 0} (a b : List X) → a ++ (b ++ []) ≡ a ++ b
append-none a b = ap (λ xs. a ++ xs) (append-nil b)

module _ (s t u : StoreValue) (q q' : Queue) (i : ℕ) (side : Side) (across : Across) (asked read : FlushAsked) (f f' : Fates) (notes : List Note) (a : List Sent) (acts : Acts)
    (ready : IsReady s q) (free : Swaps s t i 0 [] []) (same : asked ≡ read) (noted : acts.notes.items ≡ notes) where
  -- a flush that comes down: the own queue, the readers across, the driver across
  pub down-does : (v w : StoreValue) (b : List Sent) (to : Spot) → Alters t u q q' notes f f' (cond asked.for_write (own_flushed side asked (queue_in t q)) (freed (queue_in t q)))
      → Makes u v 1 a (reader_flush (asked.for_write && across.is_open) asked (bottom_across side across)) → Makes v w 1 b (reader_flush asked.for_read asked to) → to ≡ driver_across side across
      → sent_of acts.sent ≡ a ++ b → Does s w q q' i 2 acts f f' (flush_down side across read (queue_in s q))
  down-does v w b to alters first second place sent =
      let there = subst (λ x. Makes v w 1 b (reader_flush asked.for_read asked x)) place second in
      let both = makes-both u v w 1 1 a b (reader_flush (asked.for_write && across.is_open) asked (bottom_across side across)) (reader_flush asked.for_read asked (driver_across side across)) first there in
      subst (λ x. Does s w q q' i 2 acts f f' (flush_down side across x (queue_in s q))) same
      (flush-does s t u w q q' i 2 [] (a ++ b) (reader_flush (asked.for_write && across.is_open) asked (bottom_across side across) ++ reader_flush asked.for_read asked (driver_across side across)) notes f f'
      (λ p. cond asked.for_write (own_flushed side asked p) (freed p)) acts ready free refl alters both noted sent)

  -- one that comes across: the own queue, and the readers across
  pub across-does : (v : StoreValue) → Alters t u q q' notes f f' (cond asked.for_read (own_flushed side asked (queue_in t q)) (freed (queue_in t q)))
      → Makes u v 1 a (reader_flush (asked.for_read && across.is_open) asked (bottom_across side across)) → sent_of acts.sent ≡ a → Does s v q q' i 1 acts f f' (flush_across side across read (queue_in s q))
  across-does v alters first sent =
      subst (λ x. Does s v q q' i 1 acts f f' (flush_across side across x (queue_in s q))) same
      (subst (λ x. Does s v q q' i 1 acts f f' x) (sym (across-is side across asked (queue_in s q)))
      (flush-does s t u v q q' i 1 [] a (reader_flush (asked.for_read && across.is_open) asked (bottom_across side across)) notes f f'
      (λ p. cond asked.for_read (own_flushed side asked p) (freed p)) acts ready free refl alters first noted sent))
