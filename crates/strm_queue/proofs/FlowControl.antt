-- The kept flow control of a queue says what the plain one says.
use Rattle.std.proofs.Common.{ℕ, zero, suc, ◌≡◌, ◌<◌, ◌+◌, Bool, true, false, cond, List, [], ◌∷◌, length, refl, sym, ap, ◌∙◌, arith}
use Rattle.std.specs.Prelude.{◌&&◌, ◌||◌, nat_le, slice_index_or}
use Rattle.std.specs.List.{list_any}
use Rattle.strm_types.specs.Message.{Message}
use Rattle.strm_types.specs.Queue as plain
use Rattle.strm_blocks.specs.Blocks.{StoreValue, list_at}
use Rattle.strm_queue.specs.declared.flow.Flow.{Flow}
use Rattle.strm_queue.specs.declared.queue.Queue.{Queue}
use Rattle.strm_queue.specs.Flows as flows
use Rattle.strm_queue.specs.Flows.{plain_flow, plain_flows, count_in}
use Rattle.strm_queue.specs.Kept as kept
use Rattle.strm_queue.specs.Kept.{flow_at, AreCounted}
use Rattle.strm_queue.proofs.Counted.{count-kept}
use Rattle.strm_queue.specs.Stored.{queue_in, messages_on, IsReady}
use Rattle.strm_queue.proofs.Chains.{count-same}

-- the kept count of a band
pub counts : (s : StoreValue) (q : Queue) → IsReady s q → (band : ℕ) → band < 256 → count_in (flow_at band q.flows) ≡ plain.count_of band (messages_on s q.list)
counts s q ready band lt =
    count-kept band (flow_at band q.flows) (list_at s q.list) (ready.counted.each band lt) ∙ count-same band (list_at s q.list) ready.messages.chains

pub counts-from : (s : StoreValue) (q : Queue) → IsReady s q → (band : ℕ) → band < length q.flows → count_in (flow_at band q.flows) ≡ plain.count_of (0 + band) (messages_on s q.list)
counts-from s q ready band lt = counts s q ready band (omega (arith, ready.counted.eight)) ∙ ap (λ k. plain.count_of k (messages_on s q.list)) (let e : band ≡ 0 + band = omega arith in e)

high-of : (fs : List Flow) (band : ℕ) → band < length fs → (slice_index_or (plain_flows fs) band (record { high = 1; low = 0; want_write = false })).high ≡ (flow_at band fs).high
high-of [] band some = absurd (omega arith)
high-of (f ∷ fs) zero some = refl
high-of (f ∷ fs) (suc band) some = high-of fs band (omega arith)

-- whether a band is full
pub full-same : (s : StoreValue) (q : Queue) (band : ℕ) → IsReady s q → band < 256 → kept.is_full (flow_at band q.flows).high band (list_at s q.list) ≡ plain.is_full band (queue_in s q)
full-same s q band ready lt =
    ap (λ n. nat_le (flow_at band q.flows).high n) (count-same band (list_at s q.list) ready.messages.chains)
    ∙ ap (λ h. nat_le h (plain.count_of band (messages_on s q.list))) (sym (high-of q.flows band (omega (arith, ready.counted.eight))))

-- one band whose writer is let go where its count allows
let-go : Flow → Bool → plain.Flow
let-go f b = cond b (record (plain_flow f) { want_write = false }) (plain_flow f)

plain-relieved : (f : Flow) (b : Bool) → plain_flow (cond b (record f { want_write = false }) f) ≡ cond b (record (plain_flow f) { want_write = false }) (plain_flow f)
plain-relieved f true = refl
plain-relieved f false = refl

goes-at : (f : Flow) (n : ℕ) → count_in f ≡ n → flows.relieves f ≡ (f.want_write && nat_le n f.low)
goes-at f n is = ap (λ k. f.want_write && nat_le k f.low) is

module _ (messages : List (Message ℕ)) where
  pub relieved-each : (fs gs : List Flow) (band : ℕ) → length gs ≡ length fs → ((i : ℕ) → i < length fs → flow_at i gs ≡ flows.relieved (flow_at i fs))
      → ((i : ℕ) → i < length fs → count_in (flow_at i fs) ≡ plain.count_of (band + i) messages) → plain_flows gs ≡ plain.relieved_from band messages (plain_flows fs)
  relieved-each [] [] band long each count = refl
  relieved-each [] (g ∷ gs) band long each count = absurd (omega arith)
  relieved-each (f ∷ fs) [] band long each count = absurd (omega arith)
  relieved-each (f ∷ fs) (g ∷ gs) band long each count =
      let first : plain_flow g ≡ cond (f.want_write && nat_le (plain.count_of band messages) f.low) (record (plain_flow f) { want_write = false }) (plain_flow f) =
      ap plain_flow (each 0 (omega arith)) ∙ plain-relieved f (flows.relieves f)
      ∙ ap (λ b. cond b (record (plain_flow f) { want_write = false }) (plain_flow f)) (goes-at f (plain.count_of band messages) (count 0 (omega arith) ∙ ap (λ k. plain.count_of k messages) (let e : band + 0 ≡ band = omega arith in e))) in
      ap (λ x. x ∷ plain_flows gs) first
      ∙ ap (λ xs. cond (f.want_write && nat_le (plain.count_of band messages) f.low) (record (plain_flow f) { want_write = false }) (plain_flow f) ∷ xs)
      (relieved-each fs gs (suc band) (omega arith) (λ i lt. each (suc i) (omega arith)) (λ i lt. count (suc i) (omega arith) ∙ ap (λ k. plain.count_of k messages) (let e : band + suc i ≡ suc band + i = omega arith in e)))

  pub relieves-each : (fs : List Flow) (band : ℕ) → ((i : ℕ) → i < length fs → count_in (flow_at i fs) ≡ plain.count_of (band + i) messages)
      → list_any flows.relieves fs ≡ plain.relieves_from band messages (plain_flows fs)
  relieves-each [] band count = refl
  relieves-each (f ∷ fs) band count =
      let first : flows.relieves f ≡ (f.want_write && nat_le (plain.count_of band messages) f.low) =
      goes-at f (plain.count_of band messages) (count 0 (omega arith) ∙ ap (λ k. plain.count_of k messages) (let e : band + 0 ≡ band = omega arith in e)) in
      ap (λ x. x || list_any flows.relieves fs) first
      ∙ ap (λ x. (f.want_write && nat_le (plain.count_of band messages) f.low) || x)
      (relieves-each fs (suc band) (λ i lt. count (suc i) (omega arith) ∙ ap (λ k. plain.count_of k messages) (let e : band + suc i ≡ suc band + i = omega arith in e)))
