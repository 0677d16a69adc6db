-- The marks and the waiting writers of a queue's bands, through each change of its counts.
use Rattle.std.proofs.Common.{ℕ, zero, suc, ◌≡◌, ◌<◌, Bool, true, false, List, [], ◌∷◌, length, refl, ap, ◌∙◌, arith}
use Rattle.std.specs.Prelude.{slice_set, map}
use Rattle.strm_types.specs.Queue as plain
use Rattle.strm_queue.specs.declared.flow.Flow.{Flow}
use Rattle.strm_queue.specs.Flows.{plain_flow, plain_flows, added_to, removed_from, flushed_of, marked_with}
use Rattle.strm_queue.specs.Kept.{flow_at}

plain-added : (is_data : Bool) (bytes : ℕ) (f : Flow) → plain_flow (added_to is_data bytes f) ≡ plain_flow f
plain-added true bytes f = refl
plain-added false bytes f = refl

plain-removed : (is_data : Bool) (bytes : ℕ) (f : Flow) → plain_flow (removed_from is_data bytes f) ≡ plain_flow f
plain-removed true bytes f = refl
plain-removed false bytes f = refl

plain-flushed : (all : Bool) (f : Flow) → plain_flow (flushed_of all f) ≡ plain_flow f
plain-flushed true f = refl
plain-flushed false f = refl

-- another flow with the same marks in its place
plain-set : (flows : List Flow) (i : ℕ) (f : Flow) → plain_flow f ≡ plain_flow (flow_at i flows) → plain_flows (slice_set flows i f) ≡ plain_flows flows
plain-set [] i f same = refl
plain-set (x ∷ flows) zero f same = ap (λ y. y ∷ plain_flows flows) same
plain-set (x ∷ flows) (suc i) f same = ap (λ ys. plain_flow x ∷ ys) (plain-set flows i f same)

pub set-added : (flows : List Flow) (i : ℕ) (is_data : Bool) (bytes : ℕ) → plain_flows (slice_set flows i (added_to is_data bytes (flow_at i flows))) ≡ plain_flows flows
set-added flows i is_data bytes = plain-set flows i (added_to is_data bytes (flow_at i flows)) (plain-added is_data bytes (flow_at i flows))

pub set-removed : (flows : List Flow) (i : ℕ) (is_data : Bool) (bytes : ℕ) → plain_flows (slice_set flows i (removed_from is_data bytes (flow_at i flows))) ≡ plain_flows flows
set-removed flows i is_data bytes = plain-set flows i (removed_from is_data bytes (flow_at i flows)) (plain-removed is_data bytes (flow_at i flows))

pub set-flushed : (flows : List Flow) (i : ℕ) (all : Bool) → plain_flows (slice_set flows i (flushed_of all (flow_at i flows))) ≡ plain_flows flows
set-flushed flows i all = plain-set flows i (flushed_of all (flow_at i flows)) (plain-flushed all (flow_at i flows))

-- a flush of each band
pub all-flushed : (all : Bool) (fs gs : List Flow) → length gs ≡ length fs → ((band : ℕ) → band < length fs → flow_at band gs ≡ flushed_of all (flow_at band fs)) → plain_flows gs ≡ plain_flows fs
all-flushed all [] [] long each = refl
all-flushed all [] (g ∷ gs) long each = absurd (omega arith)
all-flushed all (f ∷ fs) [] long each = absurd (omega arith)
all-flushed all (f ∷ fs) (g ∷ gs) long each =
    ap (λ y. y ∷ plain_flows gs) (ap plain_flow (each 0 (omega arith)) ∙ plain-flushed all f)
    ∙ ap (λ ys. plain_flow f ∷ ys) (all-flushed all fs gs (omega arith) (λ band lt. each (suc band) (omega arith)))

-- other marks in each band
pub map-marked : (high low : ℕ) (fs : List Flow) → plain_flows (map (marked_with high low) fs) ≡ map (plain.with_marks high low) (plain_flows fs)
map-marked high low [] = refl
map-marked high low (f ∷ fs) = ap (λ ys. plain.with_marks high low (plain_flow f) ∷ ys) (map-marked high low fs)

-- a writer waits for a band
pub set-waits : (flows : List Flow) (i : ℕ) → plain_flows (slice_set flows i (record (flow_at i flows) { want_write = true })) ≡ plain.with_writer_at i (plain_flows flows)
set-waits [] i = refl
set-waits (x ∷ flows) zero = refl
set-waits (x ∷ flows) (suc i) = ap (λ ys. plain_flow x ∷ ys) (set-waits flows i)
