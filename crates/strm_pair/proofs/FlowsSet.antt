-- The flow control of a queue's bands, set one band after the other.
use Rattle.strm_pair.proofs.Prelude.{ℕ, zero, suc, ◌≡◌, ◌<◌, ◌≤◌, ◌+◌, ◌-◌, Bool, true, false, List, [], ◌∷◌, ◌++◌, length, take, map, refl, sym, ap}
use Rattle.strm_pair.proofs.Prelude.{◌∙◌, arith, is_some, nat_lt, replicate, slice_index_or, nat_tests, length-map, take_all}
use Rattle.strm_pair.specs.Prelude.{BANDS, plain_flow, plain_flows, QueueKind, First, Second, flow_now, read_flows, ◌>>=◌, behind_last, first_flow}
use Rattle.strm_pair.specs.Prelude.{values_read}
use Rattle.std.proofs.Common.{None, Some, get_or-set_other}
use Rattle.std.specs.Prelude.{slice_set}
use Rattle.std.proofs.lemmas.List.{get_or-replicate, get_or_past}
use Rattle.strm_types.specs.Queue as plain
use Rattle.strm_queue.specs.declared.flow.Flow as kept
use Rattle.strm_queue.specs.Flows.{marked_with}
use Rattle.strm_queue.specs.Kept.{flow_at}
use Rattle.strm_image.specs.declared.flows.Flow.{Flow}
use Rattle.strm_image.specs.declared.passed.FlowsText.{FlowsText}
use Rattle.strm_image.specs.declared.versions.QueueKind.TheVariants as queues
use Rattle.strm_image.specs.declared.versions.TheConstants.{FIRST_BANDS}
use Rattle.strm_image.specs.Format.{always, keep}
use Rattle.strm_image.specs.Queues.{few_flows, flow, widened}
use Rattle.strm_image.specs.Texts.{flows_now}
use Rattle.strm_image.proofs.Formats.{read_long}
use Rattle.strm_image.proofs.TextRows.{map_replicate}
use Rattle.strm_pair.specs.Standing.{no_flow, waits_at}

-- ---- one band

abbrev marks_of : ℕ → ℕ → Bool → plain.Flow
marks_of high low waits = record { high = high; low = low; want_write = waits }

pub marked-set : (fs : List kept.Flow) (band high low : ℕ) → waits_at band (plain_flows fs) ≡ false → plain_flows (slice_set fs band (marked_with high low (flow_at band fs))) ≡ slice_set (plain_flows fs) band (marks_of high low false)
marked-set [] band high low free = refl
marked-set (f ∷ fs) zero high low free = ap (λ waits. marks_of high low waits ∷ plain_flows fs) free
marked-set (f ∷ fs) (suc band) high low free = ap (λ xs. plain_flow f ∷ xs) (marked-set fs band high low free)

writer-set : (fs : List plain.Flow) (band : ℕ) (f : plain.Flow) → plain.with_writer_at band (slice_set fs band f) ≡ slice_set fs band (plain.with_writer f)
writer-set [] band f = refl
writer-set (x ∷ fs) zero f = refl
writer-set (x ∷ fs) (suc band) f = ap (λ xs. x ∷ xs) (writer-set fs band f)

module _ (fs gs : List kept.Flow) (band : ℕ) (f : Flow) (free : waits_at band (plain_flows fs) ≡ false) (marks : gs ≡ slice_set fs band (marked_with f.high f.low (flow_at band fs))) where
  pub set-free : f.want_write ≡ false → plain_flows gs ≡ slice_set (plain_flows fs) band (flow_now f)
  set-free none = ap plain_flows marks ∙ marked-set fs band f.high f.low free ∙ ap (λ waits. slice_set (plain_flows fs) band (marks_of f.high f.low waits)) (sym none)

  pub set-waiting : (hs : List kept.Flow) → f.want_write ≡ true → plain_flows hs ≡ plain.with_writer_at band (plain_flows gs) → plain_flows hs ≡ slice_set (plain_flows fs) band (flow_now f)
  set-waiting hs waits is =
      is ∙ ap (plain.with_writer_at band) (ap plain_flows marks ∙ marked-set fs band f.high f.low free)
      ∙ writer-set (plain_flows fs) band (marks_of f.high f.low false)
      ∙ ap (λ w. slice_set (plain_flows fs) band (marks_of f.high f.low w)) (sym waits)

-- ---- all bands

-- the first bands of one list, and behind them as many as are left of another value
abbrev pub so_far : {A : Type 0} → List A → A → ℕ → ℕ → List A
so_far xs first band left = take band xs ++ replicate left first

so-far-next : {A : Type 0} (xs : List A) (first d : A) (band left : ℕ) → band < length xs → slice_set (so_far xs first band (suc left)) band (slice_index_or xs band d) ≡ so_far xs first (suc band) left
so-far-next [] first d band left within = absurd (omega arith)
so-far-next (x ∷ xs) first d zero left within = refl
so-far-next (x ∷ xs) first d (suc band) left within = ap (λ ys. x ∷ ys) (so-far-next xs first d band left (omega arith))

so-far-at : {A : Type 0} (xs : List A) (first d : A) (band left : ℕ) → band < length xs → slice_index_or (so_far xs first band (suc left)) band d ≡ first
so-far-at [] first d band left within = absurd (omega arith)
so-far-at (x ∷ xs) first d zero left within = refl
so-far-at (x ∷ xs) first d (suc band) left within = so-far-at xs first d band left (omega arith)

flow-at : (fs : List Flow) (band : ℕ) (d : Flow) (e : plain.Flow) → band < length fs → flow_now (slice_index_or fs band d) ≡ slice_index_or (map flow_now fs) band e
flow-at [] band d e within = absurd (omega arith)
flow-at (f ∷ fs) zero d e within = refl
flow-at (f ∷ fs) (suc band) d e within = flow-at fs band d e (omega arith)

module _ (fs : List Flow) (first : plain.Flow) (none : first.want_write ≡ false) (gs : List plain.Flow) (band left : ℕ) (so : gs ≡ so_far (map flow_now fs) first band (suc left)) (within : band < length fs) where
  here : band < length (map flow_now fs)
  here = omega (arith, within, length-map fs flow_now)

  pub next-free : waits_at band gs ≡ false
  next-free = ap (waits_at band) so ∙ ap (λ (f : plain.Flow). f.want_write) (so-far-at (map flow_now fs) first no_flow band left here) ∙ none

  pub next-set : (hs : List plain.Flow) (d : Flow) → hs ≡ slice_set gs band (flow_now (slice_index_or fs band d)) → hs ≡ so_far (map flow_now fs) first (band + 1) left
  next-set hs d is =
      is ∙ ap (λ xs. slice_set xs band (flow_now (slice_index_or fs band d))) so
      ∙ ap (slice_set (so_far (map flow_now fs) first band (suc left)) band) (flow-at fs band d no_flow within)
      ∙ so-far-next (map flow_now fs) first no_flow band left here
      ∙ ap (λ k. so_far (map flow_now fs) first k left) (let e : suc band ≡ band + 1 = omega arith in e)

-- ---- as version 1 lists them

none-waits : (at : QueueKind) → (first_flow at).want_write ≡ false
none-waits queues.Head = refl
none-waits queues.ModuleRead = refl
none-waits queues.ModuleWrite = refl
none-waits queues.Driver = refl

-- all bands of a new queue with the marks of the last one of the first
pub all-marked : (at : QueueKind) (fs gs : List plain.Flow) (few : List Flow) (d : Flow) → fs ≡ replicate BANDS (first_flow at)
    → gs ≡ map (plain.with_marks (slice_index_or few (FIRST_BANDS - 1) d).high (slice_index_or few (FIRST_BANDS - 1) d).low) fs → length few ≡ FIRST_BANDS → gs ≡ replicate BANDS (behind_last (map flow_now few))
all-marked at fs gs few d new is long =
    let last = slice_index_or few (FIRST_BANDS - 1) d in
    is ∙ ap (map (plain.with_marks last.high last.low)) new ∙ map_replicate (plain.with_marks last.high last.low) BANDS (first_flow at)
    ∙ ap (λ waits. replicate BANDS (marks_of last.high last.low waits)) (none-waits at)
    ∙ ap (λ (f : plain.Flow). replicate BANDS (record f { want_write = false })) (flow-at few (FIRST_BANDS - 1) d no_flow (omega (arith, long)))

pub few-long : (few : List Flow) (bytes rest : List ℕ) → few_flows.read bytes ≡ Some (map flow_now few, rest) → length few ≡ FIRST_BANDS
unfolding few_flows
few-long few bytes rest read = omega (arith, read_long keep (always flow) tt FIRST_BANDS bytes (map flow_now few, rest) read, length-map few flow_now)

module _ (text : FlowsText) (is : text.version ≡ First) where
  pub few-there : few_flows.read text.text.now ≡ None → ⊥
  few-there none =
      let e : is_some (read_flows First text.queue text.count text.text.now) ≡ true = ap (λ v. is_some (read_flows v text.queue text.count text.text.now)) (sym is) ∙ text.there in
      let n : is_some (read_flows First text.queue text.count text.text.now) ≡ false = rw none refl in
      absurd (let f = sym n ∙ e in cc)

  pub few-set : (few : List Flow) (rest : List ℕ) (gs : List plain.Flow) (band left : ℕ) → few_flows.read text.text.now ≡ Some (map flow_now few, rest) → length few ≡ FIRST_BANDS
      → gs ≡ so_far (map flow_now few) (behind_last (map flow_now few)) band left → band ≡ FIRST_BANDS → left ≡ BANDS - FIRST_BANDS → gs ≡ flows_now text
  few-set few rest gs band left read long so whole behind =
      let all : take band (map flow_now few) ≡ map flow_now few = take_all band (map flow_now few) (omega (arith, whole, long, length-map few flow_now)) in
      so ∙ ap (λ fs. fs ++ replicate left (behind_last (map flow_now few))) all
      ∙ ap (λ n. map flow_now few ++ replicate n (behind_last (map flow_now few))) behind
      ∙ ap (λ o. values_read (o >>= λ x. Some (widened x.0, x.1))) (sym read)
      ∙ ap (λ v. values_read (read_flows v text.queue text.count text.text.now)) (sym is)

-- ---- as version 2 lists them

-- no writer waits from a band on
abbrev pub AreFree : ℕ → List plain.Flow → Type 0
AreFree from fs = (band : ℕ) → from ≤ band → waits_at band fs ≡ false

pub new-free : (at : QueueKind) (fs : List plain.Flow) → fs ≡ replicate BANDS (first_flow at) → AreFree 0 fs
new-free at fs new = λ band from. ap (waits_at band) new ∙ by band (nat_lt band BANDS) refl
  where
    by : (band : ℕ) (b : Bool) → nat_lt band BANDS ≡ b → waits_at band (replicate BANDS (first_flow at)) ≡ false
    by band true within = ap (λ (f : plain.Flow). f.want_write) (get_or-replicate BANDS band (first_flow at) no_flow (grind (arith, nat_tests))) ∙ none-waits at
    by band false past = ap (λ (f : plain.Flow). f.want_write) (get_or_past (replicate BANDS (first_flow at)) band no_flow (grind (arith, nat_tests)))

pub next-free-from : (from band : ℕ) (fs : List plain.Flow) (f : plain.Flow) → from ≤ band → AreFree from fs → AreFree (band + 1) (slice_set fs band f)
next-free-from from band fs f le free = λ k up. ap (λ (g : plain.Flow). g.want_write) (get_or-set_other fs band k f no_flow (λ e. omega (arith, e, up))) ∙ free k (omega (arith, le, up))

module _ (text : FlowsText) (is : text.version ≡ Second) where
  pub listed-there : read_flows Second text.queue text.count text.text.now ≡ None → ⊥
  listed-there none =
      let e : is_some (read_flows Second text.queue text.count text.text.now) ≡ true = ap (λ v. is_some (read_flows v text.queue text.count text.text.now)) (sym is) ∙ text.there in
      absurd (let f = ap is_some (sym none) ∙ e in cc)

  pub listed-set : (fs : List plain.Flow) (rest : List ℕ) → read_flows Second text.queue text.count text.text.now ≡ Some (fs, rest) → fs ≡ flows_now text
  listed-set fs rest told = ap (λ o. values_read o) (sym told) ∙ ap (λ v. values_read (read_flows v text.queue text.count text.text.now)) (sym is)
