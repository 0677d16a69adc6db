-- What has a text of version 1 has one of version 2.
use Rattle.strm_image.proofs.Prelude.{◌≡◌, ◌∙◌, ℕ, zero, suc, ◌+◌, ◌-◌, ◌<◌, ◌≤◌, Bool, true, false, not, ◌&&◌, cond, eqb, ltb, leb, List, [], ◌∷◌}
use Rattle.strm_image.proofs.Prelude.{◌++◌, None, Some, length, refl, sym, ap, subst, arith, replicate, and_from, and_parts, eqb-true, eq-eqb, le-leb, lt-ltb}
use Rattle.strm_image.proofs.Prelude.{ltb-true, length-append}
use Rattle.strm_image.specs.Prelude.{BANDS, HIGH_PRIORITY_RANK, ModuleName, Flow, have_queues, module_name}
use Rattle.std.specs.Prelude.{slice_index_or}
use Rattle.std.proofs.lemmas.List.{length-replicate}
use Rattle.strm_image.specs.declared.versions.QueueKind.{QueueKind}
use Rattle.strm_image.specs.declared.versions.QueueKind.TheVariants as queues
use Rattle.strm_image.specs.declared.versions.Version.TheVariants.{First, Second}
use Rattle.strm_image.specs.declared.versions.TheConstants.{FIRST_BANDS}
use Rattle.strm_image.specs.Codes.{control_mode, flag, kind, module_kind, openness, read_mode, version}
use Rattle.strm_image.specs.Format.{Format, always, byte, bytes_of, chain, counted, fit_from, if_there, keep, made, only, tagged, times, u32, ◌then◌}
use Rattle.strm_image.specs.Image.{Imaged, account, are_balanced, are_quiet, are_there, body, enabled, image, imaged_of, imaged_parts, is_mark, is_number, mark, version_of, versioned}
use Rattle.strm_image.specs.Messages.{Parts, any, is_message, may_follow, message, message_behind, message_of, message_parts, messages, next_rank, part, parts_fit}
use Rattle.strm_image.specs.Modules.{are_few, has_name, kind_body, may_stand, module_below, module_body, module_format, modules, next_names, pair}
use Rattle.strm_image.specs.Modules.{pair_of, pair_parts, standing_of, standing_parts}
use Rattle.strm_image.specs.Queues.{behind_last, entries, few_flows, first_flow, first_ones, flags, flow, flow_parts, flows, is_listed, is_widened, list_out, listed, listed_behind, marks_fit, next_band, no_flow, queue, queue_of, queue_parts, same_flow, widened}
use Rattle.strm_image.specs.Streams.{head_bits, laid, laid_of, laid_parts, signals, slot}
use Rattle.strm_image.proofs.BandRows.{widened_is}

-- what fits one format fits another one
Later : {A : Type 0} → Format A → Format A → Type 0
Later {A = A} f g = (x : A) → f.fits x ≡ true → g.fits x ≡ true

module _ {A B : Type 0} where
  then_later : (f f' : Format A) (g g' : Format B) → Later f f' → Later g g' → Later (f then g) (f' then g')
  unfolding Later
  then_later f f' g g' p q x fits = let a = and_parts (f.fits x.0) (g.fits x.1) fits in and_from _ _ (p x.0 a.0) (q x.1 a.1)

  made_later : (shape : B → Bool) (to : A → B) (parts : B → A) (f g : Format A) → Later f g → Later (made shape to parts f) (made shape to parts g)
  unfolding Later
  made_later shape to parts f g p x fits = let a = and_parts (shape x) (f.fits (parts x)) fits in and_from _ _ a.0 (p (parts x) a.1)

  tagged_later : (tag : B → A) (tags tags' : Format A) (f g : A → Format B) → Later tags tags' → ((k : A) → Later (f k) (g k))
      → Later (tagged tag tags f) (tagged tag tags' g)
  unfolding Later
  tagged_later tag tags tags' f g q p x fits =
      let a = and_parts (tags.fits (tag x)) ((f (tag x)).fits x) fits in
      and_from _ _ (q (tag x) a.0) (p (tag x) x a.1)

module _ {A : Type 0} where
  same : (f : Format A) → Later f f
  unfolding Later
  same f x fits = fits

  only_later : (s t : A → Bool) (f g : Format A) → ((x : A) → s x ≡ true → t x ≡ true) → Later f g → Later (only s f) (only t g)
  unfolding Later
  only_later s t f g more p x fits = let a = and_parts (f.fits x) (s x) fits in and_from _ _ (p x a.0) (more x a.1)

  there_later : (there : Bool) (f g : Format A) → Later f g → Later (if_there there f) (if_there there g)
  unfolding Later
  there_later true f g p (Some x) fits = p x fits
  there_later true f g p None fits = absurd cc
  there_later false f g p None fits = refl
  there_later false f g p (Some x) fits = absurd cc

  counted_later : (count : Format ℕ) (f g : ℕ → Format (List A)) → ((n : ℕ) → Later (f n) (g n)) → Later (counted count f) (counted count g)
  unfolding Later
  counted_later count f g p xs fits = let a = and_parts (count.fits (length xs)) ((f (length xs)).fits xs) fits in and_from _ _ a.0 (p (length xs) xs a.1)

module _ {A S : Type 0} (next : A → S → S) (f g : S → Format A) (p : (s : S) → Later (f s) (g s)) where
  each_later : (s : S) (xs : List A) → fit_from next f s xs ≡ true → fit_from next g s xs ≡ true
  unfolding Later
  each_later s [] fits = refl
  each_later s (x ∷ xs) fits = let a = and_parts ((f s).fits x) (fit_from next f (next x s) xs) fits in and_from _ _ (p s x a.0) (each_later (next x s) xs a.1)

  chain_later : (s : S) (n : ℕ) → Later (chain next f s n) (chain next g s n)
  unfolding Later
  chain_later s n xs fits = let a = and_parts (eqb (length xs) n) (fit_from next f s xs) fits in and_from _ _ a.0 (each_later s xs a.1)

-- ---- messages

parts_later : (x : Parts) → parts_fit First x ≡ true → parts_fit Second x ≡ true
parts_later x fits =
    let a = and_parts _ _ fits in
    let b = and_parts (ltb x.1.0 FIRST_BANDS) _ a.0 in
    let low : x.1.0 < FIRST_BANDS = ltb-true _ _ b.0 in
    and_from _ _ (and_from _ _ (lt-ltb x.1.0 BANDS (omega (arith, low))) b.1) a.1

message_later : Later (message First) (message Second)
unfolding message
message_later =
    let fields = kind then (byte then (part then part)) in
    made_later is_message message_of message_parts (only (parts_fit First) fields) (only (parts_fit Second) fields) (only_later (parts_fit First) (parts_fit Second) fields fields parts_later (same fields))

messages_later : (at : QueueKind) → Later (messages First at) (messages Second at)
unfolding messages message_behind
messages_later at = counted_later u32 (chain next_rank (message_behind First at) HIGH_PRIORITY_RANK) (chain next_rank (message_behind Second at) HIGH_PRIORITY_RANK)
    (chain_later next_rank (message_behind First at) (message_behind Second at) (λ rank. only_later (may_follow at rank) (may_follow at rank) (message First) (message Second) (λ x e. e) message_later) HIGH_PRIORITY_RANK)

-- ---- the flow control of bands

-- each of these is that of a band
unfoldable pub AllFit : List Flow → Type 0
AllFit [] = Unit {0}
AllFit (f ∷ fs) = (flow.fits f ≡ true) × AllFit fs

fit_times : (fs : List Flow) → fit_from keep (always flow) tt fs ≡ true → AllFit fs
unfolding AllFit
fit_times [] fits = tt
fit_times (f ∷ fs) fits = let a = and_parts (flow.fits f) _ fits in (a.0, fit_times fs a.1)

fit_append : (fs gs : List Flow) → AllFit fs → AllFit gs → AllFit (fs ++ gs)
unfolding AllFit
fit_append [] gs a b = b
fit_append (f ∷ fs) gs a b = (a.0, fit_append fs gs a.1 b)

fit_replicate : (n : ℕ) (f : Flow) → flow.fits f ≡ true → AllFit (replicate n f)
unfolding AllFit
fit_replicate zero f fits = tt
fit_replicate (suc n) f fits = (fits, fit_replicate n f fits)

unwaited : (f : Flow) → flow.fits f ≡ true → flow.fits (record f { want_write = false }) ≡ true
unfolding flow flag
unwaited f fits =
    let a = and_parts ((u32 then (u32 then flag)).fits (flow_parts f)) (marks_fit (flow_parts f)) fits in
    let b = and_parts (u32.fits f.high) ((u32 then flag).fits (f.low, f.want_write)) a.0 in
    let c = and_parts (u32.fits f.low) (flag.fits f.want_write) b.1 in
    and_from ((u32 then (u32 then flag)).fits (f.high, (f.low, false))) (marks_fit (flow_parts f)) (and_from (u32.fits f.high) ((u32 then flag).fits (f.low, false)) b.0 (and_from (u32.fits f.low) (flag.fits false) c.0 refl)) a.1

fit_last : (fs : List Flow) (i : ℕ) → i < length fs → AllFit fs → flow.fits (record (slice_index_or fs i no_flow) { want_write = false }) ≡ true
unfolding AllFit
fit_last [] i lt all = absurd (omega (arith, lt))
fit_last (f ∷ fs) zero lt all = unwaited f all.0
fit_last (f ∷ fs) (suc i) lt all = fit_last fs i (omega (arith, lt)) all.1

one_fits : (first : Flow) (from i : ℕ) (f : Flow) → same_flow f first ≡ false → i < BANDS → from ≤ i → flow.fits f ≡ true → (listed_behind first from).fits (i, f) ≡ true
unfolding listed_behind
one_fits first from i f other lt le fits =
    let is : not (same_flow f first) ≡ true = rw other refl in
    and_from ((byte then flow).fits (i, f)) (is_listed first from (i, f)) (and_from (byte.fits i) (flow.fits f) (lt-ltb i 256 (omega (arith, lt))) fits)
    (and_from (leb from i && ltb i BANDS) (not (same_flow f first)) (and_from (leb from i) (ltb i BANDS) (le-leb from i le) (lt-ltb i BANDS lt)) is)

one_listed : (first : Flow) (i : ℕ) (f : Flow) (es : List (ℕ × Flow)) → i < BANDS → flow.fits f ≡ true → ((from : ℕ) → from ≤ suc i → fit_from next_band (listed_behind first) from es ≡ true)
    → (from : ℕ) → from ≤ i → fit_from next_band (listed_behind first) from (cond (same_flow f first) es ((i, f) ∷ es)) ≡ true
one_listed first i f es lt fits rest from le = at (same_flow f first) refl
  where
    at : (b : Bool) → same_flow f first ≡ b → fit_from next_band (listed_behind first) from (cond b es ((i, f) ∷ es)) ≡ true
    at true e = rest from (omega (arith, le))
    at false e = and_from ((listed_behind first from).fits (i, f)) (fit_from next_band (listed_behind first) (i + 1) es) (one_fits first from i f e lt le fits) (rest (i + 1) (omega arith))

-- what is listed fits, and is no longer than all bands
listed_fits : (first : Flow) (i : ℕ) (fs : List Flow) → i + length fs ≤ BANDS → AllFit fs → (from : ℕ) → from ≤ i → fit_from next_band (listed_behind first) from (listed first i fs) ≡ true
unfolding AllFit
listed_fits first i [] few all from le = refl
listed_fits first i (f ∷ fs) few all from le = one_listed first i f (listed first (suc i) fs) (omega (arith, few)) all.0 (λ k h. listed_fits first (suc i) fs (omega (arith, few)) all.1 k h) from le

no_longer : {A : Type 0} (b : Bool) (x : A) (xs : List A) (n : ℕ) → length xs ≤ n → length (cond b xs (x ∷ xs)) ≤ suc n
no_longer true x xs n le = omega (arith, le)
no_longer false x xs n le = omega (arith, le)

pub listed_few : (first : Flow) (i : ℕ) (fs : List Flow) → length (listed first i fs) ≤ length fs
listed_few first i [] = omega arith
listed_few first i (f ∷ fs) = no_longer (same_flow f first) (i, f) (listed first (suc i) fs) (length fs) (listed_few first (suc i) fs)

-- Version 2 has the flow control of all bands.
pub flows_fit : (at : QueueKind) (fs : List Flow) → length fs ≡ BANDS → AllFit fs → (flows Second at).fits fs ≡ true
unfolding flows
flows_fit at fs whole fits_all =
    let es = listed (first_flow at) 0 fs in
    let short : length es ≤ length fs = listed_few (first_flow at) 0 fs in
    and_from (eqb (length fs) BANDS) ((entries at).fits (list_out at fs)) (eq-eqb _ _ whole)
    (and_from (ltb (length es) 65536) (eqb (length es) (length es) && fit_from next_band (listed_behind (first_flow at)) 0 es) (lt-ltb (length es) 65536 (omega (arith, short, whole)))
    (and_from (eqb (length es) (length es)) (fit_from next_band (listed_behind (first_flow at)) 0 es) (eq-eqb (length es) (length es) refl) (listed_fits (first_flow at) 0 fs (omega (arith, whole)) fits_all 0 (omega arith))))

flows_later : (at : QueueKind) → Later (flows First at) (flows Second at)
unfolding Later flows few_flows
flows_later at fs fits =
    let a = and_parts (is_widened fs) ((times FIRST_BANDS flow).fits (first_ones fs)) fits in
    let b = and_parts (eqb (length (first_ones fs)) FIRST_BANDS) (fit_from keep (always flow) tt (first_ones fs)) a.1 in
    let all : fs ≡ widened (first_ones fs) = widened_is fs a.0 in
    let eight : length (first_ones fs) ≡ FIRST_BANDS = eqb-true _ _ b.0 in
    let each : AllFit (first_ones fs) = fit_times (first_ones fs) b.1 in
    let behind = replicate (BANDS - FIRST_BANDS) (behind_last (first_ones fs)) in
    let fit : AllFit (widened (first_ones fs)) = fit_append (first_ones fs) behind each (fit_replicate (BANDS - FIRST_BANDS) (behind_last (first_ones fs)) (fit_last (first_ones fs) (FIRST_BANDS - 1) (omega (arith, eight)) each)) in
    let long : length (widened (first_ones fs)) ≡ BANDS = omega (arith, length-append (first_ones fs) behind, length-replicate (BANDS - FIRST_BANDS) (behind_last (first_ones fs)), eight) in
    flows_fit at fs (ap length all ∙ long) (subst AllFit (sym all) fit)

queue_later : (at : QueueKind) → Later (queue First at) (queue Second at)
unfolding queue
queue_later at = made_later any queue_of queue_parts _ _ (then_later _ _ _ _ (same flags) (then_later _ _ _ _ (flows_later at) (messages_later at)))

-- ---- modules and streams

pair_later : Later (pair First) (pair Second)
unfolding pair
pair_later = made_later any pair_of pair_parts _ _ (then_later _ _ _ _ (queue_later queues.ModuleRead) (queue_later queues.ModuleWrite))

body_later : (name : ModuleName) → Later (module_body First name) (module_body Second name)
body_later name = made_later any standing_of standing_parts _ _ (then_later _ _ _ _ (same (kind_body name)) (there_later (have_queues name) (pair First) (pair Second) pair_later))

module_later : Later (module_format First) (module_format Second)
unfolding module_format
module_later =
    let tags = only_later (may_stand First) (may_stand Second) module_kind module_kind (λ name e. refl) (same module_kind) in
    tagged_later module_name (only (may_stand First) module_kind) (only (may_stand Second) module_kind) (module_body First) (module_body Second) tags
    body_later

modules_later : Later (modules First) (modules Second)
unfolding modules module_below
modules_later = counted_later (only are_few byte) (chain next_names (module_below First) []) (chain next_names (module_below Second) [])
    (chain_later next_names (module_below First) (module_below Second) (λ above. only_later (λ m. not (has_name (module_name m) above)) (λ m. not (has_name (module_name m) above)) (module_format First) (module_format Second) (λ x e. e) module_later) [])

laid_later : (is_slave : Bool) → Later (laid First is_slave) (laid Second is_slave)
unfolding laid
laid_later is_slave = made_later any laid_of laid_parts _ _
    (then_later _ _ _ _ (same read_mode) (then_later _ _ _ _ (same control_mode) (then_later _ _ _ _ (same (head_bits is_slave)) (then_later _ _ _ _ (same signals) (then_later _ _ _ _ (same slot) (then_later _ _ _ _ modules_later (then_later _ _ _ _ (queue_later queues.Head) (queue_later queues.Driver))))))))

state_later : Later (body First) (body Second)
unfolding body
state_later = only_later are_balanced are_balanced _ _ (λ x e. e) (only_later are_there are_there _ _ (λ x e. e) (only_later are_quiet are_quiet _ _ (λ x e. e) (made_later any imaged_of imaged_parts _ _
    (then_later _ _ _ _ (same openness) (then_later _ _ _ _ (same openness) (then_later _ _ _ _ (same flag) (then_later _ _ _ _ (same (only is_number u32)) (then_later _ _ _ _ (laid_later false) (then_later _ _ _ _ (laid_later true) (same (enabled then (account then account))))))))))))

pub image_later : (x : Imaged) → image.fits (First, x) ≡ true → image.fits (Second, x) ≡ true
unfolding image version Later
image_later x fits =
    let b = and_parts ((only is_mark (bytes_of 4)).fits mark) ((tagged version_of version versioned).fits (First, x)) fits in
    let c = and_parts (version.fits First) ((versioned First).fits (First, x)) b.1 in
    and_from ((only is_mark (bytes_of 4)).fits mark) ((tagged version_of version versioned).fits (Second, x)) b.0 (and_from (version.fits Second) ((versioned Second).fits (Second, x)) refl (state_later x c.1))
