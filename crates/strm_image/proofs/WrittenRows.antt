-- The texts of the formats in pieces, as writers put them.
use Rattle.strm_image.proofs.Prelude.{◌≡◌, ◌∙◌, ℕ, suc, ◌+◌, ◌<◌, Bool, true, false, cond, List, [], ◌∷◌, ◌++◌, length, drop, get_or, Option, None, Some, refl, sym, ap}
use Rattle.strm_image.proofs.Prelude.{arith, append_assoc, append-nil, flat_map-cons}
use Rattle.strm_image.specs.Prelude.{BANDS, QueueName, Marks, Discipline, Message, Own, Ptem, Flow, Queue, QueuePair, OfOwn, OfPtem, OfPckt}
use Rattle.strm_image.specs.Prelude.{Standing, ldterm_stands, stood}
use Rattle.std.specs.List.{flat_map}
use Rattle.std.proofs.Math.Seq.{drop-cons}
use Rattle.std.proofs.lemmas.List.{drop_all}
use Rattle.strm_types.specs.declared.names.ModuleName.TheVariants as names
use Rattle.strm_types.specs.Pckts.{Pckt}
use Rattle.strm_image.specs.declared.versions.QueueKind.{QueueKind}
use Rattle.strm_image.specs.declared.versions.Version.TheVariants.{Second}
use Rattle.strm_image.specs.Codes.{module_kind, version}
use Rattle.strm_image.specs.Format.{always, byte, keep, u32, u64, ◌then◌}
use Rattle.strm_image.specs.Image.{Imaged, body, enabled, enabled_behind, image, next_enabled, queue_name, rule_counts}
use Rattle.strm_image.specs.Messages.{message, message_behind, messages, next_rank}
use Rattle.strm_image.specs.Modules.{alone, ldterm, module_below, module_format, modules, next_names, pair, ptem, settings}
use Rattle.strm_image.specs.Queues.{flow, listed, no_flow, queue, same_flow, IsNoneFrom, RestAbove}
use Rattle.strm_image.specs.Sinks.{Given, put}
use Rattle.strm_image.specs.Streams.{Laid, laid}
use Rattle.strm_image.specs.Written.{image_text, laid_text, ldterm_text, pair_text, queue_text}
use Rattle.strm_image.proofs.BandRows.{same_flow_is, same_flow_refl}
use Rattle.strm_image.proofs.Formats.{text_flat}
use Rattle.strm_image.proofs.SinkRows.{put_both, put_nothing}

-- the bands that are listed from one up
pub listed_step : (first : Flow) (i : ℕ) (fs : List Flow) (d : Flow) → i < length fs
    → listed first i (drop i fs) ≡ cond (same_flow (get_or fs i d) first) (listed first (i + 1) (drop (i + 1) fs)) ((i, get_or fs i d) ∷ listed first (i + 1) (drop (i + 1) fs))
listed_step first i fs d lt = let e : i + 1 ≡ suc i = omega arith in rw (e, drop-cons fs i d lt) refl

-- the text of those from one up
abbrev pub rest_text : Flow → ℕ → List Flow → List ℕ
rest_text first i fs = flat_map (byte then flow).text (listed first i (drop i fs))

pub listed_put : (first own : Flow) (i : ℕ) (fs : List Flow) (now : Given) → i < length fs → own ≡ get_or fs i no_flow → same_flow own first ≡ false
    → put (rest_text first (i + 1) fs) (put (flow.text own) (put (byte.text i) now)) ≡ put (rest_text first i fs) now
listed_put first own i fs now lt is other =
    let here : same_flow (get_or fs i no_flow) first ≡ false = ap (λ f. same_flow f first) (sym is) ∙ other in
    let step : listed first i (drop i fs) ≡ (i, get_or fs i no_flow) ∷ listed first (i + 1) (drop (i + 1) fs) = listed_step first i fs no_flow lt ∙ rw here refl in
    let text : rest_text first i fs ≡ (byte.text i ++ flow.text own) ++ rest_text first (i + 1) fs =
    ap (flat_map (byte then flow).text) (step ∙ ap (λ f. (i, f) ∷ listed first (i + 1) (drop (i + 1) fs)) (sym is)) ∙ flat_map-cons (byte then flow).text (i, own) (listed first (i + 1) (drop (i + 1) fs)) in
    ap (λ g. put (rest_text first (i + 1) fs) g) (put_both (byte.text i) (flow.text own) now)
    ∙ (put_both (byte.text i ++ flow.text own) (rest_text first (i + 1) fs) now ∙ ap (λ t. put t now) (sym text))

pub listed_skip : (first own : Flow) (i : ℕ) (fs : List Flow) (now : Given) → i < length fs → own ≡ get_or fs i no_flow → same_flow own first ≡ true
    → put (rest_text first (i + 1) fs) now ≡ put (rest_text first i fs) now
listed_skip first own i fs now lt is same =
    let here : same_flow (get_or fs i no_flow) first ≡ true = ap (λ f. same_flow f first) (sym is) ∙ same in
    let step : listed first i (drop i fs) ≡ listed first (i + 1) (drop (i + 1) fs) = listed_step first i fs no_flow lt ∙ rw here refl in
    ap (λ es. put (flat_map (byte then flow).text es) now) (sym step)

pub listed_all : (first : Flow) (i : ℕ) (fs : List Flow) (now : Given) → listed first i (drop i fs) ≡ [] → now ≡ put (rest_text first i fs) now
listed_all first i fs now none = rw none (sym (put_nothing now))

-- None is listed from one on where all are as at first, or where there are no more.
none_listed : (first : Flow) (i : ℕ) (fs : List Flow) → ((k : ℕ) → k < length fs → get_or fs k no_flow ≡ first) → listed first i fs ≡ []
none_listed first i [] same = refl
none_listed first i (f ∷ fs) same =
    let here : same_flow f first ≡ true = ap (λ g. same_flow g first) (same 0 (omega arith)) ∙ same_flow_refl first in
    rw here (none_listed first (suc i) fs (λ k lt. same (suc k) (omega (arith, lt))))

pub rests_listed : (marks : Marks) (first : Flow) (fs : List Flow) → length fs ≡ BANDS → RestAbove marks fs → same_flow (record { high = marks.high; low = marks.low; want_write = false }) first ≡ true → IsNoneFrom first 1 fs
rests_listed marks first [] long rest same = absurd (omega (arith, long))
rests_listed marks first (f ∷ fs) long rest same = none_listed first 1 fs (λ k lt. rest (suc k) (omega arith) (omega (arith, lt, long)) ∙ same_flow_is _ first same)

pub past_listed : (first : Flow) (fs : List Flow) → length fs ≡ BANDS → IsNoneFrom first BANDS fs
past_listed first fs long = ap (listed first BANDS) (drop_all BANDS fs (omega (arith, long)))

-- all are listed that are, up to there
pub listed_end : (first : Flow) (i end : ℕ) (fs : List Flow) → IsNoneFrom first end fs → i ≡ end → listed first i (drop i fs) ≡ []
listed_end first i end fs none is = ap (λ k. listed first k (drop k fs)) is ∙ none

-- ---- lists

pub enabled_told : (ns : List QueueName) → enabled.text ns ≡ byte.text (length ns) ++ flat_map queue_name.text ns
unfolding enabled enabled_behind
enabled_told ns = ap (λ t. byte.text (length ns) ++ t) (text_flat next_enabled enabled_behind queue_name.text (λ s x. refl) [] ns)

pub rule_counts_told : (ns : List ℕ) → rule_counts.text ns ≡ flat_map u64.text ns
unfolding rule_counts
rule_counts_told ns = text_flat keep (always u64) u64.text (λ s x. refl) tt ns

pub messages_told : (at : QueueKind) (ms : List (Message ℕ)) → (messages Second at).text ms ≡ u32.text (length ms) ++ flat_map (message Second).text ms
unfolding messages message_behind
messages_told at ms = ap (λ t. u32.text (length ms) ++ t) (text_flat next_rank (message_behind Second at) (message Second).text (λ s x. refl) _ ms)

pub modules_told : (ms : List (Standing ℕ)) → (modules Second).text ms ≡ byte.text (length ms) ++ flat_map (module_format Second).text ms
unfolding modules module_below
modules_told ms = ap (λ t. byte.text (length ms) ++ t) (text_flat next_names (module_below Second) (module_format Second).text (λ s x. refl) [] ms)

-- ---- what stands where

pub queue_told : (at : QueueKind) (q : Queue ℕ) → (queue Second at).text q ≡ queue_text at q
unfolding queue
queue_told at q = refl

pub ldterm_told : (l : Discipline ℕ) → (module_format Second).text (ldterm_stands l) ≡ ldterm_text l
unfolding module_format ldterm pair
ldterm_told l = simp append_assoc refl

pub ptem_told : (p : Ptem) → (module_format Second).text (alone (OfPtem p)) ≡ module_kind.text names.Ptem ++ ptem.text p
unfolding module_format
ptem_told p = ap (λ t. module_kind.text names.Ptem ++ t) (append-nil (ptem.text p))

pub pckt_told : (p : Pckt) → (module_format Second).text (alone (OfPckt p)) ≡ module_kind.text names.Pckt
unfolding module_format
pckt_told p = append-nil (module_kind.text names.Pckt)

pub own_told : (o : Own) (queues : Option (QueuePair ℕ)) → (module_format Second).text (stood (OfOwn o) queues)
    ≡ module_kind.text (names.Own o.number) ++ (settings.text o.settings ++ pair_text queues)
unfolding module_format pair
own_told o None = refl
own_told o (Some both) = refl

pub laid_told : (is_slave : Bool) (t : Laid) → (laid Second is_slave).text t ≡ laid_text is_slave t
unfolding laid
laid_told is_slave t = simp append_assoc refl

pub image_told : (x : Imaged) → image.text (Second, x) ≡ image_text x
unfolding image body version
image_told x = simp append_assoc refl
