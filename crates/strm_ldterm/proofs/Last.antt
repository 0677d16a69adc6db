-- A message of data of band 0 that stands last.
use Rattle.strm_ldterm.proofs.Prelude.{ℕ, ◌≡◌, ◌≤◌, ◌<◌, ◌+◌, Bool, true, false, cond, List, [], ◌∷◌, ◌++◌, refl, ap, ◌∙◌, arith, not, ◌&&◌, ◌||◌}
use Rattle.strm_ldterm.proofs.Prelude.{◌==◌, nat_le, Option, None, Some, and_parts, nat_tests, sum_by-append}
use Rattle.strm_ldterm.specs.Prelude.{Band, MsgKind, Message, data_message, is_high_priority, rank_of, Way, Up, Down, Choice, of_data, stayed}
use Rattle.strm_ldterm.specs.Prelude.{is_data_kind, read_ioc, goes_behind, waits_behind, waits_on, takes_band_0, waits_there}
use Rattle.std.specs.Prelude.{filter}
use Rattle.std.specs.List.{AllByRecursion}
use Rattle.strm_types.specs.declared.kinds.MsgKind.TheVariants as kinds
use Rattle.strm_types.specs.Message.{has_parts}
use Rattle.strm_types.specs.declared.limits.TheConstants.{HIGH_PRIORITY_RANK}
use Rattle.strm_types.specs.Commands.{is_asked, is_ioctl}
use Rattle.strm_types.specs.Flush.{counted_band}
use Rattle.strm_types.specs.Queue as plain
use Rattle.strm_types.specs.Ranked as ranked
use Rattle.strm_types.proofs.Ranked.{put-last}
use Rattle.strm_ldterm.specs.Stands.{EndsPlain}

all-above : {A : Type 0} (rank : A → ℕ) (m : A) (q : List A) → rank m ≡ 0 → AllByRecursion (λ x. rank m ≤ rank x) q
all-above rank m [] none = tt
all-above rank m (x ∷ q) none = (omega arith, all-above rank m q none)

-- one of rank 0 is put last
pub zero-last : {A : Type 0} (rank : A → ℕ) (m : A) (q : List A) → rank m ≡ 0 → ranked.put rank m q ≡ q ++ m ∷ []
zero-last rank m q none = put-last rank m q (all-above rank m q none)

-- one of a higher rank is put before it
put-before : {A : Type 0} (rank : A → ℕ) (m e : A) (q : List A) → rank e < rank m → ranked.put rank m (q ++ e ∷ []) ≡ ranked.put rank m q ++ e ∷ []
put-before rank m e [] above =
    let no : nat_le (rank m) (rank e) ≡ false = grind (arith, nat_tests) in
    ap (λ v. cond v (e ∷ m ∷ []) (m ∷ e ∷ [])) no
put-before rank m e (x ∷ q) above = at (nat_le (rank m) (rank x)) (put-before rank m e q above)
  where
    at : (v : Bool) → ranked.put rank m (q ++ e ∷ []) ≡ ranked.put rank m q ++ e ∷ [] → cond v (x ∷ ranked.put rank m (q ++ e ∷ [])) (m ∷ x ∷ (q ++ e ∷ [])) ≡ cond v (x ∷ ranked.put rank m q) (m ∷ x ∷ q) ++ e ∷ []
    at true ih = ap (λ xs. x ∷ xs) ih
    at false ih = refl

-- an ordinary message of data has rank 0
pub data-rank : (bytes : List ℕ) → rank_of (data_message bytes) ≡ 0
unfolding rank_of data_message is_high_priority
data-rank bytes = refl

pub data-first : (bytes : List ℕ) → (data_message bytes).band ≡ 0
unfolding data_message
data-first bytes = refl

-- what counts in a band
pub count-last : (band : ℕ) (ms ls : List (Message ℕ)) → plain.count_of band (ms ++ ls) ≡ plain.count_of band ms + plain.count_of band ls
count-last band ms ls = sum_by-append _ ms ls

-- it stays last where a message of a higher rank is put
pub ends-put : (m : Message ℕ) (ms : List (Message ℕ)) → 0 < rank_of m → EndsPlain ms → EndsPlain (plain.put m ms)
ends-put m ms above ends = record {
  before = plain.put m ends.before;
  cells = ends.cells;
  is = ap (plain.put m) ends.is ∙ put-before rank_of m (data_message ends.cells) ends.before (let none = data-rank ends.cells in omega arith);
}

-- and where it isn't taken
filter-last : (keep : Message ℕ → Bool) (ms : List (Message ℕ)) (e : Message ℕ) → keep e ≡ true → filter keep (ms ++ e ∷ []) ≡ filter keep ms ++ e ∷ []
filter-last keep [] e stays = ap (λ v. cond v (e ∷ []) []) stays
filter-last keep (m ∷ ms) e stays = at (keep m) (filter-last keep ms e stays)
  where
    at : (v : Bool) → filter keep (ms ++ e ∷ []) ≡ filter keep ms ++ e ∷ [] → cond v (m ∷ filter keep (ms ++ e ∷ [])) (filter keep (ms ++ e ∷ [])) ≡ cond v (m ∷ filter keep ms) (filter keep ms) ++ e ∷ []
    at true ih = ap (λ xs. m ∷ xs) ih
    at false ih = ih

ends-stayed : (chosen : Choice) (ms : List (Message ℕ)) → ((bytes : List ℕ) → chosen (data_message bytes).kind (data_message bytes).band ≡ false) → EndsPlain ms → EndsPlain (stayed chosen ms)
ends-stayed chosen ms none ends = record {
  before = stayed chosen ends.before;
  cells = ends.cells;
  is = ap (stayed chosen) ends.is ∙ filter-last (λ m. not (chosen m.kind m.band)) ends.before (data_message ends.cells) (ap not (none ends.cells));
}

-- a message of band 0 isn't taken with another band
none-chosen : (k : MsgKind) (n : ℕ) (band : Band) → n ≡ 0 → 0 < band.0 → of_data (Some band) k n ≡ false
none-chosen k n band zero above =
    ap (λ j. is_data_kind k && (counted_band k j == band.0)) zero
    ∙ ap (λ j. is_data_kind k && (j == band.0)) (same (is_high_priority k))
    ∙ ap (λ v. is_data_kind k && v) (let no : (0 == band.0) ≡ false = grind (arith, nat_tests) in no)
    ∙ never (is_data_kind k)
  where
    same : (v : Bool) → cond {A = ℕ} v 0 0 ≡ 0
    same true = refl
    same false = refl

    never : (v : Bool) → (v && false) ≡ false
    never true = refl
    never false = refl

-- so it stays in a flush that doesn't take band 0
pub ends-flushed : (band : Option Band) (ms : List (Message ℕ)) → takes_band_0 band ≡ false → EndsPlain ms → EndsPlain (stayed (of_data band) ms)
ends-flushed None ms other ends = absurd (cc)
ends-flushed (Some band) ms other ends =
    let above : 0 < band.0 = grind (arith, nat_tests) in
    ends-stayed (of_data (Some band)) ms (λ bytes. none-chosen (data_message bytes).kind (data_message bytes).band band (data-first bytes) above) ends

-- what waits on a queue is of no high priority
there-low : (k : MsgKind) → waits_there k ≡ true → is_high_priority k ≡ false
unfolding is_high_priority
there-low kinds.Data is = refl
there-low kinds.Proto is = refl
there-low _ is = absurd (cc)

ioctl-low : (k : MsgKind) → is_ioctl k ≡ true → is_high_priority k ≡ false
unfolding is_high_priority
ioctl-low kinds.Ioctl is = refl
ioctl-low _ is = absurd (cc)

pub waits-low : (way : Way) (m : Message ℕ) → waits_on way m ≡ true → is_high_priority m.kind ≡ false
waits-low way m is = at (waits_there m.kind) refl way is
  where
    at : (there : Bool) → waits_there m.kind ≡ there → (way : Way) → (there || goes_behind way m) ≡ true → is_high_priority m.kind ≡ false
    at true e way is = there-low m.kind e
    at false e Up is = absurd (cc)
    at false e Down is = ioctl-low m.kind (and_parts (is_ioctl m.kind) (not (has_parts m)) (and_parts (is_asked m) (waits_behind (read_ioc m.plain)) is).0).0

pub low-rank : (m : Message ℕ) → is_high_priority m.kind ≡ false → rank_of m ≡ m.band
unfolding rank_of
low-rank m is = ap (λ v. cond v HIGH_PRIORITY_RANK m.band) is
