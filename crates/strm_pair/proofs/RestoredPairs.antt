-- A pair that is made of an image: which refusal comes, and what the pair is.
use Rattle.strm_pair.proofs.Prelude.{ℕ, ◌≡◌, ◌≤◌, ◌-◌, true, false, List, [], refl, sym, ap, subst, ◌∙◌, arith, replicate, Option, Some, same_images}
use Rattle.strm_pair.proofs.Prelude.{image_length_in}
use Rattle.strm_pair.specs.Prelude.{LISTS, Config, Refusal, Einval, Enosr, Fates, plain, IsBase, told_by, FewBooked, Free, enough, AreWithinEntries, IsLegal}
use Rattle.strm_pair.specs.Prelude.{StoreValue, IsStore, free_m, free_d, Second, IsTextOf, HasImage, imaged, Imaged, image, imaged_now, Behaviour}
use Rattle.std.specs.Prelude.{◌↔◌, length}
use Rattle.std.proofs.lemmas.Bool.{and_from, le-leb}
use Rattle.strm_image.specs.declared.image.ImageText.{ImageText}
use Rattle.strm_image.specs.ImageTexts.{image_now}
use Rattle.strm_pair.specs.declared.streams.Streams.{Streams}
use Rattle.strm_pair.specs.declared.journal.Journal.{Journal}
use Rattle.strm_pair.specs.BaseTexts.{image_room}
use Rattle.strm_pair.specs.Pairs.{state_in, AreHeld, free_in, journal_of}
use Rattle.strm_pair.specs.PairViews.{pair_of, sizes_over, IsKept}
use Rattle.strm_laws.specs.Known.{all_known}
use Rattle.strm_pair.specs.Restored.{IsImageFor, IsImageOf, IsNoImage, fates_in, image_blocks, restored}
use Rattle.strm_pair.specs.Runs.{Spent}
use Rattle.strm_pair.specs.Starts.{Start}
use Rattle.strm_pair.proofs.Fresh.{all-free}
use Rattle.strm_pair.proofs.Shown.{in-use}
use Rattle.strm_pair.proofs.Steps.{led-nowhere}
use Rattle.strm_pair.proofs.UsedBytes.{state-bytes}

-- ---- which state

module _ (bytes : List ℕ) (i : ImageText) (found : IsTextOf image bytes (image_now i)) where
  -- bytes are the image of one state
  pub one-state : (x : Imaged) → IsImageOf bytes x → x ≡ imaged_now i.state
  one-state x is = (same_images is.0 i.version x (imaged_now i.state) is.1.0 found.0 (sym is.1.1 ∙ found.1)).1

  -- and where its blocks are free, no other one asks for more
  pub has-blocks : (free : Free) (n : ℕ) → n ≡ image_blocks (imaged_now i.state) → n ≤ free.mblks → n ≤ free.dblks → (K : Behaviour) → (x : Imaged) × (IsImageFor K bytes x × (enough (image_blocks x) free ≡ false)) → ⊥
  has-blocks free n is m d K few =
      let here : enough (image_blocks few.0) free ≡ true = rw (one-state few.0 few.1.0.image, ← is) (and_from _ _ (le-leb n free.mblks m) (le-leb n free.dblks d)) in
      let never = few.1.1 in cc

-- ---- what it is

-- the base at which its journal begins
abbrev pub start_of : Imaged → Start
start_of x = record { state = x.state; fates = fates_in x; past = [] }

module _ (s : StoreValue) (p : Streams) (j : Journal) (b : Start) (limits : Config) (fates : Fates) (x : Imaged)
    (begins : b ≡ start_of x) (state : state_in s p ≡ x.state) (none : journal_of j ≡ []) (gone : fates ≡ fates_in x) where
  pub restored-kept : (K : Behaviour) → all_known K x.state ≡ true → IsBase x.state (fates_in x) → AreHeld s p → s.mblks ≡ limits.mblks → s.dblks ≡ limits.dblks → j.most_entries ≡ limits.journal_events → j.most_bytes ≡ limits.journal_bytes → IsKept K s p j b limits fates
  restored-kept K known based held mblks dblks events bytes = record {
    based = subst (λ (t : Start). IsBase t.state t.fates) (sym begins) based;
    replayed = state ∙ sym (ap (λ (t : Start). t.state) begins) ∙ sym (led-nowhere K b j none);
    legal = subst (λ js. IsLegal K plain b.state js) (sym none) tt;
    within = subst AreWithinEntries (sym none) tt;
    few = subst FewBooked (sym state) based.few;
    told = gone ∙ sym (ap (λ (t : Start). t.fates) begins) ∙ ap (λ js. told_by K plain b.state js b.fates) (sym none);
    held = held;
    known = ap (all_known K) state ∙ known;
    mblks = mblks;
    dblks = dblks;
    events = events;
    bytes = bytes;
  }

  pub restored-shown : free_in s ≡ record { mblks = limits.mblks - image_blocks x; dblks = limits.dblks - image_blocks x } → pair_of s p j b limits fates ≡ restored limits x
  restored-shown free = rw (state, begins, none, free, gone) refl

-- the blocks that are left of those that were free
pub left-free : (s t : StoreValue) (n m d : ℕ) → free_in s ≡ record { mblks = m; dblks = d } → Spent s t n → free_in t ≡ record { mblks = m - n; dblks = d - n }
left-free s t n m d all spent =
    let first : (free_in t).mblks ≡ m - n = omega (arith, ap (λ (f : Free). f.mblks) all, spent.mblks) in
    let second : (free_in t).dblks ≡ d - n = omega (arith, ap (λ (f : Free). f.dblks) all, spent.dblks) in
    ap (λ k. record { mblks = k; dblks = (free_in t).dblks }) first ∙ ap (λ k. record { mblks = m - n; dblks = k }) second

-- ---- its image

module _ (s : StoreValue) (p : Streams) (x : Imaged) (fates : Fates) (state : state_in s p ≡ x.state) (gone : fates ≡ fates_in x) (held : AreHeld s p) (has : HasImage x) where
  imaged-same : imaged (state_in s p) fates ≡ x
  imaged-same = ap (λ t. imaged t fates) state ∙ ap (λ f. imaged x.state f) gone

  pub restored-has : HasImage (imaged (state_in s p) fates)
  restored-has = subst HasImage (sym imaged-same) has

  pub restored-room : IsStore s → (n : ℕ) → n ≡ s.mblks → length (image.text (Second, imaged (state_in s p) fates)) ≤ image_room n
  restored-room is n same =
      let idle = restored-has.restorable.idle in
      image_length_in (imaged (state_in s p) fates) n restored-has
      (omega (arith, same, in-use s p held idle is, is.enough)) (omega (arith, same, state-bytes s p held idle is))

-- the blocks of a store that holds nothing
pub free-of : (s : StoreValue) (limits : Config) → limits ≡ sizes_over s limits → s.lists ≡ replicate LISTS [] → s.hand ≡ [] → free_in s ≡ record { mblks = limits.mblks; dblks = limits.dblks }
free-of s limits same lists hand = all-free s lists hand ∙ sym (ap (λ (l : Config). record { mblks = l.mblks; dblks = l.dblks }) same)

-- ---- which refusal

module _ (bytes : List ℕ) (i : ImageText) (found : IsTextOf image bytes (image_now i)) (o : Option Refusal) where
  module _ (K : Behaviour) (known : all_known K (imaged_now i.state).state ≡ true) where
    -- that state is one of which there are all modules
    pub is-for : IsImageFor K bytes (imaged_now i.state)
    is-for = record { image = (i.version, found); known = known }

    pub not-einval : (o ≡ Some Einval → ⊥) → (o ≡ Some Einval) ↔ IsNoImage K bytes
    not-einval other = (λ e. absurd (other e), λ none. absurd (none (imaged_now i.state) is-for))

  pub not-enosr : (free : Free) (n : ℕ) → n ≡ image_blocks (imaged_now i.state) → n ≤ free.mblks → n ≤ free.dblks → (K : Behaviour) → (o ≡ Some Enosr → ⊥) → (o ≡ Some Enosr) ↔ ((x : Imaged) × (IsImageFor K bytes x × (enough (image_blocks x) free ≡ false)))
  not-enosr free n is m d K other = (λ e. absurd (other e), λ few. absurd (has-blocks bytes i found free n is m d K few))

-- where modules stand there of which there are none, the text is the image of no other state
module _ (bytes : List ℕ) (i : ImageText) (found : IsTextOf image bytes (image_now i)) (K : Behaviour)
    (unknown : all_known K (imaged_now i.state).state ≡ false) where
  pub none-for : IsNoImage K bytes
  none-for x is = absurd (let never = sym (ap (λ (y : Imaged). all_known K y.state) (one-state bytes i found x is.image) ∙ unknown) ∙ is.known in cc)

  pub is-einval : (Some Einval ≡ Some Einval) ↔ IsNoImage K bytes
  is-einval = (λ e. none-for, λ none. refl)

  pub never-enosr : (free : Free) → (Some Einval ≡ Some Enosr) ↔ ((x : Imaged) × (IsImageFor K bytes x × (enough (image_blocks x) free ≡ false)))
  never-enosr free = (λ e. absurd (cc), λ few. absurd (none-for few.0 few.1.0))

-- ---- the sizes of a pair over such a store

module _ (s : StoreValue) (sizes : Config) (m d : ℕ) (lists : s.lists ≡ replicate LISTS []) (hand : s.hand ≡ []) (mblks : m ≡ free_m s) (dblks : d ≡ free_d s) where
  pub mblks-all : m ≡ s.mblks
  mblks-all = mblks ∙ ap (λ (f : Free). f.mblks) (all-free s lists hand)

  pub limits-over : record { mblks = m; dblks = d; journal_events = sizes.journal_events; journal_bytes = sizes.journal_bytes } ≡ sizes_over s sizes
  limits-over =
      ap (λ n. record { mblks = n; dblks = d; journal_events = sizes.journal_events; journal_bytes = sizes.journal_bytes }) mblks-all
      ∙ ap (λ n. record { mblks = s.mblks; dblks = n; journal_events = sizes.journal_events; journal_bytes = sizes.journal_bytes }) (dblks ∙ ap (λ (f : Free). f.dblks) (all-free s lists hand))
