-- A pair over a store with nothing in it, with an empty journal, is as new.
use Rattle.strm_pair.proofs.Prelude.{ℕ, ◌≡◌, List, [], ap, sym, subst, refl, ◌∙◌, replicate}
use Rattle.strm_pair.specs.Prelude.{LISTS, Config, Second, HasImage, imaged, image, PlainEntry, opening, plain, Fates, told_by, no_fates, IsLegal, new_pair}
use Rattle.strm_pair.specs.Prelude.{Block, Held, StoreValue, empty_store, IsBase, FewBooked, AreWithinEntries, Behaviour}
use Rattle.std.specs.Prelude.{◌≤◌, length}
use Rattle.strm_pair.specs.declared.streams.Streams.{Streams}
use Rattle.strm_pair.specs.declared.journal.Journal.{Journal}
use Rattle.strm_pair.specs.Pairs.{state_in, AreHeld, free_in, journal_of}
use Rattle.strm_laws.specs.Known.{all_known}
use Rattle.strm_laws.proofs.BaseSteps.{opening-base}
use Rattle.strm_laws.proofs.KnownStay.{opening-known}
use Rattle.strm_pair.specs.PairViews.{pair_of, IsKept}
use Rattle.strm_pair.specs.BaseTexts.{begun_at, image_room}
use Rattle.strm_pair.specs.Starts.{Start, new_start}
use Rattle.strm_pair.proofs.Shown.{free-empty}
use Rattle.strm_pair.proofs.BaseRows.{new-has-image, new-room}
use Rattle.strm_pair.proofs.Steps.{led-nowhere}

-- streams as new, beside a store with nothing in it
pub record AreFresh (mblks dblks : ℕ) (p : Streams) : Type 0 where
  pub state : state_in (empty_store mblks dblks) p ≡ opening
  pub held : AreHeld (empty_store mblks dblks) p

pub fresh-kept : (K : Behaviour) (s : StoreValue) (p : Streams) (j : Journal) (b : Start) (limits : Config) (fates : Fates) → b ≡ new_start → s ≡ empty_store limits.mblks limits.dblks → AreFresh limits.mblks limits.dblks p
    → journal_of j ≡ [] → j.most_entries ≡ limits.journal_events → j.most_bytes ≡ limits.journal_bytes → fates ≡ no_fates → IsKept K s p j b limits fates
fresh-kept K s p j b limits fates is blank fresh empty events bytes none = record {
  based = subst (λ (t : Start). IsBase t.state t.fates) (sym is) opening-base;
  replayed = ap (λ v. state_in v p) blank ∙ fresh.state ∙ sym (ap (λ (t : Start). t.state) is) ∙ sym (led-nowhere K b j empty);
  legal = subst (λ js. IsLegal K plain b.state js) (sym empty) tt;
  within = subst AreWithinEntries (sym empty) tt;
  few = subst FewBooked (sym (ap (λ v. state_in v p) blank ∙ fresh.state)) opening-base.few;
  told = none ∙ sym (ap (λ (t : Start). t.fates) is) ∙ ap (λ js. told_by K plain b.state js b.fates) (sym empty);
  held = subst (λ v. AreHeld v p) (sym blank) fresh.held;
  known = ap (all_known K) (ap (λ v. state_in v p) blank ∙ fresh.state) ∙ opening-known ℕ K;
  mblks = ap (λ (v : StoreValue). v.mblks) blank;
  dblks = ap (λ (v : StoreValue). v.dblks) blank;
  events = events;
  bytes = bytes;
}

-- a base at such streams is that of a new pair
pub fresh-start : (s : StoreValue) (p : Streams) (b : Start) (past : List PlainEntry) (fates : Fates) (mblks dblks : ℕ) → s ≡ empty_store mblks dblks → AreFresh mblks dblks p → fates ≡ no_fates → past ≡ []
    → b ≡ begun_at (state_in s p) fates past → b ≡ new_start
fresh-start s p b past fates mblks dblks blank fresh none first is =
    is ∙ ap (λ t. begun_at t fates past) (ap (λ v. state_in v p) blank ∙ fresh.state) ∙ ap (λ f. begun_at opening f past) none ∙ ap (λ es. begun_at opening no_fates es) first

-- and they have the image of one, in its room
pub fresh-has-image : (s : StoreValue) (p : Streams) (fates : Fates) (mblks dblks : ℕ) → s ≡ empty_store mblks dblks → AreFresh mblks dblks p → fates ≡ no_fates → HasImage (imaged (state_in s p) fates)
fresh-has-image s p fates mblks dblks blank fresh none =
    subst (λ f. HasImage (imaged (state_in s p) f)) (sym none) (subst (λ t. HasImage (imaged t no_fates)) (sym (ap (λ v. state_in v p) blank ∙ fresh.state)) new-has-image)

pub fresh-room : (s : StoreValue) (p : Streams) (fates : Fates) (mblks dblks : ℕ) → s ≡ empty_store mblks dblks → AreFresh mblks dblks p → fates ≡ no_fates
    → length (image.text (Second, imaged (state_in s p) fates)) ≤ image_room mblks
fresh-room s p fates mblks dblks blank fresh none =
    subst (λ f. length (image.text (Second, imaged (state_in s p) f)) ≤ image_room mblks) (sym none)
    (subst (λ t. length (image.text (Second, imaged t no_fates)) ≤ image_room mblks) (sym (ap (λ v. state_in v p) blank ∙ fresh.state)) (new-room mblks))

pub fresh-shown : (s : StoreValue) (p : Streams) (j : Journal) (b : Start) (limits : Config) (fates : Fates) → b ≡ new_start → s ≡ empty_store limits.mblks limits.dblks → AreFresh limits.mblks limits.dblks p → journal_of j ≡ [] → fates ≡ no_fates → pair_of s p j b limits fates ≡ new_pair limits
fresh-shown s p j b limits fates is blank fresh empty none =
    ap (λ v. pair_of v p j b limits fates) blank
    ∙ rw (none, fresh.state, empty, is, free-empty limits.mblks limits.dblks) refl

-- a store that holds nothing, as it stands with its numbers of blocks, all of which are free
pub vacant : (s : StoreValue) → s.lists ≡ replicate LISTS [] → s.hand ≡ [] → s ≡ empty_store s.mblks s.dblks
vacant s lists hand =
    ap (λ (ls : List (List (List Block))). record { lists = ls; hand = s.hand; mblks = s.mblks; dblks = s.dblks }) lists
    ∙ ap (λ (hs : List Held). record { lists = replicate LISTS []; hand = hs; mblks = s.mblks; dblks = s.dblks }) hand

pub all-free : (s : StoreValue) → s.lists ≡ replicate LISTS [] → s.hand ≡ [] → free_in s ≡ record { mblks = s.mblks; dblks = s.dblks }
all-free s lists hand = ap free_in (vacant s lists hand) ∙ free-empty s.mblks s.dblks
