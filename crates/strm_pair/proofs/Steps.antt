-- A pair keeps what holds of it where it takes a step and its journal gains the entry, and where its journal begins anew.
use Rattle.strm_pair.proofs.Prelude.{ℕ, List, refl, ◌≡◌, ◌∙◌, ◌++◌, ◌∷◌, [], ap, sym, subst}
use Rattle.strm_pair.proofs.Enabling.{restorable-few}
use Rattle.strm_pair.specs.Prelude.{Config, plain, Fates, tallied, PlainEntry, IsBase, AreIdle, told_by, FewBooked, restarted, AreWithinEntries}
use Rattle.strm_pair.specs.Prelude.{State, after, replay, IsLegal, StoreValue, Behaviour}
use Rattle.strm_laws.specs.Kept.{gone}
use Rattle.strm_laws.specs.Known.{all_known}
use Rattle.strm_laws.specs.Restorable.{IsWithinEntry}
use Rattle.strm_laws.specs.Step.{Step}
use Rattle.strm_laws.proofs.BaseSteps.{base-on}
use Rattle.strm_laws.proofs.KnownStay.{after-known}
use Rattle.strm_laws.proofs.Replay.{kept-legal, replay-append}
use Rattle.strm_pair.specs.declared.streams.Streams.{Streams}
use Rattle.strm_pair.specs.declared.journal.Journal.{Journal}
use Rattle.strm_pair.specs.BaseTexts.{begun_at}
use Rattle.strm_pair.specs.Effects.{AreAtRest, Leads}
use Rattle.strm_pair.specs.Pairs.{state_in, journal_of}
use Rattle.strm_pair.specs.PairViews.{IsKept, led_to, pair_of}
use Rattle.strm_pair.specs.Starts.{Start, led_on}

-- an empty journal leads nowhere
pub led-nowhere : (K : Behaviour) (b : Start) (j : Journal) → journal_of j ≡ [] → led_to K b j ≡ b.state
led-nowhere K b j empty = ap (λ js. replay K plain b.state js) empty

-- where the journal has gained an entry, it leads to the state behind the entry
pub led-on : (K : Behaviour) (s : StoreValue) (p : Streams) (j k : Journal) (b : Start) (limits : Config) (fates : Fates) (entry : PlainEntry) → IsKept K s p j b limits fates → journal_of k ≡ journal_of j ++ entry ∷ [] → led_to K b k ≡ after K plain (state_in s p) entry
led-on K s p j k b limits fates entry kept added =
    ap (λ js. replay K plain b.state js) added ∙ replay-append K plain b.state (journal_of j) (entry ∷ []) ∙ ap (λ t. after K plain t entry) (sym kept.replayed)

-- a step to the state behind an entry is one to what the blocks stand for
pub step-shown : (K : Behaviour) (s new : StoreValue) (p q : Streams) (entry : PlainEntry) → state_in new q
    ≡ after K plain (state_in s p) entry
    → Step K plain (state_in s p) entry (after K plain (state_in s p) entry) → Step K plain (state_in s p) entry (state_in new q)
step-shown K s new p q entry stands step = subst (λ t. Step K plain (state_in s p) entry t) (sym stands) step

-- what the entries of a journal and one more let go
told-on : (K : Behaviour) (base : State ℕ) (es : List PlainEntry) (e : PlainEntry) (fates : Fates) → told_by K plain base (es ++ e ∷ []) fates ≡ tallied (gone K plain (replay K plain base es) e) (told_by K plain base es fates)
told-on K base [] e fates = refl
told-on K base (x ∷ es) e fates = told-on K (after K plain base x) es e (tallied (gone K plain base x) fates)

-- one more entry that names a band that queues have
within-on : (es : List PlainEntry) (e : PlainEntry) → AreWithinEntries es → IsWithinEntry e → AreWithinEntries (es ++ e ∷ [])
within-on [] e all one = (one, tt)
within-on (x ∷ es) e all one = (all.0, within-on es e all.1 one)

pub kept-step : (K : Behaviour) (s new : StoreValue) (p q : Streams) (j k : Journal) (b : Start) (limits : Config) (fates fates' : Fates) (entry : PlainEntry) → IsKept K s p j b limits fates
    → Step K plain (state_in s p) entry (after K plain (state_in s p) entry) → IsWithinEntry entry
    → Leads s new q fates fates' (after K plain (state_in s p) entry) (gone K plain (state_in s p) entry) → FewBooked (state_in new q)
    → journal_of k ≡ journal_of j ++ entry ∷ [] → k.most_entries ≡ j.most_entries → k.most_bytes ≡ j.most_bytes → IsKept K new q k b limits fates'
kept-step K s new p q j k b limits fates fates' entry kept step within leads few added events bytes = record {
  based = kept.based;
  replayed = leads.state ∙ sym (led-on K s p j k b limits fates entry kept added);
  legal = subst (λ js. IsLegal K plain b.state js) (sym added) (kept-legal K plain b.state (state_in s p) (after K plain (state_in s p) entry) (journal_of j) entry kept.replayed step kept.legal);
  within = subst AreWithinEntries (sym added) (within-on (journal_of j) entry kept.within within);
  few = few;
  told = leads.tells
      ∙ ap (λ f. tallied (gone K plain (state_in s p) entry) f) kept.told
      ∙ ap (λ t. tallied (gone K plain t entry) (told_by K plain b.state (journal_of j) b.fates)) kept.replayed
      ∙ sym (told-on K b.state (journal_of j) entry b.fates)
      ∙ ap (λ js. told_by K plain b.state js b.fates) (sym added);
  held = leads.held;
  known = ap (all_known K) leads.state ∙ after-known K plain (state_in s p) entry kept.known;
  mblks = leads.pool.mblks ∙ kept.mblks;
  dblks = leads.pool.dblks ∙ kept.dblks;
  events = events ∙ kept.events;
  bytes = bytes ∙ kept.bytes;
}

-- what the blocks stand for is a base, with what has gone
pub kept-base : (K : Behaviour) (s : StoreValue) (p : Streams) (j : Journal) (b : Start) (limits : Config) (fates : Fates) → IsKept K s p j b limits fates → IsBase (state_in s p) fates
kept-base K s p j b limits fates kept =
    let there = base-on K b.state b.fates (journal_of j) kept.based kept.within kept.legal (subst FewBooked kept.replayed kept.few) in
    subst (λ f. IsBase (state_in s p) f) (sym kept.told) (subst (λ t. IsBase t (told_by K plain b.state (journal_of j) b.fates)) (sym kept.replayed) there)

-- nothing of a turn is under way at any module between calls
pub led-idle : (K : Behaviour) (s : StoreValue) (p : Streams) (j : Journal) (b : Start) (limits : Config) (fates : Fates) → IsKept K s p j b limits fates → AreIdle (state_in s p)
led-idle K s p j b limits fates kept = (kept-base K s p j b limits fates kept).restorable.idle

pub led-rests : (K : Behaviour) (s : StoreValue) (p : Streams) (j : Journal) (b : Start) (limits : Config) (fates : Fates) → IsKept K s p j b limits fates → AreAtRest s p
led-rests K s p j b limits fates kept = record {
  held = kept.held;
  idle = led-idle K s p j b limits fates kept;
  enabled = restorable-few (state_in s p) (kept-base K s p j b limits fates kept).restorable;
}

-- what the blocks stand for, with what has gone, is where the journal leads
pub on-told : (K : Behaviour) (s : StoreValue) (p : Streams) (j : Journal) (b : Start) (limits : Config) (fates : Fates) (past : List PlainEntry) → IsKept K s p j b limits fates
    → past ≡ b.past ++ journal_of j → begun_at (state_in s p) fates past ≡ led_on K (journal_of j) b
on-told K s p j b limits fates past kept is =
    ap (λ t. begun_at t fates past) kept.replayed ∙ ap (λ f. begun_at (led_to K b j) f past) kept.told ∙ ap (λ es. begun_at (led_to K b j) (told_by K plain b.state (journal_of j) b.fates) es) is

-- a base that has gone on to where the journal led, and an empty journal
module _ (K : Behaviour) (s : StoreValue) (p : Streams) (j k : Journal) (b c : Start) (limits : Config) (fates : Fates)
    (kept : IsKept K s p j b limits fates)
    (on : c ≡ led_on K (journal_of j) b) (empty : journal_of k ≡ []) where
  here : c.state ≡ state_in s p
  here = ap (λ (t : Start). t.state) on ∙ sym kept.replayed

  went : c.fates ≡ fates
  went = ap (λ (t : Start). t.fates) on ∙ sym kept.told

  pub kept-restarted : k.most_entries ≡ j.most_entries → k.most_bytes ≡ j.most_bytes → IsKept K s p k c limits fates
  kept-restarted events bytes = record {
    based = subst (λ f. IsBase c.state f) (sym went) (subst (λ t. IsBase t fates) (sym here) (kept-base K s p j b limits fates kept));
    replayed = sym here ∙ sym (led-nowhere K c k empty);
    legal = subst (λ js. IsLegal K plain c.state js) (sym empty) tt;
    within = subst AreWithinEntries (sym empty) tt;
    few = kept.few;
    told = sym went ∙ ap (λ js. told_by K plain c.state js c.fates) (sym empty);
    held = kept.held;
    known = kept.known;
    mblks = kept.mblks;
    dblks = kept.dblks;
    events = events ∙ kept.events;
    bytes = bytes ∙ kept.bytes;
  }

  pub restarted-shown : pair_of s p k c limits fates ≡ restarted (pair_of s p j b limits fates)
  restarted-shown = rw (empty, here, went, ap (λ (t : Start). t.past) on) refl
