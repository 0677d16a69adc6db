-- What a list that is placed changes of a store.
use Rattle.std.proofs.Common.{ℕ, ◌≡◌, ◌≢◌, ◌<◌, ◌+◌, Bool, true, cond, List, [], ◌∷◌, length, refl, sym, ap, subst, ◌∙◌, arith, get_or-set_same, get_or-set_other}
use Rattle.std.specs.Prelude.{sum_by, ◌==◌}
use Rattle.std.proofs.lemmas.Bool.Decides.{nat_tests}
use Rattle.strm_types.specs.declared.kinds.MsgKind.{MsgKind}
use Rattle.strm_types.specs.declared.kinds.MsgKind.TheVariants as kinds
use Rattle.strm_blocks.specs.Blocks.{Block, StoreValue, in_hand, list_at, held, dropped, changed, placed, put, put_back, names_of, total, free_m, free_d, with_chain}
use Rattle.strm_blocks.proofs.Laws.{dropped-held, in_hand-held, total-placed, total-held, references-is, used-is, free_m-is, free_d-same}
use Rattle.strm_msg.specs.Messages.{AreMessages}
use Rattle.strm_queue.specs.declared.queue.Queue.{Queue}
use Rattle.strm_queue.specs.Kept.{AreCounted}
use Rattle.strm_queue.specs.Stored.{Holds, IsReady, Keeps}

-- one list of a store is this one now, and nothing else changed
pub record Landed (s new : StoreValue) (k : ℕ) (list : List (List Block)) : Type 0 where
  pub here : list_at new k ≡ list
  pub others : (j : ℕ) → j ≢ k → list_at new j ≡ list_at s j
  pub hand : new.hand ≡ s.hand
  pub mblks : new.mblks ≡ s.mblks
  pub dblks : new.dblks ≡ s.dblks

pub landed : (s : StoreValue) (k : ℕ) (list : List (List Block)) → k < length s.lists → Landed s (placed s k list) k list
landed s k list within = record {
  here = get_or-set_same s.lists k list [] within;
  others = λ j apart. get_or-set_other s.lists k j list [] apart;
  hand = refl;
  mblks = refl;
  dblks = refl;
}

pub landed-again : (s t u : StoreValue) (k : ℕ) (first second : List (List Block)) → Landed s t k first → Landed t u k second → Landed s u k second
landed-again s t u k first second a b = record {
  here = b.here;
  others = λ j apart. b.others j apart ∙ a.others j apart;
  hand = b.hand ∙ a.hand;
  mblks = b.mblks ∙ a.mblks;
  dblks = b.dblks ∙ a.dblks;
}

-- a queue on that list is ready, where its numbers are those of the list
pub keeps-landed : (s new : StoreValue) (q q' : Queue) (list : List (List Block)) → Landed s new q.list list → AreMessages list → ((test : MsgKind → Bool) → test kinds.Data ≡ true → Holds test (list_at s q.list) → Holds test list) → q'.list ≡ q.list → AreCounted q'.flows (list_at new q'.list) → Keeps s new q q'
keeps-landed s new q q' list l messages holds same counted =
    let is : list ≡ list_at new q'.list = sym (ap (list_at new) same ∙ l.here) in
    record {
      ready = record { messages = subst AreMessages is messages; counted = counted };
      holds = λ test passes h. subst (Holds test) is (holds test passes h);
      list = same;
      others = l.others;
      hand = l.hand;
      mblks = l.mblks;
      dblks = l.dblks;
    }

-- a queue whose list stays is ready still
pub ready-same : (s t : StoreValue) (q : Queue) → list_at t q.list ≡ list_at s q.list → IsReady s q → IsReady t q
ready-same s t q same ready = record { messages = subst AreMessages (sym same) ready.messages; counted = subst (AreCounted q.flows) (sym same) ready.counted }

-- what was in hand, and is put on a list
module _ (s : StoreValue) (k i : ℕ) (chain : List Block) (within : k < length s.lists) (new : StoreValue) where
  pub put-is : new ≡ placed (dropped (held s i chain) i) k (put (in_hand (held s i chain) i) (list_at (held s i chain) k)) → new ≡ placed s k (put chain (list_at s k))
  put-is is =
      is ∙ ap (λ t. placed t k (put (in_hand (held s i chain) i) (list_at (held s i chain) k))) (dropped-held s i chain) ∙ ap (λ c. placed s k (put c (list_at s k))) (in_hand-held s i chain)

  pub put-on : new ≡ placed (dropped (held s i chain) i) k (put (in_hand (held s i chain) i) (list_at (held s i chain) k)) → Landed s new k (put chain (list_at s k))
  put-on is = subst (λ v. Landed s v k (put chain (list_at s k))) (sym (put-is is)) (landed s k (put chain (list_at s k)) within)

  pub put-back-on : new ≡ placed (dropped (held s i chain) i) k (put_back (in_hand (held s i chain) i) (list_at (held s i chain) k)) → Landed s new k (put_back chain (list_at s k))
  put-back-on is =
      let there : new ≡ placed s k (put_back chain (list_at s k)) =
      is ∙ ap (λ t. placed t k (put_back (in_hand (held s i chain) i) (list_at (held s i chain) k))) (dropped-held s i chain) ∙ ap (λ c. placed s k (put_back c (list_at s k))) (in_hand-held s i chain) in
      subst (λ v. Landed s v k (put_back chain (list_at s k))) (sym there) (landed s k (put_back chain (list_at s k)) within)

-- on a list or in hand, a message takes the same blocks
module _ (s : StoreValue) (k i : ℕ) (chain : List Block) (list : List (List Block)) (within : k < length s.lists) (sums : (f : List Block → ℕ) → sum_by f list ≡ f chain + sum_by f (list_at s k)) where
  adds : (f : List Block → ℕ) → total f (placed s k list) ≡ f chain + total f s
  adds f = omega (arith, total-placed f s k list within, sums f)

  pub same-free_m : free_m (placed s k list) ≡ free_m (held s i chain)
  same-free_m = omega (arith, free_m-is (placed s k list), free_m-is (held s i chain), used-is (placed s k list), used-is (held s i chain), adds length, total-held length s i chain)

  pub same-free_d : free_d (placed s k list) ≡ free_d (held s i chain)
  same-free_d = free_d-same (held s i chain) (placed s k list) refl (λ d. omega (arith, references-is (placed s k list) d, references-is (held s i chain) d, adds (names_of d), total-held (names_of d) s i chain))

-- another chain at the message that has just come in hand
pub changed-held : (s : StoreValue) (i : ℕ) (chain other : List Block) → changed (held s i chain) i other ≡ held s i other
changed-held s i chain other =
    let same : (i == i) ≡ true = grind (arith, nat_tests) in
    ap (λ (v : Bool). record s { hand = cond v (record { name = i; chain = other } ∷ s.hand) (record { name = i; chain = chain } ∷ with_chain i other s.hand) }) same
