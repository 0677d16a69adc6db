-- A module that lets all go: what stood on its read queue, its line, and what stood on its write queue.
use Rattle.strm_frame.proofs.Prelude.{ℕ, ◌≡◌, Bool, false, cond, List, [], ◌∷◌, ◌++◌, refl, sym, ap, ◌∙◌, arith, Option, None, Some}
use Rattle.strm_frame.specs.Prelude.{Side, Up, Down, Fates, Rule, Note, Room, tallied, is_met, queues_cleared, StoreValue, FreesBlocks}
use Rattle.strm_types.specs.Service.{line_gone}
use Rattle.strm_types.specs.Standings.{QueuePair, messages_on}
use Rattle.strm_frame.specs.Hands.{OnlyOwn}
use Rattle.strm_frame.specs.Serves.{SameHand}
use Rattle.strm_frame.proofs.Turns.{tallied-append}

-- among no messages none is met
pub none-met : (sought : Option ℕ) → false ≡ is_met {C = ℕ} sought []
none-met None = refl
none-met (Some number) = refl

-- one store behind another
pub own-on : (s t u : StoreValue) (f g h : ℕ → ℕ) → OnlyOwn s t f g → OnlyOwn t u g h → OnlyOwn s u f h
own-on s t u f g h first second = record {
  lists = λ k none. second.lists k (first.owns_same k ∙ none) ∙ first.lists k none;
  owns_same = λ k. second.owns_same k ∙ first.owns_same k;
}

pub hand-on : (s t u : StoreValue) → SameHand s t → SameHand t u → SameHand s u
hand-on s t u first second = record { hand = second.hand ∙ first.hand; mblks = second.mblks ∙ first.mblks; dblks = second.dblks ∙ first.dblks }

pub frees-on : (s t u : StoreValue) → FreesBlocks s t → FreesBlocks t u → FreesBlocks s u
frees-on s t u first second = record { mblks = omega (arith, first.mblks, second.mblks); dblks = omega (arith, first.dblks, second.dblks) }

module _ (side : Side) (rule : Rule) where
  -- what stands on the write queue stays as the read queue is cleared
  pub still-below : (queues : Option (QueuePair ℕ)) → messages_on Down (queues_cleared side rule Up queues).state ≡ messages_on Down queues
  still-below None = refl
  still-below (Some pair) = refl

  module _ (was between : Option (QueuePair ℕ)) (first : between ≡ (queues_cleared side rule Up was).state) where
    pub both-cleared : (is : Option (QueuePair ℕ)) → is ≡ (queues_cleared side rule Down between).state
        → is ≡ (queues_cleared side rule Down (queues_cleared side rule Up was).state).state
    both-cleared is second = second ∙ ap (λ o. (queues_cleared side rule Down o).state) first

    pub both-noted : (up down : Bool) → cond {A = List Note} up (Room Up ∷ []) [] ≡ (queues_cleared side rule Up was).notes
        → cond {A = List Note} down (Room Down ∷ []) [] ≡ (queues_cleared side rule Down between).notes
        → cond {A = List Note} up (Room Up ∷ []) [] ++ cond {A = List Note} down (Room Down ∷ []) []
        ≡ (queues_cleared side rule Up was).notes ++ (queues_cleared side rule Down (queues_cleared side rule Up was).state).notes
    both-noted up down ups downs =
        ap (λ ns. ns ++ cond {A = List Note} down (Room Down ∷ []) []) ups
        ∙ ap (λ ns. (queues_cleared side rule Up was).notes ++ ns) (downs ∙ ap (λ o. (queues_cleared side rule Down o).notes) first)

    pub both-met : (sought : Option ℕ) → is_met sought (messages_on Down between) ≡ is_met sought (messages_on Down was)
    both-met sought = ap (is_met sought) (ap (messages_on Down) first ∙ still-below was)

    pub all-told : (line : List ℕ) (f f1 f2 f3 : Fates) → f1 ≡ tallied (queues_cleared side rule Up was).gone f → f2 ≡ tallied (line_gone side rule line) f1
        → f3 ≡ tallied (queues_cleared side rule Down between).gone f2
        → f3 ≡ tallied ((queues_cleared side rule Up was).gone ++ (line_gone side rule line ++ (queues_cleared side rule Down (queues_cleared side rule Up was).state).gone)) f
    all-told line f f1 f2 f3 above typed below =
        let up = (queues_cleared side rule Up was).gone in
        let down = (queues_cleared side rule Down (queues_cleared side rule Up was).state).gone in
        below
        ∙ ap (λ o. tallied (queues_cleared side rule Down o).gone f2) first
        ∙ ap (tallied down) (typed ∙ ap (tallied (line_gone side rule line)) above)
        ∙ sym (tallied-append (line_gone side rule line) down (tallied up f))
        ∙ sym (tallied-append up (line_gone side rule line ++ down) f)
