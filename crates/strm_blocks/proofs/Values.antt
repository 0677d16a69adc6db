-- How the value of a store changes with its fields.
use Rattle.std.proofs.Common.{ℕ, suc, ◌≡◌, ◌+◌, true, false, not, cond, List, [], ◌∷◌, map, refl, sym, ap, ◌∙◌, arith}
use Rattle.std.proofs.Math.ListN.{set}
use Rattle.std.specs.Prelude.{sum_by, ◌==◌}
use Rattle.std.proofs.lemmas.List.Sums.{sum_by-cons}
use Rattle.strm_blocks.specs.Blocks.{Block, total, chain_in, times_in, without, with_chain, rank_of}
use Rattle.strm_blocks.specs.Message.{message_at, without_at, with_blocks, place_in, rank_in, weigh, named}
use Rattle.strm_blocks.specs.Table.{shown, chain_of, held_of, lists_of, hand_of}
use Rattle.strm_blocks.specs.declared.message.Message.{Message}
use Rattle.strm_blocks.specs.declared.message.MessageBlock.{MessageBlock}

-- sums over a list that is made of another one
pub sum_by-map : {A B : Type 0} (f : B → ℕ) (h : A → B) (xs : List A) → sum_by f (map h xs) ≡ sum_by (λ x. f (h x)) xs
sum_by-map f h [] = refl
sum_by-map f h (x ∷ xs) = sum_by-cons f (h x) (map h xs) ∙ ap (λ n. f (h x) + n) (sum_by-map f h xs) ∙ sym (sum_by-cons (λ x. f (h x)) x xs)

pub sum_by-ext : {A : Type 0} (f g : A → ℕ) → ((x : A) → f x ≡ g x) → (xs : List A) → sum_by f xs ≡ sum_by g xs
sum_by-ext f g same [] = refl
sum_by-ext f g same (x ∷ xs) = let s = same x in let ih = sum_by-ext f g same xs in omega (arith, sum_by-cons f x xs, sum_by-cons g x xs)

module _ (bytes : List (List ℕ)) where
  -- the blocks of a message in hand
  pub blocks-value : (i : ℕ) (hand : List Message) → chain_of bytes (message_at (place_in i hand) hand) ≡ chain_in i (hand_of bytes hand)
  blocks-value i [] = refl
  blocks-value i (m ∷ hand) = elim (m.name == i) as (λ b. chain_of bytes (message_at (cond (not b) (1 + place_in i hand) 0) (m ∷ hand)) ≡ cond b (chain_of bytes m) (chain_in i (hand_of bytes hand))) [
    | true ↦ refl
    | false ↦ (let e : 1 + place_in i hand ≡ suc (place_in i hand) = omega arith in ap (λ k. chain_of bytes (message_at k (m ∷ hand))) e ∙ blocks-value i hand)
  ]

  -- the hand without a message
  pub without-value : (i : ℕ) (hand : List Message) → hand_of bytes (without_at (place_in i hand) hand) ≡ without i (hand_of bytes hand)
  without-value i [] = refl
  without-value i (m ∷ hand) = elim (m.name == i) as (λ b. hand_of bytes (without_at (cond (not b) (1 + place_in i hand) 0) (m ∷ hand)) ≡ cond b (hand_of bytes hand) (held_of bytes m ∷ without i (hand_of bytes hand))) [
    | true ↦ refl
    | false ↦ (let e : 1 + place_in i hand ≡ suc (place_in i hand) = omega arith in ap (λ k. hand_of bytes (without_at k (m ∷ hand))) e ∙ ap (λ rest. held_of bytes m ∷ rest) (without-value i hand))
  ]

  -- the hand with other blocks in a message
  pub changed-value : (i : ℕ) (blocks : List MessageBlock) (hand : List Message) → hand_of bytes (set hand (place_in i hand) (with_blocks blocks (message_at (place_in i hand) hand))) ≡ with_chain i (map (shown bytes) blocks) (hand_of bytes hand)
  changed-value i blocks [] = refl
  changed-value i blocks (m ∷ hand) = elim (m.name == i) as (λ b. hand_of bytes (set (m ∷ hand) (cond (not b) (1 + place_in i hand) 0) (with_blocks blocks (message_at (cond (not b) (1 + place_in i hand) 0) (m ∷ hand)))) ≡ cond b (record { name = m.name; chain = map (shown bytes) blocks } ∷ hand_of bytes hand) (held_of bytes m ∷ with_chain i (map (shown bytes) blocks) (hand_of bytes hand))) [
    | true ↦ refl
    | false ↦ (let e : 1 + place_in i hand ≡ suc (place_in i hand) = omega arith in ap (λ k. hand_of bytes (set (m ∷ hand) k (with_blocks blocks (message_at k (m ∷ hand))))) e ∙ ap (λ rest. held_of bytes m ∷ rest) (changed-value i blocks hand))
  ]

  -- the hand with another chain in a message
  pub set-value : (i : ℕ) (chain : List Block) (hand : List Message) → set (hand_of bytes hand) (place_in i hand) (record { name = (message_at (place_in i hand) hand).name; chain = chain }) ≡ with_chain i chain (hand_of bytes hand)
  set-value i chain [] = refl
  set-value i chain (m ∷ hand) = elim (m.name == i) as (λ b. set (hand_of bytes (m ∷ hand)) (cond (not b) (1 + place_in i hand) 0) (record { name = (message_at (cond (not b) (1 + place_in i hand) 0) (m ∷ hand)).name; chain = chain }) ≡ cond b (record { name = m.name; chain = chain } ∷ hand_of bytes hand) (held_of bytes m ∷ with_chain i chain (hand_of bytes hand))) [
    | true ↦ refl
    | false ↦ (let e : 1 + place_in i hand ≡ suc (place_in i hand) = omega arith in ap (λ k. set (hand_of bytes (m ∷ hand)) k (record { name = (message_at k (m ∷ hand)).name; chain = chain })) e ∙ ap (λ rest. held_of bytes m ∷ rest) (set-value i chain hand))
  ]

  -- how many messages in hand have a name
  pub times-value : (i : ℕ) (hand : List Message) → times_in i (hand_of bytes hand) ≡ sum_by (named i) hand
  times-value i hand = sum_by-map (λ h. cond (h.name == i) 1 0) (held_of bytes) hand

  -- the rank of a message
  pub rank-value : (m : Message) → rank_of (chain_of bytes m) ≡ rank_in m.blocks
  rank-value m = elim m.blocks as (λ blocks. rank_of (map (shown bytes) blocks) ≡ rank_in blocks) [ [] ↦ refl | b ∷ blocks ↦ refl ]

  -- sums over all messages of the value
  sums-value : (f : List Block → ℕ) (lists : List (List Message)) → sum_by (λ q. sum_by f q) (lists_of bytes lists) ≡ sum_by (λ q. sum_by (λ m. f (chain_of bytes m)) q) lists
  sums-value f lists = sum_by-map (λ q. sum_by f q) (λ q. map (chain_of bytes) q) lists ∙ sum_by-ext (λ q. sum_by f (map (chain_of bytes) q)) (λ q. sum_by (λ m. f (chain_of bytes m)) q) (λ q. sum_by-map f (chain_of bytes) q) lists

  pub total-value : (f : List Block → ℕ) (lists : List (List Message)) (hand : List Message) (mblks dblks : ℕ) → total f (record { lists = lists_of bytes lists; hand = hand_of bytes hand; mblks = mblks; dblks = dblks }) ≡ weigh (λ m. f (chain_of bytes m)) lists hand
  total-value f lists hand mblks dblks = let l = sums-value f lists in let h = sum_by-map (λ h. f h.chain) (held_of bytes) hand in omega arith
