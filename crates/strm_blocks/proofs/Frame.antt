-- What a change of one data block leaves as it was: all that doesn't name it.
use Rattle.std.proofs.Common.{ℕ, zero, suc, ◌≡◌, ◌≢◌, ◌≤◌, ◌<◌, cond, eqb, List, [], ◌∷◌, length, get_or, map, refl, ap, ◌∙◌, arith}
use Rattle.std.proofs.Math.ListN.{set}
use Rattle.std.specs.Prelude.{sum_by}
use Rattle.std.proofs.lemmas.Bool.Decides.{nat_tests}
use Rattle.std.proofs.lemmas.List.{get_or-set_other}
use Rattle.std.proofs.lemmas.List.Sums.{sum_by-cons}
use Rattle.strm_blocks.specs.Message.{message_at, no_message, naming}
use Rattle.strm_blocks.specs.Table.{shown, chain_of, held_of, lists_of, hand_of}
use Rattle.strm_blocks.specs.declared.message.Message.{Message}
use Rattle.strm_blocks.specs.declared.message.MessageBlock.{MessageBlock}

module _ {A B : Type 0} (f g : A → B) (w : A → ℕ) (same : (x : A) → w x ≡ 0 → f x ≡ g x) where
  -- a member has no more than all
  some-le : (xs : List A) (p : ℕ) (d : A) → p < length xs → w (get_or xs p d) ≤ sum_by w xs
  some-le [] p d within = absurd (omega arith)
  some-le (x ∷ xs) zero d within = let s = sum_by-cons w x xs in omega arith
  some-le (x ∷ xs) (suc p) d within = let s = sum_by-cons w x xs in let le = some-le xs p d (omega arith) in omega arith

  -- what is made of a list whose members all have 0
  pub frame-list : (xs : List A) → sum_by w xs ≡ 0 → map f xs ≡ map g xs
  frame-list [] none = refl
  frame-list (x ∷ xs) none =
      let s = sum_by-cons w x xs in
      let here : w x ≡ 0 = omega arith in
      let rest : sum_by w xs ≡ 0 = omega arith in
      ap (λ y. y ∷ map f xs) (same x here) ∙ ap (λ ys. g x ∷ ys) (frame-list xs rest)

  -- what is made of a list of which only a member that is replaced may have more
  pub frame-set : (xs : List A) (p : ℕ) (y d : A) → p < length xs → sum_by w xs ≡ w (get_or xs p d) → map f (set xs p y) ≡ set (map g xs) p (f y)
  frame-set [] p y d within only = absurd (omega arith)
  frame-set (x ∷ xs) zero y d within only =
      let s = sum_by-cons w x xs in
      let rest : sum_by w xs ≡ 0 = omega arith in
      ap (λ ys. f y ∷ ys) (frame-list xs rest)
  frame-set (x ∷ xs) (suc p) y d within only =
      let s = sum_by-cons w x xs in
      let le = some-le xs p d (omega arith) in
      let here : w x ≡ 0 = omega arith in
      ap (λ z. z ∷ map f (set xs p y)) (same x here) ∙ ap (λ ys. g x ∷ ys) (frame-set xs p y d (omega arith) (omega arith))

module _ (bytes : List (List ℕ)) (d : ℕ) (content : List ℕ) where
  -- 1 for a block that names the data block
  abbrev pub is_of : MessageBlock → ℕ
  is_of b = cond (eqb b.number d) 1 0

  -- a block that names another data block shows the same
  pub shown-other : (b : MessageBlock) → is_of b ≡ 0 → shown (set bytes d content) b ≡ shown bytes b
  shown-other b none =
      let other : b.number ≢ d = grind (arith, nat_tests) in
      rw (get_or-set_other bytes d b.number content [] other) refl

  pub chain-other : (m : Message) → naming d m ≡ 0 → chain_of (set bytes d content) m ≡ chain_of bytes m
  chain-other m none = frame-list (shown (set bytes d content)) (shown bytes) is_of shown-other m.blocks none

  held-other : (m : Message) → naming d m ≡ 0 → held_of (set bytes d content) m ≡ held_of bytes m
  held-other m none = ap (λ chain. record { name = m.name; chain = chain }) (chain-other m none)

  list-other : (q : List Message) → sum_by (naming d) q ≡ 0 → map (chain_of (set bytes d content)) q ≡ map (chain_of bytes) q
  list-other q none = frame-list (chain_of (set bytes d content)) (chain_of bytes) (naming d) chain-other q none

  pub lists-other : (lists : List (List Message)) → sum_by (λ q. sum_by (naming d) q) lists ≡ 0 → lists_of (set bytes d content) lists ≡ lists_of bytes lists
  lists-other lists none = frame-list (λ q. map (chain_of (set bytes d content)) q) (λ q. map (chain_of bytes) q) (λ q. sum_by (naming d) q) list-other lists none

  pub hand-other : (hand : List Message) → sum_by (naming d) hand ≡ 0 → hand_of (set bytes d content) hand ≡ hand_of bytes hand
  hand-other hand none = frame-list (held_of (set bytes d content)) (held_of bytes) (naming d) held-other hand none

  -- the hand, where only one message names the data block, and gets other blocks
  pub hand-set : (hand : List Message) (p : ℕ) (m : Message) → p < length hand → sum_by (naming d) hand ≡ naming d (message_at p hand) → hand_of (set bytes d content) (set hand p m) ≡ set (hand_of bytes hand) p (held_of (set bytes d content) m)
  hand-set hand p m within only = frame-set (held_of (set bytes d content)) (held_of bytes) (naming d) held-other hand p m no_message within only

  -- a chain, where only one block names the data block, and is replaced
  pub blocks-set : (blocks : List MessageBlock) (p : ℕ) (b none : MessageBlock) → p < length blocks → sum_by is_of blocks ≡ is_of (get_or blocks p none) → map (shown (set bytes d content)) (set blocks p b) ≡ set (map (shown bytes) blocks) p (shown (set bytes d content) b)
  blocks-set blocks p b none within only = frame-set (shown (set bytes d content)) (shown bytes) is_of shown-other blocks p b none within only
