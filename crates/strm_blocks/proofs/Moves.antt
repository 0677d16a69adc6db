-- What holds of a store's fields still holds where messages and blocks move.
use Rattle.std.proofs.Common.{ℕ, ◌≡◌, ◌≤◌, ◌<◌, ◌+◌, ◌-◌, cond, eqb, List, [], ◌∷◌, ◌++◌, length, drop, get_or, sym, ap, ◌∙◌, arith}
use Rattle.std.proofs.Math.ListN.{set}
use Rattle.std.specs.Prelude.{sum_by, count_by, replicate}
use Rattle.strm_blocks.proofs.ListParts.{sums-empty}
use Rattle.std.proofs.lemmas.Bool.Decides.{nat_tests}
use Rattle.std.proofs.lemmas.List.{length-drop, length-append}
use Rattle.std.proofs.lemmas.List.Sums.{sum_by-cons, sum_by-append}
use Rattle.strm_types.specs.declared.limits.TheConstants.{LISTS}
use Rattle.strm_blocks.specs.Message.{message_at, without_at, with_blocks, weigh, named, naming, lacking, block_count, askew, AreOrdered}
use Rattle.strm_blocks.specs.Table.{IsTable}
use Rattle.strm_blocks.specs.declared.message.Message.{Message}
use Rattle.strm_blocks.specs.declared.message.MessageBlock.{MessageBlock}
use Rattle.strm_blocks.proofs.Nodes.{ones, sum-without, sum-set, sum-first, weigh-le}

-- how far a block's places are out of order
abbrev pub askew_row : MessageBlock → ℕ
askew_row b = (b.start - b.end) + (b.end - 256)

module _ {mblks : ℕ} {lists : List (List Message)} {hand idle : List Message} {spare : List MessageBlock} {counts : List ℕ} (is : IsTable mblks lists hand idle spare counts) where
  -- each message has a block, so that no more messages than blocks are there
  pub messages-few : weigh (λ m. 1) lists hand ≤ weigh block_count lists hand
  messages-few = let le = weigh-le (λ m. 1) block_count lacking (λ m. omega arith) lists hand in let f = is.filled in omega arith

  -- where a block is spare, a message is idle
  pub idle-some : 0 < length spare → 0 < length idle
  idle-some some = let few = messages-few in let b = is.blocks in let m = is.messages in omega arith

  -- lists of messages are short
  pub hand-few : length idle + length hand ≤ 65536
  hand-few = let m = is.messages in let f = is.few in let o = ones hand in omega arith

  -- the name of an idle message is free
  pub idle-fresh : 0 < length idle → sum_by (named (message_at 0 idle).name) hand ≡ 0
  idle-fresh some =
      let i = (message_at 0 idle).name in
      let a = is.apart i in
      let s = sum-first (named i) idle some in
      let n : named i (message_at 0 idle) ≡ 1 = grind (arith, nat_tests) in
      omega arith

  -- messages that move between the lists and the hand
  pub IsTable-moved : (lists' : List (List Message)) (hand' : List Message) → length lists' ≡ LISTS → AreOrdered lists' → ((g : Message → ℕ) → weigh g lists' hand' ≡ weigh g lists hand) → IsTable mblks lists' hand' idle spare counts
  IsTable-moved lists' hand' eight ordered' same = record {
    eight = eight;
    few = is.few;
    blocks = let s = same block_count in let b = is.blocks in omega arith;
    messages = let s = same (λ m. 1) in let b = is.messages in omega arith;
    filled = same lacking ∙ is.filled;
    apart = λ i. (let s = same (named i) in let b = is.apart i in omega arith);
    referenced = λ d. is.referenced d ∙ sym (same (naming d));
    straight = same askew ∙ is.straight;
    ordered = ordered';
  }

  -- a message in hand with other blocks, as many of each data block
  pub IsTable-edited : (p : ℕ) (blocks : List MessageBlock) → p < length hand → length blocks ≡ length (message_at p hand).blocks → ((d : ℕ) → naming d (with_blocks blocks (message_at p hand)) ≡ naming d (message_at p hand)) → sum_by askew_row blocks ≡ 0 → IsTable mblks lists (set hand p (with_blocks blocks (message_at p hand))) idle spare counts
  IsTable-edited p blocks within len names places =
      let m' = with_blocks blocks (message_at p hand) in
      record {
        eight = is.eight;
        few = is.few;
        blocks = let s = sum-set block_count hand p m' within in let b = is.blocks in omega arith;
        messages = let s = sum-set (λ m. 1) hand p m' within in let b = is.messages in omega arith;
        filled = let s = sum-set lacking hand p m' within in let b = is.filled in omega arith;
        apart = λ i. (let s = sum-set (named i) hand p m' within in let b = is.apart i in omega arith);
        referenced = λ d. (let s = sum-set (naming d) hand p m' within in let b = is.referenced d in let n = names d in omega arith);
        straight = let s = sum-set askew hand p m' within in let b = is.straight in omega arith;
        ordered = is.ordered;
      }

  -- an idle message with one spare block is in hand
  pub IsTable-added : (row : MessageBlock) (counts' : List ℕ) → 0 < length spare → askew_row row ≡ 0 → ((d : ℕ) → get_or counts' d 0 ≡ get_or counts d 0 + cond (eqb row.number d) 1 0) → IsTable mblks lists (with_blocks (row ∷ []) (message_at 0 idle) ∷ hand) (drop 1 idle) (drop 1 spare) counts'
  IsTable-added row counts' some straight more =
      let m' = with_blocks (row ∷ []) (message_at 0 idle) in
      let idle_some = idle-some some in
      let fewer = length-drop 1 spare in
      let fewer_idle = length-drop 1 idle in
      record {
        eight = is.eight;
        few = is.few;
        blocks = let s = sum_by-cons block_count m' hand in let b = is.blocks in omega arith;
        messages = let s = sum_by-cons (λ (m : Message). 1) m' hand in let b = is.messages in omega arith;
        filled = let s = sum_by-cons lacking m' hand in let b = is.filled in omega arith;
        apart = λ i. (let s = sum_by-cons (named i) m' hand in let f = sum-first (named i) idle idle_some in let b = is.apart i in omega arith);
        referenced = λ d. (let s = sum_by-cons (naming d) m' hand in let n = sum_by-cons (λ (b : MessageBlock). cond (eqb b.number d) 1 0) row [] in let b = is.referenced d in let m = more d in omega arith);
        straight = let s = sum_by-cons askew m' hand in let n = sum_by-cons askew_row row [] in let b = is.straight in omega arith;
        ordered = is.ordered;
      }

  -- messages that are taken out and give back their blocks
  pub IsTable-freed : (lists' : List (List Message)) (hand' taken idle' : List Message) (spare' : List MessageBlock) (counts' : List ℕ) → length lists' ≡ LISTS → AreOrdered lists' → ((g : Message → ℕ) → weigh g lists' hand' + sum_by g taken ≡ weigh g lists hand) → length spare' ≡ length spare + sum_by block_count taken → length idle' ≡ length idle + length taken → ((i : ℕ) → sum_by (named i) idle' ≡ sum_by (named i) idle + sum_by (named i) taken) → ((d : ℕ) → get_or counts' d 0 + sum_by (naming d) taken ≡ get_or counts d 0) → IsTable mblks lists' hand' idle' spare' counts'
  IsTable-freed lists' hand' taken idle' spare' counts' eight ordered' same rows nodes names fewer = record {
    eight = eight;
    few = is.few;
    blocks = let s = same block_count in let b = is.blocks in omega arith;
    messages = let s = same (λ m. 1) in let b = is.messages in let o = ones taken in omega arith;
    filled = let s = same lacking in let b = is.filled in omega arith;
    apart = λ i. (let s = same (named i) in let b = is.apart i in let n = names i in omega arith);
    referenced = λ d. (let s = same (naming d) in let b = is.referenced d in let f = fewer d in omega arith);
    straight = let s = same askew in let b = is.straight in omega arith;
    ordered = ordered';
  }

  -- what is taken out has no more blocks than there are references to give up, and there is room for all of it
  pub freed-named : (lists' : List (List Message)) (hand' taken : List Message) → ((g : Message → ℕ) → weigh g lists' hand' + sum_by g taken ≡ weigh g lists hand) → (d : ℕ) → sum_by (naming d) taken ≤ get_or counts d 0
  freed-named lists' hand' taken same d = let s = same (naming d) in let b = is.referenced d in omega arith

  pub freed-messages : (lists' : List (List Message)) (hand' taken : List Message) → ((g : Message → ℕ) → weigh g lists' hand' + sum_by g taken ≡ weigh g lists hand) → length idle + length taken ≤ 65536
  freed-messages lists' hand' taken same = let s = same (λ m. 1) in let m = is.messages in let f = is.few in let o = ones taken in omega arith

  pub freed-blocks : (lists' : List (List Message)) (hand' taken : List Message) → ((g : Message → ℕ) → weigh g lists' hand' + sum_by g taken ≡ weigh g lists hand) → length spare + sum_by block_count taken ≤ 65536
  freed-blocks lists' hand' taken same = let s = same block_count in let m = is.blocks in let f = is.few in omega arith

  -- a message of the hand taken out
  pub freed-one : (p : ℕ) (hand' taken : List Message) → p < length hand → hand' ≡ without_at p hand → taken ≡ message_at p hand ∷ [] → (g : Message → ℕ) → weigh g lists hand' + sum_by g taken ≡ weigh g lists hand
  freed-one p hand' taken within eh et g =
      let w = sum-without g hand p within in
      let a = ap (λ (q : List Message). sum_by g q) eh in
      let b = ap (λ (q : List Message). sum_by g q) et in
      let o = sum_by-cons g (message_at p hand) [] in
      omega arith

  -- all messages taken out
  pub freed-all : (lists' : List (List Message)) (hand' taken : List Message) → lists' ≡ replicate LISTS [] → hand' ≡ [] → ((g : Message → ℕ) → sum_by g taken ≡ weigh g lists hand) → (g : Message → ℕ) → weigh g lists' hand' + sum_by g taken ≡ weigh g lists hand
  freed-all lists' hand' taken el eh all g =
      let l = ap (λ (lists : List (List Message)). sum_by (λ q. sum_by g q) lists) el ∙ sums-empty g LISTS in
      let h = ap (λ (q : List Message). sum_by g q) eh in
      let a = all g in
      omega arith

  -- two messages in hand that become one
  pub IsTable-linked : (p r : ℕ) → p < length hand → r < length (without_at p hand) → IsTable mblks lists (set (without_at p hand) r (with_blocks ((message_at r (without_at p hand)).blocks ++ (message_at p hand).blocks) (message_at r (without_at p hand)))) (with_blocks [] (message_at p hand) ∷ idle) spare counts
  IsTable-linked p r within there =
      let second = message_at p hand in
      let left = without_at p hand in
      let first = message_at r left in
      let m' = with_blocks (first.blocks ++ second.blocks) first in
      let empty = with_blocks [] second in
      record {
        eight = is.eight;
        few = is.few;
        blocks = let w = sum-without block_count hand p within in let s = sum-set block_count left r m' there in let l = length-append first.blocks second.blocks in let b = is.blocks in omega arith;
        messages = let w = sum-without (λ m. 1) hand p within in let s = sum-set (λ m. 1) left r m' there in let b = is.messages in omega arith;
        filled = let w = sum-without lacking hand p within in let s = sum-set lacking left r m' there in let l = length-append first.blocks second.blocks in let b = is.filled in omega arith;
        apart = λ i. (let w = sum-without (named i) hand p within in let s = sum-set (named i) left r m' there in let e = sum_by-cons (named i) empty idle in let b = is.apart i in omega arith);
        referenced = λ d. (let w = sum-without (naming d) hand p within in let s = sum-set (naming d) left r m' there in let l = sum_by-append (λ (b : MessageBlock). cond (eqb b.number d) 1 0) first.blocks second.blocks in let b = is.referenced d in omega arith);
        straight = let w = sum-without askew hand p within in let s = sum-set askew left r m' there in let l = sum_by-append askew_row first.blocks second.blocks in let b = is.straight in omega arith;
        ordered = is.ordered;
      }

  -- a message in hand that is parted: there is an idle message for the rest
  pub idle-for-rest : (p : ℕ) (front rest : List MessageBlock) → p < length hand → (message_at p hand).blocks ≡ front ++ rest → 0 < length front → 0 < length rest → 0 < length idle
  idle-for-rest p front rest within parts some more =
      let m' = with_blocks front (message_at p hand) in
      let le = weigh-le (λ m. 1) block_count lacking (λ m. omega arith) lists (set hand p m') in
      let c = sum-set block_count hand p m' within in
      let o = sum-set (λ m. 1) hand p m' within in
      let k = sum-set lacking hand p m' within in
      let l = length-append front rest in
      let n = ap (λ (xs : List MessageBlock). length xs) parts in
      let b = is.blocks in let m = is.messages in let f = is.filled in
      omega arith

  pub IsTable-unlinked : (p : ℕ) (front rest : List MessageBlock) → p < length hand → (message_at p hand).blocks ≡ front ++ rest → 0 < length front → 0 < length rest → IsTable mblks lists (with_blocks rest (message_at 0 idle) ∷ set hand p (with_blocks front (message_at p hand))) (drop 1 idle) spare counts
  IsTable-unlinked p front rest within parts some more =
      let m' = with_blocks front (message_at p hand) in
      let node = with_blocks rest (message_at 0 idle) in
      let left = set hand p m' in
      let idle_some = idle-for-rest p front rest within parts some more in
      let fewer_idle = length-drop 1 idle in
      record {
        eight = is.eight;
        few = is.few;
        blocks = let s = sum-set block_count hand p m' within in let h = sum_by-cons block_count node left in let l = length-append front rest in let n = ap (λ (xs : List MessageBlock). length xs) parts in let b = is.blocks in omega arith;
        messages = let s = sum-set (λ m. 1) hand p m' within in let h = sum_by-cons (λ (m : Message). 1) node left in let b = is.messages in omega arith;
        filled = let s = sum-set lacking hand p m' within in let h = sum_by-cons lacking node left in let b = is.filled in omega arith;
        apart = λ i. (let s = sum-set (named i) hand p m' within in let h = sum_by-cons (named i) node left in let f = sum-first (named i) idle idle_some in let b = is.apart i in omega arith);
        referenced = λ d. (let s = sum-set (naming d) hand p m' within in let h = sum_by-cons (naming d) node left in let n = ap (λ (xs : List MessageBlock). count_by (λ b. eqb b.number d) xs) parts in let l = sum_by-append (λ (b : MessageBlock). cond (eqb b.number d) 1 0) front rest in let b = is.referenced d in omega arith);
        straight = let s = sum-set askew hand p m' within in let h = sum_by-cons askew node left in let n = ap (λ (xs : List MessageBlock). sum_by askew_row xs) parts in let l = sum_by-append askew_row front rest in let b = is.straight in omega arith;
        ordered = is.ordered;
      }
