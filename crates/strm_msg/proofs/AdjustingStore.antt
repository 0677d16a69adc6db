-- A store in which a message was trimmed at one end, or wasn't.
use Rattle.std.proofs.Common.{ℕ, ℤ, pos, unsigned_abs, ◌≡◌, ◌≤◌, ◌<◌, Bool, true, false, cond, List, length, map, sym, ap, ◌∙◌}
use Rattle.strm_blocks.specs.Blocks.{Block, StoreValue, in_hand, changed, IsInHand, free_m, free_d}
use Rattle.strm_msg.specs.declared.adjust.End.{End}
use Rattle.strm_msg.specs.Bytes.{bytes_of}
use Rattle.strm_msg.specs.Runs.{front_run}
use Rattle.strm_msg.specs.Adjusted.{trimmed_front, trimmed, adjusted, has_bytes, left_of, seen_from, trim_at, end_of, without_bytes}
use Rattle.strm_msg.proofs.Hands.{changed-chain, changed-same}
use Rattle.strm_msg.proofs.AdjustingBytes.{too-few, enough, trimmed-at, trimmed-bytes}
use Rattle.strm_msg.proofs.AdjustingBlocks.{adjusted-keeps, adjusted-none, same-free_m, same-free_d}

pub record IsAdjusted (old new : StoreValue) (i : ℕ) (n : ℤ) (answer : Bool) : Type 0 where
  pub answer_is : answer ≡ has_bytes n (in_hand old i)
  pub after : new ≡ changed old i (adjusted n (in_hand old i))

module _ (old : StoreValue) (i : ℕ) (n : ℤ) {end : End} {size len : ℕ} (end_is : end ≡ end_of n) (size_is : size ≡ unsigned_abs n) (len_is : len ≡ length (bytes_of (front_run (seen_from end (in_hand old i))))) where
  pub refused-is : len < size → IsAdjusted old old i n false
  refused-is few =
      let chain = in_hand old i in
      let none = too-few n chain end_is size_is len_is few in
      record {
        answer_is = none;
        after = sym (ap (λ v. changed old i (cond v (trimmed n chain) chain)) (sym none) ∙ changed-same old i);
      }

  pub trimmed-is : {new : StoreValue} {blocks : ℕ} → size ≤ len → blocks ≡ length (front_run (seen_from end (in_hand old i))) → new ≡ changed old i (seen_from end (trimmed_front (trim_at end) size blocks (seen_from end (in_hand old i)))) → IsAdjusted old new i n true
  trimmed-is has blocks_is trim =
      let chain = in_hand old i in
      let all = enough n chain end_is size_is len_is has in
      record {
        answer_is = all;
        after = trim ∙ ap (λ xs. changed old i xs) (trimmed-at n chain end_is size_is blocks_is) ∙ ap (λ v. changed old i (cond v (trimmed n chain) chain)) all;
      }

module _ {old new : StoreValue} {i : ℕ} {n : ℤ} {answer : Bool} (is : IsInHand old i) (so : IsAdjusted old new i n answer) where
  abbrev chain : List Block
  chain = in_hand old i

  adjusted-chain : in_hand new i ≡ adjusted n chain
  adjusted-chain = ap (λ s. in_hand s i) so.after ∙ changed-chain old i (adjusted n chain) is

  pub adjusted-nothing : n ≡ pos 0 → new ≡ old
  adjusted-nothing none =
      so.after ∙ ap (λ m. changed old i (adjusted m chain)) none ∙ ap (λ xs. changed old i xs) (adjusted-none chain) ∙ changed-same old i

  pub adjusted-left : answer ≡ true → bytes_of (in_hand new i) ≡ left_of n (bytes_of chain)
  adjusted-left done =
      let has = sym done ∙ so.answer_is in
      ap (λ xs. bytes_of xs) adjusted-chain ∙ ap (λ v. bytes_of (cond v (trimmed n chain) chain)) (sym has) ∙ trimmed-bytes n chain has

  pub adjusted-blocks : map without_bytes (in_hand new i) ≡ map without_bytes chain
  adjusted-blocks = ap (λ xs. map without_bytes xs) adjusted-chain ∙ adjusted-keeps n chain

  pub adjusted-free_m : free_m new ≡ free_m old
  adjusted-free_m = ap (λ s. free_m s) so.after ∙ same-free_m old i (adjusted n chain) is (adjusted-keeps n chain)

  pub adjusted-free_d : free_d new ≡ free_d old
  adjusted-free_d = ap (λ s. free_d s) so.after ∙ same-free_d old i (adjusted n chain) is (adjusted-keeps n chain)
