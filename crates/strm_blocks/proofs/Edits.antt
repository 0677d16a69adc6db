-- A block of a message in hand that is put in place of another one.
use Rattle.std.proofs.Common.{ℕ, ◌≡◌, ◌<◌, ◌+◌, ◌-◌, cond, eqb, List, [], ◌∷◌, length, get_or, take, drop, min, refl, sym, ap, ◌∙◌, arith}
use Rattle.std.proofs.Math.ListN.{set, length-set}
use Rattle.std.specs.Prelude.{slice_range}
use Rattle.std.proofs.lemmas.List.{map-set, drop_min}
use Rattle.std.proofs.lemmas.List.Sums.{sum_by-set}
use Rattle.strm_blocks.specs.Blocks.{Block, Held, StoreValue, IsInHand, in_hand, block_at, changed, with_block, trimmed_head, trimmed_tail, banded}
use Rattle.strm_blocks.specs.Message.{message_at, row_at, no_row, with_blocks, place_in, naming}
use Rattle.strm_blocks.specs.Table.{shown, value_of, IsTable, IsTableStore}
use Rattle.strm_blocks.specs.declared.table.TableStore.TheInside.{Inside}
use Rattle.strm_blocks.specs.declared.message.Message.{Message}
use Rattle.strm_blocks.specs.declared.message.MessageBlock.{MessageBlock}
use Rattle.strm_blocks.proofs.Values.{changed-value}
use Rattle.strm_blocks.proofs.Stores.{value}
use Rattle.strm_blocks.proofs.Moves.{askew_row, IsTable-edited}
use Rattle.strm_blocks.proofs.Found.{found, chain-is, block-is, block-within, row-straight, row-there, message-straight, row-named}
use Rattle.strm_blocks.proofs.Found.{within as found-within}
use Rattle.strm_blocks.proofs.Shown.{length-range, shown-head, shown-tail}

module _ {mblks : ℕ} {lists : List (List Message)} {hand idle : List Message} {spare : List MessageBlock} {counts : List ℕ} (is : IsTable mblks lists hand idle spare counts) (p n : ℕ) (row : MessageBlock) (there : p < length hand) (within : n < length (message_at p hand).blocks) where
  -- what holds of the fields still holds
  pub IsTable-replaced : row.number ≡ (row_at n (message_at p hand).blocks).number → askew_row row ≡ 0 → IsTable mblks lists (set hand p (with_blocks (set (message_at p hand).blocks n row) (message_at p hand))) idle spare counts
  IsTable-replaced same straight =
      let blocks = (message_at p hand).blocks in
      let count = λ (d : ℕ). (let s = sum_by-set (λ (b : MessageBlock). cond (eqb b.number d) 1 0) blocks n row no_row within in let w : cond {A = ℕ} (eqb row.number d) 1 0 ≡ cond {A = ℕ} (eqb (row_at n blocks).number d) 1 0 = ap (λ (k : ℕ). cond {A = ℕ} (eqb k d) 1 0) same in let e : naming d (with_blocks (set blocks n row) (message_at p hand)) ≡ naming d (message_at p hand) = omega arith in e) in
      let places = sum_by-set askew_row blocks n row no_row within in
      let old = row-straight is p there n within in
      let all = message-straight is p there in
      IsTable-edited is p (set blocks n row) there (length-set blocks n row) count (omega arith)

module _ (t : Inside) {s : StoreValue} (is : value_of t ≡ s) (i n : ℕ) (row : MessageBlock) where
  -- the value with the other block
  pub replaced-value : (blocks' : List Message) → blocks' ≡ set t.hand (place_in i t.hand) (with_blocks (set (found t is i).blocks n row) (found t is i)) → value t.data.bytes t.lists blocks' t.mblks (length t.data.references) ≡ changed s i (with_block n (shown t.data.bytes row) (in_hand s i))
  replaced-value hand' eh =
      let bytes = t.data.bytes in
      let blocks = (found t is i).blocks in
      let chain = map-set (shown bytes) blocks n row in
      let e1 = ap (λ (hand : List Message). value bytes t.lists hand t.mblks (length t.data.references)) eh in
      let e2 = ap (λ (hand : List Held). record (value_of t) { hand = hand }) (changed-value bytes i (set blocks n row) t.hand) in
      let e3 = ap (λ (chain : List Block). changed (value_of t) i chain) (chain ∙ ap (λ (chain : List Block). set chain n (shown bytes row)) (sym (chain-is t is i))) in
      let e4 = ap (λ (s' : StoreValue). changed s' i (with_block n (shown bytes row) (in_hand s i))) is in
      e1 ∙ e2 ∙ e3 ∙ e4

-- a block of a message in hand, with the row that it is shown from
module _ (t : Inside) {s : StoreValue} (is : value_of t ≡ s) (holds : IsTableStore t) (i n : ℕ) (here : IsInHand s i) (inside : n < length (in_hand s i)) (row : MessageBlock) (same : row ≡ row_at n (found t is i).blocks) where
  pub row-is : block_at n (in_hand s i) ≡ shown t.data.bytes row
  row-is = block-is t is i n inside ∙ ap (λ (b : MessageBlock). shown t.data.bytes b) (sym same)

  pub in-order : askew_row row ≡ 0
  in-order = ap (λ (b : MessageBlock). askew_row b) same ∙ row-straight holds (place_in i t.hand) (found-within t is i here) n (block-within t is i n inside)

  pub named-count : 0 < get_or t.data.references row.number 0
  named-count = let e = ap (λ (b : MessageBlock). get_or t.data.references b.number 0) same in let r = row-named holds (place_in i t.hand) (found-within t is i here) n (block-within t is i n inside) in omega arith

  pub there : row.number < length t.data.references
  there = let e = ap (λ (b : MessageBlock). b.number) same in let r = row-there holds (place_in i t.hand) (found-within t is i here) n (block-within t is i n inside) in omega arith

  pub number-is : row.number ≡ (row_at n (found t is i).blocks).number
  number-is = ap (λ (b : MessageBlock). b.number) same

  pub bytes-len : ((d : ℕ) → d < length t.data.references → length (get_or t.data.bytes d []) ≡ 256) → length (block_at n (in_hand s i)).bytes ≡ row.end - row.start
  bytes-len sized =
      let o = in-order in
      let z = sized row.number there in
      ap (λ (b : Block). length b.bytes) row-is ∙ length-range (get_or t.data.bytes row.number []) row.start row.end (omega arith) (omega arith)

  -- the fields and the value with another row in its place
  module _ (row' : MessageBlock) (hand' : List Message) (changed-hand : hand' ≡ set t.hand (place_in i t.hand) (with_blocks (set (found t is i).blocks n row') (found t is i))) where
    pub IsTable-changed : row'.number ≡ row.number → askew_row row' ≡ 0 → IsTable t.mblks t.lists hand' t.idle t.spare t.data.references
    IsTable-changed number straight =
        rw changed-hand (IsTable-replaced holds (place_in i t.hand) n row' (found-within t is i here) (block-within t is i n inside) (number ∙ number-is) straight)

    pub edited-value : (b : Block) → shown t.data.bytes row' ≡ b → value t.data.bytes t.lists hand' t.mblks (length t.data.references) ≡ changed s i (with_block n b (in_hand s i))
    edited-value b shows = replaced-value t is i n row' hand' changed-hand ∙ ap (λ (b : Block). changed s i (with_block n b (in_hand s i))) shows

  -- the read place moved on
  pub head-is : ((d : ℕ) → d < length t.data.references → length (get_or t.data.bytes d []) ≡ 256) → (k m : ℕ) → m ≡ min k (row.end - row.start) → shown t.data.bytes (record row { start = row.start + m }) ≡ trimmed_head k (block_at n (in_hand s i))
  head-is sized k m few =
      let l = bytes-len sized in
      let bytes = shown-head (get_or t.data.bytes row.number []) row.start row.end m (omega arith) in
      let xs = slice_range (get_or t.data.bytes row.number []) row.start row.end in
      let long : length xs ≡ row.end - row.start = ap (λ (b : Block). length b.bytes) (sym row-is) ∙ l in
      let most : m ≡ min k (length xs) = omega arith in
      let all = bytes ∙ ap (λ (j : ℕ). drop j xs) most ∙ drop_min k xs in
      ap (λ (bytes : List ℕ). record (shown t.data.bytes row) { bytes = bytes }) all ∙ ap (λ (b : Block). trimmed_head k b) (sym row-is)

  -- the write place moved back
  pub tail-is : ((d : ℕ) → d < length t.data.references → length (get_or t.data.bytes d []) ≡ 256) → (k m : ℕ) → m ≡ min k (row.end - row.start) → shown t.data.bytes (record row { end = row.end - m }) ≡ trimmed_tail k (block_at n (in_hand s i))
  tail-is sized k m few =
      let l = bytes-len sized in
      let o = in-order in
      let z = sized row.number there in
      let xs = slice_range (get_or t.data.bytes row.number []) row.start row.end in
      let long : length xs ≡ row.end - row.start = ap (λ (b : Block). length b.bytes) (sym row-is) ∙ l in
      let left : length xs - m ≡ length xs - k = omega arith in
      let bytes = shown-tail (get_or t.data.bytes row.number []) row.start row.end m (omega arith) (omega arith) (omega arith) ∙ ap (λ (j : ℕ). take j xs) left in
      let room : 256 - (row.end - m) ≡ 256 - row.end + min k (length xs) = omega arith in
      ap (λ (bytes : List ℕ). record (shown t.data.bytes row) { bytes = bytes; room = 256 - (row.end - m) }) bytes ∙ ap (λ (room : ℕ). record (trimmed_tail k (shown t.data.bytes row)) { room = room }) room ∙ ap (λ (b : Block). trimmed_tail k b) (sym row-is)

-- another band
pub banded-is : (band : ℕ) (chain : List Block) → with_block 0 (record (block_at 0 chain) { band = band }) chain ≡ banded band chain
banded-is band [] = refl
banded-is band (b ∷ chain) = refl
