-- A message in hand, found by its name: where it is, and what its blocks are.
use Rattle.std.proofs.Common.{ℕ, ◌≡◌, ◌<◌, cond, eqb, List, length, get_or, map, sym, ap, ◌∙◌, arith}
use Rattle.std.specs.Prelude.{sum_by}
use Rattle.std.proofs.lemmas.Bool.Decides.{nat_tests}
use Rattle.std.proofs.lemmas.List.{length-map, get_or-map}
use Rattle.std.proofs.lemmas.List.Sums.{get_or-le-sum_by}
use Rattle.strm_blocks.specs.Blocks.{StoreValue, IsInHand, in_hand, block_at, no_block, times_in}
use Rattle.strm_blocks.specs.Message.{message_at, row_at, no_row, place_in, naming, lacking, askew}
use Rattle.strm_blocks.specs.Table.{shown, chain_of, hand_of, value_of, IsTable, IsTableStore}
use Rattle.strm_blocks.specs.declared.table.TableStore.TheInside.{Inside}
use Rattle.strm_blocks.specs.declared.message.Message.{Message}
use Rattle.strm_blocks.specs.declared.message.MessageBlock.{MessageBlock}
use Rattle.strm_blocks.proofs.Nodes.{place-within, weigh-in_hand}
use Rattle.strm_blocks.proofs.Values.{times-value, blocks-value}
use Rattle.strm_blocks.proofs.FreeList.{named-within}
use Rattle.strm_blocks.proofs.Moves.{askew_row}

-- a block of a chain, of a list that may be read past its end
block-shown : (bytes : List (List ℕ)) (blocks : List MessageBlock) (n : ℕ) → n < length blocks → block_at n (map (shown bytes) blocks) ≡ shown bytes (row_at n blocks)
block-shown bytes blocks n within = get_or-map (shown bytes) blocks n no_row no_block within

module _ (t : Inside) {s : StoreValue} (is : value_of t ≡ s) (i : ℕ) where
  -- the message of the name
  abbrev pub found : Message
  found = message_at (place_in i t.hand) t.hand

  -- it is at its place
  pub within : IsInHand s i → place_in i t.hand < length t.hand
  within here =
      let times : times_in i (hand_of t.data.bytes t.hand) ≡ 1 = ap (λ (s : StoreValue). times_in i s.hand) is ∙ here in
      let named = times-value t.data.bytes i t.hand in
      place-within i t.hand (omega arith)

  -- and its blocks are these
  pub chain-is : in_hand s i ≡ chain_of t.data.bytes found
  chain-is = ap (λ (s : StoreValue). in_hand s i) (sym is) ∙ sym (blocks-value t.data.bytes i t.hand)

  pub chain-len : length (in_hand s i) ≡ length found.blocks
  chain-len = ap length chain-is ∙ length-map found.blocks (shown t.data.bytes)

  pub block-within : (n : ℕ) → n < length (in_hand s i) → n < length found.blocks
  block-within n within = let l = chain-len in omega arith

  pub block-is : (n : ℕ) → n < length (in_hand s i) → block_at n (in_hand s i) ≡ shown t.data.bytes (row_at n found.blocks)
  block-is n within = ap (λ chain. block_at n chain) chain-is ∙ block-shown t.data.bytes found.blocks n (block-within n within)

-- what holds of each block of a message in hand
module _ {mblks : ℕ} {lists : List (List Message)} {hand idle : List Message} {spare : List MessageBlock} {counts : List ℕ} (is : IsTable mblks lists hand idle spare counts) (p : ℕ) (there : p < length hand) where
  -- the message has one
  pub some-block : 0 < length (message_at p hand).blocks
  some-block = let w = weigh-in_hand lacking lists hand p there in let f = is.filled in omega arith

  -- its data block is named
  pub row-named : (n : ℕ) → n < length (message_at p hand).blocks → 0 < get_or counts (row_at n (message_at p hand).blocks).number 0
  row-named n within =
      let blocks = (message_at p hand).blocks in
      let d = (row_at n blocks).number in
      let w = weigh-in_hand (naming d) lists hand p there in
      let r = is.referenced d in
      let one : cond {A = ℕ} (eqb d d) 1 0 ≡ 1 = grind (arith, nat_tests) in
      let le = get_or-le-sum_by (λ (b : MessageBlock). cond (eqb b.number d) 1 0) blocks n no_row within in
      omega arith

  pub row-there : (n : ℕ) → n < length (message_at p hand).blocks → (row_at n (message_at p hand).blocks).number < length counts
  row-there n within = named-within counts _ (row-named n within)

  -- its blocks have their places in order
  pub message-straight : sum_by askew_row (message_at p hand).blocks ≡ 0
  message-straight = let w = weigh-in_hand askew lists hand p there in let s = is.straight in omega arith

  -- its places are in order, within the data block
  pub row-straight : (n : ℕ) → n < length (message_at p hand).blocks → askew_row (row_at n (message_at p hand).blocks) ≡ 0
  row-straight n within =
      let blocks = (message_at p hand).blocks in
      let w = weigh-in_hand askew lists hand p there in
      let s = is.straight in
      let le = get_or-le-sum_by askew_row blocks n no_row within in
      omega arith

-- a message in hand has a first block
pub first-within : (t : Inside) {s : StoreValue} (is : value_of t ≡ s) → IsTableStore t → (i : ℕ) → IsInHand s i → 0 < length (in_hand s i)
first-within t is holds i here = let l = chain-len t is i in let b = some-block holds (place_in i t.hand) (within t is i here) in omega arith
