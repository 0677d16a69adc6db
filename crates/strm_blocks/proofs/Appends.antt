-- Bytes that are written behind a message in hand.
use Rattle.std.proofs.Common.{ℕ, ◌≡◌, ◌≤◌, ◌<◌, ◌+◌, ◌-◌, Bool, true, false, cond, eqb, ltb, List, [], ◌∷◌, ◌++◌, length, get_or, map, min, refl, sym, ap, ◌∙◌, arith}
use Rattle.std.proofs.Math.ListN.{set}
use Rattle.std.specs.Prelude.{sum_by, slice_range, ◌==◌}
use Rattle.std.proofs.lemmas.Bool.Decides.{nat_tests}
use Rattle.std.proofs.lemmas.List.{append-nil, set-get_or, get_or-set_same}
use Rattle.std.proofs.lemmas.List.Sums.{get_or-le-sum_by}
use Rattle.strm_blocks.specs.Blocks.{Block, Held, StoreValue, IsInHand, in_hand, no_block, changed, with_block, with_chain, chain_in, written, extended, last_of, taken_by, references}
use Rattle.strm_blocks.specs.Message.{no_message, row_at, no_row, with_blocks, place_in, naming}
use Rattle.strm_blocks.specs.Table.{shown, hand_of, value_of, IsTableStore}
use Rattle.strm_blocks.specs.declared.table.TableStore.TheInside.{Inside}
use Rattle.strm_blocks.specs.declared.message.Message.{Message}
use Rattle.strm_blocks.specs.declared.message.MessageBlock.{MessageBlock}
use Rattle.strm_blocks.proofs.Nodes.{weigh-in_hand}
use Rattle.strm_blocks.proofs.Values.{set-value}
use Rattle.strm_blocks.proofs.Stores.{value, value-same, counted}
use Rattle.strm_blocks.proofs.Frame.{is_of, lists-other, hand-set, blocks-set}
use Rattle.strm_blocks.proofs.Found.{found, chain-is, chain-len, some-block}
use Rattle.strm_blocks.proofs.Found.{within as found-within}
use Rattle.strm_blocks.proofs.Edits.{row-is}

-- a hand with the chain that it has
with_chain-same : (i : ℕ) (hand : List Held) → with_chain i (chain_in i hand) hand ≡ hand
with_chain-same i [] = refl
with_chain-same i (h ∷ hand) = elim (h.name == i) as (λ b. cond b (record h { chain = cond b h.chain (chain_in i hand) } ∷ hand) (h ∷ with_chain i (cond b h.chain (chain_in i hand)) hand) ≡ h ∷ hand) [
  | true ↦ refl
  | false ↦ ap (λ rest. h ∷ rest) (with_chain-same i hand)
]

-- a store of lists and a hand that are equal to these
made-of : (mblks dblks : ℕ) {lists lists' : List (List (List Block))} {hand hand' : List Held} → lists ≡ lists' → hand ≡ hand' → ◌≡◌ {A = StoreValue} (record { lists = lists; hand = hand; mblks = mblks; dblks = dblks }) (record { lists = lists'; hand = hand'; mblks = mblks; dblks = dblks })
made-of mblks dblks {lists} {lists'} {hand} {hand'} el eh = ap (λ x. record { lists = x; hand = hand; mblks = mblks; dblks = dblks }) el ∙ ap (λ x. record { lists = lists'; hand = x; mblks = mblks; dblks = dblks }) eh

-- writing nothing changes nothing
pub extended-none : (s : StoreValue) (i : ℕ) → changed s i (extended [] (in_hand s i)) ≡ s
extended-none s i =
    let chain = in_hand s i in
    let b = last_of chain in
    let room : b.room - 0 ≡ b.room = omega arith in
    let same = ap (λ bytes. record b { bytes = bytes; room = b.room - 0 }) (append-nil b.bytes) ∙ ap (λ room. record b { room = room }) room in
    let kept = ap (λ b. with_block (length chain - 1) b chain) same ∙ set-get_or chain (length chain - 1) no_block in
    ap (λ chain. changed s i chain) kept ∙ ap (λ hand. record s { hand = hand }) (with_chain-same i s.hand)

module _ (t : Inside) {s : StoreValue} (is : value_of t ≡ s) (holds : IsTableStore t) (i : ℕ) (here : IsInHand s i) where
  abbrev pub blocks : List MessageBlock
  blocks = (found t is i).blocks

  pub last-within : length (in_hand s i) - 1 < length (in_hand s i)
  last-within = let l = chain-len t is i in let s = some-block holds (place_in i t.hand) (found-within t is i here) in omega arith

  -- the last of its rows, so many, is its last block
  module _ (rows : List MessageBlock) (n : ℕ) (rows-are : rows ≡ blocks) (long : n ≡ length rows) where
    pub row-some : 0 < n
    row-some = let l = ap (λ (q : List MessageBlock). length q) rows-are in let some = some-block holds (place_in i t.hand) (found-within t is i here) in omega arith

    pub row-last : n - 1 ≡ length (in_hand s i) - 1
    row-last = let l = ap (λ (q : List MessageBlock). length q) rows-are in let len = chain-len t is i in omega arith

    pub row-within : n - 1 < length blocks
    row-within = let l = ap (λ (q : List MessageBlock). length q) rows-are in let some = row-some in omega arith

    pub row-same : (row : MessageBlock) → row ≡ row_at (n - 1) rows → row ≡ row_at (length (in_hand s i) - 1) blocks
    row-same row at = at ∙ ap (λ (q : List MessageBlock). row_at (n - 1) q) rows-are ∙ ap (λ (k : ℕ). row_at k blocks) row-last

  module _ (row : MessageBlock) (same : row ≡ row_at (length (in_hand s i) - 1) blocks) where
    last-is : last_of (in_hand s i) ≡ shown t.data.bytes row
    last-is = row-is t is holds i (length (in_hand s i) - 1) here last-within row same

    counted-here : references s row.number ≡ get_or t.data.references row.number 0
    counted-here = ap (λ (s : StoreValue). references s row.number) (sym is) ∙ counted t.data.bytes t.lists t.hand t.mblks (length t.data.references) t.idle t.spare t.data.references holds row.number

    -- how many bytes are taken
    pub taken-none : (n : ℕ) → 1 < get_or t.data.references row.number 0 → 0 ≡ taken_by s (in_hand s i) n
    taken-none n more =
        let c = counted-here in
        let number = ap (λ (b : Block). b.number) last-is in
        let r = ap (λ (d : ℕ). references s d) number in
        let b = last_of (in_hand s i) in
        let test : ltb 1 (references s b.number) ≡ true = grind (arith, nat_tests) in
        sym (ap (λ (u : Bool). cond u 0 (min n b.room)) test)

    pub taken-some : (n : ℕ) → get_or t.data.references row.number 0 ≤ 1 → min n (256 - row.end) ≡ taken_by s (in_hand s i) n
    taken-some n few =
        let c = counted-here in
        let number = ap (λ (b : Block). b.number) last-is in
        let r = ap (λ (d : ℕ). references s d) number in
        let b = last_of (in_hand s i) in
        let test : ltb 1 (references s b.number) ≡ false = grind (arith, nat_tests) in
        let room = ap (λ (b : Block). min n b.room) last-is in
        sym (ap (λ (u : Bool). cond u 0 (min n b.room)) test ∙ room)

    -- only this block names the data block, where that has one reference
    last-in : length (in_hand s i) - 1 < length blocks
    last-in = let l = chain-len t is i in let w = last-within in omega arith

    this-one : is_of t.data.bytes row.number [] (row_at (length (in_hand s i) - 1) blocks) ≡ 1
    this-one = ap (λ (b : MessageBlock). is_of t.data.bytes row.number [] b) (sym same) ∙ (let e : cond {A = ℕ} (eqb row.number row.number) 1 0 ≡ 1 = grind (arith, nat_tests) in e)

    mine : 1 ≤ naming row.number (found t is i)
    mine = let le = get_or-le-sum_by (is_of t.data.bytes row.number []) blocks (length (in_hand s i) - 1) no_row last-in in let e = this-one in omega arith

    no-list : get_or t.data.references row.number 0 ≤ 1 → sum_by (λ q. sum_by (naming row.number) q) t.lists ≡ 0
    no-list few =
        let all = holds.referenced row.number in
        let m = mine in
        let h = get_or-le-sum_by (naming row.number) t.hand (place_in i t.hand) no_message (found-within t is i here) in
        omega arith

    one-message : get_or t.data.references row.number 0 ≤ 1 → sum_by (naming row.number) t.hand ≡ naming row.number (found t is i)
    one-message few =
        let all = holds.referenced row.number in
        let m = mine in
        let h = get_or-le-sum_by (naming row.number) t.hand (place_in i t.hand) no_message (found-within t is i here) in
        omega arith

    one-block : get_or t.data.references row.number 0 ≤ 1 → sum_by (is_of t.data.bytes row.number []) blocks ≡ is_of t.data.bytes row.number [] (row_at (length (in_hand s i) - 1) blocks)
    one-block few =
        let all = holds.referenced row.number in
        let le = get_or-le-sum_by (is_of t.data.bytes row.number []) blocks (length (in_hand s i) - 1) no_row last-in in
        let e = this-one in
        let w = weigh-in_hand (naming row.number) t.lists t.hand (place_in i t.hand) (found-within t is i here) in
        omega arith

    -- the chain after bytes were written into a data block that only its last block names
    appended-chain : (content new : List ℕ) (row' : MessageBlock) → get_or t.data.references row.number 0 ≤ 1 → shown (set t.data.bytes row.number content) row' ≡ written new (shown t.data.bytes row) → map (shown (set t.data.bytes row.number content)) (set blocks (length (in_hand s i) - 1) row') ≡ extended new (in_hand s i)
    appended-chain content new row' few block =
        blocks-set t.data.bytes row.number content blocks (length (in_hand s i) - 1) row' no_row last-in (one-block few) ∙ ap (λ (b : Block). set (map (shown t.data.bytes) blocks) (length (in_hand s i) - 1) b) (block ∙ ap (λ (b : Block). written new b) (sym last-is)) ∙ ap (λ (c : List Block). set c (length (in_hand s i) - 1) (written new (last_of (in_hand s i)))) (sym (chain-is t is i))

    -- the hand then
    appended-hand : (content new : List ℕ) (row' : MessageBlock) → get_or t.data.references row.number 0 ≤ 1 → shown (set t.data.bytes row.number content) row' ≡ written new (shown t.data.bytes row) → hand_of (set t.data.bytes row.number content) (set t.hand (place_in i t.hand) (with_blocks (set blocks (length (in_hand s i) - 1) row') (found t is i))) ≡ with_chain i (extended new (in_hand s i)) (hand_of t.data.bytes t.hand)
    appended-hand content new row' few block =
        hand-set t.data.bytes row.number content t.hand (place_in i t.hand) (with_blocks (set blocks (length (in_hand s i) - 1) row') (found t is i)) (found-within t is i here) (one-message few) ∙ ap (λ (c : List Block). set (hand_of t.data.bytes t.hand) (place_in i t.hand) (record { name = (found t is i).name; chain = c })) (appended-chain content new row' few block) ∙ set-value t.data.bytes i (extended new (in_hand s i)) t.hand

    -- and the store
    pub appended-value : (content new : List ℕ) (row' : MessageBlock) (n : ℕ) (bytes' : List (List ℕ)) (hand' : List Message) → get_or t.data.references row.number 0 ≤ 1 → shown (set t.data.bytes row.number content) row' ≡ written new (shown t.data.bytes row) → bytes' ≡ set t.data.bytes row.number content → n ≡ length t.data.references → hand' ≡ set t.hand (place_in i t.hand) (with_blocks (set blocks (length (in_hand s i) - 1) row') (found t is i)) → value bytes' t.lists hand' t.mblks n ≡ changed s i (extended new (in_hand s i))
    appended-value content new row' n bytes' hand' few block eb en eh =
        value-same (set t.data.bytes row.number content) t.lists (set t.hand (place_in i t.hand) (with_blocks (set blocks (length (in_hand s i) - 1) row') (found t is i))) t.mblks (length t.data.references) eb refl eh en ∙ made-of t.mblks (length t.data.references) (lists-other t.data.bytes row.number content t.lists (no-list few)) (appended-hand content new row' few block) ∙ ap (λ (s' : StoreValue). changed s' i (extended new (in_hand s i))) is

-- what a block shows after bytes were written behind it
pub shown-after : (bytes : List (List ℕ)) (row : MessageBlock) (content new : List ℕ) (k : ℕ) → row.number < length bytes → length new ≡ k → slice_range content row.start (row.end + k) ≡ slice_range (get_or bytes row.number []) row.start row.end ++ new → shown (set bytes row.number content) (record row { end = row.end + k }) ≡ written new (shown bytes row)
shown-after bytes row content new k exists len is =
    let room : 256 - (row.end + k) ≡ 256 - row.end - length new = omega arith in
    ap (λ (xs : List ℕ). record (shown bytes row) { bytes = xs; room = 256 - (row.end + k) }) (ap (λ (xs : List ℕ). slice_range xs row.start (row.end + k)) (get_or-set_same bytes row.number content [] exists) ∙ is) ∙ ap (λ (n : ℕ). record (written new (shown bytes row)) { room = n }) room
