-- Messages in hand that are linked and parted.
use Rattle.std.proofs.Common.{ℕ, ◌≡◌, ◌≢◌, ◌≤◌, ◌<◌, ◌+◌, true, false, cond, List, [], ◌∷◌, ◌++◌, length, take, drop, map, refl, sym, ap, ◌∙◌, arith}
use Rattle.std.proofs.Math.ListN.{set}
use Rattle.std.specs.Prelude.{◌==◌}
use Rattle.std.proofs.lemmas.Bool.Decides.{nat_tests}
use Rattle.std.proofs.lemmas.List.{map-append, length-map, take-append-drop, take_all, set-get_or, length-drop}
use Rattle.std.proofs.lemmas.List.Sums.{get_or-le-sum_by, passes_at_first}
use Rattle.strm_blocks.specs.Blocks.{Block, Held, StoreValue, IsInHand, in_hand, held, dropped, changed, chain_in, without, with_chain, times_in}
use Rattle.strm_blocks.specs.Outcomes.{Unlinked, UnlinkedLast}
use Rattle.strm_blocks.specs.Message.{message_at, no_message, row_at, without_at, with_blocks, place_in, named, block_count}
use Rattle.strm_blocks.specs.Table.{shown, chain_of, hand_of, value_of, IsTable, IsTableStore}
use Rattle.strm_blocks.specs.declared.table.TableStore.TheInside.{Inside}
use Rattle.strm_blocks.specs.declared.message.Message.{Message}
use Rattle.strm_blocks.specs.declared.message.MessageBlock.{MessageBlock}
use Rattle.strm_blocks.proofs.Nodes.{sum-without, place-within}
use Rattle.strm_blocks.proofs.Values.{blocks-value, without-value, changed-value, times-value}
use Rattle.strm_blocks.proofs.Stores.{value}
use Rattle.strm_blocks.proofs.Moves.{idle-fresh, idle-for-rest, IsTable-linked, IsTable-unlinked}
use Rattle.strm_blocks.proofs.Found.{found, chain-is, chain-len, some-block}
use Rattle.strm_blocks.proofs.Found.{within as found-within}

-- the message that is found by a name has it
found-name : (i : ℕ) (q : List Message) → place_in i q < length q → (message_at (place_in i q) q).name ≡ i
found-name i q within = let p = passes_at_first (λ (m : Message). m.name == i) q no_message within in grind (arith, nat_tests)

-- a message in hand is found also without another one
chain-without : (a b : ℕ) → a ≢ b → (hand : List Held) → chain_in a (without b hand) ≡ chain_in a hand
chain-without a b apart [] = refl
chain-without a b apart (h ∷ hand) = elim (h.name == b) as (λ t. (h.name == b) ≡ t → chain_in a (cond t hand (h ∷ without b hand)) ≡ chain_in a (h ∷ hand)) [
  | true ↦ (λ e. let other : (h.name == a) ≡ false = grind (arith, nat_tests) in rw other refl)
  | false ↦ (λ e. elim (h.name == a) as (λ u. cond u h.chain (chain_in a (without b hand)) ≡ cond u h.chain (chain_in a hand)) [ true ↦ refl | false ↦ chain-without a b apart hand ])
] refl

-- the first block of a chain, and the rest
take-first : (blocks : List MessageBlock) → 0 < length blocks → take 1 blocks ≡ row_at 0 blocks ∷ []
take-first [] some = absurd (omega arith)
take-first (b ∷ blocks) some = refl

split-first : (blocks : List MessageBlock) → 0 < length blocks → blocks ≡ row_at 0 blocks ∷ drop 1 blocks
split-first [] some = absurd (omega arith)
split-first (b ∷ blocks) some = refl

-- blocks hung behind a message's, of lists and places that are equal
pub joined-same : {q q' : List Message} {r r' : ℕ} {rest rest' : List MessageBlock} → q ≡ q' → r ≡ r' → rest ≡ rest' → set q r (with_blocks ((message_at r q).blocks ++ rest) (message_at r q)) ≡ set q' r' (with_blocks ((message_at r' q').blocks ++ rest') (message_at r' q'))
joined-same {q} {q'} {r} {r'} {rest} {rest'} eq er es =
    ap (λ x. set x r (with_blocks ((message_at r x).blocks ++ rest) (message_at r x))) eq ∙ ap (λ x. set q' x (with_blocks ((message_at x q').blocks ++ rest) (message_at x q'))) er ∙ ap (λ x. set q' r' (with_blocks ((message_at r' q').blocks ++ x) (message_at r' q'))) es

module _ (t : Inside) {s : StoreValue} (is : value_of t ≡ s) (holds : IsTableStore t) (a b : ℕ) (a_here : IsInHand s a) (b_here : IsInHand s b) (apart : a ≢ b) where
  abbrev pub second : Message
  second = message_at (place_in b t.hand) t.hand

  abbrev pub left : List Message
  left = without_at (place_in b t.hand) t.hand

  abbrev pub first : Message
  first = message_at (place_in a left) left

  b_within : place_in b t.hand < length t.hand
  b_within = found-within t is b b_here

  -- the first is in hand without the second
  pub first-within : place_in a left < length left
  first-within =
      let w = sum-without (named a) t.hand (place_in b t.hand) b_within in
      let n = found-name b t.hand b_within in
      let none : named a second ≡ 0 = grind (arith, nat_tests) in
      let times : times_in a (hand_of t.data.bytes t.hand) ≡ 1 = ap (λ (s : StoreValue). times_in a s.hand) is ∙ a_here in
      let v = times-value t.data.bytes a t.hand in
      place-within a left (omega arith)

  -- no message has more blocks than there are
  pub linked-few : length first.blocks + length second.blocks ≤ 65536
  linked-few =
      let w = sum-without block_count t.hand (place_in b t.hand) b_within in
      let le = get_or-le-sum_by block_count left (place_in a left) no_message first-within in
      let m = holds.blocks in
      let f = holds.few in
      omega arith

  first-chain : chain_of t.data.bytes first ≡ in_hand s a
  first-chain =
      blocks-value t.data.bytes a left ∙ ap (λ (hand : List Held). chain_in a hand) (without-value t.data.bytes b t.hand) ∙ chain-without a b apart (hand_of t.data.bytes t.hand) ∙ ap (λ (s : StoreValue). in_hand s a) is

  pub linked-value : (hand' : List Message) → hand' ≡ set left (place_in a left) (with_blocks (first.blocks ++ second.blocks) first) → value t.data.bytes t.lists hand' t.mblks (length t.data.references) ≡ changed (dropped s b) a (in_hand s a ++ in_hand s b)
  linked-value hand' eh =
      let bytes = t.data.bytes in
      let e1 = ap (λ (hand : List Message). value bytes t.lists hand t.mblks (length t.data.references)) eh in
      let e2 = ap (λ (hand : List Held). record (value_of t) { hand = hand }) (changed-value bytes a (first.blocks ++ second.blocks) left) in
      let chain = map-append (shown bytes) first.blocks second.blocks ∙ ap (λ (c : List Block). c ++ chain_of bytes second) first-chain ∙ ap (λ (c : List Block). in_hand s a ++ c) (sym (chain-is t is b)) in
      let e3 = ap (λ (c : List Block). record (value_of t) { hand = with_chain a c (hand_of bytes left) }) chain in
      let e4 = ap (λ (hand : List Held). record (value_of t) { hand = with_chain a (in_hand s a ++ in_hand s b) hand }) (without-value bytes b t.hand) in
      let e5 = ap (λ (s' : StoreValue). changed (dropped s' b) a (in_hand s a ++ in_hand s b)) is in
      e1 ∙ e2 ∙ e3 ∙ e4 ∙ e5

  pub IsTable-link : (hand' idle' : List Message) → hand' ≡ set left (place_in a left) (with_blocks (first.blocks ++ second.blocks) first) → idle' ≡ with_blocks [] second ∷ t.idle → IsTable t.mblks t.lists hand' idle' t.spare t.data.references
  IsTable-link hand' idle' eh ei = rw (eh, ei) (IsTable-linked holds (place_in b t.hand) (place_in a left) b_within first-within)

module _ (t : Inside) {s : StoreValue} (is : value_of t ≡ s) (holds : IsTableStore t) (i : ℕ) (here : IsInHand s i) where
  abbrev pub whole : Message
  whole = found t is i

  abbrev pub parted : List Message
  parted = set t.hand (place_in i t.hand) (with_blocks (take 1 whole.blocks) whole)

  i_within : place_in i t.hand < length t.hand
  i_within = found-within t is i here

  parts : whole.blocks ≡ take 1 whole.blocks ++ drop 1 whole.blocks
  parts = sym (take-append-drop 1 whole.blocks)

  some : 0 < length whole.blocks
  some = some-block holds (place_in i t.hand) i_within

  front-some : 0 < length (take 1 whole.blocks)
  front-some = let e = ap (λ (blocks : List MessageBlock). length blocks) (take-first whole.blocks some) in omega arith

  -- a message of one block stays as it is
  pub unlinked-last : (hand' : List Message) → length (drop 1 whole.blocks) ≡ 0 → hand' ≡ parted → UnlinkedLast s (value t.data.bytes t.lists hand' t.mblks (length t.data.references)) i i
  unlinked-last hand' none eh =
      let one = some in
      let l = length-drop 1 whole.blocks in
      let len = chain-len t is i in
      let all : take 1 whole.blocks ≡ whole.blocks = take_all 1 whole.blocks (omega arith) in
      let same = eh ∙ ap (λ (blocks : List MessageBlock). set t.hand (place_in i t.hand) (with_blocks blocks whole)) all ∙ set-get_or t.hand (place_in i t.hand) no_message in
      record {
        kept_name = refl;
        single = omega arith;
        same = ap (λ (hand : List Message). value t.data.bytes t.lists hand t.mblks (length t.data.references)) same ∙ is;
      }

  -- there is an idle message for the rest
  pub idle-there : 0 < length (drop 1 whole.blocks) → 0 < length t.idle
  idle-there more = idle-for-rest holds (place_in i t.hand) (take 1 whole.blocks) (drop 1 whole.blocks) i_within parts front-some more

  pub unlinked-value : (hand' : List Message) (name : ℕ) → 0 < length (drop 1 whole.blocks) → hand' ≡ with_blocks (drop 1 whole.blocks) (message_at 0 t.idle) ∷ parted → name ≡ (message_at 0 t.idle).name → Unlinked s (value t.data.bytes t.lists hand' t.mblks (length t.data.references)) i i name
  unlinked-value hand' name more eh en =
      let bytes = t.data.bytes in
      let e1 = ap (λ (hand : List Message). value bytes t.lists hand t.mblks (length t.data.references)) eh in
      let e2 = ap (λ (hand : List Held). held (record (value_of t) { hand = hand }) (message_at 0 t.idle).name (map (shown bytes) (drop 1 whole.blocks))) (changed-value bytes i (take 1 whole.blocks) t.hand) in
      let e3 = ap (λ (s : StoreValue). held (changed s i (map (shown bytes) (take 1 whole.blocks))) (message_at 0 t.idle).name (map (shown bytes) (drop 1 whole.blocks))) is in
      let e4 = ap (λ (blocks : List MessageBlock). held (changed s i (map (shown bytes) blocks)) (message_at 0 t.idle).name (map (shown bytes) (drop 1 whole.blocks))) (take-first whole.blocks some) in
      let e5 = ap (λ (n : ℕ). held (changed s i (shown bytes (row_at 0 whole.blocks) ∷ [])) n (map (shown bytes) (drop 1 whole.blocks))) (sym en) in
      let fresh : times_in (message_at 0 t.idle).name s.hand ≡ 0 = ap (λ (s : StoreValue). times_in (message_at 0 t.idle).name s.hand) (sym is) ∙ times-value bytes (message_at 0 t.idle).name t.hand ∙ idle-fresh holds (idle-there more) in
      let len = length-map (drop 1 whole.blocks) (shown bytes) in
      record {
        kept_name = refl;
        fresh_name = ap (λ (n : ℕ). times_in n s.hand) en ∙ fresh;
        block = shown bytes (row_at 0 whole.blocks);
        chain = map (shown bytes) (drop 1 whole.blocks);
        more = omega arith;
        joined = chain-is t is i ∙ ap (λ (blocks : List MessageBlock). map (shown bytes) blocks) (split-first whole.blocks some);
        after = e1 ∙ e2 ∙ e3 ∙ e4 ∙ e5;
      }

  pub IsTable-unlink : (hand' : List Message) → 0 < length (drop 1 whole.blocks) → hand' ≡ with_blocks (drop 1 whole.blocks) (message_at 0 t.idle) ∷ parted → IsTable t.mblks t.lists hand' (drop 1 t.idle) t.spare t.data.references
  IsTable-unlink hand' more eh = rw eh (IsTable-unlinked holds (place_in i t.hand) (take 1 whole.blocks) (drop 1 whole.blocks) i_within parts front-some more)
