-- What is seen of messages without taking them.
use Rattle.std.proofs.Common.{ℕ, zero, suc, ◌≡◌, ◌≤◌, ◌<◌, ◌+◌, ◌-◌, ◌*◌, ◌^◌, cond, eqb, List, [], ◌∷◌, length, get_or, map, refl, sym, ap, ◌∙◌, arith}
use Rattle.std.specs.Prelude.{sum_by}
use Rattle.std.specs.List.{AllByRecursion}
use Rattle.std.proofs.lemmas.List.Sums.{sum_by-cons, get_or-le-sum_by}
use Rattle.strm_blocks.specs.Blocks.{Block, StoreValue, IsInHand, in_hand, block_at, list_at}
use Rattle.strm_blocks.specs.Outcomes.{PeekedFirst, summary_of}
use Rattle.strm_blocks.specs.Parts.{lens, summary_in}
use Rattle.strm_blocks.specs.Message.{message_at, no_message, row_at, no_row, without_at, place_in, weigh, naming, block_count, askew}
use Rattle.strm_blocks.specs.Table.{shown, chain_of, value_of, IsShown, IsTableStore}
use Rattle.strm_blocks.specs.declared.asked.Peek.{Peek}
use Rattle.strm_blocks.specs.declared.asked.Summary.{Summary}
use Rattle.strm_blocks.specs.declared.table.TableStore.TheInside.{Inside}
use Rattle.strm_blocks.specs.declared.message.Message.{Message}
use Rattle.strm_blocks.specs.declared.message.MessageBlock.{MessageBlock}
use Rattle.strm_blocks.proofs.Lists.{list, list-within, joined-value}
use Rattle.strm_blocks.proofs.Nodes.{weigh-in_hand}
use Rattle.strm_blocks.proofs.Found.{found, chain-is, row-straight, row-there}
use Rattle.strm_blocks.proofs.Found.{within as found-within}
use Rattle.strm_types.specs.declared.kinds.MsgKind.{MsgKind}
use Rattle.strm_types.specs.declared.kinds.Band.{Band}
use Rattle.strm_blocks.proofs.Moves.{askew_row}
use Rattle.strm_blocks.proofs.Shown.{length-range}
use Rattle.strm_blocks.proofs.FreeList.{named-within}
use Rattle.std.proofs.lemmas.Bool.Decides.{nat_tests}
use Rattle.strm_types.specs.declared.limits.TheConstants.{LISTS}

-- a block shows as many bytes as lie between its places
abbrev pub IsLong : List (List ℕ) → MessageBlock → Type 0
IsLong bytes b = length (shown bytes b).bytes ≡ b.end - b.start

abbrev shown_lens : List Block → ℕ
shown_lens chain = sum_by (λ x. length x.bytes) chain

-- all bytes of a message
lens-value : (bytes : List (List ℕ)) (blocks : List MessageBlock) → AllByRecursion (IsLong bytes) blocks → lens blocks ≡ shown_lens (map (shown bytes) blocks)
lens-value bytes [] all = refl
lens-value bytes (b ∷ blocks) all =
    let ih = lens-value bytes blocks all.1 in
    let l = all.0 in
    omega (arith, sum_by-cons (λ (x : MessageBlock). x.end - x.start) b blocks, sum_by-cons (λ (x : Block). length x.bytes) (shown bytes b) (map (shown bytes) blocks))

-- what holds at each place of a list
by-place : {A : Type 0} (d : A) (P : A → Type 0) (xs : List A) → ((n : ℕ) → n < length xs → P (get_or xs n d)) → AllByRecursion P xs
by-place d P [] all = tt
by-place d P (x ∷ xs) all = (all zero (omega arith), by-place d P xs (λ n within. all (suc n) (omega arith)))

-- the lengths of blocks in order are bounded
pub lens-few : (blocks : List MessageBlock) → lens blocks ≤ 256 * length blocks + sum_by askew_row blocks
lens-few [] = omega arith
lens-few (b ∷ blocks) =
    let ih = lens-few blocks in
    omega (arith, sum_by-cons (λ (x : MessageBlock). x.end - x.start) b blocks, sum_by-cons askew_row b blocks)

-- the kind and the band of a message
kind-first : (bytes : List (List ℕ)) (blocks : List MessageBlock) → (block_at 0 (map (shown bytes) blocks)).kind ≡ (row_at 0 blocks).kind
kind-first bytes [] = refl
kind-first bytes (b ∷ blocks) = refl

band-first : (bytes : List (List ℕ)) (blocks : List MessageBlock) → (block_at 0 (map (shown bytes) blocks)).band ≡ (row_at 0 blocks).band
band-first bytes [] = refl
band-first bytes (b ∷ blocks) = refl

-- what a message is counted by
abbrev counted : MsgKind → Band → ℕ → Summary
counted kind band bytes = record { kind = kind; band = band; bytes = bytes }

counted-same : {k k' : MsgKind} {b b' : Band} {n n' : ℕ} → k ≡ k' → b ≡ b' → n ≡ n' → counted k b n ≡ counted k' b' n'
counted-same {k} {k'} {b} {b'} {n} {n'} ek eb en = ap (λ (x : MsgKind). counted x b n) ek ∙ ap (λ (x : Band). counted k' x n) eb ∙ ap (λ (x : ℕ). counted k' b' x) en

module _ (t : Inside) {s : StoreValue} (is : value_of t ≡ s) (holds : IsTableStore t) (k : ℕ) (eight : k < LISTS) where
  -- the messages of a list weigh no more than all
  list-weigh : (g : Message → ℕ) → sum_by g (list t is holds k eight) ≤ weigh g t.lists t.hand
  list-weigh g =
      let q = get_or-le-sum_by (λ (q : List Message). sum_by g q) t.lists k [] (list-within t is holds k eight) in
      omega arith

  -- each block of a message has its places in order, within a data block that there is
  message-shown : (p : ℕ) → p < length (list t is holds k eight) → AllByRecursion (IsShown t.data) (message_at p (list t is holds k eight)).blocks
  message-shown p within =
      let q = list t is holds k eight in
      let blocks = (message_at p q).blocks in
      by-place no_row (IsShown t.data) blocks (λ n inside. (
      let b = row_at n blocks in
      let d = b.number in
      let w = list-weigh (naming d) in
      let wp = get_or-le-sum_by (naming d) q p no_message within in
      let r = holds.referenced d in
      let one : cond {A = ℕ} (eqb d d) 1 0 ≡ 1 = grind (arith, nat_tests) in
      let le = get_or-le-sum_by (λ (x : MessageBlock). cond (eqb x.number d) 1 0) blocks n no_row inside in
      let a = list-weigh askew in
      let ap = get_or-le-sum_by askew q p no_message within in
      let st = holds.straight in
      let o = get_or-le-sum_by askew_row blocks n no_row inside in
      record { there = named-within t.data.references d (omega arith); ordered = omega arith; within = omega arith }))

  -- so a visitor can be told of what stands on the list
  pub list-shown : AllByRecursion (λ m. AllByRecursion (IsShown t.data) m.blocks) (list t is holds k eight)
  list-shown = by-place no_message (λ m. AllByRecursion (IsShown t.data) m.blocks) (list t is holds k eight) message-shown

  -- the first message is seen
  pub peeked-value : (peek : Peek) → 0 < length (list t is holds k eight) → peek.kind ≡ (row_at 0 (message_at 0 (list t is holds k eight)).blocks).kind → peek.band.0 ≡ (row_at 0 (message_at 0 (list t is holds k eight)).blocks).band → PeekedFirst s k peek
  peeked-value peek some kind band =
      let bytes = t.data.bytes in
      let m = message_at 0 (list t is holds k eight) in
      record {
        message = chain_of bytes m;
        rest = map (chain_of bytes) (without_at 0 (list t is holds k eight));
        joined = joined-value t is holds k eight some;
        seen = record {
          kind = kind ∙ sym (kind-first bytes m.blocks);
          band = band ∙ sym (band-first bytes m.blocks);
        };
      }

-- what a message in hand is counted by
module _ (t : Inside) {s : StoreValue} (is : value_of t ≡ s) (holds : IsTableStore t) (i : ℕ) (here : IsInHand s i) where
  pub held-few : lens (found t is i).blocks < 2 ^ 63
  held-few =
      let there = found-within t is i here in
      let a = weigh-in_hand askew t.lists t.hand (place_in i t.hand) there in
      let b = weigh-in_hand block_count t.lists t.hand (place_in i t.hand) there in
      let l = lens-few (found t is i).blocks in
      let m = holds.blocks in
      let f = holds.few in
      let z = holds.straight in
      omega arith

  held-long : ((d : ℕ) → d < length t.data.references → length (get_or t.data.bytes d []) ≡ 256) → AllByRecursion (IsLong t.data.bytes) (found t is i).blocks
  held-long sized =
      let blocks = (found t is i).blocks in
      let there = found-within t is i here in
      by-place no_row (IsLong t.data.bytes) blocks (λ n inside. (
      let b = row_at n blocks in
      let o = row-straight holds (place_in i t.hand) there n inside in
      let z = sized b.number (row-there holds (place_in i t.hand) there n inside) in
      length-range (get_or t.data.bytes b.number []) b.start b.end (omega arith) (omega arith)))

  pub summed-value : ((d : ℕ) → d < length t.data.references → length (get_or t.data.bytes d []) ≡ 256) → summary_in (found t is i).blocks ≡ summary_of (in_hand s i)
  summed-value sized =
      let bytes = t.data.bytes in
      let blocks = (found t is i).blocks in
      counted-same (sym (kind-first bytes blocks)) (ap (λ (n : ℕ). record { 0 = n }) (sym (band-first bytes blocks))) (lens-value bytes blocks (held-long sized)) ∙ ap (λ (chain : List Block). summary_of chain) (sym (chain-is t is i))

  -- and a visitor can be told of its blocks
  pub held-shown : AllByRecursion (IsShown t.data) (found t is i).blocks
  held-shown =
      let blocks = (found t is i).blocks in
      let there = found-within t is i here in
      by-place no_row (IsShown t.data) blocks (λ n inside. (
      let o = row-straight holds (place_in i t.hand) there n inside in
      record { there = row-there holds (place_in i t.hand) there n inside; ordered = omega arith; within = omega arith }))
