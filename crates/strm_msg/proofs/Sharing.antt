-- Messages that are duplicated block by block.
use Rattle.std.proofs.Common.{ℕ, ◌≡◌, ◌≢◌, ◌≤◌, ◌<◌, ◌+◌, cond, eqb, List, [], ◌∷◌, ◌++◌, length, take, subst, refl, sym, ap, ◌∙◌, arith, inl, inr}
use Rattle.std.proofs.lemmas.Bool.{cases_eq}
use Rattle.std.proofs.lemmas.Bool.Decides.{nat_tests}
use Rattle.std.proofs.lemmas.List.{length-take-le, take_more}
use Rattle.std.proofs.lemmas.List.Sums.{sum_by-append, sum_by-take-le, sum_by_more_le}
use Rattle.strm_blocks.specs.Blocks.{Block, StoreValue, block_at, no_block, in_hand, held, dropped, changed, IsStore, IsInHand, IsFreshName, times_in, references, names_of, free_m, free_d}
use Rattle.strm_blocks.specs.Outcomes.{Duplicated, NoneShared}
use Rattle.strm_msg.specs.Made.{Shared, Unshared}
use Rattle.strm_msg.proofs.Counts.{references-held, free_m-held, free_d-shared, named-in_hand}
use Rattle.strm_msg.proofs.Hands.{gone, grown, stays, stays-chain, held-apart, fresh-apart, held-is}
use Rattle.strm_msg.proofs.Making.{names-one}

first-block : (chain : List Block) → 0 < length chain → take 1 chain ≡ block_at 0 chain ∷ []
first-block [] some = absurd (omega arith)
first-block (b ∷ chain) some = refl

-- a chain names the data block of each of its blocks, once more than the blocks before it do
names-more : (d : ℕ) (chain : List Block) (at : ℕ) → at < length chain → (block_at at chain).number ≡ d → names_of d (take at chain) + 1 ≤ names_of d chain
names-more d chain at within is =
    let more = sum_by_more_le (λ (x : Block). cond (eqb x.number d) 1 0) chain at no_block within in
    let hit : cond {A = ℕ} (eqb (block_at at chain).number d) 1 0 ≡ 1 = grind (arith, nat_tests) in
    omega arith

-- the first block of a duplicate
pub shared-first : {old new : StoreValue} {i : ℕ} (message : ℕ) → IsStore old → 0 < length (in_hand old message) → Duplicated old new i (block_at 0 (in_hand old message)) → Shared old new i (take 1 (in_hand old message))
shared-first {old} {new} {i} message is some dup =
    let chain = in_hand old message in
    let one : take 1 chain ≡ block_at 0 chain ∷ [] = first-block chain some in
    let fm = free_m-held old i (take 1 chain) (let r = dup.room_m in let l = length-take-le 1 chain (omega arith) in omega arith) in
    let fd = free_d-shared old i (take 1 chain) (λ d none. (let n = named-in_hand old message d in let t = sum_by-take-le (λ (x : Block). cond (eqb x.number d) 1 0) chain 1 in omega arith)) in
    let after = dup.after ∙ ap (λ xs. held old i xs) (sym one) in
    record {
      room_m = ap (λ s. free_m s + length (take 1 chain)) after ∙ fm;
      room_d = ap free_d after ∙ fd;
      room_r = λ d. (
          let names = names-one d (block_at 0 chain) in
          let same = ap (λ (xs : List Block). names_of d xs) one in
          let r = dup.room_r in
          let most = is.shared d in
          elim (cases_eq (block_at 0 chain).number d) [
            | inl e ↦ (let here = ap (λ k. references old k) e in let hit : cond {A = ℕ} (eqb (block_at 0 chain).number d) 1 0 ≡ 1 = grind (arith, nat_tests) in omega arith)
            | inr ne ↦ (let miss : cond {A = ℕ} (eqb (block_at 0 chain).number d) 1 0 ≡ 0 = grind (arith, nat_tests) in omega arith)
          ]);
      fresh_name = dup.fresh_name;
      after = after;
    }

-- The message that is made is in hand, apart from any that was there before, which stays.
module _ {old new : StoreValue} {i : ℕ} {chain : List Block} (m : Shared old new i chain) where
  pub shared-in_hand : IsInHand new i
  shared-in_hand = ap (λ s. times_in i s.hand) m.after ∙ held-is old i chain m.fresh_name

  pub shared-keeps : (j : ℕ) → IsInHand old j → IsInHand new j
  shared-keeps j is = ap (λ s. times_in j s.hand) m.after ∙ stays old i chain j m.fresh_name is

  pub shared-keeps-chain : (j : ℕ) → IsInHand old j → in_hand new j ≡ in_hand old j
  shared-keeps-chain j is = ap (λ s. in_hand s j) m.after ∙ stays-chain old i chain j (held-apart old i chain j m.fresh_name is)

-- one block more of a duplicate, which is hung behind the others
pub shared-next : {old mid hung new : StoreValue} {i j r : ℕ} (message at : ℕ) → Shared old mid i (take at (in_hand old message)) → IsInHand old message → at < length (in_hand old message) → Duplicated mid hung j (block_at at (in_hand mid message)) → r ≡ i → new ≡ changed (dropped hung j) i (in_hand hung i ++ in_hand hung j) → Shared old new r (take (at + 1) (in_hand old message))
shared-next {old} {mid} {hung} {new} {i} {j} {r} message at m is within dup kept link =
    let chain = in_hand old message in
    let front = take at chain in
    let b = block_at at chain in
    let next : Duplicated mid hung j b = subst (λ (xs : List Block). Duplicated mid hung j (block_at at xs)) (shared-keeps-chain m message is) dup in
    let fresh : IsFreshName (held old i front) j = ap (λ s. times_in j s.hand) (sym m.after) ∙ next.fresh_name in
    let ne : i ≢ j = fresh-apart old i front j fresh in
    let swapped : j ≢ i = λ e. ne (sym e) in
    let two : hung ≡ held (held old i front) j (b ∷ []) = next.after ∙ ap (λ s. held s j (b ∷ [])) m.after in
    let all = take_more chain at no_block within in
    let after : new ≡ held old i (take (at + 1) chain) = link ∙ ap (λ s. changed (dropped s j) i (in_hand s i ++ in_hand s j)) two ∙ grown old i j front (b ∷ []) swapped ∙ ap (λ xs. held old i xs) (sym all) in
    let len = length-take-le (at + 1) chain (omega arith) in
    let len_front = length-take-le at chain (omega arith) in
    let room = ap free_m m.after in
    let fm = free_m-held old i (take (at + 1) chain) (let r = next.room_m in let f = m.room_m in omega arith) in
    let fd = free_d-shared old i (take (at + 1) chain) (λ d none. (let n = named-in_hand old message d in let t = sum_by-take-le (λ (x : Block). cond (eqb x.number d) 1 0) chain (at + 1) in omega arith)) in
    let made : Shared old new i (take (at + 1) chain) = record {
      room_m = ap (λ s. free_m s + length (take (at + 1) chain)) after ∙ fm;
      room_d = ap free_d after ∙ fd;
      room_r = λ d. (
          let names = names-one d b in
          let same = ap (λ (xs : List Block). names_of d xs) all in
          let sum = sum_by-append (λ (x : Block). cond (eqb x.number d) 1 0) front (b ∷ []) in
          let r = next.room_r in
          let most = m.room_r d in
          elim (cases_eq b.number d) [
            | inl e ↦ (let here = ap (λ s. references s b.number) m.after in let now = references-held old i front b.number in let there = ap (λ k. references old k + names_of k front) e in let hit : cond {A = ℕ} (eqb b.number d) 1 0 ≡ 1 = grind (arith, nat_tests) in omega arith)
            | inr ne ↦ (let miss : cond {A = ℕ} (eqb b.number d) 1 0 ≡ 0 = grind (arith, nat_tests) in omega arith)
          ]);
      fresh_name = m.fresh_name;
      after = after;
    } in
    subst (λ (k : ℕ). Shared old new k (take (at + 1) chain)) (sym kept) made

-- a duplicate of no block fails at once, and leaves nothing behind
pub shared-none : {old new : StoreValue} (chain : List Block) → 0 < length chain → NoneShared old new (block_at 0 chain).number → Unshared old new chain
shared-none {old} {new} chain some none = record {
  few = elim none.none [
    | inl none_m ↦ inl (omega arith)
    | inr full ↦ inr (
      (block_at 0 chain).number,
      (
          let one = names-more (block_at 0 chain).number chain 0 some refl in omega arith),
    )
  ];
  same = none.same;
}

-- what fails behind some blocks
pub shared-fails : {old mid mid' new : StoreValue} {i : ℕ} (message at : ℕ) → Shared old mid i (take at (in_hand old message)) → IsInHand old message → at < length (in_hand old message) → NoneShared mid mid' (block_at at (in_hand mid message)).number → new ≡ dropped mid' i → Unshared old new (in_hand old message)
shared-fails {old} {mid} {mid'} {new} {i} message at m is within none left =
    let chain = in_hand old message in
    let front = take at chain in
    let d = (block_at at chain).number in
    let same : mid' ≡ held old i front = none.same ∙ m.after in
    let number : references mid (block_at at (in_hand mid message)).number ≡ references mid d = ap (λ (xs : List Block). references mid (block_at at xs).number) (shared-keeps-chain m message is) in
    record {
      few = elim none.none [
        | inl none_m ↦ inl (let r = m.room_m in let l = length-take-le at chain (omega arith) in omega arith)
        | inr full ↦ inr (
          d,
          (
              let here = ap (λ s. references s d) m.after in
              let now = references-held old i front d in
              let more = names-more d chain at within refl in
              omega arith),
        )
      ];
      same = left ∙ ap (λ s. dropped s i) same ∙ gone old i front;
    }
