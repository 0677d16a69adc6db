-- Blocks that get another kind, one after the other, and what a chain shows then.
use Rattle.std.proofs.Common.{ℕ, zero, suc, ◌≡◌, ◌<◌, List, [], ◌∷◌, ◌++◌, length, refl, sym, ap, ◌∙◌, arith}
use Rattle.std.specs.Prelude.{true}
use Rattle.strm_types.specs.declared.kinds.MsgKind.{MsgKind}
use Rattle.strm_types.specs.declared.kinds.MsgKind.TheVariants as kinds
use Rattle.strm_types.specs.Kinds.{is_body_kind, is_control_kind}
use Rattle.strm_types.specs.Message.{is_high_priority}
use Rattle.strm_blocks.specs.Blocks.{Block, StoreValue, IsInHand, in_hand, changed, block_at, with_block, of_kind}
use Rattle.strm_msg.specs.Bytes.{bytes_of, data_blocks}
use Rattle.strm_msg.specs.Retyped.{retyped}
use Rattle.strm_msg.specs.Messages.{message_of, AreData, IsChain}
use Rattle.strm_msg.proofs.Chains.{data_in, data-shown}
use Rattle.strm_msg.proofs.Hands.{changed-chain, changed-twice, changed-same}

pub retyped-length : (n : ℕ) (kind : MsgKind) (chain : List Block) → length (retyped n kind chain) ≡ length chain
retyped-length zero kind chain = refl
retyped-length (suc n) kind [] = refl
retyped-length (suc n) kind (b ∷ chain) = ap suc (retyped-length n kind chain)

pub retyped-bytes : (n : ℕ) (kind : MsgKind) (chain : List Block) → bytes_of (retyped n kind chain) ≡ bytes_of chain
retyped-bytes zero kind chain = refl
retyped-bytes (suc n) kind [] = refl
retyped-bytes (suc n) kind (b ∷ chain) = ap (λ xs. b.bytes ++ xs) (retyped-bytes n kind chain)

-- one more block
retyped-more : (at : ℕ) (kind : MsgKind) (chain : List Block) → at < length chain → with_block at (of_kind kind (block_at at (retyped at kind chain))) (retyped at kind chain) ≡ retyped (suc at) kind chain
retyped-more at kind [] less = absurd (omega arith)
retyped-more zero kind (b ∷ chain) less = refl
retyped-more (suc at) kind (b ∷ chain) less = ap (λ xs. of_kind kind b ∷ xs) (retyped-more at kind chain (omega arith))

module _ (s : StoreValue) (i : ℕ) (kind : MsgKind) (is_in : IsInHand s i) where
  pub retyped-none : s ≡ changed s i (retyped 0 kind (in_hand s i))
  retyped-none = sym (changed-same s i)

  pub retyped-next : (at next : ℕ) (t u : StoreValue) → next ≡ suc at → at < length (in_hand s i) → t ≡ changed s i (retyped at kind (in_hand s i)) → u ≡ changed t i (with_block at (of_kind kind (block_at at (in_hand t i))) (in_hand t i))
      → u ≡ changed s i (retyped next kind (in_hand s i))
  retyped-next at next t u one_more less before after =
      let chain = in_hand s i in
      let now : in_hand t i ≡ retyped at kind chain = ap (λ v. in_hand v i) before ∙ changed-chain s i (retyped at kind chain) is_in in
      after ∙ ap (λ c. changed t i (with_block at (of_kind kind (block_at at c)) c)) now
      ∙ ap (λ c. changed t i c) (retyped-more at kind chain less)
      ∙ ap (λ v. changed v i (retyped (suc at) kind chain)) before
      ∙ changed-twice s i (retyped at kind chain) (retyped (suc at) kind chain)
      ∙ ap (λ n. changed s i (retyped n kind chain)) (sym one_more)

-- a chain whose blocks are all M_DATA has one part, the data part, with all its bytes
pub all-data : (chain : List Block) → AreData (retyped (length chain) kinds.Data chain)
all-data [] = tt
all-data (b ∷ chain) = (refl, all-data chain)

body : is_body_kind kinds.Data ≡ true
unfolding is_body_kind
body = refl

data-all : (chain : List Block) → data_blocks (retyped (length chain) kinds.Data chain) ≡ retyped (length chain) kinds.Data chain
data-all [] = refl
data-all (b ∷ chain) = rw (body) (ap (λ xs. of_kind kinds.Data b ∷ xs) (data-all chain))

-- it is a message, of the band that the other one had
data-part : is_control_kind kinds.Data ≡ true → ⊥
unfolding is_control_kind
data-part is = absurd (cc)

data-low : is_high_priority kinds.Data ≡ true → ⊥
unfolding is_high_priority
data-low is = absurd (cc)

pub data-chain : (chain : List Block) → IsChain chain → IsChain (retyped (length chain) kinds.Data chain)
data-chain [] one = absurd (let some = one.some in omega (arith, some))
data-chain (b ∷ chain) one = record {
  some = omega arith;
  all_data = λ is. all-data (b ∷ chain);
  parted = λ is. absurd (data-part is);
  high = λ is. absurd (data-low is);
  low = one.low;
}

pub data-message : (chain : List Block) → 0 < length chain → message_of (retyped (length chain) kinds.Data chain) ≡ data_in (block_at 0 chain).band (bytes_of chain)
data-message [] some = absurd (omega arith)
data-message (b ∷ chain) some =
    let all = retyped (length (b ∷ chain)) kinds.Data (b ∷ chain) in
    data-shown all (omega arith) refl ∙ ap (data_in b.band) (ap bytes_of (data-all (b ∷ chain)) ∙ retyped-bytes (length (b ∷ chain)) kinds.Data (b ∷ chain))
