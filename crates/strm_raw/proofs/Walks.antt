-- Walks along a chain.
use Rattle.std.proofs.Common.{ℕ, ◌≡◌, ◌≤◌, ◌<◌, ◌+◌, ◌-◌, ◌*◌, List, [], ◌∷◌, ◌++◌, length, get_or, refl, sym, ap, ◌∙◌, subst, arith}
use Rattle.std.proofs.Math.Seq.{get_or-append_seam}
use Rattle.std.specs.Prelude.{Option, Some, None, option_map, sum_by}
use Rattle.std.proofs.lemmas.List.{append_assoc, length-append}
use Rattle.std.proofs.lemmas.List.Sums.{sum_by-cons, sum_by-append}
use Rattle.strm_raw.specs.Numbered.{Nodes, Row, IsMsg, IsMsgOrNone, msg_number}
use Rattle.strm_raw.specs.Raw.{IsChain, next_of, breaks, block_no}
use Rattle.strm_raw.specs.declared.msg_nodes.MsgLink.{MsgLink}
use Rattle.strm_raw.proofs.Standing.{begun, ended, empty}

-- so many blocks of a chain lie before the one where a walk stands, and links lead from there through the rest
pub record Stands (rows : List Row) (i : ℕ) (is : List ℕ) (k : ℕ) : Type 0 where
  pub front : List ℕ
  pub rest : List ℕ
  pub joined : is ≡ front ++ rest
  pub passed : length front ≡ k
  pub chain : IsChain rows i rest

module _ {rows : List Row} {i : ℕ} {is : List ℕ} {k : ℕ} (w : Stands rows i is k) where
  pub split : (others : List ℕ) × ((w.rest ≡ i ∷ others) × (breaks (next_of rows) (next_of rows i) others ≡ 0))
  split = begun (next_of rows) i w.rest w.chain

  pub whole : is ≡ w.front ++ i ∷ split.0
  whole = w.joined ∙ ap (λ xs. w.front ++ xs) split.1.0

  pub counted : length is ≡ k + 1 + length split.0
  counted = let e = ap length whole ∙ length-append w.front (i ∷ split.0) in let p = w.passed in omega arith

  pub stands-at : i ≡ get_or is k 0
  stands-at = sym (ap (λ n. get_or is n 0) (sym w.passed) ∙ ap (λ xs. get_or xs (length w.front) 0) whole ∙ get_or-append_seam w.front i split.0 0)

  -- where no link leads on it stands at the last block, and else it goes on to the next one
  pub none-behind : next_of rows i ≡ None → split.0 ≡ []
  none-behind none = empty split.0 (ended (next_of rows) split.0 (ap (λ o. breaks (next_of rows) o split.0) (sym none) ∙ split.1.1))

  unfoldable pub stands-next : (j n : ℕ) → next_of rows i ≡ Some j → k + 1 ≡ n → Stands rows j is n
  stands-next j n some e = record {
    front = w.front ++ i ∷ [];
    rest = split.0;
    joined = whole ∙ sym (append_assoc w.front (i ∷ []) split.0);
    passed = let l = length-append w.front (i ∷ []) in let p = w.passed in omega arith;
    chain = ap (λ o. breaks (next_of rows) o split.0) (sym some) ∙ split.1.1;
  }

-- a walk from one block to another one, with so many of its steps left
pub record Walked (v : Nodes) (first link : MsgLink) (most left : ℕ) : Type 0 where
  pub within : left ≤ most
  pub there : IsMsg v.mat (length v.rows) link
  pub stands : (is : List ℕ) → IsChain v.rows (msg_number v.mat first) is → Stands v.rows (msg_number v.mat link) is (most - left)

unfoldable pub walk-begins : {v : Nodes} {first : MsgLink} (left most : ℕ) → left ≡ most → IsMsg v.mat (length v.rows) first → Walked v first first most left
walk-begins left most all there = record {
  within = omega arith;
  there = there;
  stands = λ is c. record { front = []; rest = is; joined = refl; passed = omega arith; chain = c };
}

-- it has taken no more steps than there are blocks
pub walk-within : {v : Nodes} {first link : MsgLink} {most left : ℕ} (w : Walked v first link most left) (is : List ℕ) → IsChain v.rows (msg_number v.mat first) is → most - left < length is
walk-within w is c = omega (arith, counted (w.stands is c))

module _ {v : Nodes} {first link : MsgLink} {most left : ℕ} (w : Walked v first link most left) (more : 0 < left) {o : Option MsgLink} (row : option_map (msg_number v.mat) o ≡ next_of v.rows (msg_number v.mat link)) where
  pub walk-last : o ≡ None → next_of v.rows (msg_number v.mat link) ≡ None
  walk-last none = sym row ∙ ap (λ (p : Option MsgLink). option_map (msg_number v.mat) p) none

  pub walk-counts : o ≡ None → (is : List ℕ) → IsChain v.rows (msg_number v.mat first) is → most - left + 1 ≡ length is
  walk-counts none is c = let s = w.stands is c in let e = ap length (none-behind s (walk-last none)) in omega (arith, counted s)

  pub walk-ends : o ≡ None → (is : List ℕ) → IsChain v.rows (msg_number v.mat first) is → msg_number v.mat link ≡ get_or is (length is - 1) 0
  walk-ends none is c = let n = walk-counts none is c in let e : most - left ≡ length is - 1 = omega arith in stands-at (w.stands is c) ∙ ap (λ k. get_or is k 0) e

  unfoldable pub walk-steps : (next : MsgLink) → o ≡ Some next → IsMsgOrNone v.mat (length v.rows) o → Walked v first next most (left - 1)
  walk-steps next some there = record {
    within = let le = w.within in omega arith;
    there = subst (λ (p : Option MsgLink). IsMsgOrNone v.mat (length v.rows) p) some there;
    stands = λ is c. stands-next (w.stands is c) (msg_number v.mat next) (most - (left - 1)) (sym row ∙ ap (λ (p : Option MsgLink). option_map (msg_number v.mat) p) some) (let le = w.within in omega arith);
  }

-- the bytes of the blocks that were passed
abbrev pub bytes_no : Nodes → ℕ → ℕ
bytes_no v i = length (block_no v i).bytes

pub record Summing (v : Nodes) (first link : MsgLink) (most left bytes : ℕ) : Type 0 where
  pub walk : Walked v first link most left
  pub few : bytes ≤ 256 * (most - left)
  pub sum : (is : List ℕ) (c : IsChain v.rows (msg_number v.mat first) is) → bytes ≡ sum_by (bytes_no v) (walk.stands is c).front

pub sum-begins : {v : Nodes} {first : MsgLink} (most : ℕ) → IsMsg v.mat (length v.rows) first → Summing v first first most most 0
unfolding walk-begins
sum-begins most there = record { walk = walk-begins most most refl there; few = omega arith; sum = λ is c. refl }

module _ {v : Nodes} {first link : MsgLink} {most left bytes more : ℕ} (s : Summing v first link most left bytes) (goes : 0 < left) (here : more ≡ bytes_no v (msg_number v.mat link)) where
  -- those of one more block
  sum-more : (is : List ℕ) (c : IsChain v.rows (msg_number v.mat first) is) → bytes + more ≡ sum_by (bytes_no v) ((s.walk.stands is c).front ++ msg_number v.mat link ∷ [])
  sum-more is c =
      let t = s.sum is c in let a = sum_by-append (bytes_no v) (s.walk.stands is c).front (msg_number v.mat link ∷ []) in
      omega (arith, sum_by-cons (bytes_no v) (msg_number v.mat link) [])

  -- where no link leads on, those are all
  pub sum-ends : {o : Option MsgLink} → option_map (msg_number v.mat) o ≡ next_of v.rows (msg_number v.mat link) → o ≡ None → (is : List ℕ) → IsChain v.rows (msg_number v.mat first) is → bytes + more ≡ sum_by (bytes_no v) is
  sum-ends row none is c =
      let w = s.walk.stands is c in
      sum-more is c ∙ ap (λ xs. sum_by (bytes_no v) (w.front ++ msg_number v.mat link ∷ xs)) (sym (none-behind w (walk-last s.walk goes row none))) ∙ ap (λ xs. sum_by (bytes_no v) xs) (sym (whole w))

  pub sum-steps : {o : Option MsgLink} → option_map (msg_number v.mat) o ≡ next_of v.rows (msg_number v.mat link) → more ≤ 256 → (next : MsgLink) → o ≡ Some next → IsMsgOrNone v.mat (length v.rows) o → Summing v first next most (left - 1) (bytes + more)
  unfolding walk-steps stands-next
  sum-steps row few next some there = record {
    walk = walk-steps s.walk goes row next some there;
    few = let le = s.walk.within in let b = s.few in omega arith;
    sum = λ is c. sum-more is c;
  }
