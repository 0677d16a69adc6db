-- Blocks that go behind a message's first one.
use Rattle.std.proofs.Common.{ℕ, suc, ◌≡◌, ◌≤◌, ◌<◌, ◌+◌, ◌-◌, Bool, true, false, cond, List, [], ◌∷◌, ◌++◌, length, take, drop, refl, sym, ap, ◌∙◌, arith}
use Rattle.std.specs.Prelude.{nat_le}
use Rattle.std.proofs.lemmas.Bool.Decides.{nat_tests}
use Rattle.std.proofs.lemmas.List.Sums.{take_while-cons}
use Rattle.std.proofs.lemmas.List.{nil_from_length}
use Rattle.strm_types.specs.declared.kinds.MsgKind.{MsgKind}
use Rattle.strm_blocks.specs.Blocks.{Block, StoreValue, IsInHand, in_hand, changed, block_at, with_block, trimmed_head, times_in}
use Rattle.strm_msg.specs.Runs.{same_kind}
use Rattle.strm_msg.specs.Pulled.{run_of, blocks_left, without_joined}
use Rattle.strm_msg.proofs.Hands.{changed-chain, changed-in_hand, changed-twice, changed-same}

-- what goes, block by block
abbrev pub cut : MsgKind → ℕ → List Block → List Block
cut kind n [] = []
cut kind n (b ∷ chain) = cond (same_kind b.kind kind) (cond (nat_le (length b.bytes) n) (cut kind (n - length b.bytes) chain) (trimmed_head n b ∷ chain)) (b ∷ chain)

pub run-cons : (kind : MsgKind) (b : Block) (chain : List Block) → run_of kind (b ∷ chain) ≡ cond (same_kind b.kind kind) (b ∷ run_of kind chain) []
run-cons kind b chain = take_while-cons (λ b. same_kind b.kind kind) b chain

-- a run and what is behind it
pub run-parts : (kind : MsgKind) (chain : List Block) → run_of kind chain ++ drop (length (run_of kind chain)) chain ≡ chain
run-parts kind [] = refl
run-parts kind (b ∷ chain) =
    let parts : cond (same_kind b.kind kind) (b ∷ run_of kind chain) [] ++ drop (length (cond (same_kind b.kind kind) (b ∷ run_of kind chain) [])) (b ∷ chain) ≡ b ∷ chain =
    elim (same_kind b.kind kind) as (λ v. cond v (b ∷ run_of kind chain) [] ++ drop (length (cond v (b ∷ run_of kind chain) [])) (b ∷ chain) ≡ b ∷ chain) [
      | true ↦ ap (λ xs. b ∷ xs) (run-parts kind chain)
      | false ↦ refl
    ] in
    ap (λ xs. xs ++ drop (length xs) (b ∷ chain)) (run-cons kind b chain) ∙ parts

pub cut-is : (kind : MsgKind) (n : ℕ) (chain : List Block) → cut kind n chain ≡ without_joined kind n chain
cut-is kind n [] = refl
cut-is kind n (b ∷ chain) =
    let run = run_of kind chain in
    let by : cut kind n (b ∷ chain) ≡ blocks_left n (cond (same_kind b.kind kind) (b ∷ run) []) ++ drop (length (cond (same_kind b.kind kind) (b ∷ run) [])) (b ∷ chain) =
    elim (same_kind b.kind kind) as (λ v. cond v (cond (nat_le (length b.bytes) n) (cut kind (n - length b.bytes) chain) (trimmed_head n b ∷ chain)) (b ∷ chain) ≡ blocks_left n (cond v (b ∷ run) []) ++ drop (length (cond v (b ∷ run) [])) (b ∷ chain)) [
      | true ↦ elim (nat_le (length b.bytes) n) as (λ w. cond w (cut kind (n - length b.bytes) chain) (trimmed_head n b ∷ chain) ≡ cond w (blocks_left (n - length b.bytes) run) (trimmed_head n b ∷ run) ++ drop (length run) chain) [
        | true ↦ cut-is kind (n - length b.bytes) chain
        | false ↦ ap (λ xs. trimmed_head n b ∷ xs) (sym (run-parts kind chain))
      ]
      | false ↦ refl
    ] in
    by ∙ sym (ap (λ xs. blocks_left n xs ++ drop (length xs) (b ∷ chain)) (run-cons kind b chain))

-- A message whose blocks behind the first one were looked at up to a place. Those that are left stand right behind the first.
pub record Dropping (s cur : StoreValue) (i m count left at : ℕ) : Type 0 where
  pub name : m ≡ i
  pub first : Block
  pub whole : List Block
  pub rest : List Block
  pub chain : in_hand s i ≡ first ∷ whole
  pub size : length rest + at ≡ suc (length whole)
  pub after : cur ≡ changed s i (first ∷ rest)
  pub cuts : cut first.kind left rest ≡ cut first.kind count whole

dropping-from : (s : StoreValue) (i count : ℕ) (xs : List Block) → in_hand s i ≡ xs → 0 < length xs → Dropping s s i i count count 1
dropping-from s i count [] is some = absurd (omega arith)
dropping-from s i count (b ∷ xs) is some = record {
  name = refl;
  first = b;
  whole = xs;
  rest = xs;
  chain = is;
  size = omega arith;
  after = sym (changed-same s i) ∙ ap (λ ys. changed s i ys) is;
  cuts = refl;
}

pub dropping-none : (s : StoreValue) (i count : ℕ) → 0 < length (in_hand s i) → Dropping s s i i count count 1
dropping-none s i count some = dropping-from s i count (in_hand s i) refl some

some-rest : (rest : List Block) → 0 < length rest → rest ≡ block_at 0 rest ∷ drop 1 rest
some-rest [] some = absurd (omega arith)
some-rest (b ∷ rest) some = refl

-- what the call promises
abbrev pub dropped_of : StoreValue → ℕ → ℕ → StoreValue
dropped_of s i count = changed s i (take 1 (in_hand s i) ++ without_joined (block_at 0 (in_hand s i)).kind count (drop 1 (in_hand s i)))

module _ {s cur : StoreValue} {i m count left at : ℕ} (is : IsInHand s i) (so : Dropping s cur i m count left at) where
  pub dropping-in_hand : IsInHand cur m
  dropping-in_hand = ap (λ j. times_in j cur.hand) so.name ∙ ap (λ t. times_in i t.hand) so.after ∙ changed-in_hand s i (so.first ∷ so.rest) i is

  pub now : in_hand cur m ≡ so.first ∷ so.rest
  now = ap (λ j. in_hand cur j) so.name ∙ ap (λ t. in_hand t i) so.after ∙ changed-chain s i (so.first ∷ so.rest) is

  -- another chain at it is another chain at the message as it was
  instead : (xs : List Block) → changed cur m xs ≡ changed s i xs
  instead xs = ap (λ j. changed cur j xs) so.name ∙ ap (λ t. changed t i xs) so.after ∙ changed-twice s i (so.first ∷ so.rest) xs

  -- what is left in the end
  ends : {new : StoreValue} → new ≡ changed s i (so.first ∷ cut so.first.kind left so.rest) → new ≡ dropped_of s i count
  ends {new} new_is =
      new_is ∙ ap (λ xs. changed s i (so.first ∷ xs)) (so.cuts ∙ cut-is so.first.kind count so.whole) ∙ sym (ap (λ xs. changed s i (take 1 xs ++ without_joined (block_at 0 xs).kind count (drop 1 xs))) so.chain)

  pub dropping-all : length (in_hand s i) ≤ at → cur ≡ dropped_of s i count
  dropping-all all =
      let size = so.size in
      let len = ap (λ xs. length xs) so.chain in
      let none : length so.rest ≡ 0 = omega arith in
      let gone : so.rest ≡ [] = nil_from_length so.rest none in
      ends (so.after ∙ ap (λ xs. changed s i (so.first ∷ xs)) gone ∙ sym (ap (λ xs. changed s i (so.first ∷ cut so.first.kind left xs)) gone))

  -- there is a block behind the first
  module _ (within : at < length (in_hand s i)) where
    rest-some : 0 < length so.rest
    rest-some = let size = so.size in let len = ap (λ xs. length xs) so.chain in omega arith

    rest-is : so.rest ≡ block_at 0 so.rest ∷ drop 1 so.rest
    rest-is = some-rest so.rest rest-some

    pub dropping-more : 1 < length (in_hand cur m)
    dropping-more = let some = rest-some in let len = ap (λ xs. length xs) now in omega arith

    second : block_at 1 (in_hand cur m) ≡ block_at 0 so.rest
    second = ap (λ xs. block_at 1 xs) now

    cut-rest : cut so.first.kind left so.rest ≡ cut so.first.kind left (block_at 0 so.rest ∷ drop 1 so.rest)
    cut-rest = ap (λ xs. cut so.first.kind left xs) rest-is

    module _ {a kind : MsgKind} {said : Bool} (first_is : kind ≡ (block_at 0 (in_hand s i)).kind) (second_is : a ≡ (block_at 1 (in_hand cur m)).kind) (test : said ≡ same_kind a kind) where
      said-is : said ≡ same_kind (block_at 0 so.rest).kind so.first.kind
      said-is = test ∙ ap (λ k. same_kind k kind) (second_is ∙ ap (λ (x : Block). x.kind) second) ∙ ap (λ k. same_kind (block_at 0 so.rest).kind k) (first_is ∙ ap (λ (xs : List Block). (block_at 0 xs).kind) so.chain)

      -- it is of another kind
      pub dropping-other : said ≡ false → cur ≡ dropped_of s i count
      dropping-other other =
          let stays : cut so.first.kind left so.rest ≡ so.rest = cut-rest ∙ ap (λ v. cond v (cond (nat_le (length (block_at 0 so.rest).bytes) left) (cut so.first.kind (left - length (block_at 0 so.rest).bytes) (drop 1 so.rest)) (trimmed_head left (block_at 0 so.rest) ∷ drop 1 so.rest)) (block_at 0 so.rest ∷ drop 1 so.rest)) (sym said-is ∙ other) ∙ sym rest-is in
          ends (so.after ∙ ap (λ xs. changed s i (so.first ∷ xs)) (sym stays))

      module _ {len : ℕ} (same : said ≡ true) (len_is : len ≡ length (block_at 1 (in_hand cur m)).bytes) where
        fits : (v : Bool) → nat_le (length (block_at 0 so.rest).bytes) left ≡ v → cut so.first.kind left so.rest ≡ cond v (cut so.first.kind (left - length (block_at 0 so.rest).bytes) (drop 1 so.rest)) (trimmed_head left (block_at 0 so.rest) ∷ drop 1 so.rest)
        fits v v_is =
            let b = block_at 0 so.rest in
            let ys = drop 1 so.rest in
            let kind = so.first.kind in
            cut-rest ∙ ap (λ u. cond u (cond (nat_le (length b.bytes) left) (cut kind (left - length b.bytes) ys) (trimmed_head left b ∷ ys)) (b ∷ ys)) (sym said-is ∙ same) ∙ ap (λ u. cond u (cut kind (left - length b.bytes) ys) (trimmed_head left b ∷ ys)) v_is

        size-is : len ≡ length (block_at 0 so.rest).bytes
        size-is = len_is ∙ ap (λ (x : Block). length x.bytes) second

        -- some of its bytes stay
        pub dropping-part : {new : StoreValue} → left < len → new ≡ changed cur m (with_block 1 (trimmed_head left (block_at 1 (in_hand cur m))) (in_hand cur m)) → new ≡ dropped_of s i count
        dropping-part {new} part trim =
            let b = block_at 0 so.rest in
            let e = size-is in
            let no : nat_le (length b.bytes) left ≡ false = grind (arith, nat_tests) in
            ends (trim ∙ instead (with_block 1 (trimmed_head left (block_at 1 (in_hand cur m))) (in_hand cur m)) ∙ ap (λ (x : Block). changed s i (with_block 1 (trimmed_head left x) (in_hand cur m))) second ∙ ap (λ xs. changed s i (with_block 1 (trimmed_head left b) xs)) now ∙ ap (λ xs. changed s i (with_block 1 (trimmed_head left b) (so.first ∷ xs))) rest-is ∙ sym (ap (λ xs. changed s i (so.first ∷ xs)) (fits false no)))

        -- all of its bytes go
        pub dropping-one : {new : StoreValue} {m' : ℕ} → len ≤ left → m' ≡ m → new ≡ changed cur m (take 1 (in_hand cur m) ++ drop 2 (in_hand cur m)) → Dropping s new i m' count (left - len) (at + 1)
        dropping-one {new} {m'} whole kept freed =
            let b = block_at 0 so.rest in
            let e = size-is in
            let size = so.size in
            let yes : nat_le (length b.bytes) left ≡ true = grind (arith, nat_tests) in
            let shorter = ap (λ xs. length xs) rest-is in
            record {
              name = kept ∙ so.name;
              first = so.first;
              whole = so.whole;
              rest = drop 1 so.rest;
              chain = so.chain;
              size = omega arith;
              after = freed ∙ instead (take 1 (in_hand cur m) ++ drop 2 (in_hand cur m)) ∙ ap (λ xs. changed s i (take 1 xs ++ drop 2 xs)) now;
              cuts = ap (λ k. cut so.first.kind (left - k) (drop 1 so.rest)) e ∙ sym (fits true yes) ∙ so.cuts;
            }
