-- The run of blocks of one kind at an end of a message, block by block.
use Rattle.std.proofs.Common.{ℕ, ◌≡◌, ◌≤◌, ◌<◌, ◌+◌, ◌*◌, Bool, true, false, cond, List, [], ◌∷◌, length, drop, sym, ap, ◌∙◌, arith}
use Rattle.std.specs.Prelude.{take_while}
use Rattle.std.proofs.lemmas.List.{length-append, drop_all}
use Rattle.std.proofs.lemmas.List.Sums.{take_while-cons}
use Rattle.strm_types.specs.declared.kinds.MsgKind.{MsgKind}
use Rattle.strm_blocks.specs.Blocks.{Block, block_at}
use Rattle.strm_msg.specs.Bytes.{bytes_of}
use Rattle.strm_msg.specs.Runs.{same_kind, front_run}
use Rattle.strm_msg.specs.declared.adjust.End.{End}
use Rattle.strm_msg.specs.Adjusted.{seen_from, place_from}
use Rattle.strm_msg.proofs.Adjusting.{block-seen, length-seen}
use Rattle.strm_msg.proofs.Parts.{chain-at}

-- the block that stands so many blocks from an end
pub block-from : (end : End) (chain : List Block) {count at : ℕ} (steps : ℕ) → count ≡ length chain → at ≡ place_from end count steps → steps < length chain → block_at at chain ≡ block_at steps (seen_from end chain)
block-from end chain steps count place within = ap (λ k. block_at k chain) place ∙ ap (λ k. block_at (place_from end k steps) chain) count ∙ block-seen end chain steps within

-- the blocks at the front of a chain that have a kind
abbrev pub run_of : MsgKind → List Block → List Block
run_of kind chain = take_while (λ b. same_kind b.kind kind) chain

-- so many blocks of a run were looked at, and have so many bytes
pub record Measured (chain : List Block) (kind : MsgKind) (steps len : ℕ) : Type 0 where
  pub blocks : steps + length (run_of kind (drop steps chain)) ≡ length (run_of kind chain)
  pub bytes : len + length (bytes_of (run_of kind (drop steps chain))) ≡ length (bytes_of (run_of kind chain))
  pub small : len ≤ 256 * steps

pub measured-first : (chain : List Block) (kind : MsgKind) → Measured chain kind 0 0
measured-first chain kind = record { blocks = omega arith; bytes = omega arith; small = omega arith }

module _ {chain : List Block} {kind : MsgKind} {steps len : ℕ} (so : Measured chain kind steps len) where
  -- the end of the chain is the end of the run
  pub measured-all : length chain ≤ steps → (steps ≡ length (run_of kind chain)) × (len ≡ length (bytes_of (run_of kind chain)))
  measured-all all =
      let none = ap (λ xs. length (run_of kind xs)) (drop_all steps chain all) in
      let empty = ap (λ xs. length (bytes_of (run_of kind xs))) (drop_all steps chain all) in
      let blocks = so.blocks in
      let bytes = so.bytes in
      (omega arith, omega arith)

  module _ (within : steps < length chain) where
    abbrev rest : List Block
    rest = drop (steps + 1) chain

    run-next : run_of kind (drop steps chain) ≡ cond (same_kind (block_at steps chain).kind kind) (block_at steps chain ∷ run_of kind rest) []
    run-next = ap (λ xs. run_of kind xs) (chain-at chain steps within) ∙ take_while-cons (λ (b : Block). same_kind b.kind kind) (block_at steps chain) rest

    -- a block of another kind ends it
    pub measured-stops : same_kind (block_at steps chain).kind kind ≡ false → (steps ≡ length (run_of kind chain)) × (len ≡ length (bytes_of (run_of kind chain)))
    measured-stops other =
        let stop : run_of kind (drop steps chain) ≡ [] = run-next ∙ ap (λ v. cond v (block_at steps chain ∷ run_of kind rest) []) other in
        let none = ap (λ xs. length xs) stop in
        let empty = ap (λ xs. length (bytes_of xs)) stop in
        let blocks = so.blocks in
        let bytes = so.bytes in
        (omega arith, omega arith)

    -- a block of its kind belongs to it
    pub measured-next : {len' : ℕ} → same_kind (block_at steps chain).kind kind ≡ true → len' ≡ len + length (block_at steps chain).bytes → length (block_at steps chain).bytes ≤ 256 → Measured chain kind (steps + 1) len'
    measured-next same len_is few =
        let go : run_of kind (drop steps chain) ≡ block_at steps chain ∷ run_of kind rest = run-next ∙ ap (λ v. cond v (block_at steps chain ∷ run_of kind rest) []) same in
        let one = ap (λ xs. length xs) go in
        let more = ap (λ xs. length (bytes_of xs)) go ∙ length-append (block_at steps chain).bytes (bytes_of (run_of kind rest)) in
        let blocks = so.blocks in
        let bytes = so.bytes in
        let small = so.small in
        record { blocks = omega arith; bytes = omega arith; small = omega arith }

-- The run at an end of a message of so many blocks, whose first block is of a kind.
module _ (end : End) (chain : List Block) {count first : ℕ} {kind : MsgKind} (count_is : count ≡ length chain) (some : 0 < count) (first_is : first ≡ place_from end count 0) (kind_is : kind ≡ (block_at first chain).kind) where
  abbrev view : List Block
  view = seen_from end chain

  run-is : run_of kind view ≡ front_run view
  run-is = ap (λ k. run_of k view) (kind_is ∙ ap (λ (b : Block). b.kind) (block-from end chain 0 count_is first_is (omega arith)))

  counted : {steps len : ℕ} → (steps ≡ length (run_of kind view)) × (len ≡ length (bytes_of (run_of kind view))) → (steps ≡ length (front_run view)) × (len ≡ length (bytes_of (front_run view)))
  counted both = (both.0 ∙ ap (λ xs. length xs) run-is, both.1 ∙ ap (λ xs. length (bytes_of xs)) run-is)

  module _ {steps len : ℕ} (so : Measured view kind steps len) where
    pub run-all : count ≤ steps → (steps ≡ length (front_run view)) × (len ≡ length (bytes_of (front_run view)))
    run-all all = let same = length-seen end chain in counted (measured-all so (omega arith))

    module _ {at : ℕ} {next : MsgKind} {is : Bool} (within : steps < count) (place : at ≡ place_from end count steps) (next_is : next ≡ (block_at at chain).kind) (is_same : is ≡ same_kind next kind) where
      in-view : steps < length view
      in-view = let same = length-seen end chain in omega arith

      block : block_at at chain ≡ block_at steps view
      block = block-from end chain steps count_is place (omega arith)

      tested : is ≡ same_kind (block_at steps view).kind kind
      tested = is_same ∙ ap (λ k. same_kind k kind) (next_is ∙ ap (λ (b : Block). b.kind) block)

      pub run-stops : is ≡ false → (steps ≡ length (front_run view)) × (len ≡ length (bytes_of (front_run view)))
      run-stops other = counted (measured-stops so in-view (sym tested ∙ other))

      pub run-goes : {n len' : ℕ} → is ≡ true → n ≡ length (block_at at chain).bytes → n ≤ 256 → len' ≡ len + n → Measured view kind (steps + 1) len'
      run-goes same n_is few len_is =
          let size = n_is ∙ ap (λ (b : Block). length b.bytes) block in
          measured-next so in-view (sym tested ∙ same) (omega arith) (omega arith)
