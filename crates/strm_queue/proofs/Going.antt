-- How many bytes a flush takes.
use Rattle.std.proofs.Common.{ℕ, ◌≡◌, Bool, true, false, cond, List, [], ◌∷◌, length, map, refl, ap, ◌∙◌, arith}
use Rattle.std.specs.Prelude.{sum_by, ◌&&◌, ◌==◌, if◌then◌else◌, None, Some}
use Rattle.std.specs.List.{AllByRecursion}
use Rattle.std.proofs.lemmas.List.{length-append}
use Rattle.std.proofs.lemmas.List.Sums.{sum_by-cons}
use Rattle.strm_types.specs.declared.kinds.Band.{Band}
use Rattle.strm_types.specs.Emptied.{Choice, of_all, of_data, cells_gone}
use Rattle.strm_types.specs.Message.{Message, cells_of, size_of}
use Rattle.strm_blocks.specs.Blocks.{Block, block_at}
use Rattle.strm_msg.specs.Messages.{message_of, part_of, IsChain}
use Rattle.strm_msg.specs.Bytes as bytes
use Rattle.strm_msg.specs.Bytes.{control_blocks, data_blocks}
use Rattle.strm_msg.proofs.Chains.{kind-is, band-is, size-shown}
use Rattle.strm_queue.specs.Kept.{bytes_of, data_bytes_of, data_share, band_of, is_data}

-- a message by whether its kind is of data
abbrev by_kind : Bool → List Block → Message ℕ
by_kind b chain =
    let first = block_at 0 chain in
    cond b (record { kind = first.kind; band = first.band; control = part_of (control_blocks chain); body = part_of (data_blocks chain); plain = [] })
    (record { kind = first.kind; band = first.band; control = None; body = None; plain = bytes.bytes_of chain })

message-by : (chain : List Block) → message_of chain ≡ by_kind (is_data chain) chain
unfolding message_of
message-by chain = refl

long-by : (b : Bool) (m : Message ℕ) (chain : List Block) → m ≡ by_kind b chain → size_of m ≡ bytes_of chain → length (cells_of m) ≡ (if b then bytes_of chain else 0)
unfolding size_of cells_of
long-by true m chain is size =
    let none = ap (λ (x : Message ℕ). length x.plain) is in omega (arith, size, none)
long-by false m chain is size = ap (λ (x : Message ℕ). length (cells_of x)) is

-- the cells of a message of data are its bytes, and no other one has any
pub cells-long : (chain : List Block) → IsChain chain → length (cells_of (message_of chain)) ≡ data_bytes_of chain
cells-long chain one = long-by (is_data chain) (message_of chain) chain (message-by chain) (size-shown chain one)

module _ (chosen : Choice) (share : List Block → ℕ)
    (each : (chain : List Block) → IsChain chain → (if chosen (block_at 0 chain).kind (block_at 0 chain).band then data_bytes_of chain else 0) ≡ share chain) where
  one-long : (chain : List Block) → IsChain chain → length (cond (chosen (message_of chain).kind (message_of chain).band) (cells_of (message_of chain)) []) ≡ share chain
  one-long chain one =
      ap (λ k. length (cond (chosen k (message_of chain).band) (cells_of (message_of chain)) [])) (kind-is chain)
      ∙ ap (λ b. length (cond (chosen (block_at 0 chain).kind b) (cells_of (message_of chain)) [])) (band-is chain)
      ∙ at (chosen (block_at 0 chain).kind (block_at 0 chain).band) ∙ each chain one
    where
      at : (b : Bool) → length (cond b (cells_of (message_of chain)) []) ≡ (if b then data_bytes_of chain else 0)
      at true = cells-long chain one
      at false = refl

  pub gone-long : (q : List (List Block)) → AllByRecursion IsChain q → length (cells_gone chosen (map message_of q)) ≡ sum_by share q
  gone-long [] all = refl
  gone-long (chain ∷ q) all =
      omega (
        arith,
        length-append (cond (chosen (message_of chain).kind (message_of chain).band) (cells_of (message_of chain)) []) (cells_gone chosen (map message_of q)),
        one-long chain all.0,
        gone-long q all.1,
        sum_by-cons share chain q,
      )

data-twice : (b : Bool) (n : ℕ) → (if b then (if b then n else 0) else 0) ≡ (if b then n else 0)
data-twice true n = refl
data-twice false n = refl

pub gone-all : (q : List (List Block)) → AllByRecursion IsChain q → length (cells_gone (of_data None) (map message_of q)) ≡ sum_by data_bytes_of q
gone-all q all = gone-long (of_data None) data_bytes_of (λ chain one. data-twice (is_data chain) (bytes_of chain)) q all

band-twice : (d h : Bool) (n : ℕ) → (if d && h then (if d then n else 0) else 0) ≡ (if h && d then n else 0)
band-twice true true n = refl
band-twice true false n = refl
band-twice false true n = refl
band-twice false false n = refl

pub gone-band : (band : Band) (q : List (List Block)) → AllByRecursion IsChain q → length (cells_gone (of_data (Some band)) (map message_of q)) ≡ sum_by (data_share band.0) q
gone-band band q all = gone-long (of_data (Some band)) (data_share band.0) (λ chain one. band-twice (is_data chain) (band_of chain == band.0) (bytes_of chain)) q all

any-twice : (b : Bool) (n : ℕ) → (if true then (if b then n else 0) else 0) ≡ (if b then n else 0)
any-twice b n = refl

-- all messages together have no more cells than those of data
pub gone-every : (q : List (List Block)) → AllByRecursion IsChain q → length (cells_gone of_all (map message_of q)) ≡ sum_by data_bytes_of q
gone-every q all = gone-long of_all data_bytes_of (λ chain one. any-twice (is_data chain) (bytes_of chain)) q all
