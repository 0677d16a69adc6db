-- A message whose first bytes were joined in one new block (msgpullup(9F), pullupmsg(9F)).
use Rattle.std.specs.Prelude.{ℕ, zero, suc, ℤ, pos, negsuc, ◌≡◌, ◌<◌, ◌-◌, ◌==◌, ◌||◌, nat_le, if◌then◌else◌, List, [], ◌∷◌, ◌++◌, length, take, drop, take_while, Option, None, Some}
use Rattle.strm_types.specs.Refused.{or_else, unless}
use Rattle.strm_types.specs.declared.kinds.MsgKind.{MsgKind}
use Rattle.strm_types.specs.declared.refusals.Refusal.{Refusal}
use Rattle.strm_types.specs.declared.refusals.Refusal.TheVariants.{Einval, Enosr, Erange}
use Rattle.strm_blocks.specs.Blocks.{Block, StoreValue, IsFreshName, block_at, in_hand, held, dropped, references, free_m, free_d, trimmed_head}
use Rattle.strm_msg.specs.Bytes.{bytes_of, control_bytes, data_bytes}
use Rattle.strm_msg.specs.Runs.{front_run, same_kind}

-- the bytes of the run of blocks of one kind at a message's front
abbrev pub run_bytes : List Block → List ℕ
run_bytes chain = bytes_of (front_run chain)

-- how many bytes of a run of so many are asked for: n of them, or all for -1; no other number is one
abbrev pub asked_of : ℤ → ℕ → Option ℕ
asked_of (pos n) size = if nat_le n size then Some n else None
asked_of (negsuc zero) size = Some size
asked_of (negsuc (suc n)) size = None

-- why so many bytes aren't joined: there are fewer, or they are more than a data block holds
abbrev pub count_refusal : Option ℕ → Option Refusal
count_refusal None = Some Einval
count_refusal (Some n) = unless (nat_le n 256) Erange

-- why a call that takes a block of each kind is refused
abbrev pub block_refusal : StoreValue → Option Refusal
block_refusal s = if free_m s == 0 || free_d s == 0 then Some Enosr else None

-- why a message isn't pulled up: its bytes, then the blocks
abbrev pub pull_refusal : ℤ → StoreValue → List Block → Option Refusal
pull_refusal n s chain = or_else (count_refusal (asked_of n (length (run_bytes chain)))) (block_refusal s)

-- What is left of blocks whose first so many bytes went. Each block goes in which nothing is left, as far as the bytes
-- reach, and the next one begins behind them.
abbrev pub blocks_left : ℕ → List Block → List Block
blocks_left n [] = []
blocks_left n (b ∷ run) = if nat_le (length b.bytes) n then blocks_left (n - length b.bytes) run else trimmed_head n b ∷ run

-- the blocks from the first on that are of a kind
abbrev pub run_of : MsgKind → List Block → List Block
run_of kind chain = take_while (λ b. same_kind b.kind kind) chain

-- a chain without the first so many bytes of that run
abbrev pub without_joined : MsgKind → ℕ → List Block → List Block
without_joined kind count chain = blocks_left count (run_of kind chain) ++ drop (length (run_of kind chain)) chain

-- a new block of the message's kind and band, with its first so many bytes
abbrev pub joined : ℕ → ℕ → List Block → Block
joined number count chain = record {
  kind = (block_at 0 chain).kind;
  band = (block_at 0 chain).band;
  number = number;
  bytes = take count (run_bytes chain);
  room = 256 - count;
}

-- that block in front of what is left of the message
abbrev pub pulled : ℕ → ℕ → List Block → List Block
pulled number count chain = joined number count chain ∷ without_joined (block_at 0 chain).kind count chain

-- A message was pulled up. It took one block of each kind, and it is a new one in hand in place of the old. Its bytes are
-- the same, and each of its two parts has the same.
pub record PulledUp (old new : StoreValue) (message name : ℕ) (n : ℤ) : Type 0 where
  pub number : ℕ
  pub count : ℕ
  pub asked : asked_of n (length (run_bytes (in_hand old message))) ≡ Some count
  pub granted : pull_refusal n old (in_hand old message) ≡ None
  pub fresh_name : IsFreshName old name
  pub exists : number < old.dblks
  pub fresh_number : references old number ≡ 0
  pub after : new ≡ held (dropped old message) name (pulled number count (in_hand old message))
  pub shown : bytes_of (in_hand new name) ≡ bytes_of (in_hand old message)
  pub control : control_bytes (in_hand new name) ≡ control_bytes (in_hand old message)
  pub body : data_bytes (in_hand new name) ≡ data_bytes (in_hand old message)

-- a message was not pulled up, for that reason; it is still there, and nothing changed
pub record PullRefused (old new : StoreValue) (message name : ℕ) (n : ℤ) (refusal : Refusal) : Type 0 where
  pub refused : pull_refusal n old (in_hand old message) ≡ Some refusal
  pub kept_name : name ≡ message
  pub same : new ≡ old
