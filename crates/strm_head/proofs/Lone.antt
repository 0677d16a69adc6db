-- A message of one block that was made to go down: a chunk of a write, or an M_FLUSH.
use Rattle.strm_head.proofs.Prelude.{ℕ, ◌≡◌, ◌≤◌, false, cond, List, [], ◌∷◌, length, Some, refl, ap, ◌∙◌, arith, append-nil, nat_lt, nat_tests}
use Rattle.strm_head.proofs.Prelude.{plain-is, Made-one}
use Rattle.strm_head.specs.Prelude.{Band, Erange, is_data_kind, flush_message, is_control_kind, put_refusal, Block, StoreValue, filled_block, copy_of}
use Rattle.strm_head.specs.Prelude.{Copied, message_of, IsChain}
use Rattle.std.proofs.Common.{None}
use Rattle.strm_types.specs.declared.kinds.MsgKind.TheVariants as kinds
use Rattle.strm_types.specs.Message.{data_message}
use Rattle.strm_head.specs.Sending.{Sends}
use Rattle.strm_head.proofs.Sent.{made-data, one-copy, sends}

no-data : is_data_kind kinds.Flush ≡ false
unfolding is_data_kind
no-data = refl

no-control : is_control_kind kinds.Flush ≡ false
unfolding is_control_kind
no-control = refl

-- an M_FLUSH of these bytes, in one block
module _ (bytes : List ℕ) (number : ℕ) where
  abbrev chain : List Block
  chain = copy_of number (filled_block kinds.Flush 0 bytes) ∷ []

  is-chain : IsChain chain
  is-chain = record {
    some = omega arith;
    all_data = λ is_data. absurd (cc);
    parted = λ control. absurd (let no = no-control in cc);
    high = λ high. refl;
    low = omega arith;
  }

  shown : message_of chain ≡ record { kind = kinds.Flush; band = 0; control = None; body = None; plain = bytes }
  shown = plain-is chain no-data ∙ ap (λ xs. flush_message xs) (append-nil bytes)

-- a chunk of a write is what a putmsg of band 0 sends without a control part
chunk-allowed : (bytes : List ℕ) → length bytes ≤ 256 → put_refusal (Band (record { 0 = 0 })) None (Some bytes) ≡ None
chunk-allowed bytes few =
    let short : nat_lt 256 (length bytes) ≡ false = grind (arith, nat_tests) in
    ap (λ v. cond v (Some Erange) None) short

module _ (old new : StoreValue) (i : ℕ) (bytes : List ℕ) where
  pub made-chunk : length bytes ≤ 256 → Copied old new i (filled_block kinds.Data 0 bytes) → Sends old new i (data_message bytes) 1
  unfolding data_message
  made-chunk few copied = made-data (Band (record { 0 = 0 })) None (Some bytes) (chunk-allowed bytes few) old new i 0 refl (omega arith) bytes refl refl copied

  pub made-flush : Copied old new i (filled_block kinds.Flush 0 bytes) → Sends old new i (flush_message bytes) 1
  made-flush copied =
      let made = Made-one copied in
      let c = one-copy made.numbers (filled_block kinds.Flush 0 bytes) made.count in
      sends old new i (filled_block kinds.Flush 0 bytes ∷ []) (chain bytes c.0) (flush_message bytes) made c.1 (is-chain bytes c.0) (shown bytes c.0)
