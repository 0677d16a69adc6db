-- The chain of a packet: an M_PROTO block with the number of a kind, and behind it the blocks of a message, which are M_DATA then.
use Rattle.strm_pty.proofs.Prelude.{ℕ, ◌≡◌, ◌<◌, Bool, true, false, cond, List, [], ◌∷◌, ◌++◌, length, refl, sym, ap, ◌∙◌, arith, append-nil, ◌&&◌}
use Rattle.strm_pty.proofs.Prelude.{Option, None, Some, kind-is, parts-same, plain-is, retyped-length}
use Rattle.strm_pty.specs.Prelude.{MsgKind, Spot, cells_made, plain, is_data_kind, is_control_kind, kind_number, Message, cells_of, has_parts}
use Rattle.strm_pty.specs.Prelude.{is_stop_or_start, plain_packed, Block, block_at, copy_of, filled_block, bytes_of, message_of, IsChain, retyped}
use Rattle.std.specs.Prelude.{not}
use Rattle.std.proofs.lemmas.List.{nil_from_length}
use Rattle.strm_types.specs.declared.kinds.MsgKind.TheVariants as kinds
use Rattle.strm_types.specs.Message.{band_of, is_high_priority}
use Rattle.strm_types.specs.Pckts.{is_bare_packet, pckt_dir}
use Rattle.strm_types.proofs.MadeCells.{made-plain}
use Rattle.strm_msg.specs.Bytes.{data_blocks}
use Rattle.strm_msg.specs.Messages.{part_of, AreData}
use Rattle.strm_msg.proofs.Chains.{band-is, cells-shown, control-front, data-behind}
use Rattle.strm_msg.proofs.MadePlain.{plain-none}
use Rattle.strm_msg.proofs.Retyping.{all-data, retyped-bytes}
use Rattle.strm_pty.specs.Packs.{packet_of}

proto-control : is_control_kind kinds.Proto ≡ true
unfolding is_control_kind
proto-control = refl

proto-low : is_high_priority kinds.Proto ≡ true → ⊥
unfolding is_high_priority
proto-low is = absurd (cc)

stop-plain : (kind : MsgKind) → is_stop_or_start kind ≡ true → is_data_kind kind ≡ false
unfolding is_data_kind
stop-plain kinds.Stop is = refl
stop-plain kinds.Start is = refl
stop-plain _ is = absurd (cc)

-- the M_PROTO block, in front of blocks that are M_DATA
module _ (band number byte : ℕ) (low : band < 256) (behind : List Block) (all : AreData behind) where
  abbrev front : Block
  front = copy_of number (filled_block kinds.Proto band (byte ∷ []))

  front-chain : IsChain (front ∷ behind)
  front-chain = record {
    some = omega arith;
    all_data = λ is_data. absurd (cc);
    parted = λ control. record { front = front ∷ []; behind = behind; joined = refl; some = omega arith; of_kind = (refl, tt); of_data = all };
    high = λ high. absurd (proto-low high);
    low = low;
  }

  front-shown : message_of (front ∷ behind) ≡ record { kind = kinds.Proto; band = band; control = Some (byte ∷ []); body = part_of behind; plain = [] }
  unfolding message_of is_data_kind
  front-shown =
      ap (λ xs. record { kind = kinds.Proto; band = band; control = part_of xs; body = part_of (data_blocks (front ∷ behind)); plain = [] }) (control-front kinds.Proto (front ∷ []) behind proto-control (refl, tt) all)
      ∙ ap (λ xs. record { kind = kinds.Proto; band = band; control = Some (byte ∷ []); body = part_of xs; plain = [] }) (data-behind kinds.Proto (front ∷ []) behind proto-control (refl, tt) all)

-- what stands there is the packet of a message
module _ (chain : List Block) (one : IsChain chain) (here : Spot) where
  abbrev m : Message ℕ
  m = message_of chain

  abbrev first : Block
  first = block_at 0 chain

  band-same : band_of m ≡ first.band
  unfolding band_of
  band-same = at (is_high_priority m.kind) refl
    where
      at : (high : Bool) → is_high_priority m.kind ≡ high → cond high 0 m.band ≡ first.band
      at true is = sym (one.high (ap is_high_priority (sym (kind-is chain)) ∙ is))
      at false is = band-is chain

  bare-at : (stops : Bool) → is_stop_or_start first.kind ≡ stops → is_bare_packet m ≡ stops
  bare-at true is =
      let none : has_parts m ≡ false = parts-same chain one ∙ stop-plain first.kind is in
      ap (λ stops. stops && not (has_parts m)) (ap is_stop_or_start (kind-is chain) ∙ is) ∙ ap (λ parts. true && not parts) none
  bare-at false is = ap (λ stops. stops && not (has_parts m)) (ap is_stop_or_start (kind-is chain) ∙ is)

  -- all bytes of its blocks are those of its parts, or those that are in no part
  all-bytes : cells_of m ++ m.plain ≡ bytes_of chain
  unfolding cells_of
  all-bytes = at (is_data_kind first.kind) refl
    where
      at : (data_kind : Bool) → is_data_kind first.kind ≡ data_kind → cells_of m ++ m.plain ≡ bytes_of chain
      at true is = ap (λ xs. cells_of m ++ xs) (nil_from_length m.plain (plain-none chain is)) ∙ append-nil (cells_of m) ∙ cells-shown chain one is
      at false is = ap (λ (n : Message ℕ). cells_of n ++ n.plain) (plain-is chain is)

  abbrev packet_with : ℕ → MsgKind → Option (List ℕ) → Message ℕ
  packet_with band kind body = record { kind = kinds.Proto; band = band; control = Some (kind_number kind ∷ []); body = body; plain = [] }

  packet-is : (body : Option (List ℕ)) → cond (is_bare_packet m) None (Some (cells_of m ++ cells_made plain (pckt_dir plain 0 here) 1 (plain_packed m))) ≡ body → packet_of here m ≡ packet_with first.band first.kind body
  packet-is body is =
      ap (packet_with (band_of m) m.kind) is ∙ ap (λ band. packet_with band m.kind body) band-same ∙ ap (λ kind. packet_with first.band kind body) (kind-is chain)

  -- of an M_STOP or M_START
  pub alone-shown : (number : ℕ) → is_stop_or_start first.kind ≡ true → message_of (front first.band number (kind_number first.kind) one.low [] tt ∷ []) ≡ packet_of here m
  alone-shown number is =
      front-shown first.band number (kind_number first.kind) one.low [] tt
      ∙ sym (packet-is None (ap (λ bare. cond bare None (Some (cells_of m ++ cells_made plain (pckt_dir plain 0 here) 1 (plain_packed m)))) (bare-at true is)))

  pub alone-chain : (number : ℕ) → IsChain (copy_of number (filled_block kinds.Proto first.band (kind_number first.kind ∷ [])) ∷ [])
  alone-chain number = front-chain first.band number (kind_number first.kind) one.low [] tt

  -- of any other one
  abbrev behind : List Block
  behind = retyped (length chain) kinds.Data chain

  part-some : (blocks : List Block) → 0 < length blocks → part_of blocks ≡ Some (bytes_of blocks)
  part-some [] some = absurd (omega arith)
  part-some (b ∷ blocks) some = refl

  body-is : is_stop_or_start first.kind ≡ false → cond (is_bare_packet m) None (Some (cells_of m ++ cells_made plain (pckt_dir plain 0 here) 1 (plain_packed m))) ≡ part_of behind
  body-is is =
      let long = retyped-length (length chain) kinds.Data chain in
      let some = one.some in
      ap (λ bare. cond bare None (Some (cells_of m ++ cells_made plain (pckt_dir plain 0 here) 1 (cond bare [] m.plain)))) (bare-at false is)
      ∙ ap (λ xs. Some (cells_of m ++ xs)) (made-plain (pckt_dir plain 0 here) 1 m.plain)
      ∙ ap Some (all-bytes ∙ sym (retyped-bytes (length chain) kinds.Data chain))
      ∙ sym (part-some behind (omega arith))

  pub full-shown : (number : ℕ) → is_stop_or_start first.kind ≡ false → message_of (front first.band number (kind_number first.kind) one.low behind (all-data chain) ∷ behind) ≡ packet_of here m
  full-shown number is =
      front-shown first.band number (kind_number first.kind) one.low behind (all-data chain) ∙ sym (packet-is (part_of behind) (body-is is))

  pub full-chain : (number : ℕ) → IsChain (copy_of number (filled_block kinds.Proto first.band (kind_number first.kind ∷ [])) ∷ behind)
  full-chain number = front-chain first.band number (kind_number first.kind) one.low behind (all-data chain)

-- how many bytes of a message are in no part
module _ (chain : List Block) (one : IsChain chain) where
  pub none-packed : is_data_kind (block_at 0 chain).kind ≡ true → plain_packed (message_of chain) ≡ []
  none-packed is = at (is_bare_packet (message_of chain))
    where
      at : (bare : Bool) → cond bare [] (message_of chain).plain ≡ []
      at true = refl
      at false = nil_from_length (message_of chain).plain (plain-none chain is)

  pub stop-packed : is_stop_or_start (block_at 0 chain).kind ≡ true → plain_packed (message_of chain) ≡ []
  stop-packed is =
      let m = message_of chain in
      let none : has_parts m ≡ false = parts-same chain one ∙ stop-plain (block_at 0 chain).kind is in
      ap (λ stops. cond (stops && not (has_parts m)) [] m.plain) (ap is_stop_or_start (kind-is chain) ∙ is) ∙ ap (λ parts. cond (not parts) [] m.plain) none

  pub all-packed : is_data_kind (block_at 0 chain).kind ≡ false → is_stop_or_start (block_at 0 chain).kind ≡ false → length (plain_packed (message_of chain)) ≡ length (bytes_of chain)
  all-packed plain_kind other =
      let m = message_of chain in
      ap (λ stops. length (cond (stops && not (has_parts m)) [] m.plain)) (ap is_stop_or_start (kind-is chain) ∙ other)
      ∙ ap (λ (n : Message ℕ). length n.plain) (plain-is chain plain_kind)
