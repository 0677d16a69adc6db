-- The chain of a message of which a read takes bytes is that of what the plain message shows to it.
use Rattle.strm_head.proofs.Prelude.{ℕ, ◌≡◌, ◌-◌, true, List, [], ◌++◌, length, drop, map, Some, refl, sym, ap, ◌∙◌, arith, drop_all}
use Rattle.strm_head.specs.Prelude.{ControlMode, Refuse, Data, Discard, is_data_kind, Message, part, cells_of, rest_with, rest_after, shown, offered}
use Rattle.strm_head.specs.Prelude.{Block, block_at, without_bytes, bytes_of, control_bytes, data_bytes, message_of, IsChain}
use Rattle.std.proofs.Common.{None}
use Rattle.strm_types.specs.declared.kinds.MsgKind.TheVariants as kinds
use Rattle.strm_msg.proofs.Chains.{cells-shown}
use Rattle.strm_head.specs.Parted.{cut_by, shown_chain}
use Rattle.strm_head.proofs.Resting.{band-same, data-low}
use Rattle.strm_head.proofs.Rests.{alike, parts_in, rest-like, control-is, body-is, cut-one, cut-kind, cut-band, cut-readable, control-left, data-left, bytes-left}
use Rattle.strm_head.proofs.Seen.{parts-shown}

-- What a read has of a message, and what is left of that.
pub record Showing (control : ControlMode) (chain : List Block) : Type 0 where
  pub one : IsChain (shown_chain control chain)
  pub kind : (block_at 0 (shown_chain control chain)).kind ≡ (block_at 0 chain).kind
  pub bytes : bytes_of (shown_chain control chain) ≡ offered control (message_of chain)
  pub rest : (n : ℕ) → rest_after n (message_of (shown_chain control chain)) ≡ rest_after n (shown control (message_of chain))
  pub blocks : map without_bytes (shown_chain control chain) ≡ map without_bytes chain

-- the data part alone
shown-cells : (m : Message ℕ) → cells_of (shown Discard (record m { plain = [] })) ≡ part m.body
unfolding cells_of
shown-cells m = refl

module _ (chain : List Block) (one : IsChain chain) (readable : is_data_kind (block_at 0 chain).kind ≡ true) where
  abbrev size : ℕ
  size = length (control_bytes chain)

  abbrev cut : List Block
  cut = cut_by size 0 chain

  control-gone : control_bytes cut ≡ []
  control-gone = control-left size 0 chain one readable ∙ drop_all size (control_bytes chain) (omega arith)

  data-stays : data_bytes cut ≡ data_bytes chain
  data-stays = data-left size 0 chain one readable

  rest-data : (n : ℕ) → rest_after n (message_of cut) ≡ rest_after n (shown Discard (message_of chain))
  rest-data n =
      let cut_readable = cut-readable size 0 chain one readable in
      let m = message_of cut in
      let left = drop (n - 0) (data_bytes chain) in
      let own = parts_in chain in
      let same = shown Discard own in
      ap (λ xs. rest_with (drop n xs) (drop (n - length xs) (part m.body)) m) (control-is cut cut_readable ∙ control-gone)
      ∙ ap (λ xs. rest_with (drop n []) (drop (n - 0) xs) m) (body-is cut cut_readable ∙ data-stays)
      ∙ ap (λ xs. rest_with xs left m) (drop_all n [] (omega arith))
      ∙ ap (rest_with [] left) (parts-shown cut cut_readable)
      ∙ rest-like [] left cut chain (cut-kind size 0 chain one readable) (cut-band size 0 chain one readable)
      ∙ ap (λ b. record { kind = kinds.Data; band = b; control = None; body = Some left; plain = [] }) (sym (band-same same (λ up. absurd (data-low up))))
      ∙ sym (ap (λ x. rest_after n (shown Discard x)) (parts-shown chain readable)
      ∙ ap (λ xs. rest_with xs (drop (n - 0) (part own.body)) same) (drop_all n [] (omega arith))
      ∙ ap (λ xs. rest_with [] (drop (n - 0) xs) same) (ap (λ (x : Message ℕ). part x.body) (sym (parts-shown chain readable)) ∙ body-is chain readable))

  discards : Showing Discard chain
  discards = record {
    one = cut-one size 0 chain one readable;
    kind = cut-kind size 0 chain one readable;
    bytes = bytes-left size 0 chain one readable ∙ ap (λ xs. xs ++ data_bytes chain) (drop_all size (control_bytes chain) (omega arith))
        ∙ sym (ap (λ x. cells_of (shown Discard x)) (parts-shown chain readable) ∙ shown-cells (parts_in chain) ∙ ap (λ (x : Message ℕ). part x.body) (sym (parts-shown chain readable)) ∙ body-is chain readable);
    rest = rest-data;
    blocks = alike size 0 chain one readable;
  }

  pub shows : (control : ControlMode) → Showing control chain
  shows Refuse = record { one = one; kind = refl; bytes = sym (cells-shown chain one readable); rest = λ n. refl; blocks = refl }
  shows Data = record { one = one; kind = refl; bytes = sym (cells-shown chain one readable); rest = λ n. refl; blocks = refl }
  shows Discard = discards

-- under the other modes the chain stays
pub shown-all : (control : ControlMode) (chain : List Block) → (control ≡ Discard → ⊥) → shown_chain control chain ≡ chain
shown-all Refuse chain other = refl
shown-all Data chain other = refl
shown-all Discard chain other = absurd (other refl)
