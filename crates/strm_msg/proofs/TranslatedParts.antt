-- What a message stands for whose data part has other bytes.
use Rattle.std.proofs.Common.{ℕ, ◌≡◌, Bool, true, false, cond, List, [], ◌∷◌, ◌++◌, map, unwrap_or, refl, sym, ap, ◌∙◌}
use Rattle.std.specs.Prelude.{Option, None, Some, option_map, slice_index_or}
use Rattle.std.proofs.lemmas.List.{map-append}
use Rattle.strm_types.specs.Flush.{is_data_kind}
use Rattle.strm_types.specs.Kinds.{is_body_kind, is_control_kind}
use Rattle.strm_types.specs.Message.{Message}
use Rattle.strm_blocks.specs.Blocks.{Block, block_at}
use Rattle.strm_msg.specs.Bytes.{bytes_of, control_blocks, data_blocks}
use Rattle.strm_msg.specs.Messages.{IsChain, message_of, part_of}
use Rattle.strm_msg.specs.Translated.{shown_block, translated, translated_block, translated_message}
use Rattle.strm_msg.proofs.Chains.{control-body}
use Rattle.strm_msg.proofs.MadePlain.{plain-is}
use Rattle.strm_msg.proofs.Outlines.{outline, outlined-chain}
use Rattle.strm_msg.proofs.Parts.{control-blocks-cons}

-- the bytes of a part, none where it is absent
part-bytes : (blocks : List Block) → unwrap_or (part_of blocks) [] ≡ bytes_of blocks
part-bytes [] = refl
part-bytes (b ∷ blocks) = refl

-- Blocks that keep their kinds and bands and, in the control part, their bytes, and whose bytes in the data part are others.
pub record Replaces (f : Block → Block) (g : List ℕ → List ℕ) : Type 0 where
  kind : (b : Block) → (f b).kind ≡ b.kind
  band : (b : Block) → (f b).band ≡ b.band
  control : (b : Block) → is_control_kind b.kind ≡ true → (f b).bytes ≡ b.bytes
  body : (b : Block) → is_body_kind b.kind ≡ true → (f b).bytes ≡ g b.bytes
  none : g [] ≡ []
  both : (xs ys : List ℕ) → g (xs ++ ys) ≡ g xs ++ g ys

module _ {f : Block → Block} {g : List ℕ → List ℕ} (r : Replaces f g) where
  control-replaced : (chain : List Block) → part_of (control_blocks (map f chain)) ≡ part_of (control_blocks chain)
  control-replaced [] = refl
  control-replaced (b ∷ chain) =
      ap part_of (control-blocks-cons (f b) (map f chain) ∙ ap (λ k. cond (is_control_kind k) (f b ∷ control_blocks (map f chain)) []) (r.kind b))
      ∙ by (control-replaced chain) (is_control_kind b.kind) refl
      ∙ sym (ap part_of (control-blocks-cons b chain))
    where
      by : part_of (control_blocks (map f chain)) ≡ part_of (control_blocks chain) → (v : Bool) → is_control_kind b.kind ≡ v
          → part_of (cond v (f b ∷ control_blocks (map f chain)) []) ≡ part_of (cond v (b ∷ control_blocks chain) [])
      by ih true is =
          let new = control_blocks (map f chain) in
          let rest = sym (part-bytes new) ∙ ap (λ o. unwrap_or o []) ih ∙ part-bytes (control_blocks chain) in
          ap Some (ap (λ xs. xs ++ bytes_of new) (r.control b is) ∙ ap (λ xs. b.bytes ++ xs) rest)
      by ih false is = refl

  part-replaced : (xs ys : List Block) → part_of ys ≡ option_map g (part_of xs) → bytes_of ys ≡ g (bytes_of xs)
  part-replaced xs ys same = sym (part-bytes ys) ∙ ap (λ o. unwrap_or o []) same ∙ by xs
    where
      by : (xs : List Block) → unwrap_or (option_map g (part_of xs)) [] ≡ g (bytes_of xs)
      by [] = sym r.none
      by (b ∷ blocks) = refl

  body-replaced : (chain : List Block) → part_of (data_blocks (map f chain)) ≡ option_map g (part_of (data_blocks chain))
  body-replaced [] = refl
  body-replaced (b ∷ chain) =
      ap (λ k. part_of (cond (is_body_kind k) (f b ∷ data_blocks (map f chain)) (data_blocks (map f chain)))) (r.kind b)
      ∙ by (body-replaced chain) (is_body_kind b.kind) refl
    where
      by : part_of (data_blocks (map f chain)) ≡ option_map g (part_of (data_blocks chain)) → (v : Bool) → is_body_kind b.kind ≡ v
          → part_of (cond v (f b ∷ data_blocks (map f chain)) (data_blocks (map f chain)))
          ≡ option_map g (part_of (cond v (b ∷ data_blocks chain) (data_blocks chain)))
      by ih true is =
          ap Some (ap (λ xs. xs ++ bytes_of (data_blocks (map f chain))) (r.body b is)
          ∙ ap (λ xs. g b.bytes ++ xs) (part-replaced (data_blocks chain) (data_blocks (map f chain)) ih)
          ∙ sym (r.both b.bytes (bytes_of (data_blocks chain))))
      by ih false is = ih

  first-kind : (chain : List Block) → (block_at 0 (map f chain)).kind ≡ (block_at 0 chain).kind
  first-kind [] = refl
  first-kind (b ∷ chain) = r.kind b

  first-band : (chain : List Block) → (block_at 0 (map f chain)).band ≡ (block_at 0 chain).band
  first-band [] = refl
  first-band (b ∷ chain) = r.band b

  -- the message has the same in its control part, and the other bytes in its data part
  pub message-replaced : (chain : List Block) → is_data_kind (block_at 0 chain).kind ≡ true
      → message_of (map f chain) ≡ record (message_of chain) { body = option_map g (message_of chain).body }
  unfolding message_of
  message-replaced chain is =
      let is' : is_data_kind (block_at 0 (map f chain)).kind ≡ true = ap is_data_kind (first-kind chain) ∙ is in
      rw (is, is', first-kind chain, first-band chain, control-replaced chain, body-replaced chain) refl

shows : Replaces shown_block (λ xs. xs)
shows = record { kind = λ b. refl; band = λ b. refl; control = λ b is. refl; body = λ b is. refl; none = refl; both = λ xs ys. refl }

translates : (table : List ℕ) → Replaces (translated_block table) (translated table)
translates table = record {
  kind = λ b. refl;
  band = λ b. refl;
  control = λ b is. ap (λ v. cond v (translated table b.bytes) b.bytes) (control-body b.kind is);
  body = λ b is. ap (λ v. cond v (translated table b.bytes) b.bytes) is;
  none = refl;
  both = λ xs ys. map-append (λ b. slice_index_or table b 0) xs ys;
}

same-body : (m : Message ℕ) → record m { body = option_map (λ xs. xs) m.body } ≡ m
same-body m = ap (λ o. record m { body = o }) (by m.body)
  where
    by : (o : Option (List ℕ)) → option_map (λ xs. xs) o ≡ o
    by None = refl
    by (Some xs) = refl

-- a block and what is shown of it have one outline
shown-outline : (chain : List Block) → map outline (map shown_block chain) ≡ map outline chain
shown-outline [] = refl
shown-outline (b ∷ chain) = ap (λ xs. outline b ∷ xs) (shown-outline chain)

translated-outline : (table : List ℕ) (chain : List Block) → map outline (map (translated_block table) chain) ≡ map outline chain
translated-outline table [] = refl
translated-outline table (b ∷ chain) = ap (λ xs. outline b ∷ xs) (translated-outline table chain)

module _ (table : List ℕ) (chain new : List Block) (same : map shown_block new ≡ map (translated_block table) chain) where
  -- one is a message where the other is
  outlines : map outline new ≡ map outline chain
  outlines = sym (shown-outline new) ∙ ap (map outline) same ∙ translated-outline table chain

  pub translated-chain : IsChain chain → IsChain new
  translated-chain one = outlined-chain chain new outlines one

  pub message-translated : is_data_kind (block_at 0 chain).kind ≡ true → message_of new ≡ translated_message table (message_of chain)
  message-translated is =
      let kind = sym (first-kind shows new) ∙ ap (λ c. (block_at 0 c).kind) same ∙ first-kind (translates table) chain in
      sym (message-replaced shows new (ap is_data_kind kind ∙ is) ∙ same-body (message_of new))
      ∙ ap message_of same
      ∙ message-replaced (translates table) chain is

-- a message without parts stands for the same
pub whole-translated : (table : List ℕ) (chain : List Block) → is_data_kind (block_at 0 chain).kind ≡ false
    → message_of chain ≡ translated_message table (message_of chain)
whole-translated table chain is = plain-is chain is ∙ sym (ap (translated_message table) (plain-is chain is))
