-- One who is told of the blocks of a list finds a byte exactly where it stands in the parts of a message.
use Rattle.strm_own.proofs.Prelude.{ℕ, ◌≡◌, Bool, true, false, cond, List, [], ◌∷◌, ◌++◌, map, refl, sym, ap, ◌∙◌, arith}
use Rattle.std.proofs.Math.Bool.{or_assoc}
use Rattle.std.proofs.lemmas.List.Folds.{list_any-append}
use Rattle.std.specs.List.{AllByRecursion}
use Rattle.std.specs.Prelude.{not, ◌||◌, ◌&&◌, ◌==◌}
use Rattle.strm_types.specs.Flush.{is_data_kind}
use Rattle.strm_types.specs.Message.{cells_of}
use Rattle.strm_blocks.specs.Blocks.{Block, block_at}
use Rattle.strm_blocks.specs.Outcomes.{SeenBlock, seen_in, seen_on, told}
use Rattle.strm_msg.specs.Bytes.{bytes_of}
use Rattle.strm_msg.specs.Messages.{IsChain, message_of}
use Rattle.strm_msg.proofs.Chains.{cells-shown}
use Rattle.strm_own.specs.declared.looking.Seeker.{Seeker}
use Rattle.strm_own.specs.Looking.{has_byte, is_among, sought}

module _ (byte : ℕ) where
  among-append : (xs ys : List ℕ) → is_among byte (xs ++ ys) ≡ (is_among byte xs || is_among byte ys)
  among-append xs ys = list_any-append (λ b. b == byte) xs ys

  abbrev seeking : Bool → Bool → Seeker
  seeking parts found = record { byte = byte; parts = parts; found = found }

  abbrev seeks : Seeker → List SeenBlock → Seeker
  seeks = told sought (λ v. not v.found)

  -- where one block of a message with parts was seen
  abbrev seen_one : Bool → List SeenBlock → Seeker
  seen_one found more = cond (not found) (seeks (seeking true found) more) (seeking true found)

  one-found : (found : Bool) (more : List SeenBlock) → (seen_one found more).found ≡ (found || (seeks (seeking true false) more).found)
  one-found true more = refl
  one-found false more = refl

  -- the other blocks of a message with parts, and without
  rest-found : (chain : List Block) (more : List SeenBlock)
      → (seeks (seeking true false) (seen_in false chain ++ more)).found ≡ (is_among byte (bytes_of chain) || (seeks (seeking true false) more).found)
  rest-found [] more = refl
  rest-found (b ∷ chain) more =
      one-found (is_among byte b.bytes) (seen_in false chain ++ more)
      ∙ ap (λ v. is_among byte b.bytes || v) (rest-found chain more)
      ∙ sym (or_assoc (is_among byte b.bytes) (is_among byte (bytes_of chain)) _)
      ∙ ap (λ v. v || (seeks (seeking true false) more).found) (sym (among-append b.bytes (bytes_of chain)))

  rest-skipped : (chain : List Block) (more : List SeenBlock)
      → (seeks (seeking false false) (seen_in false chain ++ more)).found ≡ (seeks (seeking false false) more).found
  rest-skipped [] more = refl
  rest-skipped (b ∷ chain) more = rest-skipped chain more

  -- the cells of a message, by whether it has parts
  cells-none : (chain : List Block) (k : Bool) → is_data_kind (block_at 0 chain).kind ≡ k → k ≡ false → cells_of (message_of chain) ≡ []
  unfolding cells_of message_of
  cells-none chain k is none = rw (is ∙ none) refl

  pub found-on : (parts : Bool) (q : List (List Block)) → AllByRecursion IsChain q
      → (seeks (seeking parts false) (seen_on q)).found ≡ has_byte byte (map message_of q)
  found-on parts [] all = refl
  found-on parts ([] ∷ q) all = absurd (let some = all.0.some in omega arith)
  found-on parts ((b ∷ chain) ∷ q) all = at (is_data_kind b.kind) refl (λ found. found-on found q all.1)
    where
      at : (k : Bool) → is_data_kind b.kind ≡ k
          → ((found : Bool) → (seeks (seeking found false) (seen_on q)).found ≡ has_byte byte (map message_of q))
          → (cond (not (k && is_among byte b.bytes)) (seeks (seeking k (k && is_among byte b.bytes)) (seen_in false chain ++ seen_on q))
          (seeking k (k && is_among byte b.bytes))).found ≡ (is_among byte (cells_of (message_of (b ∷ chain))) || has_byte byte (map message_of q))
      at true is ih =
          one-found (is_among byte b.bytes) (seen_in false chain ++ seen_on q)
          ∙ ap (λ v. is_among byte b.bytes || v) (rest-found chain (seen_on q))
          ∙ sym (or_assoc (is_among byte b.bytes) (is_among byte (bytes_of chain)) _)
          ∙ ap (λ v. v || (seeks (seeking true false) (seen_on q)).found) (sym (among-append b.bytes (bytes_of chain)))
          ∙ ap (λ v. is_among byte (bytes_of (b ∷ chain)) || v) (ih true)
          ∙ ap (λ l. is_among byte l || has_byte byte (map message_of q)) (sym (cells-shown (b ∷ chain) all.0 is))
      at false is ih =
          rest-skipped chain (seen_on q)
          ∙ ih false
          ∙ ap (λ l. is_among byte l || has_byte byte (map message_of q)) (sym (cells-none (b ∷ chain) false is refl))
