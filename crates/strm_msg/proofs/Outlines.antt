-- Chains of blocks of the same kinds and bands, whatever their bytes and their data blocks: one is a message where the other is.
use Rattle.std.proofs.Common.{ℕ, ◌≡◌, List, [], ◌∷◌, length, map, take, drop, refl, sym, ap, subst, ◌∙◌, arith}
use Rattle.std.specs.List.{AllByRecursion}
use Rattle.std.proofs.Math.Seq.{take-append_seam, drop-append_seam}
use Rattle.std.proofs.lemmas.List.{length-append, length-map, length-take, take-map, drop-map, take-append-drop}
use Rattle.strm_types.specs.declared.kinds.MsgKind.{MsgKind}
use Rattle.strm_types.specs.declared.kinds.MsgKind.TheVariants as kinds
use Rattle.strm_types.specs.Kinds.{is_control_kind}
use Rattle.strm_types.specs.Message.{is_high_priority}
use Rattle.strm_blocks.specs.Blocks.{Block, block_at, filled_block}
use Rattle.strm_msg.specs.Messages.{AreData, IsParted, IsChain}

-- a block of the same kind and band
abbrev pub outline : Block → Block
outline b = filled_block b.kind b.band []

-- blocks of one kind
abbrev pub OfKind : MsgKind → List Block → Type 0
OfKind k chain = AllByRecursion (λ b. b.kind ≡ k) chain

outline-kinds : (k : MsgKind) (chain : List Block) → OfKind k chain → OfKind k (map outline chain)
outline-kinds k [] all = tt
outline-kinds k (b ∷ chain) all = (all.0, outline-kinds k chain all.1)

shown-kinds : (k : MsgKind) (chain : List Block) → OfKind k (map outline chain) → OfKind k chain
shown-kinds k [] all = tt
shown-kinds k (b ∷ chain) all = (all.0, shown-kinds k chain all.1)

first-kind : (chain : List Block) → (block_at 0 (map outline chain)).kind ≡ (block_at 0 chain).kind
first-kind [] = refl
first-kind (b ∷ chain) = refl

first-band : (chain : List Block) → (block_at 0 (map outline chain)).band ≡ (block_at 0 chain).band
first-band [] = refl
first-band (b ∷ chain) = refl

module _ (old new : List Block) (same : map outline new ≡ map outline old) where
  pub outlined-kind : (block_at 0 new).kind ≡ (block_at 0 old).kind
  outlined-kind = sym (first-kind new) ∙ ap (λ c. (block_at 0 c).kind) same ∙ first-kind old

  pub outlined-band : (block_at 0 new).band ≡ (block_at 0 old).band
  outlined-band = sym (first-band new) ∙ ap (λ c. (block_at 0 c).band) same ∙ first-band old

  pub outlined-length : length new ≡ length old
  outlined-length = sym (length-map new outline) ∙ ap length same ∙ length-map old outline

  outlined-all : (k : MsgKind) → OfKind k old → OfKind k new
  outlined-all k all = shown-kinds k new (subst (OfKind k) (sym same) (outline-kinds k old all))

outlined-front : (n : ℕ) (old new : List Block) → map outline new ≡ map outline old → map outline (take n new) ≡ map outline (take n old)
outlined-front n old new same = sym (take-map outline n new) ∙ ap (take n) same ∙ take-map outline n old

outlined-behind : (n : ℕ) (old new : List Block) → map outline new ≡ map outline old → map outline (drop n new) ≡ map outline (drop n old)
outlined-behind n old new same = sym (drop-map outline n new) ∙ ap (drop n) same ∙ drop-map outline n old

-- the two parts of a chain, by how many blocks the first one has
module _ {k : MsgKind} {chain : List Block} (p : IsParted k chain) where
  pub front-is : take (length p.front) chain ≡ p.front
  front-is = ap (take (length p.front)) p.joined ∙ take-append_seam p.front p.behind

  pub behind-is : drop (length p.front) chain ≡ p.behind
  behind-is = ap (drop (length p.front)) p.joined ∙ drop-append_seam p.front p.behind

outlined-parted : (k : MsgKind) (old new : List Block) → map outline new ≡ map outline old → IsParted k old → IsParted k new
outlined-parted k old new same p =
    let count = length p.front in
    let long = outlined-length old new same in
    let whole = ap length p.joined ∙ length-append p.front p.behind in
    let front = subst (OfKind k) (sym (front-is p)) p.of_kind in
    let behind = subst AreData (sym (behind-is p)) p.of_data in
    record {
      front = take count new;
      behind = drop count new;
      joined = sym (take-append-drop count new);
      some = omega (arith, length-take count new, long, whole, p.some);
      of_kind = outlined-all (take count old) (take count new) (outlined-front count old new same) k front;
      of_data = outlined-all (drop count old) (drop count new) (outlined-behind count old new same) kinds.Data behind;
    }

pub outlined-chain : (old new : List Block) → map outline new ≡ map outline old → IsChain old → IsChain new
outlined-chain old new same one =
    let kind = outlined-kind old new same in
    let band = outlined-band old new same in
    record {
      some = omega (arith, outlined-length old new same, one.some);
      all_data = λ is. outlined-all old new same kinds.Data (one.all_data (sym kind ∙ is));
      parted = λ is. subst (λ k. IsParted k new) (sym kind)
          (outlined-parted (block_at 0 old).kind old new same (one.parted (ap is_control_kind (sym kind) ∙ is)));
      high = λ is. band ∙ one.high (ap is_high_priority (sym kind) ∙ is);
      low = omega (arith, band, one.low);
    }
