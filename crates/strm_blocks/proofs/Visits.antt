-- What a visitor is told, block by block and message by message.
use Rattle.std.proofs.Common.{◌≡◌, Bool, true, false, cond, List, [], ◌∷◌, ◌++◌, refl, sym, ap, ◌∙◌, append-nil}
use Rattle.strm_blocks.specs.Blocks.{Block}
use Rattle.strm_blocks.specs.Outcomes.{SeenBlock, seen_in, seen_on, told}

module _ {V : Type 0} (after : V → SeenBlock → V) (goes_on : V → Bool) where
  -- a visitor that a block leaves as it is, and that goes on, passes over all blocks of a message but the first
  pub told-passed : (v : V) (chain : List Block) (more : List SeenBlock) → goes_on v ≡ true → ((b : SeenBlock) → b.first ≡ false → after v b ≡ v)
      → told after goes_on v (seen_in false chain ++ more) ≡ told after goes_on v more
  told-passed v [] more on same = refl
  told-passed v (b ∷ chain) more on same =
      let seen : SeenBlock = record { first = false; kind = b.kind; band = b.band; bytes = b.bytes } in
      let here = same seen refl in
      let rest = seen_in false chain ++ more in
      ap (λ w. cond (goes_on w) (told after goes_on w rest) w) here
      ∙ ap (λ t. cond t (told after goes_on v rest) v) on ∙ told-passed v chain more on same

  module _ (v v' : V) (seen : SeenBlock) (is : v' ≡ after v seen) (more : List SeenBlock) where
    -- a visitor that was told of a block, and wants to be told of those behind it, or of none
    pub told-on : goes_on v' ≡ true → told after goes_on v (seen ∷ more) ≡ told after goes_on v' more
    told-on on =
        ap (λ w. cond (goes_on w) (told after goes_on w more) w) (sym is) ∙ ap (λ t. cond t (told after goes_on v' more) v') on

    pub told-last : goes_on v' ≡ false → told after goes_on v (seen ∷ more) ≡ v'
    told-last off =
        ap (λ w. cond (goes_on w) (told after goes_on w more) w) (sym is) ∙ ap (λ t. cond t (told after goes_on v' more) v') off

  -- a message of which a visitor was told, and no other one
  pub told-alone : (v v' : V) (chain : List Block) (wants : Bool) → ((more : List SeenBlock) → told after goes_on v (seen_in true chain ++ more) ≡ cond wants (told after goes_on v' more) v')
      → v' ≡ told after goes_on v (seen_in true chain)
  told-alone v v' chain wants all = sym (ap (told after goes_on v) (sym (append-nil (seen_in true chain))) ∙ all [] ∙ same wants)
    where
      same : (b : Bool) → cond b v' v' ≡ v'
      same true = refl
      same false = refl
