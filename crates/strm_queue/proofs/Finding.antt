-- Whether a message of a kind stands on a list.
use Rattle.std.proofs.Common.{ℕ, ◌≡◌, ◌<◌, Bool, true, false, cond, List, [], ◌∷◌, ◌++◌, length, map, sym, ap, ◌∙◌, arith}
use Rattle.std.specs.Prelude.{not, ◌||◌}
use Rattle.std.specs.List.{AllByRecursion, list_any}
use Rattle.strm_types.specs.declared.kinds.MsgKind.{MsgKind}
use Rattle.strm_types.specs.Message.{Message}
use Rattle.strm_blocks.specs.Blocks.{Block, StoreValue, IsStore, list_at}
use Rattle.strm_blocks.specs.Outcomes.{SeenBlock, seen_in, seen_on, told}
use Rattle.strm_blocks.proofs.Visits.{told-passed}
use Rattle.strm_msg.specs.Messages.{message_of}
use Rattle.strm_msg.proofs.Chains.{kind-is}
use Rattle.strm_queue.proofs.Bounds.{list-filled}

-- a visitor that stops at a message of a kind sees whether there is one
module _ {V : Type 0} (found : V → Bool) (saw : Bool → V) (same : (b : Bool) → found (saw b) ≡ b) (test : MsgKind → Bool) where
  abbrev any_such : List (Message ℕ) → Bool
  any_such ms = list_any (λ (m : Message ℕ). test m.kind) ms

  abbrev see : V → SeenBlock → V
  see v b = cond b.first (saw (test b.kind)) v

  abbrev seen_from : V → List SeenBlock → V
  seen_from v bs = told see (λ v. not (found v)) v bs

  finds-kind : (q : List (List Block)) → AllByRecursion (λ chain. 0 < length chain) q → found (seen_from (saw false) (seen_on q)) ≡ any_such (map message_of q)
  finds-kind [] all = same false
  finds-kind ([] ∷ q) all = absurd (omega (arith, all.0))
  finds-kind ((b ∷ chain) ∷ q) all =
      ap (λ t. found (cond (not t) (seen_from (saw (test b.kind)) (seen_in false chain ++ seen_on q)) (saw (test b.kind)))) (same (test b.kind))
      ∙ at (test b.kind) (finds-kind q all.1) ∙ ap (λ k. test k || any_such (map message_of q)) (sym (kind-is (b ∷ chain)))
    where
      passes : (x : SeenBlock) → x.first ≡ false → see (saw false) x ≡ saw false
      passes x is = ap (λ first. cond first (saw (test x.kind)) (saw false)) is

      at : (t : Bool) → found (seen_from (saw false) (seen_on q)) ≡ any_such (map message_of q) → found (cond (not t) (seen_from (saw t) (seen_in false chain ++ seen_on q)) (saw t)) ≡ (t || any_such (map message_of q))
      at true ih = same true
      at false ih = ap found (told-passed see (λ v. not (found v)) (saw false) chain (seen_on q) (ap not (same false)) passes) ∙ ih

  pub finds-on : (s : StoreValue) (k : ℕ) → IsStore s → found (seen_from (saw false) (seen_on (list_at s k))) ≡ any_such (map message_of (list_at s k))
  finds-on s k is = finds-kind (list_at s k) (list-filled s k is)
