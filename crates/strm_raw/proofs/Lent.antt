-- What a `&` to nodes side by side shows: that they lie in a block, which is not too large, and a `&` to each node. Assumes `Logic`.
use mathlib.Core.Path.{refl}
use Prim.Native.Nat.{ℕ, zero, suc, ◌+◌, ◌*◌, ◌<◌, ◌^◌}
use native.Mathlib.Nat.{not-suc-le-zero, le_of_suc-le-suc}
use mathlib.Core.List.{List, [], ◌∷◌}
use lib.ListN.{length, get_or}
use seplogic.Ra.Ura.{Ura}
use base.Logic.{ent, sep, emp}
use base.Fml.{Lft, fhide}
use contract.Monad.{fact, fact_i}
use types.Logic.{Logic, sem}
use types.Kit.{‵, raw, ◌⊛◌, ◌$◌, ◌∵◌, !, qed, by, keep, drop, use0, use1, split, rewrite, fsplit, flt_l, done}
use denote.Index.{place as nth_place, place_is}
use denote.Memory.{hidden_shr}
use denote.Opens.{unhide, hide}
use denote.RawPtr.{InBlock, block_of, count_of}
use denote.Slice.{elements_shared}
use denote.Steps.{heard}
use denote.Struct.Lending.{in_block_says, lent_out}
use denote.Struct.Owning.{shape}
use denote.Struct.Struct.{Struct}
use Rattle.std_alloc.proofs.VecSteps.El.{El, P, R, Vr, el_d, el_x, el_ptr, el_cap, el_items, owning, sz}
use Rattle.std_alloc.specs.contracts.vec.Vec as vec-type

module _ (E : El) {M : Type 1} {𝓤 : Ura M} (𝓛 : Logic 𝓤) (κ : Lft) where
  nth_lent : (xs : List (el_x E)) (i : ℕ) (d : el_x E) (b o : ℕ) → i < length xs
      → ent 𝓤 (sem 𝓛 (fhide (elements_shared (R E) xs b o κ))) (sem 𝓛 (hidden_shr (R E) κ (get_or xs i d) b (nth_place (sz E) o i)))
  nth_lent [] i d b o lt = absurd (not-suc-le-zero lt)
  nth_lent (x ∷ xs) zero d b o lt = qed 𝓛 (‵ (fhide (elements_shared (R E) (x ∷ xs) b o κ)) ∷ []) ∵ unhide ! $ fsplit ! $ hide ! $ keep ! (0 ∷ []) $ done !
  nth_lent (x ∷ xs) (suc i) d b o lt = qed 𝓛 (‵ (fhide (elements_shared (R E) (x ∷ xs) b o κ)) ∷ []) ∵
      unhide ! $ fsplit ! $ drop ! $ hide ! $ by ! (nth_lent xs i d b (o + sz E) (le_of_suc-le-suc lt))

  abbrev pub Lies : el_d E → Type 0
  Lies v = InBlock (el_ptr E v) × (el_cap E v * sz E < 2 ^ 63)

  pub node_lent : (v : el_d E) (rb ro i : ℕ) (d : el_x E) → i < length (el_items E v) → ent 𝓤 (sem 𝓛 (hidden_shr (Vr E) κ v rb ro))
      (sep 𝓤 (fact 𝓤 (Lies v)) (sem 𝓛 (hidden_shr (R E) κ (get_or (el_items E v) i d) (block_of (el_ptr E v)) (i * sz E + count_of (el_ptr E v)))))
  node_lent v rb ro i d lt =
      let b = block_of (el_ptr E v) in let o = count_of (el_ptr E v) in let xs = el_items E v in
      qed 𝓛 (‵ (hidden_shr (Vr E) κ v rb ro) ∷ []) ∵
      use1 𝓛 (‵ (hidden_shr (Struct (shape (owning E))) κ (v.ptr, (v.len, (v.cap, (v.alloc, tt)))) rb ro) ⊛ ‵ (fhide (vec-type.the_lent (R E) (P E) E.al.g v v.ptr κ)))
      (lent_out 𝓛 (vec-type.struct (R E) (P E) E.al.g) (vec-type.the_codes (el_x E) (P E).Denot (R E).coded (P E).coded) (vec-type.the_heap (R E) (P E) E.al.g) (vec-type.the_lent (R E) (P E) E.al.g) κ v rb ro) $
      split ! $ drop ! $ unhide ! $ fsplit ! $ flt_l ! (λ fit. fsplit ! $ use1 𝓛 (raw (fact 𝓤 (InBlock (el_ptr E v)))) (in_block_says 𝓛 (el_ptr E v)) $ heard ! (InBlock (el_ptr E v)) (λ inside.
      fsplit ! $ drop ! $ hide ! $ use1 𝓛 (‵ (hidden_shr (R E) κ (get_or xs i d) b (nth_place (sz E) o i))) (nth_lent xs i d b o lt) $
      rewrite ! 0 (λ (k : ℕ). ‵ (hidden_shr (R E) κ (get_or xs i d) b k)) (place_is (sz E) o i) refl $
      use0 𝓛 (raw (fact 𝓤 (Lies v))) (fact_i 𝓤 (Lies v) (emp 𝓤) (inside, fit)) $ done !))
