-- What a pointer to a node says of it.
use Rattle.std.specs.Prelude.{◌≡◌, ℕ, zero, suc, ◌+◌, ◌-◌, ◌*◌, ◌/◌, ◌<◌, List, [], ◌∷◌, length, get_or, slice_get, Some, refl}
use Rattle.std.proofs.Common.{arith, lit<, ap, ◌∙◌, sym}
use Rattle.std.proofs.Math.Nat.{mul-div_cancel}
use denote.RawPtr.{Ptr, block_ptr, null_ptr, InBlock}
use native.Mathlib.Nat.{not-suc-le-zero, le_of_suc-le-suc}
use Rattle.strm_raw.specs.Links.{place, index_of, IsPlace}
use Rattle.strm_raw.specs.MsgNodes as messages
use Rattle.strm_raw.specs.DataNodes as data_blocks

-- an item that is there is found
pub found-item : {X : Type 0} (xs : List X) (i : ℕ) (d : X) → i < length xs → slice_get xs i ≡ Some (get_or xs i d)
found-item [] i d lt = absurd (not-suc-le-zero lt)
found-item (x ∷ xs) zero d lt = refl
found-item (x ∷ xs) (suc i) d lt = found-item xs i d (le_of_suc-le-suc lt)

-- where a node of a block lies
pub place_in : (s b o i : ℕ) → place s (block_ptr b o) i ≡ block_ptr b (i * s + o)
unfolding place
place_in s b o i = refl

-- the number of the node that lies in a place
pub index_at : (s : ℕ) (at : Ptr) (i : ℕ) → InBlock at → 0 < s → index_of s at (place s at i) ≡ i
unfolding index_of place
index_at s (block_ptr b o) i h sized =
    let e : (i * s + o) - o ≡ i * s = omega arith in
    ap (λ n. n / s) e ∙ mul-div_cancel i sized
index_at s null_ptr i h sized = absurd h

module _ (s : ℕ) (sized : 0 < s) (base p : Ptr) (i n : ℕ) (is : p ≡ place s base i) (block : InBlock base) (within : i < n) where
  pub number-is : index_of s base p ≡ i
  number-is = ap (λ q. index_of s base q) is ∙ index_at s base i block sized

  pub place-is : IsPlace s base p n
  place-is = let e = number-is in (omega arith, is ∙ ap (λ k. place s base k) (sym e))

pub msg-sized : 0 < messages.node_size
msg-sized = lit< tt

pub data-sized : 0 < data_blocks.node_size
data-sized = lit< tt
