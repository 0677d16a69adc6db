-- A message that was made or pulled up is in hand, beside all that were.
use Rattle.std.proofs.Common.{ℕ, ℤ, ◌≡◌, ◌≢◌, ◌≤◌, true, false, cond, ◌==◌, List, [], ◌∷◌, ap, sym, ◌∙◌, arith}
use Rattle.std.proofs.lemmas.List.Sums.{sum_by-cons}
use Rattle.strm_blocks.specs.Blocks.{Block, Held, StoreValue, IsInHand, IsFreshName, in_hand, held, dropped, times_in, without}
use Rattle.strm_blocks.proofs.Laws.{IsInHand-dropped, in_hand-dropped}
use Rattle.strm_msg.specs.Made.{Made, copies_of}
use Rattle.strm_msg.specs.Pulled.{PulledUp, pulled}
use Rattle.strm_msg.proofs.Hands.{held-is, held-apart, stays, stays-chain}

pub made-here : (old new : StoreValue) (i : ℕ) (like : List Block) → Made old new i like → IsInHand new i
made-here old new i like m = rw m.after (held-is old i (copies_of m.numbers like) m.fresh_name)

pub made-apart : (old new : StoreValue) (i j : ℕ) (like : List Block) → Made old new i like → IsInHand old j → i ≢ j
made-apart old new i j like m here = held-apart old i [] j m.fresh_name here

-- a message that goes from the hand makes no name less fresh
fewer : (i j : ℕ) (hand : List Held) → times_in j (without i hand) ≤ times_in j hand
fewer i j [] = omega arith
fewer i j (h ∷ hand) =
    let ih = fewer i j hand in
    let all = sum_by-cons (λ (x : Held). cond (x.name == j) 1 0) h hand in
    let kept = sum_by-cons (λ (x : Held). cond (x.name == j) 1 0) h (without i hand) in
    elim (h.name == i) as (λ v. times_in j (cond v hand (h ∷ without i hand)) ≤ times_in j (h ∷ hand)) [ true ↦ omega arith | false ↦ omega arith ]

pub fresh-dropped : (s : StoreValue) (i j : ℕ) → IsFreshName s j → IsFreshName (dropped s i) j
fresh-dropped s i j none = let less = fewer i j s.hand in omega arith

module _ {old new : StoreValue} {i j : ℕ} {n : ℤ} (up : PulledUp old new i j n) where
  pub pulled-here : IsInHand new j
  pulled-here = ap (λ t. times_in j t.hand) up.after ∙ held-is (dropped old i) j (pulled up.number up.count (in_hand old i)) (fresh-dropped old i j up.fresh_name)

  -- all other messages stay
  module _ (k : ℕ) (apart : i ≢ k) (here : IsInHand old k) where
    pub pulled-keeps : IsInHand new k
    pulled-keeps = ap (λ t. times_in k t.hand) up.after ∙ stays (dropped old i) j (pulled up.number up.count (in_hand old i)) k (fresh-dropped old i j up.fresh_name) (IsInHand-dropped old i k apart here)

    pub pulled-keeps-chain : in_hand new k ≡ in_hand old k
    pulled-keeps-chain =
        let ne = held-apart (dropped old i) j [] k (fresh-dropped old i j up.fresh_name) (IsInHand-dropped old i k apart here) in
        ap (λ t. in_hand t k) up.after ∙ stays-chain (dropped old i) j (pulled up.number up.count (in_hand old i)) k ne ∙ in_hand-dropped old i k apart

-- a message that comes beside one in hand
module _ {old new : StoreValue} {j : ℕ} {chain : List Block} (i : ℕ) (here : IsInHand old i) (fresh : IsFreshName old j) (after : new ≡ held old j chain) where
  pub came-first : IsInHand new i
  came-first = ap (λ t. times_in i t.hand) after ∙ stays old j chain i fresh here

  pub came-second : IsInHand new j
  came-second = ap (λ t. times_in j t.hand) after ∙ held-is old j chain fresh

  pub came-apart : i ≢ j
  came-apart = λ same. held-apart old j chain i fresh here (sym same)
