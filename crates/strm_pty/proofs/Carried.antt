-- Two messages that have blocks behind their first ones.
use Rattle.strm_pty.proofs.Prelude.{ℕ, ◌≡◌, ◌<◌, List, [], ◌∷◌, ap, ◌∙◌, drop, length, arith, once-self}
use Rattle.strm_pty.specs.Prelude.{Parcel, Block, StoreValue, in_hand, token, Sent, times_sent, parcels_in}
use Rattle.strm_pty.specs.Shares.{BothCarry}

-- others may be sent behind them, where they stay
pub carry-more : (t u : StoreValue) (blocks : List Block) (x y : Sent) (more : List Sent) → ((i : ℕ) → 0 < times_sent i (x ∷ y ∷ []) → in_hand u i ≡ in_hand t i)
    → BothCarry t blocks (x ∷ y ∷ []) → BothCarry u blocks (x ∷ y ∷ more)
unfolding times_sent
carry-more t u blocks x y more stays both =
    let o = once-self (token x.message) in
    let p = once-self (token y.message) in
    (ap (drop 1) (stays (token x.message) (omega (arith, o))) ∙ both.0, ap (drop 1) (stays (token y.message) (omega (arith, p))) ∙ both.1)

-- one message is no two
pub lone-carries : (t : StoreValue) (blocks : List Block) (made : List Sent) (p : Parcel ℕ) → parcels_in t made ≡ p ∷ [] → BothCarry t blocks made
unfolding parcels_in
lone-carries t blocks [] p is = tt
lone-carries t blocks (x ∷ []) p is = tt
lone-carries t blocks (x ∷ y ∷ more) p is = absurd (let long = ap length is in omega (arith, long))
