-- Messages that are carried one after the other.
use Rattle.strm_frame.proofs.Prelude.{ℕ, suc, ◌≡◌, List, [], ◌∷◌, ◌++◌, refl, sym}
use Rattle.strm_frame.specs.Prelude.{Message, Fates, Spot, Parcel, Took, Carried, in_turn, carried, tallied}
use Rattle.strm_types.specs.Deliver.{Fate}

pub tallied-append : {C : Type 0} (xs ys : List (Fate C)) (counts : Fates) → tallied (xs ++ ys) counts ≡ tallied ys (tallied xs counts)
tallied-append [] ys counts = refl
tallied-append (x ∷ xs) ys counts = tallied-append xs ys _

module _ {C S : Type 0} (put : Spot → Message C → S → Took C S) where
  -- a put that has sent on what is still to be carried
  pub begins-state : (hops h : ℕ) (p : Parcel C) (s q : S) (sent : List (Parcel C)) → hops ≡ suc h → q ≡ (put p.to p.message s).state → sent ≡ (put p.to p.message s).sent →
      (in_turn (carried put h) sent q).state ≡ (carried put hops p s).state
  unfolding carried
  begins-state hops h p s q sent n e f = rw (n, e, f) refl

  pub begins-told : (hops h : ℕ) (p : Parcel C) (s q : S) (sent : List (Parcel C)) (old new : Fates) → hops ≡ suc h → q ≡ (put p.to p.message s).state → sent ≡ (put p.to p.message s).sent →
      new ≡ tallied (put p.to p.message s).gone old →
      tallied (in_turn (carried put h) sent q).gone new ≡ tallied (carried put hops p s).gone old
  unfolding carried
  begins-told hops h p s q sent old new n e f t = rw (n, e, f, t) (sym (tallied-append (put p.to p.message s).gone _ old))

module _ {C S : Type 0} (carry : Parcel C → S → Carried C S) where
  -- the first is carried, and the rest follows
  pub goes-state : (all more more' : List (Parcel C)) (p : Parcel C) (s q : S) → all ≡ p ∷ more → more' ≡ more → q ≡ (carry p s).state → (in_turn carry more' q).state ≡ (in_turn carry all s).state
  goes-state all more more' p s q e f h = rw (e, f, h) refl

  pub goes-told : (all more more' : List (Parcel C)) (p : Parcel C) (s q : S) (old new : Fates) → all ≡ p ∷ more → more' ≡ more → q ≡ (carry p s).state → new ≡ tallied (carry p s).gone old →
      tallied (in_turn carry more' q).gone new ≡ tallied (in_turn carry all s).gone old
  goes-told all more more' p s q old new e f h t = rw (e, f, h, t) (sym (tallied-append (carry p s).gone _ old))

  -- nothing is left
  pub stops-state : (all : List (Parcel C)) (s : S) → all ≡ [] → (in_turn carry all s).state ≡ s
  stops-state all s e = rw e refl

  pub stops-told : (all : List (Parcel C)) (s : S) (counts : Fates) → all ≡ [] → tallied (in_turn carry all s).gone counts ≡ counts
  stops-told all s counts e = rw e refl
