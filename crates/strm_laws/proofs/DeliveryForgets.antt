-- A delivery does the same to what is mapped.
use Rattle.strm_laws.proofs.Prelude.{ℕ, zero, suc, ◌≡◌, List, [], ◌∷◌, ◌++◌, map, refl, ap}
use Rattle.strm_laws.specs.Prelude.{Message, Spot, Parcel, Took, Carried, in_turn, carried, map_parcel, map_fate, map_carried, PutsAgree}
use Rattle.strm_types.specs.Origins.{CarriesAgree}

pub map-join : {A B : Type 0} (h : A → B) (xs ys : List A) → map h (xs ++ ys) ≡ map h xs ++ map h ys
map-join h [] ys = refl
map-join h (x ∷ xs) ys = ap (λ zs. h x ∷ zs) (map-join h xs ys)

module _ {C D S T : Type 0} (f : C → D) (g : S → T) where
  pub in_turn-agrees : (carry : Parcel C → S → Carried C S) (carry' : Parcel D → T → Carried D T) → CarriesAgree f g carry carry' → (ps : List (Parcel C)) (s : S) →
      in_turn carry' (map (map_parcel f) ps) (g s) ≡ map_carried f g (in_turn carry ps s)
  in_turn-agrees carry carry' agree [] s = refl
  in_turn-agrees carry carry' agree (q ∷ qs) s =
      let t = carry q s in
      let rest = in_turn-agrees carry carry' agree qs t.state in
      rw (agree q s, rest, ← map-join (map_fate f) t.gone (in_turn carry qs t.state).gone) refl

  pub carried-agrees : (put : Spot → Message C → S → Took C S) (put' : Spot → Message D → T → Took D T) → PutsAgree f g put put' → (hops : ℕ) → CarriesAgree f g (carried put hops) (carried put' hops)
  unfolding carried
  carried-agrees put put' agree zero q s = refl
  carried-agrees put put' agree (suc hops) q s =
      let t = put q.to q.message s in
      let rest = in_turn-agrees (carried put hops) (carried put' hops) (carried-agrees put put' agree hops) t.sent t.state in
      rw (agree q.to q.message s, rest, ← map-join (map_fate f) t.gone (in_turn (carried put hops) t.sent t.state).gone) refl
