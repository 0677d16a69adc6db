-- What is taken is the first message.
use Rattle.strm_laws.proofs.Prelude.{ℕ, ◌≡◌, ◌≤◌, ◌+◌, Bool, List, [], ◌∷◌, refl, sym, ap, subst, ◌∙◌, if◌then◌else◌, ◌==◌, Option, None, Some}
use Rattle.strm_laws.proofs.Prelude.{weight-take}
use Rattle.strm_laws.specs.Prelude.{Message, rank_of, weight_of, map_message, lane, IsOrdered, weight, map_messages}
use Rattle.std.specs.List.{AllByRecursion}
use Rattle.strm_types.specs.Queue.{take_first}

module _ {C : Type 0} where
  -- what was taken in front of the rest
  joined : Option (Message C × List (Message C)) → List (Message C)
  joined None = []
  joined (Some taken) = taken.0 ∷ taken.1

  joined-whole : (q : List (Message C)) → joined (take_first q) ≡ q
  unfolding joined
  joined-whole [] = refl
  joined-whole (x ∷ q) = refl

  -- the queue is what was taken, and the rest
  front-is : (m : Message C) (q rest : List (Message C)) → take_first q ≡ Some (m, rest) → q ≡ m ∷ rest
  unfolding joined
  front-is m q rest is = sym (joined-whole q) ∙ ap joined is

  pub taken-highest : (m : Message C) (q rest : List (Message C)) → IsOrdered q → take_first q ≡ Some (m, rest) → AllByRecursion (λ later. rank_of later ≤ rank_of m) rest
  taken-highest m q rest o is = (subst (λ xs. IsOrdered xs) (front-is m q rest is) o).0

  pub taken-order : (m : Message C) (q rest : List (Message C)) → IsOrdered q → take_first q ≡ Some (m, rest) → IsOrdered rest
  taken-order m q rest o is = (subst (λ xs. IsOrdered xs) (front-is m q rest is) o).1

  pub taken-lanes : (m : Message C) (q rest : List (Message C)) (r : ℕ) → take_first q ≡ Some (m, rest) → lane r q ≡ (if rank_of m == r then m ∷ lane r rest else lane r rest)
  taken-lanes m q rest r is = ap (λ xs. lane r xs) (front-is m q rest is)

  pub taken-weight : (p : C → Bool) (m : Message C) (q rest : List (Message C)) → take_first q ≡ Some (m, rest) → weight p q ≡ weight_of p m + weight p rest
  taken-weight p m q rest is = ap (λ xs. weight p xs) (front-is m q rest is) ∙ weight-take p m rest

pub taken-forgets : {C D : Type 0} (f : C → D) (m : Message C) (q rest : List (Message C)) → take_first q ≡ Some (m, rest) → take_first (map_messages f q) ≡ Some (map_message f m, map_messages f rest)
taken-forgets f m q rest is = ap (λ xs. take_first (map_messages f xs)) (front-is m q rest is)
