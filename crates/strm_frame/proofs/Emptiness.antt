-- A list that stands for another one is empty where that is.
use Rattle.strm_frame.proofs.Prelude.{◌≡◌, Bool, true, List, [], ◌∷◌, map, refl, sym, ◌∙◌}
use Rattle.strm_frame.specs.Prelude.{is_none_left, Block, message_of}

pub none-mapped : {A B : Type 0} (f : A → B) (xs : List A) → is_none_left (map f xs) ≡ is_none_left xs
none-mapped f [] = refl
none-mapped f (x ∷ xs) = refl

-- and no message is on a list that was found empty
pub none-listed : (chains : List (List Block)) (answer : Bool) → answer ≡ is_none_left chains → answer ≡ true → map message_of chains ≡ []
none-listed [] answer asked is = refl
none-listed (chain ∷ chains) answer asked is = absurd (let no = sym asked ∙ is in cc)
