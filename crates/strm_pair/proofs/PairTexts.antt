-- The texts of a stream and of a pair in their pieces.
use Rattle.strm_pair.proofs.Prelude.{◌≡◌, ℕ, List, ◌++◌, ◌∙◌, put_both}
use Rattle.strm_pair.specs.Prelude.{Given, put}

-- texts one behind the other
pub put_three : (a b c : List ℕ) (g : Given) → put c (put b (put a g)) ≡ put (a ++ (b ++ c)) g
put_three a b c g = put_both b c (put a g) ∙ put_both a (b ++ c) g

pub put_four : (a b c d : List ℕ) (g : Given) → put d (put c (put b (put a g))) ≡ put (a ++ (b ++ (c ++ d))) g
put_four a b c d g = put_three b c d (put a g) ∙ put_both a (b ++ (c ++ d)) g

pub put_six : (a b c d e f : List ℕ) (g : Given) → put f (put e (put d (put c (put b (put a g))))) ≡ put (a ++ (b ++ (c ++ (d ++ (e ++ f))))) g
put_six a b c d e f g = put_four c d e f (put b (put a g)) ∙ put_both b (c ++ (d ++ (e ++ f))) (put a g) ∙ put_both a (b ++ (c ++ (d ++ (e ++ f)))) g
