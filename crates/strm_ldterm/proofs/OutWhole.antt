-- A turn of the write queue in which the first message passes whole.
use Rattle.strm_ldterm.proofs.Prelude.{ℕ, ◌≡◌, Bool, true, false, cond, List, [], ◌∷◌, refl, sym, false≢true, ◌&&◌, Option, not, turn_of}
use Rattle.strm_ldterm.specs.Prelude.{Down, Spot, plain, is_data, passes, Message, cells_of, output_serves, posted, unchanged, is_none_left, opost}
use Rattle.strm_types.specs.Ldterms as ldterms
use Rattle.strm_ldterm.specs.Bounds.{goes_out}

module _ (here : Spot) (stop : Option ℕ) where
  -- what passes whole
  pub goes-whole : (m : Message ℕ) (rest : List (Message ℕ)) (p : ldterms.Discipline ℕ) → goes_out p.termios m ≡ false → output_serves plain here stop 0 (m ∷ rest) p ≡ passes plain here Down m rest p
  goes-whole m rest p is = at (is_data m.kind) (opost p.termios) (cells_of m) is
    where
      at : (treated output : Bool) (xs : List ℕ) → (treated && (output && not (is_none_left xs))) ≡ false
          → turn_of here rest p (cond (treated && output) (posted plain here stop 0 xs m p) (unchanged m p)) ≡ passes plain here Down m rest p
      at false output xs is = refl
      at true false xs is = refl
      at true true [] is = refl
      at true true (x ∷ xs) is = absurd (false≢true (sym is))
