-- Keys that send nothing, step by step.
use Rattle.strm_ldterm.proofs.Prelude.{ℕ, ◌≡◌, true, false, List, [], ◌∷◌, ◌++◌, refl, ap, ◌∙◌, arith}
use Rattle.strm_ldterm.specs.Prelude.{Fates, Spot, plain, Acted, Fate, counted_with, tallied, sends, edited, has_room, is_blank, Types, icanon}
use Rattle.strm_ldterm.specs.Prelude.{imaxbel, LineFull, LineOver, added, lost, StoreValue, times_sent, parcels_in, AreChains}
use Rattle.strm_types.specs.Ldterms as ldterms
use Rattle.strm_types.specs.Typing.{dropped}
use Rattle.strm_ldterm.specs.Stands.{ldterm_in, IsHeld, Paired}
use Rattle.strm_ldterm.specs.Does.{Proceeds}

pub told-append : (a b : List (Fate ℕ)) (f : Fates) → tallied (a ++ b) f ≡ tallied b (tallied a f)
told-append [] b f = refl
told-append (x ∷ a) b f = told-append a b (counted_with x f)

-- an ordinary byte, by the mode and the line
module _ (here : Spot) (c : ℕ) (p : ldterms.Discipline ℕ) where
  pub added-raw : icanon p.termios ≡ false → added plain here c p ≡ sends [] (record p { gathered = p.gathered ++ c ∷ [] })
  added-raw raw = rw raw refl

  pub added-room : icanon p.termios ≡ true → has_room p.line ≡ true → added plain here c p ≡ sends [] (record p { line = edited is_blank (Types c) p.line })
  added-room lines room = rw (lines, room) refl

  pub added-full : icanon p.termios ≡ true → has_room p.line ≡ false → imaxbel p.termios ≡ true → added plain here c p ≡ dropped plain here LineFull c p
  added-full lines full bell = rw (lines, full, bell) refl

  pub added-over : icanon p.termios ≡ true → has_room p.line ≡ false → imaxbel p.termios ≡ false → added plain here c p ≡ record (sends [] (record p { line = [] })) { gone = lost plain here LineOver (p.line ++ c ∷ []) }
  added-over lines full still = rw (lines, full, still) refl

-- only the line altered
pub line-proceeds : (s : StoreValue) (x : Paired) (line line' : List ℕ) (f f' : Fates) (is : Acted ℕ (ldterms.Discipline ℕ)) → IsHeld s x → line ≡ line' → record (ldterm_in s x) { line = line' } ≡ is.state
    → [] ≡ is.notes → [] ≡ is.sent → f' ≡ tallied is.gone f → Proceeds s s x (record x { line = line }) 1 [] [] f f' is
unfolding times_sent parcels_in AreChains
line-proceeds s x line line' f f' is held same state notes sent told = record {
  state = ap (λ l. record (ldterm_in s x) { line = l }) same ∙ state;
  noted = notes;
  parcels = sent;
  told = told;
  held = record {
    read = held.read;
    write = held.write;
    apart = held.apart;
    work = held.work;
    gathers = held.gathers;
    echoes = held.echoes;
    once_each = held.once_each;
  };
  own = record { lists = λ k none. refl; owns_same = λ k. refl };
  chains = tt;
  hands = record { counts = λ i. refl; others = λ i gone kept some. refl };
  mblks = omega arith;
  dblks = omega arith;
  pool = record { mblks = refl; dblks = refl };
}
