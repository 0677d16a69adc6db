-- A byte of the message in work, from its beginning on.
use Rattle.strm_ldterm.proofs.Prelude.{ℕ, ◌≡◌, ◌≤◌, ◌<◌, Bool, true, false, cond, List, [], ◌∷◌, length, refl, sym, ap, subst, ◌∙◌, arith, ◌&&◌}
use Rattle.strm_ldterm.specs.Prelude.{Down, Fates, Note, Spot, plain, begins_next, cells_left, next_stage, stage_at, with_left, restarts, onward}
use Rattle.strm_ldterm.specs.Prelude.{Between, Begun, Answered, sends, is_none_left, bare, stroke_at, StoreValue, IsStore, Sent}
use Rattle.strm_types.specs.declared.kinds.MsgKind.TheVariants as kinds
use Rattle.strm_types.specs.Ldterms as ldterms
use Rattle.strm_ldterm.specs.Does.{Proceeds}
use Rattle.strm_ldterm.specs.Stands.{ldterm_in, stage_in, Paired}
use Rattle.strm_ldterm.specs.Turns.{ahead, leaves, needs, stages_left}
use Rattle.strm_ldterm.proofs.Joining.{proceeds-joined, sent-ends, takes-more}

pub none-under-way : (stage : ldterms.Stage ℕ) → stages_left stage ≡ 0 → stage ≡ Between
none-under-way Between e = refl
none-under-way (Begun started c) e = absurd (omega arith)
none-under-way (Answered echo) e = absurd (omega arith)

pub few-leaves : (stage : ldterms.Stage ℕ) → leaves stage ≤ 31
few-leaves Between = omega arith
few-leaves (Begun started c) = omega arith
few-leaves (Answered echo) = omega arith

pub few-needs : (stage : ldterms.Stage ℕ) → needs stage ≤ 28
few-needs Between = omega arith
few-needs (Begun started c) = omega arith
few-needs (Answered echo) = omega arith

-- a byte that begins has two stages left
pub begins-left : (here : Spot) (left : List ℕ) (p : ldterms.Discipline ℕ) → 0 < length left → stages_left (begins_next plain here left p).state.stage ≡ 2
begins-left here [] p some = absurd (omega arith)
begins-left here (c ∷ rest) p some = at (p.stopped && restarts p.termios (stroke_at plain here c (with_left rest p)))
  where
    at : (v : Bool) → stages_left (cond v (sends (onward Down here (bare kinds.Start []) ∷ []) (record (with_left rest p) { stopped = false; stage = Begun true c })) (sends [] (record (with_left rest p) { stage = Begun false c }))).state.stage ≡ 2
    at true = refl
    at false = refl

pub next-begins : (here : Spot) (p : ldterms.Discipline ℕ) → stages_left p.stage ≡ 0 → begins_next plain here (cells_left p) p ≡ next_stage plain here 0 p
next-begins here p none = ap (λ st. stage_at plain here st 0 p) (sym (none-under-way p.stage none))

module _ (s s1 : StoreValue) (x x1 : Paired) (here : Spot) (sent : List Sent) (t : Fates)
    (none : stages_left (stage_in x.stage) ≡ 0)
    (a : Proceeds s s1 x x1 1 [] sent t t (begins_next plain here (cells_left (ldterm_in s x)) (ldterm_in s x))) where
  abbrev p : ldterms.Discipline ℕ
  p = ldterm_in s x

  -- where it has started output
  pub byte-starts : is_none_left sent ≡ false → Proceeds s s1 x x1 27 [] sent t t (ahead here 3 p)
  byte-starts some =
      takes-more s s1 x x1 1 27 [] sent t t (ahead here 3 p) (omega arith)
      (sent-ends s s1 x x1 1 [] t t (next_stage plain here 0 p) sent (ahead here 2) some (subst (Proceeds s s1 x x1 1 [] sent t t) (next-begins here p none) a))

  module _ (some : 0 < length (cells_left p)) where
    pub begun-left : stages_left (stage_in x1.stage) ≡ 2
    begun-left = ap (λ (q : ldterms.Discipline ℕ). stages_left q.stage) a.state ∙ begins-left here (cells_left p) p some

    -- and the rest of it
    pub byte-goes-on : (s2 : StoreValue) (x2 : Paired) (notes : List Note) (out : List Sent) (t2 : Fates) → IsStore s1 → sent ≡ []
        → Proceeds s1 s2 x1 x2 26 notes out t t2 (ahead here (stages_left (stage_in x1.stage)) (ldterm_in s1 x1)) → Proceeds s s2 x x2 27 notes out t t2 (ahead here 3 p)
    byte-goes-on s2 x2 notes out t2 st quiet b =
        proceeds-joined s s1 x x1 1 [] t t (next_stage plain here 0 p) st
        (subst (λ o. Proceeds s s1 x x1 1 [] o t t (next_stage plain here 0 p)) quiet (subst (Proceeds s s1 x x1 1 [] sent t t) (next-begins here p none) a))
        s2 x2 26 notes out t2 (ahead here 2)
        (subst (λ n. Proceeds s1 s2 x1 x2 26 notes out t t2 (ahead here n (ldterm_in s1 x1))) begun-left b)
