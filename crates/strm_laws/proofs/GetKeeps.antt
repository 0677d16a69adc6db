-- What a get gives and what it leaves is what stood there, and forgetting the origins of cells commutes with gets.
use Rattle.strm_laws.proofs.Prelude.{ℕ, zero, suc, ◌≡◌, ◌≤◌, ◌+◌, Bool, true, false, cond, List, [], ◌∷◌, length, map, take, drop, refl, sym, ap, ◌∙◌}
use Rattle.strm_laws.proofs.Prelude.{arith, count_by, nat_lt, ◌||◌, Option, None, Some, option_map, nat_tests, take-map, length-map, length-take}
use Rattle.strm_laws.proofs.Prelude.{weight-put_back, count-joined}
use Rattle.strm_laws.specs.Prelude.{Wanted, Refusal, Eagain, Message, part, cells_of, weight_of, map_message, weight, put_back, map_messages}
use Rattle.strm_laws.specs.Prelude.{rest_with, Got, is_wanted, got_none, left_behind, parts_of, head_get, get_refusal, map_got}
use Rattle.std.proofs.lemmas.List.{take_all}
use Rattle.strm_types.specs.declared.modes.Wanted.TheVariants.{Any, High, Band}
use Rattle.strm_laws.proofs.Forgetting.{put_back-forgets}
use Rattle.strm_laws.proofs.ReadForgets.{control-forgets, body-forgets, rest_with-forgets, dropped-forget}
use Rattle.strm_types.proofs.Drawing.{cells-rest_with, weight-one, weight-cells, weight-parted}

take-none : {C : Type 0} (n : ℕ) → take {A = C} n [] ≡ []
take-none zero = refl
take-none (suc n) = refl

not-some : {A : Type 0} (x : A) (R : Type 0) → None ≡ Some x → R
not-some x R is = absurd (cc)

module _ {C : Type 0} where
  part-taken : (n : ℕ) (o : Option (List C)) → part (option_map (take n) o) ≡ take n (part o)
  part-taken n None = sym (take-none n)
  part-taken n (Some cells) = refl

  part-most : (n : ℕ) (o : Option (List C)) → length (part (option_map (take n) o)) ≤ n
  part-most n o = omega (arith, ap length (part-taken n o), length-take n (part o))

  module _ (p : C → Bool) where
    weight-parts : (m : Message C) → count_by p (part m.control) + count_by p (part m.body) ≡ weight_of p m
    unfolding weight_of cells_of
    weight-parts m = sym (count-joined p (part m.control) (part m.body))

    weight-rest : (control body : List C) (m : Message C) → weight_of p (rest_with control body m) ≡ count_by p control + count_by p body
    weight-rest control body m = weight-cells p (rest_with control body m) ∙ ap (λ xs. count_by p xs) (cells-rest_with control body m) ∙ count-joined p control body

    left-kept : (cmax dmax : ℕ) (m : Message C) (q : List (Message C)) (more_control more_data : Bool)
        → nat_lt cmax (length (part m.control)) ≡ more_control → nat_lt dmax (length (part m.body)) ≡ more_data
        → count_by p (take cmax (part m.control)) + (count_by p (take dmax (part m.body)) + weight p (left_behind (more_control || more_data) cmax dmax m q)) ≡ weight_of p m + weight p q
    left-kept cmax dmax m q false false no_control no_data =
        let control : length (part m.control) ≤ cmax = grind (arith, nat_tests) in
        let body : length (part m.body) ≤ dmax = grind (arith, nat_tests) in
        omega (arith, ap (λ xs. count_by p xs) (take_all cmax (part m.control) control), ap (λ xs. count_by p xs) (take_all dmax (part m.body) body), weight-parts m)
    left-kept cmax dmax m q true more_data is_control is_data =
        omega (
          arith,
          weight-put_back p (rest_with (drop cmax (part m.control)) (drop dmax (part m.body)) m) q,
          weight-rest (drop cmax (part m.control)) (drop dmax (part m.body)) m,
          weight-parted p cmax (part m.control),
          weight-parted p dmax (part m.body),
          weight-parts m,
        )
    left-kept cmax dmax m q false true is_control is_data =
        omega (
          arith,
          weight-put_back p (rest_with (drop cmax (part m.control)) (drop dmax (part m.body)) m) q,
          weight-rest (drop cmax (part m.control)) (drop dmax (part m.body)) m,
          weight-parted p cmax (part m.control),
          weight-parted p dmax (part m.body),
          weight-parts m,
        )

    abbrev got_weight : Got C → ℕ
    got_weight g = count_by p (part g.control) + (count_by p (part g.body) + weight p g.left)

    parts-kept : (cmax dmax : ℕ) (m : Message C) (q : List (Message C)) → got_weight (parts_of cmax dmax m q) ≡ weight p (m ∷ q)
    parts-kept cmax dmax m q =
        omega (
          arith,
          ap (λ xs. count_by p xs) (part-taken cmax m.control),
          ap (λ xs. count_by p xs) (part-taken dmax m.body),
          left-kept cmax dmax m q (nat_lt cmax (length (part m.control))) (nat_lt dmax (length (part m.body))) refl refl,
          weight-one p m q,
        )

    get-at : (cmax dmax : ℕ) (m : Message C) (q : List (Message C)) (wanted : Bool) → got_weight (cond wanted (parts_of cmax dmax m q) (got_none (m ∷ q))) ≡ weight p (m ∷ q)
    get-at cmax dmax m q true = parts-kept cmax dmax m q
    get-at cmax dmax m q false = omega arith

    pub get-kept : (wanted : Wanted) (cmax dmax : ℕ) (q : List (Message C)) → got_weight (head_get wanted cmax dmax q) ≡ weight p q
    get-kept wanted cmax dmax [] = omega arith
    get-kept wanted cmax dmax (m ∷ q) = get-at cmax dmax m q (is_wanted wanted m)

  -- no more than was asked for
  control-at : (cmax dmax : ℕ) (m : Message C) (q : List (Message C)) (b : Bool) → length (part (cond b (parts_of cmax dmax m q) (got_none (m ∷ q))).control) ≤ cmax
  control-at cmax dmax m q true = part-most cmax m.control
  control-at cmax dmax m q false = omega arith

  data-at : (cmax dmax : ℕ) (m : Message C) (q : List (Message C)) (b : Bool) → length (part (cond b (parts_of cmax dmax m q) (got_none (m ∷ q))).body) ≤ dmax
  data-at cmax dmax m q true = part-most dmax m.body
  data-at cmax dmax m q false = omega arith

  pub get-control : (wanted : Wanted) (cmax dmax : ℕ) (q : List (Message C)) → length (part (head_get wanted cmax dmax q).control) ≤ cmax
  get-control wanted cmax dmax [] = omega arith
  get-control wanted cmax dmax (m ∷ q) = control-at cmax dmax m q (is_wanted wanted m)

  pub get-data : (wanted : Wanted) (cmax dmax : ℕ) (q : List (Message C)) → length (part (head_get wanted cmax dmax q).body) ≤ dmax
  get-data wanted cmax dmax [] = omega arith
  get-data wanted cmax dmax (m ∷ q) = data-at cmax dmax m q (is_wanted wanted m)

  -- a get that is refused takes nothing
  refused-at : (cmax dmax : ℕ) (m : Message C) (q : List (Message C)) (refusal : Refusal) (b : Bool) → cond b None (Some Eagain) ≡ Some refusal → cond b (parts_of cmax dmax m q) (got_none (m ∷ q)) ≡ got_none (m ∷ q)
  refused-at cmax dmax m q refusal true is = not-some refusal _ is
  refused-at cmax dmax m q refusal false is = refl

  pub get-refused : (wanted : Wanted) (at_end : Bool) (cmax dmax : ℕ) (q : List (Message C)) (refusal : Refusal) → get_refusal wanted at_end q ≡ Some refusal → head_get wanted cmax dmax q ≡ got_none q
  get-refused wanted at_end cmax dmax [] refusal is = refl
  get-refused wanted at_end cmax dmax (m ∷ q) refusal is = refused-at cmax dmax m q refusal (is_wanted wanted m) is

module _ {C D : Type 0} (f : C → D) where
  pub wanted-forgets : (wanted : Wanted) (m : Message C) → is_wanted wanted (map_message f m) ≡ is_wanted wanted m
  unfolding map_message
  wanted-forgets Any m = refl
  wanted-forgets High m = refl
  wanted-forgets (Band band) m = refl

  taken-forgets : (n : ℕ) (o : Option (List C)) → option_map (map f) (option_map (take n) o) ≡ option_map (take n) (option_map (map f) o)
  taken-forgets n None = refl
  taken-forgets n (Some cells) = ap Some (sym (take-map f n cells))

  length-forgets : (xs : List C) (ys : List D) → ys ≡ map f xs → length ys ≡ length xs
  length-forgets xs ys is = ap length is ∙ length-map xs f

  left-forgets : (more : Bool) (cmax dmax : ℕ) (m : Message C) (q : List (Message C)) → map_messages f (left_behind more cmax dmax m q) ≡ left_behind more cmax dmax (map_message f m) (map_messages f q)
  left-forgets false cmax dmax m q = refl
  left-forgets true cmax dmax m q =
      put_back-forgets f (rest_with (drop cmax (part m.control)) (drop dmax (part m.body)) m) q
      ∙ ap (λ r. put_back r (map_messages f q)) (rest_with-forgets f (drop cmax (part m.control)) (drop dmax (part m.body)) m
      ∙ ap (λ xs. rest_with xs (map f (drop dmax (part m.body))) (map_message f m)) (dropped-forget f cmax (part m.control) (part (map_message f m).control) (control-forgets f m))
      ∙ ap (λ xs. rest_with (drop cmax (part (map_message f m).control)) xs (map_message f m)) (dropped-forget f dmax (part m.body) (part (map_message f m).body) (body-forgets f m)))

  parts-forget : (cmax dmax : ℕ) (m : Message C) (q : List (Message C)) → map_got f (parts_of cmax dmax m q) ≡ parts_of cmax dmax (map_message f m) (map_messages f q)
  unfolding map_message
  parts-forget cmax dmax m q =
      let m' = map_message f m in
      let q' = map_messages f q in
      let cl : length (part m.control) ≡ length (part m'.control) = sym (length-forgets (part m.control) (part m'.control) (control-forgets f m)) in
      let dl : length (part m.body) ≡ length (part m'.body) = sym (length-forgets (part m.body) (part m'.body) (body-forgets f m)) in
      let mc = nat_lt cmax (length (part m.control)) in
      let md = nat_lt dmax (length (part m.body)) in
      rw (left-forgets (mc || md) cmax dmax m q, taken-forgets cmax m.control, taken-forgets dmax m.body, cl, dl) refl

  got-at : (cmax dmax : ℕ) (m : Message C) (q : List (Message C)) (b : Bool) → map_got f (cond b (parts_of cmax dmax m q) (got_none (m ∷ q))) ≡ cond b (parts_of cmax dmax (map_message f m) (map_messages f q)) (got_none (map_messages f (m ∷ q)))
  got-at cmax dmax m q true = parts-forget cmax dmax m q
  got-at cmax dmax m q false = refl

  pub get-forgets : (wanted : Wanted) (cmax dmax : ℕ) (q : List (Message C)) → map_got f (head_get wanted cmax dmax q) ≡ head_get wanted cmax dmax (map_messages f q)
  get-forgets wanted cmax dmax [] = refl
  get-forgets wanted cmax dmax (m ∷ q) =
      got-at cmax dmax m q (is_wanted wanted m)
      ∙ ap (λ b. cond b (parts_of cmax dmax (map_message f m) (map_messages f q)) (got_none (map_messages f (m ∷ q)))) (sym (wanted-forgets wanted m))

  pub get_refusal-forgets : (wanted : Wanted) (at_end : Bool) (q : List (Message C)) → get_refusal wanted at_end (map_messages f q) ≡ get_refusal wanted at_end q
  get_refusal-forgets wanted at_end [] = refl
  get_refusal-forgets wanted at_end (m ∷ q) = ap (λ b. cond b None (Some Eagain)) (wanted-forgets wanted m)
