-- Output loses no cell and makes none that it doesn't tell, and does the same where origins are forgotten.
use Rattle.strm_laws.proofs.Prelude.{ℕ, ◌≡◌, ◌+◌, Bool, cond, List, [], ◌∷◌, ◌++◌, map, refl, sym, ap, ◌∙◌, arith, map-append, count_by, made-forget}
use Rattle.strm_laws.proofs.Prelude.{count-join}
use Rattle.strm_laws.specs.Prelude.{Dir, Given, Byte, Ended, Spaces, Nothing, Termios, Cells, AreCells, plain, Goes, Comes, carriage_return, map_fate}
use Rattle.strm_laws.specs.Prelude.{made_for, map_output, post, posts, space, told_for}
use Rattle.std.proofs.Common.{replicate}
use Rattle.strm_types.specs.declared.rules.Rule.TheVariants.{Replaced}
use Rattle.strm_types.specs.Keys.{newline}
use Rattle.strm_laws.specs.LdtermWeights.{IgnoresMapping}
use Rattle.strm_types.specs.Output.{given_for, return_made}
use Rattle.strm_laws.specs.Places.{weight_gone, weight_made}
use Rattle.strm_laws.proofs.DeliveryKeeps.{gone-append, made-append}

-- cells are kept

module _ {C : Type 0} (p : Dir → C → Bool) (cells : Cells C) (ignores : IgnoresMapping cells p) (dir : Dir) where
  same : (b : ℕ) (c : C) → count_by (p dir) (cells.mapped b c ∷ []) ≡ count_by (p dir) (c ∷ [])
  same b c = ap (λ x. 0 + cond x 1 0) (ignores dir b c)

  first-keeps : (given : Given) (made : ℕ) (c : C) →
      count_by (p dir) (given_for cells dir given made c) + weight_gone p (told_for cells dir given made c) ≡ count_by (p dir) (c ∷ []) + weight_made p (told_for cells dir given made c)
  first-keeps (Byte b) made c = omega (arith, same b c)
  first-keeps Ended made c = omega (arith, same newline c, count-join (p dir) (return_made cells dir made) (cells.mapped newline c ∷ []))
  first-keeps (Spaces columns) made c = omega arith
  first-keeps Nothing made c = omega arith

  pub posts-keep : (made : ℕ) (t : Termios) (column : ℕ) (xs : List C) →
      let u = posts cells dir made t column xs in count_by (p dir) u.given + weight_gone p u.told ≡ count_by (p dir) xs + weight_made p u.told
  posts-keep made t column [] = refl
  posts-keep made t column (c ∷ xs) =
      let q = post t column (cells.byte c) in
      let given = given_for cells dir q.given made c in
      let told = told_for cells dir q.given made c in
      let u = posts cells dir (made + made_for q.given) t q.column xs in
      omega (arith, first-keeps q.given made c, posts-keep (made + made_for q.given) t q.column xs, count-join (p dir) given u.given, gone-append p told u.told, made-append p told u.told, count-join (p dir) (c ∷ []) xs)

-- origins are forgotten

module _ {C : Type 0} (cells : Cells C) (are : AreCells cells) (dir : Dir) where
  abbrev f : C → ℕ
  f = cells.byte

  given-forgets : (given : Given) (made : ℕ) (c : C) → given_for plain dir given made (f c) ≡ map f (given_for cells dir given made c)
  given-forgets (Byte b) made c = ap (λ x. x ∷ []) (sym (are.byte_mapped b c))
  given-forgets Ended made c =
      ap (λ xs. xs ++ newline ∷ []) (made-forget cells are dir made (carriage_return ∷ []))
      ∙ ap (λ x. map f (return_made cells dir made) ++ x ∷ []) (sym (are.byte_mapped newline c))
      ∙ sym (map-append f (return_made cells dir made) (cells.mapped newline c ∷ []))
  given-forgets (Spaces columns) made c = made-forget cells are dir made (replicate columns space)
  given-forgets Nothing made c = refl

  told-forgets : (given : Given) (made : ℕ) (c : C) → told_for plain dir given made (f c) ≡ map (map_fate f) (told_for cells dir given made c)
  told-forgets (Byte b) made c = refl
  told-forgets Ended made c = ap (λ xs. Comes dir xs ∷ []) (made-forget cells are dir made (carriage_return ∷ []))
  told-forgets (Spaces columns) made c = ap (λ xs. Comes dir xs ∷ Goes dir Replaced (f c ∷ []) ∷ []) (made-forget cells are dir made (replicate columns space))
  told-forgets Nothing made c = refl

  pub posts-forget : (made : ℕ) (t : Termios) (column : ℕ) (xs : List C) → posts plain dir made t column (map f xs) ≡ map_output f (posts cells dir made t column xs)
  posts-forget made t column [] = refl
  posts-forget made t column (c ∷ xs) =
      let p = post t column (f c) in
      let given = given_for cells dir p.given made c in
      let told = told_for cells dir p.given made c in
      let u = posts cells dir (made + made_for p.given) t p.column xs in
      rw (posts-forget (made + made_for p.given) t p.column xs, given-forgets p.given made c, told-forgets p.given made c, ← map-append f given u.given, ← map-append (map_fate f) told u.told) refl
