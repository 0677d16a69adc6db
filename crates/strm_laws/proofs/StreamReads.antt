-- In the modes of a new head a read of M_DATA messages is `head_read`.
use Rattle.strm_laws.proofs.Prelude.{ℕ, zero, suc, ◌≡◌, ◌-◌, Bool, true, false, cond, List, [], ◌∷◌, ◌++◌, length, take, drop, refl, sym, ap, subst}
use Rattle.strm_laws.proofs.Prelude.{◌∙◌, arith, ◌==◌, ◌||◌, nat_lt, Option, None, nat_tests}
use Rattle.strm_laws.specs.Prelude.{ByteStream, Refuse, Message, part, cells_of, size_of, band_of, is_high_priority, put_back, Drawn, stopped}
use Rattle.strm_laws.specs.Prelude.{emptied_of, front_of, and_more, drawn, head_draw, rest_after, rest_with, no_cells}
use Rattle.std.specs.List.{AllByRecursion}
use Rattle.strm_types.specs.declared.kinds.MsgKind.TheVariants as kinds
use Rattle.strm_types.specs.Head.{Taken, rest_of, gathered, head_read}
use Rattle.strm_types.specs.Reads.{IsData}

drop-none : {C : Type 0} (n : ℕ) → drop {A = C} n [] ≡ []
drop-none zero = refl
drop-none (suc n) = refl

module _ {C : Type 0} where
  -- an M_DATA message, by its band and its data part
  abbrev data_of : ℕ → Option (List C) → Message C
  data_of band body = record { kind = kinds.Data; band = band; control = None; body = body; plain = [] }

  is-data : (m : Message C) → IsData m → m ≡ data_of m.band m.body
  is-data m is =
      rw (is.kind, is.control, is.plain) refl

  -- what is left of one
  pub rest-same : (n band : ℕ) (body : Option (List C)) → rest_after n (data_of band body) ≡ rest_of n (data_of band body)
  unfolding cells_of band_of is_high_priority
  rest-same n band body =
      ap (λ xs. rest_with xs (drop (n - 0) (part body)) (data_of band body)) (drop-none n)
      ∙ ap (λ k. rest_with [] (drop k (part body)) (data_of band body)) (let e : n - 0 ≡ n = omega arith in e)

  size-is : (band : ℕ) (body : Option (List C)) → size_of (data_of band body) ≡ length (cells_of (data_of band body))
  unfolding size_of
  size-is band body = omega arith

  zero-is : (xs : List C) → (length xs == 0) ≡ no_cells xs
  zero-is [] = refl
  zero-is (x ∷ xs) = let e : length (x ∷ xs) ≡ suc (length xs) = refl in grind (arith, nat_tests)

  -- what a read takes, without the rules by which cells go
  abbrev taken_of : Drawn C → Taken C
  taken_of d = record { given = d.given; left = d.left }

  -- a step where the read has begun
  step-same : (n : ℕ) (m : Message C) (q : List (Message C)) (zero none short : Bool) (cells : List C) (more : Drawn C) (more' : Taken C) (dropped : List C) (pass : Drawn C)
      → rest_after n m ≡ rest_of n m → taken_of more ≡ more' → cells_of m ≡ cells
      → taken_of (cond (zero || false) (stopped (m ∷ q)) (cond false pass (cond none (stopped (m ∷ q)) (cond short (front_of ByteStream n dropped m q) (and_more cells dropped more)))))
      ≡ cond (zero || none) (record { given = []; left = m ∷ q }) (cond short (record { given = take n (cells_of m); left = put_back (rest_of n m) q }) (record { given = cells_of m ++ more'.given; left = more'.left }))
  step-same n m q true none short cells more more' dropped pass rest same are = refl
  step-same n m q false true short cells more more' dropped pass rest same are = refl
  step-same n m q false false true cells more more' dropped pass rest same are = ap (λ r. record { given = take n (cells_of m); left = put_back r q }) rest
  step-same n m q false false false cells more more' dropped pass rest same are =
      ap (λ xs. record { given = xs ++ more.given; left = more.left }) (sym are) ∙ ap (λ (t : Taken C). record { given = cells_of m ++ t.given; left = t.left }) same

  -- what is gathered, by what is told of the first message
  abbrev gathered_by : ℕ → Message C → List (Message C) → Bool → ℕ → Taken C
  gathered_by n m q none size =
      cond (n == 0 || none) (record { given = []; left = m ∷ q }) (cond (nat_lt n size) (record { given = take n (cells_of m); left = put_back (rest_of n m) q }) (record { given = cells_of m ++ (gathered (n - size) q).given; left = (gathered (n - size) q).left }))

  data-same : (n band : ℕ) (body : Option (List C)) (q : List (Message C)) → ((k : ℕ) → taken_of (drawn ByteStream Refuse true k [] q) ≡ gathered k q)
      → taken_of (drawn ByteStream Refuse true n [] (data_of band body ∷ q)) ≡ gathered n (data_of band body ∷ q)
  data-same n band body q same =
      let m = data_of band body in
      let cells = cells_of m in
      step-same n m q (n == 0) (no_cells cells) (nat_lt n (length cells)) cells (drawn ByteStream Refuse true (n - length cells) [] q) (gathered (n - length cells) q) [] (drawn ByteStream Refuse true n (m ∷ []) q) (rest-same n band body) (same (n - length cells)) refl
      ∙ ap (λ b. gathered_by n m q b (length cells)) (sym (zero-is cells))
      ∙ ap (λ k. gathered_by n m q (k == 0) k) (sym (size-is band body))

  gathered-same : (n : ℕ) (q : List (Message C)) → AllByRecursion IsData q → taken_of (drawn ByteStream Refuse true n [] q) ≡ gathered n q
  gathered-same n [] all = refl
  gathered-same n (m ∷ q) all =
      subst (λ x. taken_of (drawn ByteStream Refuse true n [] (x ∷ q)) ≡ gathered n (x ∷ q)) (sym (is-data m all.0)) (data-same n m.band m.body q (λ k. gathered-same k q all.1))

  -- the first step
  first-same : (n : ℕ) (m : Message C) (q : List (Message C)) (zero none short : Bool) (cells : List C) (more : Drawn C) (more' : Taken C) (pass : Drawn C)
      → rest_after n m ≡ rest_of n m → taken_of more ≡ more' → cells_of m ≡ cells
      → taken_of (cond (zero || false) (stopped (m ∷ q)) (cond false pass (cond none (emptied_of [] q) (cond short (front_of ByteStream n [] m q) (and_more cells [] more)))))
      ≡ cond zero (record { given = []; left = m ∷ q }) (cond none (record { given = []; left = q }) (cond (zero || none) (record { given = []; left = m ∷ q }) (cond short (record { given = take n (cells_of m); left = put_back (rest_of n m) q }) (record { given = cells_of m ++ more'.given; left = more'.left }))))
  first-same n m q true none short cells more more' pass rest same are = refl
  first-same n m q false true short cells more more' pass rest same are = refl
  first-same n m q false false true cells more more' pass rest same are = ap (λ r. record { given = take n (cells_of m); left = put_back r q }) rest
  first-same n m q false false false cells more more' pass rest same are =
      ap (λ xs. record { given = xs ++ more.given; left = more.left }) (sym are) ∙ ap (λ (t : Taken C). record { given = cells_of m ++ t.given; left = t.left }) same

  abbrev read_by : ℕ → Message C → List (Message C) → Bool → ℕ → Taken C
  read_by n m q none size = cond (n == 0) (record { given = []; left = m ∷ q }) (cond none (record { given = []; left = q }) (gathered_by n m q none size))

  read-data : (n band : ℕ) (body : Option (List C)) (q : List (Message C)) → AllByRecursion IsData q → taken_of (head_draw ByteStream Refuse n (data_of band body ∷ q)) ≡ head_read n (data_of band body ∷ q)
  read-data n band body q all =
      let m = data_of band body in
      let cells = cells_of m in
      first-same n m q (n == 0) (no_cells cells) (nat_lt n (length cells)) cells (drawn ByteStream Refuse true (n - length cells) [] q) (gathered (n - length cells) q) (drawn ByteStream Refuse false n (m ∷ []) q) (rest-same n band body) (gathered-same (n - length cells) q all) refl
      ∙ ap (λ b. read_by n m q b (length cells)) (sym (zero-is cells))
      ∙ ap (λ k. read_by n m q (k == 0) k) (sym (size-is band body))

  pub read-same : (n : ℕ) (q : List (Message C)) → AllByRecursion IsData q → taken_of (head_draw ByteStream Refuse n q) ≡ head_read n q
  read-same n [] all = refl
  read-same n (m ∷ q) all = subst (λ x. taken_of (head_draw ByteStream Refuse n (x ∷ q)) ≡ head_read n (x ∷ q)) (sym (is-data m all.0)) (read-data n m.band m.body q all.1)

  pub read-given : (n : ℕ) (q : List (Message C)) → AllByRecursion IsData q → (head_draw ByteStream Refuse n q).given ≡ (head_read n q).given
  read-given n q all = ap (λ (t : Taken C). t.given) (read-same n q all)

  pub read-left : (n : ℕ) (q : List (Message C)) → AllByRecursion IsData q → (head_draw ByteStream Refuse n q).left ≡ (head_read n q).left
  read-left n q all = ap (λ (t : Taken C). t.left) (read-same n q all)
