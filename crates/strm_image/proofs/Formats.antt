-- Each format that is made of exact ones is exact.
use Rattle.std.proofs.Common.{◌≡◌, ℕ, zero, suc, ◌+◌, ◌-◌, ◌<◌, ◌≤◌, Bool, true, false, ◌&&◌, cond, eqb, ltb, List, [], ◌∷◌, ◌++◌, length, take, drop, Option, Some, None, refl, sym, ap, subst, ◌∙◌, append_assoc, ◌⊎◌, inl, inr, arith}
use Rattle.std.specs.Int.{Width, w16, w32, w64, byte_len, from_be_bytes, to_be_bytes}
use Rattle.std.proofs.lemmas.Bool.{and_parts, and_from, ltb-false, ltb-true, le-ltb, lt-ltb, eqb-true, eq-eqb}
use Rattle.std.proofs.lemmas.List.{take_at, drop_at, take-append-drop, length-append, length-take, get_or-append-add, append-nil, nil_from_length}
use Rattle.std.specs.List.{flat_map, list_all}
use Rattle.std.proofs.lemmas.List.Concat.{flat_map-cons}
use Rattle.std.proofs.lemmas.Nat.{be_bytes_2, be_bytes_4, be_bytes_8, from_be_bytes-to_be_bytes_2, from_be_bytes-to_be_bytes_4, from_be_bytes-to_be_bytes_8}
use Rattle.std.proofs.lemmas.Option.{cond_some, same_Some}
use Rattle.strm_image.specs.Format.{Format, IsExact, IsBytes, ◌>>=◌, read_byte, byte, number, u16, u32, u64, nothing, bytes_of, octets_of, only}
use Rattle.strm_image.specs.Format.{fit_from, text_from, read_from, chain, gather_from, gathered, gathered_of, before, at_end, keep, always, times}
use Rattle.strm_image.specs.Format.{counted, ◌then◌, made, tagged, if_there, fits_there, text_there, read_there, with_code, coded, whole, IsTextOf, Reads}

-- what stands behind bytes is bytes
pub rest_is_bytes : (bytes a b : List ℕ) → IsBytes bytes → bytes ≡ a ++ b → IsBytes b
rest_is_bytes bytes a b h e i = rw (← get_or-append-add a b i 0, ← e) (h (length a + i))

front_is_bytes : (n : ℕ) (bytes : List ℕ) → IsBytes bytes → IsBytes (take n bytes)
front_is_bytes zero bytes h i = omega arith
front_is_bytes (suc n) [] h i = omega arith
front_is_bytes (suc n) (b ∷ bytes) h zero = h 0
front_is_bytes (suc n) (b ∷ bytes) h (suc i) = front_is_bytes n bytes (λ k. h (suc k)) i

-- the value of a step that did not fail
pub bind_some : {A B : Type 0} (o : Option A) (f : A → Option B) (y : B) → (o >>= f) ≡ Some y → (x : A) × (o ≡ Some x) × (f x ≡ Some y)
bind_some None f y e = absurd cc
bind_some (Some x) f y e = (x, refl, e)

-- a test that did not fail
pub guard_some : {A : Type 0} (b : Bool) (x y : A) → cond b None (Some x) ≡ Some y → (b ≡ false) × (x ≡ y)
guard_some true x y e = absurd cc
guard_some false x y e = (refl, same_Some x y e)

-- which way a test went
pub chosen : {A : Type 0} (b : Bool) (x y z : A) → cond b x y ≡ z → ((b ≡ true) × (x ≡ z)) ⊎ ((b ≡ false) × (y ≡ z))
chosen true x y z e = inl (refl, e)
chosen false x y z e = inr (refl, e)

-- ---- one by one

same_length : (n : ℕ) → eqb n n ≡ true
same_length n = eq-eqb n n refl

pub byte_exact : IsExact byte
byte_exact = record { takes = takes; again = λ x rest fits. refl }
  where
    takes : (bytes : List ℕ) (x : ℕ × List ℕ) → IsBytes bytes → read_byte bytes ≡ Some x → (bytes ≡ x.0 ∷ x.1) × (ltb x.0 256 ≡ true)
    takes [] x h e = absurd cc
    takes (b ∷ rest) x h e = subst (λ (y : ℕ × List ℕ). (b ∷ rest ≡ y.0 ∷ y.1) × (ltb y.0 256 ≡ true)) (same_Some (b, rest) x e) (refl, lt-ltb b 256 (h 0))

pub nothing_exact : {A : Type 0} (x : A) → ((y : A) → x ≡ y) → IsExact (nothing x)
nothing_exact x one = record {
  takes = λ bytes y h e. (ap (λ p. p.1) (same_Some (x, bytes) y e), refl);
  again = λ y rest fits. rw (one y) refl;
}

pub record IsWide (w : Width) (limit : ℕ) : Type 0 where
  pub len : (n : ℕ) → length (to_be_bytes w n) ≡ byte_len w
  pub back : (bytes : List ℕ) → length bytes ≡ byte_len w → IsBytes bytes → to_be_bytes w (from_be_bytes w bytes) ≡ bytes
  pub again : (n : ℕ) → n < limit → from_be_bytes w (to_be_bytes w n) ≡ n
  pub below : (bytes : List ℕ) → IsBytes bytes → from_be_bytes w bytes < limit

number_exact : (w : Width) (limit : ℕ) → IsWide w limit → IsExact (number w limit)
number_exact w limit wide = record {
  takes = λ bytes x h e.
      let n = byte_len w in
      let g = guard_some (ltb (length bytes) n) (from_be_bytes w (take n bytes), drop n bytes) x e in
      let long : n ≤ length bytes = ltb-false _ _ g.0 in
      let fits = front_is_bytes n bytes h in
      let front : to_be_bytes w (from_be_bytes w (take n bytes)) ≡ take n bytes = wide.back (take n bytes) (omega (arith, length-take n bytes)) fits in
      subst (λ (y : ℕ × List ℕ). (bytes ≡ to_be_bytes w y.0 ++ y.1) × (ltb y.0 limit ≡ true)) g.1
      (rw front (sym (take-append-drop n bytes)), lt-ltb _ _ (wide.below (take n bytes) fits));
  again = λ n rest fits.
      let len = wide.len n in
      let long : ltb (length (to_be_bytes w n ++ rest)) (byte_len w) ≡ false = le-ltb _ _ (omega (arith, length-append (to_be_bytes w n) rest)) in
      rw (long, take_at (to_be_bytes w n) rest (byte_len w) len, drop_at (to_be_bytes w n) rest (byte_len w) len, wide.again n (ltb-true _ _ fits)) refl;
}

pub u16_exact : IsExact u16
u16_exact = number_exact w16 65536 (record {
  len = λ n. refl;
  back = λ bytes len fits. be_bytes_2 bytes _ len fits refl;
  again = λ n lt. from_be_bytes-to_be_bytes_2 n lt;
  below = λ bytes fits. omega (arith, fits 0, fits 1);
})

pub u32_exact : IsExact u32
u32_exact = number_exact w32 4294967296 (record {
  len = λ n. refl;
  back = λ bytes len fits. be_bytes_4 bytes _ len fits refl;
  again = λ n lt. from_be_bytes-to_be_bytes_4 n lt;
  below = λ bytes fits. omega (arith, fits 0, fits 1, fits 2, fits 3);
})

pub u64_exact : IsExact u64
u64_exact = number_exact w64 18446744073709551616 (record {
  len = λ n. refl;
  back = λ bytes len fits. be_bytes_8 bytes _ len fits refl;
  again = λ n lt. from_be_bytes-to_be_bytes_8 n lt;
  below = λ bytes fits. omega (arith, fits 0, fits 1, fits 2, fits 3, fits 4, fits 5, fits 6, fits 7);
})

pub bytes_exact : (n : ℕ) → IsExact (bytes_of n)
bytes_exact n = record {
  takes = λ bytes x h e.
      let g = guard_some (ltb (length bytes) n) (take n bytes, drop n bytes) x e in
      let long : n ≤ length bytes = ltb-false _ _ g.0 in
      let len : length (take n bytes) ≡ n = omega (arith, length-take n bytes) in
      subst (λ (y : List ℕ × List ℕ). (bytes ≡ y.0 ++ y.1) × (eqb (length y.0) n ≡ true)) g.1 (sym (take-append-drop n bytes), rw len (same_length n));
  again = λ bs rest fits.
      let len : length bs ≡ n = eqb-true _ _ fits in
      let long : ltb (length (bs ++ rest)) n ≡ false = le-ltb _ _ (omega (arith, length-append bs rest)) in
      rw (long, take_at bs rest n len, drop_at bs rest n len) refl;
}

each_is_byte : (bytes rest : List ℕ) → IsBytes (bytes ++ rest) → list_all byte.fits bytes ≡ true
each_is_byte [] rest h = refl
each_is_byte (b ∷ bytes) rest h = and_from _ _ (lt-ltb b 256 (h 0)) (each_is_byte bytes rest (λ i. h (suc i)))

pub octets_exact : (n : ℕ) → IsExact (octets_of n)
octets_exact n = record {
  takes = λ bytes x h e.
      let t = (bytes_exact n).takes bytes x h e in
      (t.0, and_from _ _ t.1 (each_is_byte x.0 x.1 (subst (λ b. IsBytes b) t.0 h)));
  again = λ bs rest fits. (bytes_exact n).again bs rest (and_parts (eqb (length bs) n) (list_all byte.fits bs) fits).0;
}

pub code_is : {A : Type 0} (code : A → ℕ) (n : ℕ) (all : List A) (x : A) → with_code code n all ≡ Some x → n ≡ code x
code_is code n [] x e = absurd cc
code_is code n (y ∷ all) x e =
    elim (chosen (eqb n (code y)) (Some y) (with_code code n all) (Some x) e) [
      | inl h ↦ eqb-true n (code y) h.0 ∙ ap code (same_Some y x h.1)
      | inr h ↦ code_is code n all x h.1
    ]

pub coded_exact : {A : Type 0} (code : A → ℕ) (all : List A) → ((x : A) → with_code code (code x) all ≡ Some x) → IsExact (coded code all)
coded_exact code all back = record {
  takes = λ bytes x h e.
      let a = bind_some (read_byte bytes) (λ b. with_code code b.0 all >>= λ y. Some (y, b.1)) x e in
      let b = bind_some (with_code code a.0.0 all) (λ y. Some (y, a.0.1)) x a.2 in
      let t = byte_exact.takes bytes a.0 h a.1 in
      subst (λ y. (bytes ≡ code y.0 ∷ y.1) × (ltb (code y.0) 256 ≡ true)) (same_Some (b.0, a.0.1) x b.2) (rw (← code_is code a.0.0 all b.0 b.1) (t.0, t.1));
  again = λ x rest fits. rw (back x) refl;
}

-- ---- made of others

module _ {A : Type 0} (f : Format A) (exact : IsExact f) where
  pub only_exact : (test : A → Bool) → IsExact (only test f)
  only_exact test = record {
    takes = λ bytes x h e.
        let b = bind_some (f.read bytes) (λ y. cond (test y.0) (Some y) None) x e in
        let g = cond_some (test b.0.0) b.0 x b.2 in
        let t = exact.takes bytes b.0 h b.1 in
        subst (λ y. (bytes ≡ f.text y.0 ++ y.1) × (f.fits y.0 && test y.0 ≡ true)) g.1 (t.0, and_from _ _ t.1 g.0);
    again = λ x rest fits.
        let p = and_parts (f.fits x) (test x) fits in
        rw (exact.again x rest p.0, p.1) refl;
  }

  pub if_there_exact : (there : Bool) → IsExact (if_there there f)
  if_there_exact there = record { takes = takes there; again = again there }
    where
      takes : (there : Bool) (bytes : List ℕ) (x : Option A × List ℕ) → IsBytes bytes → read_there there f bytes ≡ Some x
          → (bytes ≡ text_there f x.0 ++ x.1) × (fits_there there f x.0 ≡ true)
      takes true bytes x h e =
          let b = bind_some (f.read bytes) (λ y. Some (Some y.0, y.1)) x e in
          subst (λ (y : Option A × List ℕ). (bytes ≡ text_there f y.0 ++ y.1) × (fits_there true f y.0 ≡ true)) (same_Some (Some b.0.0, b.0.1) x b.2)
          (exact.takes bytes b.0 h b.1)
      takes false bytes x h e =
          subst (λ (y : Option A × List ℕ). (bytes ≡ text_there f y.0 ++ y.1) × (fits_there false f y.0 ≡ true)) (same_Some (None, bytes) x e) (refl, refl)

      again : (there : Bool) (o : Option A) (rest : List ℕ) → fits_there there f o ≡ true → read_there there f (text_there f o ++ rest) ≡ Some (o, rest)
      again true (Some x) rest fits = rw (exact.again x rest fits) refl
      again true None rest fits = absurd cc
      again false None rest fits = refl
      again false (Some x) rest fits = absurd cc

module _ {A S : Type 0} (next : A → S → S) (f : S → Format A) (exact : (s : S) → IsExact (f s)) where
  takes_from : (s : S) (n : ℕ) (bytes : List ℕ) (x : List A × List ℕ) → IsBytes bytes → read_from next f s n bytes ≡ Some x
      → (bytes ≡ text_from next f s x.0 ++ x.1) × (length x.0 ≡ n) × (fit_from next f s x.0 ≡ true)
  takes_from s zero bytes x h e = subst (λ (y : List A × List ℕ). (bytes ≡ text_from next f s y.0 ++ y.1) × (length y.0 ≡ 0) × (fit_from next f s y.0 ≡ true)) (same_Some ([], bytes) x e) (refl, refl, refl)
  takes_from s (suc n) bytes x h e =
      let a = bind_some ((f s).read bytes) (λ y. read_from next f (next y.0 s) n y.1 >>= λ ys. Some (y.0 ∷ ys.0, ys.1)) x e in
      let b = bind_some (read_from next f (next a.0.0 s) n a.0.1) (λ ys. Some (a.0.0 ∷ ys.0, ys.1)) x a.2 in
      let first = (exact s).takes bytes a.0 h a.1 in
      let others = takes_from (next a.0.0 s) n a.0.1 b.0 (rest_is_bytes bytes ((f s).text a.0.0) a.0.1 h first.0) b.1 in
      let both : List A × List ℕ = (a.0.0 ∷ b.0.0, b.0.1) in
      subst (λ (y : List A × List ℕ). (bytes ≡ text_from next f s y.0 ++ y.1) × (length y.0 ≡ suc n) × (fit_from next f s y.0 ≡ true)) (same_Some both x b.2)
      (first.0 ∙ ap (λ r. (f s).text a.0.0 ++ r) others.0 ∙ sym (append_assoc ((f s).text a.0.0) (text_from next f (next a.0.0 s) b.0.0) b.0.1), ap suc others.1, and_from _ _ first.1 others.2)

  again_from : (s : S) (xs : List A) (rest : List ℕ) → fit_from next f s xs ≡ true → read_from next f s (length xs) (text_from next f s xs ++ rest) ≡ Some (xs, rest)
  again_from s [] rest fits = refl
  again_from s (x ∷ xs) rest fits =
      let p = and_parts ((f s).fits x) (fit_from next f (next x s) xs) fits in
      ap (read_from next f s (suc (length xs))) (append_assoc ((f s).text x) (text_from next f (next x s) xs) rest)
      ∙ rw ((exact s).again x (text_from next f (next x s) xs ++ rest) p.0, again_from (next x s) xs rest p.1) refl

  pub chain_exact : (s : S) (n : ℕ) → IsExact (chain next f s n)
  chain_exact s n = record {
    takes = λ bytes x h e.
        let t = takes_from s n bytes x h e in
        (t.0, and_from _ _ (rw t.1 (same_length n)) t.2);
    again = λ xs rest fits.
        let p = and_parts (eqb (length xs) n) (fit_from next f s xs) fits in
        let len : length xs ≡ n = eqb-true _ _ p.0 in
        ap (λ k. read_from next f s k (text_from next f s xs ++ rest)) (sym len) ∙ again_from s xs rest p.1;
  }

module _ {A S : Type 0} (next : A → S → S) (f : S → Format A) where
  pub read_long : (s : S) (n : ℕ) (bytes : List ℕ) (x : List A × List ℕ) → read_from next f s n bytes ≡ Some x → length x.0 ≡ n
  read_long s zero bytes x e = ap (λ y. length y.0) (sym (same_Some ([], bytes) x e))
  read_long s (suc n) bytes x e =
      let a = bind_some ((f s).read bytes) (λ y. read_from next f (next y.0 s) n y.1 >>= λ ys. before y.0 ys) x e in
      let b = bind_some (read_from next f (next a.0.0 s) n a.0.1) (λ ys. before a.0.0 ys) x a.2 in
      ap (λ y. length y.0) (sym (same_Some (a.0.0 ∷ b.0.0, b.0.1) x b.2)) ∙ ap suc (read_long (next a.0.0 s) n a.0.1 b.0 b.1)

-- where the text of a value goes by no state
pub text_flat : {A S : Type 0} (next : A → S → S) (f : S → Format A) (text : A → List ℕ) → ((s : S) (x : A) → (f s).text x ≡ text x) → (s : S) (xs : List A) → text_from next f s xs ≡ flat_map text xs
text_flat next f text same s [] = refl
text_flat next f text same s (x ∷ xs) = rw (same s x, text_flat next f text same (next x s) xs) (sym (flat_map-cons text x xs))

first_gathered : {A B : Type 0} (gather : A → B → B) (b : B) (o : Option (A × List ℕ)) (g : A × List ℕ → Option (B × List ℕ)) (r : A × List ℕ → Option (List A × List ℕ))
    → ((x : A × List ℕ) → g x ≡ (r x >>= gathered_of gather (gather x.0 b)))
    → (o >>= g) ≡ ((o >>= λ x. r x >>= λ xs. before x.0 xs) >>= gathered_of gather b)
first_gathered gather b None g r h = refl
first_gathered {A = A} gather b (Some x) g r h = h x ∙ over (r x)
  where
    over : (o : Option (List A × List ℕ)) → (o >>= gathered_of gather (gather x.0 b)) ≡ ((o >>= λ xs. before x.0 xs) >>= gathered_of gather b)
    over None = refl
    over (Some y) = refl

module _ {A S B : Type 0} (next : A → S → S) (f : S → Format A) (gather : A → B → B) where
  -- what is gathered is gathered from what is read
  pub gather_is : (b : B) (s : S) (n : ℕ) (bytes : List ℕ) → gather_from next f gather b s n bytes ≡ (read_from next f s n bytes >>= gathered_of gather b)
  gather_is b s zero bytes = refl
  gather_is b s (suc n) bytes = first_gathered gather b ((f s).read bytes) _ _ (λ x. gather_is (gather x.0 b) (next x.0 s) n x.1)

  pub gather_some : (b : B) (s : S) (n : ℕ) (bytes : List ℕ) (y : B × List ℕ) → gather_from next f gather b s n bytes ≡ Some y → (xs : List A) × (read_from next f s n bytes ≡ Some (xs, y.1)) × (y.0 ≡ gathered gather b xs)
  gather_some b s n bytes y e =
      let a = bind_some (read_from next f s n bytes) (gathered_of gather b) y (sym (gather_is b s n bytes) ∙ e) in
      let same = same_Some (gathered gather b a.0.0, a.0.1) y a.2 in
      (a.0.0, a.1 ∙ ap (λ (p : B × List ℕ). Some (a.0.0, p.1)) same, ap (λ (p : B × List ℕ). p.0) (sym same))

  pub gather_none : (b : B) (s : S) (n : ℕ) (bytes : List ℕ) → gather_from next f gather b s n bytes ≡ None → read_from next f s n bytes ≡ None
  gather_none b s n bytes e = none (read_from next f s n bytes) (sym (gather_is b s n bytes) ∙ e)
    where
      none : (o : Option (List A × List ℕ)) → (o >>= gathered_of gather b) ≡ None → o ≡ None
      none None h = refl
      none (Some x) h = absurd cc

  -- A loop that reads one after the other: what is left gives what all give.
  pub gather_more : (b : B) (s : S) (count i : ℕ) (bytes : List ℕ) (x : A × List ℕ) (total : Option (B × List ℕ)) → i < count → (f s).read bytes ≡ Some x
      → gather_from next f gather b s (count - i) bytes ≡ total → gather_from next f gather (gather x.0 b) (next x.0 s) (count - (i + 1)) x.1 ≡ total
  gather_more b s count i bytes x total lt h so_far =
      let k : count - i ≡ suc (count - (i + 1)) = omega arith in
      let one : gather_from next f gather b s (count - i) bytes ≡ gather_from next f gather (gather x.0 b) (next x.0 s) (count - (i + 1)) x.1 = rw (k, h) refl in
      sym one ∙ so_far

  pub gather_refused : (b : B) (s : S) (count i : ℕ) (bytes : List ℕ) (total : Option (B × List ℕ)) → i < count → (f s).read bytes ≡ None
      → gather_from next f gather b s (count - i) bytes ≡ total → total ≡ None
  gather_refused b s count i bytes total lt h so_far =
      let k : count - i ≡ suc (count - (i + 1)) = omega arith in
      let one : gather_from next f gather b s (count - i) bytes ≡ None = rw (k, h) refl in
      sym so_far ∙ one

  pub gather_done : (b : B) (s : S) (count i : ℕ) (bytes : List ℕ) (total : Option (B × List ℕ)) → count ≤ i
      → gather_from next f gather b s (count - i) bytes ≡ total → total ≡ Some (b, bytes)
  gather_done b s count i bytes total le so_far =
      let k : count - i ≡ 0 = omega arith in
      let one : gather_from next f gather b s (count - i) bytes ≡ Some (b, bytes) = rw k refl in
      sym so_far ∙ one

all_gathered : {A : Type 0} (xs front : List A) → gathered at_end front xs ≡ front ++ xs
all_gathered [] front = sym (append-nil front)
all_gathered (x ∷ xs) front = all_gathered xs (front ++ x ∷ []) ∙ append_assoc front (x ∷ []) xs

-- A loop that keeps the values has read them.
pub gather_all : {A S : Type 0} (next : A → S → S) (f : S → Format A) (s : S) (n : ℕ) (bytes : List ℕ) → gather_from next f at_end [] s n bytes ≡ read_from next f s n bytes
gather_all {A = A} next f s n bytes = gather_is next f at_end [] s n bytes ∙ same (read_from next f s n bytes)
  where
    same : (o : Option (List A × List ℕ)) → (o >>= gathered_of at_end []) ≡ o
    same None = refl
    same (Some x) = ap (λ (xs : List A). Some (xs, x.1)) (all_gathered x.0 [])

-- So does one that has read their number.
pub counted_reads : {R A S : Type 0} (view : R → List A × List ℕ) (result : Option R) (count : Format ℕ) (next : A → S → S) (f : S → Format A) (s : S) (n : ℕ) (bytes text : List ℕ) → count.read bytes ≡ Some (n, text)
    → Reads view result (gather_from next f at_end [] s n text) → Reads view result ((counted count (chain next f s)).read bytes)
counted_reads view result count next f s n bytes text head told =
    let same : (counted count (chain next f s)).read bytes ≡ gather_from next f at_end [] s n text = rw head (sym (gather_all next f s n text)) in
    subst (λ o. Reads view result o) (sym same) told

pub times_exact : {A : Type 0} (n : ℕ) (f : Format A) → IsExact f → IsExact (times n f)
times_exact n f exact = chain_exact keep (always f) (λ _. exact) tt n

-- a list whose format goes by its length has that length
pub record IsLong {A : Type 0} (f : ℕ → Format (List A)) : Type 0 where
  pub long : (n : ℕ) (xs : List A) → (f n).fits xs ≡ true → length xs ≡ n

pub chain_long : {A S : Type 0} (next : A → S → S) (f : S → Format A) (s : S) → IsLong (chain next f s)
chain_long next f s = record { long = λ n xs fits. eqb-true _ _ (and_parts (eqb (length xs) n) (fit_from next f s xs) fits).0 }

pub bytes_long : IsLong bytes_of
bytes_long = record { long = λ n xs fits. eqb-true _ _ fits }

pub octets_long : IsLong octets_of
octets_long = record { long = λ n xs fits. eqb-true _ _ (and_parts (eqb (length xs) n) (list_all byte.fits xs) fits).0 }

pub tagged_exact : {A B : Type 0} (tag : B → A) (tags : Format A) (f : A → Format B) → IsExact tags → ((k : A) → IsExact (f k)) → ((k : A) (x : B) → (f k).fits x ≡ true → tag x ≡ k) → IsExact (tagged tag tags f)
tagged_exact tag tags f exact each told = record {
  takes = λ bytes x h e.
      let a = bind_some (tags.read bytes) (λ k. (f k.0).read k.1) x e in
      let first = exact.takes bytes a.0 h a.1 in
      let second = (each a.0.0).takes a.0.1 x (rest_is_bytes bytes (tags.text a.0.0) a.0.1 h first.0) a.2 in
      rw (told a.0.0 x.0 second.1) (first.0 ∙ ap (λ r. tags.text a.0.0 ++ r) second.0 ∙ sym (append_assoc (tags.text a.0.0) ((f a.0.0).text x.0) x.1), and_from _ _ first.1 second.1);
  again = λ x rest fits.
      let p = and_parts (tags.fits (tag x)) ((f (tag x)).fits x) fits in
      ap (λ bytes. tags.read bytes >>= λ k. (f k.0).read k.1) (append_assoc (tags.text (tag x)) ((f (tag x)).text x) rest)
      ∙ rw (exact.again (tag x) ((f (tag x)).text x ++ rest) p.0) ((each (tag x)).again x rest p.1);
}

pub counted_exact : {A : Type 0} (count : Format ℕ) (f : ℕ → Format (List A)) → IsExact count → ((n : ℕ) → IsExact (f n)) → IsLong f → IsExact (counted count f)
counted_exact count f exact each long = tagged_exact length count f exact each long.long

pub then_exact : {A B : Type 0} (f : Format A) (g : Format B) → IsExact f → IsExact g → IsExact (f then g)
then_exact f g exact_f exact_g = record {
  takes = λ bytes x h e.
      let a = bind_some (f.read bytes) (λ y. g.read y.1 >>= λ z. Some ((y.0, z.0), z.1)) x e in
      let b = bind_some (g.read a.0.1) (λ z. Some ((a.0.0, z.0), z.1)) x a.2 in
      let first = exact_f.takes bytes a.0 h a.1 in
      let second = exact_g.takes a.0.1 b.0 (rest_is_bytes bytes (f.text a.0.0) a.0.1 h first.0) b.1 in
      subst (λ y. (bytes ≡ (f.text y.0.0 ++ g.text y.0.1) ++ y.1) × (f.fits y.0.0 && g.fits y.0.1 ≡ true)) (same_Some ((a.0.0, b.0.0), b.0.1) x b.2)
      (first.0 ∙ ap (λ r. f.text a.0.0 ++ r) second.0 ∙ sym (append_assoc (f.text a.0.0) (g.text b.0.0) b.0.1), and_from _ _ first.1 second.1);
  again = λ x rest fits.
      let p = and_parts (f.fits x.0) (g.fits x.1) fits in
      ap (λ bytes. f.read bytes >>= λ y. g.read y.1 >>= λ z. Some ((y.0, z.0), z.1)) (append_assoc (f.text x.0) (g.text x.1) rest)
      ∙ rw (exact_f.again x.0 (g.text x.1 ++ rest) p.0, exact_g.again x.1 rest p.1) refl;
}

-- The parts of what is made of parts are these, and what has the shape is made of its parts.
pub record IsMade {A B : Type 0} (shape : B → Bool) (to : A → B) (parts : B → A) (f : Format A) : Type 0 where
  pub back : (x : A) → f.fits x ≡ true → (parts (to x) ≡ x) × (shape (to x) ≡ true)
  pub whole : (y : B) → shape y ≡ true → to (parts y) ≡ y

pub made_exact : {A B : Type 0} (shape : B → Bool) (to : A → B) (parts : B → A) (f : Format A) → IsExact f → IsMade shape to parts f → IsExact (made shape to parts f)
made_exact shape to parts f exact is = record {
  takes = λ bytes x h e.
      let a = bind_some (f.read bytes) (λ y. Some (to y.0, y.1)) x e in
      let t = exact.takes bytes a.0 h a.1 in
      let m = is.back a.0.0 t.1 in
      subst (λ y. (bytes ≡ f.text (parts y.0) ++ y.1) × (shape y.0 && f.fits (parts y.0) ≡ true)) (same_Some (to a.0.0, a.0.1) x a.2)
      (rw m.0 t.0, and_from _ _ m.1 (rw m.0 t.1));
  again = λ y rest fits.
      let p = and_parts (shape y) (f.fits (parts y)) fits in
      rw (exact.again (parts y) rest p.1, is.whole y p.0) refl;
}

-- ---- what follows

module _ {A : Type 0} (f : Format A) (exact : IsExact f) where
  -- what isn't read is no text, whatever follows
  pub unread : (bytes : List ℕ) (x : A) (rest : List ℕ) → f.read bytes ≡ None → f.fits x ≡ true → bytes ≡ f.text x ++ rest → ⊥
  unread bytes x rest none fits e = let read = ap f.read e ∙ exact.again x rest fits in cc

  -- no text begins another one
  pub one_text : (x y : A) (a b : List ℕ) → f.fits x ≡ true → f.fits y ≡ true → f.text x ++ a ≡ f.text y ++ b → (x ≡ y) × (a ≡ b)
  one_text x y a b fits_x fits_y e =
      let same : ◌≡◌ {A = Option (A × List ℕ)} (Some (x, a)) (Some (y, b)) = sym (exact.again x a fits_x) ∙ ap f.read e ∙ exact.again y b fits_y in
      let parts = same_Some (x, a) (y, b) same in
      (ap (λ (p : A × List ℕ). p.0) parts, ap (λ (p : A × List ℕ). p.1) parts)

  pub whole_takes : (bytes : List ℕ) (x : A) → IsBytes bytes → whole f bytes ≡ Some x → IsTextOf f bytes x
  whole_takes bytes x h e =
      let a = bind_some (f.read bytes) (λ y. cond (eqb (length y.1) 0) (Some y.0) None) x e in
      let g = cond_some (eqb (length a.0.1) 0) a.0.0 x a.2 in
      let t = exact.takes bytes a.0 h a.1 in
      let ended : a.0.1 ≡ [] = nil_from_length a.0.1 (eqb-true _ _ g.0) in
      subst (λ y. IsTextOf f bytes y) g.1 (t.1, t.0 ∙ ap (λ r. f.text a.0.0 ++ r) ended ∙ append-nil (f.text a.0.0))

  pub whole_again : (bytes : List ℕ) (x : A) → IsTextOf f bytes x → whole f bytes ≡ Some x
  whole_again bytes x h =
      ap (whole f) (h.1 ∙ sym (append-nil (f.text x))) ∙ rw (exact.again x [] h.0) refl

  pub unwhole : (bytes : List ℕ) (x : A) → whole f bytes ≡ None → IsTextOf f bytes x → ⊥
  unwhole bytes x none h = let read = whole_again bytes x h in cc

-- ---- three tests of what was read, the first one innermost

module _ {A : Type 0} (a b c : A → Bool) (f : Format A) (bytes : List ℕ) (x : A × List ℕ) (read : f.read bytes ≡ Some x) where
  abbrev tested : Option (A × List ℕ)
  tested = (only c (only b (only a f))).read bytes

  by_each : (p q r : Bool) → a x.0 ≡ p → b x.0 ≡ q → c x.0 ≡ r → tested ≡ cond (p && (q && r)) (Some x) None
  by_each false q r first second third = rw (read, first) refl
  by_each true false r first second third = rw (read, first, second) refl
  by_each true true false first second third = rw (read, first, second, third) refl
  by_each true true true first second third = rw (read, first, second, third) refl

  by_all : tested ≡ cond (a x.0 && (b x.0 && c x.0)) (Some x) None
  by_all = by_each (a x.0) (b x.0) (c x.0) refl refl refl

  pub three_pass : (a x.0 && (b x.0 && c x.0)) ≡ true → (only c (only b (only a f))).read bytes ≡ Some x
  three_pass is = by_all ∙ ap (λ t. cond t (Some x) None) is

  pub three_fail : (a x.0 && (b x.0 && c x.0)) ≡ false → (only c (only b (only a f))).read bytes ≡ None
  three_fail is = by_all ∙ ap (λ t. cond t (Some x) None) is
