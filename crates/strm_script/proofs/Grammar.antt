-- What is read is spelled so, and what is spelled so is read.
use Rattle.std.proofs.Common.{◌≡◌, ℕ, ◌+◌, ◌*◌, ◌≤◌, false, eqb, leb, ltb, List, [], ◌∷◌, ◌++◌, length, Option, None, Some, option_map, refl, arith, sym, ap, ◌∙◌, inl, inr, append_assoc, codes, subst, ◌&&◌}
use Rattle.std.proofs.lemmas.Bool.{cond-true, cond-false, eq-eqb, ne_eqb, leb-true, le-leb, lt-ltb, ltb-true, cases_Bool, and_parts}
use Rattle.std.proofs.lemmas.Bool.Decides.{eqb_tells, leb_tells}
use Rattle.strm_script.specs.Script.{digit_of, hex_of, escaped, HasValue, IsNumber, IsPiece, Itself, Named, Coded, IsText}
use Rattle.strm_script.specs.ScriptReading as readings
use Rattle.strm_script.specs.Named.{and_then, after}
use Rattle.strm_script.specs.ScriptReading.{number_from, number_in, Mode, moved_by, with_front, text_from, text_in}
use Rattle.strm_script.proofs.Readings.{number_none, number_over, number_more, text_breaks, text_goes, text_gives}

-- what the second step found, behind the first
pub record Found {A B : Type 0} (f : A → Option B) (o : Option A) (y : B) : Type 0 where
  pub value : A
  pub first : o ≡ Some value
  pub second : f value ≡ Some y

pub and_then-found : {A B : Type 0} (f : A → Option B) (o : Option A) (y : B) → and_then f o ≡ Some y → Found f o y
and_then-found f None y h = absurd cc
and_then-found f (Some x) y h = record { value = x; first = refl; second = h }

pub record Mapped {A B : Type 0} (f : A → B) (o : Option A) (y : B) : Type 0 where
  pub value : A
  pub first : o ≡ Some value
  pub second : f value ≡ y

pub option_map-found : {A B : Type 0} (f : A → B) (o : Option A) (y : B) → option_map f o ≡ Some y → Mapped f o y
option_map-found f None y h = absurd cc
option_map-found f (Some x) y h = record { value = x; first = refl; second = cc }

pub after-found : (word line rest : List ℕ) → after word line ≡ Some rest → line ≡ word ++ rest
after-found [] line rest h = cc
after-found (w ∷ word) [] rest h = absurd cc
after-found (w ∷ word) (b ∷ line) rest h = elim (eqb_tells w b) [
  | inl e ↦
      let tail : line ≡ word ++ rest = after-found word line rest (sym (cond-true (eqb w b) (after word line) None e.0) ∙ h) in
      (λ i. sym e.1 i ∷ tail i)
  | inr e ↦ let none : None ≡ Some rest = sym (cond-false (eqb w b) (after word line) None e.0) ∙ h in absurd cc
]

pub after-only : (word rest : List ℕ) → after word (word ++ rest) ≡ Some rest
after-only [] rest = refl
after-only (w ∷ word) rest = cond-true (eqb w w) (after word (word ++ rest)) None (eq-eqb w w refl) ∙ after-only word rest

-- numbers
number-step : (v b n : ℕ) (digits : List ℕ) (o : Option ℕ) → digit_of b ≡ o → number_from v (b ∷ digits) ≡ Some n
    → (d : ℕ) × (digit_of b ≡ Some d) × (10 * v + d ≤ 4294967295) × (number_from (10 * v + d) digits ≡ Some n)
number-step v b n digits None e h = let none : None ≡ Some n = sym (number_none v b digits e) ∙ h in absurd cc
number-step v b n digits (Some d) e h = elim (leb_tells (10 * v + d) 4294967295) [
  | inl fits ↦ (d, e, fits.1, sym (number_more v b d digits e fits.1) ∙ h)
  | inr over ↦ let none : None ≡ Some n = sym (number_over v b d digits e over.1) ∙ h in absurd cc
]

number_from-found : (v : ℕ) (digits : List ℕ) (n : ℕ) → v ≤ 4294967295 → number_from v digits ≡ Some n → HasValue v digits n × (n ≤ 4294967295)
unfolding number_from
number_from-found v [] n fits h = let same : v ≡ n = cc in (sym same, omega (arith, same))
number_from-found v (b ∷ digits) n fits h =
    let one = number-step v b n digits (digit_of b) refl h in
    let more = number_from-found (10 * v + one.0) digits n one.2 one.3 in
    ((one.0, one.1, more.0), more.1)

HasValue-above : (v : ℕ) (digits : List ℕ) (n : ℕ) → HasValue v digits n → v ≤ n
HasValue-above v [] n h = omega (arith, h)
HasValue-above v (b ∷ digits) n h = omega (arith, HasValue-above (10 * v + h.0) digits n h.2)

number_from-only : (v : ℕ) (digits : List ℕ) (n : ℕ) → HasValue v digits n → n ≤ 4294967295 → number_from v digits ≡ Some n
unfolding number_from
number_from-only v [] n h fits = ap Some (sym h)
number_from-only v (b ∷ digits) n h fits =
    number_more v b h.0 digits h.1 (omega (arith, HasValue-above (10 * v + h.0) digits n h.2)) ∙ number_from-only (10 * v + h.0) digits n h.2 fits

pub number-found : (digits : List ℕ) (n : ℕ) → number_in digits ≡ Some n → IsNumber digits n
unfolding number_in
number-found digits n h = elim (cases_Bool (ltb 0 (length digits) && leb (length digits) 10)) [
  | inl e ↦
      let parts = and_parts _ _ e in
      let found = number_from-found 0 digits n (omega arith) (sym (cond-true _ (number_from 0 digits) None e) ∙ h) in
      record { some = ltb-true _ _ parts.0; most = leb-true _ _ parts.1; value = found.0; fits = found.1 }
  | inr e ↦ let none : None ≡ Some n = sym (cond-false _ (number_from 0 digits) None e) ∙ h in absurd cc
]

pub number-only : (digits : List ℕ) (n : ℕ) → IsNumber digits n → number_in digits ≡ Some n
unfolding number_in
number-only digits n h = rw (lt-ltb 0 (length digits) h.some, le-leb (length digits) 10 h.most) (number_from-only 0 digits n h.value h.fits)

-- texts: bytes that spell a text, with the quote behind it
pub record Quoted (bytes text : List ℕ) : Type 0 where
  pub spelled : List ℕ
  pub bytes_are : bytes ≡ spelled ++ 34 ∷ []
  pub spells : IsText spelled text

Quoted-more : (piece : List ℕ) (b : ℕ) (rest text : List ℕ) → IsPiece piece b → Quoted rest text → Quoted (piece ++ rest) (b ∷ text)
Quoted-more piece b rest text p q = record {
  spelled = piece ++ q.spelled;
  bytes_are = ap (λ k. piece ++ k) q.bytes_are ∙ sym (append_assoc piece q.spelled (34 ∷ []));
  spells = (piece, q.spelled, p, refl, q.spells);
}

-- what the reader of a text has found of it, by where it stands
abbrev Reads : Mode → List ℕ → List ℕ → Type 0
Reads readings.Inside bytes text = Quoted bytes text
Reads readings.Escaped bytes text = Quoted (92 ∷ bytes) text
Reads readings.Coded bytes text = Quoted (92 ∷ 120 ∷ bytes) text
Reads (readings.HalfCoded high) bytes text = (h : ℕ) → hex_of h ≡ Some high → Quoted (92 ∷ 120 ∷ h ∷ bytes) text
Reads readings.Closed bytes text = (bytes ≡ []) × (text ≡ [])

-- a piece that ends, and the text behind it
gives-found : (piece : List ℕ) (c : ℕ) (rest text : List ℕ) → IsPiece piece c → ((later : List ℕ) → text_from readings.Inside rest ≡ Some later → Quoted rest later)
    → with_front (c ∷ []) (text_from readings.Inside rest) ≡ Some text → Quoted (piece ++ rest) text
gives-found piece c rest text p later h =
    let m = option_map-found (λ k. (c ∷ []) ++ k) (text_from readings.Inside rest) text h in
    subst (λ k. Quoted (piece ++ rest) k) m.second (Quoted-more piece c rest m.value p (later m.value m.first))

abbrev Reads-all : List ℕ → Type 0
Reads-all bytes = (mode : Mode) (text : List ℕ) → text_from mode bytes ≡ Some text → Reads mode bytes text

inside-found : (b : ℕ) (rest text : List ℕ) → Reads-all rest → text_from readings.Inside (b ∷ rest) ≡ Some text → Quoted (b ∷ rest) text
inside-found b rest text later h = elim (eqb_tells b 34) [
  | inl q ↦
      let goes : moved_by readings.Inside b ≡ readings.Goes readings.Closed = rw (q.0) refl in
      let end = later readings.Closed text (sym (text_goes readings.Inside readings.Closed b rest goes) ∙ h) in
      record { spelled = []; bytes_are = (λ i. q.1 i ∷ end.0 i); spells = rw (end.1) refl }
  | inr q ↦ elim (eqb_tells b 92) [
    | inl s ↦
        let goes : moved_by readings.Inside b ≡ readings.Goes readings.Escaped = rw (q.0, s.0) refl in
        subst (λ k. Quoted (k ∷ rest) text) (sym s.1) (later readings.Escaped text (sym (text_goes readings.Inside readings.Escaped b rest goes) ∙ h))
    | inr s ↦ elim (eqb_tells b 10) [
      | inl n ↦
          let breaks : moved_by readings.Inside b ≡ readings.Breaks = rw (q.0, s.0, n.0) refl in
          let none : None ≡ Some text = sym (text_breaks readings.Inside b rest breaks) ∙ h in
          absurd cc
      | inr n ↦
          let gives : moved_by readings.Inside b ≡ readings.Gives b = rw (q.0, s.0, n.0) refl in
          gives-found (b ∷ []) b rest text (Itself b q.1 s.1 n.1) (later readings.Inside) (sym (text_gives readings.Inside b b rest gives) ∙ h)
    ]
  ]
]

escaped-by : (b : ℕ) (rest text : List ℕ) (o : Option ℕ) → escaped b ≡ o → eqb b 120 ≡ false → Reads-all rest → text_from readings.Escaped (b ∷ rest) ≡ Some text → Quoted (92 ∷ b ∷ rest) text
escaped-by b rest text None e x later h =
    let breaks : moved_by readings.Escaped b ≡ readings.Breaks = rw (x, e) refl in
    let none : None ≡ Some text = sym (text_breaks readings.Escaped b rest breaks) ∙ h in
    absurd cc
escaped-by b rest text (Some c) e x later h =
    let gives : moved_by readings.Escaped b ≡ readings.Gives c = rw (x, e) refl in
    gives-found (92 ∷ b ∷ []) c rest text (Named b c e) (later readings.Inside) (sym (text_gives readings.Escaped b c rest gives) ∙ h)

escaped-found : (b : ℕ) (rest text : List ℕ) (o : Option ℕ) → escaped b ≡ o → Reads-all rest → text_from readings.Escaped (b ∷ rest) ≡ Some text → Quoted (92 ∷ b ∷ rest) text
escaped-found b rest text o e later h = elim (eqb_tells b 120) [
  | inl x ↦
      let goes : moved_by readings.Escaped b ≡ readings.Goes readings.Coded = rw (x.0) refl in
      subst (λ k. Quoted (92 ∷ k ∷ rest) text) (sym x.1) (later readings.Coded text (sym (text_goes readings.Escaped readings.Coded b rest goes) ∙ h))
  | inr x ↦ escaped-by b rest text o e x.0 later h
]

coded-found : (b : ℕ) (rest text : List ℕ) (o : Option ℕ) → hex_of b ≡ o → Reads-all rest → text_from readings.Coded (b ∷ rest) ≡ Some text → Quoted (92 ∷ 120 ∷ b ∷ rest) text
coded-found b rest text None e later h =
    let breaks : moved_by readings.Coded b ≡ readings.Breaks = rw (e, moved_by) refl in
    let none : None ≡ Some text = sym (text_breaks readings.Coded b rest breaks) ∙ h in
    absurd cc
coded-found b rest text (Some high) e later h =
    let goes : moved_by readings.Coded b ≡ readings.Goes (readings.HalfCoded high) = rw (e, moved_by) refl in
    later (readings.HalfCoded high) text (sym (text_goes readings.Coded (readings.HalfCoded high) b rest goes) ∙ h) b e

half-found : (high b : ℕ) (rest text : List ℕ) (o : Option ℕ) → hex_of b ≡ o → Reads-all rest → text_from (readings.HalfCoded high) (b ∷ rest) ≡ Some text
    → (h : ℕ) → hex_of h ≡ Some high → Quoted (92 ∷ 120 ∷ h ∷ b ∷ rest) text
half-found high b rest text None e later read h x =
    let breaks : moved_by (readings.HalfCoded high) b ≡ readings.Breaks = rw (e, moved_by) refl in
    let none : None ≡ Some text = sym (text_breaks (readings.HalfCoded high) b rest breaks) ∙ read in
    absurd cc
half-found high b rest text (Some low) e later read h x =
    let gives : moved_by (readings.HalfCoded high) b ≡ readings.Gives (16 * high + low) = rw (e, moved_by) refl in
    gives-found (92 ∷ 120 ∷ h ∷ b ∷ []) (16 * high + low) rest text (Coded h b high low x e) (later readings.Inside)
    (sym (text_gives (readings.HalfCoded high) b (16 * high + low) rest gives) ∙ read)

text_from-found : (bytes : List ℕ) → Reads-all bytes
unfolding text_from
text_from-found [] readings.Inside text h = absurd cc
text_from-found [] readings.Escaped text h = absurd cc
text_from-found [] readings.Coded text h = absurd cc
text_from-found [] (readings.HalfCoded high) text h = absurd cc
text_from-found [] readings.Closed text h = (refl, cc)
text_from-found (b ∷ rest) readings.Inside text h = inside-found b rest text (text_from-found rest) h
text_from-found (b ∷ rest) readings.Escaped text h = escaped-found b rest text (escaped b) refl (text_from-found rest) h
text_from-found (b ∷ rest) readings.Coded text h = coded-found b rest text (hex_of b) refl (text_from-found rest) h
text_from-found (b ∷ rest) (readings.HalfCoded high) text h = half-found high b rest text (hex_of b) refl (text_from-found rest) h
text_from-found (b ∷ rest) readings.Closed text h = let none : None ≡ Some text = h in absurd cc

pub text-found : (line text : List ℕ) → text_in line ≡ Some text → (spelled : List ℕ) × IsText spelled text × (line ≡ 34 ∷ spelled ++ 34 ∷ [])
unfolding text_in
text-found line text h =
    let x = and_then-found (text_from readings.Inside) (after (codes "\"") line) text h in
    let q = text_from-found x.value readings.Inside text x.second in
    (q.spelled, q.spells, after-found (codes "\"") line x.value x.first ∙ ap (λ k. 34 ∷ k) q.bytes_are)

-- a text behind its first quote, with the one at its end
pub text_from-spelled : (bytes text : List ℕ) → text_from readings.Inside bytes ≡ Some text → (spelled : List ℕ) × IsText spelled text × (bytes ≡ spelled ++ 34 ∷ [])
text_from-spelled bytes text h = let q = text_from-found bytes readings.Inside text h in (q.spelled, q.spells, q.bytes_are)

not_x : (c b : ℕ) → escaped c ≡ Some b → c ≡ 120 → ⊥
unfolding escaped
not_x c b e same = let none : None ≡ Some b = ap escaped (sym same) ∙ e in cc

-- a piece is read, and then the text behind it
piece-only : (piece : List ℕ) (b : ℕ) (rest : List ℕ) → IsPiece piece b → text_from readings.Inside (piece ++ rest) ≡ with_front (b ∷ []) (text_from readings.Inside rest)
piece-only _ _ rest (Itself b q s n) =
    text_gives readings.Inside b b rest (rw (ne_eqb b 34 q, ne_eqb b 92 s, ne_eqb b 10 n) refl)
piece-only _ _ rest (Named c b e) =
    text_goes readings.Inside readings.Escaped 92 (c ∷ rest) refl
    ∙ text_gives readings.Escaped c b rest (rw (ne_eqb c 120 (not_x c b e), e) refl)
piece-only _ _ rest (Coded h l high low x y) =
    text_goes readings.Inside readings.Escaped 92 (120 ∷ h ∷ l ∷ rest) refl
    ∙ text_goes readings.Escaped readings.Coded 120 (h ∷ l ∷ rest) refl
    ∙ text_goes readings.Coded (readings.HalfCoded high) h (l ∷ rest) (rw (x, moved_by) refl)
    ∙ text_gives (readings.HalfCoded high) l (16 * high + low) rest (rw (y, moved_by) refl)

pub text_from-only : (spelled text : List ℕ) → IsText spelled text → text_from readings.Inside (spelled ++ 34 ∷ []) ≡ Some text
unfolding text_from
text_from-only spelled [] h = rw (h) refl
text_from-only spelled (b ∷ text) (piece, rest, p, e, more) =
    ap (λ k. text_from readings.Inside (k ++ 34 ∷ [])) e
    ∙ ap (text_from readings.Inside) (append_assoc piece rest (34 ∷ []))
    ∙ piece-only piece b (rest ++ 34 ∷ []) p
    ∙ ap (with_front (b ∷ [])) (text_from-only rest text more)

pub text-only : (spelled text : List ℕ) → IsText spelled text → text_in (34 ∷ spelled ++ 34 ∷ []) ≡ Some text
unfolding text_in
text-only spelled text h = text_from-only spelled text h
