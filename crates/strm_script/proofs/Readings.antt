-- What the small readers of words and numbers do, step by step.
use Rattle.std.proofs.Common.{◌≡◌, ℕ, suc, ◌+◌, ◌*◌, ◌<◌, ◌≤◌, Bool, true, false, not, cond, eqb, ltb, ◌||◌, List, [], ◌∷◌, length, take, drop, get_or, Option, None, Some, unwrap_or, refl, arith, sym, ap, ◌∙◌, subst, inl, inr, ◌++◌, append_assoc, append-nil}
use Rattle.std.proofs.lemmas.List.{at_drop_more, at_drop_all, drop-drop}
use Rattle.std.proofs.lemmas.Bool.Decides.{nat_tests, eqb_tells}
use Rattle.std.proofs.lemmas.Bool.{cond-true, cond-false, ne_eqb, eq-eqb, ltb-false, cases_Bool}
use Rattle.std.specs.List.{position_from, position_or_len}
use Rattle.std.proofs.lemmas.Iterator.Adapters.{position_from-zero}
use Rattle.std.proofs.lemmas.List.Sums.{prefix_len-le-length}
use Rattle.std.proofs.lemmas.List.Folds.{length-prefix_len}
use Rattle.strm_script.specs.Script.{digit_of}
use Rattle.strm_script.specs.Named.{after}
use Rattle.strm_script.specs.ScriptReading.{number_from, Mode, Inside, Escaped, Coded, HalfCoded, Closed, Breaks, Goes, Gives, moved_by, text_from, with_front, is_closed, is_marked, own_len, quoted_len}

-- a word that stands at the front, and one that doesn't
pub after_front : (word line : List ℕ) → take (length word) line ≡ word → after word line ≡ Some (drop (length word) line)
after_front [] line h = refl
after_front (w ∷ word) [] h = cc
after_front (w ∷ word) (b ∷ line) h =
    let heads : w ≡ b = cc in
    let tails : take (length word) line ≡ word = cc in
    cond-true (eqb w b) (after word line) None (eq-eqb w b heads) ∙ after_front word line tails

pub after_none : (word line : List ℕ) → (take (length word) line ≡ word → ⊥) → after word line ≡ None
after_none [] line h = absurd (h refl)
after_none (w ∷ word) [] h = refl
after_none (w ∷ word) (b ∷ line) h =
    elim (eqb_tells w b) [
      | inl e ↦ cond-true (eqb w b) (after word line) None e.0 ∙ after_none word line (λ same. h (ap (λ x. x ∷ take (length word) line) (sym e.1) ∙ ap (λ l. w ∷ l) same))
      | inr e ↦ cond-false (eqb w b) (after word line) None e.0
    ]

pub number_none : (v b : ℕ) (digits : List ℕ) → digit_of b ≡ None → number_from v (b ∷ digits) ≡ None
unfolding number_from
number_none v b digits h = rw (h, number_from) refl

pub number_over : (v b d : ℕ) (digits : List ℕ) → digit_of b ≡ Some d → 4294967295 < 10 * v + d → number_from v (b ∷ digits) ≡ None
unfolding number_from
number_over v b d digits h over = rw (h, number_from) (grind (arith, nat_tests))

pub number_more : (v b d : ℕ) (digits : List ℕ) → digit_of b ≡ Some d → 10 * v + d ≤ 4294967295 → number_from v (b ∷ digits) ≡ number_from (10 * v + d) digits
unfolding number_from
number_more v b d digits h fits = rw (h, number_from) (grind (arith, nat_tests))

pub number_end : (v i : ℕ) (digits : List ℕ) → length digits ≤ i → number_from v (drop i digits) ≡ Some v
unfolding number_from
number_end v i digits h = at_drop_all (number_from v) digits i h

-- what a byte does to the text that bytes go on to spell
pub text_breaks : (mode : Mode) (b : ℕ) (spelled : List ℕ) → moved_by mode b ≡ Breaks → text_from mode (b ∷ spelled) ≡ None
unfolding text_from
text_breaks mode b spelled h = rw (h, text_from) refl

pub text_goes : (mode next : Mode) (b : ℕ) (spelled : List ℕ) → moved_by mode b ≡ Goes next → text_from mode (b ∷ spelled) ≡ text_from next spelled
unfolding text_from
text_goes mode next b spelled h = rw (h, text_from) refl

pub text_gives : (mode : Mode) (b c : ℕ) (spelled : List ℕ) → moved_by mode b ≡ Gives c → text_from mode (b ∷ spelled) ≡ with_front (c ∷ []) (text_from Inside spelled)
unfolding text_from
text_gives mode b c spelled h = rw (h, text_from) refl

pub text_ends : (mode : Mode) → text_from mode [] ≡ cond (is_closed mode) (Some []) None
unfolding text_from
text_ends mode = refl

-- a text in quotes ends at a quote; a byte that is none, and one that stands behind a backslash, is skipped
pub quoted_ends : (bytes : List ℕ) → quoted_len false (34 ∷ bytes) ≡ 1
unfolding quoted_len
quoted_ends bytes = refl

pub quoted_escapes : (bytes : List ℕ) → quoted_len false (92 ∷ bytes) ≡ suc (quoted_len true bytes)
unfolding quoted_len
quoted_escapes bytes = refl

pub quoted_more : (b : ℕ) (bytes : List ℕ) → quoted_len true (b ∷ bytes) ≡ suc (quoted_len false bytes)
unfolding quoted_len
quoted_more b bytes = refl

pub quoted_past : (b : ℕ) (bytes : List ℕ) → (b ≡ 34 → ⊥) → quoted_len false (b ∷ bytes) ≡ suc (quoted_len (eqb b 92) bytes)
unfolding quoted_len
quoted_past b bytes quote = rw (ne_eqb b 34 quote) refl

pub quoted_skips : (b : ℕ) (bytes : List ℕ) → (b ≡ 34 → ⊥) → (b ≡ 92 → ⊥) → quoted_len false (b ∷ bytes) ≡ suc (quoted_len false bytes)
quoted_skips b bytes quote backslash =
    quoted_past b bytes quote ∙ ap (λ escaped. suc (quoted_len escaped bytes)) (ne_eqb b 92 backslash)

quoted_none : (escaped : Bool) → quoted_len escaped [] ≡ 0
unfolding quoted_len
quoted_none true = refl
quoted_none false = refl

-- a text in quotes that is looked at up to a place
abbrev pub QuotedTo : Bool → ℕ → List ℕ → Type 0
QuotedTo escaped i bytes = i + quoted_len escaped (drop i bytes) ≡ quoted_len false bytes

pub QuotedTo-ends : (i : ℕ) (bytes : List ℕ) → i < length bytes → QuotedTo false i bytes → get_or bytes i 0 ≡ 34 → i + 1 ≡ quoted_len false bytes
QuotedTo-ends i bytes within so quote =
    let one = at_drop_more (quoted_len false) bytes i 0 within ∙ ap (λ b. quoted_len false (b ∷ drop (i + 1) bytes)) quote ∙ quoted_ends (drop (i + 1) bytes) in
    omega (arith, one, so)

pub QuotedTo-past : (i : ℕ) (bytes : List ℕ) → i < length bytes → QuotedTo false i bytes → (get_or bytes i 0 ≡ 34 → ⊥) → QuotedTo (eqb (get_or bytes i 0) 92) (i + 1) bytes
QuotedTo-past i bytes within so quote =
    let one = at_drop_more (quoted_len false) bytes i 0 within ∙ quoted_past (get_or bytes i 0) (drop (i + 1) bytes) quote in
    omega (arith, one, so)

pub QuotedTo-escaped : (i : ℕ) (bytes : List ℕ) → i < length bytes → QuotedTo true i bytes → QuotedTo false (i + 1) bytes
QuotedTo-escaped i bytes within so =
    let one = at_drop_more (quoted_len true) bytes i 0 within ∙ quoted_more (get_or bytes i 0) (drop (i + 1) bytes) in
    omega (arith, one, so)

pub QuotedTo-all : (escaped : Bool) (i : ℕ) (bytes : List ℕ) → length bytes ≤ i → QuotedTo escaped i bytes → i ≡ quoted_len false bytes
QuotedTo-all escaped i bytes past so =
    let none = at_drop_all (quoted_len escaped) bytes i past ∙ quoted_none escaped in
    omega (arith, none, so)

-- bytes in front of a text, and more behind them
pub with_front-more : (front more : List ℕ) (text : Option (List ℕ)) → with_front (front ++ more) text ≡ with_front front (with_front more text)
with_front-more front more None = refl
with_front-more front more (Some text) = ap Some (append_assoc front more text)

-- a text whose spelling is read up to a place
pub record TextTo (mode : Mode) (front : List ℕ) (i : ℕ) (bytes : List ℕ) : Type 0 where
  pub reads : with_front front (text_from mode (drop i bytes)) ≡ text_from Inside bytes

pub TextTo-breaks : (mode : Mode) (front : List ℕ) (i b : ℕ) (bytes : List ℕ) → i < length bytes → TextTo mode front i bytes → moved_by mode (get_or bytes i 0) ≡ Breaks → None ≡ text_from Inside bytes
TextTo-breaks mode front i b bytes within so h =
    sym (ap (with_front front) (at_drop_more (text_from mode) bytes i 0 within ∙ text_breaks mode (get_or bytes i 0) (drop (i + 1) bytes) h)) ∙ so.reads

pub TextTo-goes : (mode next : Mode) (front : List ℕ) (i : ℕ) (bytes : List ℕ) → i < length bytes → TextTo mode front i bytes → moved_by mode (get_or bytes i 0) ≡ Goes next → TextTo next front (i + 1) bytes
TextTo-goes mode next front i bytes within so h = record {
  reads = sym (ap (with_front front) (at_drop_more (text_from mode) bytes i 0 within ∙ text_goes mode next (get_or bytes i 0) (drop (i + 1) bytes) h)) ∙ so.reads;
}

pub TextTo-gives : (mode : Mode) (front : List ℕ) (i c : ℕ) (bytes : List ℕ) → i < length bytes → TextTo mode front i bytes → moved_by mode (get_or bytes i 0) ≡ Gives c → TextTo Inside (front ++ c ∷ []) (i + 1) bytes
TextTo-gives mode front i c bytes within so h = record {
  reads =
      with_front-more front (c ∷ []) (text_from Inside (drop (i + 1) bytes))
      ∙ (sym (ap (with_front front) (at_drop_more (text_from mode) bytes i 0 within ∙ text_gives mode (get_or bytes i 0) c (drop (i + 1) bytes) h)) ∙ so.reads);
}

TextTo-ends : (mode : Mode) (front : List ℕ) (i : ℕ) (bytes : List ℕ) → length bytes ≤ i → TextTo mode front i bytes → with_front front (cond (is_closed mode) (Some []) None) ≡ text_from Inside bytes
TextTo-ends mode front i bytes past so =
    ap (with_front front) (sym (at_drop_all (text_from mode) bytes i past ∙ text_ends mode)) ∙ so.reads

pub TextTo-closed : (mode : Mode) (front : List ℕ) (i : ℕ) (bytes : List ℕ) → length bytes ≤ i → TextTo mode front i bytes → is_closed mode ≡ true → Some front ≡ text_from Inside bytes
TextTo-closed mode front i bytes past so h =
    ap Some (sym (append-nil front)) ∙ (ap (with_front front) (sym (cond-true (is_closed mode) (Some []) None h)) ∙ TextTo-ends mode front i bytes past so)

pub TextTo-open : (mode : Mode) (front : List ℕ) (i : ℕ) (bytes : List ℕ) → length bytes ≤ i → TextTo mode front i bytes → is_closed mode ≡ false → None ≡ text_from Inside bytes
TextTo-open mode front i bytes past so h =
    ap (with_front front) (sym (cond-false (is_closed mode) (Some []) None h)) ∙ TextTo-ends mode front i bytes past so

-- the place that a search found, or else the length
pub position-found : (test : ℕ → Bool) (bytes : List ℕ) → unwrap_or (position_from test 0 bytes) (length bytes) ≡ position_or_len test bytes
position-found test bytes = elim (cases_Bool (ltb (position_or_len test bytes) (length bytes))) [
  | inl e ↦ ap (λ o. unwrap_or o (length bytes)) (sym (position_from-zero test bytes) ∙ cond-true _ _ _ e)
  | inr e ↦ ap (λ o. unwrap_or o (length bytes)) (sym (position_from-zero test bytes) ∙ cond-false _ _ _ e)
      ∙ omega (arith, ltb-false _ _ e, prefix_len-le-length (λ x. not (test x)) bytes)
]

pub position-within : (test : ℕ → Bool) (bytes : List ℕ) → position_or_len test bytes ≤ length bytes
position-within test bytes = prefix_len-le-length (λ x. not (test x)) bytes

pub length-position : (test : ℕ → Bool) (bytes : List ℕ) → length (take (position_or_len test bytes) bytes) ≡ position_or_len test bytes
length-position test bytes = length-prefix_len (λ x. not (test x)) bytes

-- the first element is the one that is looked for, or isn't
pub position-here : (test : ℕ → Bool) (b : ℕ) (bytes : List ℕ) → test b ≡ true → position_or_len test (b ∷ bytes) ≡ 0
position-here test b bytes e = cond-false (not (test b)) (1 + position_or_len test bytes) 0 (ap not e)

pub position-later : (test : ℕ → Bool) (b : ℕ) (bytes : List ℕ) → test b ≡ false → position_or_len test (b ∷ bytes) ≡ suc (position_or_len test bytes)
position-later test b bytes e =
    let one : 1 + position_or_len test bytes ≡ suc (position_or_len test bytes) = omega arith in
    cond-true (not (test b)) (1 + position_or_len test bytes) 0 (ap not e) ∙ one

-- bytes that spell themselves, and the text behind them
pub or_none : (a b : Bool) → (a || b) ≡ false → (a ≡ false) × (b ≡ false)
or_none true b h = absurd cc
or_none false b h = (refl, h)

gives_itself : (b : ℕ) → is_marked b ≡ false → moved_by Inside b ≡ Gives b
gives_itself b e =
    let x = or_none (eqb b 34) (eqb b 92 || eqb b 10) e in
    let y = or_none (eqb b 92) (eqb b 10) x.1 in
    rw (x.0, y.0, y.1) refl

with_front-none : (text : Option (List ℕ)) → with_front [] text ≡ text
with_front-none None = refl
with_front-none (Some text) = refl

-- a text whose first bytes, so many, are those that spell themselves
abbrev Splits : List ℕ → ℕ → Type 0
Splits bytes n = with_front (take n bytes) (text_from Inside (drop n bytes)) ≡ text_from Inside bytes

own_run : (bytes : List ℕ) → Splits bytes (position_or_len is_marked bytes)
own_run [] = with_front-none (text_from Inside [])
own_run (b ∷ bytes) = elim (cases_Bool (is_marked b)) [
  | inl e ↦ subst (Splits (b ∷ bytes)) (sym (position-here is_marked b bytes e)) (with_front-none (text_from Inside (b ∷ bytes)))
  | inr e ↦
      let n = position_or_len is_marked bytes in
      subst (Splits (b ∷ bytes)) (sym (position-later is_marked b bytes e))
      (with_front-more (b ∷ []) (take n bytes) (text_from Inside (drop n bytes))
      ∙ ap (with_front (b ∷ [])) (own_run bytes)
      ∙ sym (text_gives Inside b b bytes (gives_itself b e)))
]

pub TextTo-own : (mode : Mode) (front : List ℕ) (i n : ℕ) (bytes : List ℕ) → TextTo mode front i bytes → n ≡ own_len mode (drop i bytes) → 0 < n
    → TextTo mode (front ++ take n (drop i bytes)) (i + n) bytes
TextTo-own Inside front i n bytes so e some = record {
  reads =
      with_front-more front (take n (drop i bytes)) (text_from Inside (drop (i + n) bytes))
      ∙ ap (λ rest. with_front front (with_front (take n (drop i bytes)) (text_from Inside rest))) (sym (drop-drop n i bytes))
      ∙ ap (with_front front) (subst (Splits (drop i bytes)) (sym e) (own_run (drop i bytes)))
      ∙ so.reads;
}
TextTo-own Escaped front i n bytes so e some = let none : n ≡ 0 = e in absurd (omega arith)
TextTo-own Coded front i n bytes so e some = let none : n ≡ 0 = e in absurd (omega arith)
TextTo-own (HalfCoded high) front i n bytes so e some = let none : n ≡ 0 = e in absurd (omega arith)
TextTo-own Closed front i n bytes so e some = let none : n ≡ 0 = e in absurd (omega arith)

pub own-within : (mode : Mode) (bytes : List ℕ) → own_len mode bytes ≤ length bytes
own-within Inside bytes = position-within is_marked bytes
own-within Escaped bytes = omega arith
own-within Coded bytes = omega arith
own-within (HalfCoded high) bytes = omega arith
own-within Closed bytes = omega arith
