-- Messages that are put on a list and taken off it, as steps from place to place.
use Rattle.std.proofs.Common.{ℕ, ◌≡◌, ◌≢◌, ◌≤◌, ◌<◌, ◌+◌, cond, eqb, List, [], ◌∷◌, ◌++◌, refl, sym, ap, ◌∙◌, arith}
use Rattle.std.specs.Prelude.{Option, None, Some, unwrap_or}
use Rattle.std.proofs.lemmas.Bool.Decides.{nat_tests}
use Rattle.std.proofs.lemmas.List.Sums.{sum_by-cons, sum_by-append}
use Rattle.strm_raw.specs.Roster.{Msg}
use Rattle.strm_raw.specs.Raw.{heads}
use Rattle.strm_raw.specs.Numbered.{Nodes}
use Rattle.strm_raw.specs.Lists.{Step, IsTied, IsList, on, back, ahead_of, behind_of, end_of, begin_of}
use Rattle.strm_raw.specs.declared.neighbours.Ends.{Ends}

-- how often a place is one of the messages
abbrev pub times_at : Option ℕ → List Msg → ℕ
times_at None q = 0
times_at (Some i) q = heads i q

pub heads-cons : (i : ℕ) (m : Msg) (q : List Msg) → heads i (m ∷ q) ≡ cond (eqb m.head i) 1 0 + heads i q
heads-cons i m q = sum_by-cons (λ (x : Msg). cond (eqb x.head i) 1 0) m q

pub heads-append : (i : ℕ) (xs ys : List Msg) → heads i (xs ++ ys) ≡ heads i xs + heads i ys
heads-append i xs ys = sum_by-append (λ (x : Msg). cond (eqb x.head i) 1 0) xs ys

pub some-same : (i j : ℕ) → Some i ≡ Some j → i ≡ j
some-same i j e = ap (λ (o : Option ℕ). unwrap_or o 0) e

pub some-none : (i : ℕ) → Some i ≢ None
some-none i e = absurd (let no : Some i ≡ None = e in cc)

-- a place that is none of the messages is neither the first nor one of the others
off-first : (p : Option ℕ) (m : Msg) (q : List Msg) → times_at p (m ∷ q) ≡ 0 → Some m.head ≢ p
off-first None m q z = some-none m.head
off-first (Some i) m q z = λ e. (let same = some-same m.head i e in let c = heads-cons i m q in grind (arith, nat_tests))

off-rest : (p : Option ℕ) (m : Msg) (q : List Msg) → times_at p (m ∷ q) ≡ 0 → times_at p q ≡ 0
off-rest None m q z = refl
off-rest (Some i) m q z = let c = heads-cons i m q in omega arith

-- nor any of them, nor the last
off-member : (p : Option ℕ) (q : List Msg) → times_at p q ≡ 0 → (i : ℕ) → 0 < heads i q → Some i ≢ p
off-member None q z i some = some-none i
off-member (Some j) q z i some = λ e. (let same = some-same i j e in let h = ap (λ k. heads k q) same in absurd (omega arith))

pub off-end : (from p : Option ℕ) (q : List Msg) → from ≢ p → times_at p q ≡ 0 → end_of from q ≢ p
off-end from p [] apart z = apart
off-end from p (m ∷ q) apart z = off-end (Some m.head) p q (off-first p m q z) (off-rest p m q z)

pub off-begin : (i : ℕ) (q : List Msg) → heads i q ≡ 0 → Some i ≢ begin_of q
off-begin i [] z = some-none i
off-begin i (m ∷ q) z = λ e. off-first (Some i) m q z (sym e)

off-front : (p : Option ℕ) (xs ys : List Msg) → times_at p (xs ++ ys) ≡ 0 → times_at p xs ≡ 0
off-front None xs ys z = refl
off-front (Some i) xs ys z = let h = heads-append i xs ys in omega arith

-- of messages that are each there once the first is none of the others
once-first : (m : Msg) (q : List Msg) → ((i : ℕ) → heads i (m ∷ q) ≤ 1) → heads m.head q ≡ 0
once-first m q once = let o = once m.head in let c = heads-cons m.head m q in grind (arith, nat_tests)

once-rest : (m : Msg) (q : List Msg) → ((i : ℕ) → heads i (m ∷ q) ≤ 1) → (i : ℕ) → heads i q ≤ 1
once-rest m q once i = let o = once i in let c = heads-cons i m q in omega arith

-- the steps of a list lead from each place to the next one and back
tied-seam : (on back : Step) (from : Option ℕ) (xs ys : List Msg) → IsTied on back from (xs ++ ys) → (on (end_of from xs) ≡ begin_of ys) × (back (begin_of ys) ≡ end_of from xs)
tied-seam on back from [] [] t = t
tied-seam on back from [] (y ∷ ys) t = (t.0, t.1.0)
tied-seam on back from (w ∷ xs) ys t = tied-seam on back (Some w.head) xs ys t.1.1

-- a message leads on to the one behind it
tied-next : (on back : Step) (from : Option ℕ) (xs : List Msg) (m : Msg) (ys : List Msg) → IsTied on back from (xs ++ m ∷ ys) → on (Some m.head) ≡ begin_of ys
tied-next on back from [] m ys t = (tied-seam on back (Some m.head) [] ys t.1.1).0
tied-next on back from (w ∷ xs) m ys t = tied-next on back (Some w.head) xs m ys t.1.1

-- the first and the last message of a list, by the steps from its outside
pub record Last (q : List Msg) : Type 0 where
  pub front : List Msg
  pub last : Msg
  pub joined : q ≡ front ++ last ∷ []
  pub place : end_of None q ≡ Some last.head

pub last-of : (m : Msg) (q : List Msg) → Last (m ∷ q)
last-of m [] = record { front = []; last = m; joined = refl; place = refl }
last-of m (w ∷ q) = let r = last-of w q in record { front = m ∷ r.front; last = r.last; joined = ap (λ xs. m ∷ xs) r.joined; place = r.place }

tied-begin : (on back : Step) (from : Option ℕ) (q : List Msg) → IsTied on back from q → on from ≡ begin_of q
tied-begin on back from [] t = t.0
tied-begin on back from (m ∷ q) t = t.0

tied-end : (on back : Step) (from : Option ℕ) (q : List Msg) → IsTied on back from q → back None ≡ end_of from q
tied-end on back from [] t = t.1
tied-end on back from (m ∷ q) t = tied-end on back (Some m.head) q t.1.1

pub no-first : (q : List Msg) → begin_of q ≡ None → q ≡ []
no-first [] e = refl
no-first (m ∷ q) e = absurd (some-none m.head e)

pub no-last : (q : List Msg) → end_of None q ≡ None → q ≡ []
no-last [] e = refl
no-last (m ∷ q) e = let r = last-of m q in absurd (some-none r.last.head (sym r.place ∙ e))

pub a-first : (q : List Msg) (i : ℕ) → begin_of q ≡ Some i → (m : Msg) × ((ys : List Msg) × ((q ≡ m ∷ ys) × (m.head ≡ i)))
a-first [] i e = absurd (some-none i (sym e))
a-first (m ∷ q) i e = (m, (q, (refl, some-same m.head i e)))

pub a-last : (q : List Msg) (i : ℕ) → end_of None q ≡ Some i → (xs : List Msg) × ((m : Msg) × ((q ≡ xs ++ m ∷ []) × (m.head ≡ i)))
a-last [] i e = absurd (some-none i (sym e))
a-last (m ∷ q) i e = let r = last-of m q in (r.front, (r.last, (r.joined, some-same r.last.head i (sym r.place ∙ e))))

module _ (on back on' back' : Step) where
  -- steps that are the same at each message of a list
  pub tied-same : (from : Option ℕ) (q : List Msg) → on' from ≡ on from → back' None ≡ back None → ((i : ℕ) → 0 < heads i q → on' (Some i) ≡ on (Some i)) → ((i : ℕ) → 0 < heads i q → back' (Some i) ≡ back (Some i))
      → IsTied on back from q → IsTied on' back' from q
  tied-same from [] here end ons backs t = (here ∙ t.0, end ∙ t.1)
  tied-same from (m ∷ q) here end ons backs t =
      let some : 0 < heads m.head (m ∷ q) = (let c = heads-cons m.head m q in grind (arith, nat_tests)) in
      let more : (i : ℕ) → 0 < heads i q → 0 < heads i (m ∷ q) = λ i s. (let c = heads-cons i m q in omega arith) in
      (here ∙ t.0, (backs m.head some ∙ t.1.0, tied-same (Some m.head) q (ons m.head some) end (λ i s. ons i (more i s)) (λ i s. backs i (more i s)) t.1.1))

  -- a message between others
  pub tied-in : (x : Msg) (from : Option ℕ) (xs ys : List Msg)
      → on' (end_of from xs) ≡ Some x.head → back' (Some x.head) ≡ end_of from xs → on' (Some x.head) ≡ begin_of ys → back' (begin_of ys) ≡ Some x.head
      → ((p : Option ℕ) → p ≢ end_of from xs → p ≢ Some x.head → on' p ≡ on p) → ((p : Option ℕ) → p ≢ begin_of ys → p ≢ Some x.head → back' p ≡ back p)
      → ((i : ℕ) → heads i (xs ++ ys) ≤ 1) → times_at from (xs ++ ys) ≡ 0 → heads x.head (xs ++ ys) ≡ 0 → from ≢ Some x.head
      → IsTied on back from (xs ++ ys) → IsTied on' back' from (xs ++ x ∷ ys)
  tied-in x from [] [] on_end back_x on_x back_b on_else back_else once off off_x apart t = (on_end, (back_x, (on_x, back_b)))
  tied-in x from [] (y ∷ ys) on_end back_x on_x back_b on_else back_else once off off_x apart t =
      let first = once-first y ys once in (
        on_end,
        (
          back_x,
          (
            on_x,
            (
              back_b,
              tied-same (Some y.head) ys
                  (on_else (Some y.head) (off-first from y ys off) (off-first (Some x.head) y ys off_x))
                  (back_else None (λ e. some-none y.head (sym e)) (λ e. some-none x.head (sym e)))
                  (λ i s. on_else (Some i) (off-member from ys (off-rest from y ys off) i s) (off-member (Some x.head) ys (off-rest (Some x.head) y ys off_x) i s))
                  (λ i s. back_else (Some i) (off-member (Some y.head) ys first i s) (off-member (Some x.head) ys (off-rest (Some x.head) y ys off_x) i s))
                  t.1.1,
            ),
          ),
        ),
      )
  tied-in x from (w ∷ xs) ys on_end back_x on_x back_b on_else back_else once off off_x apart t =
      let first = once-first w (xs ++ ys) once in
      let later = off-rest from w (xs ++ ys) off in
      let front : times_at from xs ≡ 0 = off-front from xs ys later in
      let beyond : heads w.head ys ≡ 0 = (let h = heads-append w.head xs ys in omega arith) in (
        on_else from (λ e. off-end (Some w.head) from xs (off-first from w (xs ++ ys) off) front (sym e)) apart ∙ t.0,
        (
          back_else (Some w.head) (off-begin w.head ys beyond) (off-first (Some x.head) w (xs ++ ys) off_x) ∙ t.1.0,
          tied-in x (Some w.head) xs ys on_end back_x on_x back_b on_else back_else (once-rest w (xs ++ ys) once) first (off-rest (Some x.head) w (xs ++ ys) off_x) (off-first (Some x.head) w (xs ++ ys) off_x) t.1.1,
        ),
      )

  -- others without a message between them
  pub tied-out : (m : Msg) (from : Option ℕ) (xs ys : List Msg)
      → on' (end_of from xs) ≡ begin_of ys → back' (begin_of ys) ≡ end_of from xs
      → ((p : Option ℕ) → p ≢ end_of from xs → on' p ≡ on p) → ((p : Option ℕ) → p ≢ begin_of ys → back' p ≡ back p)
      → ((i : ℕ) → heads i (xs ++ m ∷ ys) ≤ 1) → times_at from (xs ++ m ∷ ys) ≡ 0
      → IsTied on back from (xs ++ m ∷ ys) → IsTied on' back' from (xs ++ ys)
  tied-out m from [] [] on_end back_b on_else back_else once off t = (on_end, back_b)
  tied-out m from [] (y ∷ ys) on_end back_b on_else back_else once off t =
      let later = off-rest from m (y ∷ ys) off in
      let first = once-first y ys (once-rest m (y ∷ ys) once) in (
        on_end,
        (
          back_b,
          tied-same (Some y.head) ys
              (on_else (Some y.head) (off-first from y ys later))
              (back_else None (λ e. some-none y.head (sym e)))
              (λ i s. on_else (Some i) (off-member from ys (off-rest from y ys later) i s))
              (λ i s. back_else (Some i) (off-member (Some y.head) ys first i s))
              t.1.1.1.1,
        ),
      )
  tied-out m from (w ∷ xs) ys on_end back_b on_else back_else once off t =
      let first = once-first w (xs ++ m ∷ ys) once in
      let later = off-rest from w (xs ++ m ∷ ys) off in
      let front : times_at from xs ≡ 0 = off-front from xs (m ∷ ys) later in
      let beyond : heads w.head ys ≡ 0 = (let h = heads-append w.head xs (m ∷ ys) in let c = heads-cons w.head m ys in omega arith) in (
        on_else from (λ e. off-end (Some w.head) from xs (off-first from w (xs ++ m ∷ ys) off) front (sym e)) ∙ t.0,
        (
          back_else (Some w.head) (off-begin w.head ys beyond) ∙ t.1.0,
          tied-out m (Some w.head) xs ys on_end back_b on_else back_else (once-rest w (xs ++ m ∷ ys) once) first t.1.1,
        ),
      )

-- the links of a list
module _ (v : Nodes) (e : Ends) where
  abbrev ons : Step
  ons = on v.mat (ahead_of v.rows) e

  abbrev backs : Step
  backs = back v.mat (behind_of v.rows) e

  pub list-begin : (q : List Msg) → IsList v e q → on v.mat (ahead_of v.rows) e None ≡ begin_of q
  list-begin q t = tied-begin ons backs None q t

  pub list-end : (q : List Msg) → IsList v e q → back v.mat (behind_of v.rows) e None ≡ end_of None q
  list-end q t = tied-end ons backs None q t

  pub list-on : (xs ys : List Msg) → IsList v e (xs ++ ys) → on v.mat (ahead_of v.rows) e (end_of None xs) ≡ begin_of ys
  list-on xs ys t = (tied-seam ons backs None xs ys t).0

  pub list-back : (xs ys : List Msg) → IsList v e (xs ++ ys) → back v.mat (behind_of v.rows) e (begin_of ys) ≡ end_of None xs
  list-back xs ys t = (tied-seam ons backs None xs ys t).1

  pub list-behind : (xs : List Msg) (m : Msg) (ys : List Msg) → IsList v e (xs ++ m ∷ ys) → behind_of v.rows m.head ≡ end_of None xs
  list-behind xs m ys t = (tied-seam ons backs None xs (m ∷ ys) t).1

  pub list-ahead : (xs : List Msg) (m : Msg) (ys : List Msg) → IsList v e (xs ++ m ∷ ys) → ahead_of v.rows m.head ≡ begin_of ys
  list-ahead xs m ys t = tied-next ons backs None xs m ys t
