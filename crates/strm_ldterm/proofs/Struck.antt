-- A key that has begun, and its echo.
use Rattle.strm_ldterm.proofs.Prelude.{ℕ, ◌≡◌, ◌≤◌, ◌+◌, Bool, true, false, cond, List, [], ◌∷◌, ◌++◌, length, refl, sym, ap, subst, ◌∙◌, arith}
use Rattle.strm_ldterm.proofs.Prelude.{false≢true, not, ◌&&◌, is_some, strikes-stay}
use Rattle.strm_ldterm.specs.Prelude.{Key, Stop, Start, Intr, Quit, Susp, Ignored, Eof, Erase, Kill, Werase, Reprint, Lnext, Delimiter, Ordinary}
use Rattle.strm_ldterm.specs.Prelude.{Stroke, Fates, Down, Note, Enable, Spot, plain, cells_made, echo_of, next_stage, stage_at, Between, Begun}
use Rattle.strm_ldterm.specs.Prelude.{Answered, data_message, is_none_left, is_full, put_enables, echo_dir, echo_grows, echo_lost, echo_stands}
use Rattle.strm_ldterm.specs.Prelude.{echoed, is_lnext, strikes, struck, stroke_at, wakes, chunk_count, StoreValue, IsStore, Sent}
use Rattle.std.specs.Prelude.{IsTrue, ◌↔◌}
use Rattle.arrayvec.specs.ArrayVec.{ArrayVec}
use Rattle.strm_types.specs.Cells.{bytes_of}
use Rattle.strm_types.specs.Ldterms as ldterms
use Rattle.strm_types.proofs.PlainCells.{bytes-plain}
use Rattle.strm_ldterm.specs.declared.echoes.TheConstants.{ECHO_MAX}
use Rattle.strm_ldterm.specs.declared.ldterm.Stage.{Stage}
use Rattle.strm_ldterm.specs.declared.ldterm.Stage.TheVariants as stages
use Rattle.strm_ldterm.specs.Does.{Proceeds}
use Rattle.strm_ldterm.specs.Echoes.{MayLeave}
use Rattle.strm_ldterm.specs.Quiet.{is_quiet}
use Rattle.strm_ldterm.specs.Stands.{ldterm_in, stage_in, IsHeld, Paired}
use Rattle.strm_ldterm.specs.Turns.{ahead, one_after, stages_left}
use Rattle.strm_ldterm.proofs.Joining.{sent-ends, nothing-sent, proceeds-joined, to-stage, with-notes, from-other, takes-more}
use Rattle.strm_ldterm.proofs.Turning.{Acts, ahead-one, ahead-two}

-- it fits as before whether the next byte stands behind LNEXT or not
pub held-lnext : (s : StoreValue) (x : Paired) (after : Bool) → IsHeld s x → IsHeld s (record x { after_lnext = after })
held-lnext s x after h = record { read = h.read; write = h.write; apart = h.apart; work = h.work; gathers = h.gathers; echoes = h.echoes; once_each = h.once_each }

-- an echo takes few blocks
pub echo-chunks : (n : ℕ) → n ≤ ECHO_MAX → chunk_count n ≤ 24
unfolding chunk_count
echo-chunks n few = omega arith

-- a key leaves a message in work
pub strikes-work : (here : Spot) (key : Key) (c : ℕ) (p : ldterms.Discipline ℕ) → is_some (strikes plain here key c p).state.in_work ≡ is_some p.in_work
strikes-work here key c p = ap is_some (strikes-stay plain here (λ (q : ldterms.Discipline ℕ). q.in_work ≡ p.in_work) (λ q stopped line gathered holds. holds) key c p refl)

-- what a key leaves of the line, as far as its echo depends on it
pub may-leave : (here : Spot) (key : Key) (c : ℕ) (p : ldterms.Discipline ℕ) (line : List ℕ) → line ≡ (strikes plain here key c p).state.line → MayLeave key p.line line
may-leave here Erase c p line is = is
may-leave here Werase c p line is = is
may-leave here Reprint c p line is = is
may-leave here Stop c p line is = tt
may-leave here Start c p line is = tt
may-leave here Intr c p line is = tt
may-leave here Quit c p line is = tt
may-leave here Susp c p line is = tt
may-leave here Ignored c p line is = tt
may-leave here Eof c p line is = tt
may-leave here Kill c p line is = tt
may-leave here Lnext c p line is = tt
may-leave here Delimiter c p line is = tt
may-leave here Ordinary c p line is = tt

module _ (here : Spot) (started : Bool) (byte : ℕ) (p : ldterms.Discipline ℕ) where
  -- what a stroke does, without its echo, and with it
  abbrev pub key_does : Stroke → Acts
  key_does stroke = strikes plain here stroke.key stroke.byte (record p { after_lnext = is_lnext stroke.key })

  abbrev echo_from : Stroke → List ℕ
  echo_from stroke = echo_of p.termios (bytes_of plain p.line) (bytes_of plain (key_does stroke).state.line) stroke

  abbrev struck_by : Stroke → Acts
  struck_by stroke = record (key_does stroke) { state = record (key_does stroke).state { stage = Answered (echo_from stroke) }; notes = wakes plain here started p }

  -- a key whose echo is known, and that sends nothing
  pub struck-echoed : (stroke : Stroke) (notes : List Note) (bytes : List ℕ) → stroke ≡ stroke_at plain here byte p → notes ≡ wakes plain here started p → is_none_left (key_does stroke).sent ≡ true
      → bytes ≡ echo_of p.termios p.line (key_does stroke).state.line stroke
      → one_after (record (key_does stroke) { state = record (key_does stroke).state { stage = Between }; notes = notes }) (echoed plain here 0 bytes) ≡ one_after (struck plain here started byte p) (next_stage plain here 0)
  struck-echoed stroke notes bytes same noted none echo =
      let t = key_does stroke in
      let joined : List Note → Acts → Acts = λ ns u. record { state = u.state; notes = ns ++ u.notes; sent = u.sent; gone = t.gone ++ u.gone } in
      let q = record t.state { stage = Between } in
      let is : bytes ≡ echo_from stroke = echo ∙ ap (λ line. echo_of p.termios line t.state.line stroke) (sym (bytes-plain p.line)) ∙ ap (λ line. echo_of p.termios (bytes_of plain p.line) line stroke) (sym (bytes-plain t.state.line)) in
      ap (λ v. cond {A = Acts} v (joined notes (echoed plain here 0 bytes q)) (record t { state = q; notes = notes })) none
      ∙ ap (λ ns. joined ns (echoed plain here 0 bytes q)) noted
      ∙ ap (λ bs. joined (wakes plain here started p) (echoed plain here 0 bs q)) is
      ∙ sym (ap (λ v. cond {A = Acts} v (joined (wakes plain here started p) (echoed plain here 0 (echo_from stroke) q)) (struck_by stroke)) none)
      ∙ ap (λ st. one_after (struck_by st) (next_stage plain here 0)) same

  -- a key that may send something, whose echo is still to come
  pub struck-answered : (stroke : Stroke) (notes : List Note) (bytes : List ℕ) → stroke ≡ stroke_at plain here byte p → notes ≡ wakes plain here started p → is_lnext stroke.key ≡ false
      → ((before after : List ℕ) → bytes ≡ echo_of p.termios before after stroke)
      → (let t = strikes plain here stroke.key stroke.byte (record p { after_lnext = false }) in record t { state = record t.state { stage = Answered bytes }; notes = notes }) ≡ struck plain here started byte p
  struck-answered stroke notes bytes same noted quiet echo =
      let t : Bool → Acts = λ v. strikes plain here stroke.key stroke.byte (record p { after_lnext = v }) in
      ap (λ v. record (t v) { state = record (t v).state { stage = Answered bytes }; notes = notes }) (sym quiet)
      ∙ ap (λ ns. record (key_does stroke) { state = record (key_does stroke).state { stage = Answered bytes }; notes = ns }) noted
      ∙ ap (λ bs. record (key_does stroke) { state = record (key_does stroke).state { stage = Answered bs }; notes = wakes plain here started p }) (echo (bytes_of plain p.line) (bytes_of plain (key_does stroke).state.line))
      ∙ ap struck_by same

-- no more than one note each
pub wakes-short : (here : Spot) (started : Bool) (p : ldterms.Discipline ℕ) → length (wakes plain here started p) ≤ 1
wakes-short here started p = at (started && not (is_none_left p.write_queue.messages))
  where
    at : (v : Bool) → length (cond {A = List Note} v (Enable Down ∷ []) []) ≤ 1
    at true = omega arith
    at false = omega arith

pub echoed-short : (here : Spot) (bytes : List ℕ) (p : ldterms.Discipline ℕ) → length (echoed plain here 0 bytes p).notes ≤ 1
echoed-short here [] p = omega arith
echoed-short here (b ∷ bytes) p = at (is_full 0 p.write_queue) p.echoing
  where
    new : List ℕ
    new = cells_made plain (echo_dir plain here) 0 (b ∷ bytes)

    stands : (v : Bool) → length (cond {A = List Note} v (Enable Down ∷ []) []) ≤ 1
    stands true = omega arith
    stands false = omega arith

    at : (full echoing : Bool) → length (cond full (echo_lost plain here new p) (cond echoing (echo_grows plain here new p) (echo_stands plain here new p))).notes ≤ 1
    at true echoing = omega arith
    at false true = omega arith
    at false false = stands (put_enables (data_message new) p.write_queue)

-- LNEXT sends nothing
pub not-lnext : (key : Key) → is_quiet key ≡ false → is_lnext key ≡ false
not-lnext Stop e = refl
not-lnext Start e = refl
not-lnext Intr e = refl
not-lnext Quit e = refl
not-lnext Susp e = refl
not-lnext Ignored e = refl
not-lnext Eof e = refl
not-lnext Erase e = refl
not-lnext Kill e = refl
not-lnext Werase e = refl
not-lnext Reprint e = refl
not-lnext Lnext e = absurd (false≢true (sym e))
not-lnext Delimiter e = refl
not-lnext Ordinary e = refl

module _ (s s2 : StoreValue) (x x2 : Paired) (here : Spot) (started : Bool) (byte : ℕ) (stroke : Stroke) (woken : List Note) (t t2 : Fates)
    (same : stroke ≡ stroke_at plain here byte (ldterm_in s x)) (wake : woken ≡ wakes plain here started (ldterm_in s x)) where
  abbrev p : ldterms.Discipline ℕ
  p = ldterm_in s x

  pub quiet-proceeds : (s3 : StoreValue) (x4 : Paired) (lnext : Bool) (notes : List Note) (bytes : List ℕ) (n : ℕ) (t3 : Fates) → IsStore s2 → lnext ≡ is_lnext stroke.key
      → bytes ≡ echo_of x.termios x.line x2.line stroke
      → Proceeds s s2 (record x { after_lnext = lnext }) x2 1 [] [] t t2 (strikes plain here stroke.key stroke.byte (record p { after_lnext = lnext }))
      → Proceeds s2 s3 (record x2 { stage = stages.Between }) x4 n notes [] t2 t3 (echoed plain here 0 bytes (ldterm_in s2 (record x2 { stage = stages.Between })))
      → n ≤ 24 → Proceeds s s3 x x4 25 (woken ++ notes) [] t t3 (one_after (struck plain here started byte p) (next_stage plain here 0))
  quiet-proceeds s3 x4 lnext notes bytes n t3 st next echo a b few =
      let key = key_does here started byte p stroke in
      let does : Proceeds s s2 x x2 1 [] [] t t2 key =
      subst (λ v. Proceeds s s2 x x2 1 [] [] t t2 (strikes plain here stroke.key stroke.byte (record p { after_lnext = v }))) next
      (from-other s s2 x x2 1 [] [] t t2 (strikes plain here stroke.key stroke.byte (record p { after_lnext = lnext })) lnext x.stage a) in
      let none = nothing-sent s s2 x x2 1 [] t t2 key st does in
      let is2 : Acts = record key { state = record key.state { stage = Between }; notes = woken } in
      let staged : Proceeds s s2 x (record x2 { stage = stages.Between }) 1 woken [] t t2 is2 =
      with-notes s s2 x (record x2 { stage = stages.Between }) 1 [] [] t t2 (record key { state = record key.state { stage = Between } }) woken
      (to-stage s s2 x x2 1 [] [] t t2 key stages.Between does) in
      let line : x2.line ≡ key.state.line = ap (λ (q : ldterms.Discipline ℕ). q.line) does.state in
      takes-more s s3 x x4 (1 + n) 25 (woken ++ notes) [] t t3 (one_after (struck plain here started byte p) (next_stage plain here 0)) (omega arith)
      (subst (Proceeds s s3 x x4 (1 + n) (woken ++ notes) [] t t3)
      (struck-echoed here started byte p stroke woken bytes same wake none (echo ∙ ap (λ l. echo_of x.termios x.line l stroke) line))
      (proceeds-joined s s2 x (record x2 { stage = stages.Between }) 1 woken t t2 is2 st staged s3 x4 n notes [] t3 (echoed plain here 0 bytes) b))

  pub sent-proceeds : (sent : List Sent) (echo : ArrayVec ℕ) → is_quiet stroke.key ≡ false → ((before after : List ℕ) → echo.items ≡ echo_of x.termios before after stroke)
      → Proceeds s s2 (record x { after_lnext = false }) x2 2 [] sent t t2 (strikes plain here stroke.key stroke.byte (record p { after_lnext = false }))
      → Proceeds s s2 x (record x2 { stage = stages.Answered echo }) 2 woken sent t t2 (struck plain here started byte p)
  sent-proceeds sent echo loud echoes a =
      let is = strikes plain here stroke.key stroke.byte (record p { after_lnext = false }) in
      subst (Proceeds s s2 x (record x2 { stage = stages.Answered echo }) 2 woken sent t t2)
      (struck-answered here started byte p stroke woken echo.items same wake (not-lnext stroke.key loud) echoes)
      (with-notes s s2 x (record x2 { stage = stages.Answered echo }) 2 [] sent t t2 (record is { state = record is.state { stage = Answered echo.items } }) woken
      (to-stage s s2 x x2 2 [] sent t t2 is (stages.Answered echo)
      (from-other s s2 x x2 2 [] sent t t2 is false x.stage a)))

-- and so both of them have room in one array
pub join-room : (a b a' b' : List Note) → a ≡ a' → b ≡ b' → length a' ≤ 1 → length b' ≤ 1 → length a + length b ≤ 4
join-room a b a' b' ea eb la lb = let fa = ap length ea in let fb = ap length eb in omega arith

-- the echo of a key that has sent something
pub short-chunk : (n : ℕ) → n ≤ 3 → chunk_count n ≤ 1
unfolding chunk_count
short-chunk n few = omega arith

pub answer-proceeds : (s s' : StoreValue) (x x' : Paired) (here : Spot) (echo : ArrayVec ℕ) (dest : Stage) (bytes : List ℕ) (n : ℕ) (notes : List Note) (t t' : Fates)
    → x.stage ≡ stages.Answered echo → dest ≡ stages.Between → bytes ≡ echo.items → n ≤ 1
    → Proceeds s s' (record x { stage = dest }) x' n notes [] t t' (echoed plain here 0 bytes (ldterm_in s (record x { stage = dest })))
    → Proceeds s s' x x' 1 notes [] t t' (next_stage plain here 0 (ldterm_in s x))
answer-proceeds s s' x x' here echo dest bytes n notes t t' is between same few a =
    let p = ldterm_in s x in
    takes-more s s' x x' n 1 notes [] t t' (next_stage plain here 0 p) few
    (subst (Proceeds s s' x x' n notes [] t t')
    (ap (λ bs. echoed plain here 0 bs (record p { stage = stage_in dest })) same
    ∙ ap (λ (d : Stage). echoed plain here 0 echo.items (record p { stage = stage_in d })) between
    ∙ sym (ap (λ (st : Stage). stage_at plain here (stage_in st) 0 p) is))
    (from-other s s' x x' n notes [] t t' (echoed plain here 0 bytes (record p { stage = stage_in dest })) x.after_lnext dest a))

pub next-short : (here : Spot) (p : ldterms.Discipline ℕ) → stages_left p.stage ≡ 1 → length (next_stage plain here 0 p).notes ≤ 1
next-short here p one = at p.stage one
  where
    at : (stage : ldterms.Stage ℕ) → stages_left stage ≡ 1 → length (stage_at plain here stage 0 p).notes ≤ 1
    at Between e = absurd (omega arith)
    at (Begun started c) e = absurd (omega arith)
    at (Answered echo) e = echoed-short here echo (record p { stage = Between })

module _ (s s2 : StoreValue) (x x2 : Paired) (woken : List Note) (sent : List Sent) (t t2 : Fates) (is : Acts)
    (a : Proceeds s s2 x x2 2 woken sent t t2 is) (next : ldterms.Discipline ℕ → Acts) where
  -- a key that has sent nothing after all is echoed
  pub then-answers : (s3 : StoreValue) (x3 : Paired) (notes : List Note) (t3 : Fates) → IsStore s2 → sent ≡ [] → Proceeds s2 s3 x2 x3 1 notes [] t2 t3 (next (ldterm_in s2 x2))
      → Proceeds s s3 x x3 26 (woken ++ notes) sent t t3 (one_after is next)
  then-answers s3 x3 notes t3 st none b =
      subst (λ out. Proceeds s s3 x x3 26 (woken ++ notes) out t t3 (one_after is next)) (sym none)
      (takes-more s s3 x x3 3 26 (woken ++ notes) [] t t3 (one_after is next) (omega arith)
      (proceeds-joined s s2 x x2 2 woken t t2 is st (subst (λ out. Proceeds s s2 x x2 2 woken out t t2 is) none a) s3 x3 1 notes [] t3 next b))

  -- one that has sent something isn't yet
  pub sends-first : is_none_left sent ≡ false → Proceeds s s2 x x2 26 woken sent t t2 (one_after is next)
  sends-first some = takes-more s s2 x x2 2 26 woken sent t t2 (one_after is next) (omega arith) (sent-ends s s2 x x2 2 woken t t2 is sent next some a)

pub some-left : {A : Type 0} (xs : List A) (v : Bool) → v ≡ false → (IsTrue v ↔ (xs ≡ [])) → is_none_left xs ≡ false
some-left [] v e iff = absurd (false≢true (sym e ∙ iff.1 refl))
some-left (x ∷ xs) v e iff = refl

-- what is left of a byte
pub begun-ahead : (here : Spot) (p : ldterms.Discipline ℕ) (started : Bool) (byte : ℕ) → p.stage ≡ Begun started byte → one_after (struck plain here started byte p) (next_stage plain here 0) ≡ ahead here (stages_left p.stage) p
begun-ahead here p started byte is =
    ap (λ st. one_after (stage_at plain here st 0 p) (next_stage plain here 0)) (sym is)
    ∙ sym (ahead-two here p)
    ∙ ap (λ n. ahead here n p) (sym (ap stages_left is))

pub answered-ahead : (here : Spot) (p : ldterms.Discipline ℕ) → stages_left p.stage ≡ 1 → next_stage plain here 0 p ≡ ahead here (stages_left p.stage) p
answered-ahead here p one = sym (ahead-one here p) ∙ ap (λ n. ahead here n p) (sym one)
