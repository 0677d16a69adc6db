-- Runs of plain bytes on a store.
use Rattle.strm_ldterm.proofs.Prelude.{ℕ, ◌≡◌, ◌≤◌, ◌<◌, ◌+◌, ◌*◌, Bool, true, false, cond, List, [], ◌∷◌, ◌++◌, length, drop, refl, sym, ap, subst}
use Rattle.strm_ldterm.proofs.Prelude.{◌∙◌, arith, length-append, Option, None, Some, is_some, option_map, slice_index_or}
use Rattle.strm_ldterm.specs.Prelude.{STOP_BLOCKS, Fates, Note, Spot, Termios, LINE_MAX, cells_left, left_of, with_left, sends, Message, echo, icanon}
use Rattle.strm_ldterm.specs.Prelude.{echo_grows, echo_stands, plain, StoreValue, IsStore, HasRoom, InHand}
use Rattle.std.specs.List.{AllByRecursion}
use Rattle.strm_types.specs.Ldterms as ldterms
use Rattle.strm_ldterm.specs.Does.{Proceeds}
use Rattle.strm_ldterm.specs.FreeBefore.{blocks_grown}
use Rattle.strm_ldterm.specs.PlainRuns.{MayRun, is_plain, run_echoed, typed_run}
use Rattle.strm_ldterm.specs.Stands.{IsHeld, ldterm_in, stage_in, Paired}
use Rattle.strm_ldterm.specs.Turns.{ahead, bytes_on, stages_left}
use Rattle.strm_ldterm.proofs.Begun.{busy-all, idle-cells, idle-left}
use Rattle.strm_ldterm.proofs.Bytes.{still-works}
use Rattle.strm_ldterm.proofs.FreeBefore.{free-on, room-for}
use Rattle.strm_ldterm.proofs.Joining.{proceeds-joined, takes-more}
use Rattle.strm_ldterm.proofs.PlainRuns.{Runs, done-as, run-blocks, runs-done}
use Rattle.strm_ldterm.proofs.Treated.{none-under-way}

-- bytes that aren't marked are plain
pub all-plain : (t : Termios) (odd : List Bool) (run : List ℕ) → ((b : ℕ) → slice_index_or odd b true ≡ false → is_plain t b ≡ true) → AllByRecursion (λ b. slice_index_or odd b true ≡ false) run
    → AllByRecursion (λ b. is_plain t b ≡ true) run
all-plain t odd [] is all = tt
all-plain t odd (b ∷ run) is all = (is b all.0, all-plain t odd run is all.1)

-- fewer bytes may be treated at once too
pub may-fewer : (p : ldterms.Discipline ℕ) (m n : ℕ) → n ≤ m → MayRun m p → MayRun n p
may-fewer p m n few may = record {
  running = may.running;
  free = may.free;
  line = λ v. let l = may.line v in omega arith;
  room = λ v. let l = may.room v in omega arith;
}

-- by the mode
pub typed-lines : (p : ldterms.Discipline ℕ) (run : List ℕ) → icanon p.termios ≡ true → sends [] (typed_run run p) ≡ sends [] (record p { line = p.line ++ run })
typed-lines p run lines = rw lines refl

pub typed-raw : (p : ldterms.Discipline ℕ) (run : List ℕ) → icanon p.termios ≡ false → sends [] (typed_run run p) ≡ sends [] (record p { gathered = p.gathered ++ run })
typed-raw p run raw = rw raw refl

-- a run isn't longer than what it is the front of
pub front-short : (run cells : List ℕ) → cells ≡ run ++ drop (length run) cells → length run ≤ length cells
front-short run cells is = let l = ap length is ∙ length-append run (drop (length run) cells) in omega arith

-- and under ECHO
module _ (here : Spot) (p : ldterms.Discipline ℕ) (run : List ℕ) where
  pub unechoed : echo p.termios ≡ false → run_echoed here run p ≡ sends [] p
  unechoed quiet = rw quiet refl

  pub echoed-so : echo p.termios ≡ true → run_echoed here run p ≡ cond p.echoing (echo_grows plain here run p) (echo_stands plain here run p)
  echoed-so loud = rw loud refl

-- where a byte is left, a message is in work
pub left-works : (s : StoreValue) (x : Paired) → 0 < length (cells_left (ldterm_in s x)) → is_some x.in_work ≡ true
left-works s x some = at x.in_work refl
  where
    at : (o : Option InHand) → x.in_work ≡ o → is_some o ≡ true
    at (Some m) there = refl
    at None there = let none = ap length (idle-cells s x there) in absurd (omega arith)

-- and so there is behind a run that was taken and typed
left-there : (rest : List ℕ) (o : Option (Message ℕ)) → is_some (option_map (left_of rest) o) ≡ is_some o
left-there rest None = refl
left-there rest (Some m) = refl

typed-work : (run : List ℕ) (p : ldterms.Discipline ℕ) → is_some (typed_run run p).in_work ≡ is_some p.in_work
typed-work run p =
    elim (icanon p.termios) as (λ v. is_some (cond {A = ldterms.Discipline ℕ} v (record p { line = p.line ++ run }) (record p { gathered = p.gathered ++ run })).in_work ≡ is_some p.in_work) [ true ↦ refl | false ↦ refl ]

pub run-works : (s s1 s2 : StoreValue) (x x1 x2 : Paired) (run typed : List ℕ) (t : Fates) → Proceeds s s1 x x1 0 [] [] t t (sends [] (with_left (drop (length run) (cells_left (ldterm_in s x))) (ldterm_in s x)))
    → Proceeds s1 s2 x1 x2 1 [] [] t t (sends [] (typed_run typed (ldterm_in s1 x1))) → is_some x.in_work ≡ true → is_some x2.in_work ≡ true
run-works s s1 s2 x x1 x2 run typed t front behind busy =
    let left = drop (length run) (cells_left (ldterm_in s x)) in
    still-works s1 s2 x1 x2 (typed_run typed (ldterm_in s1 x1)) behind.state (typed-work typed (ldterm_in s1 x1))
    (still-works s s1 x x1 (with_left left (ldterm_in s x)) front.state (left-there left (ldterm_in s x).in_work) busy)

-- where no byte is taken, all is left
pub left-whole : (s : StoreValue) (x : Paired) → IsHeld s x → with_left (cells_left (ldterm_in s x)) (ldterm_in s x) ≡ ldterm_in s x
left-whole s x held = at x.in_work refl
  where
    at : (o : Option InHand) → x.in_work ≡ o → with_left (cells_left (ldterm_in s x)) (ldterm_in s x) ≡ ldterm_in s x
    at None there = idle-left s x there (cells_left (ldterm_in s x))
    at (Some m) there = busy-all s x m there held

-- bytes that may be treated at once
module _ (s : StoreValue) (x : Paired) (run : List ℕ) (most : ℕ) (held : IsHeld s x) (stage : stages_left (stage_in x.stage) ≡ 0) (few : length run ≤ most)
    (is : cells_left (ldterm_in s x) ≡ run ++ drop (length run) (cells_left (ldterm_in s x))) (all : AllByRecursion (λ b. is_plain x.termios b ≡ true) run) (may : MayRun most (ldterm_in s x)) where
  abbrev from : ldterms.Discipline ℕ
  from = ldterm_in s x

  runs-from : 0 < length run → Runs (icanon from.termios) (echo from.termios) run (drop (length run) (cells_left from)) from
  runs-from some =
      let fits = may-fewer from most (length run) few may in
      record {
        canonical = refl;
        under = refl;
        between = none-under-way from.stage stage;
        running = fits.running;
        free = fits.free;
        front = is;
        all = all;
        line = fits.line;
        room = fits.room;
        last = λ v. held.echoes v (left-works s x (let l = front-short run (cells_left from) is in omega arith));
      }

  -- each of them begins with blocks enough
  pub run-begun : (here : Spot) → length run ≤ 256 → HasRoom s (STOP_BLOCKS + 2) → (byte : ℕ) → byte < length run → HasRoom s (STOP_BLOCKS + blocks_grown from (bytes_on here byte from).state)
  run-begun here short room byte within =
      free-on here s from stage byte
      (room-for s (blocks_grown from (ahead here (3 * byte) from).state) room (run-blocks here (icanon from.termios) (echo from.termios) run (drop (length run) (cells_left from)) from byte (runs-from (omega arith)) short (omega arith)))

module _ (s s1 : StoreValue) (x x1 : Paired) (here : Spot) (run : List ℕ) (t : Fates) (held : IsHeld s x)
    (front : Proceeds s s1 x x1 0 [] [] t t (sends [] (with_left (drop (length run) (cells_left (ldterm_in s x))) (ldterm_in s x)))) where
  abbrev p : ldterms.Discipline ℕ
  p = ldterm_in s x

  -- no byte is plain
  pub no-run : (notes : List Note) → run ≡ [] → notes ≡ [] → Proceeds s s1 x x1 2 notes [] t t (ahead here 0 p)
  no-run notes none quiet =
      subst (λ ns. Proceeds s s1 x x1 2 ns [] t t (sends [] p)) (sym quiet)
      (takes-more s s1 x x1 0 2 [] [] t t (sends [] p) (omega arith)
      (subst (λ (q : ldterms.Discipline ℕ). Proceeds s s1 x x1 0 [] [] t t (sends [] q)) (ap (λ l. with_left (drop (length l) (cells_left p)) p) none ∙ left-whole s x held) front))

  -- what it is set to, and its line, are the same
  pub same-termios : x1.termios ≡ x.termios
  same-termios = ap (λ (q : ldterms.Discipline ℕ). q.termios) front.state

  pub same-line : x1.line ≡ x.line
  same-line = ap (λ (q : ldterms.Discipline ℕ). q.line) front.state

  pub line-room : (most : ℕ) → length run ≤ most → MayRun most p → icanon x1.termios ≡ true → length x1.line + length run ≤ LINE_MAX
  line-room most few may is = let l = may.line (ap icanon (sym same-termios) ∙ is) in let e = ap length same-line in omega arith

  module _ (s2 : StoreValue) (x2 : Paired) (st1 : IsStore s1) (typed : Proceeds s1 s2 x1 x2 1 [] [] t t (sends [] (typed_run run (ldterm_in s1 x1)))) where
    pub typed-on : Proceeds s s2 x x2 1 [] [] t t (sends [] (typed_run run (with_left (drop (length run) (cells_left p)) p)))
    typed-on = proceeds-joined s s1 x x1 0 [] t t (sends [] (with_left (drop (length run) (cells_left p)) p)) st1 front s2 x2 1 [] [] t (λ q. sends [] (typed_run run q)) typed

    -- all of a run was done, and so it was treated byte by byte
    pub run-treated : (s3 : StoreValue) (x3 : Paired) (notes : List Note) (t3 : Fates) (most : ℕ) → IsStore s2 → Proceeds s2 s3 x2 x3 1 notes [] t t3 (run_echoed here run (ldterm_in s2 x2))
        → stages_left (stage_in x.stage) ≡ 0 → 0 < length run → length run ≤ most → cells_left p ≡ run ++ drop (length run) (cells_left p) → AllByRecursion (λ b. is_plain x.termios b ≡ true) run → MayRun most p
        → Proceeds s s3 x x3 2 notes [] t t3 (ahead here (3 * length run) p)
    run-treated s3 x3 notes t3 most st2 echoed stage some few is all may =
        let runs = runs-from s x run most held stage few is all may some in
        let same = runs-done here (icanon p.termios) (echo p.termios) run (drop (length run) (cells_left p)) p some runs in
        let did = subst (Proceeds s s3 x x3 2 notes [] t t3) (done-as here (icanon p.termios) (echo p.termios) run p refl refl)
        (proceeds-joined s s2 x x2 1 [] t t (sends [] (typed_run run (with_left (drop (length run) (cells_left p)) p))) st2 typed-on s3 x3 1 notes [] t3 (run_echoed here run) echoed) in
        record {
          state = did.state ∙ sym same.state;
          noted = did.noted ∙ sym same.notes;
          parcels = did.parcels ∙ sym same.sent;
          told = did.told ∙ sym (same.told t);
          held = did.held;
          own = did.own;
          chains = did.chains;
          hands = did.hands;
          mblks = did.mblks;
          dblks = did.dblks;
          pool = did.pool;
        }
