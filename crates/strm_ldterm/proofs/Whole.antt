-- What is left of the message in work goes up as it is: as if its bytes were treated one after the other.
use Rattle.strm_ldterm.proofs.Prelude.{ℕ, zero, suc, ◌≡◌, ◌≤◌, ◌<◌, ◌+◌, ◌*◌, Bool, true, false, cond, List, [], ◌∷◌, ◌++◌, length, drop, take, refl}
use Rattle.strm_ldterm.proofs.Prelude.{sym, ap, subst, ◌∙◌, arith, append-nil, length-append, length-drop, length-take, false≢true, None, Option}
use Rattle.strm_ldterm.proofs.Prelude.{Some, option_map}
use Rattle.strm_ldterm.specs.Prelude.{STOP_BLOCKS, Up, Fates, Note, Spot, plain, Parcel, tallied, onward, back_on, cells_left, finished, left_of}
use Rattle.strm_ldterm.specs.Prelude.{to_treat, treats, Between, sends, Message, data_message, is_none_left, echo, gathered_up, StoreValue, Outbox}
use Rattle.strm_ldterm.specs.Prelude.{Sent, Served, HasRoom, sent_of}
use Rattle.std.specs.List.{AllByRecursion}
use Rattle.arrayvec.specs.ArrayVec.{ArrayVec}
use Rattle.strm_types.specs.Ldterms as ldterms
use Rattle.strm_types.specs.Queue as queues
use Rattle.strm_ldterm.specs.Called.{TreatsAs}
use Rattle.strm_ldterm.specs.Does.{Proceeds}
use Rattle.strm_ldterm.specs.FreeBefore.{all_free, blocks_for, blocks_grown, echo_size}
use Rattle.strm_ldterm.specs.Outgone.{data_of}
use Rattle.strm_ldterm.specs.PlainRuns.{MayPass, is_plain}
use Rattle.strm_ldterm.specs.Stands.{IsHeld, ldterm_in, stage_in, Paired}
use Rattle.strm_ldterm.specs.Turns.{ahead, leaves, one_after, stages_left}
use Rattle.strm_ldterm.proofs.Bytes.{all-left, begun-on, none-begun, none-done, ran-none, takes-any}
use Rattle.strm_ldterm.proofs.Calls.{treats-as, treats-ended}
use Rattle.strm_ldterm.proofs.Finished.{back-none, up-some}
use Rattle.strm_ldterm.proofs.FreeBefore.{free-on, grown-none}
use Rattle.strm_ldterm.proofs.Joining.{stays-so}
use Rattle.strm_ldterm.proofs.PlainRuns.{Runs, SameDone, done_as, front-runs, runs-done}
use Rattle.strm_ldterm.proofs.Pouring.{left-cells}
use Rattle.strm_ldterm.proofs.Treated.{none-under-way}
use Rattle.strm_ldterm.proofs.Turning.{Acts}
use Rattle.strm_ldterm.proofs.Unmarked.{raw-plain, raw-quiet, raw-lineless}

pub all-are : (P : ℕ → Type 0) → ((b : ℕ) → P b) → (xs : List ℕ) → AllByRecursion P xs
all-are P is [] = tt
all-are P is (x ∷ xs) = (is x, all-are P is xs)

-- nothing is left of it, and nothing goes back
pub back-nothing : (work : Option (Message ℕ)) (rest : List ℕ) (q : queues.Queue ℕ) → length rest ≡ 0 → back_on (option_map (left_of rest) work) q ≡ q
back-nothing None rest q none = refl
back-nothing (Some m) rest q none = back-none (Some (left_of rest m)) (left_of rest m) q refl (ap length (left-cells rest m) ∙ none)

data-is : (cells : List ℕ) → data_message cells ≡ data_of 0 cells
unfolding data_message
data-is cells = refl

fewer-fill : (n m : ℕ) → n ≤ m → blocks_for n ≤ blocks_for m
fewer-fill n m few = omega arith

-- so many bytes are gathered where none were
pub grown-from-none : (p q : ldterms.Discipline ℕ) (k m : ℕ) → length q.gathered ≡ k → length p.gathered ≡ 0 → echo_size q ≡ echo_size p → k ≤ m → blocks_grown p q ≤ blocks_for m
grown-from-none p q k m long none echo few = omega (arith, fewer-fill k m few, ap blocks_for long, ap blocks_for none, ap blocks_for echo)

-- what a call says in which a message went on itself
pub whole-is : (served : Served) (sent : Outbox) (bytes : ℕ) → served.acts.sent ≡ sent → served.bytes ≡ bytes → served.stopped ≡ false → served.again ≡ false
    → served ≡ record { acts = record { notes = served.acts.notes; sent = sent }; bytes = bytes; stopped = false; again = false }
whole-is served sent bytes goes size on last =
    let with : Outbox → ℕ → Bool → Bool → Served = λ o n stopped again. record { acts = record { notes = served.acts.notes; sent = o }; bytes = n; stopped = stopped; again = again } in
    ap (λ o. with o served.bytes served.stopped served.again) goes ∙ ap (λ n. with sent n served.stopped served.again) size ∙ ap (λ v. with sent bytes v served.again) on ∙ ap (with sent bytes false) last

module _ (here : Spot) (p : ldterms.Discipline ℕ) (between : stages_left p.stage ≡ 0) (may : MayPass p) (some : 0 < length (cells_left p)) where
  abbrev cells : List ℕ
  cells = cells_left p

  abbrev n : ℕ
  n = length cells

  stage : p.stage ≡ Between
  stage = none-under-way p.stage between

  runs : Runs false false cells [] p
  runs = record {
    canonical = raw-lineless p.termios may.raw;
    under = raw-quiet p.termios may.raw;
    between = stage;
    running = may.running;
    free = may.free;
    front = sym (append-nil cells);
    all = all-are (λ b. is_plain p.termios b ≡ true) (λ b. raw-plain p.termios b may.raw) cells;
    line = λ v. absurd (false≢true v);
    room = λ v. absurd (false≢true v);
    last = λ v. absurd (false≢true (sym may.quiet ∙ v));
  }

  done : SameDone here (ahead here (3 * n) p) (done_as here false false cells p)
  done = runs-done here false false cells [] p some runs

  abbrev ends : Acts
  ends = sends (onward Up here (data_of 0 cells) ∷ []) (record p { in_work = None })

  -- the end of the turn, from what was gathered, what is left, and how it stands
  abbrev over : List (Parcel ℕ) → queues.Queue ℕ → List ℕ → Bool → ldterms.Stage ℕ → Acts
  over sent queue gathered echoing at = sends sent (record p { in_work = None; read_queue = queue; gathered = gathered; echoing = echoing; stage = at })

  ended : finished plain here (ahead here (3 * n) p).state ≡ ends
  ended =
      let rest = drop n cells in
      let queue = back_on (option_map (left_of rest) p.in_work) p.read_queue in
      let none : length rest ≡ 0 = omega (arith, length-drop n cells) in
      ap (finished plain here) done.state
      ∙ ap (λ g. over (gathered_up plain here (g ++ cells)) queue [] false Between) may.first
      ∙ ap (λ ps. over ps queue [] false Between) (up-some here cells (λ e. omega arith) ∙ ap (λ m. onward Up here m ∷ []) (data-is cells))
      ∙ ap (λ q. over (onward Up here (data_of 0 cells) ∷ []) q [] false Between) (back-nothing p.in_work rest p.read_queue none)
      ∙ ap (λ g. over (onward Up here (data_of 0 cells) ∷ []) p.read_queue g false Between) (sym may.first)
      ∙ ap (λ e. over (onward Up here (data_of 0 cells) ∷ []) p.read_queue p.gathered e Between) (sym may.quiet)
      ∙ ap (λ st. over (onward Up here (data_of 0 cells) ∷ []) p.read_queue p.gathered p.echoing st) (sym stage)

  pub nothing-before : is_none_left (ahead here (3 * n) p).sent ≡ true
  nothing-before = ap is_none_left done.sent

  -- how many more blocks the first of them would fill
  pub whole-blocks : (k : ℕ) → k ≤ n → blocks_grown p (ahead here (3 * k) p).state ≤ blocks_for n
  whole-blocks zero few = omega (arith, grown-none p)
  whole-blocks (suc k) few =
      let front = take (suc k) cells in
      let long : length front ≡ suc k = omega (arith, length-take (suc k) cells, few) in
      let so = runs-done here false false front (drop (suc k) cells ++ []) p (omega arith) (front-runs here false false cells [] p (suc k) runs few) in
      let q = (done_as here false false front p).state in
      let same : length (p.gathered ++ front) ≡ suc k = omega (arith, length-append p.gathered front, ap length may.first, long) in
      let grown : blocks_grown p q ≤ blocks_for n = grown-from-none p q (suc k) n same (ap length may.first) refl few in
      subst (λ j. blocks_grown p (ahead here (3 * j) p).state ≤ blocks_for n) long (subst (λ (w : ldterms.Discipline ℕ). blocks_grown p w ≤ blocks_for n) (sym so.state) grown)

  pub whole-done : (s s' : StoreValue) (x x' : Paired) (sent : List Sent) (t : Fates) → Proceeds s s' x x' 0 [] sent t t ends → Proceeds s s' x x' 0 [] sent t t (one_after (ahead here (3 * n) p) (finished plain here))
  whole-done s s' x x' sent t did =
      let u = ahead here (3 * n) p in
      let joined : Acts → Acts = λ v. record { state = v.state; notes = u.notes ++ v.notes; sent = v.sent; gone = u.gone ++ v.gone } in
      let is : one_after u (finished plain here) ≡ joined ends =
      ap (λ v. cond {A = Acts} v (joined (finished plain here u.state)) u) nothing-before ∙ ap joined ended in
      subst (Proceeds s s' x x' 0 [] sent t t) (sym is) (record {
        state = did.state;
        noted = sym (append-nil u.notes ∙ done.notes);
        parcels = did.parcels;
        told = sym (ap (λ g. tallied g t) (append-nil u.gone) ∙ done.told t);
        held = did.held;
        own = did.own;
        chains = did.chains;
        hands = did.hands;
        mblks = did.mblks;
        dblks = did.dblks;
        pool = did.pool;
      })

-- A call in which it went up.
pub whole-treats : (s s' : StoreValue) (here : Spot) (x x' : Paired) (t : Fates) (bytes : ℕ) (notes : ArrayVec Note) (sent : Outbox) → IsHeld s x → stages_left (stage_in x.stage) ≡ 0 → bytes ≡ length (cells_left (ldterm_in s x))
    → 0 < bytes → MayPass (ldterm_in s x) → HasRoom s (STOP_BLOCKS + blocks_for bytes) → notes.items ≡ []
    → Proceeds s s' x x' 0 [] (sent_of sent) t t (sends (onward Up here (data_of 0 (cells_left (ldterm_in s x))) ∷ []) (record (ldterm_in s x) { in_work = None }))
    → TreatsAs s s' here x x' (record { acts = record { notes = notes; sent = sent }; bytes = bytes; stopped = false; again = false }) t t
whole-treats s s' here x x' t bytes notes sent held between size some may room quiet did =
    let p = ldterm_in s x in
    let m = length (cells_left p) in
    let there : 0 < m = omega arith in
    let done = none-done p.stage between in
    let stage = none-under-way p.stage between in
    let all = takes-any s s' x x' 0 [] (sent_of sent) t t _ (whole-done here p between may there s s' x x' (sent_of sent) t did) in
    let one : HasRoom s 1 = record { mblks = (let r = room.mblks in omega arith); dblks = (let r = room.dblks in omega arith) } in
    let none = none-begun (stage_in x.stage) between in
    let after : to_treat (ldterm_in s' x') ≡ 0 = ap to_treat did.state ∙ ap (λ st. to_treat (record p { in_work = None; stage = st })) stage in
    let last : leaves (stage_in x'.stage) ≡ 1 = ap (λ (q : ldterms.Discipline ℕ). leaves q.stage) did.state ∙ ap leaves stage in
    treats-as s s' here x x' t t (record { acts = record { notes = notes; sent = sent }; bytes = bytes; stopped = false; again = false }) _
    (ap (λ k. treats plain here k 0 p) (all-left p between) ∙ treats-ended here p (3 * m) m (omega (arith, done)) (nothing-before here p between may there))
    (subst (λ ns. Proceeds s s' x x' (all_free s) ns (sent_of sent) t t (one_after (ahead here (3 * m) p) (finished plain here))) (sym quiet) all)
    size refl (λ v. absurd (false≢true v))
    (λ byte within. begun-on s s x x here bytes bytes [] t t between size (ran-none s here x bytes t (stays-so s x t held) one) bytes
    (λ byte few. free-on here s p between byte (let w = whole-blocks here p between may there byte (omega arith) in let e = ap blocks_for size in record { mblks = (let r = room.mblks in omega arith); dblks = (let r = room.dblks in omega arith) }))
    byte (omega arith))
    (λ v. absurd (false≢true v)) (omega arith)
    (record { mblks = (let r = one.mblks in let d = did.mblks in omega arith); dblks = (let r = one.dblks in let d = did.dblks in omega arith) })
    (λ v. absurd (false≢true v))
