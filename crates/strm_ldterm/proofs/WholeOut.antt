-- The message in work goes down as it is: as if its bytes went out one after the other.
use Rattle.strm_ldterm.proofs.Prelude.{ℕ, ◌≡◌, ◌≤◌, ◌<◌, ◌+◌, ◌-◌, Bool, true, false, List, [], ◌∷◌, ◌++◌, length, map, drop, take, refl, sym, ap}
use Rattle.strm_ldterm.proofs.Prelude.{subst, ◌∙◌, arith, append-nil, length-append, length-drop, length-take, None, option_map, data_in-cells}
use Rattle.strm_ldterm.specs.Prelude.{STOP_BLOCKS, Down, COLUMN_MAX, Fates, Note, Spot, plain, Acted, onward, back_on, cells_left, left_of, sends}
use Rattle.strm_ldterm.specs.Prelude.{Message, cells_of, Output, posts, wrapped, output_dir, with_given, Block, StoreValue, IsStore, block_at}
use Rattle.strm_ldterm.specs.Prelude.{bytes_of, IsChain, message_of, Outbox, Sent, HasRoom, sent_of}
use Rattle.std.proofs.Math.Seq.{take-length}
use Rattle.std.specs.List.{AllByRecursion}
use Rattle.arrayvec.specs.ArrayVec.{ArrayVec}
use Rattle.strm_types.specs.declared.kinds.MsgKind.TheVariants as kinds
use Rattle.strm_types.specs.Ldterms as ldterms
use Rattle.strm_types.specs.Queue as queues
use Rattle.strm_ldterm.specs.Called.{ServesAs}
use Rattle.strm_ldterm.specs.Does.{Proceeds}
use Rattle.strm_ldterm.specs.FreeBefore.{all_free, blocks_for, blocks_grown}
use Rattle.strm_ldterm.specs.Outgone.{BeganOutput, data_of, let_go}
use Rattle.strm_ldterm.specs.Posting.{is_printed, poured}
use Rattle.strm_ldterm.specs.Stands.{IsHeld, ldterm_in, stage_in, Paired}
use Rattle.strm_ldterm.specs.Turns.{one_after, stages_left}
use Rattle.strm_ldterm.proofs.Bytes.{takes-any}
use Rattle.strm_ldterm.proofs.FreeBefore.{all-front}
use Rattle.strm_ldterm.proofs.Joining.{proceeds-joined}
use Rattle.strm_ldterm.proofs.Outgone.{bytes-serve, in-work}
use Rattle.strm_ldterm.proofs.Poured.{pours-none, turned}
use Rattle.strm_ldterm.proofs.Pouring.{run-out}
use Rattle.strm_ldterm.proofs.Rebanded.{given-some}
use Rattle.strm_ldterm.proofs.Skipped.{no-bytes, shown-bytes}
use Rattle.strm_ldterm.proofs.Whole.{back-nothing, grown-from-none}

-- a message whose first block has all of its bytes
pub first-all : (chain : List Block) → IsChain chain → (block_at 0 chain).kind ≡ kinds.Data → length (cells_of (message_of chain)) ≤ length (block_at 0 chain).bytes → cells_of (message_of chain) ≡ (block_at 0 chain).bytes
first-all [] one kind few = absurd (let l = one.some in omega arith)
first-all (b ∷ rest) one kind few =
    let shown : cells_of (message_of (b ∷ rest)) ≡ b.bytes ++ bytes_of rest = ap cells_of (shown-bytes (b ∷ rest) one kind) ∙ data_in-cells b.band (b.bytes ++ bytes_of rest) in
    let none : bytes_of rest ≡ [] = no-bytes (bytes_of rest) (omega (arith, few, ap length shown, length-append b.bytes (bytes_of rest))) in
    shown ∙ ap (λ l. b.bytes ++ l) none ∙ append-nil b.bytes

module _ (here : Spot) (p : ldterms.Discipline ℕ) (band : ℕ) (low : p.column ≤ COLUMN_MAX) (few : length (cells_left p) ≤ 256) (all : AllByRecursion (λ b. is_printed p.termios b ≡ true) (cells_left p)) (none : p.gathered ≡ []) where
  abbrev cells : List ℕ
  cells = cells_left p

  abbrev n : ℕ
  n = length cells

  abbrev pub column : ℕ
  column = wrapped (p.column + n)

  abbrev Acts : Type 0
  Acts = Acted ℕ (ldterms.Discipline ℕ)

  abbrev given : Output ℕ
  given = record { given = cells; column = column; told = [] }

  abbrev shape : Output ℕ → List (Message ℕ) → queues.Queue ℕ → List ℕ → Acts
  shape u messages queue gathered = record {
    state = record p { in_work = None; gathered = gathered; write_queue = queue; column = u.column };
    notes = [];
    sent = map (onward Down here) messages;
    gone = u.told ++ [];
  }

  whole-out : 0 < n → one_after (poured here n p) (let_go here band) ≡ record (sends (onward Down here (data_of band cells) ∷ []) (record p { in_work = None; column = column })) { gone = [] }
  whole-out some =
      let rest = drop n cells in
      let queue = back_on (option_map (left_of rest) p.in_work) p.write_queue in
      let going : List ℕ → Output ℕ → Acts = λ g u. shape u (with_given (g ++ u.given) (data_of band [])) queue [] in
      ap (λ xs. going p.gathered (posts plain (output_dir plain here) 0 p.termios p.column xs)) (take-length cells)
      ∙ ap (going p.gathered) (run-out (output_dir plain here) p.termios p.column cells low few all)
      ∙ ap (λ g. going g given) none
      ∙ ap (λ ms. shape given ms queue []) (given-some cells band (λ e. omega arith))
      ∙ ap (λ q. shape given (data_of band cells ∷ []) q []) (back-nothing p.in_work rest p.write_queue (omega (arith, length-drop n cells)))
      ∙ ap (λ g. shape given (data_of band cells ∷ []) p.write_queue g) (sym none)

  pub whole-went : (s t : StoreValue) (x y : Paired) (bytes : ℕ) (sent : List Sent) (f : Fates) → bytes ≡ n → 0 < n → Proceeds s t x y 0 [] sent f f (sends (onward Down here (data_of band cells) ∷ []) (record p { in_work = None }))
      → Proceeds s t x (record y { column = column }) 0 [] sent f f (one_after (poured here bytes p) (let_go here band))
  whole-went s t x y bytes sent f size some did =
      subst (λ k. Proceeds s t x (record y { column = column }) 0 [] sent f f (one_after (poured here k p) (let_go here band))) (sym size)
      (subst (Proceeds s t x (record y { column = column }) 0 [] sent f f) (sym (whole-out some)) (turned s t x y 0 column sent f f [] _ did refl))

  -- how many more blocks the first of them would fill
  pub out-blocks : (byte : ℕ) → byte ≤ n → blocks_grown p (poured here byte p).state ≤ blocks_for n
  out-blocks byte within =
      let front = take byte cells in
      let long : length front ≡ byte = omega (arith, length-take byte cells, within) in
      let out = ap (λ (o : Output ℕ). o.given) (run-out (output_dir plain here) p.termios p.column front low (omega (arith, long, few, within)) (all-front (λ b. is_printed p.termios b ≡ true) byte cells all)) in
      let same = ap (λ xs. length (p.gathered ++ xs)) out ∙ length-append p.gathered front in
      grown-from-none p (poured here byte p).state byte n (same ∙ omega (arith, ap length none, long)) (ap length none) refl within

-- A call in which it went down.
pub whole-serves-out : (s s1 s3 : StoreValue) (here : Spot) (x x1 x3 : Paired) (bytes band : ℕ) (notes : ArrayVec Note) (sent : Outbox) (t : Fates) (way : here.way ≡ Down) (between : stages_left (stage_in x.stage) ≡ 0)
    (b : BeganOutput s s1 here x x1 bytes band) (st1 : IsStore s1) (quiet : notes.items ≡ []) → IsHeld s1 x1 → x1.column ≤ COLUMN_MAX → bytes ≤ 256 → bytes ≡ length (cells_left (ldterm_in s1 x1))
    → AllByRecursion (λ c. is_printed x1.termios c ≡ true) (cells_left (ldterm_in s1 x1)) → HasRoom s1 (STOP_BLOCKS + blocks_for bytes)
    → Proceeds s1 s3 x1 x3 0 [] (sent_of sent) t t (one_after (poured here bytes (ldterm_in s1 x1)) (let_go here band))
    → (again : Bool) → ServesAs s s3 here x x3 again (record { acts = record { notes = notes; sent = sent }; bytes = bytes; stopped = false; again = false }) t t
whole-serves-out s s1 s3 here x x1 x3 bytes band notes sent t way between b st1 quiet held low few size all room go again =
    let p1 = ldterm_in s1 x1 in
    let whole : bytes + 0 ≡ bytes = omega arith in
    let is = in-work s s1 s3 here x x1 x3 bytes bytes 0 band notes sent t t way between b whole st1 quiet in
    let none : p1.gathered ≡ [] = ap (λ (q : ldterms.Discipline ℕ). q.gathered) is ∙ b.none in
    let next : ldterms.Discipline ℕ → Acted ℕ (ldterms.Discipline ℕ) = λ q. one_after (poured here bytes q) (let_go here band) in
    let joined = proceeds-joined s s1 x x1 0 [] t t (sends [] _) st1 (b.works t) s3 x3 0 [] (sent_of sent) t next go in
    bytes-serve s s1 s3 here x x1 x3 bytes bytes 0 band notes sent t t way between b whole st1 quiet
    (takes-any s s3 x x3 0 [] (sent_of sent) t t _ joined) (λ more. absurd (omega arith))
    (λ byte within.
    record {
      before = 0;
      more = byte;
      is = omega arith;
      store = s1;
      there = x1;
      notes = [];
      told = t;
      reached = (let zero : bytes - bytes ≡ 0 = omega arith in subst (λ k. Proceeds s1 s1 x1 x1 (all_free s1) [] [] t t (poured here k p1)) zero (pours-none s1 here x1 bytes t held).does);
      free = (let w = out-blocks here p1 band low (omega (arith, size, few)) all none byte (omega (arith, size, within)) in let e = ap blocks_for size in
          record { mblks = (let r = room.mblks in omega arith); dblks = (let r = room.dblks in omega arith) });
    }) (λ more. absurd (omega arith)) again
