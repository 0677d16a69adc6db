-- Turns of the write queue: what the definition says of bytes that go out, and of what passes whole, and a call that did so on a store.
use Rattle.strm_ldterm.proofs.Prelude.{ℕ, ◌≡◌, ◌≤◌, ◌<◌, ◌+◌, ◌-◌, Bool, true, false, cond, List, [], ◌∷◌, ◌++◌, length, map, take, drop, refl, sym}
use Rattle.strm_ldterm.proofs.Prelude.{ap, subst, ◌∙◌, arith, append-nil, length-drop, false≢true, nat_tests, ◌&&◌, Option, None, Some, is_some}
use Rattle.strm_ldterm.proofs.Prelude.{nat_lt, not, unwrap_or, turn_of}
use Rattle.strm_ldterm.specs.Prelude.{STOP_BLOCKS, Down, Fates, Note, Spot, plain, Fate, onward, back_on, cells_left, is_data, left_of, sends}
use Rattle.strm_ldterm.specs.Prelude.{Message, cells_of, size_of, Output, posts, output_dir, output_serves, posted, unchanged, with_given}
use Rattle.strm_ldterm.specs.Prelude.{is_none_left, left_with, first_size, Serving, opost, bytes_left, StoreValue, IsStore, Outbox, Served, sent_of}
use Rattle.strm_ldterm.specs.Prelude.{HasRoom, least_free, stop_at, stop_of, FreesNone}
use Rattle.std.proofs.lemmas.List.{length-take}
use Rattle.arrayvec.specs.ArrayVec.{ArrayVec}
use Rattle.strm_types.specs.Ldterms as ldterms
use Rattle.strm_types.specs.OutputTurns.{Outgoing}
use Rattle.strm_ldterm.specs.Bounds.{goes_out, passes_whole}
use Rattle.strm_ldterm.specs.Called.{ServesAs, at_work, bytes_of_way}
use Rattle.strm_ldterm.specs.Does.{Proceeds}
use Rattle.strm_ldterm.specs.Outgone.{BeganOutput, data_of, let_go}
use Rattle.strm_ldterm.specs.Posting.{PoursAs, poured}
use Rattle.strm_ldterm.specs.FreeBefore.{IsFreeBefore, all_free}
use Rattle.strm_ldterm.specs.Stands.{ldterm_in, stage_in, Paired}
use Rattle.strm_ldterm.specs.Turns.{one_after, stages_left}
use Rattle.strm_ldterm.proofs.Bytes.{lower, none-begun, none-done, takes-any}
use Rattle.strm_ldterm.proofs.Freeing.{stays-few}
use Rattle.strm_ldterm.proofs.Joining.{proceeds-joined}
use Rattle.strm_ldterm.proofs.Pouring.{pours-left}
use Rattle.strm_ldterm.proofs.Turned.{begun-later, cells-within, down≢up, down-serves}

module _ (here : Spot) (stop : Option ℕ) where
  -- bytes that go out, so many at most
  abbrev gone_out : ℕ → List ℕ → Message ℕ → ldterms.Discipline ℕ → Outgoing ℕ
  gone_out most xs m p =
      let t = posts plain (output_dir plain here) 0 p.termios p.column (take most xs) in
      record { messages = with_given t.given m; left = Some (left_of (drop most xs) m); bytes = length (take most xs); column = t.column; told = t.told }

  pub posted-some : (xs : List ℕ) (m : Message ℕ) (p : ldterms.Discipline ℕ) → 0 < length xs → posted plain here stop 0 xs m p ≡ gone_out (unwrap_or stop (length xs)) xs m p
  posted-some [] m p some = absurd (omega arith)
  posted-some (x ∷ xs) m p some = refl

-- M_DATA with what is given, whatever stood in it
given-same : (l : List ℕ) (band : ℕ) (cells : List ℕ) (m : Message ℕ) → m ≡ data_of band cells → with_given l m ≡ with_given l (data_of band [])
given-same [] band cells m is = refl
given-same (c ∷ l) band cells m is = ap (λ (n : Message ℕ). record n { control = None; body = Some (c ∷ l) } ∷ []) is

module _ (here : Spot) (p : ldterms.Discipline ℕ) (m : Message ℕ) (rest : List (Message ℕ)) (band : ℕ) (first : p.write_queue.messages ≡ m ∷ rest) (is : m ≡ data_of band (cells_of m)) (output : opost p.termios ≡ true)
    (some : 0 < length (cells_of m)) (idle : p.in_work ≡ None) (none : p.gathered ≡ []) where
  -- it is in work
  abbrev pub begun : ldterms.Discipline ℕ
  begun = record p { write_queue = left_with rest p.write_queue; in_work = Some m }

  both : (is_data m.kind && opost p.termios) ≡ true
  both = ap (λ (n : Message ℕ). is_data n.kind && opost p.termios) is ∙ output

  -- the end of a turn in which so many bytes went out
  abbrev ended : ℕ → Option (Message ℕ) → List ℕ → List (Message ℕ) → ℕ → List (Fate ℕ) → ℕ → Serving ℕ (ldterms.Discipline ℕ)
  ended n work gathered messages column told bytes = record {
    acted = record {
      state = record p { write_queue = back_on (Some (left_of (drop n (cells_of m)) m)) (left_with rest p.write_queue); column = column; in_work = work; gathered = gathered };
      notes = [];
      sent = map (onward Down here) messages;
      gone = told;
    };
    bytes = bytes;
    again = false;
  }

  pub out-is : (stop : Option ℕ) (n : ℕ) → unwrap_or stop (length (cells_of m)) ≡ n → n ≤ length (cells_of m)
      → output_serves plain here stop 0 p.write_queue.messages p ≡ record { acted = one_after (poured here n begun) (let_go here band); bytes = n; again = false }
  out-is stop n most few =
      let cells = cells_of m in
      let t : Output ℕ = posts plain (output_dir plain here) 0 p.termios p.column (take n cells) in
      ap (λ ms. output_serves plain here stop 0 ms p) first
      ∙ ap (λ v. turn_of here rest p (cond v (posted plain here stop 0 cells m p) (unchanged m p))) both
      ∙ ap (λ (w : Outgoing ℕ). turn_of here rest p w) (posted-some here stop cells m p some)
      ∙ ap (λ k. turn_of here rest p (gone_out here stop k cells m p)) most
      ∙ ap (λ bytes. ended n p.in_work p.gathered (with_given t.given m) t.column t.told bytes) (length-take n cells ∙ omega arith)
      ∙ ap (λ work. ended n work p.gathered (with_given t.given m) t.column t.told n) idle
      ∙ ap (λ gathered. ended n None gathered (with_given t.given m) t.column t.told n) none
      ∙ ap (λ messages. ended n None [] messages t.column t.told n) (given-same t.given band cells m is ∙ ap (λ (l : List ℕ). with_given (l ++ t.given) (data_of band [])) (sym none))
      ∙ ap (λ told. ended n None [] (with_given (p.gathered ++ t.given) (data_of band [])) t.column told n) (sym (append-nil t.told))

-- A call in which so many bytes went out, and so many are left.
module _ (s s1 s3 : StoreValue) (here : Spot) (x x1 x3 : Paired) (bytes n left band : ℕ) (notes : ArrayVec Note) (sent : Outbox) (t t' : Fates) (way : here.way ≡ Down)
    (between : stages_left (stage_in x.stage) ≡ 0) (b : BeganOutput s s1 here x x1 bytes band) (count : n + left ≡ bytes) (st1 : IsStore s1) (quiet : notes.items ≡ []) where
  abbrev p : ldterms.Discipline ℕ
  p = ldterm_in s x

  abbrev cells : List ℕ
  cells = cells_of b.message

  pub some-there : 0 < length cells
  some-there = let z = b.some in let y = b.size in omega arith

  abbrev pub start : ldterms.Discipline ℕ
  start = begun here p b.message b.rest band b.first b.is b.output some-there b.idle b.none

  pub in-work : ldterm_in s1 x1 ≡ start
  in-work = (b.works t).state

  abbrev pub served : Served
  served = record { acts = record { notes = notes; sent = sent }; bytes = n; stopped = nat_lt 0 left; again = false }

  stops-at : unwrap_or (stop_of served) (length cells) ≡ n
  stops-at = at (nat_lt 0 left) refl
    where
      at : (v : Bool) → nat_lt 0 left ≡ v → unwrap_or (stop_at v n) (length cells) ≡ n
      at true is = refl
      at false is = let zero : left ≡ 0 = grind (arith, nat_tests) in let size = b.size in omega arith

  pub bytes-serve : Proceeds s s3 x x3 (all_free s) [] (sent_of sent) t t' (one_after (poured here n start) (let_go here band)) → (0 < left → least_free s3 < STOP_BLOCKS)
      → ((byte : ℕ) → byte < n → IsFreeBefore s1 x1 t (poured here) (ldterm_in s1 x1) byte) → (0 < left → HasRoom s1 STOP_BLOCKS → 0 < n) → (again : Bool) → ServesAs s s3 here x x3 again served t t'
  bytes-serve all low begins goes-out again =
      let size = b.size in
      let whole = down-serves here again (stop_of served) p way ∙ out-is here p b.message b.rest band b.first b.is b.output some-there b.idle b.none (stop_of served) n stops-at (omega arith) in
      record {
        does =
            subst (λ (v : Serving ℕ (ldterms.Discipline ℕ)). Proceeds s s3 x x3 (all_free s) notes.items (sent_of sent) t t' v.acted) (sym whole)
            (subst (λ ns. Proceeds s s3 x x3 (all_free s) ns (sent_of sent) t t' (one_after (poured here n start) (let_go here band))) (sym quiet) all);
        bytes = sym (ap (λ (v : Serving ℕ (ldterms.Discipline ℕ)). v.bytes) whole);
        again_is = sym (ap (λ (v : Serving ℕ (ldterms.Discipline ℕ)). v.again) whole);
        begun = λ goes byte within.
            let none = none-begun (stage_in x.stage) between in
            let opens : at_work Down again p ≡ start = ap (λ ms. at_work Down again (record p { write_queue = record p.write_queue { messages = ms } })) b.first in
            let same : at_work here.way again p ≡ start = ap (λ w. at_work w again p) way ∙ opens in
            subst (λ m. IsFreeBefore s x t m (at_work here.way again p) byte) (sym (ap (bytes_of_way here) way))
            (subst (λ (q : ldterms.Discipline ℕ). IsFreeBefore s x t (poured here) q byte) (sym same)
            (begun-later s s1 x x1 t (poured here) start byte st1 (b.works t) (begins byte (omega (arith, within, none)))));
        stops = λ v. (low (lower 0 left v), refl);
        ends = λ v.
            let most : bytes_left here.way again p ≡ size_of b.message = ap (λ w. bytes_left w again p) way ∙ ap first_size b.first in
            let none = none-done (stage_in x.stage) between in
            record { treat = omega (arith, most, size, cells-within b.message); done = omega arith };
        some = λ v many.
            let works = b.works t in
            goes-out (lower 0 left v) (record { mblks = (let r = many.mblks in let w = works.mblks in omega (arith, r, w)); dblks = (let r = many.dblks in let w = works.dblks in omega (arith, r, w)) });
        room = λ e. absurd (false≢true e);
        over = λ up. absurd (down≢up (sym way ∙ up));
        whole = λ e.
            let out : goes_out p.termios b.message ≡ true = ap (λ (m : Message ℕ). is_data m.kind && (opost p.termios && not (is_none_left cells))) b.is ∙ ap (λ v. v && not (is_none_left cells)) b.output ∙ ap not (some-left cells some-there) in
            let goes : passes_whole Down again p ≡ false = ap (λ ms. passes_whole Down again (record p { write_queue = record p.write_queue { messages = ms } })) b.first ∙ ap not out in
            absurd (false≢true (sym (ap (λ w. passes_whole w again p) way ∙ goes) ∙ e));
      }
    where
      some-left : (xs : List ℕ) → 0 < length xs → is_none_left xs ≡ false
      some-left [] some = absurd (omega arith)
      some-left (x ∷ xs) some = refl

-- where they went out one after the other
module _ (s s1 s2 s3 : StoreValue) (here : Spot) (x x1 x2 x3 : Paired) (bytes left band : ℕ) (notes : ArrayVec Note) (sent : Outbox) (t t' : Fates) (way : here.way ≡ Down)
    (between : stages_left (stage_in x.stage) ≡ 0) (b : BeganOutput s s1 here x x1 bytes band) (pours : PoursAs s1 s2 here x1 x2 bytes left t t')
    (go : Proceeds s2 s3 x2 x3 0 [] (sent_of sent) t' t' (let_go here band (ldterm_in s2 x2))) (frees : 0 < length (cells_left (ldterm_in s2 x2)) → FreesNone s2 s3)
    (st1 : IsStore s1) (st2 : IsStore s2) (quiet : notes.items ≡ []) where
  abbrev m : ℕ
  m = bytes - left

  all-told : m + left ≡ bytes
  all-told = let few = pours.fewer in omega arith

  abbrev from : ldterms.Discipline ℕ
  from = start s s1 s3 here x x1 x3 bytes m left band notes sent t t' way between b all-told st1 quiet

  is-in-work : ldterm_in s1 x1 ≡ from
  is-in-work = in-work s s1 s3 here x x1 x3 bytes m left band notes sent t t' way between b all-told st1 quiet

  out-left : length (cells_left (ldterm_in s2 x2)) ≡ left
  out-left =
      let size = b.size in
      ap (λ (q : ldterms.Discipline ℕ). length (cells_left q)) pours.does.state
      ∙ ap length (pours-left here m (ldterm_in s1 x1) (ap (λ (q : ldterms.Discipline ℕ). is_some q.in_work) is-in-work))
      ∙ ap (λ (q : ldterms.Discipline ℕ). length (drop m (cells_left q))) is-in-work
      ∙ length-drop m (cells_of b.message)
      ∙ omega (arith, size, all-told)

  pub out-serves : (again : Bool) → ServesAs s s3 here x x3 again (record { acts = record { notes = notes; sent = sent }; bytes = m; stopped = nat_lt 0 left; again = false }) t t'
  out-serves again =
      let one = proceeds-joined s s1 x x1 0 [] t t (sends [] from) st1 (b.works t) s2 x2 (all_free s1) [] [] t' (poured here m) pours.does in
      let all = proceeds-joined s s2 x x2 (0 + all_free s1) [] t t' (poured here m from) st2 one s3 x3 0 [] (sent_of sent) t' (let_go here band) go in
      bytes-serve s s1 s3 here x x1 x3 bytes m left band notes sent t t' way between b all-told st1 quiet
      (takes-any s s3 x x3 (0 + all_free s1 + 0) [] (sent_of sent) t t' _ all)
      (λ more. let l = out-left in stays-few s2 s3 STOP_BLOCKS (frees (omega arith)) (pours.stops more)) pours.begun
      (λ more many. (let few = pours.fewer in let less = pours.some (omega (arith, few, more)) many in omega (arith, less))) again
