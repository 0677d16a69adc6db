-- Calls of the service procedure, by the way of their queue.
use Rattle.strm_ldterm.proofs.Prelude.{ℕ, ◌≡◌, ◌≤◌, ◌+◌, Bool, true, false, [], length, refl, sym, ap, subst, ◌∙◌, arith, false≢true, Option, None}
use Rattle.strm_ldterm.proofs.Prelude.{Some, is_some, not, unwrap_or}
use Rattle.strm_ldterm.specs.Prelude.{Way, Up, Down, Fates, Spot, plain, Acted, cells_left, input_begins, is_data, to_treat, treats, ldterm_serves}
use Rattle.strm_ldterm.specs.Prelude.{Between, Begun, Answered, Message, cells_of, size_of, left_with, output_serves, Serving, bytes_left, first_size}
use Rattle.strm_ldterm.specs.Prelude.{StoreValue, IsStore, Outbox, Served, sent_of, HasRoom, stop_at, stop_of}
use Rattle.strm_types.specs.Ldterms as ldterms
use Rattle.strm_ldterm.specs.Began.{BeganWork}
use Rattle.strm_ldterm.specs.Bounds.{passes_whole}
use Rattle.strm_ldterm.specs.Called.{ServesAs, TreatsAs, at_work, bytes_of_way}
use Rattle.strm_ldterm.specs.Does.{Proceeds}
use Rattle.strm_ldterm.specs.Resting.{ldterm-rests}
use Rattle.strm_ldterm.specs.Served.{IsServed}
use Rattle.strm_ldterm.specs.FreeBefore.{IsFreeBefore, all_free}
use Rattle.strm_ldterm.specs.Stands.{keeps, ldterm_in, stage_in, IsHeld, Paired}
use Rattle.strm_ldterm.specs.Turns.{bytes_on, leaves, needs, stages_left}
use Rattle.strm_ldterm.proofs.Bytes.{all-left, kept-some, takes-any, none-begun, none-done}
use Rattle.strm_ldterm.proofs.Joining.{proceeds-joined}
use Rattle.strm_ldterm.specs.ServedLaws.{again-works, down-idle, first-idle, serves-served}

-- a message has no fewer bytes than cells
pub cells-within : (m : Message ℕ) → length (cells_of m) ≤ size_of m
unfolding size_of
cells-within m = omega arith

module _ (here : Spot) (again : Bool) (stop : Option ℕ) (p : ldterms.Discipline ℕ) where
  abbrev at_way : Way → Spot
  at_way way = record here { way = way }

  -- by the way of the queue
  pub down-serves : here.way ≡ Down → ldterm_serves plain here 0 again stop p ≡ output_serves plain here stop 0 p.write_queue.messages p
  down-serves is =
      ap (λ w. ldterm_serves plain (at_way w) 0 again stop p) is
      ∙ sym (ap (λ w. output_serves plain (at_way w) stop 0 p.write_queue.messages p) is)

  pub again-serves : here.way ≡ Up → again ≡ true → ldterm_serves plain here 0 again stop p ≡ treats plain here (unwrap_or stop (to_treat p)) 0 p
  again-serves is more =
      ap (λ v. ldterm_serves plain here 0 v stop p) more
      ∙ ap (λ w. ldterm_serves plain (at_way w) 0 true stop p) is
      ∙ sym (ap (λ w. treats plain (at_way w) (unwrap_or stop (to_treat p)) 0 p) is)

  pub first-serves : here.way ≡ Up → again ≡ false → ldterm_serves plain here 0 again stop p ≡ input_begins plain here stop 0 p.read_queue.messages p
  first-serves is more =
      ap (λ v. ldterm_serves plain here 0 v stop p) more
      ∙ ap (λ w. ldterm_serves plain (at_way w) 0 false stop p) is
      ∙ sym (ap (λ w. input_begins plain (at_way w) stop 0 p.read_queue.messages p) is)

pub down≢up : Down ≡ Up → ⊥
down≢up same = absurd (cc)

pub between-needs : (stage : ldterms.Stage ℕ) → stages_left stage ≡ 0 → needs stage ≤ 1
between-needs Between is = omega arith
between-needs (Begun started c) is = absurd (omega (arith, is))
between-needs (Answered echo) is = absurd (omega (arith, is))

leaves-some : (stage : ldterms.Stage ℕ) → 1 ≤ leaves stage
leaves-some Between = omega arith
leaves-some (Begun started c) = omega arith
leaves-some (Answered echo) = omega arith

some-left-room : (s : StoreValue) (stage : ldterms.Stage ℕ) → HasRoom s (leaves stage) → HasRoom s 1
some-left-room s stage room = let some = leaves-some stage in record { mblks = (let r = room.mblks in omega (arith, r, some)); dblks = (let r = room.dblks in omega (arith, r, some)) }

-- before a byte of a message that has come into work
pub begun-later : (s s1 : StoreValue) (x x1 : Paired) (t : Fates) (next : ℕ → ldterms.Discipline ℕ → Acted ℕ (ldterms.Discipline ℕ)) (q : ldterms.Discipline ℕ) (byte : ℕ) → IsStore s1
    → Proceeds s s1 x x1 0 [] [] t t (ldterms.sends [] q) → IsFreeBefore s1 x1 t next (ldterm_in s1 x1) byte → IsFreeBefore s x t next q byte
begun-later s s1 x x1 t next q byte st works f = record {
  before = f.before;
  more = f.more;
  is = f.is;
  store = f.store;
  there = f.there;
  notes = f.notes;
  told = f.told;
  reached =
      takes-any s f.store x f.there (0 + all_free s1) f.notes [] t f.told (next f.before q)
      (proceeds-joined s s1 x x1 0 [] t t (ldterms.sends [] q) st works f.store f.there (all_free s1) f.notes [] f.told (next f.before) f.reached);
  free = f.free;
}

module _ (s s' : StoreValue) (here : Spot) (x x' : Paired) (again : Bool) (t : Fates) where
  -- a message passed whole, or none
  pub whole-serves : (served : Served) (sent : Outbox) (bytes : ℕ) (v : Serving ℕ (ldterms.Discipline ℕ)) → served.acts.notes.items ≡ [] → served.acts.sent ≡ sent → served.bytes ≡ bytes → served.stopped ≡ false → served.again ≡ false
      → ldterm_serves plain here 0 again None (ldterm_in s x) ≡ v → Proceeds s s' x x' 0 [] (sent_of sent) t t v.acted → bytes ≡ v.bytes → v.again ≡ false → (here.way ≡ Up → HasRoom s 1) → passes_whole here.way again (ldterm_in s x) ≡ true
      → ServesAs s s' here x x' again served t t
  whole-serves served sent bytes v no-notes same-sent same-bytes goes-on ends is a size over room passed =
      let p = ldterm_in s x in
      let whole : ldterm_serves plain here 0 again (stop_of served) p ≡ v = ap (λ b. ldterm_serves plain here 0 again (stop_at b served.bytes) p) goes-on ∙ is in
      record {
        does =
            subst (λ (w : Serving ℕ (ldterms.Discipline ℕ)). Proceeds s s' x x' (all_free s) served.acts.notes.items (sent_of served.acts.sent) t t w.acted) (sym whole)
            (subst (λ ns. Proceeds s s' x x' (all_free s) ns (sent_of served.acts.sent) t t v.acted) (sym no-notes)
            (subst (λ (o : Outbox). Proceeds s s' x x' (all_free s) [] (sent_of o) t t v.acted) (sym same-sent) (takes-any s s' x x' 0 [] (sent_of sent) t t v.acted a)));
        bytes = same-bytes ∙ size ∙ sym (ap (λ (w : Serving ℕ (ldterms.Discipline ℕ)). w.bytes) whole);
        again_is = ends ∙ sym over ∙ sym (ap (λ (w : Serving ℕ (ldterms.Discipline ℕ)). w.again) whole);
        begun = λ none. absurd (false≢true (sym none ∙ passed));
        stops = λ e. absurd (false≢true (sym goes-on ∙ e));
        ends = λ e. absurd (false≢true (sym goes-on ∙ e));
        some = λ e. absurd (false≢true (sym goes-on ∙ e));
        room = λ e. absurd (false≢true (sym ends ∙ e));
        over = λ up. record { mblks = (let r = (room up).mblks in let f = a.mblks in omega (arith, r, f)); dblks = (let r = (room up).dblks in let f = a.dblks in omega (arith, r, f)) };
        whole = λ e. record { mblks = (let f = a.mblks in omega arith); dblks = (let f = a.dblks in omega arith) };
      }

module _ (s s' : StoreValue) (here : Spot) (x x' : Paired) (served : Served) (t t' : Fates) (way : here.way ≡ Up) where
  -- one more call
  pub again-treats : (again : Bool) → again ≡ true → TreatsAs s s' here x x' served t t' → ServesAs s s' here x x' again served t t'
  again-treats again more b =
      let whole = again-serves here again (stop_of served) (ldterm_in s x) way more in
      record {
        does = subst (λ (w : Serving ℕ (ldterms.Discipline ℕ)). Proceeds s s' x x' (all_free s) served.acts.notes.items (sent_of served.acts.sent) t t' w.acted) (sym whole) b.does;
        bytes = b.bytes ∙ sym (ap (λ (w : Serving ℕ (ldterms.Discipline ℕ)). w.bytes) whole);
        again_is = b.again ∙ sym (ap (λ (w : Serving ℕ (ldterms.Discipline ℕ)). w.again) whole);
        begun = λ goes byte within.
            let same : at_work here.way again (ldterm_in s x) ≡ ldterm_in s x = ap (λ w. at_work w again (ldterm_in s x)) way ∙ ap (λ v. at_work Up v (ldterm_in s x)) more in
            subst (λ n. IsFreeBefore s x t n (at_work here.way again (ldterm_in s x)) byte) (sym (ap (bytes_of_way here) way))
            (subst (λ (q : ldterms.Discipline ℕ). IsFreeBefore s x t (bytes_on here) q byte) (sym same) (b.begun byte within));
        stops = b.stops;
        ends = λ e.
            let left = ap (λ w. bytes_left w again (ldterm_in s x)) way ∙ ap (λ v. bytes_left Up v (ldterm_in s x)) more in
            let at = b.ends e in
            record { treat = let few = at.treat in omega (arith, left); done = at.done };
        some = b.some;
        room = λ e. b.room;
        over = λ up. some-left-room s' (stage_in x'.stage) b.room;
        whole = λ e. absurd (false≢true (sym (ap (λ w. passes_whole w again (ldterm_in s x)) way ∙ ap (λ v. passes_whole Up v (ldterm_in s x)) more) ∙ e));
      }

  -- the first call of a turn, whose message has come into work
  pub work-treats : (s1 : StoreValue) (x1 : Paired) (bytes : ℕ) → IsStore s1 → stages_left (stage_in x.stage) ≡ 0 → BeganWork s s1 here x x1 bytes → TreatsAs s1 s' here x1 x' served t t' → ServesAs s s' here x x' false served t t'
  work-treats s1 x1 bytes st between w b =
      let p = ldterm_in s x in
      let p1 = ldterm_in s1 x1 in
      let works = w.works t in
      let stage : stages_left p1.stage ≡ 0 = ap stages_left w.stage ∙ between in
      let left : length (cells_left p1) ≡ bytes = ap (λ (q : ldterms.Discipline ℕ). length (cells_left q)) works.state ∙ sym w.size in
      let size : bytes ≡ to_treat p1 = sym left ∙ sym (all-left p1 stage) in
      let whole = first-serves here false (stop_of served) p way refl ∙ w.treated (stop_of served) ∙ ap (λ n. treats plain here (unwrap_or (stop_of served) n) 0 p1) size in
      record {
        does =
            subst (λ (v : Serving ℕ (ldterms.Discipline ℕ)). Proceeds s s' x x' (all_free s) served.acts.notes.items (sent_of served.acts.sent) t t' v.acted) (sym whole)
            (takes-any s s' x x' (0 + all_free s1) served.acts.notes.items (sent_of served.acts.sent) t t' _
            (proceeds-joined s s1 x x1 0 [] t t _ st works s' x' (all_free s1) served.acts.notes.items (sent_of served.acts.sent) t' (λ q. (treats plain here (unwrap_or (stop_of served) (to_treat p1)) 0 p1).acted) b.does));
        bytes = b.bytes ∙ sym (ap (λ (v : Serving ℕ (ldterms.Discipline ℕ)). v.bytes) whole);
        again_is = b.again ∙ sym (ap (λ (v : Serving ℕ (ldterms.Discipline ℕ)). v.again) whole);
        begun = λ goes byte within.
            let none = none-begun (stage_in x.stage) between in
            let none1 = none-begun (stage_in x1.stage) stage in
            let begins : at_work Up false p ≡ record p { read_queue = left_with w.rest p.read_queue; in_work = Some w.message } =
            ap (λ ms. at_work Up false (record p { read_queue = record p.read_queue { messages = ms } })) w.first in
            let same : at_work here.way false p ≡ record p { read_queue = left_with w.rest p.read_queue; in_work = Some w.message } = ap (λ v. at_work v false p) way ∙ begins in
            subst (λ n. IsFreeBefore s x t n (at_work here.way false p) byte) (sym (ap (bytes_of_way here) way))
            (subst (λ (q : ldterms.Discipline ℕ). IsFreeBefore s x t (bytes_on here) q byte) (sym same)
            (begun-later s s1 x x1 t (bytes_on here) _ byte st works (b.begun byte (omega (arith, within, none, none1)))));
        stops = b.stops;
        ends = λ e.
            let left : bytes_left here.way false p ≡ size_of w.message = ap (λ v. bytes_left v false p) way ∙ ap first_size w.first in
            let few = (b.ends e).treat in
            let cells = w.size in
            let none = none-done (stage_in x.stage) between in
            record { treat = omega (arith, left, cells-within w.message); done = omega arith };
        some = λ e many. b.some e (record { mblks = (let r = many.mblks in let a = works.mblks in omega (arith, r, a)); dblks = (let r = many.dblks in let a = works.dblks in omega (arith, r, a)) });
        room = λ e. b.room;
        over = λ up. some-left-room s' (stage_in x'.stage) b.room;
        whole = λ e.
            let begun : passes_whole Up false p ≡ false =
            ap (λ ms. passes_whole Up false (record p { read_queue = record p.read_queue { messages = ms } })) w.first ∙ ap (λ k. not (is_data k)) w.kind in
            absurd (false≢true (sym (ap (λ v. passes_whole v false p) way ∙ begun) ∙ e));
      }

-- Behind a call that isn't called again nothing of a turn is under way. Behind one that is, a message is in work.
pub served-behind : (s s' : StoreValue) (here : Spot) (x x' : Paired) (again : Bool) (served : Served) (t t' : Fates) → ServesAs s s' here x x' again served t t'
    → IsServed here.way again (ldterm_in s x) → IsServed here.way served.again (ldterm_in s' x')
served-behind s s' here x x' again served t t' did is =
    let by = ldterm_serves plain here 0 again (stop_of served) (ldterm_in s x) in
    subst (λ v. IsServed here.way v (ldterm_in s' x')) (sym did.again_is)
    (subst (λ (p : ldterms.Discipline ℕ). IsServed here.way by.again p) (sym did.does.state) (serves-served plain here 0 again (stop_of served) (ldterm_in s x) is))

-- What a call needs, of the state before it: a message in work where it is one more in its turn, and else nothing in hand and no byte begun.
module _ (s : StoreValue) (x : Paired) (way : Way) (again : Bool) (is : IsServed way again (ldterm_in s x)) where
  pub more-works : way ≡ Up → again ≡ true → is_some x.in_work ≡ true
  more-works up more = sym (kept-some s x.in_work) ∙ again-works way again (ldterm_in s x) up more is

  pub first-rests : again ≡ false → IsHeld s x → (i : ℕ) → keeps x i ≡ 0
  first-rests first held = let idle = first-idle way again (ldterm_in s x) first is in ldterm-rests s x held idle.0 idle.1

  pub down-rests : way ≡ Down → IsHeld s x → (i : ℕ) → keeps x i ≡ 0
  down-rests down held = let idle = down-idle way again (ldterm_in s x) down is in ldterm-rests s x held idle.0 idle.1

  -- nor grows an echo
  pub first-quiet : again ≡ false → x.echoing ≡ false
  first-quiet first = (first-idle way again (ldterm_in s x) first is).2

  pub down-quiet : way ≡ Down → x.echoing ≡ false
  down-quiet down = (down-idle way again (ldterm_in s x) down is).2

  pub down-between : way ≡ Down → stages_left (stage_in x.stage) ≡ 0
  down-between down = ap stages_left (down-idle way again (ldterm_in s x) down is).3

  pub first-between : again ≡ false → stages_left (stage_in x.stage) ≡ 0
  first-between first = ap stages_left (first-idle way again (ldterm_in s x) first is).3

-- there is a message in work then
pub work-in : (s s1 : StoreValue) (here : Spot) (x x1 : Paired) (bytes : ℕ) (t : Fates) → BeganWork s s1 here x x1 bytes → is_some x1.in_work ≡ true
work-in s s1 here x x1 bytes t w = sym (kept-some s1 x1.in_work) ∙ ap (λ (q : ldterms.Discipline ℕ). is_some q.in_work) (w.works t).state
