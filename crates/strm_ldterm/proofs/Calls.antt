-- Calls of the service procedure of the read queue.
use Rattle.strm_ldterm.proofs.Prelude.{ℕ, ◌≡◌, ◌≤◌, ◌<◌, ◌+◌, ◌-◌, ◌*◌, Bool, true, false, cond, List, [], ◌++◌, length, refl, sym, ap, subst, ◌∙◌}
use Rattle.strm_ldterm.proofs.Prelude.{arith, append-nil, false≢true, is_some, nat_lt, unwrap_or, nat_tests}
use Rattle.strm_ldterm.specs.Prelude.{STOP_BLOCKS, Fates, Note, Spot, plain, cells_left, finished, stages_done, to_treat, treats, is_none_left}
use Rattle.strm_ldterm.specs.Prelude.{Serving, StoreValue, IsStore, Outbox, Sent, Served, HasRoom, sent_of, least_free, stop_at, stop_of, FreesNone}
use Rattle.strm_types.specs.Ldterms as ldterms
use Rattle.arrayvec.specs.ArrayVec.{ArrayVec}
use Rattle.strm_frame.specs.declared.modules.Acts as frame
use Rattle.strm_ldterm.specs.Called.{EndsAt, RunsOut, RunsInto, TreatsAs, begun_in, treated_by}
use Rattle.strm_ldterm.specs.Does.{Proceeds}
use Rattle.strm_ldterm.specs.FreeBefore.{IsFreeBefore, all_free}
use Rattle.strm_ldterm.specs.Stands.{ldterm_in, stage_in, Paired}
use Rattle.strm_ldterm.specs.Turns.{ahead, bytes_on, leaves, one_after, stages_left, under_way}
use Rattle.strm_ldterm.proofs.Bytes.{ahead-short, all-left, between-after, done-few, kept-some, leaves-one, left-few, left-none, lower, none-begun, none-done, one-begun, one-more-left, some-done, takes-any, work-after}
use Rattle.strm_ldterm.proofs.Counting.{ahead-reaches}
use Rattle.strm_ldterm.proofs.Freeing.{stays-few}
use Rattle.strm_ldterm.proofs.Joining.{nothing-sent, parcels-none, proceeds-joined}
use Rattle.strm_ldterm.proofs.Turning.{Acts, ahead-more, ends, ends-more}

-- calls of the procedure
module _ (here : Spot) (p : ldterms.Discipline ℕ) where
  abbrev served_with : ℕ → Acts → Serving ℕ (ldterms.Discipline ℕ)
  served_with bytes t = record { acted = t; bytes = cond (is_some t.state.in_work) (to_treat p - to_treat t.state) bytes; again = is_some t.state.in_work }

  -- where something is sent
  pub treats-sent : (n m bytes : ℕ) → 3 * bytes - stages_done p.stage ≡ n + m → is_none_left (ahead here n p).sent ≡ false → n + stages_done p.stage ≤ 3 * to_treat p → is_some p.in_work ≡ true
      → treats plain here bytes 0 p ≡ record { acted = ahead here n p; bytes = to_treat p - to_treat (ahead here n p).state; again = true }
  treats-sent n m bytes count sent room work =
      let t = ahead here n p in
      let all : ends here (3 * bytes - stages_done p.stage) p ≡ t =
      ap (λ k. ends here k p) count ∙ ends-more here n m p
      ∙ ap (λ v. cond {A = Acts} v (let u = ends here m t.state in record { state = u.state; notes = t.notes ++ u.notes; sent = u.sent; gone = t.gone ++ u.gone }) t) sent in
      ap (served_with bytes) all ∙ ap (λ v. record { acted = t; bytes = cond v (to_treat p - to_treat t.state) bytes; again = v }) (work-after here n p room ∙ work)

  -- where nothing is sent before the end
  pub treats-ended : (n bytes : ℕ) → 3 * bytes - stages_done p.stage ≡ n → is_none_left (ahead here n p).sent ≡ true
      → treats plain here bytes 0 p ≡ record { acted = one_after (ahead here n p) (finished plain here); bytes = bytes; again = false }
  treats-ended n bytes count none =
      let t = ahead here n p in
      let e : 3 * bytes - stages_done p.stage ≡ n + 0 = omega arith in
      let all : ends here (3 * bytes - stages_done p.stage) p ≡ one_after t (finished plain here) = ap (λ k. ends here k p) e ∙ ends-more here n 0 p in
      ap (served_with bytes) all
      ∙ ap (λ v. record { acted = one_after t (finished plain here); bytes = cond v (to_treat p - to_treat (one_after t (finished plain here)).state) bytes; again = v })
      (ap (λ v. is_some (cond {A = Acts} v (let u = finished plain here t.state in record { state = u.state; notes = t.notes ++ u.notes; sent = u.sent; gone = t.gone ++ u.gone }) t).state.in_work) none)

module _ (s s' : StoreValue) (here : Spot) (x x' : Paired) (t t' : Fates) where
  -- what a call did, where the definition comes to this
  pub treats-as : (served : Served) (v : Serving ℕ (ldterms.Discipline ℕ)) → treated_by s s' here x x' (stop_of served) ≡ v
      → Proceeds s s' x x' (all_free s) served.acts.notes.items (sent_of served.acts.sent) t t' v.acted → served.bytes ≡ v.bytes → served.again ≡ v.again → (served.stopped ≡ true → (least_free s' < STOP_BLOCKS) × (served.again ≡ false))
      → ((byte : ℕ) → byte < begun_in served.bytes served.again (under_way (stage_in x.stage)) → IsFreeBefore s x t (bytes_on here) (ldterm_in s x) byte)
      → (served.stopped ≡ true → EndsAt s s' here x x' served.bytes) → to_treat (ldterm_in s' x') ≤ to_treat (ldterm_in s x) → HasRoom s' (leaves (stage_in x'.stage))
      → (served.stopped ≡ true → HasRoom s STOP_BLOCKS → 0 < served.bytes) → TreatsAs s s' here x x' served t t'
  treats-as served v is does bytes again stops begun ends less room some = record {
    some = some;
    begun = begun;
    does = subst (λ (w : Serving ℕ (ldterms.Discipline ℕ)). Proceeds s s' x x' (all_free s) served.acts.notes.items (sent_of served.acts.sent) t t' w.acted) (sym is) does;
    bytes = bytes ∙ sym (ap (λ (w : Serving ℕ (ldterms.Discipline ℕ)). w.bytes) is);
    again = again ∙ sym (ap (λ (w : Serving ℕ (ldterms.Discipline ℕ)). w.again) is);
    stops = stops;
    ends = ends;
    less = less;
    room = room;
  }

  abbrev from : ldterms.Discipline ℕ
  from = ldterm_in s x

  -- from between two bytes on, where one has sent something
  pub into-treats : (bytes left : ℕ) (acts : frame.Acts) → stages_left (stage_in x.stage) ≡ 0 → bytes ≡ length (cells_left from) → is_some from.in_work ≡ true
      → RunsInto s s' here x x' bytes left acts.notes.items (sent_of acts.sent) t t' → TreatsAs s s' here x x' (record { acts = acts; bytes = bytes - left; stopped = false; again = true }) t t'
  into-treats bytes left acts between size work r =
      let n = 3 * (bytes - left) + 3 in
      let z = none-done from.stage between in
      let a = all-left from between in
      let f = r.fewer in
      let o = r.some in
      let out : is_none_left (ahead here n from).sent ≡ false = sym (ap is_none_left r.does.parcels) ∙ parcels-none s' (sent_of acts.sent) ∙ r.sends in
      let after = r.treat in
      let same = ap to_treat r.does.state in
      treats-as (record { acts = acts; bytes = bytes - left; stopped = false; again = true }) _
      (treats-sent here from n (3 * (left - 1)) (to_treat from) (omega arith) out (omega arith) work)
      r.does (omega arith) refl (λ e. absurd (false≢true e)) (λ byte within. r.begun byte (let u = none-begun (stage_in x.stage) between in omega arith)) (λ e. absurd (false≢true e)) (omega arith) r.room (λ e. absurd (false≢true e))

  -- and where nothing was sent, to the end of the call
  pub out-treats : (bytes left : ℕ) (notes : ArrayVec Note) (sent : Outbox) (s1 : StoreValue) (x1 : Paired) (t1 : Fates) → IsStore s1 → stages_left (stage_in x.stage) ≡ 0 → bytes ≡ length (cells_left from)
      → RunsOut s s1 here x x1 bytes left notes.items t t1 → Proceeds s1 s' x1 x' 0 [] (sent_of sent) t1 t' (finished plain here (ldterm_in s1 x1))
      → (0 < length (cells_left (ldterm_in s1 x1)) → FreesNone s1 s')
      → TreatsAs s s' here x x' (record { acts = record { notes = notes; sent = sent }; bytes = bytes - left; stopped = nat_lt 0 left; again = false }) t t'
  out-treats bytes left notes sent s1 x1 t1 st between size r e frees =
      let n = 3 * (bytes - left) in
      let z = none-done from.stage between in
      let a = all-left from between in
      let f = r.fewer in
      let none = nothing-sent s s1 x x1 (all_free s) notes.items t t1 (ahead here n from) st r.does in
      let stop : unwrap_or (stop_at (nat_lt 0 left) (bytes - left)) (to_treat from) ≡ bytes - left = at (nat_lt 0 left) refl (r.fewer, (let z = none-done from.stage between in let a = all-left from between in omega arith)) in
      let all = takes-any s s' x x' (all_free s + 0) (notes.items ++ []) (sent_of sent) t t' _ (proceeds-joined s s1 x x1 (all_free s) notes.items t t1 (ahead here n from) st r.does s' x' 0 [] (sent_of sent) t' (finished plain here) e) in
      let over : to_treat (ldterm_in s' x') ≡ 0 = ap to_treat e.state in
      let stage : leaves (stage_in x'.stage) ≡ 1 = ap (λ (q : ldterms.Discipline ℕ). leaves q.stage) e.state in
      let after = (between-after here from (bytes - left) between (omega arith) none).1 in
      let same = ap (λ (q : ldterms.Discipline ℕ). length (cells_left q)) r.does.state in
      let few : 0 < left → least_free s' < STOP_BLOCKS = λ some. stays-few s1 s' STOP_BLOCKS (frees (omega arith)) (r.stops some) in
      treats-as (record { acts = record { notes = notes; sent = sent }; bytes = bytes - left; stopped = nat_lt 0 left; again = false }) _
      (ap (λ k. treats plain here k 0 from) stop ∙ treats-ended here from n (bytes - left) (omega arith) none)
      (subst (λ ns. Proceeds s s' x x' (all_free s) ns (sent_of sent) t t' (one_after (ahead here n from) (finished plain here))) (append-nil notes.items) all)
      refl refl (λ v. (few (lower 0 left v), refl)) (λ byte within. r.begun byte (let u = none-begun (stage_in x.stage) between in omega arith)) (λ v. record { treat = omega arith; done = omega arith }) (omega arith)
      (record { mblks = (let r' = r.room.mblks in let e' = e.mblks in omega (arith, stage, r', e')); dblks = (let r' = r.room.dblks in let e' = e.dblks in omega (arith, stage, r', e')) })
      (λ v many. (let more = lower 0 left v in let less = r.some (omega (arith, more, f)) many in omega (arith, less)))
    where
      at : (v : Bool) → nat_lt 0 left ≡ v → left ≤ bytes × (to_treat from ≡ bytes) → unwrap_or (stop_at v (bytes - left)) (to_treat from) ≡ bytes - left
      at true is both = refl
      at false is both = let zero : left ≡ 0 = grind (arith, nat_tests) in let e = both.1 in omega arith

  -- neither notes more than twice
  pub into-short : (bytes left : ℕ) (notes : List Note) (sent : List Sent) → stages_left (stage_in x.stage) ≡ 0 → bytes ≡ length (cells_left from) → RunsInto s s' here x x' bytes left notes sent t t' → length notes ≤ 2
  into-short bytes left notes sent between size r =
      let z = none-done from.stage between in
      let a = all-left from between in
      let f = r.fewer in
      let o = r.some in
      let e = ap length r.does.noted in
      let two = ahead-short here (3 * (bytes - left) + 3) from (omega arith) in
      omega arith

  pub out-short : (bytes left : ℕ) (notes : List Note) → stages_left (stage_in x.stage) ≡ 0 → bytes ≡ length (cells_left from) → RunsOut s s' here x x' bytes left notes t t' → length notes ≤ 2
  out-short bytes left notes between size r =
      let z = none-done from.stage between in
      let a = all-left from between in
      let f = r.fewer in
      let e = ap length r.does.noted in
      let two = ahead-short here (3 * (bytes - left)) from (omega arith) in
      omega arith

  -- from within a byte on, up to its end or to what it has sent
  module _ (under : 0 < stages_left (stage_in x.stage)) (notes : List Note) (sent : List Sent) (a : Proceeds s s' x x' 26 notes sent t t' (ahead here (stages_left (stage_in x.stage)) from)) where
    enough : stages_left from.stage + stages_done from.stage ≤ 3 * to_treat from
    enough = let d = some-done from.stage under in let much = one-more-left from under in omega arith

    pub resumed-short : length notes ≤ 2
    resumed-short = let e = ap length a.noted in let two = ahead-short here (stages_left from.stage) from enough in omega arith

    pub resumed-work : is_some x.in_work ≡ true → is_some x'.in_work ≡ true
    resumed-work work = sym (kept-some s' x'.in_work) ∙ ap (λ (q : ldterms.Discipline ℕ). is_some q.in_work) a.state ∙ work-after here (stages_left from.stage) from enough ∙ kept-some s x.in_work ∙ work

    pub resumed-between : sent ≡ [] → stages_left (stage_in x'.stage) ≡ 0
    resumed-between quiet =
        let q = (ahead here (stages_left from.stage) from).state in
        let reach = ahead-reaches here (stages_left from.stage) from enough in
        let none : is_none_left (ahead here (stages_left from.stage) from).sent ≡ true = sym (ap is_none_left a.parcels) ∙ parcels-none s' sent ∙ ap is_none_left quiet in
        let whole = reach.all none in
        let e = reach.counts.left in
        let d = some-done from.stage under in
        let two = done-few q.stage in
        let zero : stages_done q.stage ≡ 0 = omega arith in
        ap (λ (v : ldterms.Discipline ℕ). stages_left v.stage) a.state ∙ left-none q.stage zero

  -- from within a byte on, which has sent something
  pub resumed-sends : (acts : frame.Acts) → 0 < stages_left (stage_in x.stage) → is_some from.in_work ≡ true → is_none_left (sent_of acts.sent) ≡ false
      → Proceeds s s' x x' 26 acts.notes.items (sent_of acts.sent) t t' (ahead here (stages_left from.stage) from) → HasRoom s' 26 × (stages_left (stage_in x'.stage) ≡ 1)
      → TreatsAs s s' here x x' (record { acts = acts; bytes = 0; stopped = false; again = true }) t t'
  resumed-sends acts under work sent a behind =
      let n = stages_left from.stage in
      let d = some-done from.stage under in
      let tt1 = one-more-left from under in
      let room : n + stages_done from.stage ≤ 3 * to_treat from = omega arith in
      let reach = ahead-reaches here n from room in
      let q = (ahead here n from).state in
      let out : is_none_left (ahead here n from).sent ≡ false = sym (ap is_none_left a.parcels) ∙ parcels-none s' (sent_of acts.sent) ∙ sent in
      let e = reach.counts.left in
      let w = reach.within in
      let o = reach.some out in
      let stage : stages_left q.stage ≡ 1 = sym (ap (λ (v : ldterms.Discipline ℕ). stages_left v.stage) a.state) ∙ behind.1 in
      let k = some-done q.stage (omega arith) in
      let few = left-few from.stage in
      let same : to_treat q ≡ to_treat from = omega arith in
      let there = ap to_treat a.state in
      let low : leaves (stage_in x'.stage) ≤ 26 = leaves-one (stage_in x'.stage) behind.1 in
      let rm = behind.0.mblks in
      let rd = behind.0.dblks in
      treats-as (record { acts = acts; bytes = 0; stopped = false; again = true }) _
      (treats-sent here from n (3 * (to_treat from - 1)) (to_treat from) (omega arith) out room work)
      (takes-any s s' x x' 26 acts.notes.items (sent_of acts.sent) t t' (ahead here n from) a) (omega arith) refl (λ v. absurd (false≢true v)) (λ byte within. absurd (let u = one-begun (stage_in x.stage) under in omega arith)) (λ v. absurd (false≢true v)) (omega arith) (record { mblks = omega arith; dblks = omega arith }) (λ v. absurd (false≢true v))

module _ (s s1 s' : StoreValue) (here : Spot) (x x1 x' : Paired) (t t1 t' : Fates) where
  -- before a byte that comes behind what was left of one
  begun-behind : (notes : List Note) (byte : ℕ) → IsStore s1 → Proceeds s s1 x x1 26 notes [] t t1 (ahead here (stages_left (stage_in x.stage)) (ldterm_in s x)) → stages_left (stage_in x1.stage) ≡ 0
      → IsFreeBefore s1 x1 t1 (bytes_on here) (ldterm_in s1 x1) byte → IsFreeBefore s x t (bytes_on here) (ldterm_in s x) byte
  begun-behind notes byte st a between f =
      let p = ldterm_in s x in
      let n = stages_left p.stage in
      let same : stages_left (stage_in x1.stage) + 3 * f.before ≡ 3 * f.before = omega arith in
      let on = subst (λ k. Proceeds s1 f.store x1 f.there (all_free s1) f.notes [] t1 f.told (ahead here k (ldterm_in s1 x1))) same f.reached in
      record {
        before = f.before;
        more = f.more;
        is = f.is;
        store = f.store;
        there = f.there;
        notes = notes ++ f.notes;
        told = f.told;
        reached =
            takes-any s f.store x f.there (26 + all_free s1) (notes ++ f.notes) [] t f.told (bytes_on here f.before p)
            (subst (Proceeds s f.store x f.there (26 + all_free s1) (notes ++ f.notes) [] t f.told) (sym (ahead-more here n (3 * f.before) p))
            (proceeds-joined s s1 x x1 26 notes t t1 (ahead here n p) st a f.store f.there (all_free s1) f.notes [] f.told (ahead here (3 * f.before)) on));
        free = f.free;
      }

  -- from within a byte on that has sent nothing, and then on
  pub resumed-goes-on : (notes : List Note) (served : Served) (all : ArrayVec Note) → IsStore s1 → 0 < stages_left (stage_in x.stage) → all.items ≡ notes ++ served.acts.notes.items
      → Proceeds s s1 x x1 26 notes [] t t1 (ahead here (stages_left (stage_in x.stage)) (ldterm_in s x)) → TreatsAs s1 s' here x1 x' served t1 t'
      → TreatsAs s s' here x x' (record { acts = record { notes = all; sent = served.acts.sent }; bytes = served.bytes + 1; stopped = served.stopped; again = served.again }) t t'
  resumed-goes-on notes served all st under noted a b =
      let p = ldterm_in s x in
      let p1 = ldterm_in s1 x1 in
      let n = stages_left p.stage in
      let d = some-done p.stage under in
      let much = one-more-left p under in
      let room : n + stages_done p.stage ≤ 3 * to_treat p = omega arith in
      let reach = ahead-reaches here n p room in
      let none = nothing-sent s s1 x x1 26 notes t t1 (ahead here n p) st a in
      let whole = reach.all none in
      let e = reach.counts.left in
      let two = done-few (ahead here n p).state.stage in
      let same = ap to_treat a.state in
      let rest = ap (λ (q : ldterms.Discipline ℕ). stages_done q.stage) a.state in
      let one : to_treat p ≡ to_treat p1 + 1 = omega arith in
      let zero : stages_done p1.stage ≡ 0 = omega arith in
      let k = unwrap_or (stop_of served) (to_treat p1) in
      let more : unwrap_or (stop_at served.stopped (served.bytes + 1)) (to_treat p) ≡ k + 1 = at served.stopped served.bytes one in
      let u = ends here (3 * k) p1 in
      let rest-is : treated_by s1 s' here x1 x' (stop_of served) ≡ served_with here p1 k u = ap (λ j. served_with here p1 k (ends here j p1)) (let h : 3 * k - stages_done p1.stage ≡ 3 * k = omega arith in h) in
      let next : Acts → Acts = λ v. record { state = v.state; notes = (ahead here n p).notes ++ v.notes; sent = v.sent; gone = (ahead here n p).gone ++ v.gone } in
      let going : ends here (3 * (k + 1) - stages_done p.stage) p ≡ next u =
      ap (λ j. ends here j p) (let h : 3 * (k + 1) - stages_done p.stage ≡ n + 3 * k = omega arith in h)
      ∙ ends-more here n (3 * k) p
      ∙ ap (λ v. cond {A = Acts} v (next (ends here (3 * k) (ahead here n p).state)) (ahead here n p)) none
      ∙ ap (λ (q : ldterms.Discipline ℕ). next (ends here (3 * k) q)) (sym a.state) in
      let does = subst (λ (v : Serving ℕ (ldterms.Discipline ℕ)). Proceeds s1 s' x1 x' (all_free s1) served.acts.notes.items (sent_of served.acts.sent) t1 t' v.acted) rest-is b.does in
      let behind = ap to_treat does.state in
      let less = b.less in
      let count : served.bytes ≡ cond (is_some u.state.in_work) (to_treat p1 - to_treat u.state) k = b.bytes ∙ ap (λ (v : Serving ℕ (ldterms.Discipline ℕ)). v.bytes) rest-is in
      let again : served.again ≡ is_some u.state.in_work = b.again ∙ ap (λ (v : Serving ℕ (ldterms.Discipline ℕ)). v.again) rest-is in
      let joined = takes-any s s' x x' (26 + all_free s1) (notes ++ served.acts.notes.items) (sent_of served.acts.sent) t t' _ (proceeds-joined s s1 x x1 26 notes t t1 (ahead here n p) st a s' x' (all_free s1) served.acts.notes.items (sent_of served.acts.sent) t' (ends here (3 * k)) does) in
      treats-as s s' here x x' t t' (record { acts = record { notes = all; sent = served.acts.sent }; bytes = served.bytes + 1; stopped = served.stopped; again = served.again }) (served_with here p (k + 1) (next u))
      (ap (λ j. treats plain here j 0 p) more ∙ ap (served_with here p (k + 1)) going)
      (subst (λ ns. Proceeds s s' x x' (all_free s) ns (sent_of served.acts.sent) t t' (next u)) (sym noted)
      (subst (Proceeds s s' x x' (all_free s) (notes ++ served.acts.notes.items) (sent_of served.acts.sent) t t')
      (ap (λ v. cond {A = Acts} v (next (ends here (3 * k) (ahead here n p).state)) (ahead here n p)) none ∙ ap (λ (q : ldterms.Discipline ℕ). next (ends here (3 * k) q)) (sym a.state)) joined))
      (ap (λ j. j + 1) count ∙ plus (is_some u.state.in_work) (to_treat u.state) (to_treat p1) (to_treat p) k (omega arith) one)
      again b.stops
      (λ byte within.
      let u = one-begun (stage_in x.stage) under in
      let w = none-begun (stage_in x1.stage) (left-none p1.stage zero) in
      begun-behind notes byte st a (left-none p1.stage zero) (b.begun byte (omega arith)))
      (λ v. let less = (b.ends v).treat in record { treat = omega arith; done = omega arith }) (omega arith) b.room (λ v many. omega arith)
    where
      at : (v : Bool) (m : ℕ) → to_treat (ldterm_in s x) ≡ to_treat (ldterm_in s1 x1) + 1 → unwrap_or (stop_at v (m + 1)) (to_treat (ldterm_in s x)) ≡ unwrap_or (stop_at v m) (to_treat (ldterm_in s1 x1)) + 1
      at true m one = refl
      at false m one = one

      plus : (v : Bool) (u a b k : ℕ) → u ≤ a → b ≡ a + 1 → cond {A = ℕ} v (a - u) k + 1 ≡ cond v (b - u) (k + 1)
      plus true u a b k less one = omega arith
      plus false u a b k less one = refl
