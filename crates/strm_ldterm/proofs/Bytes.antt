-- Bytes of the message in work, one after the other.
use Rattle.strm_ldterm.proofs.Prelude.{ℕ, ◌≡◌, ◌≤◌, ◌<◌, ◌+◌, ◌-◌, ◌*◌, ◌⊎◌, inl, inr, Bool, true, false, List, [], ◌++◌, length, refl, sym, ap}
use Rattle.strm_ldterm.proofs.Prelude.{subst, ◌∙◌, arith, Option, None, Some, is_some, nat_lt, nat_tests}
use Rattle.strm_ldterm.specs.Prelude.{STOP_BLOCKS, Fates, Note, Spot, cells_left, stages_done, to_treat, Between, Begun, Answered, is_none_left}
use Rattle.strm_ldterm.specs.Prelude.{StoreValue, IsStore, Sent, HasRoom, least_free, InHand}
use Rattle.strm_types.specs.Ldterms as ldterms
use Rattle.strm_ldterm.specs.Called.{RunsInto}
use Rattle.strm_ldterm.specs.Does.{Proceeds}
use Rattle.strm_ldterm.specs.FreeBefore.{IsFreeBefore, all_free, blocks_grown}
use Rattle.strm_ldterm.specs.Stands.{kept_in, ldterm_in, stage_in, Paired}
use Rattle.strm_ldterm.specs.Turns.{ahead, bytes_on, leaves, notes_left, stages_left, under_way}
use Rattle.strm_ldterm.proofs.Counting.{ahead-reaches}
use Rattle.strm_ldterm.proofs.FreeBefore.{each-more, free-next}
use Rattle.strm_ldterm.proofs.Joining.{parcels-none, proceeds-joined}
use Rattle.strm_ldterm.proofs.Treated.{none-under-way}
use Rattle.strm_ldterm.proofs.Turning.{Acts, ahead-more}

-- how far a byte is
pub done-few : (stage : ldterms.Stage ℕ) → stages_done stage ≤ 2
done-few Between = omega arith
done-few (Begun started c) = omega arith
done-few (Answered echo) = omega arith

pub none-done : (stage : ldterms.Stage ℕ) → stages_left stage ≡ 0 → stages_done stage ≡ 0
none-done Between e = refl
none-done (Begun started c) e = absurd (omega arith)
none-done (Answered echo) e = absurd (omega arith)

pub some-done : (stage : ldterms.Stage ℕ) → 0 < stages_left stage → stages_done stage + stages_left stage ≡ 3
some-done Between e = absurd (omega arith)
some-done (Begun started c) e = refl
some-done (Answered echo) e = refl

-- whether one has begun
pub none-begun : (stage : ldterms.Stage ℕ) → stages_left stage ≡ 0 → under_way stage ≡ 0
none-begun Between e = refl
none-begun (Begun started c) e = absurd (omega arith)
none-begun (Answered echo) e = absurd (omega arith)

pub one-begun : (stage : ldterms.Stage ℕ) → 0 < stages_left stage → under_way stage ≡ 1
one-begun Between e = absurd (omega arith)
one-begun (Begun started c) e = refl
one-begun (Answered echo) e = refl

pub left-few : (stage : ldterms.Stage ℕ) → stages_left stage ≤ 2
left-few Between = omega arith
left-few (Begun started c) = omega arith
left-few (Answered echo) = omega arith

pub leaves-one : (stage : ldterms.Stage ℕ) → stages_left stage ≡ 1 → leaves stage ≤ 26
leaves-one Between e = omega arith
leaves-one (Begun started c) e = absurd (omega arith)
leaves-one (Answered echo) e = omega arith

-- a test of numbers
pub lower : (a b : ℕ) → nat_lt a b ≡ true → a < b
lower a b is = grind (arith, nat_tests)

pub are-many : (s : StoreValue) → nat_lt (least_free s) STOP_BLOCKS ≡ false → HasRoom s STOP_BLOCKS
are-many s is = record { mblks = grind (arith, nat_tests); dblks = grind (arith, nat_tests) }

pub not-few : (s : StoreValue) → HasRoom s STOP_BLOCKS → least_free s < STOP_BLOCKS → ⊥
not-few s many few = let m = many.mblks in let d = many.dblks in omega (arith, m, d, few)

-- some were treated, or blocks would be many still
pub some-went : (s0 s : StoreValue) (bytes left : ℕ) → (left < bytes) ⊎ (HasRoom s0 STOP_BLOCKS → HasRoom s STOP_BLOCKS) → least_free s < STOP_BLOCKS → HasRoom s0 STOP_BLOCKS → left < bytes
some-went s0 s bytes left (inl fewer) few many = fewer
some-went s0 s bytes left (inr stays) few many = absurd (not-few s (stays many) few)

pub kept-some : (s : StoreValue) (o : Option InHand) → is_some (kept_in s o) ≡ is_some o
kept-some s None = refl
kept-some s (Some m) = refl

-- a message in work stays one
pub still-works : (s t : StoreValue) (x x' : Paired) (p : ldterms.Discipline ℕ) → ldterm_in t x' ≡ p → is_some p.in_work ≡ is_some (ldterm_in s x).in_work → is_some x.in_work ≡ true → is_some x'.in_work ≡ true
still-works s t x x' p state same busy = sym (kept-some t x'.in_work) ∙ ap (λ (q : ldterms.Discipline ℕ). is_some q.in_work) state ∙ same ∙ kept-some s x.in_work ∙ busy

pub left-none : (stage : ldterms.Stage ℕ) → stages_done stage ≡ 0 → stages_left stage ≡ 0
left-none Between e = refl
left-none (Begun started c) e = absurd (omega arith)
left-none (Answered echo) e = absurd (omega arith)

-- between two bytes all that is left of the message is to be treated
pub all-left : (p : ldterms.Discipline ℕ) → stages_left p.stage ≡ 0 → to_treat p ≡ length (cells_left p)
all-left p none = (let z : to_treat (record p { stage = Between }) ≡ length (cells_left p) = omega arith in ap (λ (st : ldterms.Stage ℕ). to_treat (record p { stage = st })) (none-under-way p.stage none) ∙ z)

pub one-more-left : (p : ldterms.Discipline ℕ) → 0 < stages_left p.stage → to_treat p ≡ length (cells_left p) + 1
one-more-left p some = at p.stage refl some
  where
    at : (st : ldterms.Stage ℕ) → p.stage ≡ st → 0 < stages_left st → to_treat p ≡ length (cells_left p) + 1
    at Between is some = absurd (omega arith)
    at (Begun started c) is some = ap (λ (st : ldterms.Stage ℕ). to_treat (record p { stage = st })) is
    at (Answered echo) is some = ap (λ (st : ldterms.Stage ℕ). to_treat (record p { stage = st })) is

notes-two : (p : ldterms.Discipline ℕ) → notes_left p ≤ 2
notes-two p = at p.stage p.echoing
  where
    at : (st : ldterms.Stage ℕ) (v : Bool) → notes_left (record p { stage = st; echoing = v }) ≤ 2
    at Between true = omega arith
    at Between false = omega arith
    at (Begun true c) true = omega arith
    at (Begun true c) false = omega arith
    at (Begun false c) true = omega arith
    at (Begun false c) false = omega arith
    at (Answered echo) true = omega arith
    at (Answered echo) false = omega arith

module _ (here : Spot) where
  -- no call notes more than twice
  pub ahead-short : (n : ℕ) (p : ldterms.Discipline ℕ) → n + stages_done p.stage ≤ 3 * to_treat p → length (ahead here n p).notes ≤ 2
  ahead-short n p room = let r = (ahead-reaches here n p room).counts.few in let two = notes-two p in omega arith

  module _ (p : ldterms.Discipline ℕ) (n : ℕ) (between : stages_left p.stage ≡ 0) (within : n ≤ length (cells_left p)) where
    fits : 3 * n + stages_done p.stage ≤ 3 * to_treat p
    fits = let z = none-done p.stage between in let t = all-left p between in omega arith

    -- behind so many bytes that have sent nothing
    pub between-after : is_none_left (ahead here (3 * n) p).sent ≡ true → (stages_left (ahead here (3 * n) p).state.stage ≡ 0) × (length (cells_left (ahead here (3 * n) p).state) + n ≡ length (cells_left p))
    between-after none =
        let r = ahead-reaches here (3 * n) p fits in
        let q = (ahead here (3 * n) p).state in
        let all = r.all none in
        let e = r.counts.left in
        let z = none-done p.stage between in
        let t = all-left p between in
        let two = done-few q.stage in
        let zero : stages_done q.stage ≡ 0 = omega arith in
        let stage = left-none q.stage zero in
        let u = all-left q stage in
        (stage, omega arith)

  -- a byte that has sent something is to be treated still
  pub treat-after : (p : ldterms.Discipline ℕ) → stages_left p.stage ≡ 0 → 0 < length (cells_left p) → is_none_left (ahead here 3 p).sent ≡ false → 0 < stages_left (ahead here 3 p).state.stage → to_treat (ahead here 3 p).state ≡ length (cells_left p)
  treat-after p between some sent under =
      let z = none-done p.stage between in
      let t = all-left p between in
      let r = ahead-reaches here 3 p (omega arith) in
      let q = (ahead here 3 p).state in
      let e = r.counts.left in
      let w = r.within in
      let o = r.some sent in
      let d = some-done q.stage under in
      let two = left-few q.stage in
      omega arith

  -- the message in work stays one
  pub work-after : (n : ℕ) (p : ldterms.Discipline ℕ) → n + stages_done p.stage ≤ 3 * to_treat p → is_some (ahead here n p).state.in_work ≡ is_some p.in_work
  work-after n p room = (ahead-reaches here n p room).counts.work

-- all that is free may be said to be taken
pub takes-any : (s0 s : StoreValue) (x0 x : Paired) (k : ℕ) (notes : List Note) (sent : List Sent) (t0 t : Fates) (is : Acts) → Proceeds s0 s x0 x k notes sent t0 t is → Proceeds s0 s x0 x (all_free s0) notes sent t0 t is
takes-any s0 s x0 x k notes sent t0 t is a = record {
  state = a.state;
  noted = a.noted;
  parcels = a.parcels;
  told = a.told;
  held = a.held;
  own = a.own;
  chains = a.chains;
  hands = a.hands;
  mblks = omega arith;
  dblks = omega arith;
  pool = a.pool;
}

-- Of so many bytes some were treated, and nothing was sent.
pub record Ran (s0 s : StoreValue) (here : Spot) (x0 x : Paired) (bytes left : ℕ) (notes : List Note) (t0 t : Fates) : Type 0 where
  pub fewer : left ≤ bytes
  pub does : Proceeds s0 s x0 x (all_free s0) notes [] t0 t (ahead here (3 * (bytes - left)) (ldterm_in s0 x0))
  pub begun : (byte : ℕ) → byte < bytes - left → IsFreeBefore s0 x0 t0 (bytes_on here) (ldterm_in s0 x0) byte
  pub room : HasRoom s 1
  pub some : (left < bytes) ⊎ (HasRoom s0 STOP_BLOCKS → HasRoom s STOP_BLOCKS)

-- none was treated yet
pub ran-none : (s0 : StoreValue) (here : Spot) (x0 : Paired) (bytes : ℕ) (t0 : Fates) → Proceeds s0 s0 x0 x0 0 [] [] t0 t0 (ldterms.sends [] (ldterm_in s0 x0)) → HasRoom s0 1 → Ran s0 s0 here x0 x0 bytes bytes [] t0 t0
ran-none s0 here x0 bytes t0 still room = record {
  room = room;
  some = inr (λ many. many);
  fewer = omega arith;
  begun = λ byte less. absurd (omega arith);
  does = (let zero : 0 ≡ 3 * (bytes - bytes) = omega arith in takes-any s0 s0 x0 x0 0 [] [] t0 t0 (ahead here (3 * (bytes - bytes)) (ldterm_in s0 x0)) (subst (λ n. Proceeds s0 s0 x0 x0 0 [] [] t0 t0 (ahead here n (ldterm_in s0 x0))) zero still));
}

module _ (s0 s : StoreValue) (x0 x : Paired) (here : Spot) (bytes left : ℕ) (notes : List Note) (t0 t : Fates) (stage : stages_left (stage_in x0.stage) ≡ 0)
    (size : bytes ≡ length (cells_left (ldterm_in s0 x0))) (r : Ran s0 s here x0 x bytes left notes t0 t) where
  abbrev p0 : ldterms.Discipline ℕ
  p0 = ldterm_in s0 x0

  abbrev p : ldterms.Discipline ℕ
  p = ldterm_in s x

  abbrev n : ℕ
  n = bytes - left

  none : is_none_left (ahead here (3 * n) p0).sent ≡ true
  none = sym (ap is_none_left r.does.parcels) ∙ parcels-none s []

  within : n ≤ length (cells_left p0)
  within = let z = size in omega arith

  pub ran-stage : stages_left (stage_in x.stage) ≡ 0
  ran-stage = ap (λ (q : ldterms.Discipline ℕ). stages_left q.stage) r.does.state ∙ (between-after here p0 n stage within none).0

  pub ran-left : length (cells_left p) ≡ left
  ran-left =
      let same = ap (λ (q : ldterms.Discipline ℕ). length (cells_left q)) r.does.state in
      let after = (between-after here p0 n stage within none).1 in
      let z = size in
      let f = r.fewer in
      omega arith

  -- before the byte that is so many behind
  free-before : (more : ℕ) → HasRoom s (STOP_BLOCKS + blocks_grown p (bytes_on here more p).state) → IsFreeBefore s0 x0 t0 (bytes_on here) p0 (n + more)
  free-before more free = record {
    before = n;
    more = more;
    is = refl;
    store = s;
    there = x;
    notes = notes;
    told = t;
    reached = (let same : 3 * n ≡ stages_left p0.stage + 3 * n = omega arith in subst (λ k. Proceeds s0 s x0 x (all_free s0) notes [] t0 t (ahead here k p0)) same r.does);
    free = free;
  }

  pub begun-on : (k : ℕ) → ((byte : ℕ) → byte < k → HasRoom s (STOP_BLOCKS + blocks_grown p (bytes_on here byte p).state)) → (byte : ℕ) → byte < n + k → IsFreeBefore s0 x0 t0 (bytes_on here) p0 byte
  begun-on k more = each-more (IsFreeBefore s0 x0 t0 (bytes_on here) p0) n k r.begun (λ byte within. free-before byte (more byte within))

  -- one more, where so many blocks are free
  pub begun-one : HasRoom s STOP_BLOCKS → (byte : ℕ) → byte < 1 → HasRoom s (STOP_BLOCKS + blocks_grown p (bytes_on here byte p).state)
  begun-one many = free-next here s p ran-stage many

  short : length notes ≤ 2
  short = let f = fits here p0 n stage within in let a = ahead-short here (3 * n) p0 f in let e = ap length r.does.noted in omega arith

  -- and so many more, in blocks of which so many are taken
  module _ (s' : StoreValue) (x' : Paired) (k j : ℕ) (notes' : List Note) (sent' : List Sent) (t' : Fates) (most : j ≤ left) (b : Proceeds s s' x x' k notes' sent' t t' (ahead here (3 * j) p)) where
    more : 3 * j + stages_done p.stage ≤ 3 * to_treat p
    more = let z = none-done p.stage ran-stage in let a = all-left p ran-stage in let l = ran-left in omega arith

    pub notes-fit : length notes + length notes' ≤ 4
    notes-fit = let a = short in let c = ahead-short here (3 * j) p more in let e = ap length b.noted in omega arith

    room-behind : HasRoom s STOP_BLOCKS → k < STOP_BLOCKS → HasRoom s' 1
    room-behind many less = record { mblks = (let m = many.mblks in let b' = b.mblks in omega (arith, m, b', less)); dblks = (let m = many.dblks in let b' = b.dblks in omega (arith, m, b', less)) }

    module _ (st : IsStore s) where
      joined : Proceeds s0 s' x0 x' (all_free s0) (notes ++ notes') sent' t0 t' (ahead here (3 * n + 3 * j) p0)
      joined =
          takes-any s0 s' x0 x' (all_free s0 + k) (notes ++ notes') sent' t0 t' (ahead here (3 * n + 3 * j) p0)
          (subst (Proceeds s0 s' x0 x' (all_free s0 + k) (notes ++ notes') sent' t0 t') (sym (ahead-more here (3 * n) (3 * j) p0))
          (proceeds-joined s0 s x0 x (all_free s0) notes t0 t (ahead here (3 * n) p0) st r.does s' x' k notes' sent' t' (ahead here (3 * j)) b))

      pub ran-next : sent' ≡ [] → HasRoom s STOP_BLOCKS → k < STOP_BLOCKS → ((byte : ℕ) → byte < j → HasRoom s (STOP_BLOCKS + blocks_grown p (bytes_on here byte p).state))
          → (0 < j) ⊎ (HasRoom s STOP_BLOCKS → HasRoom s' STOP_BLOCKS) → Ran s0 s' here x0 x' bytes (left - j) (notes ++ notes') t0 t'
      ran-next quiet many less begins stays = record {
        some = elim stays [
          | inl one ↦ inl (let f = r.fewer in omega (arith, f, one, most))
          | inr on ↦ elim r.some [
            | inl fewer ↦ inl (omega (arith, fewer))
            | inr kept ↦ inr (λ first. on (kept first))
          ]
        ];
        begun = λ byte within. begun-on j begins byte (let f = r.fewer in omega arith);
        room = room-behind many less;
        fewer = (let f = r.fewer in omega arith);
        does =
            (let f = r.fewer in let e : 3 * n + 3 * j ≡ 3 * (bytes - (left - j)) = omega arith in
            subst (λ i. Proceeds s0 s' x0 x' (all_free s0) (notes ++ notes') [] t0 t' (ahead here i p0)) e
            (subst (λ out. Proceeds s0 s' x0 x' (all_free s0) (notes ++ notes') out t0 t' (ahead here (3 * n + 3 * j) p0)) quiet joined));
      }

  -- a run of so many, and all that is noted
  pub ran-run : (s' : StoreValue) (x' : Paired) (j : ℕ) (notes' all : List Note) (t' : Fates) → IsStore s → j ≤ length (cells_left p) → all ≡ notes ++ notes' → Proceeds s s' x x' 2 notes' [] t t' (ahead here (3 * j) p)
      → HasRoom s STOP_BLOCKS → ((byte : ℕ) → byte < j → HasRoom s (STOP_BLOCKS + blocks_grown p (bytes_on here byte p).state)) → (HasRoom s STOP_BLOCKS → HasRoom s' STOP_BLOCKS)
      → Ran s0 s' here x0 x' bytes (left - j) all t0 t'
  ran-run s' x' j notes' all t' st within joined b many begins stays =
      subst (λ ns. Ran s0 s' here x0 x' bytes (left - j) ns t0 t') (sym joined) (ran-next s' x' 2 j notes' [] t' (let l = ran-left in omega arith) b st refl many (omega arith) begins (inr stays))

  -- or one that has sent something
  pub runs-into : (s' : StoreValue) (x' : Paired) (notes' : List Note) (sent' : List Sent) (t' : Fates) → 0 < left → HasRoom s STOP_BLOCKS → Proceeds s s' x x' 27 notes' sent' t t' (ahead here 3 p) → IsStore s
      → is_none_left sent' ≡ false → HasRoom s' (leaves (stage_in x'.stage)) × (0 < stages_left (stage_in x'.stage)) → RunsInto s0 s' here x0 x' bytes left (notes ++ notes') sent' t0 t'
  runs-into s' x' notes' sent' t' some many b st sent behind = record {
    begun = λ byte within. begun-on 1 (begun-one many) byte (omega arith);
    fewer = r.fewer;
    some = some;
    sends = sent;
    does = joined s' x' 27 1 notes' sent' t' some b st;
    under_way = behind.1;
    room = behind.0;
    treat =
        (let q = (ahead here 3 p).state in
        let out : is_none_left (ahead here 3 p).sent ≡ false = sym (ap is_none_left b.parcels) ∙ parcels-none s' sent' ∙ sent in
        let under : 0 < stages_left q.stage = (let e = ap (λ (v : ldterms.Discipline ℕ). stages_left v.stage) b.state in let u = behind.1 in omega arith) in
        let l = ran-left in
        ap to_treat b.state ∙ treat-after here p ran-stage (omega arith) out under ∙ l);
  }
