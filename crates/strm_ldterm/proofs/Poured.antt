-- Output on a store: bytes of the message in work that go out, one after the other.
use Rattle.strm_ldterm.proofs.Prelude.{ℕ, zero, suc, ◌≡◌, ◌≤◌, ◌<◌, ◌+◌, ◌-◌, ◌⊎◌, inl, inr, true, List, [], ◌++◌, length, drop, take, refl, sym, ap}
use Rattle.strm_ldterm.proofs.Prelude.{subst, ◌∙◌, arith, append-nil, length-append, length-drop, is_some}
use Rattle.strm_ldterm.specs.Prelude.{STOP_BLOCKS, Fates, Spot, plain, Acted, Fate, tallied, cells_left, with_left, sends, Output, posts, output_dir}
use Rattle.strm_ldterm.specs.Prelude.{StoreValue, IsStore, Sent, HasRoom}
use Rattle.strm_types.specs.Ldterms as ldterms
use Rattle.strm_ldterm.specs.declared.output_runs.Flow.{Flow}
use Rattle.strm_ldterm.specs.FreeBefore.{IsFreeBefore, all_free, blocks_grown}
use Rattle.strm_ldterm.specs.Does.{Proceeds}
use Rattle.strm_ldterm.specs.Posting.{FlowsAs, poured}
use Rattle.strm_ldterm.specs.Stands.{IsHeld, ldterm_in, Paired}
use Rattle.strm_ldterm.specs.Turns.{one_after}
use Rattle.strm_ldterm.proofs.Bytes.{kept-some}
use Rattle.strm_ldterm.proofs.Flows.{out-fewer}
use Rattle.strm_ldterm.proofs.FreeBefore.{each-more, grown-two, room-for, room-none}
use Rattle.strm_ldterm.proofs.Joining.{proceeds-joined, stays-so}
use Rattle.strm_ldterm.proofs.Pouring.{pours-both, pours-left, pours-work}
use Rattle.strm_ldterm.proofs.RunsDone.{left-whole}

-- the column behind a stage is another one, and more has gone
pub turned : (s t : StoreValue) (x y : Paired) (n column : ℕ) (sent : List Sent) (f f' : Fates) (gone : List (Fate ℕ)) (is : Acted ℕ (ldterms.Discipline ℕ)) → Proceeds s t x y n [] sent f f is → f' ≡ tallied gone f
    → Proceeds s t x (record y { column = column }) n [] sent f f' (record is { state = record is.state { column = column }; gone = gone })
turned s t x y n column sent f f' gone is did counts = record {
  state = ap (λ (p : ldterms.Discipline ℕ). record p { column = column }) did.state;
  noted = did.noted;
  parcels = did.parcels;
  told = counts;
  held = record {
    read = did.held.read;
    write = did.held.write;
    apart = did.held.apart;
    work = did.held.work;
    gathers = did.held.gathers;
    echoes = did.held.echoes;
    once_each = did.held.once_each;
  };
  own = record { lists = did.own.lists; owns_same = did.own.owns_same };
  chains = did.chains;
  hands = record { counts = did.hands.counts; others = did.hands.others };
  mblks = did.mblks;
  dblks = did.dblks;
  pool = did.pool;
}

-- so many bytes are taken off the front, what they give is gathered, and the carriage moves
module _ (here : Spot) (s s1 s2 : StoreValue) (x x1 x2 : Paired) (n : ℕ) (u : Output ℕ) (f f' : Fates) (st : IsStore s1) where
  abbrev p : ldterms.Discipline ℕ
  p = ldterm_in s x

  abbrev rest : ldterms.Discipline ℕ
  rest = with_left (drop n (cells_left p)) p

  pub pours-so : Proceeds s s1 x x1 0 [] [] f f (sends [] rest)
      → Proceeds s1 s2 x1 x2 1 [] [] f f (sends [] (record (ldterm_in s1 x1) { gathered = (ldterm_in s1 x1).gathered ++ u.given }))
      → posts plain (output_dir plain here) 0 p.termios p.column (take n (cells_left p)) ≡ u → f' ≡ tallied u.told f
      → Proceeds s s2 x (record x2 { column = u.column }) 1 [] [] f f' (poured here n p)
  pours-so front gathers is counts =
      let next : ldterms.Discipline ℕ → Acted ℕ (ldterms.Discipline ℕ) = λ q. sends [] (record q { gathered = q.gathered ++ u.given }) in
      let did = proceeds-joined s s1 x x1 0 [] f f (sends [] rest) st front s2 x2 1 [] [] f next gathers in
      subst (λ (w : Output ℕ). Proceeds s s2 x (record x2 { column = u.column }) 1 [] [] f f'
      (record { state = record rest { gathered = p.gathered ++ w.given; column = w.column }; notes = []; sent = []; gone = w.told })) (sym is)
      (turned s s2 x x2 1 u.column [] f f' u.told (one_after (sends [] rest) next) did counts)

-- what the first bytes of a block gave is gathered, where nothing was given before
pub pours-flow : (here : Spot) (s s1 s2 : StoreValue) (x x1 x2 : Paired) (f f' : Fates) → IsStore s1 → (n : ℕ) (front : List ℕ) (y z : Flow) → y.given.items ≡ [] → y.column ≡ x.column
    → FlowsAs here x.termios front n y z f f' → (let p = ldterm_in s x in take n (cells_left p) ≡ take n front × Proceeds s s1 x x1 0 [] [] f f (sends [] (with_left (drop n (cells_left p)) p)))
    → Proceeds s1 s2 x1 x2 1 [] [] f f (sends [] (record (ldterm_in s1 x1) { gathered = (ldterm_in s1 x1).gathered ++ z.given.items }))
    → Proceeds s s2 x (record x2 { column = z.column }) 1 [] [] f f' (poured here n (ldterm_in s x))
pours-flow here s s1 s2 x x1 x2 f f' st n front y z none from flows taken gathers =
    let u = posts plain (output_dir plain here) 0 x.termios y.column (take n front) in
    let given : z.given.items ≡ u.given = flows.given ∙ ap (λ l. l ++ u.given) none in
    subst (λ k. Proceeds s s2 x (record x2 { column = k }) 1 [] [] f f' (poured here n (ldterm_in s x))) (sym flows.column)
    (pours-so here s s1 s2 x x1 x2 n u f f' st taken.1
    (subst (λ l. Proceeds s1 s2 x1 x2 1 [] [] f f (sends [] (record (ldterm_in s1 x1) { gathered = (ldterm_in s1 x1).gathered ++ l }))) given gathers)
    (ap (posts plain (output_dir plain here) 0 x.termios x.column) taken.0 ∙ ap (λ k. posts plain (output_dir plain here) 0 x.termios k (take n front)) (sym from)) flows.told)

-- what is gathered is longer by what so many bytes give, and the echo is the same
pours-grown : (here : Spot) (p : ldterms.Discipline ℕ) (n k : ℕ) → length (poured here n p).state.gathered ≡ length p.gathered + k → k ≤ 256 → blocks_grown p (poured here n p).state ≤ 2
pours-grown here p n k long few = grown-two p (poured here n p).state (omega arith) (omega arith)

-- the next byte begins with blocks enough, where so many are free
pub byte-begins : (here : Spot) (s : StoreValue) (x : Paired) → HasRoom s STOP_BLOCKS → (byte : ℕ) → byte < 1 → HasRoom s (STOP_BLOCKS + blocks_grown (ldterm_in s x) (poured here byte (ldterm_in s x)).state)
byte-begins here s x room zero first =
    let p = ldterm_in s x in
    let l = ap length (append-nil p.gathered) in
    room-none s (blocks_grown p (poured here 0 p).state) room (omega (arith, l))
byte-begins here s x room (suc n) first = absurd (omega arith)

-- so does each of those that give no more than a block has room for
pub flow-begins : (here : Spot) (s : StoreValue) (x : Paired) (n : ℕ) → HasRoom s STOP_BLOCKS → (1 < n → HasRoom s (STOP_BLOCKS + 2))
    → length (posts plain (output_dir plain here) 0 x.termios x.column (take n (cells_left (ldterm_in s x)))).given ≤ 256
    → (byte : ℕ) → byte < n → HasRoom s (STOP_BLOCKS + blocks_grown (ldterm_in s x) (poured here byte (ldterm_in s x)).state)
flow-begins here s x n one more few zero within = byte-begins here s x one zero (omega arith)
flow-begins here s x n one more few (suc k) within =
    let p = ldterm_in s x in
    let cells = cells_left p in
    let given : ℕ → List ℕ = λ b. (posts plain (output_dir plain here) 0 x.termios x.column (take b cells)).given in
    let behind : suc k + (n - suc k) ≡ n = omega (arith, within) in
    let less : length (given (suc k)) ≤ length (given n) =
    subst (λ b. length (given (suc k)) ≤ length (given b)) behind (out-fewer (output_dir plain here) x.termios x.column (suc k) (n - suc k) cells) in
    room-for s (blocks_grown p (poured here (suc k) p).state) (more (omega (arith, within)))
    (pours-grown here p (suc k) (length (given (suc k))) (length-append p.gathered (given (suc k))) (omega (arith, less, few)))

-- of so many bytes all went out but those that are left
pub record Pours (s t : StoreValue) (here : Spot) (x y : Paired) (bytes left : ℕ) (f f' : Fates) : Type 0 where
  pub fewer : left ≤ bytes
  pub does : Proceeds s t x y (all_free s) [] [] f f' (poured here (bytes - left) (ldterm_in s x))
  pub begun : (byte : ℕ) → byte < bytes - left → IsFreeBefore s x f (poured here) (ldterm_in s x) byte
  pub some : (left < bytes) ⊎ (HasRoom s STOP_BLOCKS → HasRoom t STOP_BLOCKS)

pub pours-none : (s : StoreValue) (here : Spot) (x : Paired) (bytes : ℕ) (f : Fates) → IsHeld s x → Pours s s here x x bytes bytes f f
pours-none s here x bytes f held = record {
  begun = λ byte less. absurd (omega arith);
  some = inr (λ many. many);
  fewer = omega arith;
  does =
      let p = ldterm_in s x in
      let none : bytes - bytes ≡ 0 = omega arith in
      let so = stays-so s x f held in
      let whole : with_left (cells_left p) p ≡ p = left-whole s x held in
      subst (λ n. Proceeds s s x x (all_free s) [] [] f f (poured here n p)) (sym none)
      (record {
        state = sym (ap (λ (q : ldterms.Discipline ℕ). record q { gathered = p.gathered ++ [] }) whole ∙ ap (λ g. record p { gathered = g }) (append-nil p.gathered));
        noted = refl;
        parcels = so.parcels;
        told = refl;
        held = held;
        own = so.own;
        chains = so.chains;
        hands = so.hands;
        mblks = omega arith;
        dblks = omega arith;
        pool = so.pool;
      });
}

module _ (s t : StoreValue) (here : Spot) (x y : Paired) (bytes left : ℕ) (f f1 : Fates) (some : is_some x.in_work ≡ true) (is : bytes ≡ length (cells_left (ldterm_in s x))) (so : Pours s t here x y bytes left f f1) where
  work-there : is_some (ldterm_in s x).in_work ≡ true
  work-there = kept-some s x.in_work ∙ some

  pub pours-some : is_some y.in_work ≡ true
  pours-some = sym (kept-some t y.in_work) ∙ ap (λ (q : ldterms.Discipline ℕ). is_some q.in_work) so.does.state ∙ pours-work here (bytes - left) (ldterm_in s x) work-there

  pub pours-termios : y.termios ≡ x.termios
  pours-termios = ap (λ (q : ldterms.Discipline ℕ). q.termios) so.does.state

  pub pours-are : length (cells_left (ldterm_in t y)) ≡ left
  pours-are =
      let few = so.fewer in
      ap (λ (q : ldterms.Discipline ℕ). length (cells_left q)) so.does.state
      ∙ ap length (pours-left here (bytes - left) (ldterm_in s x) work-there)
      ∙ length-drop (bytes - left) (cells_left (ldterm_in s x))
      ∙ omega arith

  -- and more of them
  pub pours-more : (u : StoreValue) (z : Paired) (n k : ℕ) (f2 : Fates) → IsStore t → 0 < n → n ≤ left → Proceeds t u y z k [] [] f1 f2 (poured here n (ldterm_in t y))
      → ((byte : ℕ) → byte < n → HasRoom t (STOP_BLOCKS + blocks_grown (ldterm_in t y) (poured here byte (ldterm_in t y)).state)) → Pours s u here x z bytes (left - n) f f2
  pours-more u z n k f2 st one few more begins =
      let p = ldterm_in s x in
      let did = proceeds-joined s t x y (all_free s) [] f f1 (poured here (bytes - left) p) st so.does u z k [] [] f2 (poured here n) more in
      let count : bytes - left + n ≡ bytes - (left - n) = (let low = so.fewer in omega arith) in
      let same = pours-both here (bytes - left) n p work-there ∙ ap (λ m. poured here m p) count in
      record {
        fewer = (let low = so.fewer in omega arith);
        some = inl (let low = so.fewer in omega (arith, low, one, few));
        begun = λ byte within. each-more (IsFreeBefore s x f (poured here) p) (bytes - left) n so.begun
            (λ i less. record { before = bytes - left; more = i; is = refl; store = t; there = y; notes = []; told = f1; reached = so.does; free = begins i less }) byte (let low = so.fewer in omega arith);
        does = subst (λ (a : Acted ℕ (ldterms.Discipline ℕ)). Proceeds s u x z (all_free s) [] [] f f2 a) same (record {
          state = did.state;
          noted = did.noted;
          parcels = did.parcels;
          told = did.told;
          held = did.held;
          own = did.own;
          chains = did.chains;
          hands = did.hands;
          mblks = omega arith;
          dblks = omega arith;
          pool = did.pool;
        });
      }
