-- The turn's echo, which begins or grows last on the write queue.
use Rattle.strm_ldterm.proofs.Prelude.{ℕ, suc, ◌≡◌, ◌≤◌, ◌<◌, ◌+◌, ◌*◌, Bool, true, false, cond, List, [], ◌∷◌, ◌++◌, length, refl, sym, ap, subst}
use Rattle.strm_ldterm.proofs.Prelude.{◌∙◌, arith, not, ◌&&◌, free_m-is, once-apart}
use Rattle.strm_ldterm.specs.Prelude.{Dir, Down, Fates, EchoFull, Note, Enable, Spot, plain, cells_made, Acted, Fate, Comes, tallied, sends, Message}
use Rattle.strm_ldterm.specs.Prelude.{cells_of, data_message, band_of, is_high_priority, told_more, made_more, echo_dir, grown, echo_grows}
use Rattle.strm_ldterm.specs.Prelude.{echo_stands, echo_lost, echoed, chunk_count, StoreValue, IsStore, in_hand, list_at, Queue, queue_in}
use Rattle.strm_ldterm.specs.Prelude.{messages_on, once, AreIn, HasRoom, times_sent, parcels_in, AreChains, queue-ready}
use Rattle.strm_types.specs.Ldterms as ldterms
use Rattle.strm_types.specs.Queue as queues
use Rattle.strm_ldterm.specs.Stands.{ldterm_in, keeps, EndsPlain, IsData, IsGathered, IsHeld, Paired}
use Rattle.strm_ldterm.specs.Does.{Proceeds}
use Rattle.strm_ldterm.specs.Frames.{data-same, each-same, form-same, gathered-same, kept-same}
use Rattle.strm_ldterm.specs.Grown.{BeginsLast, GrowsLast, Rewrites}

-- the last message grows
pub grown-last : (here : Spot) (bytes : List ℕ) (ms : List (Message ℕ)) (m : Message ℕ) → grown plain here bytes (ms ++ m ∷ []) ≡ ms ++ data_message (cells_of m ++ bytes) ∷ []
grown-last here bytes [] m = refl
grown-last here bytes (k ∷ []) m = refl
grown-last here bytes (k ∷ l ∷ ms) m = ap (λ xs. k ∷ xs) (grown-last here bytes (l ∷ ms) m)

-- an ordinary message of data enables a queue that wants to be read
pub data-enables : (bytes : List ℕ) (q : queues.Queue ℕ) → queues.put_enables (data_message bytes) q ≡ (not q.no_enable && q.want_read)
unfolding band_of data_message is_high_priority
data-enables bytes q = refl

-- The write queue was rewritten, and the turn's echo stands last there.
module _ (s t : StoreValue) (x : Paired) (q' : Queue) (n : ℕ) (held : IsHeld s x) (can : AreIn s (λ _. 0) (keeps x)) (is : Rewrites s t x.write_queue q' n) (ends : EndsPlain (messages_on t q'.list)) where
  chains : (i : ℕ) → 0 < keeps x i → in_hand t i ≡ in_hand s i
  chains i some = let c = can.apart i in is.shifts.others i refl (omega arith)

  reads : list_at t x.read_queue.list ≡ list_at s x.read_queue.list
  reads = is.others x.read_queue.list (λ e. let a = held.apart in absurd (omega arith))

  stood-state : (v : Bool) → ldterm_in t (record x { write_queue = q'; echoing = v }) ≡ record (ldterm_in s x) { write_queue = queue_in t q'; echoing = v }
  stood-state v =
      form-same (record x { write_queue = q'; echoing = v }) _ _ (list_at t q'.list) (list_at t q'.list) _ _ _ _ reads refl
      (kept-same s t x.in_work (λ i some. chains i (omega arith))) (kept-same s t x.gathered (λ i some. chains i (omega arith)))

  stood-held : (v : Bool) → IsHeld t (record x { write_queue = q'; echoing = v })
  stood-held v = record {
    read = queue-ready s t x.read_queue reads held.read;
    write = is.ready;
    apart = (let a = held.apart in let e = is.list in omega arith);
    work = each-same s t IsData (data-same s t) x.in_work (λ i some. chains i (omega arith)) held.work;
    gathers = each-same s t IsGathered (gathered-same s t) x.gathered (λ i some. chains i (omega arith)) held.gathers;
    echoes = λ on busy. ends;
    once_each = held.once_each;
  }

  stood : (v : Bool) (notes : List Note) (f : Fates) (a : Acted ℕ (ldterms.Discipline ℕ)) → record (ldterm_in s x) { write_queue = queue_in t q'; echoing = v } ≡ a.state → notes ≡ a.notes → [] ≡ a.sent → [] ≡ a.gone
      → Proceeds s t x (record x { write_queue = q'; echoing = v }) n notes [] f f a
  unfolding parcels_in AreChains times_sent
  stood v notes f a state noted sent gone = record {
    state = stood-state v ∙ state;
    noted = noted;
    parcels = sent;
    told = ap (λ g. tallied g f) gone;
    held = stood-held v;
    own = record {
      lists = λ k none. is.others k (λ e. once-apart x.write_queue.list k (omega arith) (sym e));
      owns_same = λ k. ap (λ l. once x.read_queue.list k + once l k) is.list;
    };
    chains = tt;
    hands = record {
      counts = λ i. let c = is.shifts.counts i in omega arith;
      others = λ i gone kept some. is.shifts.others i refl some;
    };
    mblks = is.shifts.mblks;
    dblks = is.shifts.dblks;
    pool = is.shifts.pool;
  }

-- the echo grows
pub grows-proceeds : (s t : StoreValue) (x : Paired) (q' : Queue) (bytes : List ℕ) (n : ℕ) → IsHeld s x → AreIn s (λ _. 0) (keeps x) → GrowsLast s t x.write_queue q' bytes n → (here : Spot) (f : Fates)
    → Proceeds s t x (record x { write_queue = q' }) n [] [] f f (record (echo_grows plain here bytes (ldterm_in s x)) { gone = [] })
grows-proceeds s t x q' bytes n held can is here f =
    stood s t x q' n held can is.rewrites is.ends x.echoing [] f (record (echo_grows plain here bytes (ldterm_in s x)) { gone = [] })
    (ap (λ (w : queues.Queue ℕ). record (ldterm_in s x) { write_queue = w }) (is.queue here)) refl refl refl

-- or it begins
pub begins-proceeds : (s t : StoreValue) (x : Paired) (q' : Queue) (bytes : List ℕ) (n : ℕ) → IsHeld s x → AreIn s (λ _. 0) (keeps x) → BeginsLast s t x.write_queue q' bytes n → (here : Spot) (f : Fates) (v : Bool)
    → v ≡ queues.put_enables (data_message bytes) (queue_in s x.write_queue)
    → Proceeds s t x (record x { write_queue = q'; echoing = true }) n (cond v (Enable Down ∷ []) []) [] f f (record (echo_stands plain here bytes (ldterm_in s x)) { gone = [] })
begins-proceeds s t x q' bytes n held can is here f v enables =
    stood s t x q' n held can is.rewrites is.ends true (cond v (Enable Down ∷ []) []) f (record (echo_stands plain here bytes (ldterm_in s x)) { gone = [] })
    (ap (λ (w : queues.Queue ℕ). record (ldterm_in s x) { write_queue = w; echoing = true }) is.queue)
    (ap (λ w. cond {A = List Note} w (Enable Down ∷ []) []) enables) refl refl

-- what has gone is told
pub proceeds-told : (s t : StoreValue) (x x' : Paired) (n : ℕ) (notes : List Note) (f f' : Fates) (is : Acted ℕ (ldterms.Discipline ℕ)) → f' ≡ tallied is.gone f → Proceeds s t x x' n notes [] f f (record is { gone = [] }) → Proceeds s t x x' n notes [] f f' is
proceeds-told s t x x' n notes f f' is told did = record {
  state = did.state;
  noted = did.noted;
  parcels = did.parcels;
  told = told;
  held = did.held;
  own = did.own;
  chains = did.chains;
  hands = did.hands;
  mblks = did.mblks;
  dblks = did.dblks;
  pool = did.pool;
}

-- nothing is done but that something is told
pub proceeds-still : (s : StoreValue) (x : Paired) (n : ℕ) (notes : List Note) (f f' : Fates) (gone : List (Fate ℕ)) (is : Acted ℕ (ldterms.Discipline ℕ)) → IsHeld s x → notes ≡ [] → f' ≡ tallied gone f
    → is ≡ record (sends [] (ldterm_in s x)) { gone = gone } → Proceeds s s x x n notes [] f f' is
unfolding parcels_in AreChains times_sent
proceeds-still s x n notes f f' gone is held none told same = subst (λ a. Proceeds s s x x n notes [] f f' a) (sym same) (record {
  state = refl;
  noted = none;
  parcels = refl;
  told = told;
  held = held;
  own = record { lists = λ k none. refl; owns_same = λ k. refl };
  chains = tt;
  hands = record { counts = λ i. refl; others = λ i gone kept some. refl };
  mblks = omega arith;
  dblks = omega arith;
  pool = record { mblks = refl; dblks = refl };
})

-- it grows or it begins
pub stands-by : (s t : StoreValue) (x x' : Paired) (n : ℕ) (notes notes' : List Note) (here : Spot) (f : Fates) (bytes : List ℕ) (v w : Bool) → w ≡ v → notes' ≡ notes
    → Proceeds s t x x' n notes [] f f (record (cond v (echo_grows plain here bytes (ldterm_in s x)) (echo_stands plain here bytes (ldterm_in s x))) { gone = [] })
    → Proceeds s t x x' n notes' [] f f (record (cond w (echo_grows plain here bytes (ldterm_in s x)) (echo_stands plain here bytes (ldterm_in s x))) { gone = [] })
stands-by s t x x' n notes notes' here f bytes v w is same did = rw (is, same) did

-- plain bytes that are made
pub made-plain : (d : Dir) (n : ℕ) (bytes : List ℕ) → cells_made plain d n bytes ≡ bytes
made-plain d n [] = refl
made-plain d n (b ∷ bytes) = ap (λ xs. b ∷ xs) (made-plain d (suc n) bytes)

-- the cases of an echo
module _ (here : Spot) (p : ldterms.Discipline ℕ) where
  pub echoed-none : (bytes : List ℕ) → length bytes ≡ 0 → echoed plain here 0 bytes p ≡ sends [] p
  echoed-none [] none = refl
  echoed-none (b ∷ bytes) none = absurd (omega arith)

  abbrev by_case : List ℕ → Bool → Acted ℕ (ldterms.Discipline ℕ)
  by_case bytes full = cond full (echo_lost plain here bytes p) (cond p.echoing (echo_grows plain here bytes p) (echo_stands plain here bytes p))

  echoed-by : (bytes : List ℕ) → (length bytes ≡ 0 → ⊥) → echoed plain here 0 bytes p ≡ by_case bytes (queues.is_full 0 p.write_queue)
  echoed-by [] some = absurd (some refl)
  echoed-by (b ∷ bytes) some = ap (λ xs. by_case xs (queues.is_full 0 p.write_queue)) (made-plain (echo_dir plain here) 0 (b ∷ bytes))

  pub echoed-full : (bytes : List ℕ) → (length bytes ≡ 0 → ⊥) → queues.is_full 0 p.write_queue ≡ true → echoed plain here 0 bytes p ≡ echo_lost plain here bytes p
  echoed-full bytes some full = echoed-by bytes some ∙ ap (by_case bytes) full

  pub echoed-room : (bytes : List ℕ) → (length bytes ≡ 0 → ⊥) → queues.is_full 0 p.write_queue ≡ false → echoed plain here 0 bytes p ≡ cond p.echoing (echo_grows plain here bytes p) (echo_stands plain here bytes p)
  echoed-room bytes some room = echoed-by bytes some ∙ ap (by_case bytes) room

  pub stands-gone : (bytes : List ℕ) (v : Bool) → (cond v (echo_grows plain here bytes p) (echo_stands plain here bytes p)).gone ≡ Comes (echo_dir plain here) bytes ∷ []
  stands-gone bytes true = refl
  stands-gone bytes false = refl

-- what is told of an echo that is lost
pub told-lost : (d d' : Dir) (n n' : ℕ) (f f1 f2 : Fates) → d ≡ d' → n ≡ n' → f1 ≡ made_more d n f → f2 ≡ told_more d EchoFull n f1 → f2 ≡ told_more d' EchoFull n' (made_more d' n' f)
told-lost d d' n n' f f1 f2 same long made told = told ∙ ap (λ v. told_more d EchoFull n v) made ∙ ap (λ v. told_more v EchoFull n (made_more v n f)) same ∙ ap (λ v. told_more d' EchoFull v (made_more d' v f)) long

pub told-made : (d d' : Dir) (n n' : ℕ) (f f1 : Fates) → d ≡ d' → n ≡ n' → f1 ≡ made_more d n f → f1 ≡ made_more d' n' f
told-made d d' n n' f f1 same long made = made ∙ ap (λ v. made_more v n f) same ∙ ap (λ v. made_more d' v f) long

-- its runs
pub runs-enough : (n : ℕ) → n ≤ chunk_count n * 256
unfolding chunk_count
runs-enough n = omega arith

pub few-bytes : (s : StoreValue) (n : ℕ) → IsStore s → HasRoom s (chunk_count n) → n < 9223372036854775808
few-bytes s n st room = let e = runs-enough n in let r = room.mblks in let f = free_m-is s in let m = st.few_mblks in omega arith
