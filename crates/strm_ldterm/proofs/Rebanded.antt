-- M_DATA in hand that is given another band, and goes on.
use Rattle.strm_ldterm.proofs.Prelude.{ℕ, ◌≡◌, ◌≤◌, ◌<◌, ◌+◌, eqb, cond, List, [], ◌∷◌, length, map, refl, sym, ap, subst, ◌∙◌, arith, false≢true}
use Rattle.strm_ldterm.proofs.Prelude.{None, Some, sum_by-cons, total-changed, used-is, references-is, free_m-is, free_d-more, in_hand-changed}
use Rattle.strm_ldterm.proofs.Prelude.{in_hand-changed_other, data_in-cells, data-control, times-replaced, once-apart, one-parts, one-chains}
use Rattle.strm_ldterm.specs.Prelude.{Way, Down, Fates, Spot, toward, onward, sends, Message, cells_of, is_high_priority, with_given, Block}
use Rattle.strm_ldterm.specs.Prelude.{StoreValue, IsInHand, in_hand, list_at, block_at, changed, banded, names_of, token, InHand, bytes_of}
use Rattle.strm_ldterm.specs.Prelude.{message_of, IsChain, Sent, once, AreIn, CanPut, Shifts, message_in, times_sent, FreesNone}
use Rattle.strm_types.specs.declared.kinds.MsgKind.TheVariants as kinds
use Rattle.strm_ldterm.specs.Becoming.{Becomes}
use Rattle.strm_ldterm.specs.Does.{Proceeds}
use Rattle.strm_ldterm.specs.Frames.{ldterm-frame}
use Rattle.strm_ldterm.specs.Outgone.{data_of}
use Rattle.strm_ldterm.specs.Stands.{IsData, IsHeld, cells_kept, kept_in, keeps, ldterm_in, owns, Paired}
use Rattle.strm_ldterm.proofs.Finished.{gathered-held, gathered-splits, work-held, work-splits}
use Rattle.strm_ldterm.proofs.Passed.{stays}
use Rattle.strm_ldterm.proofs.Skipped.{shown-bytes}

-- a chain of another band
record Rebanded (chain : List Block) (band : ℕ) : Type 0 where
  pub one : IsChain (banded band chain)
  pub kind : (block_at 0 (banded band chain)).kind ≡ kinds.Data
  pub shows : message_of (banded band chain) ≡ data_of band (cells_of (message_of chain))
  pub same : length (banded band chain) ≡ length chain
  pub names : (d : ℕ) → names_of d (banded band chain) ≡ names_of d chain

rebanded : (chain : List Block) (band : ℕ) → IsChain chain → (block_at 0 chain).kind ≡ kinds.Data → band < 256 → Rebanded chain band
unfolding is_high_priority
rebanded [] band one kind low = absurd (let l = one.some in omega arith)
rebanded (b ∷ rest) band one kind low =
    let next : Block = record b { band = band } in
    let all = one.all_data kind in
    let new : IsChain (next ∷ rest) = record {
      some = omega arith;
      all_data = λ k. all;
      parted = λ control. absurd (let no = data-control b.kind all.0 in cc);
      high = λ high. absurd (false≢true (sym (ap is_high_priority all.0) ∙ high));
      low = low;
    } in
    let bytes = ap cells_of (shown-bytes (b ∷ rest) one kind) ∙ data_in-cells b.band (bytes_of (b ∷ rest)) in
    record {
      one = new;
      kind = kind;
      shows = shown-bytes (next ∷ rest) new kind ∙ sym (ap (data_of band) bytes);
      same = refl;
      names = λ d. let y = sum_by-cons (λ (x : Block). cond {A = ℕ} (eqb x.number d) 1 0) b rest in
          let z = sum_by-cons (λ (x : Block). cond {A = ℕ} (eqb x.number d) 1 0) next rest in omega arith;
    }

module _ (s t : StoreValue) (i band : ℕ) (is : IsInHand s i) (msg : IsData s i) (low : band < 256) (after : t ≡ changed s i (banded band (in_hand s i))) where
  abbrev new : List Block
  new = banded band (in_hand s i)

  is-new : Rebanded (in_hand s i) band
  is-new = rebanded (in_hand s i) band msg.chain msg.kind low

  there : in_hand t i ≡ new
  there = ap (λ v. in_hand v i) after ∙ in_hand-changed s i new is

  -- the store has as many free blocks as before
  abbrev to : StoreValue
  to = changed s i new

  shifts : Shifts s to (once i) (once i) 0
  shifts = record {
    counts = λ k. let r = times-replaced i k new s.hand in omega arith;
    others = λ k none some. in_hand-changed_other s i k new (once-apart i k none);
    mblks = (let a = total-changed length s i new is in let l = is-new.same in let c = free_m-is s in let d = free_m-is to in let e = used-is s in let f = used-is to in omega arith);
    dblks = (let m = free_d-more s to refl (λ d. let a = total-changed (names_of d) s i new is in let n = is-new.names d in let e = references-is s d in let f = references-is to d in omega arith) in omega arith);
    pool = record { mblks = refl; dblks = refl };
  }

  none : FreesNone s to
  none = (
    (let a = total-changed length s i new is in let l = is-new.same in let c = free_m-is s in let d = free_m-is to in let e = used-is s in let f = used-is to in omega arith),
    free_d-more to s refl (λ d. let a = total-changed (names_of d) s i new is in let n = is-new.names d in let e = references-is s d in let f = references-is to d in omega arith),
  )

  pub reband-becomes : Becomes s t i i (data_of band (cells_of (message_in s i)))
  reband-becomes = record {
    lists = ap (λ v. v.lists) after;
    hands = subst (λ v. Shifts s v (once i) (once i) 0) (sym after) shifts;
    is = record { chain = subst IsChain (sym there) is-new.one; kind = ap (λ c. (block_at 0 c).kind) there ∙ is-new.kind };
    shows = ap message_of there ∙ is-new.shows;
  }

  pub reband-frees : FreesNone s t
  reband-frees = subst (FreesNone s) (sym after) none

-- what goes down
pub given-some : (l : List ℕ) (band : ℕ) → (length l ≡ 0 → ⊥) → with_given l (data_of band []) ≡ data_of band l ∷ []
given-some [] band some = absurd (some refl)
given-some (b ∷ l) band some = refl

pub given-none : (l : List ℕ) (m : Message ℕ) → length l ≡ 0 → with_given l m ≡ []
given-none [] m none = refl
given-none (b ∷ l) m none = absurd (omega arith)

pub gathered-can : (s : StoreValue) (x : Paired) (m : InHand) → x.gathered ≡ Some m → AreIn s (λ _. 0) (keeps x) → CanPut s (token m) (keeps (record x { gathered = None }))
gathered-can s x m there kept = record { apart = λ j. let a = kept.apart j in let e = gathered-splits s x m there j in omega arith }

-- nothing was gathered
pub nothing-down : (s : StoreValue) (x : Paired) (here : Spot) (band : ℕ) (f : Fates) (sent : List Sent) → sent ≡ [] → x.gathered ≡ None → IsHeld s x
    → (let p = ldterm_in s x in Proceeds s s x (record x { gathered = None }) 0 [] sent f f (sends (map (onward Down here) (with_given p.gathered (data_of band []))) (record p { gathered = [] })))
nothing-down s x here band f sent none there held =
    let p = ldterm_in s x in
    let empty : p.gathered ≡ [] = ap (λ o. cells_kept (kept_in s o)) there in
    subst (λ o. Proceeds s s x (record x { gathered = o }) 0 [] sent f f (sends (map (onward Down here) (with_given p.gathered (data_of band []))) (record p { gathered = [] }))) there
    (subst (λ (l : List ℕ). Proceeds s s x x 0 [] sent f f (sends (map (onward Down here) (with_given l (data_of band []))) (record p { gathered = [] }))) (sym empty)
    (subst (λ (l : List ℕ). Proceeds s s x x 0 [] sent f f (sends [] (record p { gathered = l }))) empty (stays s x sent f held none)))

-- a message that the module kept, under another band
module _ (s t : StoreValue) (x y : Paired) (m : InHand) (splits : (j : ℕ) → keeps x j ≡ once (token m) j + keeps y j) (same : (k : ℕ) → owns y k ≡ owns x k) (once_each : (j : ℕ) → keeps x j ≤ 1)
    (held : IsHeld s y) (kept : AreIn s (λ _. 0) (keeps x)) (new : Message ℕ) (b : Becomes s t (token m) (token m) new) where
  apart : (j : ℕ) → 0 < keeps y j → once (token m) j ≡ 0
  apart j some = let few = once_each j in let e = splits j in omega arith

  framed : (ldterm_in t y ≡ ldterm_in s y) × IsHeld t y
  framed = ldterm-frame s t y (record {
    lists = λ k some. ap (λ ls. list_at (record t { lists = ls }) k) b.lists;
    mblks = b.hands.pool.mblks;
    dblks = b.hands.pool.dblks;
    kept = λ j some. let e = splits j in let a = kept.apart j in b.hands.others j (apart j some) (omega arith);
  }) held

  pub goes-on : (way : Way) (here to : Spot) (f : Fates) (sent : List Sent) → sent ≡ record { to = to; message = m } ∷ [] → to ≡ toward way here → Proceeds s t x y 0 [] sent f f (sends (onward way here new ∷ []) (ldterm_in s y))
  unfolding times_sent
  goes-on way here to f sent one place =
      let z : Sent = record { to = to; message = m } in
      record {
        state = framed.0;
        noted = refl;
        parcels = one-parts t z sent one ∙ ap (λ (spot : Spot). record { to = spot; message = message_in t (token m) } ∷ []) place ∙ ap (λ (w : Message ℕ). onward way here w ∷ []) b.shows;
        told = refl;
        held = framed.1;
        own = record { lists = λ k none. ap (λ ls. list_at (record t { lists = ls }) k) b.lists; owns_same = same };
        chains = one-chains t z sent one b.is.chain;
        hands = record {
          counts = λ j. let c = b.hands.counts j in let e = splits j in let w = ap (times_sent j) one in omega arith;
          others = λ j gone none some. let e = splits j in b.hands.others j (omega arith) some;
        };
        mblks = (let a = b.hands.mblks in omega arith);
        dblks = (let a = b.hands.dblks in omega arith);
        pool = record { mblks = b.hands.pool.mblks; dblks = b.hands.pool.dblks };
      }

-- what was gathered
pub goes-down : (s t : StoreValue) (x : Paired) (m : InHand) → x.gathered ≡ Some m → IsHeld s x → AreIn s (λ _. 0) (keeps x) → (new : Message ℕ) → Becomes s t (token m) (token m) new
    → (here to : Spot) (f : Fates) (sent : List Sent) → sent ≡ record { to = to; message = m } ∷ [] → to ≡ toward Down here
    → Proceeds s t x (record x { gathered = None }) 0 [] sent f f (sends (onward Down here new ∷ []) (record (ldterm_in s x) { gathered = [] }))
goes-down s t x m there held kept new b here to f sent one place =
    goes-on s t x (record x { gathered = None }) m (gathered-splits s x m there) (λ k. refl) held.once_each (gathered-held s x m there held) kept new b Down here to f sent one place

-- what is left of the message in work
pub work-goes : (s t : StoreValue) (x : Paired) (m : InHand) → x.in_work ≡ Some m → IsHeld s x → AreIn s (λ _. 0) (keeps x) → (new : Message ℕ) → Becomes s t (token m) (token m) new
    → (way : Way) (here to : Spot) (f : Fates) (sent : List Sent) → sent ≡ record { to = to; message = m } ∷ [] → to ≡ toward way here
    → Proceeds s t x (record x { in_work = None }) 0 [] sent f f (sends (onward way here new ∷ []) (record (ldterm_in s x) { in_work = None }))
work-goes s t x m there held kept new b way here to f sent one place =
    goes-on s t x (record x { in_work = None }) m (work-splits s x m there) (λ k. refl) held.once_each (work-held s x m there held) kept new b way here to f sent one place
