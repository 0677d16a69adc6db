-- Messages in hand that go and come, one after the other.
use Rattle.strm_frame.proofs.Prelude.{ℕ, ◌≡◌, ◌≤◌, ◌+◌, refl, ap, ◌∙◌, arith}
use Rattle.strm_frame.specs.Prelude.{StoreValue, IsStore, in_hand, dropped, times_in, Queue, Changes, FreesBlocks}
use Rattle.strm_frame.specs.Hands.{once, CanPut, Shifts, Spends}
use Rattle.strm_frame.proofs.Handing.{can-in_hand, dropped-frees, freed-hands}
use Rattle.strm_frame.proofs.WidePools.{spends-free}

-- nothing changed in hand
pub shifts-none : (s : StoreValue) → Shifts s s (λ _. 0) (λ _. 0) 0
shifts-none s = record { counts = λ i. refl; others = λ i none some. refl; mblks = omega arith; dblks = omega arith; pool = record { mblks = refl; dblks = refl } }

pub shifts-both : (s t u : StoreValue) (g c g' c' : ℕ → ℕ) (n n' : ℕ) → Shifts s t g c n → Shifts t u g' c' n' → Shifts s u (λ i. g i + g' i) (λ i. c i + c' i) (n + n')
shifts-both s t u g c g' c' n n' first second = record {
  counts = λ i. let a = first.counts i in let b = second.counts i in omega arith;
  others = λ i none some. let a = first.counts i in second.others i (omega arith) (omega arith) ∙ first.others i (omega arith) some;
  mblks = (let a = first.mblks in let b = second.mblks in omega arith);
  dblks = (let a = first.dblks in let b = second.dblks in omega arith);
  pool = record { mblks = second.pool.mblks ∙ first.pool.mblks; dblks = second.pool.dblks ∙ first.pool.dblks };
}

-- the same with other names for the same numbers
pub shifts-as : (s t : StoreValue) (g c g' c' : ℕ → ℕ) (n n' : ℕ) → Shifts s t g c n → ((i : ℕ) → g i ≡ g' i) → ((i : ℕ) → c i ≡ c' i) → n ≤ n' → Shifts s t g' c' n'
shifts-as s t g c g' c' n n' is gs cs le = record {
  counts = λ i. let a = is.counts i in let b = gs i in let d = cs i in omega arith;
  others = λ i none some. is.others i (gs i ∙ none) some;
  mblks = (let a = is.mblks in omega arith);
  dblks = (let a = is.dblks in omega arith);
  pool = is.pool;
}

-- what may be counted on is no less but for what was taken
pub shifts-spends : (s t : StoreValue) (gone come : ℕ → ℕ) (n : ℕ) → Shifts s t gone come n → Spends s t n 0
shifts-spends s t gone come n shifts = spends-free s t shifts.pool n 0 (omega (arith, shifts.mblks)) (omega (arith, shifts.dblks))

-- a message that is freed
pub shifts-freed : (s : StoreValue) (i : ℕ) → IsStore s → CanPut s i (λ _. 0) → Shifts s (dropped s i) (once i) (λ _. 0) 0
shifts-freed s i st can =
    let h = freed-hands s i (λ _. 0) st can in
    let b = dropped-frees s i (can-in_hand s i (λ _. 0) st can) in
    record {
      counts = λ j. let c = h.counts j in omega arith;
      others = λ j none some. h.others j none refl some;
      mblks = (let m = b.mblks in omega arith);
      dblks = (let m = b.dblks in omega arith);
      pool = record { mblks = refl; dblks = refl };
    }

-- a queue that changed, and nothing in hand
pub shifts-same : (s t : StoreValue) → t.hand ≡ s.hand → t.mblks ≡ s.mblks → t.dblks ≡ s.dblks → FreesBlocks s t → Shifts s t (λ _. 0) (λ _. 0) 0
shifts-same s t hand mblks dblks frees = record {
  counts = λ i. let e = ap (times_in i) hand in omega arith;
  others = λ i none some. ap (λ h. in_hand (record s { hand = h }) i) hand;
  mblks = (let m = frees.mblks in omega arith);
  dblks = (let m = frees.dblks in omega arith);
  pool = record { mblks = mblks; dblks = dblks };
}

-- a message that is put on a queue
pub shifts-joined : (s t : StoreValue) (i : ℕ) (q q' : Queue) → IsStore s → CanPut s i (λ _. 0) → Changes (dropped s i) t q q' → FreesBlocks s t → Shifts s t (once i) (λ _. 0) 0
shifts-joined s t i q q' st can is frees =
    let h = freed-hands s i (λ _. 0) st can in
    record {
      counts = λ j. let c = h.counts j in let e = ap (times_in j) is.hand in omega arith;
      others = λ j none some. ap (λ hs. in_hand (record s { hand = hs }) j) is.hand ∙ h.others j none refl some;
      mblks = (let m = frees.mblks in omega arith);
      dblks = (let m = frees.dblks in omega arith);
      pool = record { mblks = is.mblks; dblks = is.dblks };
    }
