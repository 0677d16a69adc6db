-- Messages that are made block by block.
use Rattle.std.proofs.Common.{ℕ, ◌≡◌, ◌≢◌, ◌<◌, ◌+◌, true, false, cond, eqb, List, [], ◌∷◌, ◌++◌, length, take, subst, refl, sym, ap, ◌∙◌, arith, inl, inr}
use Rattle.std.proofs.lemmas.Bool.{cases_eq}
use Rattle.std.proofs.lemmas.Bool.Decides.{nat_tests}
use Rattle.std.proofs.lemmas.List.{length-append, take_more}
use Rattle.std.proofs.lemmas.List.Sums.{sum_by-cons, sum_by-append}
use Rattle.strm_blocks.specs.Blocks.{Block, StoreValue, block_at, no_block, in_hand, held, dropped, changed, IsInHand, IsFreshName, times_in, references, names_of, free_m, free_d, copy_of}
use Rattle.strm_types.specs.Kinds.{is_control_kind, is_body_kind}
use Rattle.strm_blocks.specs.Outcomes.{Copied, NoneFree}
use Rattle.strm_msg.specs.Bytes.{bytes_of, control_blocks, control_bytes, data_blocks, data_bytes}
use Rattle.strm_msg.proofs.Parts.{control-blocks-cons}
use Rattle.strm_msg.specs.Made.{Made, TooFew, copies_of}
use Rattle.strm_msg.proofs.Counts.{references-held, free_m-held, free_d-fresh, free_m-joined, free_d-joined}
use Rattle.strm_msg.proofs.Hands.{gone, grown, stays, stays-chain, held-apart, fresh-apart, held-is}

-- copies of one block more
copies-more : (numbers : List ℕ) (like : List Block) (number : ℕ) (b : Block) → length numbers ≡ length like → copies_of (numbers ++ number ∷ []) (like ++ b ∷ []) ≡ copies_of numbers like ++ copy_of number b ∷ []
copies-more [] [] number b same = refl
copies-more [] (c ∷ like) number b same = absurd (omega arith)
copies-more (n ∷ numbers) [] number b same = absurd (omega arith)
copies-more (n ∷ numbers) (c ∷ like) number b same = ap (λ xs. copy_of n c ∷ xs) (copies-more numbers like number b (omega arith))

-- a chain of one block names its data block once
pub names-one : (d : ℕ) (b : Block) → names_of d (b ∷ []) ≡ cond {A = ℕ} (eqb b.number d) 1 0
names-one d b = let c = sum_by-cons (λ (x : Block). cond (eqb x.number d) 1 0) b [] in omega arith

-- copies show the same bytes, and in the same parts
copies-shown : (numbers : List ℕ) (like : List Block) → length numbers ≡ length like → bytes_of (copies_of numbers like) ≡ bytes_of like
copies-shown [] [] same = refl
copies-shown [] (b ∷ like) same = absurd (omega arith)
copies-shown (n ∷ numbers) [] same = absurd (omega arith)
copies-shown (n ∷ numbers) (b ∷ like) same = ap (λ xs. b.bytes ++ xs) (copies-shown numbers like (omega arith))

copies-body : (numbers : List ℕ) (like : List Block) → length numbers ≡ length like → data_bytes (copies_of numbers like) ≡ data_bytes like
copies-body [] [] same = refl
copies-body [] (b ∷ like) same = absurd (omega arith)
copies-body (n ∷ numbers) [] same = absurd (omega arith)
copies-body (n ∷ numbers) (b ∷ like) same =
    let ih = copies-body numbers like (omega arith) in
    elim (is_body_kind b.kind) as (λ v. bytes_of (cond v (copy_of n b ∷ data_blocks (copies_of numbers like)) (data_blocks (copies_of numbers like))) ≡ bytes_of (cond v (b ∷ data_blocks like) (data_blocks like))) [
      | true ↦ ap (λ xs. b.bytes ++ xs) ih
      | false ↦ ih
    ]

copies-control : (numbers : List ℕ) (like : List Block) → length numbers ≡ length like → control_bytes (copies_of numbers like) ≡ control_bytes like
copies-control [] [] same = refl
copies-control [] (b ∷ like) same = absurd (omega arith)
copies-control (n ∷ numbers) [] same = absurd (omega arith)
copies-control (n ∷ numbers) (b ∷ like) same =
    let ih = copies-control numbers like (omega arith) in
    let new = ap (λ (xs : List Block). bytes_of xs) (control-blocks-cons (copy_of n b) (copies_of numbers like)) in
    let old = ap (λ (xs : List Block). bytes_of xs) (control-blocks-cons b like) in
    let inner : bytes_of (cond (is_control_kind b.kind) (copy_of n b ∷ control_blocks (copies_of numbers like)) []) ≡ bytes_of (cond (is_control_kind b.kind) (b ∷ control_blocks like) []) =
    elim (is_control_kind b.kind) as (λ v. bytes_of (cond v (copy_of n b ∷ control_blocks (copies_of numbers like)) []) ≡ bytes_of (cond v (b ∷ control_blocks like) [])) [
      | true ↦ ap (λ xs. b.bytes ++ xs) ih
      | false ↦ refl
    ] in
    new ∙ inner ∙ sym old

-- the first block of a message
pub Made-one : {old new : StoreValue} {i : ℕ} {b : Block} → Copied old new i b → Made old new i (b ∷ [])
Made-one {old} {new} {i} {b} c =
    let copy = copy_of c.number b in
    let fm = free_m-held old i (copy ∷ []) (let r = c.room_m in omega arith) in
    let fd = free_d-fresh old i copy c.exists c.fresh_number in
    record {
      numbers = c.number ∷ [];
      count = refl;
      room_m = ap (λ s. free_m s + 1) c.after ∙ fm;
      room_d = ap (λ s. free_d s + 1) c.after ∙ fd;
      fresh_name = c.fresh_name;
      own = λ d some. (let one = names-one d copy in let f = c.fresh_number in let e : c.number ≡ d = grind (arith, nat_tests) in let r = ap (λ k. references old k) e in grind (arith, nat_tests));
      shown = copies-shown (c.number ∷ []) (b ∷ []) refl;
      control = copies-control (c.number ∷ []) (b ∷ []) refl;
      body = copies-body (c.number ∷ []) (b ∷ []) refl;
      after = c.after;
    }

-- Data blocks that are named once stay so where one comes that nothing named.
own-more : (old : StoreValue) (i : ℕ) (front : List Block) → ((d : ℕ) → 0 < names_of d front → references old d + names_of d front ≡ 1) → (number : ℕ) (copy : Block) → references (held old i front) number ≡ 0 → copy.number ≡ number → (d : ℕ) (all : List Block) → all ≡ front ++ copy ∷ [] → 0 < names_of d all → references old d + names_of d all ≡ 1
own-more old i front own number copy none is d all joined some =
    let parts = ap (λ (xs : List Block). names_of d xs) joined in
    let sum = sum_by-append (λ (x : Block). cond (eqb x.number d) 1 0) front (copy ∷ []) in
    let one = names-one d copy in
    let before = references-held old i front d in
    let o = own d in
    elim (cases_eq number d) [
      | inl e ↦
          (let here = ap (λ k. references (held old i front) k) e in
          let hit : cond {A = ℕ} (eqb copy.number d) 1 0 ≡ 1 = grind (arith, nat_tests) in
          omega arith)
      | inr ne ↦
          (let miss : cond {A = ℕ} (eqb copy.number d) 1 0 ≡ 0 = grind (arith, nat_tests) in
          omega arith)
    ]

-- One block more, which is hung behind the others.
pub Made-more : {old mid hung new : StoreValue} {i j : ℕ} {like : List Block} {b : Block} → Made old mid i like → Copied mid hung j b → new ≡ changed (dropped hung j) i (in_hand hung i ++ in_hand hung j) → Made old new i (like ++ b ∷ [])
Made-more {old} {mid} {hung} {new} {i} {j} {like} {b} m c link =
    let front = copies_of m.numbers like in
    let copy = copy_of c.number b in
    let fresh : IsFreshName (held old i front) j = ap (λ s. times_in j s.hand) (sym m.after) ∙ c.fresh_name in
    let ne : i ≢ j = fresh-apart old i front j fresh in
    let swapped : j ≢ i = λ e. ne (sym e) in
    let two : hung ≡ held (held old i front) j (copy ∷ []) = c.after ∙ ap (λ s. held s j (copy ∷ [])) m.after in
    let after : new ≡ held old i (front ++ copy ∷ []) = link ∙ ap (λ s. changed (dropped s j) i (in_hand s i ++ in_hand s j)) two ∙ grown old i j front (copy ∷ []) swapped in
    let none : references (held old i front) c.number ≡ 0 = ap (λ s. references s c.number) (sym m.after) ∙ c.fresh_number in
    let free_m_two = free_m-held mid j (copy ∷ []) (let r = c.room_m in omega arith) in
    let free_d_two = free_d-fresh mid j copy c.exists c.fresh_number in
    let same_m = free_m-joined old i j front (copy ∷ []) in
    let same_d = free_d-joined old i j front (copy ∷ []) in
    let hung_m : free_m new ≡ free_m (held mid j (copy ∷ [])) = ap free_m after ∙ sym same_m ∙ ap (λ s. free_m (held s j (copy ∷ []))) (sym m.after) in
    let hung_d : free_d new ≡ free_d (held mid j (copy ∷ [])) = ap free_d after ∙ sym same_d ∙ ap (λ s. free_d (held s j (copy ∷ []))) (sym m.after) in
    let len = length-append like (b ∷ []) in
    let lens = length-append m.numbers (c.number ∷ []) in
    let more = copies-more m.numbers like c.number b m.count in
    let before = references-held old i front in
    record {
      numbers = m.numbers ++ c.number ∷ [];
      count = let k = m.count in omega arith;
      room_m = let r = m.room_m in omega arith;
      room_d = let r = m.room_d in omega arith;
      fresh_name = m.fresh_name;
      own = λ d some. own-more old i front m.own c.number copy none refl d (copies_of (m.numbers ++ c.number ∷ []) (like ++ b ∷ [])) more some;
      shown = copies-shown (m.numbers ++ c.number ∷ []) (like ++ b ∷ []) (let k = m.count in omega arith);
      control = copies-control (m.numbers ++ c.number ∷ []) (like ++ b ∷ []) (let k = m.count in omega arith);
      body = copies-body (m.numbers ++ c.number ∷ []) (like ++ b ∷ []) (let k = m.count in omega arith);
      after = after ∙ ap (λ xs. held old i xs) (sym more);
    }

-- What fails behind some blocks fails with too few of one kind, and leaves nothing behind.
pub Made-fails : {old mid mid' new : StoreValue} {i : ℕ} {like : List Block} → (n : ℕ) → length like < n → Made old mid i like → NoneFree mid mid' → new ≡ dropped mid' i → TooFew old new n
Made-fails {old} {mid} {mid'} {new} {i} {like} n less m none left =
    let same : mid' ≡ held old i (copies_of m.numbers like) = none.same ∙ m.after in
    record {
      few = elim none.none [ inl none_m ↦ inl (let r = m.room_m in omega arith) | inr none_d ↦ inr (let r = m.room_d in omega arith) ];
      same = left ∙ ap (λ s. dropped s i) same ∙ gone old i (copies_of m.numbers like);
    }

-- what fails at once
pub fails-at-once : {old new : StoreValue} → (n : ℕ) → 0 < n → NoneFree old new → TooFew old new n
fails-at-once n some none = record {
  few = elim none.none [ inl none_m ↦ inl (omega arith) | inr none_d ↦ inr (omega arith) ];
  same = none.same;
}

-- The message that is made is in hand, apart from any that was there before, which stays.
module _ {old new : StoreValue} {i : ℕ} {like : List Block} (m : Made old new i like) where
  pub made-in_hand : IsInHand new i
  made-in_hand = ap (λ s. times_in i s.hand) m.after ∙ held-is old i (copies_of m.numbers like) m.fresh_name

  pub made-keeps : (j : ℕ) → IsInHand old j → IsInHand new j
  made-keeps j is = ap (λ s. times_in j s.hand) m.after ∙ stays old i (copies_of m.numbers like) j m.fresh_name is

  pub made-keeps-chain : (j : ℕ) → IsInHand old j → in_hand new j ≡ in_hand old j
  made-keeps-chain j is = ap (λ s. in_hand s j) m.after ∙ stays-chain old i (copies_of m.numbers like) j (held-apart old i (copies_of m.numbers like) j m.fresh_name is)

-- the first block of a copy, and the next one
pub copied-first : {old new : StoreValue} {i : ℕ} (chain : List Block) → 0 < length chain → Copied old new i (block_at 0 chain) → Made old new i (take 1 chain)
copied-first [] some c = absurd (omega arith)
copied-first (b ∷ chain) some c = Made-one c

pub copied-next : {old mid hung new : StoreValue} {i j r : ℕ} (message at : ℕ) → Made old mid i (take at (in_hand old message)) → IsInHand old message → at < length (in_hand old message) → Copied mid hung j (block_at at (in_hand mid message)) → r ≡ i → new ≡ changed (dropped hung j) i (in_hand hung i ++ in_hand hung j) → Made old new r (take (at + 1) (in_hand old message))
copied-next {old} {mid} {hung} {new} {i} {j} {r} message at m is within c kept link =
    let chain = in_hand old message in
    let same = made-keeps-chain m message is in
    let next : Copied mid hung j (block_at at chain) = subst (λ (xs : List Block). Copied mid hung j (block_at at xs)) same c in
    let more = Made-more m next link in
    let all = take_more chain at no_block within in
    subst (λ (k : ℕ). Made old new k (take (at + 1) chain)) (sym kept) (subst (λ (xs : List Block). Made old new i xs) (sym all) more)
