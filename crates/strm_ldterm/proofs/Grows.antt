-- Messages of data in hand that grow.
use Rattle.strm_ldterm.proofs.Prelude.{ℕ, suc, ◌≡◌, ◌≢◌, ◌≤◌, ◌<◌, ◌+◌, ◌-◌, false, cond, eqb, List, [], ◌∷◌, ◌++◌, length, take, drop, refl, sym, ap}
use Rattle.strm_ldterm.proofs.Prelude.{subst, ◌∙◌, arith, append_assoc, append-nil, length-append, take-append-drop, inl, inr, take_all, sum_by-cons}
use Rattle.strm_ldterm.proofs.Prelude.{sum_by-append, in_hand-changed_other, total-held, total-changed, used-is, references-is, free_m-is, data_in}
use Rattle.strm_ldterm.proofs.Prelude.{data-shown, data-all, data-control, data_in-cells, band-is, held-changed, stays-chain, times-replaced}
use Rattle.strm_ldterm.proofs.Prelude.{chunk-one}
use Rattle.strm_ldterm.specs.Prelude.{MsgKind, Message, cells_of, data_message, is_high_priority, chunk_count, Block, Held, StoreValue, times_in}
use Rattle.strm_ldterm.specs.Prelude.{IsStore, IsInHand, block_at, in_hand, dropped, changed, extended, with_block, written, total, names_of, free_m}
use Rattle.strm_ldterm.specs.Prelude.{free_d, bytes_of, data_bytes, MadeOf, TooFew, message_of, AreData, IsChain, once, HasRoom, SamePool, message_in}
use Rattle.strm_types.specs.declared.kinds.MsgKind.TheVariants as kinds
use Rattle.strm_blocks.proofs.Laws.{free_d-same}
use Rattle.strm_msg.proofs.AdjustingBytes.{bytes-append}
use Rattle.strm_msg.proofs.Hands.{held-apart, gone, changed-chain, changed-twice, changed-same}
use Rattle.strm_msg.proofs.InHand.{came-first, came-apart}
use Rattle.strm_queue.proofs.OneMade.{one-made}
use Rattle.strm_ldterm.specs.Stands.{IsData, IsOrdinary}
use Rattle.strm_ldterm.specs.Grown.{Grown, Begins}
use Rattle.strm_ldterm.proofs.Beside.{chain-in-hand}
use Rattle.strm_ldterm.proofs.Runs.{to_end}

-- the cells of an ordinary message of data
pub cells-data : (bytes : List ℕ) → cells_of (data_message bytes) ≡ bytes
unfolding cells_of data_message
cells-data bytes = refl

-- there is room for one block
pub never-few : (s t : StoreValue) (n : ℕ) → n ≤ 256 → HasRoom s 1 → TooFew s t (chunk_count n) → ⊥
never-few s t n few room fails =
    let one = chunk-one n few in
    elim fails.few [ inl m ↦ absurd (let r = room.mblks in omega arith) | inr d ↦ absurd (let r = room.dblks in omega arith) ]

-- a message of one block was made
pub begins-one : (s t : StoreValue) (i : ℕ) (bytes : List ℕ) → length bytes ≤ 256 → MadeOf s t i kinds.Data 0 bytes → Begins s t i bytes 1
unfolding data_message
begins-one s t i bytes few m =
    let one = one-made s t i bytes few m in
    record {
      fresh = m.made.fresh_name;
      after = one.is;
      are = record { are = record { chain = one.shows.one; kind = one.shows.kind }; band = sym (band-is (in_hand t i)) ∙ ap (λ (x : Message ℕ). x.band) one.shows.is };
      shows = one.shows.is;
      mblks = (let r = one.room_m in let e = ap free_m one.is in omega arith);
      dblks = (let r = one.room_d in let e = ap free_d one.is in omega arith);
    }

-- a chain of M_DATA blocks is a message of data
first-kind : (c : List Block) → 0 < length c → AreData c → (block_at 0 c).kind ≡ kinds.Data
first-kind [] some all = absurd (omega arith)
first-kind (b ∷ c) some all = all.0

low-rank : (k : MsgKind) → k ≡ kinds.Data → is_high_priority k ≡ false
unfolding is_high_priority
low-rank k is = rw is refl

data-chain : (c : List Block) → 0 < length c → AreData c → (block_at 0 c).band < 256 → IsChain c
data-chain c some all low =
    let kind = first-kind c some all in
    record {
      some = some;
      all_data = λ k. all;
      parted = λ control. absurd (let no = data-control (block_at 0 c).kind kind in cc);
      high = λ high. absurd (let no = low-rank (block_at 0 c).kind kind in cc);
      low = low;
    }

data-cells : (c : List Block) → 0 < length c → AreData c → cells_of (message_of c) ≡ bytes_of c
data-cells c some all =
    ap (λ (m : Message ℕ). cells_of m) (data-shown c some (first-kind c some all)) ∙ data_in-cells (block_at 0 c).band (data_bytes c) ∙ ap bytes_of (data-all c all)

-- bytes that are written into the last block
record IsExtended (c c' : List Block) (bytes : List ℕ) : Type 0 where
  len : length c' ≡ length c
  all : AreData c → AreData c'
  band : (block_at 0 c').band ≡ (block_at 0 c).band
  shows : bytes_of c' ≡ bytes_of c ++ bytes
  names : (d : ℕ) → names_of d c' ≡ names_of d c

extended-more : (bytes : List ℕ) (b e : Block) (c : List Block) → extended bytes (b ∷ e ∷ c) ≡ b ∷ extended bytes (e ∷ c)
extended-more bytes b e c =
    let next : length (b ∷ e ∷ c) - 1 ≡ suc (length (e ∷ c) - 1) = omega arith in
    ap (λ k. with_block k (written bytes (block_at k (b ∷ e ∷ c))) (b ∷ e ∷ c)) next

is-extended : (bytes : List ℕ) (c : List Block) → 0 < length c → IsExtended c (extended bytes c) bytes
is-extended bytes [] some = absurd (omega arith)
is-extended bytes (b ∷ []) some = record {
  len = refl;
  all = λ all. all;
  band = refl;
  shows = append_assoc b.bytes bytes [] ∙ ap (λ xs. b.bytes ++ xs) (append-nil bytes) ∙ sym (ap (λ xs. xs ++ bytes) (append-nil b.bytes));
  names = λ d. refl;
}
is-extended bytes (b ∷ e ∷ c) some =
    let ih = is-extended bytes (e ∷ c) (omega arith) in
    subst (λ x. IsExtended (b ∷ e ∷ c) x bytes) (sym (extended-more bytes b e c)) (record {
      len = ap suc ih.len;
      all = λ all. (all.0, ih.all all.1);
      band = refl;
      shows = ap (λ xs. b.bytes ++ xs) ih.shows ∙ sym (append_assoc b.bytes (bytes_of (e ∷ c)) bytes);
      names = λ d. sum_by-cons (λ (x : Block). cond {A = ℕ} (eqb x.number d) 1 0) b (extended bytes (e ∷ c)) ∙ ap (λ n. cond {A = ℕ} (eqb b.number d) 1 0 + n) (ih.names d) ∙ sym (sum_by-cons (λ (x : Block). cond {A = ℕ} (eqb x.number d) 1 0) b (e ∷ c));
    })

-- a message in hand with another chain
module _ (s t : StoreValue) (i : ℕ) (c : List Block) (st : IsStore s) (is : IsData s i) (after : t ≡ changed s i c) where
  there : IsInHand s i
  there = chain-in-hand s i st is.chain.some

  pub now-chain : in_hand t i ≡ c
  now-chain = ap (λ v. in_hand v i) after ∙ changed-chain s i c there

  pub grown-by : (bytes : List ℕ) (n : ℕ) → 0 < length c → AreData c → (block_at 0 c).band ≡ (block_at 0 (in_hand s i)).band → bytes_of c ≡ bytes_of (in_hand s i) ++ bytes → free_m s ≤ free_m t + n → free_d s ≤ free_d t + n → Grown s t i bytes n
  grown-by bytes n some all band shows mblks dblks =
      let low : (block_at 0 c).band < 256 = (let l = is.chain.low in omega arith) in
      record {
        after = after ∙ ap (changed s i) (sym now-chain);
        are = record { chain = subst IsChain (sym now-chain) (data-chain c some all low); kind = ap (λ v. (block_at 0 v).kind) now-chain ∙ first-kind c some all };
        band = ap (λ v. (block_at 0 v).band) now-chain ∙ band;
        cells = ap (λ v. cells_of (message_of v)) now-chain ∙ data-cells c some all ∙ shows ∙ ap (λ xs. xs ++ bytes) (sym (data-cells (in_hand s i) is.chain.some (is.chain.all_data is.kind)));
        mblks = mblks;
        dblks = dblks;
      }

-- as many blocks are free, where chains have as many blocks and names
same-free : (s t : StoreValue) → t.mblks ≡ s.mblks → t.dblks ≡ s.dblks → total length t ≡ total length s → ((d : ℕ) → total (names_of d) t ≡ total (names_of d) s) → (free_m t ≡ free_m s) × (free_d t ≡ free_d s)
same-free s t mblks dblks len names = (
  (let a = free_m-is s in let b = free_m-is t in let u = used-is s in let v = used-is t in omega arith),
  free_d-same s t dblks (λ d. references-is t d ∙ names d ∙ sym (references-is s d)),
)

-- bytes were written into its last block
pub grown-append : (s t : StoreValue) (i : ℕ) (bytes : List ℕ) → IsStore s → IsData s i → t ≡ changed s i (extended bytes (in_hand s i)) → Grown s t i bytes 0
grown-append s t i bytes st is after =
    let c = in_hand s i in
    let e = is-extended bytes c is.chain.some in
    let here = chain-in-hand s i st is.chain.some in
    let free = same-free s t (ap (λ v. v.mblks) after) (ap (λ v. v.dblks) after)
    (ap (total length) after ∙ (let a = total-changed length s i (extended bytes c) here in let l = e.len in omega arith))
    (λ d. ap (total (names_of d)) after ∙ (let a = total-changed (names_of d) s i (extended bytes c) here in let l = e.names d in omega arith)) in
    let m = free.0 in
    let d = free.1 in
    grown-by s t i (extended bytes c) st is after bytes 0 (let l = e.len in let some = is.chain.some in omega arith) (e.all (is.chain.all_data is.kind)) e.band e.shows (omega arith) (omega arith)

-- one after the other
pub grown-both : (s t u : StoreValue) (i : ℕ) (xs ys : List ℕ) (m n : ℕ) → Grown s t i xs m → Grown t u i ys n → Grown s u i (xs ++ ys) (m + n)
grown-both s t u i xs ys m n first second = record {
  after = second.after ∙ ap (λ v. changed v i (in_hand u i)) first.after ∙ changed-twice s i (in_hand t i) (in_hand u i);
  are = second.are;
  band = second.band ∙ first.band;
  cells = second.cells ∙ ap (λ v. v ++ ys) first.cells ∙ append_assoc (cells_of (message_in s i)) xs ys;
  mblks = (let a = first.mblks in let b = second.mblks in omega arith);
  dblks = (let a = first.dblks in let b = second.dblks in omega arith);
}

-- a chain that gets more blocks at its end
first-append : (c e : List Block) → 0 < length c → block_at 0 (c ++ e) ≡ block_at 0 c
first-append [] e some = absurd (omega arith)
first-append (b ∷ c) e some = refl

data-append : (c e : List Block) → AreData c → AreData e → AreData (c ++ e)
data-append [] e all more = more
data-append (b ∷ c) e all more = (all.0, data-append c e all.1 more)

-- a message that was made is hung behind it
pub grown-hang : (s u t : StoreValue) (i j : ℕ) (bytes : List ℕ) → IsStore s → IsData s i → Begins s u j bytes 1 → t ≡ changed (dropped u j) i (in_hand u i ++ in_hand u j) → Grown s t i bytes 1
grown-hang s u t i j bytes st is made linked =
    let c = in_hand s i in
    let e = in_hand u j in
    let here = chain-in-hand s i st is.chain.some in
    let apart : j ≢ i = held-apart s j e i made.fresh here in
    let old : in_hand u i ≡ c = ap (λ v. in_hand v i) made.after ∙ stays-chain s j e i apart in
    let back : dropped u j ≡ s = ap (λ v. dropped v j) made.after ∙ gone s j e in
    let after : t ≡ changed s i (c ++ e) = linked ∙ ap (λ v. changed v i (in_hand u i ++ e)) back ∙ ap (λ v. changed s i (v ++ e)) old in
    let all : AreData e = made.are.are.chain.all_data made.are.are.kind in
    let len = length-append c e in
    let free = same-free u t (ap (λ v. v.mblks) after ∙ sym (ap (λ v. v.mblks) made.after)) (ap (λ v. v.dblks) after ∙ sym (ap (λ v. v.dblks) made.after))
    (ap (total length) after ∙ (let a = total-changed length s i (c ++ e) here in let b = total-held length s j e in omega arith) ∙ sym (ap (total length) made.after))
    (λ d. ap (total (names_of d)) after ∙ (let a = total-changed (names_of d) s i (c ++ e) here in let b = total-held (names_of d) s j e in let l = sum_by-append (λ (x : Block). cond {A = ℕ} (eqb x.number d) 1 0) c e in omega arith) ∙ sym (ap (total (names_of d)) made.after)) in
    let m = free.0 in
    let d = free.1 in
    let mm = made.mblks in
    let dd = made.dblks in
    let shown : bytes_of e ≡ bytes = sym (data-cells e made.are.are.chain.some all) ∙ ap cells_of made.shows ∙ cells-data bytes in
    grown-by s t i (c ++ e) st is after bytes 1 (let some = is.chain.some in omega arith) (data-append c e (is.chain.all_data is.kind) all) (ap (λ b. b.band) (first-append c e is.chain.some))
    (bytes-append c e ∙ ap (λ xs. bytes_of c ++ xs) shown) (omega arith) (omega arith)

-- what is hung and what it is hung behind are both in hand
pub hang-first : (s u : StoreValue) (i j : ℕ) (bytes : List ℕ) → IsStore s → IsData s i → Begins s u j bytes 1 → IsInHand u i
hang-first s u i j bytes st is made = came-first i (chain-in-hand s i st is.chain.some) made.fresh made.after

pub hang-apart : (s u : StoreValue) (i j : ℕ) (bytes : List ℕ) → IsStore s → IsData s i → Begins s u j bytes 1 → i ≢ j
hang-apart s u i j bytes st is made = came-apart i (chain-in-hand s i st is.chain.some) made.fresh made.after

-- all that is added was written into the last block, or the rest hangs behind it
pub grown-all : (s t : StoreValue) (i n : ℕ) (bytes : List ℕ) → Grown s t i (take n bytes) 0 → n ≡ length bytes → Grown s t i bytes 1
grown-all s t i n bytes is all = record {
  after = is.after;
  are = is.are;
  band = is.band;
  cells = is.cells ∙ ap (λ xs. cells_of (message_in s i) ++ xs) (take_all n bytes (omega arith));
  mblks = (let m = is.mblks in omega arith);
  dblks = (let d = is.dblks in omega arith);
}

pub grown-parts : (s t u : StoreValue) (i n : ℕ) (bytes : List ℕ) → Grown s t i (take n bytes) 0 → Grown t u i (take (length bytes - n) (drop n bytes)) 1 → Grown s u i bytes 1
grown-parts s t u i n bytes first second =
    let both = grown-both s t u i _ _ 0 1 first second in
    let whole = ap (λ xs. take n bytes ++ xs) (to_end n bytes) ∙ take-append-drop n bytes in
    subst (λ xs. Grown s u i xs 1) whole both

pub grown-room : (s t : StoreValue) (i n : ℕ) (bytes : List ℕ) → Grown s t i bytes 0 → HasRoom s n → HasRoom t n
grown-room s t i n bytes is room = record { mblks = (let m = is.mblks in let r = room.mblks in omega arith); dblks = (let d = is.dblks in let r = room.dblks in omega arith) }

-- a message of data in hand
pub data-in-hand : (s : StoreValue) (i : ℕ) → IsStore s → IsData s i → IsInHand s i
data-in-hand s i st is = chain-in-hand s i st is.chain.some

-- the rest of the store, where a message grew
pub grown-lists : (s t : StoreValue) (i n : ℕ) (bytes : List ℕ) → Grown s t i bytes n → t.lists ≡ s.lists
grown-lists s t i n bytes is = ap (λ v. v.lists) is.after

pub grown-pool : (s t : StoreValue) (i n : ℕ) (bytes : List ℕ) → Grown s t i bytes n → SamePool s t
grown-pool s t i n bytes is = record { mblks = ap (λ v. v.mblks) is.after; dblks = ap (λ v. v.dblks) is.after }

pub grown-times : (s t : StoreValue) (i n : ℕ) (bytes : List ℕ) → Grown s t i bytes n → (j : ℕ) → times_in j t.hand ≡ times_in j s.hand
grown-times s t i n bytes is j = ap (λ v. times_in j v.hand) is.after ∙ times-replaced i j (in_hand t i) s.hand

pub grown-others : (s t : StoreValue) (i n : ℕ) (bytes : List ℕ) → Grown s t i bytes n → (j : ℕ) → i ≢ j → in_hand t j ≡ in_hand s j
grown-others s t i n bytes is j apart = ap (λ v. in_hand v j) is.after ∙ in_hand-changed_other s i j (in_hand t i) apart

-- and where one was made
pub begins-lists : (s t : StoreValue) (i n : ℕ) (bytes : List ℕ) → Begins s t i bytes n → t.lists ≡ s.lists
begins-lists s t i n bytes is = ap (λ v. v.lists) is.after

pub begins-pool : (s t : StoreValue) (i n : ℕ) (bytes : List ℕ) → Begins s t i bytes n → SamePool s t
begins-pool s t i n bytes is = record { mblks = ap (λ v. v.mblks) is.after; dblks = ap (λ v. v.dblks) is.after }

pub begins-times : (s t : StoreValue) (i n : ℕ) (bytes : List ℕ) → Begins s t i bytes n → (j : ℕ) → times_in j t.hand ≡ once i j + times_in j s.hand
unfolding once
begins-times s t i n bytes is j = ap (λ v. times_in j v.hand) is.after ∙ sum_by-cons (λ (h : Held). cond {A = ℕ} (eqb h.name j) 1 0) (record { name = i; chain = in_hand t i }) s.hand

pub begins-others : (s t : StoreValue) (i n : ℕ) (bytes : List ℕ) → Begins s t i bytes n → (j : ℕ) → i ≢ j → in_hand t j ≡ in_hand s j
begins-others s t i n bytes is j apart = ap (λ v. in_hand v j) is.after ∙ stays-chain s i (in_hand t i) j apart

-- an ordinary message has its cells alone, and stays one where it grows
pub ordinary-is : (s : StoreValue) (i : ℕ) → IsOrdinary s i → message_in s i ≡ data_message (cells_of (message_in s i))
unfolding data_message
ordinary-is s i is =
    let c = in_hand s i in
    let cells = data-cells c is.are.chain.some (is.are.chain.all_data is.are.kind) in
    let all = ap bytes_of (data-all c (is.are.chain.all_data is.are.kind)) in
    data-shown c is.are.chain.some is.are.kind ∙ ap (λ b. data_in b (data_bytes c)) is.band ∙ ap (λ xs. data_in 0 xs) (all ∙ sym cells)

pub grown-ordinary : (s t : StoreValue) (i n : ℕ) (bytes : List ℕ) → IsOrdinary s i → Grown s t i bytes n → IsOrdinary t i
grown-ordinary s t i n bytes was is = record { are = is.are; band = is.band ∙ was.band }

-- the message that it is then
pub grown-is : (s t : StoreValue) (i n : ℕ) (bytes : List ℕ) → IsOrdinary s i → Grown s t i bytes n → message_in t i ≡ data_message (cells_of (message_in s i) ++ bytes)
grown-is s t i n bytes was is = ordinary-is t i (grown-ordinary s t i n bytes was is) ∙ ap data_message is.cells

-- nothing is added
pub grown-none : (s : StoreValue) (i : ℕ) → IsData s i → Grown s s i [] 0
grown-none s i is = record {
  after = sym (changed-same s i);
  are = is;
  band = refl;
  cells = sym (append-nil (cells_of (message_in s i)));
  mblks = omega arith;
  dblks = omega arith;
}

-- a message that was made grows
pub begins-grown : (s t u : StoreValue) (i : ℕ) (xs ys : List ℕ) (m n : ℕ) → Begins s t i xs m → Grown t u i ys n → Begins s u i (xs ++ ys) (m + n)
begins-grown s t u i xs ys m n first second = record {
  fresh = first.fresh;
  after = second.after ∙ ap (λ v. changed v i (in_hand u i)) first.after ∙ held-changed s i (in_hand t i) (in_hand u i);
  are = grown-ordinary t u i n ys first.are second;
  shows = grown-is t u i n ys first.are second ∙ ap (λ v. data_message (v ++ ys)) (ap cells_of first.shows ∙ cells-data xs);
  mblks = (let a = first.mblks in let b = second.mblks in omega arith);
  dblks = (let a = first.dblks in let b = second.dblks in omega arith);
}
