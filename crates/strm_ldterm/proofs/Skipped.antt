-- Blocks and bytes that leave the front of a message of data in hand.
use Rattle.strm_ldterm.proofs.Prelude.{ℕ, ◌≡◌, ◌≢◌, ◌≤◌, ◌<◌, ◌+◌, false, cond, eqb, List, [], ◌∷◌, ◌++◌, length, take, drop}
use Rattle.strm_ldterm.proofs.Prelude.{refl, sym, ap, subst, ◌∙◌, arith, append_assoc, take-append-drop, slice_index_or, sum_by-cons, total-held}
use Rattle.strm_ldterm.proofs.Prelude.{total-dropped, total-changed, used-is, references-is, free_m-is, free_d-more, in_hand-changed}
use Rattle.strm_ldterm.proofs.Prelude.{in_hand-changed_other, data_in, data-shown, data-all, data-control, data_in-cells, held-changed, stays-chain}
use Rattle.strm_ldterm.proofs.Prelude.{times-replaced, once-apart}
use Rattle.strm_ldterm.specs.Prelude.{left_of, Message, cells_of, is_high_priority, Block, StoreValue, IsStore, IsFreshName, IsInHand, in_hand}
use Rattle.strm_ldterm.specs.Prelude.{block_at, held, dropped, changed, banded, with_block, times_in, names_of, bytes_of, message_of, IsChain}
use Rattle.strm_ldterm.specs.Prelude.{AreData, once, Shifts, message_in}
use Rattle.std.proofs.Math.Seq.{drop-append_seam}
use Rattle.strm_types.specs.declared.kinds.MsgKind.TheVariants as kinds
use Rattle.strm_blocks.specs.Blocks.{trimmed_head, without}
use Rattle.strm_blocks.specs.Outcomes.{Unlinked}
use Rattle.strm_blocks.proofs.Laws.{IsInHand-held_other, IsInHand-changed}
use Rattle.strm_msg.proofs.Hands.{other-name, held-is, held-chain, dropped-changed}
use Rattle.strm_msg.proofs.InHand.{fresh-dropped}
use Rattle.strm_frame.proofs.Handing.{can-of, freed-hands, times-held}
use Rattle.strm_ldterm.specs.Becoming.{Becomes, IsFronted}
use Rattle.strm_ldterm.specs.Stands.{IsData}

-- a fresh name is none in hand
fresh-apart : (s : StoreValue) (i j : ℕ) → IsInHand s i → IsFreshName s j → i ≢ j
fresh-apart s i j is fresh e = let w = ap (λ k. times_in k s.hand) e in absurd (omega arith)

-- A first block that is parted from its message and freed.
module _ (s t : StoreValue) (i first j : ℕ) (is : IsInHand s i) (u : Unlinked s t i first j) where
  pub first-in_hand : IsInHand t first
  first-in_hand =
      subst (λ k. IsInHand t k) (sym u.kept_name) (subst (λ v. IsInHand v i) (sym u.after)
      (IsInHand-held_other (changed s i (u.block ∷ [])) j i u.chain (λ e. fresh-apart s i j is u.fresh_name (sym e)) (IsInHand-changed s i i (u.block ∷ []) is)))

  module _ (v : StoreValue) (freed : v ≡ dropped t first) where
    rest-is : v ≡ held (dropped s i) j u.chain
    rest-is =
        let miss : eqb j i ≡ false = other-name j i (λ e. fresh-apart s i j is u.fresh_name (sym e)) in
        let w = changed s i (u.block ∷ []) in
        freed ∙ ap (λ k. dropped t k) u.kept_name ∙ ap (λ z. dropped z i) u.after
        ∙ ap (λ b. record w { hand = cond b w.hand (record { name = j; chain = u.chain } ∷ without i w.hand) }) miss
        ∙ ap (λ z. held z j u.chain) (dropped-changed s i (u.block ∷ []))

    pub rest-in_hand : IsInHand v j
    rest-in_hand = subst (λ z. IsInHand z j) (sym rest-is) (held-is (dropped s i) j u.chain (fresh-dropped s i j u.fresh_name))

    pub rest-after : (w : StoreValue) (band : ℕ) → band ≡ (block_at 0 (in_hand s i)).band → w ≡ changed v j (banded band (in_hand v j))
        → w ≡ held (dropped s i) j (banded (block_at 0 (in_hand s i)).band (drop 1 (in_hand s i)))
    rest-after w band same is =
        is ∙ ap (λ z. changed z j (banded band (in_hand z j))) rest-is
        ∙ ap (λ c. changed (held (dropped s i) j u.chain) j (banded band c)) (held-chain (dropped s i) j u.chain)
        ∙ held-changed (dropped s i) j u.chain (banded band u.chain)
        ∙ ap (λ b. held (dropped s i) j (banded b u.chain)) same
        ∙ ap (λ c. held (dropped s i) j (banded (block_at 0 (in_hand s i)).band (drop 1 c))) (sym u.joined)

-- messages of data by their chains
pub shown-bytes : (chain : List Block) → IsChain chain → (block_at 0 chain).kind ≡ kinds.Data → message_of chain ≡ data_in (block_at 0 chain).band (bytes_of chain)
shown-bytes chain one kind =
    data-shown chain one.some kind ∙ ap (λ bs. data_in (block_at 0 chain).band (bytes_of bs)) (data-all chain (one.all_data kind))

data-from : (chain : List Block) (b : Block) (rest : List Block) → IsChain chain → (block_at 0 chain).kind ≡ kinds.Data → AreData (b ∷ rest) → b.band ≡ (block_at 0 chain).band → IsChain (b ∷ rest)
data-from chain b rest one kind all band = record {
  some = omega arith;
  all_data = λ k. all;
  parted = λ control. absurd (let no = data-control b.kind all.0 in cc);
  high = λ high. band ∙ one.high (ap is_high_priority (kind ∙ sym all.0) ∙ high);
  low = omega (arith, band, one.low);
}

pub no-bytes : (l : List ℕ) → length l ≡ 0 → l ≡ []
no-bytes [] none = refl
no-bytes (x ∷ l) none = absurd (omega arith)

-- without a first block that has no bytes
pub record SameShown (chain new : List Block) : Type 0 where
  pub one : IsChain new
  pub kind : (block_at 0 new).kind ≡ kinds.Data
  pub shows : message_of new ≡ message_of chain
  pub fewer : length new + 1 ≡ length chain
  pub names : (d : ℕ) → names_of d new ≤ names_of d chain

pub without-first : (chain : List Block) → IsChain chain → (block_at 0 chain).kind ≡ kinds.Data → 1 < length chain → length (block_at 0 chain).bytes ≡ 0 → SameShown chain (banded (block_at 0 chain).band (drop 1 chain))
without-first [] one kind more none = absurd (omega arith)
without-first (b ∷ []) one kind more none = absurd (omega arith)
without-first (b ∷ c ∷ rest) one kind more none =
    let all = one.all_data kind in
    let next : Block = record c { band = b.band } in
    let new = data-from (b ∷ c ∷ rest) next rest one kind all.1 refl in
    record {
      one = new;
      kind = all.1.0;
      shows =
          shown-bytes (next ∷ rest) new all.1.0
          ∙ ap (λ l. data_in b.band (l ++ (c.bytes ++ bytes_of rest))) (sym (no-bytes b.bytes none))
          ∙ sym (shown-bytes (b ∷ c ∷ rest) one kind);
      fewer = omega arith;
      names = λ d. let x = sum_by-cons (λ (x : Block). cond {A = ℕ} (eqb x.number d) 1 0) b (c ∷ rest) in
          let y = sum_by-cons (λ (x : Block). cond {A = ℕ} (eqb x.number d) 1 0) c rest in
          let z = sum_by-cons (λ (x : Block). cond {A = ℕ} (eqb x.number d) 1 0) next rest in omega arith;
    }

-- one message comes for another one
module _ (s : StoreValue) (i j : ℕ) (st : IsStore s) (is : IsInHand s i) (fresh : IsFreshName s j) (new : List Block) (fewer : length new ≤ length (in_hand s i)) (names : (d : ℕ) → names_of d new ≤ names_of d (in_hand s i)) where
  swapped : Shifts s (held (dropped s i) j new) (once i) (once j) 0
  swapped =
      let t = held (dropped s i) j new in
      let h = freed-hands s i (λ _. 0) st (can-of s i is) in
      record {
        counts = λ k. let c = h.counts k in let n = times-held (dropped s i) j new k in omega arith;
        others = λ k none some.
            stays-chain (dropped s i) j new k (λ e. (let w = ap (λ n. times_in n s.hand) e in absurd (omega arith))) ∙ h.others k none refl some;
        mblks = (let a = total-held length (dropped s i) j new in let b = total-dropped length s i is in let c = free_m-is s in let d = free_m-is t in let e = used-is s in let f = used-is t in omega arith);
        dblks = (let m = free_d-more s t refl (λ d. let a = total-held (names_of d) (dropped s i) j new in let b = total-dropped (names_of d) s i is in let n = names d in let e = references-is s d in let f = references-is t d in omega arith) in omega arith);
        pool = record { mblks = refl; dblks = refl };
      }

module _ (s t : StoreValue) (i j : ℕ) (st : IsStore s) (is : IsInHand s i) (msg : IsData s i) (fresh : IsFreshName s j) (more : 1 < length (in_hand s i)) (none : length (block_at 0 (in_hand s i)).bytes ≡ 0)
    (after : t ≡ held (dropped s i) j (banded (block_at 0 (in_hand s i)).band (drop 1 (in_hand s i)))) where
  abbrev new : List Block
  new = banded (block_at 0 (in_hand s i)).band (drop 1 (in_hand s i))

  same : SameShown (in_hand s i) new
  same = without-first (in_hand s i) msg.chain msg.kind more none

  here : in_hand t j ≡ new
  here = ap (λ v. in_hand v j) after ∙ held-chain (dropped s i) j new

  pub first-in : IsInHand t j
  first-in = subst (λ v. IsInHand v j) (sym after) (held-is (dropped s i) j new (fresh-dropped s i j fresh))

  pub first-fewer : length (in_hand t j) + 1 ≡ length (in_hand s i)
  first-fewer = ap (λ c. length c + 1) here ∙ same.fewer

  pub first-becomes : Becomes s t i j (message_in s i)
  first-becomes = record {
    lists = ap (λ v. v.lists) after;
    hands = subst (λ v. Shifts s v (once i) (once j) 0) (sym after) (swapped s i j st is fresh new (let f = same.fewer in omega arith) same.names);
    is = record { chain = subst IsChain (sym here) same.one; kind = ap (λ c. (block_at 0 c).kind) here ∙ same.kind };
    shows = ap message_of here ∙ same.shows;
  }

-- nothing changed, and one after the other
pub becomes-none : (s : StoreValue) (i : ℕ) → IsData s i → Becomes s s i i (message_in s i)
becomes-none s i is = record {
  lists = refl;
  hands = record { counts = λ k. refl; others = λ k none some. refl; mblks = omega arith; dblks = omega arith; pool = record { mblks = refl; dblks = refl } };
  is = is;
  shows = refl;
}

pub becomes-both : (s t u : StoreValue) (i j k : ℕ) (m n : Message ℕ) → IsStore t → Becomes s t i j m → Becomes t u j k n → Becomes s u i k n
becomes-both s t u i j k m n st first second = record {
  lists = second.lists ∙ first.lists;
  hands = record {
    counts = λ q. let a = first.hands.counts q in let b = second.hands.counts q in omega arith;
    others = λ q none some.
        let a = first.hands.counts q in let few = st.apart q in
        second.hands.others q (omega arith) (omega arith) ∙ first.hands.others q none some;
    mblks = (let a = first.hands.mblks in let b = second.hands.mblks in omega arith);
    dblks = (let a = first.hands.dblks in let b = second.hands.dblks in omega arith);
    pool = record { mblks = second.hands.pool.mblks ∙ first.hands.pool.mblks; dblks = second.hands.pool.dblks ∙ first.hands.pool.dblks };
  };
  is = second.is;
  shows = second.shows;
}

-- How far a walk over blocks without bytes has come.
pub record Skips (s t : StoreValue) (i j k : ℕ) : Type 0 where
  pub became : Becomes s t i j (message_in s i)
  pub here : IsInHand t j
  pub left : length (in_hand t j) + k ≡ length (in_hand s i) + 1

pub skips-none : (s : StoreValue) (i : ℕ) → IsInHand s i → IsData s i → Skips s s i i 1
skips-none s i is msg = record { became = becomes-none s i msg; here = is; left = refl }

pub skips-more : (s t u : StoreValue) (i j k n : ℕ) → IsStore t → Skips s t i j n → 1 < length (in_hand t j) → length (block_at 0 (in_hand t j)).bytes ≡ 0 → IsFreshName t k
    → u ≡ held (dropped t j) k (banded (block_at 0 (in_hand t j)).band (drop 1 (in_hand t j))) → Skips s u i k (n + 1)
skips-more s t u i j k n st w more none fresh after =
    let b = first-becomes t u j k st w.here w.became.is fresh more none after in
    let both = becomes-both s t u i j k (message_in s i) (message_in t j) st w.became b in
    record {
      became = record { lists = both.lists; hands = both.hands; is = both.is; shows = both.shows ∙ w.became.shows };
      here = first-in t u j k st w.here w.became.is fresh more none after;
      left = (let l = w.left in let f = first-fewer t u j k st w.here w.became.is fresh more none after in omega arith);
    }

-- a message of one block without bytes has none
none-shown : (chain : List Block) → IsChain chain → (block_at 0 chain).kind ≡ kinds.Data → length chain ≡ 1 → length (block_at 0 chain).bytes ≡ 0 → cells_of (message_of chain) ≡ []
none-shown [] one kind single none = absurd (omega arith)
none-shown (b ∷ c ∷ rest) one kind single none = absurd (omega arith)
none-shown (b ∷ []) one kind single none =
    ap cells_of (shown-bytes (b ∷ []) one kind) ∙ data_in-cells b.band (b.bytes ++ []) ∙ ap (λ l. l ++ []) (no-bytes b.bytes none)

-- the walk ends before a block that has bytes, or at the last one
pub skipped-front : (t : StoreValue) (j : ℕ) → length (in_hand t j) ≡ 1 → IsFronted t j
skipped-front t j single = λ more. absurd (omega arith)

pub skipped-none : (s t : StoreValue) (i j : ℕ) → Becomes s t i j (message_in s i) → length (in_hand t j) ≡ 1 → length (block_at 0 (in_hand t j)).bytes ≡ 0 → cells_of (message_in s i) ≡ []
skipped-none s t i j b single none = ap cells_of (sym b.shows) ∙ none-shown (in_hand t j) b.is.chain b.is.kind single none

-- A message whose first block has lost bytes at its front.
pub record LessShown (chain new : List Block) (gone : List ℕ) : Type 0 where
  pub one : IsChain new
  pub kind : (block_at 0 new).kind ≡ kinds.Data
  pub shows : message_of new ≡ left_of (drop (length gone) (cells_of (message_of chain))) (message_of chain)
  pub cells : cells_of (message_of chain) ≡ gone ++ drop (length gone) (cells_of (message_of chain))
  pub same : length new ≡ length chain
  pub names : (d : ℕ) → names_of d new ≡ names_of d chain

pub without-front : (chain : List Block) (n : ℕ) → IsChain chain → (block_at 0 chain).kind ≡ kinds.Data → LessShown chain (with_block 0 (trimmed_head n (block_at 0 chain)) chain) (take n (block_at 0 chain).bytes)
without-front [] n one kind = absurd (let l = one.some in omega arith)
without-front (b ∷ rest) n one kind =
    let less = trimmed_head n b in
    let all = one.all_data kind in
    let new = data-from (b ∷ rest) less rest one kind all refl in
    let m = message_of (b ∷ rest) in
    let gone = take n b.bytes in
    let shown = shown-bytes (b ∷ rest) one kind in
    let parts : cells_of m ≡ gone ++ (drop n b.bytes ++ bytes_of rest) =
    ap cells_of shown ∙ data_in-cells b.band (bytes_of (b ∷ rest)) ∙ ap (λ l. l ++ bytes_of rest) (sym (take-append-drop n b.bytes)) ∙ append_assoc gone (drop n b.bytes) (bytes_of rest) in
    let left : drop (length gone) (cells_of m) ≡ drop n b.bytes ++ bytes_of rest = ap (drop (length gone)) parts ∙ drop-append_seam gone (drop n b.bytes ++ bytes_of rest) in
    record {
      one = new;
      kind = kind;
      shows = shown-bytes (less ∷ rest) new kind ∙ sym (ap (λ c. left_of c m) left ∙ ap (left_of (drop n b.bytes ++ bytes_of rest)) shown);
      cells = parts ∙ ap (λ c. gone ++ c) (sym left);
      same = refl;
      names = λ d. let y = sum_by-cons (λ (x : Block). cond {A = ℕ} (eqb x.number d) 1 0) b rest in
          let z = sum_by-cons (λ (x : Block). cond {A = ℕ} (eqb x.number d) 1 0) less rest in omega arith;
    }

module _ (s t : StoreValue) (i n : ℕ) (is : IsInHand s i) (msg : IsData s i) (after : t ≡ changed s i (with_block 0 (trimmed_head n (block_at 0 (in_hand s i))) (in_hand s i))) where
  abbrev left : List Block
  left = with_block 0 (trimmed_head n (block_at 0 (in_hand s i))) (in_hand s i)

  abbrev pub front : List ℕ
  front = take n (block_at 0 (in_hand s i)).bytes

  less : LessShown (in_hand s i) left front
  less = without-front (in_hand s i) n msg.chain msg.kind

  left-is : in_hand t i ≡ left
  left-is = ap (λ v. in_hand v i) after ∙ in_hand-changed s i left is

  pub front-in : IsInHand t i
  front-in = subst (λ v. IsInHand v i) (sym after) (IsInHand-changed s i i left is)

  pub front-is : cells_of (message_in s i) ≡ front ++ drop (length front) (cells_of (message_in s i))
  front-is = less.cells

  trimmed : Shifts s (changed s i left) (once i) (once i) 0
  trimmed =
      let t = changed s i left in
      record {
        counts = λ k. let r = times-replaced i k left s.hand in omega arith;
        others = λ k none some. in_hand-changed_other s i k left (once-apart i k none);
        mblks = (let a = total-changed length s i left is in let l = less.same in let c = free_m-is s in let d = free_m-is t in let e = used-is s in let f = used-is t in omega arith);
        dblks = (let m = free_d-more s t refl (λ d. let a = total-changed (names_of d) s i left is in let n = less.names d in let e = references-is s d in let f = references-is t d in omega arith) in omega arith);
        pool = record { mblks = refl; dblks = refl };
      }

  pub front-becomes : Becomes s t i i (left_of (drop (length front) (cells_of (message_in s i))) (message_in s i))
  front-becomes = record {
    lists = ap (λ v. v.lists) after;
    hands = subst (λ v. Shifts s v (once i) (once i) 0) (sym after) trimmed;
    is = record { chain = subst IsChain (sym left-is) less.one; kind = ap (λ c. (block_at 0 c).kind) left-is ∙ less.kind };
    shows = ap message_of left-is ∙ less.shows;
  }

-- the next byte, where there is one
take-one : (l : List ℕ) → (length l ≡ 0 → ⊥) → take 1 l ≡ slice_index_or l 0 0 ∷ []
take-one [] some = absurd (some refl)
take-one (x ∷ l) some = refl

module _ (s t : StoreValue) (i : ℕ) (is : IsInHand s i) (msg : IsData s i) (some : length (block_at 0 (in_hand s i)).bytes ≡ 0 → ⊥) (after : t ≡ changed s i (with_block 0 (trimmed_head 1 (block_at 0 (in_hand s i))) (in_hand s i))) where
  first : take 1 (block_at 0 (in_hand s i)).bytes ≡ slice_index_or (block_at 0 (in_hand s i)).bytes 0 0 ∷ []
  first = take-one (block_at 0 (in_hand s i)).bytes some

  pub byte-is : cells_of (message_in s i) ≡ slice_index_or (block_at 0 (in_hand s i)).bytes 0 0 ∷ drop 1 (cells_of (message_in s i))
  byte-is = front-is s t i 1 is msg after ∙ ap (λ l. l ++ drop (length l) (cells_of (message_in s i))) first

  pub byte-becomes : Becomes s t i i (left_of (drop 1 (cells_of (message_in s i))) (message_in s i))
  byte-becomes = subst (λ l. Becomes s t i i (left_of (drop (length l) (cells_of (message_in s i))) (message_in s i))) first (front-becomes s t i 1 is msg after)

-- all cells of a message of data are the message
data-is : (s : StoreValue) (i : ℕ) → IsData s i → message_in s i ≡ data_in (block_at 0 (in_hand s i)).band (cells_of (message_in s i))
data-is s i msg =
    let chain = in_hand s i in
    let shown = shown-bytes chain msg.chain msg.kind in
    shown ∙ ap (data_in (block_at 0 chain).band) (sym (ap cells_of shown ∙ data_in-cells (block_at 0 chain).band (bytes_of chain)))

pub left-all : (s : StoreValue) (i : ℕ) → IsData s i → left_of (cells_of (message_in s i)) (message_in s i) ≡ message_in s i
left-all s i msg = let is = data-is s i msg in ap (left_of (cells_of (message_in s i))) is ∙ sym is

-- where no byte is left, nothing is taken
pub left-none : (s : StoreValue) (i : ℕ) → IsData s i → cells_of (message_in s i) ≡ [] → left_of (drop 1 (cells_of (message_in s i))) (message_in s i) ≡ message_in s i
left-none s i msg none =
    let m = message_in s i in
    ap (λ c. left_of (drop 1 c) m) none ∙ ap (λ c. left_of c m) (sym none) ∙ left-all s i msg
