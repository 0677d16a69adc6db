-- Data bytes that are taken block by block.
use Rattle.std.proofs.Common.{ℕ, suc, ◌≡◌, ◌≤◌, ◌<◌, ◌+◌, ◌-◌, min, Bool, true, false, cond, List, [], ◌∷◌, ◌++◌, length, take, drop, get_or, refl, sym, ap, ◌∙◌, arith, inl, inr, append_assoc, append-nil}
use Rattle.std.proofs.Math.ListN.{set}
use Rattle.std.proofs.Math.Seq.{paste, take-append_seam, drop-append-add, take-append-add, set-append_seam, get_or-append_seam}
use Rattle.std.proofs.lemmas.Bool.{cases_lt}
use Rattle.std.proofs.lemmas.List.{length-append, length-take, length-take-le, length-drop, drop-drop, drop_all, take_all, take-append-le, take_more, drop-append-le}
use Rattle.std.proofs.lemmas.List.Edits.{paste_none}
use Rattle.strm_types.specs.declared.kinds.MsgKind.{MsgKind}
use Rattle.strm_types.specs.declared.kinds.MsgKind.TheVariants as kinds
use Rattle.strm_blocks.specs.Blocks.{Block, StoreValue, block_at, no_block, in_hand, changed, with_block, trimmed_head, IsInHand, times_in}
use Rattle.strm_types.specs.Kinds.{is_control_kind, is_body_kind}
use Rattle.strm_msg.specs.Bytes.{bytes_of, control_blocks, control_bytes, data_blocks, data_bytes}
use Rattle.strm_msg.specs.Taken.{without_data, filled}
use Rattle.strm_msg.proofs.Hands.{changed-chain, changed-twice, changed-in_hand, changed-same}
use Rattle.strm_msg.proofs.Parts.{chain-at, control-blocks-cons}

-- a buffer with more bytes
pub filled-more : (old xs ys : List ℕ) (at n : ℕ) → at ≡ min (length old) (length xs) → n ≡ min (length old - at) (length ys) → paste (filled old xs) at ys n ≡ filled old (xs ++ ys)
filled-more old xs ys at n at_is n_is =
    let both = length-append xs ys in
    elim (cases_lt (length xs) (length old)) [
      | inl lt ↦
          (let e : at ≡ length xs = omega arith in
          let front : filled old xs ≡ xs ++ drop (length xs) old = ap (λ zs. zs ++ drop (length xs) old) (take_all (length old) xs (omega arith)) in
          let room : length old ≡ length xs + (length old - length xs) = omega arith in
          let head : take at (filled old xs) ≡ xs = ap (λ k. take k (filled old xs)) e ∙ ap (λ zs. take (length xs) zs) front ∙ take-append_seam xs (drop (length xs) old) in
          let tail : drop (at + n) (filled old xs) ≡ drop (length xs + n) old = ap (λ k. drop (k + n) (filled old xs)) e ∙ ap (λ zs. drop (length xs + n) zs) front ∙ drop-append-add xs (drop (length xs) old) n ∙ drop-drop n (length xs) old in
          let given : take (length old) (xs ++ ys) ≡ xs ++ take (length old - length xs) ys = ap (λ k. take k (xs ++ ys)) room ∙ take-append-add xs ys (length old - length xs) in
          let left : paste (filled old xs) at ys n ≡ (xs ++ take n ys) ++ drop (length xs + n) old = ap (λ zs. (zs ++ take n ys) ++ drop (at + n) (filled old xs)) head ∙ ap (λ zs. (xs ++ take n ys) ++ zs) tail in
          let right : filled old (xs ++ ys) ≡ (xs ++ take (length old - length xs) ys) ++ drop (length xs + length ys) old = ap (λ zs. zs ++ drop (length (xs ++ ys)) old) given ∙ ap (λ k. (xs ++ take (length old - length xs) ys) ++ drop k old) both in
          elim (cases_lt (length ys) (length old - length xs)) [
            | inl fits ↦
                (let n_all : n ≡ length ys = omega arith in
                left ∙ ap (λ k. (xs ++ take k ys) ++ drop (length xs + k) old) n_all ∙ ap (λ zs. (xs ++ zs) ++ drop (length xs + length ys) old) (take_all (length ys) ys (omega arith) ∙ sym (take_all (length old - length xs) ys (omega arith))) ∙ sym right)
            | inr more ↦
                (let n_room : n ≡ length old - length xs = omega arith in
                left ∙ ap (λ k. (xs ++ take k ys) ++ drop (length xs + k) old) n_room ∙ ap (λ zs. (xs ++ take (length old - length xs) ys) ++ zs) (drop_all (length xs + (length old - length xs)) old (omega arith) ∙ sym (drop_all (length xs + length ys) old (omega arith))) ∙ sym right)
          ])
      | inr ge ↦
          (let n_none : n ≡ 0 = omega arith in
          let same : paste (filled old xs) at ys n ≡ filled old xs = ap (λ k. paste (filled old xs) at ys k) n_none ∙ sym (paste_none (filled old xs) at ys) in
          let head = take-append-le (length old) xs ys ge in
          let tail : drop (length xs) old ≡ drop (length (xs ++ ys)) old = drop_all (length xs) old ge ∙ sym (drop_all (length (xs ++ ys)) old (omega arith)) in
          same ∙ ap (λ zs. zs ++ drop (length xs) old) (sym head) ∙ ap (λ zs. take (length old) (xs ++ ys) ++ zs) tail)
    ]

pub length-filled : (old xs : List ℕ) → length (filled old xs) ≡ length old
length-filled old xs = length-append (take (length old) xs) (drop (length xs) old) ∙ (let t = length-take (length old) xs in let d = length-drop (length xs) old in omega arith)

-- the data bytes of two chains
pub data-append : (xs ys : List Block) → data_bytes (xs ++ ys) ≡ data_bytes xs ++ data_bytes ys
data-append [] ys = refl
data-append (b ∷ xs) ys =
    let ih = data-append xs ys in
    elim (is_body_kind b.kind) as (λ v. bytes_of (cond v (b ∷ data_blocks (xs ++ ys)) (data_blocks (xs ++ ys))) ≡ bytes_of (cond v (b ∷ data_blocks xs) (data_blocks xs)) ++ data_bytes ys) [
      | true ↦ ap (λ zs. b.bytes ++ zs) ih ∙ sym (append_assoc b.bytes (data_bytes xs) (data_bytes ys))
      | false ↦ ih
    ]

pub length-without : (n : ℕ) (chain : List Block) → length (without_data n chain) ≡ length chain
length-without n [] = refl
length-without n (b ∷ chain) =
    elim (is_body_kind b.kind) as (λ v. length (cond v (trimmed_head n b ∷ without_data (n - length b.bytes) chain) (b ∷ without_data n chain)) ≡ suc (length chain)) [
      | true ↦ ap suc (length-without (n - length b.bytes) chain)
      | false ↦ ap suc (length-without n chain)
    ]

-- taking from two chains
pub without-append : (n : ℕ) (xs ys : List Block) → without_data n (xs ++ ys) ≡ without_data n xs ++ without_data (n - length (data_bytes xs)) ys
without-append n [] ys = ap (λ k. without_data k ys) (let e : n ≡ n - 0 = omega arith in e)
without-append n (b ∷ xs) ys =
    let some = without-append (n - length b.bytes) xs ys in
    let none = without-append n xs ys in
    let len = length-append b.bytes (data_bytes xs) in
    let e : n - length b.bytes - length (data_bytes xs) ≡ n - length (b.bytes ++ data_bytes xs) = omega arith in
    elim (is_body_kind b.kind) as (λ v. cond v (trimmed_head n b ∷ without_data (n - length b.bytes) (xs ++ ys)) (b ∷ without_data n (xs ++ ys)) ≡ cond v (trimmed_head n b ∷ without_data (n - length b.bytes) xs) (b ∷ without_data n xs) ++ without_data (n - length (bytes_of (cond v (b ∷ data_blocks xs) (data_blocks xs)))) ys) [
      | true ↦ ap (λ zs. trimmed_head n b ∷ zs) some ∙ ap (λ k. trimmed_head n b ∷ (without_data (n - length b.bytes) xs ++ without_data k ys)) e
      | false ↦ ap (λ zs. b ∷ zs) none
    ]

-- what is left of the data part
pub drop-append : (n : ℕ) (xs ys : List ℕ) → drop n (xs ++ ys) ≡ drop n xs ++ drop (n - length xs) ys
drop-append n xs ys =
    elim (cases_lt n (length xs)) [
      | inl lt ↦ drop-append-le n xs ys (omega arith) ∙ ap (λ k. drop n xs ++ drop k ys) (let e : 0 ≡ n - length xs = omega arith in e)
      | inr ge ↦ ap (λ k. drop k (xs ++ ys)) (let e : n ≡ length xs + (n - length xs) = omega arith in e) ∙ drop-append-add xs ys (n - length xs) ∙ ap (λ zs. zs ++ drop (n - length xs) ys) (sym (drop_all n xs ge))
    ]

pub data-without : (n : ℕ) (chain : List Block) → data_bytes (without_data n chain) ≡ drop n (data_bytes chain)
data-without n [] = sym (drop_all n [] (omega arith))
data-without n (b ∷ chain) =
    let some = data-without (n - length b.bytes) chain in
    let none = data-without n chain in
    let split = drop-append n b.bytes (data_bytes chain) in
    let by : (v : Bool) → is_body_kind b.kind ≡ v → data_bytes (cond v (trimmed_head n b ∷ without_data (n - length b.bytes) chain) (b ∷ without_data n chain)) ≡ drop n (bytes_of (cond v (b ∷ data_blocks chain) (data_blocks chain))) =
    λ v. elim v as (λ w. is_body_kind b.kind ≡ w → data_bytes (cond w (trimmed_head n b ∷ without_data (n - length b.bytes) chain) (b ∷ without_data n chain)) ≡ drop n (bytes_of (cond w (b ∷ data_blocks chain) (data_blocks chain)))) [
      | true ↦ (λ is. ap (λ w. bytes_of (cond w (trimmed_head n b ∷ data_blocks (without_data (n - length b.bytes) chain)) (data_blocks (without_data (n - length b.bytes) chain)))) is ∙ ap (λ zs. drop n b.bytes ++ zs) some ∙ sym split)
      | false ↦ (λ is. ap (λ w. bytes_of (cond w (b ∷ data_blocks (without_data n chain)) (data_blocks (without_data n chain)))) is ∙ none)
    ] in
    by (is_body_kind b.kind) refl

-- no data block is one of control
apart : (kind : MsgKind) → is_body_kind kind ≡ true → is_control_kind kind ≡ false
unfolding is_body_kind is_control_kind
apart kinds.Data is = refl
apart kinds.Proto is = absurd cc
apart kinds.Pcproto is = absurd cc
apart _ is = refl

-- the control part stays
pub control-without : (n : ℕ) (chain : List Block) → control_bytes (without_data n chain) ≡ control_bytes chain
control-without n [] = refl
control-without n (b ∷ chain) =
    let none = control-without n chain in
    let old = ap (λ (xs : List Block). bytes_of xs) (control-blocks-cons b chain) in
    let by : (v : Bool) → is_body_kind b.kind ≡ v → control_bytes (cond v (trimmed_head n b ∷ without_data (n - length b.bytes) chain) (b ∷ without_data n chain)) ≡ control_bytes (b ∷ chain) =
    λ v. elim v as (λ w. is_body_kind b.kind ≡ w → control_bytes (cond w (trimmed_head n b ∷ without_data (n - length b.bytes) chain) (b ∷ without_data n chain)) ≡ control_bytes (b ∷ chain)) [
      | true ↦ (λ is.
          (let other = apart b.kind is in
          let new = ap (λ (xs : List Block). bytes_of xs) (control-blocks-cons (trimmed_head n b) (without_data (n - length b.bytes) chain)) in
          new ∙ ap (λ w. bytes_of (cond w (trimmed_head n b ∷ control_blocks (without_data (n - length b.bytes) chain)) [])) other ∙ sym (ap (λ w. bytes_of (cond w (b ∷ control_blocks chain) [])) other) ∙ sym old))
      | false ↦ (λ is.
          (let new = ap (λ (xs : List Block). bytes_of xs) (control-blocks-cons b (without_data n chain)) in
          let inner : bytes_of (cond (is_control_kind b.kind) (b ∷ control_blocks (without_data n chain)) []) ≡ bytes_of (cond (is_control_kind b.kind) (b ∷ control_blocks chain) []) =
          elim (is_control_kind b.kind) as (λ u. bytes_of (cond u (b ∷ control_blocks (without_data n chain)) []) ≡ bytes_of (cond u (b ∷ control_blocks chain) [])) [ true ↦ ap (λ zs. b.bytes ++ zs) none | false ↦ refl ] in
          new ∙ inner ∙ sym old))
    ] in
    by (is_body_kind b.kind) refl

pub drop-least : (k n : ℕ) (xs : List ℕ) → n ≡ min k (length xs) → drop n xs ≡ drop k xs
drop-least k n xs is =
    elim (cases_lt k (length xs)) [
      | inl lt ↦ ap (λ m. drop m xs) (let e : n ≡ k = omega arith in e)
      | inr ge ↦ drop_all n xs (omega arith) ∙ sym (drop_all k xs ge)
    ]

module _ (room : ℕ) (chain : List Block) where
  -- the chain with its first so many blocks done
  abbrev pub so_far : ℕ → List Block
  so_far at = without_data room (take at chain) ++ drop at chain

  -- how many data bytes were taken of them
  abbrev pub done_at : ℕ → ℕ
  done_at at = min room (length (data_bytes (take at chain)))

  module _ (at : ℕ) (within : at < length chain) where
    abbrev front : List Block
    front = without_data room (take at chain)

    front-len : length front ≡ at
    front-len = length-without room (take at chain) ∙ length-take-le at chain (omega arith)

    parted : so_far at ≡ front ++ block_at at chain ∷ drop (at + 1) chain
    parted = ap (λ xs. front ++ xs) (chain-at chain at within)

    pub so_far-block : block_at at (so_far at) ≡ block_at at chain
    so_far-block =
        ap (λ xs. block_at at xs) parted ∙ ap (λ k. get_or (front ++ block_at at chain ∷ drop (at + 1) chain) k no_block) (sym front-len) ∙ get_or-append_seam front (block_at at chain) (drop (at + 1) chain) no_block

    so_far-set : (b : Block) → with_block at b (so_far at) ≡ (front ++ b ∷ []) ++ drop (at + 1) chain
    so_far-set b =
        ap (λ xs. set xs at b) parted ∙ ap (λ k. set (front ++ block_at at chain ∷ drop (at + 1) chain) k b) (sym front-len) ∙ set-append_seam front (block_at at chain) (drop (at + 1) chain) b ∙ sym (append_assoc front (b ∷ []) (drop (at + 1) chain))

    next : so_far (at + 1) ≡ (front ++ without_data (room - length (data_bytes (take at chain))) (block_at at chain ∷ [])) ++ drop (at + 1) chain
    next = ap (λ xs. without_data room xs ++ drop (at + 1) chain) (take_more chain at no_block within) ∙ ap (λ xs. xs ++ drop (at + 1) chain) (without-append room (take at chain) (block_at at chain ∷ []))

    data-next : data_bytes (take (at + 1) chain) ≡ data_bytes (take at chain) ++ data_bytes (block_at at chain ∷ [])
    data-next = ap (λ xs. data_bytes xs) (take_more chain at no_block within) ∙ data-append (take at chain) (block_at at chain ∷ [])

    -- a block of another kind stays
    pub other-next : is_body_kind (block_at at chain).kind ≡ false → so_far at ≡ so_far (at + 1)
    other-next other =
        let stays = ap (λ v. cond v (trimmed_head (room - length (data_bytes (take at chain))) (block_at at chain) ∷ []) (block_at at chain ∷ [])) other in
        parted ∙ sym (append_assoc front (block_at at chain ∷ []) (drop (at + 1) chain)) ∙ sym (next ∙ ap (λ xs. (front ++ xs) ++ drop (at + 1) chain) stays)

    pub other-bytes : is_body_kind (block_at at chain).kind ≡ false → data_bytes (take (at + 1) chain) ≡ data_bytes (take at chain)
    other-bytes other = data-next ∙ ap (λ v. data_bytes (take at chain) ++ bytes_of (cond v (block_at at chain ∷ []) [])) other ∙ append-nil (data_bytes (take at chain))

    -- a data block is trimmed
    pub data-bytes-next : is_body_kind (block_at at chain).kind ≡ true → data_bytes (take (at + 1) chain) ≡ data_bytes (take at chain) ++ (block_at at chain).bytes
    data-bytes-next is = data-next ∙ ap (λ v. data_bytes (take at chain) ++ bytes_of (cond v (block_at at chain ∷ []) [])) is ∙ ap (λ xs. data_bytes (take at chain) ++ xs) (append-nil (block_at at chain).bytes)

    pub data-next-block : (done n : ℕ) → is_body_kind (block_at at chain).kind ≡ true → done ≡ done_at at → n ≡ min (room - done) (length (block_at at chain).bytes) → with_block at (trimmed_head n (block_at at chain)) (so_far at) ≡ so_far (at + 1)
    data-next-block done n is done_is n_is =
        let k = room - length (data_bytes (take at chain)) in
        let b = block_at at chain in
        let same = drop-least k n b.bytes (omega arith) in
        let trimmed : trimmed_head n b ≡ trimmed_head k b = ap (λ xs. record b { bytes = xs }) same in
        let all = ap (λ v. cond v (trimmed_head k b ∷ []) (b ∷ [])) is in
        so_far-set (trimmed_head n b) ∙ ap (λ x. (front ++ x ∷ []) ++ drop (at + 1) chain) trimmed ∙ sym (next ∙ ap (λ xs. (front ++ xs) ++ drop (at + 1) chain) all)

-- a data block of a store's message
pub take-next : (old : StoreValue) {cur new : StoreValue} (i room at done n : ℕ) → IsInHand old i → at < length (in_hand old i) → cur ≡ changed old i (so_far room (in_hand old i) at) → is_body_kind (block_at at (in_hand cur i)).kind ≡ true → done ≡ done_at room (in_hand old i) at → n ≡ min (room - done) (length (block_at at (in_hand cur i)).bytes) → new ≡ changed cur i (with_block at (trimmed_head n (block_at at (in_hand cur i))) (in_hand cur i)) → new ≡ changed old i (so_far room (in_hand old i) (at + 1))
take-next old {cur} {new} i room at done n is within so is_data done_is n_is trim =
    let chain = in_hand old i in
    let now : in_hand cur i ≡ so_far room chain at = ap (λ s. in_hand s i) so ∙ changed-chain old i (so_far room chain at) is in
    let b : block_at at (in_hand cur i) ≡ block_at at chain = ap (λ xs. block_at at xs) now ∙ so_far-block room chain at within in
    let len = ap (λ (x : Block). length x.bytes) b in
    let step = data-next-block room chain at within done n (sym (ap (λ (x : Block). is_body_kind x.kind) b) ∙ is_data) done_is (omega arith) in
    trim ∙ ap (λ xs. changed cur i (with_block at (trimmed_head n (block_at at (in_hand cur i))) xs)) now ∙ ap (λ (x : Block). changed cur i (with_block at (trimmed_head n x) (so_far room chain at))) b ∙ ap (λ xs. changed cur i xs) step ∙ ap (λ s. changed s i (so_far room chain (at + 1))) so ∙ changed-twice old i (so_far room chain at) (so_far room chain (at + 1))

-- the block at a place, as it was
pub take-block : (old : StoreValue) {cur : StoreValue} (i room at : ℕ) → IsInHand old i → at < length (in_hand old i) → cur ≡ changed old i (so_far room (in_hand old i) at) → block_at at (in_hand cur i) ≡ block_at at (in_hand old i)
take-block old {cur} i room at is within so =
    ap (λ s. block_at at (in_hand s i)) so ∙ ap (λ xs. block_at at xs) (changed-chain old i (so_far room (in_hand old i) at) is) ∙ so_far-block room (in_hand old i) at within

pub take-length : (old : StoreValue) {cur : StoreValue} (i room at : ℕ) → IsInHand old i → at ≤ length (in_hand old i) → cur ≡ changed old i (so_far room (in_hand old i) at) → length (in_hand cur i) ≡ length (in_hand old i)
take-length old {cur} i room at is within so =
    let chain = in_hand old i in
    let now : in_hand cur i ≡ so_far room chain at = ap (λ s. in_hand s i) so ∙ changed-chain old i (so_far room chain at) is in
    let l = length-append (without_data room (take at chain)) (drop at chain) in
    let w = length-without room (take at chain) in
    let t = length-take-le at chain within in
    let d = length-drop at chain in
    ap (λ xs. length xs) now ∙ (omega arith)

pub take-in_hand : (old : StoreValue) {cur : StoreValue} (i room at : ℕ) → IsInHand old i → cur ≡ changed old i (so_far room (in_hand old i) at) → IsInHand cur i
take-in_hand old {cur} i room at is so = ap (λ s. times_in i s.hand) so ∙ changed-in_hand old i (so_far room (in_hand old i) at) i is

-- what is left of a message in the end
pub take-all : (room : ℕ) (chain : List Block) (at : ℕ) → length chain ≤ at → so_far room chain at ≡ without_data room chain
take-all room chain at all = ap (λ xs. without_data room xs ++ drop at chain) (take_all at chain all) ∙ ap (λ xs. without_data room chain ++ xs) (drop_all at chain all) ∙ append-nil (without_data room chain)

nothing : (n : ℕ) → take n [] ≡ ◌++◌ {A = ℕ} [] []
nothing n = take_all n [] (omega arith)

pub filled-none : (buffer : List ℕ) → buffer ≡ filled buffer []
filled-none buffer = ap (λ xs. xs ++ buffer) (sym (nothing (length buffer)))

take-end : (old : StoreValue) {cur : StoreValue} (i room at : ℕ) → IsInHand old i → length (in_hand old i) ≤ at → cur ≡ changed old i (so_far room (in_hand old i) at) → in_hand cur i ≡ without_data room (in_hand old i)
take-end old {cur} i room at is all so =
    ap (λ s. in_hand s i) so ∙ changed-chain old i (so_far room (in_hand old i) at) is ∙ take-all room (in_hand old i) at all

pub take-left : (old : StoreValue) {cur : StoreValue} (i room at done : ℕ) → IsInHand old i → length (in_hand old i) ≤ at → done ≡ done_at room (in_hand old i) at → cur ≡ changed old i (so_far room (in_hand old i) at) → data_bytes (in_hand cur i) ≡ drop done (data_bytes (in_hand old i))
take-left old {cur} i room at done is all done_is so =
    let chain = in_hand old i in
    let e = ap (λ xs. length (data_bytes xs)) (take_all at chain all) in
    ap (λ xs. data_bytes xs) (take-end old i room at is all so) ∙ data-without room chain ∙ sym (drop-least room done (data_bytes chain) (omega arith))

pub take-control : (old : StoreValue) {cur : StoreValue} (i room at : ℕ) → IsInHand old i → length (in_hand old i) ≤ at → cur ≡ changed old i (so_far room (in_hand old i) at) → control_bytes (in_hand cur i) ≡ control_bytes (in_hand old i)
take-control old {cur} i room at is all so = ap (λ xs. control_bytes xs) (take-end old i room at is all so) ∙ control-without room (in_hand old i)

-- A call that has taken the data bytes of a message's first so many blocks.
pub record Going (old cur : StoreValue) (i : ℕ) (before buffer : List ℕ) (done at : ℕ) : Type 0 where
  pub count : done ≡ done_at (length before) (in_hand old i) at
  pub given : buffer ≡ filled before (data_bytes (take at (in_hand old i)))
  pub trimmed : cur ≡ changed old i (so_far (length before) (in_hand old i) at)

pub going-first : (s : StoreValue) (i : ℕ) (buffer : List ℕ) → Going s s i buffer buffer 0 0
going-first s i buffer = record { count = omega arith; given = filled-none buffer; trimmed = sym (changed-same s i) }

module _ {old cur new : StoreValue} {i done done' at : ℕ} {before buffer buffer' : List ℕ} (is : IsInHand old i) (within : at < length (in_hand old i)) (so : Going old cur i before buffer done at) where
  pub going-data : (n : ℕ) → is_body_kind (block_at at (in_hand cur i)).kind ≡ true → n ≡ min (length buffer - done) (length (block_at at (in_hand cur i)).bytes) → done' ≡ done + n → buffer' ≡ (take done buffer ++ take n (block_at at (in_hand cur i)).bytes) ++ drop (done + n) buffer → new ≡ changed cur i (with_block at (trimmed_head n (block_at at (in_hand cur i))) (in_hand cur i)) → Going old new i before buffer' done' (at + 1)
  going-data n is_data n_is done_is copied trim =
      let chain = in_hand old i in
      let count = so.count in
      let same = take-block old i (length before) at is within so.trimmed in
      let len = ap (λ (x : Block). length x.bytes) same in
      let room : length buffer ≡ length before = ap (λ xs. length xs) so.given ∙ length-filled before (data_bytes (take at chain)) in
      let was_data : is_body_kind (block_at at chain).kind ≡ true = ap (λ (x : Block). is_body_kind x.kind) (sym same) ∙ is_data in
      let more = data-bytes-next (length before) chain at within was_data in
      let size = ap (λ xs. length xs) more in
      let both = length-append (data_bytes (take at chain)) (block_at at chain).bytes in
      let fill = filled-more before (data_bytes (take at chain)) (block_at at chain).bytes done n count (omega arith) in
      record {
        count = omega arith;
        given = copied ∙ ap (λ (x : Block). (take done buffer ++ take n x.bytes) ++ drop (done + n) buffer) same ∙ ap (λ xs. (take done xs ++ take n (block_at at chain).bytes) ++ drop (done + n) xs) so.given ∙ fill ∙ ap (λ xs. filled before xs) (sym more);
        trimmed = take-next old i (length before) at done n is within so.trimmed is_data count (omega arith) trim;
      }

  pub going-other : is_body_kind (block_at at (in_hand cur i)).kind ≡ false → done' ≡ done → buffer' ≡ buffer → new ≡ cur → Going old new i before buffer' done' (at + 1)
  going-other other done_is same_buffer same_store =
      let chain = in_hand old i in
      let count = so.count in
      let same = take-block old i (length before) at is within so.trimmed in
      let was_other : is_body_kind (block_at at chain).kind ≡ false = ap (λ (x : Block). is_body_kind x.kind) (sym same) ∙ other in
      let more = other-bytes (length before) chain at within was_other in
      let size = ap (λ xs. length xs) more in
      record {
        count = omega arith;
        given = same_buffer ∙ so.given ∙ ap (λ xs. filled before xs) (sym more);
        trimmed = same_store ∙ so.trimmed ∙ ap (λ xs. changed old i xs) (other-next (length before) chain at within was_other);
      }
