-- Chains that are trimmed block by block from one of their ends.
use Rattle.std.proofs.Common.{ℕ, suc, ◌≡◌, ◌≤◌, ◌<◌, ◌+◌, ◌-◌, min, List, [], ◌∷◌, ◌++◌, length, take, drop, get_or, reverse, refl, sym, ap, ◌∙◌, arith, append_assoc, append-nil}
use Rattle.std.proofs.Math.ListN.{set}
use Rattle.std.proofs.Math.Seq.{set-append_seam, get_or-append_seam}
use Rattle.std.proofs.lemmas.List.{length-append, length-take-le, length-drop, length-reverse, reverse-reverse, reverse-append, get_or-reverse, take_more, take-append-drop}
use Rattle.std.proofs.lemmas.Grind.{flat_map-append}
use Rattle.strm_blocks.specs.Blocks.{Block, StoreValue, block_at, no_block, in_hand, changed, with_block, IsInHand, times_in}
use Rattle.strm_msg.specs.declared.adjust.End.{End}
use Rattle.strm_msg.specs.declared.adjust.End.TheVariants.{Head, Tail}
use Rattle.strm_msg.specs.Bytes.{bytes_of}
use Rattle.strm_msg.specs.Adjusted.{trimmed_by, trimmed_front, seen_from, place_from, trim_at}
use Rattle.strm_msg.proofs.Hands.{changed-chain, changed-twice, changed-in_hand, changed-same}
use Rattle.strm_msg.proofs.Parts.{chain-at}

-- a chain that is seen from an end twice, its length, and its blocks
pub seen-seen : (end : End) (chain : List Block) → seen_from end (seen_from end chain) ≡ chain
seen-seen Head chain = refl
seen-seen Tail chain = reverse-reverse chain

pub length-seen : (end : End) (chain : List Block) → length (seen_from end chain) ≡ length chain
length-seen Head chain = refl
length-seen Tail chain = length-reverse chain

pub block-seen : (end : End) (chain : List Block) (steps : ℕ) → steps < length chain → block_at (place_from end (length chain) steps) chain ≡ block_at steps (seen_from end chain)
block-seen Head chain steps within = refl
block-seen Tail chain steps within = sym (get_or-reverse chain steps no_block within)

-- another block in a place, seen from the end
set-reverse : (chain : List Block) (steps : ℕ) (b : Block) → steps < length chain → with_block (length chain - 1 - steps) b (reverse chain) ≡ reverse (with_block steps b chain)
set-reverse chain steps b within =
    let front = take steps chain in
    let back = drop (steps + 1) chain in
    let x = block_at steps chain in
    let front_len : length front ≡ steps = length-take-le steps chain (omega arith) in
    let back_len : length back ≡ length chain - 1 - steps = length-drop (steps + 1) chain ∙ (omega arith) in
    let parts : chain ≡ front ++ x ∷ back = sym (take-append-drop steps chain) ∙ ap (λ xs. front ++ xs) (chain-at chain steps within) in
    let turned : (y : Block) → reverse (front ++ y ∷ back) ≡ reverse back ++ y ∷ reverse front = λ y. (reverse-append front (y ∷ back) ∙ ap (λ xs. xs ++ reverse front) (reverse-append (y ∷ []) back) ∙ append_assoc (reverse back) (y ∷ []) (reverse front)) in
    let place : length chain - 1 - steps ≡ length (reverse back) = sym back_len ∙ sym (length-reverse back) in
    let left : with_block (length chain - 1 - steps) b (reverse chain) ≡ reverse back ++ b ∷ reverse front =
    ap (λ xs. set (reverse xs) (length chain - 1 - steps) b) parts ∙ ap (λ xs. set xs (length chain - 1 - steps) b) (turned x) ∙ ap (λ k. set (reverse back ++ x ∷ reverse front) k b) place ∙ set-append_seam (reverse back) x (reverse front) b in
    let right : with_block steps b chain ≡ front ++ b ∷ back =
    ap (λ xs. set xs steps b) parts ∙ ap (λ k. set (front ++ x ∷ back) k b) (sym front_len) ∙ set-append_seam front x back b in
    left ∙ sym (turned b) ∙ ap (λ xs. reverse xs) (sym right)

pub set-seen : (end : End) (chain : List Block) (steps : ℕ) (b : Block) → steps < length chain → with_block (place_from end (length chain) steps) b (seen_from end chain) ≡ seen_from end (with_block steps b chain)
set-seen Head chain steps b within = refl
set-seen Tail chain steps b within = set-reverse chain steps b within

module _ (trim : ℕ → Block → Block) where
  pub length-trimmed : (n : ℕ) (chain : List Block) → length (trimmed_by trim n chain) ≡ length chain
  length-trimmed n [] = refl
  length-trimmed n (b ∷ chain) = ap suc (length-trimmed (n - length b.bytes) chain)

  pub trimmed-append : (n : ℕ) (xs ys : List Block) → trimmed_by trim n (xs ++ ys) ≡ trimmed_by trim n xs ++ trimmed_by trim (n - length (bytes_of xs)) ys
  trimmed-append n [] ys = ap (λ k. trimmed_by trim k ys) (let e : n ≡ n - 0 = omega arith in e)
  trimmed-append n (b ∷ xs) ys =
      let more = trimmed-append (n - length b.bytes) xs ys in
      let len = length-append b.bytes (bytes_of xs) in
      let e : n - length b.bytes - length (bytes_of xs) ≡ n - length (b.bytes ++ bytes_of xs) = omega arith in
      ap (λ zs. trim (min n (length b.bytes)) b ∷ zs) more ∙ ap (λ k. trim (min n (length b.bytes)) b ∷ (trimmed_by trim (n - length b.bytes) xs ++ trimmed_by trim k ys)) e

  module _ (n : ℕ) (chain : List Block) (at : ℕ) (within : at < length chain) where
    abbrev front : List Block
    front = trimmed_by trim n (take at chain)

    abbrev rest : List Block
    rest = drop (at + 1) chain

    front-len : length front ≡ at
    front-len = length-trimmed n (take at chain) ∙ length-take-le at chain (omega arith)

    parted : trimmed_front trim n at chain ≡ front ++ block_at at chain ∷ rest
    parted = ap (λ xs. front ++ xs) (chain-at chain at within)

    -- the block that comes next is as it was
    pub front-block : block_at at (trimmed_front trim n at chain) ≡ block_at at chain
    front-block =
        ap (λ xs. block_at at xs) parted ∙ ap (λ k. get_or (front ++ block_at at chain ∷ rest) k no_block) (sym front-len) ∙ get_or-append_seam front (block_at at chain) rest no_block

    -- and is trimmed
    pub front-next : (part : ℕ) → part ≡ min (n - length (bytes_of (take at chain))) (length (block_at at chain).bytes) → with_block at (trim part (block_at at chain)) (trimmed_front trim n at chain) ≡ trimmed_front trim n (at + 1) chain
    front-next part part_is =
        let b = block_at at chain in
        let k = n - length (bytes_of (take at chain)) in
        let set_it : with_block at (trim part b) (trimmed_front trim n at chain) ≡ (front ++ trim part b ∷ []) ++ rest =
        ap (λ xs. set xs at (trim part b)) parted ∙ ap (λ p. set (front ++ b ∷ rest) p (trim part b)) (sym front-len) ∙ set-append_seam front b rest (trim part b) ∙ sym (append_assoc front (trim part b ∷ []) rest) in
        let next : trimmed_front trim n (at + 1) chain ≡ (front ++ trim (min k (length b.bytes)) b ∷ []) ++ rest =
        ap (λ xs. trimmed_by trim n xs ++ rest) (take_more chain at no_block within) ∙ ap (λ xs. xs ++ rest) (trimmed-append n (take at chain) (b ∷ [])) in
        set_it ∙ ap (λ p. (front ++ trim p b ∷ []) ++ rest) part_is ∙ sym next

    pub bytes-next : length (bytes_of (take (at + 1) chain)) ≡ length (bytes_of (take at chain)) + length (block_at at chain).bytes
    bytes-next =
        ap (λ xs. length (bytes_of xs)) (take_more chain at no_block within) ∙ ap (λ xs. length xs) (flat_map-append (λ (b : Block). b.bytes) (take at chain) (block_at at chain ∷ [])) ∙ length-append (bytes_of (take at chain)) (bytes_of (block_at at chain ∷ [])) ∙ ap (λ xs. length (bytes_of (take at chain)) + length xs) (append-nil (block_at at chain).bytes)

  pub length-front : (n : ℕ) (chain : List Block) (at : ℕ) → at ≤ length chain → length (trimmed_front trim n at chain) ≡ length chain
  length-front n chain at within =
      let both = length-append (trimmed_by trim n (take at chain)) (drop at chain) in
      let front = length-trimmed n (take at chain) in
      let taken = length-take-le at chain within in
      let left = length-drop at chain in
      omega arith

-- A call that has trimmed the first so many blocks from an end of a message, and has so many bytes left to trim.
pub record Trimming (old cur : StoreValue) (end : End) (i n steps left : ℕ) : Type 0 where
  pub count : left ≡ n - length (bytes_of (take steps (seen_from end (in_hand old i))))
  pub trimmed : cur ≡ changed old i (seen_from end (trimmed_front (trim_at end) n steps (seen_from end (in_hand old i))))

pub trimming-first : (s : StoreValue) (end : End) (i n : ℕ) → Trimming s s end i n 0 n
trimming-first s end i n = record {
  count = omega arith;
  trimmed = sym (ap (λ xs. changed s i xs) (seen-seen end (in_hand s i)) ∙ changed-same s i);
}

module _ {old cur : StoreValue} {end : End} {i n steps left : ℕ} (is : IsInHand old i) (so : Trimming old cur end i n steps left) where
  abbrev view : List Block
  view = seen_from end (in_hand old i)

  abbrev partly : List Block
  partly = trimmed_front (trim_at end) n steps view

  pub trimming-in_hand : IsInHand cur i
  trimming-in_hand = ap (λ s. times_in i s.hand) so.trimmed ∙ changed-in_hand old i (seen_from end partly) i is

  trimming-chain : in_hand cur i ≡ seen_from end partly
  trimming-chain = ap (λ s. in_hand s i) so.trimmed ∙ changed-chain old i (seen_from end partly) is

  module _ (within : steps ≤ length (in_hand old i)) where
    partly-length : length partly ≡ length (in_hand old i)
    partly-length =
        let same = length-seen end (in_hand old i) in
        length-front (trim_at end) n view steps (omega arith) ∙ same

    pub trimming-length : length (in_hand cur i) ≡ length (in_hand old i)
    trimming-length = ap (λ xs. length xs) trimming-chain ∙ length-seen end partly ∙ partly-length

  module _ (within : steps < length (in_hand old i)) where
    in-view : steps < length view
    in-view = let same = length-seen end (in_hand old i) in omega arith

    pub trimming-block : (at : ℕ) → at ≡ place_from end (length (in_hand old i)) steps → block_at at (in_hand cur i) ≡ block_at steps view
    trimming-block at place =
        let size = length-seen end partly ∙ partly-length (omega arith) in
        ap (λ k. block_at k (in_hand cur i)) place ∙ ap (λ xs. block_at (place_from end (length (in_hand old i)) steps) xs) trimming-chain ∙ ap (λ k. block_at (place_from end k steps) (seen_from end partly)) (sym size) ∙ block-seen end (seen_from end partly) steps (omega arith) ∙ ap (λ xs. block_at steps xs) (seen-seen end partly) ∙ front-block (trim_at end) n view steps in-view

    pub trimming-next : {new : StoreValue} {left' count : ℕ} (at part : ℕ) → count ≡ length (in_hand old i) → at ≡ place_from end count steps → part ≡ min left (length (block_at at (in_hand cur i)).bytes) → left' ≡ left - part → new ≡ changed cur i (with_block at (trim_at end part (block_at at (in_hand cur i))) (in_hand cur i)) → Trimming old new end i n (steps + 1) left'
    trimming-next {new} {left'} {count} at part count_is place_is part_is left_is trim =
        let place = place_is ∙ ap (λ k. place_from end k steps) count_is in
        let b = block_at steps view in
        let same = trimming-block at place in
        let len = ap (λ (x : Block). length x.bytes) same in
        let still = so.count in
        let more = bytes-next (trim_at end) n view steps in-view in
        let size = partly-length (omega arith) in
        let step = front-next (trim_at end) n view steps in-view part (omega arith) in
        let set_it : with_block at (trim_at end part (block_at at (in_hand cur i))) (in_hand cur i) ≡ seen_from end (trimmed_front (trim_at end) n (steps + 1) view) =
        ap (λ (x : Block). with_block at (trim_at end part x) (in_hand cur i)) same ∙ ap (λ xs. with_block at (trim_at end part b) xs) trimming-chain ∙ ap (λ k. with_block k (trim_at end part b) (seen_from end partly)) place ∙ ap (λ k. with_block (place_from end k steps) (trim_at end part b) (seen_from end partly)) (sym size) ∙ set-seen end partly steps (trim_at end part b) (omega arith) ∙ ap (λ xs. seen_from end xs) step in
        record {
          count = omega arith;
          trimmed = trim ∙ ap (λ xs. changed cur i xs) set_it ∙ ap (λ s. changed s i (seen_from end (trimmed_front (trim_at end) n (steps + 1) view))) so.trimmed ∙ changed-twice old i (seen_from end partly) (seen_from end (trimmed_front (trim_at end) n (steps + 1) view));
        }
