-- What holds of the value of a raw store.
use Rattle.std.proofs.Common.{ℕ, ◌≡◌, ◌≤◌, ◌+◌, ◌-◌, ◌*◌, List, [], ◌∷◌, length, drop, map, refl, ap, ◌∙◌, arith}
use Rattle.std.specs.Prelude.{sum_by, Option}
use Rattle.std.proofs.lemmas.List.{length-map, length-take, get_or_past}
use Rattle.std.proofs.lemmas.List.Sums.{sum_by-cons}
use Rattle.strm_blocks.specs.Blocks.{Block, IsStore, missing, extent}
use Rattle.strm_raw.specs.Numbered.{Nodes, DataRow, row_at, data_at, no_data}
use Rattle.strm_raw.specs.Roster.{Msg, Roster}
use Rattle.strm_raw.specs.Raw.{ids, weigh, chain_of, block_no, value_of, IsRaw}
use Rattle.strm_raw.specs.Lists.{AreListed}
use Rattle.strm_raw.specs.declared.neighbours.KeptEnds.{KeptEnds}
use Rattle.strm_raw.specs.declared.msg_nodes.MsgLink.{MsgLink}
use Rattle.strm_raw.specs.declared.data_nodes.DataLink.{DataLink}
use Rattle.strm_raw.proofs.Finding.{times-heads}
use Rattle.strm_raw.proofs.Moved.{once-hand}
use Rattle.strm_raw.proofs.Standing.{stored, total-value, used-value}

-- a sum of numbers none of which is more than 256 times another one
scaled-le : {A : Type 0} (f g : A → ℕ) → ((x : A) → f x ≤ 256 * g x) → (xs : List A) → sum_by f xs ≤ 256 * sum_by g xs
scaled-le f g le [] = omega arith
scaled-le f g le (x ∷ xs) = let l = le x in let ih = scaled-le f g le xs in omega (arith, sum_by-cons f x xs, sum_by-cons g x xs)

none-of : {A : Type 0} (f : A → ℕ) → ((x : A) → f x ≡ 0) → (xs : List A) → sum_by f xs ≡ 0
none-of f none [] = refl
none-of f none (x ∷ xs) = let n = none x in let ih = none-of f none xs in omega (arith, sum_by-cons f x xs)

module _ {v : Nodes} {ends : List KeptEnds} {b : Roster} {first_m : Option MsgLink} {first_d : Option DataLink} {spare_m spare_d : ℕ} (is : IsRaw v first_m first_d spare_m spare_d b) (listed : AreListed v ends b) where
  -- the bytes and the room of a chain fit its blocks
  chain-fits : (xs : List ℕ) → extent (map (block_no v) xs) ≤ 256 * length xs
  chain-fits [] = omega arith
  chain-fits (i ∷ xs) =
      let ih = chain-fits xs in
      let r = row_at i v.rows in
      let s = sum_by-cons (λ (x : Block). length x.bytes + x.room) (block_no v i) (map (block_no v) xs) in
      let l = length-take (r.end - r.start) (drop r.start (data_at r.number v.datas).bytes) in
      let a = is.straight i in
      omega arith

  lacking : (m : Msg) → missing (chain_of v m) ≡ 0
  lacking m = omega arith

  fits : weigh (λ m. extent (chain_of v m)) b.lists b.hand ≤ 256 * weigh (λ m. length (ids m)) b.lists b.hand
  fits =
      let each = λ (m : Msg). chain-fits (ids m) in
      let l = scaled-le (λ (q : List Msg). sum_by (λ m. extent (chain_of v m)) q) (λ q. sum_by (λ m. length (ids m)) q) (λ q. scaled-le (λ m. extent (chain_of v m)) (λ m. length (ids m)) each q) b.lists in
      let h = scaled-le (λ (m : Msg). extent (chain_of v m)) (λ m. length (ids m)) each b.hand in
      omega arith

  filled : weigh (λ m. missing (chain_of v m)) b.lists b.hand ≡ 0
  filled =
      let l = none-of (λ (q : List Msg). sum_by (λ m. missing (chain_of v m)) q) (λ q. none-of (λ m. missing (chain_of v m)) lacking q) b.lists in
      let h = none-of (λ (m : Msg). missing (chain_of v m)) lacking b.hand in
      omega arith

  pub store-holds : IsStore (value_of v b)
  store-holds = record {
    eight = length-map b.lists (λ q. map (chain_of v) q) ∙ is.eight;
    few_mblks = is.most_m;
    few_dblks = is.most_d;
    enough = let u = used-value v b in let c = is.counted_m in let f = is.few_m in omega arith;
    numbered = λ d past. stored v b is d ∙ ap (λ (r : DataRow). r.references) (get_or_past v.datas d no_data (let f = is.few_d in omega arith));
    shared = λ d. (let s = stored v b is d in let o = is.bounded d in omega arith);
    filled = total-value v b missing ∙ filled;
    apart = λ i. (let t = times-heads v i b.hand in let o = once-hand is i in omega arith);
    small = let t = total-value v b extent in let u = used-value v b in let f = fits in omega arith;
    ordered = listed.ordered;
  }
