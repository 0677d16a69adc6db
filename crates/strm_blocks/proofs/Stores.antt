-- What holds of the value of a store, from what holds of its fields.
use Rattle.std.proofs.Common.{ℕ, zero, suc, ◌≡◌, ◌≤◌, ◌+◌, ◌-◌, ◌*◌, cond, eqb, List, [], ◌∷◌, length, take, drop, get_or, map, refl, sym, ap, ◌∙◌, arith}
use Rattle.std.specs.Prelude.{sum_by, count_by}
use Rattle.std.proofs.lemmas.List.{length-map, length-take, take_all, get_or_past}
use Rattle.std.proofs.lemmas.List.Sums.{sum_by-cons, sum_by_more}
use Rattle.strm_blocks.specs.Blocks.{StoreValue, IsStore, total, names_of, references, used, free_m, free_d, zeros_below, missing, extent}
use Rattle.strm_blocks.specs.Message.{weigh, naming, block_count, lacking, askew}
use Rattle.strm_blocks.specs.Table.{shown, chain_of, lists_of, hand_of, IsTable}
use Rattle.strm_blocks.specs.declared.message.Message.{Message}
use Rattle.strm_blocks.specs.declared.message.MessageBlock.{MessageBlock}
use Rattle.strm_blocks.proofs.Nodes.{weigh-le}
use Rattle.strm_blocks.proofs.Orders.{ordered-value}
use Rattle.strm_blocks.proofs.Values.{sum_by-map, sum_by-ext, total-value, times-value}

-- sums of numbers that are the same for each message
pub weigh-ext : (f g : Message → ℕ) → ((m : Message) → f m ≡ g m) → (lists : List (List Message)) (hand : List Message) → weigh f lists hand ≡ weigh g lists hand
weigh-ext f g same lists hand = let a = sum_by-ext (λ q. sum_by f q) (λ q. sum_by g q) (λ q. sum_by-ext f g same q) lists in let b = sum_by-ext f g same hand in omega arith

-- 256 times a sum
pub scaled : {A : Type 0} (f g : A → ℕ) → ((x : A) → f x ≡ 256 * g x) → (xs : List A) → sum_by f xs ≡ 256 * sum_by g xs
scaled f g same [] = refl
scaled f g same (x ∷ xs) = let s = same x in let ih = scaled f g same xs in omega (arith, sum_by-cons f x xs, sum_by-cons g x xs)

weigh-scaled : (lists : List (List Message)) (hand : List Message) → weigh (λ m. 256 * block_count m) lists hand ≡ 256 * weigh block_count lists hand
weigh-scaled lists hand =
    let each = λ (q : List Message). scaled (λ m. 256 * block_count m) block_count (λ m. refl) q in
    let a = scaled (λ q. sum_by (λ m. 256 * block_count m) q) (λ q. sum_by block_count q) each lists in
    let b = each hand in omega arith

-- how many have none, of the first so many counts of a list
zeros-take : (f : ℕ → ℕ) (counts : List ℕ) → ((d : ℕ) → get_or counts d 0 ≡ f d) → (n : ℕ) → n ≤ length counts → zeros_below f n ≡ count_by (λ r. eqb r 0) (take n counts)
unfolding zeros_below
zeros-take f counts same zero le = refl
zeros-take f counts same (suc n) le =
    let ih = zeros-take f counts same n (omega arith) in
    let more = sum_by_more (λ r. cond (eqb r 0) 1 0) counts n 0 (omega arith) in
    let at : n + 1 ≡ suc n = omega arith in
    let step = ap (λ k. count_by (λ r. eqb r 0) (take k counts)) at in
    let here : cond {A = ℕ} (eqb (f n) 0) 1 0 ≡ cond {A = ℕ} (eqb (get_or counts n 0) 0) 1 0 = ap (λ (r : ℕ). cond {A = ℕ} (eqb r 0) 1 0) (sym (same n)) in
    omega arith

pub zeros-all : (f : ℕ → ℕ) (counts : List ℕ) → ((d : ℕ) → get_or counts d 0 ≡ f d) → zeros_below f (length counts) ≡ count_by (λ r. eqb r 0) counts
zeros-all f counts same = zeros-take f counts same (length counts) (omega arith) ∙ ap (λ xs. count_by (λ r. eqb r 0) xs) (take_all (length counts) counts (omega arith))

-- the bytes and the room of a chain
extent-chain : (bytes : List (List ℕ)) (blocks : List MessageBlock) → extent (map (shown bytes) blocks) ≤ 256 * length blocks + sum_by (λ b. (b.start - b.end) + (b.end - 256)) blocks
extent-chain bytes [] = omega arith
extent-chain bytes (b ∷ blocks) =
    let ih = extent-chain bytes blocks in
    let s = sum_by-cons (λ x. length x.bytes + x.room) (shown bytes b) (map (shown bytes) blocks) in
    let t = sum_by-cons (λ (x : MessageBlock). (x.start - x.end) + (x.end - 256)) b blocks in
    let l = length-take (b.end - b.start) (drop b.start (get_or bytes b.number [])) in
    omega arith

module _ (bytes : List (List ℕ)) (lists : List (List Message)) (hand : List Message) (mblks dblks : ℕ) where
  -- the value of these fields
  abbrev pub value : StoreValue
  value = record { lists = lists_of bytes lists; hand = hand_of bytes hand; mblks = mblks; dblks = dblks }

  -- the value of fields that are equal to these
  pub value-same : {bytes' : List (List ℕ)} {lists' : List (List Message)} {hand' : List Message} {dblks' : ℕ} → bytes' ≡ bytes → lists' ≡ lists → hand' ≡ hand → dblks' ≡ dblks → record { lists = lists_of bytes' lists'; hand = hand_of bytes' hand'; mblks = mblks; dblks = dblks' } ≡ value
  value-same {bytes' = b} {lists' = l} {hand' = h} {dblks' = n} eb el eh ed =
      ap (λ x. record { lists = lists_of x l; hand = hand_of x h; mblks = mblks; dblks = n }) eb ∙ ap (λ x. record { lists = lists_of bytes x; hand = hand_of bytes h; mblks = mblks; dblks = n }) el ∙ ap (λ x. record { lists = lists_of bytes lists; hand = hand_of bytes x; mblks = mblks; dblks = n }) eh ∙ ap (λ x. record { lists = lists_of bytes lists; hand = hand_of bytes hand; mblks = mblks; dblks = x }) ed

  pub used-value : used value ≡ weigh block_count lists hand
  unfolding used
  used-value = total-value bytes length lists hand mblks dblks ∙ weigh-ext (λ m. length (chain_of bytes m)) block_count (λ m. length-map m.blocks (shown bytes)) lists hand

  pub references-value : (d : ℕ) → references value d ≡ weigh (naming d) lists hand
  unfolding references
  references-value d = total-value bytes (names_of d) lists hand mblks dblks ∙ weigh-ext (λ m. names_of d (chain_of bytes m)) (naming d) (λ m. sum_by-map (λ b. cond (eqb b.number d) 1 0) (shown bytes) m.blocks) lists hand

  missing-value : total missing value ≡ weigh lacking lists hand
  missing-value = total-value bytes missing lists hand mblks dblks ∙ weigh-ext (λ m. missing (chain_of bytes m)) lacking (λ m. ap (λ n. 1 - n) (length-map m.blocks (shown bytes))) lists hand

  extent-value : total extent value ≤ 256 * weigh block_count lists hand + weigh askew lists hand
  extent-value =
      let t = total-value bytes extent lists hand mblks dblks in
      let le = weigh-le (λ m. extent (chain_of bytes m)) (λ m. 256 * block_count m) askew (λ m. extent-chain bytes m.blocks) lists hand in
      let s = weigh-scaled lists hand in
      omega arith

  module _ (idle : List Message) (spare : List MessageBlock) (counts : List ℕ) (is : IsTable mblks lists hand idle spare counts) where
    -- how many blocks of each kind are free
    pub free_m-value : free_m value ≡ length spare
    unfolding free_m
    free_m-value = let u = used-value in let b = is.blocks in omega arith

    pub counted : (d : ℕ) → references value d ≡ get_or counts d 0
    counted d = references-value d ∙ sym (is.referenced d)

    pub free_d-value : length counts ≡ dblks → free_d value ≡ count_by (λ r. eqb r 0) counts
    unfolding free_d
    free_d-value same = ap (λ n. zeros_below (references value) n) (sym same) ∙ zeros-all (references value) counts (λ d. sym (counted d))

    -- what holds of every store
    pub IsStore-value : length counts ≡ dblks → dblks ≤ 65536 → ((d : ℕ) → get_or counts d 0 ≤ 255) → IsStore value
    IsStore-value same few bounded =
        let u = used-value in let b = is.blocks in
        record {
          eight = let e = is.eight in length-map lists (λ q. map (chain_of bytes) q) ∙ e;
          few_mblks = is.few;
          few_dblks = few;
          enough = omega arith;
          numbered = λ d past. (let c = counted d in let p = get_or_past counts d 0 (omega arith) in omega arith);
          shared = λ d. (let c = counted d in let b = bounded d in omega arith);
          filled = missing-value ∙ is.filled;
          apart = λ i. (let t = times-value bytes i hand in let a = is.apart i in omega arith);
          small = let e = extent-value in let s = is.straight in omega arith;
          ordered = λ k. ordered-value bytes lists is.ordered k;
        }
