-- What the value of a raw store is, by its ledger.
use Rattle.std.proofs.Common.{ℕ, zero, suc, ◌≡◌, ◌≤◌, ◌+◌, ◌-◌, cond, eqb, List, [], ◌∷◌, length, take, map, refl, sym, ap, ◌∙◌, arith}
use Rattle.std.specs.Prelude.{sum_by, count_by, Option, None, Some, option_map}
use Rattle.std.proofs.lemmas.Bool.Decides.{nat_tests}
use Rattle.std.proofs.lemmas.List.{length-map, take_all, get_or_past}
use Rattle.std.proofs.lemmas.List.Sums.{sum_by-cons, sum_by_more}
use Rattle.strm_blocks.specs.Blocks.{Block, total, names_of, references, used, free_m, free_d, zeros_below}
use Rattle.strm_raw.specs.Numbered.{Nodes, DataRow, data_at, no_data, msg_number, data_number}
use Rattle.strm_raw.specs.Roster.{Msg, Roster}
use Rattle.strm_raw.specs.Raw.{weigh, ids, chain_of, held_of, block_no, value_of, naming, breaks, IsRaw, next_of, free_after}
use Rattle.strm_raw.specs.declared.msg_nodes.MsgLink.{MsgLink}
use Rattle.strm_raw.specs.declared.data_nodes.DataLink.{DataLink}
use Rattle.strm_raw.proofs.Apart.{weigh-same}

pub sum_by-map : {A B : Type 0} (f : B → ℕ) (h : A → B) (xs : List A) → sum_by f (map h xs) ≡ sum_by (λ x. f (h x)) xs
sum_by-map f h [] = refl
sum_by-map f h (x ∷ xs) = sum_by-cons f (h x) (map h xs) ∙ ap (λ n. f (h x) + n) (sum_by-map f h xs) ∙ sym (sum_by-cons (λ x. f (h x)) x xs)

-- how many have none, of the first so many
zeros-take : (f : ℕ → ℕ) (datas : List DataRow) → ((d : ℕ) → (data_at d datas).references ≡ f d) → (n : ℕ) → n ≤ length datas → zeros_below f n ≡ count_by (λ r. eqb r.references 0) (take n datas)
unfolding zeros_below
zeros-take f datas same zero le = refl
zeros-take f datas same (suc n) le =
    let ih = zeros-take f datas same n (omega arith) in
    let more = sum_by_more (λ (r : DataRow). cond (eqb r.references 0) 1 0) datas n no_data (omega arith) in
    let at : n + 1 ≡ suc n = omega arith in
    let step = ap (λ k. count_by (λ (r : DataRow). eqb r.references 0) (take k datas)) at in
    let here : cond {A = ℕ} (eqb (f n) 0) 1 0 ≡ cond {A = ℕ} (eqb (data_at n datas).references 0) 1 0 = ap (λ (r : ℕ). cond {A = ℕ} (eqb r 0) 1 0) (sym (same n)) in
    omega arith

-- so many numbers behind those that count add as many zeros
zeros-past : (f : ℕ → ℕ) (n : ℕ) → ((d : ℕ) → n ≤ d → f d ≡ 0) → (k : ℕ) → zeros_below f (k + n) ≡ zeros_below f n + k
unfolding zeros_below
zeros-past f n none zero = let e : 0 + n ≡ n = omega arith in let z = ap (zeros_below f) e in omega arith
zeros-past f n none (suc k) =
    let e : suc k + n ≡ suc (k + n) = omega arith in let whole = ap (zeros_below f) e in
    let ih = zeros-past f n none k in let z = none (k + n) (omega arith) in grind (arith, nat_tests)

pub empty : {A : Type 0} (xs : List A) → length xs ≡ 0 → xs ≡ []
empty [] z = refl
empty (x ∷ xs) z = absurd (omega arith)

-- no link leads through no numbers
pub ended : (next : ℕ → Option ℕ) (xs : List ℕ) → breaks next None xs ≡ 0 → length xs ≡ 0
unfolding breaks
ended next [] z = refl
ended next (x ∷ xs) z = absurd (omega arith)

-- a link leads to the first of the numbers, and the link there through the others
pub begun : (next : ℕ → Option ℕ) (i : ℕ) (xs : List ℕ) → breaks next (Some i) xs ≡ 0 → (rest : List ℕ) × ((xs ≡ i ∷ rest) × (breaks next (next i) rest ≡ 0))
unfolding breaks
begun next i [] z = absurd (omega arith)
begun next i (x ∷ xs) z =
    let same : i ≡ x = grind (arith, nat_tests) in
    (xs, (ap (λ k. k ∷ xs) (sym same), (let e = ap (λ k. breaks next (next k) xs) same in omega arith)))

module _ (v : Nodes) (b : Roster) where
  sums-value : (f : List Block → ℕ) (lists : List (List Msg)) → sum_by (λ q. sum_by f q) (map (λ q. map (chain_of v) q) lists) ≡ sum_by (λ q. sum_by (λ m. f (chain_of v m)) q) lists
  sums-value f [] = refl
  sums-value f (q ∷ lists) =
      let ih = sums-value f lists in let here = sum_by-map f (chain_of v) q in
      omega (arith, sum_by-cons (λ q. sum_by f q) (map (chain_of v) q) (map (λ q. map (chain_of v) q) lists), sum_by-cons (λ (q : List Msg). sum_by (λ m. f (chain_of v m)) q) q lists)

  pub total-value : (f : List Block → ℕ) → total f (value_of v b) ≡ weigh (λ m. f (chain_of v m)) b.lists b.hand
  total-value f = let l = sums-value f b.lists in let h = sum_by-map (λ h. f h.chain) (held_of v) b.hand in omega arith

  pub used-value : used (value_of v b) ≡ weigh (λ m. length (ids m)) b.lists b.hand
  unfolding used
  used-value = total-value length ∙ weigh-same (λ m. length (chain_of v m)) (λ m. length (ids m)) (λ m. length-map (ids m) (block_no v)) b.lists b.hand

  pub references-value : (d : ℕ) → references (value_of v b) d ≡ weigh (naming v.rows d) b.lists b.hand
  unfolding references
  references-value d = total-value (names_of d) ∙ weigh-same (λ m. names_of d (chain_of v m)) (naming v.rows d) (λ m. sum_by-map (λ x. cond (eqb x.number d) 1 0) (block_no v) (ids m)) b.lists b.hand

  module _ {first_m : Option MsgLink} {first_d : Option DataLink} {spare_m spare_d : ℕ} (is : IsRaw v first_m first_d spare_m spare_d b) where
    pub free_m-value : free_m (value_of v b) ≡ spare_m
    unfolding free_m
    free_m-value = let u = used-value in let c = is.counted_m in let n = is.count_m in omega arith

    pub stored : (d : ℕ) → references (value_of v b) d ≡ (data_at d v.datas).references
    stored d = references-value d ∙ sym (is.referenced d)

    unnamed-past : (d : ℕ) → length v.datas ≤ d → references (value_of v b) d ≡ 0
    unnamed-past d past = stored d ∙ ap (λ (r : DataRow). r.references) (get_or_past v.datas d no_data past)

    pub free_d-value : free_d (value_of v b) ≡ spare_d
    unfolding free_d
    free_d-value =
        let f = references (value_of v b) in let n = length v.datas in
        let made = zeros-take f v.datas (λ d. sym (stored d)) n (omega arith) ∙ ap (λ xs. count_by (λ (r : DataRow). eqb r.references 0) xs) (take_all n v.datas (omega arith)) ∙ sym is.counted_d in
        let le = is.few_d in let c = is.count_d in
        let others = zeros-past f n unnamed-past (v.dblks - n) in
        let all : v.dblks - n + n ≡ v.dblks = omega arith in
        let whole = ap (zeros_below f) all in
        omega arith

    -- where the first link is none, none that is made is free
    pub none-m : first_m ≡ None → length b.free_m ≡ 0
    none-m e = ended (next_of v.rows) b.free_m (ap (λ (o : Option MsgLink). breaks (next_of v.rows) (option_map (msg_number v.mat) o) b.free_m) (sym e) ∙ is.linked_m)

    pub none-d : first_d ≡ None → length b.free_d ≡ 0
    none-d e = ended (free_after v.datas) b.free_d (ap (λ (o : Option DataLink). breaks (free_after v.datas) (option_map (data_number v.dat) o) b.free_d) (sym e) ∙ is.linked_d)
