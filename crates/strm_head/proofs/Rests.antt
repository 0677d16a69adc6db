-- What is left of a message of which a read or a get took some bytes, as its chain of blocks and by the definition.
use Rattle.strm_head.proofs.Prelude.{ℕ, ◌≡◌, ◌<◌, ◌+◌, ◌-◌, min, Bool, true, false, cond, List, [], ◌∷◌, ◌++◌, length, map, drop, Some, sym, ap, ◌∙◌}
use Rattle.strm_head.proofs.Prelude.{arith, length-append, nat_lt, ◌||◌, nat_tests, length-drop, data_in, data-cut}
use Rattle.strm_head.specs.Prelude.{MsgKind, is_data_kind, Message, part, band_of, is_high_priority, part_left, rest_with, rest_after, Block}
use Rattle.strm_head.specs.Prelude.{block_at, without_bytes, bytes_of, control_blocks, control_bytes, data_blocks, data_bytes, without_emptied}
use Rattle.strm_head.specs.Prelude.{message_of, part_of, IsChain, without_control}
use Rattle.strm_types.specs.declared.kinds.MsgKind.TheVariants as kinds
use Rattle.strm_msg.proofs.Taking.{data-without, control-without, drop-least}
use Rattle.strm_msg.proofs.Cutting.{control-cut, cut-keeps, data-keeps, alike-kind, alike-band, alike-chain, bytes-parts}
use Rattle.strm_head.specs.Parted.{cut_by, rest_chain}
use Rattle.strm_head.proofs.Resting.{part-bytes, Remains, remains}
use Rattle.strm_head.proofs.Seen.{parts-shown}

-- a message of the three kinds with parts
abbrev pub parts_in : List Block → Message ℕ
parts_in chain = record { kind = (block_at 0 chain).kind; band = (block_at 0 chain).band; control = part_of (control_blocks chain); body = part_of (data_blocks chain); plain = [] }

-- a rest goes by the kind and the band of its message
pub rest-like : (control body : List ℕ) (a b : List Block) → (block_at 0 a).kind ≡ (block_at 0 b).kind → (block_at 0 a).band ≡ (block_at 0 b).band → rest_with control body (parts_in a) ≡ rest_with control body (parts_in b)
unfolding band_of
rest-like [] body a b kind band =
    ap (λ k. data_in (cond (is_high_priority k) 0 (block_at 0 a).band) body) kind ∙ ap (λ n. data_in (cond (is_high_priority (block_at 0 b).kind) 0 n) body) band
rest-like (c ∷ control) body a b kind band =
    ap (λ k. record { kind = k; band = (block_at 0 a).band; control = Some (c ∷ control); body = part_left body; plain = [] }) kind
    ∙ ap (λ n. record { kind = (block_at 0 b).kind; band = n; control = Some (c ∷ control); body = part_left body; plain = [] }) band

module _ (chain : List Block) (readable : is_data_kind (block_at 0 chain).kind ≡ true) where
  pub control-is : part (message_of chain).control ≡ control_bytes chain
  control-is = ap (λ (m : Message ℕ). part m.control) (parts-shown chain readable) ∙ part-bytes (control_blocks chain)

  pub body-is : part (message_of chain).body ≡ data_bytes chain
  body-is = ap (λ (m : Message ℕ). part m.body) (parts-shown chain readable) ∙ part-bytes (data_blocks chain)

-- a chain of which the first bytes of each part were taken
module _ (n d : ℕ) (chain : List Block) (one : IsChain chain) (readable : is_data_kind (block_at 0 chain).kind ≡ true) where
  abbrev cut : List Block
  cut = cut_by n d chain

  pub alike : map without_bytes cut ≡ map without_bytes chain
  alike = data-keeps d (without_control n chain) ∙ cut-keeps n chain

  pub cut-one : IsChain cut
  cut-one = alike-chain chain cut alike one

  pub cut-kind : (block_at 0 cut).kind ≡ (block_at 0 chain).kind
  cut-kind = alike-kind chain cut alike

  pub cut-band : (block_at 0 cut).band ≡ (block_at 0 chain).band
  cut-band = alike-band chain cut alike

  pub cut-readable : is_data_kind (block_at 0 cut).kind ≡ true
  cut-readable = ap is_data_kind cut-kind ∙ readable

  pub control-left : control_bytes cut ≡ drop n (control_bytes chain)
  control-left = control-without d (without_control n chain) ∙ control-cut n chain

  pub data-left : data_bytes cut ≡ drop d (data_bytes chain)
  data-left = data-without d (without_control n chain) ∙ ap (drop d) (data-cut n chain)

  pub bytes-left : bytes_of cut ≡ drop n (control_bytes chain) ++ drop d (data_bytes chain)
  bytes-left = bytes-parts cut cut-one cut-readable ∙ ap (λ xs. xs ++ data_bytes cut) control-left ∙ ap (λ xs. drop n (control_bytes chain) ++ xs) data-left

  rest-is : 0 < length (bytes_of cut) → Remains cut
  rest-is some = remains cut cut-one cut-readable some

  pub rest-one : 0 < length (bytes_of cut) → IsChain (without_emptied cut)
  rest-one some = (rest-is some).one

  pub rest-kind : 0 < length (bytes_of cut) → (test : MsgKind → Bool) → test kinds.Data ≡ true → test (block_at 0 chain).kind ≡ true → test (block_at 0 (without_emptied cut)).kind ≡ true
  rest-kind some test passes was = (rest-is some).kind test passes (ap test cut-kind ∙ was)

  pub rest-shown : 0 < length (bytes_of cut) → message_of (without_emptied cut) ≡ rest_with (drop n (control_bytes chain)) (drop d (data_bytes chain)) (message_of chain)
  rest-shown some =
      (rest-is some).shows
      ∙ ap (λ xs. rest_with xs (data_bytes cut) (message_of cut)) control-left
      ∙ ap (λ xs. rest_with (drop n (control_bytes chain)) xs (message_of cut)) data-left
      ∙ ap (rest_with (drop n (control_bytes chain)) (drop d (data_bytes chain))) (parts-shown cut cut-readable)
      ∙ rest-like (drop n (control_bytes chain)) (drop d (data_bytes chain)) cut chain cut-kind cut-band
      ∙ ap (rest_with (drop n (control_bytes chain)) (drop d (data_bytes chain))) (sym (parts-shown chain readable))

  pub bytes-count : length (bytes_of cut) ≡ (length (control_bytes chain) - n) + (length (data_bytes chain) - d)
  bytes-count =
      ap length bytes-left ∙ length-append (drop n (control_bytes chain)) (drop d (data_bytes chain))
      ∙ omega (arith, length-drop n (control_bytes chain), length-drop d (data_bytes chain))

-- what is left behind a read of the first bytes
pub record Rest (n : ℕ) (chain : List Block) : Type 0 where
  pub one : IsChain (rest_chain n chain)
  pub is : message_of (rest_chain n chain) ≡ rest_after n (message_of chain)
  pub kind : (test : MsgKind → Bool) → test kinds.Data ≡ true → test (block_at 0 chain).kind ≡ true → test (block_at 0 (rest_chain n chain)).kind ≡ true

pub rest-read : (n : ℕ) (chain : List Block) → IsChain chain → n < length (bytes_of chain) → is_data_kind (block_at 0 chain).kind ≡ true → Rest n chain
rest-read n chain one less readable =
    let m = message_of chain in
    let control = control_bytes chain in
    let body = data_bytes chain in
    let c = control-is chain readable in
    let b = body-is chain readable in
    let d = n - length control in
    let whole = ap length (bytes-parts chain one readable) in
    let some : 0 < length (bytes_of (cut_by n d chain)) = omega (arith, less, whole, length-append control body, bytes-count n d chain one readable) in
    record {
      one = rest-one n d chain one readable some;
      is = rest-shown n d chain one readable some
          ∙ sym (ap (λ xs. rest_with (drop n xs) (drop (n - length xs) (part m.body)) m) c ∙ ap (λ xs. rest_with (drop n control) (drop d xs) m) b);
      kind = rest-kind n d chain one readable some;
    }

-- what is left behind a get, by the sizes that were asked for
module _ (cmax dmax n d : ℕ) (chain : List Block) (one : IsChain chain) (readable : is_data_kind (block_at 0 chain).kind ≡ true)
    (n_is : n ≡ min cmax (length (control_bytes chain))) (d_is : d ≡ min dmax (length (data_bytes chain))) where
  abbrev m : Message ℕ
  m = message_of chain

  pub left-some : (control body : Bool) → control ≡ nat_lt cmax (length (part m.control)) → body ≡ nat_lt dmax (length (part m.body)) → (control || body) ≡ true → 0 < length (bytes_of (cut_by n d chain))
  left-some control body control_is body_is some =
      let count = bytes-count n d chain one readable in
      let c = ap length (control-is chain readable) in
      let b = ap length (body-is chain readable) in
      at control body control_is body_is some count c b
    where
      at : (control body : Bool) → control ≡ nat_lt cmax (length (part m.control)) → body ≡ nat_lt dmax (length (part m.body)) → (control || body) ≡ true
          → length (bytes_of (cut_by n d chain)) ≡ (length (control_bytes chain) - n) + (length (data_bytes chain) - d)
          → length (part m.control) ≡ length (control_bytes chain) → length (part m.body) ≡ length (data_bytes chain) → 0 < length (bytes_of (cut_by n d chain))
      at true body control_is body_is some count c b = let lt : cmax < length (part m.control) = grind (arith, nat_tests) in omega (arith, lt, count, c, n_is)
      at false true control_is body_is some count c b = let lt : dmax < length (part m.body) = grind (arith, nat_tests) in omega (arith, lt, count, b, d_is)
      at false false control_is body_is some count c b = absurd (cc)

  pub rest-asked : 0 < length (bytes_of (cut_by n d chain)) → message_of (without_emptied (cut_by n d chain)) ≡ rest_with (drop cmax (part m.control)) (drop dmax (part m.body)) m
  rest-asked some =
      rest-shown n d chain one readable some
      ∙ ap (λ xs. rest_with xs (drop d (data_bytes chain)) m) (drop-least cmax n (control_bytes chain) n_is ∙ ap (drop cmax) (sym (control-is chain readable)))
      ∙ ap (λ xs. rest_with (drop cmax (part m.control)) xs m) (drop-least dmax d (data_bytes chain) d_is ∙ ap (drop dmax) (sym (body-is chain readable)))
