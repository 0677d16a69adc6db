-- The lengths of a message's parts, as sums that run along its blocks.
use Rattle.std.proofs.Common.{ℕ, ◌≡◌, ◌≤◌, ◌<◌, ◌+◌, ◌-◌, ◌^◌, Bool, true, false, cond, List, [], ◌∷◌, ◌++◌, length, drop, Option, None, Some, refl, sym, ap, ◌∙◌, arith, add-one, drop-cons, unwrap_or}
use Rattle.std.specs.Prelude.{min, sum_by, ◌&&◌}
use Rattle.std.proofs.lemmas.List.{length-append}
use Rattle.std.proofs.lemmas.List.Sums.{sum_by-cons, take_while-cons}
use Rattle.strm_blocks.specs.Blocks.{Block, block_at, no_block}
use Rattle.strm_types.specs.Kinds.{is_control_kind, is_body_kind}
use Rattle.strm_blocks.specs.Outcomes.{SeenBlock, seen_in, told}
use Rattle.strm_msg.specs.declared.sizes.PartSizes.{PartSizes}
use Rattle.strm_msg.specs.Parted.{longer, parted}
use Rattle.strm_msg.specs.Bytes.{bytes_of, control_blocks, control_bytes, data_blocks, data_bytes, length_of_part}

-- the chain from a place on, by its first block
pub chain-at : (chain : List Block) (at : ℕ) → at < length chain → drop at chain ≡ block_at at chain ∷ drop (at + 1) chain
chain-at chain at within = drop-cons chain at no_block within ∙ ap (λ k. block_at at chain ∷ drop k chain) (sym (add-one at))

-- a length with that of one more block
abbrev pub with_block_len : Option ℕ → Block → Option ℕ
with_block_len found b = Some (unwrap_or found 0 + length b.bytes)

-- the length of the control part, where so much of it was found in front
abbrev pub control_run : Option ℕ → List Block → Option ℕ
control_run found [] = found
control_run found (b ∷ chain) = cond (is_control_kind b.kind) (control_run (with_block_len found b) chain) found

-- the length of the data part, where so much of it was found in front
abbrev pub data_run : Option ℕ → List Block → Option ℕ
data_run found [] = found
data_run found (b ∷ chain) = data_run (cond (is_body_kind b.kind) (with_block_len found b) found) chain

pub control-blocks-cons : (b : Block) (chain : List Block) → control_blocks (b ∷ chain) ≡ cond (is_control_kind b.kind) (b ∷ control_blocks chain) []
control-blocks-cons b chain = take_while-cons (λ b. is_control_kind b.kind) b chain

control-run-some : (n : ℕ) (chain : List Block) → control_run (Some n) chain ≡ Some (n + length (control_bytes chain))
control-run-some n [] = ap Some (omega arith)
control-run-some n (b ∷ chain) =
    let ih = control-run-some (n + length b.bytes) chain in
    let more = length-append b.bytes (control_bytes chain) in
    let e : n + length b.bytes + length (control_bytes chain) ≡ n + length (b.bytes ++ control_bytes chain) = omega arith in
    let by_kind : control_run (Some n) (b ∷ chain) ≡ Some (n + length (bytes_of (cond (is_control_kind b.kind) (b ∷ control_blocks chain) []))) =
    elim (is_control_kind b.kind) as (λ v. cond v (control_run (Some (n + length b.bytes)) chain) (Some n) ≡ Some (n + length (bytes_of (cond v (b ∷ control_blocks chain) [])))) [
      | true ↦ ih ∙ ap Some e
      | false ↦ ap Some (omega arith)
    ] in
    by_kind ∙ ap (λ (xs : List Block). Some (n + length (bytes_of xs))) (sym (control-blocks-cons b chain))

pub control-run-is : (chain : List Block) → control_run None chain ≡ length_of_part (control_blocks chain)
control-run-is [] = refl
control-run-is (b ∷ chain) =
    let ih = control-run-some (length b.bytes) chain in
    let more = length-append b.bytes (control_bytes chain) in
    let e : length b.bytes + length (control_bytes chain) ≡ length (b.bytes ++ control_bytes chain) = omega arith in
    let z : 0 + length b.bytes ≡ length b.bytes = omega arith in
    let by_kind : control_run None (b ∷ chain) ≡ length_of_part (cond (is_control_kind b.kind) (b ∷ control_blocks chain) []) =
    elim (is_control_kind b.kind) as (λ v. cond v (control_run (Some (0 + length b.bytes)) chain) None ≡ length_of_part (cond v (b ∷ control_blocks chain) [])) [
      | true ↦ ap (λ k. control_run (Some k) chain) z ∙ ih ∙ ap Some e
      | false ↦ refl
    ] in
    by_kind ∙ ap (λ (xs : List Block). length_of_part xs) (sym (control-blocks-cons b chain))

data-run-some : (n : ℕ) (chain : List Block) → data_run (Some n) chain ≡ Some (n + length (data_bytes chain))
data-run-some n [] = ap Some (omega arith)
data-run-some n (b ∷ chain) =
    let ih = data-run-some (n + length b.bytes) chain in
    let more = length-append b.bytes (data_bytes chain) in
    let e : n + length b.bytes + length (data_bytes chain) ≡ n + length (b.bytes ++ data_bytes chain) = omega arith in
    elim (is_body_kind b.kind) as (λ v. data_run (cond v (Some (n + length b.bytes)) (Some n)) chain ≡ Some (n + length (bytes_of (cond v (b ∷ data_blocks chain) (data_blocks chain))))) [
      | true ↦ ih ∙ ap Some e
      | false ↦ data-run-some n chain
    ]

pub data-run-is : (chain : List Block) → data_run None chain ≡ length_of_part (data_blocks chain)
data-run-is [] = refl
data-run-is (b ∷ chain) =
    let ih = data-run-some (length b.bytes) chain in
    let more = length-append b.bytes (data_bytes chain) in
    let e : length b.bytes + length (data_bytes chain) ≡ length (b.bytes ++ data_bytes chain) = omega arith in
    let z : 0 + length b.bytes ≡ length b.bytes = omega arith in
    elim (is_body_kind b.kind) as (λ v. data_run (cond v (Some (0 + length b.bytes)) None) chain ≡ length_of_part (cond v (b ∷ data_blocks chain) (data_blocks chain))) [
      | true ↦ ap (λ k. data_run (Some k) chain) z ∙ ih ∙ ap Some e
      | false ↦ data-run-is chain
    ]

-- a visitor that adds the parts up
abbrev parts_from : PartSizes → List SeenBlock → PartSizes
parts_from v bs = told parted (λ v. true) v bs

abbrev with_parts : Bool → Option ℕ → Option ℕ → PartSizes
with_parts in_front control body = record { in_front = in_front; control = control; body = body }

pub record PartsAre (v : PartSizes) (c o : Option ℕ) : Type 0 where
  pub control : v.control ≡ c
  pub body : v.body ≡ o

longer-fits : (counts : Bool) (found : Option ℕ) (b : Block) → unwrap_or found 0 + length b.bytes ≤ 2 ^ 64 - 1 → cond counts (longer found b.bytes) found ≡ cond counts (with_block_len found b) found
longer-fits true found b fits = let one : min (unwrap_or found 0 + length b.bytes) (2 ^ 64 - 1) ≡ unwrap_or found 0 + length b.bytes = omega (arith, fits) in ap (λ (n : ℕ). Some n) one
longer-fits false found b fits = refl

grows : (counts : Bool) (found : Option ℕ) (b : Block) → unwrap_or (cond counts (with_block_len found b) found) 0 ≤ unwrap_or found 0 + length b.bytes
grows true found b = omega arith
grows false found b = omega arith

control-goes : (in_front is : Bool) (control : Option ℕ) (b : Block) (chain : List Block)
    → cond (in_front && is) (control_run (cond (in_front && is) (with_block_len control b) control) chain) (cond (in_front && is) (with_block_len control b) control) ≡ cond in_front (cond is (control_run (with_block_len control b) chain) control) control
control-goes true true control b chain = refl
control-goes true false control b chain = refl
control-goes false is control b chain = refl

parts-run : (in_front first : Bool) (control body : Option ℕ) (chain : List Block)
    → unwrap_or control 0 + sum_by (λ b. length b.bytes) chain ≤ 2 ^ 64 - 1 → unwrap_or body 0 + sum_by (λ b. length b.bytes) chain ≤ 2 ^ 64 - 1
    → PartsAre (parts_from (with_parts in_front control body) (seen_in first chain)) (cond in_front (control_run control chain) control) (data_run body chain)
parts-run true first control body [] few_c few_b = record { control = refl; body = refl }
parts-run false first control body [] few_c few_b = record { control = refl; body = refl }
parts-run in_front first control body (b ∷ chain) few_c few_b =
    let sum = sum_by-cons (λ (x : Block). length x.bytes) b chain in
    let k = in_front && is_control_kind b.kind in
    let d = is_body_kind b.kind in
    let c' = cond k (with_block_len control b) control in
    let b' = cond d (with_block_len body b) body in
    let run = parts-run k false c' b' chain (omega (arith, sum, few_c, grows k control b)) (omega (arith, sum, few_b, grows d body b)) in
    let fits_c = longer-fits k control b (omega (arith, sum, few_c)) in
    let fits_b = longer-fits d body b (omega (arith, sum, few_b)) in
    let start = ap (λ c. parts_from (with_parts k c (cond d (longer body b.bytes) body)) (seen_in false chain)) fits_c
    ∙ ap (λ o. parts_from (with_parts k c' o) (seen_in false chain)) fits_b in
    record {
      control = ap (λ (v : PartSizes). v.control) start ∙ run.control ∙ control-goes in_front (is_control_kind b.kind) control b chain;
      body = ap (λ (v : PartSizes). v.body) start ∙ run.body;
    }

pub parts-are : (chain : List Block) → sum_by (λ b. length b.bytes) chain ≤ 2 ^ 64 - 1 → PartsAre (parts_from (with_parts true None None) (seen_in true chain)) (length_of_part (control_blocks chain)) (length_of_part (data_blocks chain))
parts-are chain few =
    let run = parts-run true true None None chain (omega (arith, few)) (omega (arith, few)) in
    record { control = run.control ∙ control-run-is chain; body = run.body ∙ data-run-is chain }
