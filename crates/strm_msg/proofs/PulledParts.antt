-- The parts of a message that is pulled up: its control bytes and its data bytes.
use Rattle.std.proofs.Common.{ℕ, ◌≡◌, ◌≤◌, ◌-◌, Bool, true, false, cond, List, [], ◌∷◌, ◌++◌, length, take, drop, refl, sym, ap, ◌∙◌, arith, append_assoc}
use Rattle.std.specs.Prelude.{nat_le}
use Rattle.std.proofs.lemmas.Bool.Decides.{nat_tests}
use Rattle.std.proofs.lemmas.List.{take-append-drop, take_all, drop_all}
use Rattle.strm_types.specs.declared.kinds.MsgKind.{MsgKind}
use Rattle.strm_blocks.specs.Blocks.{Block, block_at, trimmed_head}
use Rattle.strm_types.specs.Kinds.{is_control_kind, is_body_kind}
use Rattle.strm_msg.specs.Bytes.{bytes_of, control_blocks, control_bytes, data_blocks, data_bytes}
use Rattle.strm_msg.specs.Runs.{same_kind}
use Rattle.strm_msg.specs.Pulled.{run_of, without_joined, joined, pulled}
use Rattle.strm_msg.proofs.Dropping.{cut, cut-is, run-cons}
use Rattle.strm_msg.proofs.KindNumbers.{one-kind}
use Rattle.strm_msg.proofs.Parts.{control-blocks-cons}
use Rattle.strm_msg.proofs.Taking.{drop-append}

-- A part has the bytes of the blocks of some kinds. What stands behind a block of another kind is left out, or it isn't.
module _ (of_part : MsgKind → Bool) (part : List Block → List ℕ) (behind : List ℕ → List ℕ) (more : (b : Block) (chain : List Block) → part (b ∷ chain) ≡ cond (of_part b.kind) (b.bytes ++ part chain) (behind (part chain))) (twice : (xs : List ℕ) → behind (behind xs) ≡ behind xs) (kind : MsgKind) where
  part-cons : {v : Bool} → of_part kind ≡ v → (b : Block) (chain : List Block) → b.kind ≡ kind → part (b ∷ chain) ≡ cond v (b.bytes ++ part chain) (behind (part chain))
  part-cons {v} is b chain same = more b chain ∙ ap (λ u. cond u (b.bytes ++ part chain) (behind (part chain))) (ap of_part same ∙ is)

  -- the run, where its blocks are of the part
  module _ (is : of_part kind ≡ true) where
    whole : (chain : List Block) → part chain ≡ bytes_of (run_of kind chain) ++ part (drop (length (run_of kind chain)) chain)
    whole [] = refl
    whole (b ∷ chain) =
        let by : (v : Bool) → same_kind b.kind kind ≡ v → part (b ∷ chain) ≡ bytes_of (cond v (b ∷ run_of kind chain) []) ++ part (drop (length (cond v (b ∷ run_of kind chain) [])) (b ∷ chain)) =
        λ v. elim v as (λ w. same_kind b.kind kind ≡ w → part (b ∷ chain) ≡ bytes_of (cond w (b ∷ run_of kind chain) []) ++ part (drop (length (cond w (b ∷ run_of kind chain) [])) (b ∷ chain))) [
          | true ↦ (λ e. part-cons is b chain (one-kind b.kind kind e) ∙ ap (λ xs. b.bytes ++ xs) (whole chain) ∙ sym (append_assoc b.bytes (bytes_of (run_of kind chain)) (part (drop (length (run_of kind chain)) chain))))
          | false ↦ (λ e. refl)
        ] in
        by (same_kind b.kind kind) refl ∙ sym (ap (λ xs. bytes_of xs ++ part (drop (length xs) (b ∷ chain))) (run-cons kind b chain))

    left : (n : ℕ) (chain : List Block) → part (cut kind n chain) ≡ drop n (bytes_of (run_of kind chain)) ++ part (drop (length (run_of kind chain)) chain)
    left n [] = sym (ap (λ xs. xs ++ part []) (drop_all n [] (omega arith)))
    left n (b ∷ chain) =
        let run = run_of kind chain in
        let rest = part (drop (length run) chain) in
        let split = drop-append n b.bytes (bytes_of run) in
        let ih = left (n - length b.bytes) chain in
        let all = whole chain in
        let fit : (w : Bool) → nat_le (length b.bytes) n ≡ w → same_kind b.kind kind ≡ true → part (cond w (cut kind (n - length b.bytes) chain) (trimmed_head n b ∷ chain)) ≡ drop n (b.bytes ++ bytes_of run) ++ rest =
        λ w. elim w as (λ u. nat_le (length b.bytes) n ≡ u → same_kind b.kind kind ≡ true → part (cond u (cut kind (n - length b.bytes) chain) (trimmed_head n b ∷ chain)) ≡ drop n (b.bytes ++ bytes_of run) ++ rest) [
          | true ↦ (λ f e. (let le : length b.bytes ≤ n = grind (arith, nat_tests) in ih ∙ sym (ap (λ xs. (xs ++ drop (n - length b.bytes) (bytes_of run)) ++ rest) (drop_all n b.bytes le)) ∙ sym (ap (λ xs. xs ++ rest) split)))
          | false ↦ (λ f e. (let none : 0 ≡ n - length b.bytes = grind (arith, nat_tests) in part-cons is (trimmed_head n b) chain (one-kind b.kind kind e) ∙ ap (λ xs. drop n b.bytes ++ xs) all ∙ sym (append_assoc (drop n b.bytes) (bytes_of run) rest) ∙ ap (λ k. (drop n b.bytes ++ drop k (bytes_of run)) ++ rest) none ∙ sym (ap (λ xs. xs ++ rest) split)))
        ] in
        let by : (v : Bool) → same_kind b.kind kind ≡ v → part (cond v (cond (nat_le (length b.bytes) n) (cut kind (n - length b.bytes) chain) (trimmed_head n b ∷ chain)) (b ∷ chain)) ≡ drop n (bytes_of (cond v (b ∷ run) [])) ++ part (drop (length (cond v (b ∷ run) [])) (b ∷ chain)) =
        λ v. elim v as (λ w. same_kind b.kind kind ≡ w → part (cond w (cond (nat_le (length b.bytes) n) (cut kind (n - length b.bytes) chain) (trimmed_head n b ∷ chain)) (b ∷ chain)) ≡ drop n (bytes_of (cond w (b ∷ run) [])) ++ part (drop (length (cond w (b ∷ run) [])) (b ∷ chain))) [
          | true ↦ (λ e. fit (nat_le (length b.bytes) n) refl e)
          | false ↦ (λ e. sym (ap (λ xs. xs ++ part (b ∷ chain)) (drop_all n [] (omega arith))))
        ] in
        by (same_kind b.kind kind) refl ∙ sym (ap (λ xs. drop n (bytes_of xs) ++ part (drop (length xs) (b ∷ chain))) (run-cons kind b chain))

  -- the run, where its blocks aren't of the part
  module _ (out : of_part kind ≡ false) where
    other : (n : ℕ) (chain : List Block) → behind (part (cut kind n chain)) ≡ behind (part chain)
    other n [] = refl
    other n (b ∷ chain) =
        let ih = other (n - length b.bytes) chain in
        let first : (c : Block) → c.kind ≡ kind → behind (part (c ∷ chain)) ≡ behind (part chain) = λ c same. ap behind (part-cons out c chain same) ∙ twice (part chain) in
        let fit : (w : Bool) → b.kind ≡ kind → behind (part (cond w (cut kind (n - length b.bytes) chain) (trimmed_head n b ∷ chain))) ≡ behind (part (b ∷ chain)) =
        λ w. elim w as (λ u. b.kind ≡ kind → behind (part (cond u (cut kind (n - length b.bytes) chain) (trimmed_head n b ∷ chain))) ≡ behind (part (b ∷ chain))) [
          | true ↦ (λ same. ih ∙ sym (first b same))
          | false ↦ (λ same. first (trimmed_head n b) same ∙ sym (first b same))
        ] in
        let by : (v : Bool) → same_kind b.kind kind ≡ v → behind (part (cond v (cond (nat_le (length b.bytes) n) (cut kind (n - length b.bytes) chain) (trimmed_head n b ∷ chain)) (b ∷ chain))) ≡ behind (part (b ∷ chain)) =
        λ v. elim v as (λ w. same_kind b.kind kind ≡ w → behind (part (cond w (cond (nat_le (length b.bytes) n) (cut kind (n - length b.bytes) chain) (trimmed_head n b ∷ chain)) (b ∷ chain))) ≡ behind (part (b ∷ chain))) [
          | true ↦ (λ e. fit (nat_le (length b.bytes) n) (one-kind b.kind kind e))
          | false ↦ (λ e. refl)
        ] in
        by (same_kind b.kind kind) refl

  -- a block of the first bytes of the run in front of what is left
  part-same : (n : ℕ) (b : Block) (chain : List Block) → b.kind ≡ kind → (front : Block) → front.kind ≡ kind → front.bytes ≡ take n (bytes_of (run_of kind (b ∷ chain))) → part (front ∷ without_joined kind n (b ∷ chain)) ≡ part (b ∷ chain)
  part-same n b chain same front front_is bytes =
      let all = b ∷ chain in
      let run = bytes_of (run_of kind all) in
      let rest = part (drop (length (run_of kind all)) all) in
      let by : (v : Bool) → of_part kind ≡ v → part (front ∷ cut kind n all) ≡ part all =
      λ v. elim v as (λ w. of_part kind ≡ w → part (front ∷ cut kind n all) ≡ part all) [
        | true ↦ (λ is. part-cons is front (cut kind n all) front_is ∙ ap (λ xs. front.bytes ++ xs) (left is n all) ∙ ap (λ xs. xs ++ (drop n run ++ rest)) bytes ∙ sym (append_assoc (take n run) (drop n run) rest) ∙ ap (λ xs. xs ++ rest) (take-append-drop n run) ∙ sym (whole is all))
        | false ↦ (λ out. part-cons out front (cut kind n all) front_is ∙ other out n all ∙ ap behind (part-cons out b chain same) ∙ twice (part chain) ∙ sym (part-cons out b chain same))
      ] in
      ap (λ xs. part (front ∷ xs)) (sym (cut-is kind n all)) ∙ by (of_part kind) refl

-- the control part ends at the first block of another kind
control-more : (b : Block) (chain : List Block) → control_bytes (b ∷ chain) ≡ cond (is_control_kind b.kind) (b.bytes ++ control_bytes chain) []
control-more b chain =
    ap (λ xs. bytes_of xs) (control-blocks-cons b chain) ∙ (elim (is_control_kind b.kind) as (λ v. bytes_of (cond v (b ∷ control_blocks chain) []) ≡ cond v (b.bytes ++ control_bytes chain) []) [ true ↦ refl | false ↦ refl ])

body-more : (b : Block) (chain : List Block) → data_bytes (b ∷ chain) ≡ cond (is_body_kind b.kind) (b.bytes ++ data_bytes chain) (data_bytes chain)
body-more b chain = elim (is_body_kind b.kind) as (λ v. bytes_of (cond v (b ∷ data_blocks chain) (data_blocks chain)) ≡ cond v (b.bytes ++ data_bytes chain) (data_bytes chain)) [ true ↦ refl | false ↦ refl ]

-- both parts stay
empty : (v : Bool) (n : ℕ) → cond {A = List ℕ} v (take n [] ++ []) [] ≡ []
empty true n = ap (λ xs. xs ++ []) (take_all n [] (omega arith))
empty false n = refl

pub pulled-control : (number n : ℕ) (chain : List Block) → control_bytes (pulled number n chain) ≡ control_bytes chain
pulled-control number n [] = control-more (joined number n []) (without_joined (block_at 0 []).kind n []) ∙ empty (is_control_kind (block_at 0 []).kind) n
pulled-control number n (b ∷ chain) =
    part-same is_control_kind control_bytes (λ xs. []) control-more (λ xs. refl) b.kind n b chain refl (joined number n (b ∷ chain)) refl refl

pub pulled-body : (number n : ℕ) (chain : List Block) → data_bytes (pulled number n chain) ≡ data_bytes chain
pulled-body number n [] = body-more (joined number n []) (without_joined (block_at 0 []).kind n []) ∙ empty (is_body_kind (block_at 0 []).kind) n
pulled-body number n (b ∷ chain) =
    part-same is_body_kind data_bytes (λ xs. xs) body-more (λ xs. refl) b.kind n b chain refl (joined number n (b ∷ chain)) refl refl
