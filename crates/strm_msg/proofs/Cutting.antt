-- Control bytes that are taken off a message, and what holds of a chain still whose blocks have less.
use Rattle.std.proofs.Common.{ℕ, ◌≡◌, ◌≤◌, ◌-◌, min, pos, Bool, true, false, cond, List, [], ◌∷◌, ◌++◌, length, map, take, drop, refl, sym, ap, ◌∙◌, arith, inl, inr, append-nil}
use Rattle.std.specs.Prelude.{take_while}
use Rattle.std.proofs.lemmas.Bool.{le-leb}
use Rattle.std.proofs.lemmas.Bool.Decides.{nat_tests}
use Rattle.std.proofs.lemmas.List.Sums.{take_while-cons}
use Rattle.std.proofs.lemmas.List.{length-append, take_all, take-append-le, drop_all, nil_from_length}
use Rattle.strm_types.specs.declared.kinds.MsgKind.{MsgKind}
use Rattle.strm_types.specs.declared.kinds.MsgKind.TheVariants as kinds
use Rattle.strm_types.specs.Flush.{is_data_kind}
use Rattle.strm_types.specs.Kinds.{is_control_kind, is_body_kind, kind_number}
use Rattle.strm_blocks.specs.Blocks.{Block, block_at, trimmed_head}
use Rattle.strm_msg.specs.Adjusted.{trimmed_by, without_head, without_bytes, adjusted}
use Rattle.strm_msg.specs.Bytes.{bytes_of, control_blocks, control_bytes, data_blocks, data_bytes}
use Rattle.strm_msg.specs.Messages.{AreData, IsParted, IsChain}
use Rattle.strm_msg.specs.Runs.{same_kind, front_run}
use Rattle.strm_msg.specs.Taken.{without_control, without_data, filled}
use Rattle.strm_msg.proofs.AdjustingBytes.{bytes-append}
use Rattle.strm_msg.proofs.AdjustingBlocks.{adjusted-none}
use Rattle.strm_msg.proofs.Outlines.{OfKind, behind-is, front-is, outline, outlined-kind, outlined-band, outlined-chain}
use Rattle.strm_msg.proofs.Chains.{control-none, control-front, data-behind, data-all, data-or-control, control-body, data-control}
use Rattle.strm_msg.proofs.Parts.{control-blocks-cons}
use Rattle.strm_msg.proofs.Taking.{drop-append, drop-least}

-- what is left of the control part, and the data part stays
pub control-cut : (n : ℕ) (chain : List Block) → control_bytes (without_control n chain) ≡ drop n (control_bytes chain)
control-cut n [] = sym (drop_all n [] (omega arith))
control-cut n (b ∷ chain) = by (control-cut (n - length b.bytes) chain) (is_control_kind b.kind) refl
  where
    rest : List Block
    rest = without_control (n - length b.bytes) chain

    old : (v : Bool) → is_control_kind b.kind ≡ v → control_bytes (b ∷ chain) ≡ bytes_of (cond v (b ∷ control_blocks chain) [])
    old v is = ap (λ (xs : List Block). bytes_of xs) (control-blocks-cons b chain ∙ ap (λ w. cond w (b ∷ control_blocks chain) []) is)

    by : control_bytes rest ≡ drop (n - length b.bytes) (control_bytes chain) → (v : Bool) → is_control_kind b.kind ≡ v → control_bytes (cond v (trimmed_head n b ∷ rest) (b ∷ chain)) ≡ drop n (control_bytes (b ∷ chain))
    by ih true is =
        ap (λ (xs : List Block). bytes_of xs) (control-blocks-cons (trimmed_head n b) rest ∙ ap (λ w. cond w (trimmed_head n b ∷ control_blocks rest) []) is)
        ∙ ap (λ zs. drop n b.bytes ++ zs) ih
        ∙ sym (drop-append n b.bytes (control_bytes chain))
        ∙ sym (ap (drop n) (old true is))
    by ih false is = old false is ∙ sym (drop_all n [] (omega arith)) ∙ sym (ap (drop n) (old false is))

pub data-cut : (n : ℕ) (chain : List Block) → data_bytes (without_control n chain) ≡ data_bytes chain
data-cut n [] = refl
data-cut n (b ∷ chain) = by (data-cut (n - length b.bytes) chain) (is_control_kind b.kind) refl
  where
    rest : List Block
    rest = without_control (n - length b.bytes) chain

    by : data_bytes rest ≡ data_bytes chain → (v : Bool) → is_control_kind b.kind ≡ v → data_bytes (cond v (trimmed_head n b ∷ rest) (b ∷ chain)) ≡ data_bytes (b ∷ chain)
    by ih true is =
        let none = control-body b.kind is in
        ap (λ w. bytes_of (cond w (trimmed_head n b ∷ data_blocks rest) (data_blocks rest))) none
        ∙ ih
        ∙ sym (ap (λ w. bytes_of (cond w (b ∷ data_blocks chain) (data_blocks chain))) none)
    by ih false is = refl

-- the blocks stay, with their kinds and bands
pub cut-keeps : (n : ℕ) (chain : List Block) → map without_bytes (without_control n chain) ≡ map without_bytes chain
cut-keeps n [] = refl
cut-keeps n (b ∷ chain) =
    elim (is_control_kind b.kind) as (λ v. map without_bytes (cond v (trimmed_head n b ∷ without_control (n - length b.bytes) chain) (b ∷ chain)) ≡ map without_bytes (b ∷ chain)) [
      | true ↦ ap (λ xs. without_bytes b ∷ xs) (cut-keeps (n - length b.bytes) chain)
      | false ↦ refl
    ]

pub data-keeps : (n : ℕ) (chain : List Block) → map without_bytes (without_data n chain) ≡ map without_bytes chain
data-keeps n [] = refl
data-keeps n (b ∷ chain) =
    elim (is_body_kind b.kind) as (λ v. map without_bytes (cond v (trimmed_head n b ∷ without_data (n - length b.bytes) chain) (b ∷ without_data n chain)) ≡ map without_bytes (b ∷ chain)) [
      | true ↦ ap (λ xs. without_bytes b ∷ xs) (data-keeps (n - length b.bytes) chain)
      | false ↦ ap (λ xs. without_bytes b ∷ xs) (data-keeps n chain)
    ]

-- chains of the same blocks, whatever bytes these show
alike-outline : (chain : List Block) → map outline (map without_bytes chain) ≡ map outline chain
alike-outline [] = refl
alike-outline (b ∷ chain) = ap (λ xs. outline b ∷ xs) (alike-outline chain)

module _ (old new : List Block) (alike : map without_bytes new ≡ map without_bytes old) where
  outlined : map outline new ≡ map outline old
  outlined = sym (alike-outline new) ∙ ap (map outline) alike ∙ alike-outline old

  pub alike-kind : (block_at 0 new).kind ≡ (block_at 0 old).kind
  alike-kind = outlined-kind old new outlined

  pub alike-band : (block_at 0 new).band ≡ (block_at 0 old).band
  alike-band = outlined-band old new outlined

  pub alike-chain : IsChain old → IsChain new
  alike-chain one = outlined-chain old new outlined one

-- the bytes of a message that has parts are those of its control part and then those of its data part
pub bytes-parts : (chain : List Block) → IsChain chain → is_data_kind (block_at 0 chain).kind ≡ true → bytes_of chain ≡ control_bytes chain ++ data_bytes chain
bytes-parts chain one readable =
    elim (data-or-control (block_at 0 chain).kind readable) [
      | inl is ↦
          (let all = one.all_data is in
          sym (ap (λ xs. bytes_of xs ++ data_bytes chain) (control-none chain all) ∙ ap bytes_of (data-all chain all)))
      | inr is ↦ parted (one.parted is) is
    ]
  where
    parted : IsParted (block_at 0 chain).kind chain → is_control_kind (block_at 0 chain).kind ≡ true → bytes_of chain ≡ control_bytes chain ++ data_bytes chain
    parted p is =
        ap bytes_of p.joined ∙ bytes-append p.front p.behind
        ∙ sym (ap (λ xs. bytes_of xs ++ data_bytes chain) (ap control_blocks p.joined ∙ control-front (block_at 0 chain).kind p.front p.behind is p.of_kind p.of_data)
        ∙ ap (λ xs. bytes_of p.front ++ bytes_of xs) (ap data_blocks p.joined ∙ data-behind (block_at 0 chain).kind p.front p.behind is p.of_kind p.of_data))

-- bytes that are trimmed off the front of such a message, no more than the control part has, are bytes of its control part
same : (k : MsgKind) → same_kind k k ≡ true
unfolding same_kind
same k = grind (arith, nat_tests)

apart : (k : MsgKind) → is_control_kind k ≡ true → same_kind kinds.Data k ≡ false
unfolding same_kind kind_number is_control_kind
apart kinds.Proto is = refl
apart kinds.Pcproto is = refl
apart _ is = absurd (cc)

all-data : (n : ℕ) (chain : List Block) → AreData chain → without_control n chain ≡ chain
all-data n [] all = refl
all-data n (b ∷ chain) all = ap (λ v. cond v (trimmed_head n b ∷ without_control (n - length b.bytes) chain) (b ∷ chain)) (data-control b.kind all.0)

module _ (k : MsgKind) (is : is_control_kind k ≡ true) where
  run-none : (behind : List Block) → AreData behind → take_while (λ b. same_kind b.kind k) behind ≡ []
  run-none [] all = refl
  run-none (b ∷ behind) all =
      let test : Block → Bool = λ x. same_kind x.kind k in
      take_while-cons test b behind ∙ ap (λ v. cond v (b ∷ take_while test behind) []) (ap (λ x. same_kind x k) all.0 ∙ apart k is)

  run-front : (front behind : List Block) → OfKind k front → AreData behind → take_while (λ b. same_kind b.kind k) (front ++ behind) ≡ front
  run-front [] behind of_kind of_data = run-none behind of_data
  run-front (b ∷ front) behind of_kind of_data =
      let test : Block → Bool = λ x. same_kind x.kind k in
      take_while-cons test b (front ++ behind)
      ∙ ap (λ v. cond v (b ∷ take_while test (front ++ behind)) []) (ap (λ x. same_kind x k) of_kind.0 ∙ same k)
      ∙ ap (λ xs. b ∷ xs) (run-front front behind of_kind.1 of_data)

  cut-front : (n : ℕ) (front behind : List Block) → OfKind k front → AreData behind → without_control n (front ++ behind) ≡ trimmed_by trimmed_head n front ++ behind
  cut-front n [] behind of_kind of_data = all-data n behind of_data
  cut-front n (b ∷ front) behind of_kind of_data =
      ap (λ v. cond v (trimmed_head n b ∷ without_control (n - length b.bytes) (front ++ behind)) (b ∷ front ++ behind)) (ap is_control_kind of_kind.0 ∙ is)
      ∙ ap (λ xs. trimmed_head n b ∷ xs) (cut-front (n - length b.bytes) front behind of_kind.1 of_data)
      ∙ ap (λ xs. record b { bytes = xs } ∷ trimmed_by trimmed_head (n - length b.bytes) front ++ behind) (sym (drop-least n (min n (length b.bytes)) b.bytes refl))

-- so a trim at the head does it
module _ (n : ℕ) (chain : List Block) (one : IsChain chain) (has : n ≤ length (control_bytes chain)) where
  abbrev k : MsgKind
  k = (block_at 0 chain).kind

  -- the run at the front is the control part
  record Fronted : Type 0 where
    run : length (bytes_of (front_run chain)) ≡ length (control_bytes chain)
    cut : without_head n chain ≡ without_control n chain

  fronted : IsParted k chain → is_control_kind k ≡ true → Fronted
  fronted p is =
      let run : front_run chain ≡ p.front = ap (take_while (λ b. same_kind b.kind k)) p.joined ∙ run-front k is p.front p.behind p.of_kind p.of_data in
      let control : control_blocks chain ≡ p.front = ap control_blocks p.joined ∙ control-front k p.front p.behind is p.of_kind p.of_data in
      record {
        run = ap (λ xs. length (bytes_of xs)) (run ∙ sym control);
        cut = ap (λ xs. trimmed_by trimmed_head n (take (length xs) chain) ++ drop (length xs) chain) run
            ∙ ap (λ xs. trimmed_by trimmed_head n xs ++ drop (length p.front) chain) (front-is p)
            ∙ ap (λ xs. trimmed_by trimmed_head n p.front ++ xs) (behind-is p)
            ∙ sym (ap (without_control n) p.joined ∙ cut-front k is n p.front p.behind p.of_kind p.of_data);
      }

  at-front : Fronted → adjusted (pos n) chain ≡ without_control n chain
  at-front f = ap (λ v. cond v (without_head n chain) chain) (le-leb n (length (bytes_of (front_run chain))) (omega (arith, f.run, has))) ∙ f.cut

-- where no control part stands at the front there is none to trim
pub no-control : (chain : List Block) → is_control_kind (block_at 0 chain).kind ≡ false → control_bytes chain ≡ []
no-control [] is = refl
no-control (b ∷ chain) is = ap (λ (xs : List Block). bytes_of xs) (control-blocks-cons b chain ∙ ap (λ v. cond v (b ∷ control_blocks chain) []) is)

none-there : (n : ℕ) (chain : List Block) → is_control_kind (block_at 0 chain).kind ≡ false → n ≤ length (control_bytes chain) → adjusted (pos n) chain ≡ without_control n chain
none-there n [] is has = ap (λ m. adjusted (pos m) []) (let e : n ≡ 0 = omega arith in e) ∙ adjusted-none []
none-there n (b ∷ chain) is has =
    let zero : n ≡ 0 = omega (arith, has, ap length (no-control (b ∷ chain) is)) in
    ap (λ m. adjusted (pos m) (b ∷ chain)) zero ∙ adjusted-none (b ∷ chain) ∙ sym (ap (λ v. cond v (trimmed_head n b ∷ without_control (n - length b.bytes) chain) (b ∷ chain)) is)

pub head-cut : (n : ℕ) (chain : List Block) → IsChain chain → n ≤ length (control_bytes chain) → adjusted (pos n) chain ≡ without_control n chain
head-cut n chain one has = by (is_control_kind (block_at 0 chain).kind) refl
  where
    by : (v : Bool) → is_control_kind (block_at 0 chain).kind ≡ v → adjusted (pos n) chain ≡ without_control n chain
    by true is = at-front n chain one has (fronted n chain one has (one.parted is) is)
    by false is = none-there n chain is has

-- bytes that are trimmed off the front of a chain are those of its control part first, and then those of its data part
trimmed-both : (n : ℕ) (xs ys : List Block) → trimmed_by trimmed_head n (xs ++ ys) ≡ trimmed_by trimmed_head n xs ++ trimmed_by trimmed_head (n - length (bytes_of xs)) ys
trimmed-both n [] ys = ap (λ m. trimmed_by trimmed_head m ys) (let same : n ≡ n - 0 = omega arith in same)
trimmed-both n (b ∷ xs) ys =
    ap (λ zs. trimmed_head (min n (length b.bytes)) b ∷ zs) (trimmed-both (n - length b.bytes) xs ys)
    ∙ ap (λ m. trimmed_by trimmed_head n (b ∷ xs) ++ trimmed_by trimmed_head m ys) (omega (arith, length-append b.bytes (bytes_of xs)))

data-body : is_body_kind kinds.Data ≡ true
unfolding is_body_kind
data-body = refl

data-trimmed : (n : ℕ) (chain : List Block) → AreData chain → without_data n chain ≡ trimmed_by trimmed_head n chain
data-trimmed n [] all = refl
data-trimmed n (b ∷ chain) all =
    ap (λ v. cond v (trimmed_head n b ∷ without_data (n - length b.bytes) chain) (b ∷ without_data n chain)) (ap is_body_kind all.0 ∙ data-body)
    ∙ ap (λ xs. trimmed_head n b ∷ xs) (data-trimmed (n - length b.bytes) chain all.1)
    ∙ ap (λ xs. record b { bytes = xs } ∷ trimmed_by trimmed_head (n - length b.bytes) chain) (sym (drop-least n (min n (length b.bytes)) b.bytes refl))

data-front : (k : MsgKind) → is_control_kind k ≡ true → (d : ℕ) (front behind : List Block) → OfKind k front → without_data d (front ++ behind) ≡ front ++ without_data d behind
data-front k is d [] behind all = refl
data-front k is d (b ∷ front) behind all =
    ap (λ v. cond v (trimmed_head d b ∷ without_data (d - length b.bytes) (front ++ behind)) (b ∷ without_data d (front ++ behind))) (control-body b.kind (ap is_control_kind all.0 ∙ is))
    ∙ ap (λ xs. b ∷ xs) (data-front k is d front behind all.1)

trimmed-kind : (k : MsgKind) (n : ℕ) (chain : List Block) → OfKind k chain → OfKind k (trimmed_by trimmed_head n chain)
trimmed-kind k n [] all = tt
trimmed-kind k n (b ∷ chain) all = (all.0, trimmed-kind k (n - length b.bytes) chain all.1)

pub front-cut : (n : ℕ) (chain : List Block) → IsChain chain → is_data_kind (block_at 0 chain).kind ≡ true → trimmed_by trimmed_head n chain ≡ without_data (n - length (control_bytes chain)) (without_control n chain)
front-cut n chain one readable = elim (data-or-control (block_at 0 chain).kind readable) [
  | inl is ↦
      (let all = one.all_data is in
      let none : n - length (control_bytes chain) ≡ n = omega (arith, ap (λ (xs : List Block). length (bytes_of xs)) (control-none chain all)) in
      sym (ap (λ m. without_data m (without_control n chain)) none ∙ ap (without_data n) (all-data n chain all) ∙ data-trimmed n chain all))
  | inr is ↦
      (let p = one.parted is in
      let k = (block_at 0 chain).kind in
      let cut = trimmed_by trimmed_head n p.front in
      let size : control_bytes chain ≡ bytes_of p.front = ap bytes_of (ap control_blocks p.joined ∙ control-front k p.front p.behind is p.of_kind p.of_data) in
      ap (trimmed_by trimmed_head n) p.joined ∙ trimmed-both n p.front p.behind
      ∙ ap (λ xs. cut ++ xs) (sym (data-trimmed (n - length (bytes_of p.front)) p.behind p.of_data))
      ∙ sym (data-front k is (n - length (bytes_of p.front)) cut p.behind (trimmed-kind k n p.front p.of_kind))
      ∙ ap (without_data (n - length (bytes_of p.front))) (sym (ap (without_control n) p.joined ∙ cut-front k is n p.front p.behind p.of_kind p.of_data))
      ∙ ap (λ (xs : List ℕ). without_data (n - length xs) (without_control n chain)) (sym size))
]

control-data : (k : MsgKind) → is_control_kind k ≡ true → is_data_kind k ≡ true
unfolding is_control_kind is_data_kind
control-data kinds.Proto is = refl
control-data kinds.Pcproto is = refl
control-data _ is = absurd (cc)

-- the first bytes of such a message are those of its control part
control-first : (chain : List Block) → IsChain chain → is_control_kind (block_at 0 chain).kind ≡ true → bytes_of chain ≡ control_bytes chain ++ data_bytes chain
control-first chain one is = bytes-parts chain one (control-data (block_at 0 chain).kind is)

pub control-given : (n : ℕ) (chain : List Block) (buffer : List ℕ) → IsChain chain → n ≡ length buffer → n ≤ length (control_bytes chain) → filled buffer (bytes_of chain) ≡ take n (control_bytes chain)
control-given n chain buffer one long has = by (is_control_kind (block_at 0 chain).kind) refl
  where
    by : (v : Bool) → is_control_kind (block_at 0 chain).kind ≡ v → filled buffer (bytes_of chain) ≡ take n (control_bytes chain)
    by true is =
        let whole = control-first chain one is in
        let more = ap length whole ∙ length-append (control_bytes chain) (data_bytes chain) in
        ap (λ xs. take (length buffer) (bytes_of chain) ++ xs) (drop_all (length (bytes_of chain)) buffer (omega (arith, more, long, has)))
        ∙ append-nil (take (length buffer) (bytes_of chain))
        ∙ ap (λ m. take m (bytes_of chain)) (sym long)
        ∙ ap (take n) whole
        ∙ take-append-le n (control_bytes chain) (data_bytes chain) has
    by false is = none chain is has
      where
        none : (xs : List Block) → is_control_kind (block_at 0 xs).kind ≡ false → n ≤ length (control_bytes xs) → filled buffer (bytes_of xs) ≡ take n (control_bytes xs)
        none xs other few =
            let empty : control_bytes xs ≡ [] = no-control xs other in
            let zero : length buffer ≡ 0 = omega (arith, long, few, ap length empty) in
            ap (λ b. filled b (bytes_of xs)) (nil_from_length buffer zero) ∙ drop_all (length (bytes_of xs)) [] (omega arith) ∙ sym (ap (take n) empty ∙ take_all n [] (omega arith))
