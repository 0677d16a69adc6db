-- An echo that is added to a message run by run.
use Rattle.strm_ldterm.proofs.Prelude.{ℕ, ◌≡◌, ◌≤◌, ◌<◌, ◌+◌, ◌-◌, ◌*◌, List, ◌++◌, length, take, drop, refl, sym, ap, subst, ◌∙◌, arith, length-drop}
use Rattle.strm_ldterm.proofs.Prelude.{take-append-drop, drop-drop, take_all}
use Rattle.strm_ldterm.specs.Prelude.{StoreValue, HasRoom}
use Rattle.std.proofs.Math.Seq.{take-add}
use Rattle.strm_ldterm.specs.Stands.{IsData}
use Rattle.strm_ldterm.specs.Grown.{Grown, Begins}
use Rattle.strm_ldterm.proofs.Grows.{grown-none, grown-both, begins-grown}

-- after so many runs: what was added, and what is left
pub record Grew (s t : StoreValue) (i j : ℕ) (bytes rest : List ℕ) (at : ℕ) : Type 0 where
  pub name : j ≡ i
  pub grown : Grown s t i (take (at * 256) bytes) at
  pub left : rest ≡ drop (at * 256) bytes

pub grew-none : (s : StoreValue) (i : ℕ) (bytes : List ℕ) → IsData s i → Grew s s i i bytes bytes 0
grew-none s i bytes is = record { name = refl; grown = grown-none s i is; left = refl }

pub grew-more : (s t u : StoreValue) (i j k : ℕ) (bytes rest rest' run : List ℕ) (at : ℕ) → Grew s t i j bytes rest at → run ≡ take 256 rest → rest' ≡ drop 256 rest → Grown t u j run 1 → k ≡ j → Grew s u i k bytes rest' (at + 1)
grew-more s t u i j k bytes rest rest' run at was taken more is same =
    let e : at * 256 + 256 ≡ (at + 1) * 256 = omega arith in
    let is' = subst (λ n. Grown t u n run 1) was.name is in
    let both = grown-both s t u i (take (at * 256) bytes) run at 1 was.grown is' in
    let joined : take (at * 256) bytes ++ run ≡ take ((at + 1) * 256) bytes =
    ap (λ xs. take (at * 256) bytes ++ xs) (taken ∙ ap (take 256) was.left) ∙ sym (take-add (at * 256) 256 bytes) ∙ ap (λ n. take n bytes) e in
    record {
      name = same ∙ was.name;
      grown = subst (λ xs. Grown s u i xs (at + 1)) joined both;
      left = more ∙ ap (drop 256) was.left ∙ drop-drop 256 (at * 256) bytes ∙ ap (λ n. drop n bytes) e;
    }

pub grew-room : (s t : StoreValue) (i j : ℕ) (bytes rest : List ℕ) (at runs : ℕ) → Grew s t i j bytes rest at → at < runs → HasRoom s runs → HasRoom t 1
grew-room s t i j bytes rest at runs was within room = record { mblks = (let g = was.grown.mblks in let r = room.mblks in omega arith); dblks = (let g = was.grown.dblks in let r = room.dblks in omega arith) }

pub grew-data : (s t : StoreValue) (i j : ℕ) (bytes rest : List ℕ) (at : ℕ) → Grew s t i j bytes rest at → IsData t j
grew-data s t i j bytes rest at was = subst (IsData t) (sym was.name) was.grown.are

pub grew-all : (s t : StoreValue) (i j : ℕ) (bytes rest : List ℕ) (at runs : ℕ) → Grew s t i j bytes rest at → at ≡ runs → length bytes ≤ runs * 256 → Grown s t i bytes runs
grew-all s t i j bytes rest at runs was end enough =
    subst (λ xs. Grown s t i xs runs) (take_all (runs * 256) bytes enough) (subst (λ n. Grown s t i (take (n * 256) bytes) n) end was.grown)

-- a message that is made of the first run, and grows by the rest
pub begins-rest : (s t u : StoreValue) (i : ℕ) (bytes run rest : List ℕ) (runs : ℕ) → run ≡ take 256 bytes → rest ≡ drop 256 bytes → Begins s t i run 1 → 0 < runs → Grown t u i rest (runs - 1) → Begins s u i bytes runs
begins-rest s t u i bytes run rest runs taken left first some second =
    let both = begins-grown s t u i run rest 1 (runs - 1) first second in
    let whole : run ++ rest ≡ bytes = ap (λ xs. xs ++ rest) taken ∙ ap (λ xs. take 256 bytes ++ xs) left ∙ take-append-drop 256 bytes in
    let n : 1 + (runs - 1) ≡ runs = omega arith in
    subst (λ k. Begins s u i bytes k) n (subst (λ xs. Begins s u i xs (1 + (runs - 1))) whole both)

pub rest-enough : (bytes rest : List ℕ) (runs : ℕ) → rest ≡ drop 256 bytes → 0 < runs → length bytes ≤ runs * 256 → length rest ≤ (runs - 1) * 256
rest-enough bytes rest runs left some enough = let l = ap (λ xs. length xs) left ∙ length-drop 256 bytes in omega arith

pub begins-room : (s t : StoreValue) (i : ℕ) (run : List ℕ) (runs : ℕ) → Begins s t i run 1 → HasRoom s runs → HasRoom t (runs - 1)
begins-room s t i run runs is room = record { mblks = (let b = is.mblks in let r = room.mblks in omega arith); dblks = (let b = is.dblks in let r = room.dblks in omega arith) }

pub begins-first : (s : StoreValue) (runs : ℕ) → 0 < runs → HasRoom s runs → HasRoom s 1
begins-first s runs some room = record { mblks = (let r = room.mblks in omega arith); dblks = (let r = room.dblks in omega arith) }
