-- The data blocks of a store, where one of them has other references.
use Rattle.std.proofs.Common.{ℕ, zero, suc, ◌≡◌, ◌≢◌, ◌<◌, ◌+◌, ◌-◌, cond, eqb, List, [], ◌∷◌, length, sym, ap, ◌∙◌, refl, subst, arith, inl, inr}
use Rattle.std.proofs.Math.ListN.{set, length-set}
use Rattle.std.specs.Prelude.{count_by, Option, option_map, slice_range}
use Rattle.std.proofs.lemmas.Bool.Decides.{nat_tests}
use Rattle.std.proofs.lemmas.Bool.{cases_eq}
use Rattle.std.proofs.lemmas.List.{get_or-set_same, get_or-set_other}
use Rattle.std.proofs.lemmas.List.Sums.{sum_by-set}
use Rattle.strm_raw.specs.Numbered.{Nodes, Row, DataRow, data_at, no_data, data_number, IsDataOrNone}
use Rattle.strm_raw.specs.Roster.{Roster}
use Rattle.strm_raw.specs.Raw.{shown, breaks, times, IsRaw, free_after, is_there, is_named}
use Rattle.strm_raw.specs.declared.msg_nodes.MsgLink.{MsgLink}
use Rattle.strm_raw.specs.declared.data_nodes.DataLink.{DataLink}
use Rattle.strm_raw.proofs.Apart.{breaks-apart}

-- another data row with the same bytes
pub bytes-kept : (datas : List DataRow) (d : ℕ) (x : DataRow) → x.bytes ≡ (data_at d datas).bytes → (e : ℕ) → (data_at e (set datas d x)).bytes ≡ (data_at e datas).bytes
bytes-kept [] d x same e = refl
bytes-kept (y ∷ datas) zero x same zero = same
bytes-kept (y ∷ datas) zero x same (suc e) = refl
bytes-kept (y ∷ datas) (suc d) x same zero = refl
bytes-kept (y ∷ datas) (suc d) x same (suc e) = bytes-kept datas d x same e

pub shown-kept : (datas datas' : List DataRow) → ((e : ℕ) → (data_at e datas').bytes ≡ (data_at e datas).bytes) → (r : Row) → shown datas' r ≡ shown datas r
shown-kept datas datas' same r = ap (λ (bytes : List ℕ). record { kind = r.kind; band = r.band; number = r.number; bytes = slice_range bytes r.start r.end; room = 256 - r.end }) (same r.number)

-- 1 for a data block that is named
abbrev pub named : DataRow → ℕ
named r = cond (eqb r.references 0) 0 1

-- the data blocks with the same bytes, where those that no message block names are free
pub record Stocked (v : Nodes) (datas : List DataRow) (first_d : Option DataLink) (spare_d : ℕ) (free_d : List ℕ) : Type 0 where
  pub len : length datas ≡ length v.datas
  pub bytes : (e : ℕ) → (data_at e datas).bytes ≡ (data_at e v.datas).bytes
  pub counted : length free_d ≡ count_by (λ (r : DataRow). eqb r.references 0) datas
  pub owned : (e : ℕ) → times e free_d + is_named e datas ≡ is_there e (length datas)
  pub linked : breaks (free_after datas) (option_map (data_number v.dat) first_d) free_d ≡ 0
  pub count : spare_d + length datas ≡ length free_d + v.dblks
  pub there : IsDataOrNone v.dat (length datas) first_d

module _ {v : Nodes} {b : Roster} {first_m : Option MsgLink} {first_d : Option DataLink} {spare_m spare_d : ℕ} (is : IsRaw v first_m first_d spare_m spare_d b)
    (d : ℕ) (within : d < length v.datas) (x : DataRow) (same : x.bytes ≡ (data_at d v.datas).bytes) where
  abbrev datas : List DataRow
  datas = set v.datas d x

  abbrev old : DataRow
  old = data_at d v.datas

  pub datum-new : data_at d datas ≡ x
  datum-new = get_or-set_same v.datas d x no_data within

  datum-old : (e : ℕ) → e ≢ d → data_at e datas ≡ data_at e v.datas
  datum-old e other = get_or-set_other v.datas d e x no_data other

  pub references-at : (e : ℕ) → (data_at e datas).references ≡ cond (eqb d e) x.references (data_at e v.datas).references
  references-at e = elim (cases_eq e d) [
    | inl i ↦ (let a = ap (λ j. (data_at j datas).references) i ∙ ap (λ (r : DataRow). r.references) datum-new in grind (arith, nat_tests))
    | inr n ↦ (let a = ap (λ (r : DataRow). r.references) (datum-old e n) in grind (arith, nat_tests))
  ]

  -- the links of the others
  pub free-kept : (from : Option ℕ) (xs : List ℕ) → times d xs ≡ 0 → breaks (free_after datas) from xs ≡ breaks (free_after v.datas) from xs
  free-kept from xs out = breaks-apart d (free_after v.datas) (free_after datas) (λ e n. ap (λ (r : DataRow). r.next) (datum-old e n)) from xs out

  -- where the free ones are the same but for this one
  pub stocked : (p q : ℕ) → named x ≡ p → named old ≡ q → (first' : Option DataLink) (spare' : ℕ) (free : List ℕ) → times d free + p ≡ times d b.free_d + q → ((e : ℕ) → e ≢ d → times e free ≡ times e b.free_d) → length free + p ≡ length b.free_d + q
      → breaks (free_after datas) (option_map (data_number v.dat) first') free ≡ 0 → spare' + length v.datas ≡ length free + v.dblks → IsDataOrNone v.dat (length v.datas) first' → Stocked v datas first' spare' free
  stocked p q x_is old_is first' spare' free here others long linked count there =
      let len = length-set v.datas d x in
      let now : times d free + is_named d datas ≡ is_there d (length datas) = (let o = is.owned_d d in let n = ap (λ (r : DataRow). named r) datum-new in let l = ap (λ n. is_there d n) len in omega arith) in
      record {
        len = len;
        bytes = bytes-kept v.datas d x same;
        counted =
            let s = sum_by-set (λ (r : DataRow). cond (eqb r.references 0) 1 0) v.datas d x no_data within in
            let one : cond {A = ℕ} (eqb x.references 0) 1 0 + named x ≡ 1 = grind (arith, nat_tests) in
            let was : cond {A = ℕ} (eqb old.references 0) 1 0 + named old ≡ 1 = grind (arith, nat_tests) in
            let c = is.counted_d in omega arith;
        owned = λ e. elim (cases_eq e d) [
          | inl h ↦ subst (λ j. times j free + is_named j datas ≡ is_there j (length datas)) (sym h) now
          | inr n ↦ (let o = is.owned_d e in let s = others e n in let k = ap (λ (r : DataRow). named r) (datum-old e n) in let l = ap (λ n. is_there e n) len in omega arith)
        ];
        linked = linked;
        count = rw len count;
        there = rw len there;
      }
