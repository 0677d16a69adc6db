-- Bytes that are written into a data block.
use Rattle.std.proofs.Common.{ℕ, ◌≡◌, ◌≢◌, ◌<◌, ◌-◌, cond, eqb, List, ◌++◌, length, refl, sym, ap, ◌∙◌, arith, inl, inr}
use Rattle.std.proofs.Math.ListN.{set, length-set, take}
use Rattle.std.proofs.Math.Seq.{take-append_seam}
use Rattle.std.specs.Prelude.{Option, option_map, slice_range}
use Rattle.std.proofs.lemmas.Bool.Decides.{nat_tests}
use Rattle.std.proofs.lemmas.Bool.{cases_eq}
use Rattle.std.proofs.lemmas.List.{get_or-set_same, get_or-set_other, set-set}
use Rattle.std.proofs.lemmas.List.Sums.{sum_by-set}
use Rattle.strm_blocks.specs.Blocks.{Block}
use Rattle.strm_raw.specs.Numbered.{Nodes, DataRow, row_at, data_at, no_data, data_number, with_data}
use Rattle.strm_raw.specs.Roster.{Msg, Roster}
use Rattle.strm_raw.specs.Raw.{ids, chain_of, held_of, block_no, value_of, naming, breaks, IsRaw, is_there}
use Rattle.strm_raw.specs.declared.msg_nodes.MsgLink.{MsgLink}
use Rattle.strm_raw.specs.declared.data_nodes.DataLink.{DataLink}
use Rattle.strm_raw.proofs.Apart.{hand-apart, lists-apart, map-none}

-- the bytes at the front
pub front-bytes : (xs ys : List ℕ) → slice_range (xs ++ ys) 0 (length xs) ≡ xs
front-bytes xs ys = (let e : length xs - 0 ≡ length xs = omega arith in ap (λ n. take n (xs ++ ys)) e ∙ take-append_seam xs ys)

module _ {v : Nodes} {b : Roster} {first_m : Option MsgLink} {first_d : Option DataLink} {spare_m spare_d : ℕ} (is : IsRaw v first_m first_d spare_m spare_d b)
    (d : ℕ) (within : d < length v.datas) (bytes : List ℕ) where
  abbrev x : DataRow
  x = record (data_at d v.datas) { bytes = bytes }

  abbrev pub written : Nodes
  written = with_data d x v

  pub data-kept : {Y : Type 0} (f : DataRow → Y) → f x ≡ f (data_at d v.datas) → (e : ℕ) → f (data_at e (set v.datas d x)) ≡ f (data_at e v.datas)
  data-kept f same e = elim (cases_eq e d) [
    | inl i ↦ ap (λ j. f (data_at j (set v.datas d x))) i ∙ ap f (get_or-set_same v.datas d x no_data within) ∙ same ∙ ap (λ j. f (data_at j v.datas)) (sym i)
    | inr other ↦ ap f (get_or-set_other v.datas d e x no_data other)
  ]

  -- references that are set first, and bytes behind them, are set the other way round
  pub written-last : (fill : List ℕ → List ℕ) → fill (data_at d v.datas).bytes ≡ bytes → (n : ℕ) → let y : DataRow = record (data_at d v.datas) { references = n } in let w = with_data d y v in
      with_data d (record (data_at d w.datas) { bytes = fill (data_at d w.datas).bytes }) w ≡ with_data d (record (data_at d written.datas) { references = n }) written
  written-last fill e n =
      let y : DataRow = record (data_at d v.datas) { references = n } in let z : DataRow = record (data_at d v.datas) { references = n; bytes = bytes } in
      ap (λ (q : DataRow). with_data d (record q { bytes = fill q.bytes }) (with_data d y v)) (get_or-set_same v.datas d y no_data within)
      ∙ ap (λ (xs : List ℕ). with_data d (record y { bytes = xs }) (with_data d y v)) e
      ∙ ap (λ (xs : List DataRow). record v { datas = xs }) (set-set v.datas d y z ∙ sym (set-set v.datas d x z))
      ∙ ap (λ (q : DataRow). with_data d (record q { references = n }) written) (sym (get_or-set_same v.datas d x no_data within))

  pub written-raw : IsRaw written first_m first_d spare_m spare_d b
  written-raw =
      let len = length-set v.datas d x in
      record {
        same = is.same;
        same_d = is.same_d;
        eight = is.eight;
        most_m = is.most_m;
        most_d = is.most_d;
        few_m = is.few_m;
        few_d = rw len is.few_d;
        counted_m = is.counted_m;
        counted_d = let s = sum_by-set (λ (r : DataRow). cond (eqb r.references 0) 1 0) v.datas d x no_data within in let c = is.counted_d in omega arith;
        owned_m = is.owned_m;
        owned_d = λ e. (let o = is.owned_d e in let k = data-kept (λ (r : DataRow). cond {A = ℕ} (eqb r.references 0) 0 1) refl e in let l = ap (λ n. is_there e n) len in omega arith);
        referenced = λ e. data-kept (λ (r : DataRow). r.references) refl e ∙ is.referenced e;
        bounded = λ e. (let k = data-kept (λ (r : DataRow). r.references) refl e in let o = is.bounded e in omega arith);
        linked_m = is.linked_m;
        linked_d = ap (λ next. breaks next (option_map (data_number v.dat) first_d) b.free_d) (λ k e. data-kept (λ (r : DataRow). r.next) refl e k) ∙ is.linked_d;
        chained = is.chained;
        straight = is.straight;
        count_m = is.count_m;
        count_d = rw len is.count_d;
        there_m = is.there_m;
        there_d = rw len is.there_d;
      }

  pub block-kept : (j : ℕ) → (row_at j v.rows).number ≢ d → block_no written j ≡ block_no v j
  block-kept j other =
      ap (λ (r : DataRow). record { kind = (row_at j v.rows).kind; band = (row_at j v.rows).band; number = (row_at j v.rows).number; bytes = slice_range r.bytes (row_at j v.rows).start (row_at j v.rows).end; room = 256 - (row_at j v.rows).end })
      (get_or-set_other v.datas d (row_at j v.rows).number x no_data other)

  pub unnamed : (j : ℕ) → cond {A = ℕ} (eqb (row_at j v.rows).number d) 1 0 ≡ 0 → (row_at j v.rows).number ≢ d
  unnamed j z = grind (arith, nat_tests)

  -- where no message block names it
  module _ (none : (data_at d v.datas).references ≡ 0) where
    chain-kept : (m : Msg) → naming v.rows d m ≡ 0 → chain_of written m ≡ chain_of v m
    chain-kept m z = map-none (λ j. cond (eqb (row_at j v.rows).number d) 1 0) (block_no written) (block_no v) (λ j z. block-kept j (unnamed j z)) (ids m) z

    held-kept : (m : Msg) → naming v.rows d m ≡ 0 → held_of written m ≡ held_of v m
    held-kept m z = ap (λ (c : List Block). record { name = m.head; chain = c }) (chain-kept m z)

    pub written-value : value_of written b ≡ value_of v b
    written-value =
        let z = sym (is.referenced d) ∙ none in
        λ k. record {
          lists = lists-apart (naming v.rows d) (chain_of written) (chain_of v) chain-kept b.lists (omega arith) k;
          hand = hand-apart (naming v.rows d) (held_of written) (held_of v) held-kept b.hand (omega arith) k;
          mblks = v.mblks;
          dblks = v.dblks;
        }
