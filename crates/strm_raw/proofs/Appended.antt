-- Bytes that are written behind a block, where it alone names its data block.
use Rattle.std.proofs.Common.{ℕ, ◌≡◌, ◌≢◌, ◌≤◌, ◌<◌, ◌+◌, ◌-◌, Bool, true, false, cond, eqb, ltb, min, List, ◌++◌, length, get_or, take, drop, refl, sym, ap, ◌∙◌, subst, arith}
use Rattle.std.specs.Prelude.{Option, slice_range}
use Rattle.std.proofs.lemmas.Bool.Decides.{nat_tests}
use Rattle.std.proofs.lemmas.List.{get_or-set_same, get_or-set_other}
use Rattle.strm_blocks.specs.Blocks.{Block, StoreValue, in_hand, block_at, changed, with_block, written, references}
use Rattle.strm_blocks.proofs.Shown.{shown-written}
use Rattle.strm_raw.specs.Numbered.{Nodes, Row, DataRow, row_at, data_at, no_row, no_data, msg_number, with_row, with_data}
use Rattle.strm_raw.specs.Roster.{Roster}
use Rattle.strm_raw.specs.Raw.{ids, block_no, shown, value_of, IsRaw, IsHere, askew}
use Rattle.strm_raw.specs.Lists.{AreListed}
use Rattle.strm_raw.specs.declared.neighbours.KeptEnds.{KeptEnds}
use Rattle.strm_raw.specs.declared.msg_nodes.MsgLink.{MsgLink}
use Rattle.strm_raw.specs.declared.data_nodes.DataLink.{DataLink}
use Rattle.strm_raw.proofs.Finding.{found, found-named}
use Rattle.strm_raw.proofs.Standing.{stored}
use Rattle.strm_raw.proofs.Edited.{row-raw, block, block-there, one-changed, inside, link-is, block-is}
use Rattle.strm_raw.proofs.Becoming.{Becomes, row-becomes}
use Rattle.strm_raw.proofs.Writing as writing

module _ {v : Nodes} {b : Roster} {first_m : Option MsgLink} {first_d : Option DataLink} {spare_m spare_d : ℕ} (is : IsRaw v first_m first_d spare_m spare_d b)
    {s : StoreValue} (view : value_of v b ≡ s) (l : MsgLink) (here : IsHere v b l) {n : ℕ} (name : msg_number v.mat l ≡ n) (at : ℕ) (within : at < length (in_hand s n))
    (link : MsgLink) (number : at < length (ids (found is l here)) → msg_number v.mat link ≡ get_or (ids (found is l here)) at 0)
    (r : Row) (row : r ≡ row_at (msg_number v.mat link) v.rows) where
  abbrev d : ℕ
  d = r.number

  abbrev t : ℕ
  t = block is l here at (inside is view l here name at within link number)

  row-is : r ≡ row_at t v.rows
  row-is = row ∙ ap (λ k. row_at k v.rows) (link-is is view l here name at within link number)

  shows : block_at at (in_hand s n) ≡ shown v.datas r
  shows = block-is is view l here name at within link number ∙ ap (λ (x : Row). shown v.datas x) (sym row)

  counted : references s (block_at at (in_hand s n)).number ≡ (data_at d v.datas).references
  counted = (λ j. references (sym view j) (shows j).number) ∙ stored v b is d

  -- a message block names it
  pub named : 0 < (data_at d v.datas).references
  named = subst (λ k. 0 < (data_at k v.datas).references) (sym (ap (λ (y : Row). y.number) row-is)) (found-named is l here at (inside is view l here name at within link number))

  -- how many bytes the block takes
  pub taken-none : 1 < (data_at d v.datas).references → (m : ℕ) → 0 ≡ cond (ltb 1 (references s (block_at at (in_hand s n)).number)) 0 (min m (block_at at (in_hand s n)).room)
  taken-none more m =
      let c = counted in let test : ltb 1 (references s (block_at at (in_hand s n)).number) ≡ true = grind (arith, nat_tests) in
      sym (ap (λ (u : Bool). cond u 0 (min m (block_at at (in_hand s n)).room)) test)

  pub taken-some : (data_at d v.datas).references ≤ 1 → (m : ℕ) → min m (256 - r.end) ≡ cond (ltb 1 (references s (block_at at (in_hand s n)).number)) 0 (min m (block_at at (in_hand s n)).room)
  taken-some few m =
      let c = counted in let test : ltb 1 (references s (block_at at (in_hand s n)).number) ≡ false = grind (arith, nat_tests) in
      sym (ap (λ (u : Bool). cond u 0 (min m (block_at at (in_hand s n)).room)) test ∙ ap (λ (x : Block). min m x.room) shows)

  module _ (there : d < length v.datas) (few : (data_at d v.datas).references ≤ 1) (sized : length (data_at d v.datas).bytes ≡ 256) (new : List ℕ) (k : ℕ) (len : k ≡ length new) (room : r.end + k ≤ 256)
      (v' : Nodes) (after : v' ≡ with_row (msg_number v.mat link) (record r { end = r.end + k }) (with_data d (record (data_at d v.datas) { bytes = take r.end (data_at d v.datas).bytes ++ (new ++ drop (r.end + length new) (data_at d v.datas).bytes) }) v)) where
    abbrev bytes : List ℕ
    bytes = take r.end (data_at d v.datas).bytes ++ (new ++ drop (r.end + length new) (data_at d v.datas).bytes)

    abbrev v1 : Nodes
    v1 = writing.written is d there bytes

    abbrev x : Row
    x = record r { end = r.end + k }

    abbrev v2 : Nodes
    v2 = with_row t x v1

    t-there : t < length v.rows
    t-there = block-there is l here at (inside is view l here name at within link number)

    v2-is : v' ≡ v2
    v2-is = after ∙ ap (λ j. with_row j x v1) (link-is is view l here name at within link number)

    straight : askew r ≡ 0
    straight = ap (λ (y : Row). askew y) row ∙ is.straight (msg_number v.mat link)

    block-other : (j : ℕ) → cond {A = ℕ} (eqb (row_at j v.rows).number d) 1 0 ≡ 0 → block_no v2 j ≡ block_no v j
    block-other j z =
        let apart : j ≢ t = λ e. writing.unnamed is d there bytes j z (ap (λ i. (row_at i v.rows).number) e ∙ ap (λ (y : Row). y.number) (sym row-is)) in
        ap (λ (y : Row). shown v1.datas y) (get_or-set_other v.rows t j x no_row apart) ∙ writing.block-kept is d there bytes j (writing.unnamed is d there bytes j z)

    block-new : block_no v2 t ≡ written new (shown v.datas r)
    block-new =
        let o = straight in
        let left : 256 - (r.end + k) ≡ 256 - r.end - length new = omega arith in
        let front = ap (λ (y : DataRow). slice_range y.bytes r.start (r.end + k)) (get_or-set_same v.datas d _ no_data there)
        ∙ ap (λ i. slice_range bytes r.start (r.end + i)) len
        ∙ shown-written (data_at d v.datas).bytes new (drop (r.end + length new) (data_at d v.datas).bytes) r.start r.end (omega arith) (omega arith) in
        ap (λ (y : Row). shown v1.datas y) (get_or-set_same v.rows t x no_row t-there)
        ∙ (λ j. record (shown v.datas r) { bytes = front j; room = left j })

    pub appended : {ends : List KeptEnds} → AreListed v ends b → Becomes v' ends b first_m first_d spare_m spare_d (changed s n (with_block at (written new (block_at at (in_hand s n))) (in_hand s n)))
    appended listed =
        let c = is.referenced d in
        let hits : 0 < cond {A = ℕ} (eqb (row_at t v.rows).number d) 1 0 = (let e = ap (λ (y : Row). y.number) row-is in grind (arith, nat_tests)) in
        let raw = row-raw (writing.written-raw is d there bytes) t t-there x (ap (λ (y : Row). y.next) row-is) (ap (λ (y : Row). y.number) row-is) (let o = straight in omega arith) in
        row-becomes listed _ _ _ _ v2-is refl raw refl t t-there x (ap (λ (y : Row). y.ahead) row-is) (ap (λ (y : Row). y.behind) row-is) refl refl _
        (one-changed is l here at (inside is view l here name at within link number) (λ j. cond (eqb (row_at j v.rows).number d) 1 0) hits (omega arith) v2 refl refl block-other
        ∙ (λ j. changed (view j) (name j) (with_block at ((block-new ∙ ap (λ (y : Block). written new y) (sym shows)) j) (in_hand (view j) (name j)))))
        (sym (ap (λ (z : StoreValue). z.lists) view))
