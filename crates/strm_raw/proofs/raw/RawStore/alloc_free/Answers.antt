use Rattle.std.proofs.Common.{ℕ, ◌≡◌, ◌<◌, ◌+◌, ◌-◌, ◌++◌, List, [], ◌∷◌, drop, take, refl, sym, ap, ◌∙◌, subst, arith, length, inl, inr}
use Rattle.std.proofs.lemmas.Bool.Decides.{nat_tests}
use Rattle.std.proofs.Math.ListN.{set, length-set}
use Rattle.std.proofs.lemmas.List.{get_or-set_same}
use Rattle.std.specs.Prelude.{None, slice_range}
use Rattle.strm_blocks.specs.Blocks.{StoreValue, held, copy_of, filled_block}
use Rattle.strm_blocks.specs.Outcomes.{Copied}
use Rattle.strm_raw.specs.Numbered.{Nodes, Row, DataRow, row_of, row_at, showing, data_at, no_data, with_row, with_data, msg_number, data_number, IsDataOrNone}
use Rattle.strm_raw.specs.declared.msg_nodes.MsgNode.{MsgNode}
use Rattle.strm_raw.specs.declared.msg_nodes.Shows.{Shows}
use Rattle.strm_raw.specs.Raw.{askew}
use Rattle.strm_raw.proofs.Standing.{free_m-value, free_d-value}
use Rattle.strm_raw.proofs.Supplying.{room-m, room-d, gives-m, gives-d}
use Rattle.strm_raw.proofs.Becoming.{Becomes, becomes-as}
use Rattle.strm_raw.proofs.Stocking.{shown-kept}
use Rattle.strm_raw.specs.Wiped.{AreWiped}
use Rattle.strm_raw.proofs.Wiping.{wiped-named, wiped-given}
use Rattle.strm_raw.proofs.Taking as taking
use Rattle.strm_raw.proofs.Writing as writing
use Rattle.strm_raw.proofs.raw.RawStore.alloc_free.Goals as goal
use Rattle.strm_raw.proofs.raw.RawStore.alloc_free.Goals.{After-note}

pub returns-then-self-eq0 : goal.returns-then-self-eq0
returns-then-self-eq0 c =
    let t = c.self.inside in
    rw (← c.self.view_is) (record { none = inl (free_m-value t.memory t.ledger.roster c.self.invariant.raw ∙ c.if-self-eq0.true); same = refl })

pub returns-then-self-eq0-2 : goal.returns-then-self-eq0-2
returns-then-self-eq0-2 c =
    let t = c.self.inside in
    rw (← c.self.view_is) (record { none = inr (free_d-value t.memory t.ledger.roster c.self.invariant.raw ∙ c.if-self-eq0-2.true); same = refl })

pub free_data-number-requires-clause-room : goal.free_data-number-requires-clause-room
free_data-number-requires-clause-room c none = room-d c.self.invariant.raw none (let f = c.if-self-eq0-2.false in grind (arith, nat_tests))

pub free_message-at-requires-clause-room : goal.free_message-at-requires-clause-room
free_message-at-requires-clause-room c none =
    let some_m : 0 < c.self.inside.spare_m = let f = c.if-self-eq0.false in grind (arith, nat_tests) in
    let some_d : 0 < c.self.inside.spare_d = let f = c.if-self-eq0-2.false in grind (arith, nat_tests) in
    let made = gives-d (record { raw = c.self.invariant.raw; listed = c.self.invariant.listed; value = c.self.view_is }) some_d c.free_data-number.ensures.given in
    room-m made.raw none some_m

-- the new message, beside the store that was
done : (c : After-note) → let t = c.self.inside in let v = c.free_message-at.new.memory in let s = c.args.self.now in let i = msg_number v.mat c.free_message-at.result in let x = filled_block c.args.kind c.args.band.0 c.args.bytes.now in
    let after = held s i (copy_of (data_number v.dat c.free_data-number.result) x ∷ []) in
    Becomes c.write.new.self t.ends c.note.new.self.roster c.message-free.result.next c.datum.result.now.next (t.spare_m - 1) (t.spare_d - 1) after × Copied s after i x
done c =
    let some_m : 0 < c.self.inside.spare_m = let f = c.if-self-eq0.false in grind (arith, nat_tests) in
    let some_d : 0 < c.self.inside.spare_d = let f = c.if-self-eq0-2.false in grind (arith, nat_tests) in
    let t = c.self.inside in let v = c.free_message-at.new.memory in let b = c.free_message-at.new.ledger.roster in
    let ready = gives-m (gives-d (record { raw = c.self.invariant.raw; listed = c.self.invariant.listed; value = c.self.view_is }) some_d c.free_data-number.ensures.given) some_m c.free_message-at.ensures.given in
    let is0 = ready.raw in let at = c.free_message-at.result in let k = c.free_data-number.result in let d = data_number v.dat k in
    let within = taking.place-d is0 k refl in let none = (taking.alone-d is0 k refl).1 in
    let old = (data_at d v.datas).bytes in let filled = c.args.bytes.now ++ drop (0 + length c.args.bytes.now) old in
    let is = writing.written-raw is0 d within filled in let V = writing.written is0 d within filled in
    let node : MsgNode = record c.message-free.result { kind = c.args.kind; band = c.args.band.0; number = k; start = 0; end = length c.args.bytes.now; next = None } in
    let then : Nodes → Nodes = λ w. with_data (data_number w.dat k) (record (data_at (data_number w.dat k) w.datas) { references = 1 }) w in
    let shows : Shows = record { kind = c.args.kind; band = c.args.band.0; number = k; start = 0; end = length c.args.bytes.now } in
    let written : Nodes → Nodes = λ w. with_row (msg_number w.mat at) (showing w.dat shows (row_at (msg_number w.mat at) w.rows)) w in
    let fill : List ℕ → List ℕ = λ xs. take 0 xs ++ (c.args.bytes.now ++ drop (0 + length c.args.bytes.now) xs) in
    let fills : Nodes → Nodes = λ w. with_data (data_number w.dat k) (record (data_at (data_number w.dat k) w.datas) { bytes = fill (data_at (data_number w.dat k) w.datas).bytes }) w in
    let memory = c.write.ensures ∙ ap (λ (w : Nodes). fills w) c.show.ensures ∙ ap (λ (w : Nodes). fills (written w)) c.set_references.ensures
    ∙ ap (λ (w : Nodes). with_row (msg_number v.mat at) (showing v.dat shows (row_at (msg_number v.mat at) v.rows)) w) (writing.written-last is0 d within filled fill refl 1)
    ∙ ap (λ (r : Row). with_row (msg_number v.mat at) (showing v.dat shows r) (then V)) (sym c.message-free.ensures.row) in
    let x : DataRow = record (data_at d V.datas) { references = 1 } in
    let next_is = ap (λ (r : DataRow). r.next) c.datum.ensures.row ∙ sym (writing.data-kept is0 d within filled (λ (r : DataRow). r.next) refl d) in
    let len : length V.datas ≡ length v.datas = length-set v.datas d _ in
    let link = subst (λ n. IsDataOrNone v.dat n c.datum.result.now.next) (sym len) c.datum.ensures.link in
    let refers = taking.refers-first is k refl x refl refl c.datum.result.now.next next_is link in
    let straight : askew (row_of v.mat v.dat node) ≡ 0 = omega (arith, c.requires) in
    let row_next = ap (λ (r : Row). r.next) c.message-free.ensures.row in
    let old_is = writing.written-value is0 d within filled none ∙ ready.value in
    let kept = shown-kept V.datas _ refers.stock.bytes (row_of v.mat v.dat node) in
    let here = ap (λ (r : DataRow). r.bytes) (get_or-set_same v.datas d _ no_data within) in
    let bytes : slice_range (data_at d V.datas).bytes 0 (length c.args.bytes.now) ≡ c.args.bytes.now = ap (λ xs. slice_range xs 0 (length c.args.bytes.now)) here ∙ writing.front-bytes c.args.bytes.now _ in
    let block = kept ∙ ap (λ (xs : List ℕ). record { kind = c.args.kind; band = c.args.band.0; number = d; bytes = xs; room = 256 - length c.args.bytes.now }) bytes in (
      becomes-as
          (taking.added-becomes is at refl (row_of v.mat v.dat node) refl straight c.message-free.result.next row_next c.message-free.ensures.links.next _ _ _ _ refers v.datas ready.listed (ap (λ (s : StoreValue). s.lists) (writing.written-value is0 d within filled none)) _ _ memory c.note.ensures (ap (λ (r : Row). r.ahead) c.message-free.ensures.row) (ap (λ (r : Row). r.behind) c.message-free.ensures.row))
          (λ q. held (old_is q) (msg_number v.mat at) (block q ∷ [])),
      subst (λ (s : StoreValue). Copied s (held s (msg_number v.mat at) (copy_of d (filled_block c.args.kind c.args.band.0 c.args.bytes.now) ∷ [])) (msg_number v.mat at) (filled_block c.args.kind c.args.band.0 c.args.bytes.now)) old_is (record {
        number = d;
        room_m = taking.added-room is at refl (row_of v.mat v.dat node) refl straight c.message-free.result.next row_next c.message-free.ensures.links.next _ _ _ _ refers;
        room_d = taking.room-d is k refl x refl refl c.datum.result.now.next next_is link;
        fresh_name = taking.added-fresh is at refl (row_of v.mat v.dat node) refl straight c.message-free.result.next row_next c.message-free.ensures.links.next _ _ _ _ refers;
        exists = let inside = taking.place-d is k refl in let made = is.few_d in omega arith;
        fresh_number = taking.fresh-number is k refl x refl refl c.datum.result.now.next next_is link;
        after = refl;
      }),
    )

-- the bytes stand in a data block with a reference
clean : (c : After-note) → AreWiped c.write.new.self.datas
clean c =
    let v = c.free_message-at.new.memory in let at = c.free_message-at.result in let k = c.free_data-number.result in let d = data_number v.dat k in
    let beside = c.free_message-at.ensures.beside in
    let within : d < length v.datas = subst (λ (w : Nodes). data_number w.dat k < length w.datas) (sym beside) c.free_data-number.ensures.there.0 in
    let was = subst AreWiped (sym (ap (λ (w : Nodes). w.datas) beside)) (wiped-given _ _ _ _ _ _ c.self.invariant.wiped c.free_data-number.ensures.given) in
    let y : DataRow = record (data_at d v.datas) { references = 1 } in
    let fill : List ℕ → List ℕ = λ xs. take 0 xs ++ (c.args.bytes.now ++ drop (0 + length c.args.bytes.now) xs) in
    let fills : Nodes → Nodes = λ w. with_data (data_number w.dat k) (record (data_at (data_number w.dat k) w.datas) { bytes = fill (data_at (data_number w.dat k) w.datas).bytes }) w in
    let shows : Shows = record { kind = c.args.kind; band = c.args.band.0; number = k; start = 0; end = length c.args.bytes.now } in
    let written : Nodes → Nodes = λ w. with_row (msg_number w.mat at) (showing w.dat shows (row_at (msg_number w.mat at) w.rows)) w in
    let memory = c.write.ensures ∙ ap (λ (w : Nodes). fills w) c.show.ensures ∙ ap (λ (w : Nodes). fills (written w)) c.set_references.ensures in
    let one = ap (λ (r : DataRow). r.references) (get_or-set_same v.datas d y no_data within) in
    subst AreWiped (sym (ap (λ (w : Nodes). w.datas) memory)) (wiped-named (set v.datas d y) d _ (wiped-named v.datas d y was (omega arith)) (omega arith))

pub invariant_of-self : goal.invariant_of-self
invariant_of-self c = let a = (goal.at.invariant_of-self c).After-note in let d = (done a).0 in record { raw = d.raw; wiped = clean a; listed = d.listed }

pub returns : goal.returns
returns c =
    let d = done (goal.at.returns c).After-note in
    subst (λ (x : StoreValue × ℕ). Copied c.args.self.now x.0 x.1 (filled_block c.args.kind c.args.band.0 c.args.bytes.now)) (λ q. (sym d.0.value q, sym (c.of.ensures ∙ c.message-free.ensures.name) q)) d.1
