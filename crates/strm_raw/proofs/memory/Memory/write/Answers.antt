use Rattle.std.proofs.Common.{ℕ, ◌≡◌, ◌≤◌, ◌+◌, ◌-◌, ◌++◌, take, drop, length, sym, ap, ◌∙◌, List, arith}
use Rattle.std.proofs.lemmas.List.{length-append, length-take-le, length-drop, drop-drop}
use Rattle.strm_raw.specs.Numbered.{Nodes, with_data, data_of, data_number, data_at, no_data, DataRow, nodes_of}
use Rattle.strm_raw.proofs.Numbered.{msgs_of, datas_of, data-set, data-set-value, map-at}
use Rattle.strm_raw.proofs.memory.Memory.write.Goals as goal

mixed-is : (old new bytes : List ℕ) (from : ℕ) → new ≡ bytes → take from old ++ (new ++ drop (from + length bytes - from) (drop from old)) ≡ take from old ++ (bytes ++ drop (from + length bytes) old)
mixed-is old new bytes from e =
    let k : from + length bytes - from ≡ length bytes = omega arith in
    (λ j. take from old ++ (e j ++ drop (k j) (drop from old))) ∙ ap (λ xs. take from old ++ (bytes ++ xs)) (drop-drop (length bytes) from old)

mixed-len : (old bytes : List ℕ) (from : ℕ) → length old ≡ 256 → from + length bytes ≤ 256 → length (take from old ++ (bytes ++ drop (from + length bytes) old)) ≡ 256
mixed-len old bytes from len room =
    let a = length-append (take from old) (bytes ++ drop (from + length bytes) old) in
    let b = length-append bytes (drop (from + length bytes) old) in
    let t = length-take-le from old (omega arith) in
    let d = length-drop (from + length bytes) old in omega arith

pub invariant_of-self : goal.invariant_of-self
invariant_of-self c =
    let ms = msgs_of c.self.inside.msgs in let ds = datas_of c.self.inside.datas in let is = c.self.invariant in
    let old = c.reach_mut-node.result.now.bytes in
    let sized = is.sized _ _ c.reach_mut-node.ensures.value in
    data-set ms ds is _ _ (is.datas _ _ c.reach_mut-node.ensures.value)
    (ap length (mixed-is old c.copy_from_slice.new.self c.args.bytes.now c.args.from c.copy_from_slice.ensures.after) ∙ mixed-len old c.args.bytes.now c.args.from sized c.requires.room)

pub returns : goal.returns
returns c =
    let ms = msgs_of c.self.inside.msgs in let ds = datas_of c.self.inside.datas in let is = c.self.invariant in
    let i = data_number ds.at c.args.at in
    let old = c.reach_mut-node.result.now in
    let bytes = mixed-is old.bytes c.copy_from_slice.new.self c.args.bytes.now c.args.from c.copy_from_slice.ensures.after in
    let before = map-at (data_of ds.at) ds.items i old no_data c.reach_mut-node.ensures.value in
    data-set-value ms ds is i (record old { bytes = _ })
    ∙ ap (λ (xs : List ℕ). with_data i (record (data_of ds.at old) { bytes = xs }) (nodes_of ms ds)) bytes
    ∙ ap (λ (r : DataRow). with_data i (record r { bytes = take c.args.from r.bytes ++ (c.args.bytes.now ++ drop (c.args.from + length c.args.bytes.now) r.bytes) }) (nodes_of ms ds)) (sym before)
    ∙ ap (λ (v : Nodes). let i = data_number v.dat c.args.at in with_data i (record (data_at i v.datas) { bytes = take c.args.from (data_at i v.datas).bytes ++ (c.args.bytes.now ++ drop (c.args.from + length c.args.bytes.now) (data_at i v.datas).bytes) }) v) c.self.view_is
