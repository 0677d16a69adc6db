-- Nodes by their numbers, as they are read and written.
use Rattle.std_alloc.specs.Vec.{vec_ptr, vec_capacity, vec_items}
use Rattle.std.proofs.Common.{Vec, Global, ℕ, zero, suc, ◌≡◌, List, [], ◌∷◌, length, map, get_or, refl, sym, ap, ◌∙◌, subst}
use Rattle.std.proofs.Math.ListN.{set, length-set}
use Rattle.std.specs.Prelude.{Some, slice_get}
use Rattle.std.proofs.lemmas.List.{length-map}
use Rattle.strm_raw.specs.Numbered.{Rows, rows}
use Rattle.strm_raw.specs.Numbered.{AreLinked, IsRow, IsDataOrNone, row_of, data_of, nodes_of, with_row, with_data, Row, DataRow, row_at, no_row}
use Rattle.strm_raw.specs.declared.msg_nodes.MsgNode.{MsgNode}
use Rattle.strm_raw.specs.declared.data_nodes.DataNode.{DataNode}

module _ {X Y : Type 0} (f : X → Y) where
  pub map-at : (xs : List X) (i : ℕ) (x : X) (y : Y) → slice_get xs i ≡ Some x → get_or (map f xs) i y ≡ f x
  map-at [] i x y e = cc
  map-at (z ∷ xs) zero x y e = let same : z ≡ x = cc in ap f same
  map-at (z ∷ xs) (suc i) x y e = map-at xs i x y e

  pub map-set : (xs : List X) (i : ℕ) (x : X) → map f (set xs i x) ≡ set (map f xs) i (f x)
  map-set [] i x = refl
  map-set (z ∷ xs) zero x = refl
  map-set (z ∷ xs) (suc i) x = ap (λ ys. f z ∷ ys) (map-set xs i x)

module _ {X : Type 0} (P : X → Type 0) where
  -- what holds of each member and of another one holds once that stands in a place
  pub set-each : (xs : List X) (i : ℕ) (x : X) → ((j : ℕ) (y : X) → slice_get xs j ≡ Some y → P y) → P x → (j : ℕ) (y : X) → slice_get (set xs i x) j ≡ Some y → P y
  set-each [] i x all p j y e = all j y e
  set-each (z ∷ xs) zero x all p zero y e = let same : x ≡ y = cc in subst P same p
  set-each (z ∷ xs) zero x all p (suc j) y e = all (suc j) y e
  set-each (z ∷ xs) (suc i) x all p zero y e = all 0 y e
  set-each (z ∷ xs) (suc i) x all p (suc j) y e = set-each xs i x (λ k w h. all (suc k) w h) p j y e

-- the same where what holds of a member is of its place too
set-placed : {X : Type 0} (P : ℕ → X → Type 0) (xs : List X) (i : ℕ) (x : X) → ((j : ℕ) (y : X) → slice_get xs j ≡ Some y → P j y) → P i x → (j : ℕ) (y : X) → slice_get (set xs i x) j ≡ Some y → P j y
set-placed P [] i x all p j y e = all j y e
set-placed P (z ∷ xs) zero x all p zero y e = let same : x ≡ y = cc in subst (λ w. P 0 w) same p
set-placed P (z ∷ xs) zero x all p (suc j) y e = all (suc j) y e
set-placed P (z ∷ xs) (suc i) x all p zero y e = all 0 y e
set-placed P (z ∷ xs) (suc i) x all p (suc j) y e = set-placed (λ k w. P (suc k) w) xs i x (λ k w h. all (suc k) w h) p j y e

-- each node keeps its own number where one is written that has its own
named-kept : (ms : List MsgNode) (i : ℕ) (n : MsgNode) → n.name ≡ i → ((j : ℕ) (m : MsgNode) → slice_get ms j ≡ Some m → m.name ≡ j) → (j : ℕ) (m : MsgNode) → slice_get (set ms i n) j ≡ Some m → m.name ≡ j
named-kept ms i n name all = set-placed (λ j (m : MsgNode). m.name ≡ j) ms i n all name

-- the nodes of a kind, as they lie in their block
abbrev pub msgs_of : Vec MsgNode Global → Rows MsgNode
msgs_of v = rows (vec_ptr v) (vec_capacity v) (vec_items v)

abbrev pub datas_of : Vec DataNode Global → Rows DataNode
datas_of v = rows (vec_ptr v) (vec_capacity v) (vec_items v)

module _ (ms : Rows MsgNode) (ds : Rows DataNode) (is : AreLinked ms ds) where
  pub msgs-len : length (nodes_of ms ds).rows ≡ length ms.items
  msgs-len = length-map ms.items (row_of ms.at ds.at)

  pub datas-len : length (nodes_of ms ds).datas ≡ length ds.items
  datas-len = length-map ds.items (data_of ds.at)

  pub row-set : (i : ℕ) (n : MsgNode) → IsRow ms.at ds.at (length ms.items) (length ds.items) n → n.name ≡ i → AreLinked (rows ms.at ms.room (set ms.items i n)) ds
  row-set i n ok name =
      let len = length-set ms.items i n in
      record {
        rows = set-each (IsRow ms.at ds.at (length (set ms.items i n)) (length ds.items)) ms.items i n (λ j m e. subst (λ k. IsRow ms.at ds.at k (length ds.items) m) (sym len) (is.rows j m e)) (subst (λ k. IsRow ms.at ds.at k (length ds.items) n) (sym len) ok);
        named = named-kept ms.items i n name is.named;
        datas = is.datas;
        sized = is.sized;
      }

  pub row-set-value : (i : ℕ) (n : MsgNode) → nodes_of (rows ms.at ms.room (set ms.items i n)) ds ≡ with_row i (row_of ms.at ds.at n) (nodes_of ms ds)
  row-set-value i n = ap (λ (rs : List Row). record (nodes_of ms ds) { rows = rs }) (map-set (row_of ms.at ds.at) ms.items i n)

  -- another node in the place of the one that lies there, with its name
  module _ (i : ℕ) (old : MsgNode) (there : slice_get ms.items i ≡ Some old) (n : MsgNode) (name : n.name ≡ old.name) where
    pub was : IsRow ms.at ds.at (length ms.items) (length ds.items) old
    was = is.rows i old there

    pub row-kept : IsRow ms.at ds.at (length ms.items) (length ds.items) n → AreLinked (rows ms.at ms.room (set ms.items i n)) ds
    row-kept ok = row-set i n ok (name ∙ is.named i old there)

    pub row-edited : (f : Row → Row) → row_of ms.at ds.at n ≡ f (row_of ms.at ds.at old) → nodes_of (rows ms.at ms.room (set ms.items i n)) ds ≡ with_row i (f (row_at i (nodes_of ms ds).rows)) (nodes_of ms ds)
    row-edited f edits = row-set-value i n ∙ ap (λ r. with_row i r (nodes_of ms ds)) (edits ∙ ap f (sym (map-at (row_of ms.at ds.at) ms.items i old no_row there)))

  pub data-set : (i : ℕ) (n : DataNode) → IsDataOrNone ds.at (length ds.items) n.next → length n.bytes ≡ 256 → AreLinked ms (rows ds.at ds.room (set ds.items i n))
  data-set i n ok sized =
      let len = length-set ds.items i n in
      record {
        rows = λ j m e. subst (λ k. IsRow ms.at ds.at (length ms.items) k m) (sym len) (is.rows j m e);
        named = is.named;
        datas = set-each (λ (m : DataNode). IsDataOrNone ds.at (length (set ds.items i n)) m.next) ds.items i n (λ j m e. subst (λ k. IsDataOrNone ds.at k m.next) (sym len) (is.datas j m e)) (subst (λ k. IsDataOrNone ds.at k n.next) (sym len) ok);
        sized = set-each (λ (m : DataNode). length m.bytes ≡ 256) ds.items i n is.sized sized;
      }

  pub data-set-value : (i : ℕ) (n : DataNode) → nodes_of ms (rows ds.at ds.room (set ds.items i n)) ≡ with_data i (data_of ds.at n) (nodes_of ms ds)
  data-set-value i n = ap (λ (rs : List DataRow). record (nodes_of ms ds) { datas = rs }) (map-set (data_of ds.at) ds.items i n)
