-- A node that is made behind the others.
use Rattle.std.proofs.Common.{ℕ, zero, suc, ◌≡◌, ◌≤◌, ◌+◌, List, [], ◌∷◌, ◌++◌, length, map, get_or, refl, sym, ap, ◌∙◌, subst, arith}
use Rattle.std.specs.Prelude.{Option, Some, None, replicate, slice_get}
use Rattle.std.proofs.lemmas.List.{length-append, length-replicate}
use denote.RawPtr.{Ptr}
use Rattle.strm_raw.specs.Links.{IsPlace}
use Rattle.strm_raw.specs.Numbered.{Rows, rows, AreLinked, IsRow, IsMsgOrNone, IsData, IsDataOrNone, row_of, data_of, nodes_of, Row, DataRow, no_row, no_data}
use Rattle.strm_raw.specs.declared.msg_nodes.MsgNode.{MsgNode}
use Rattle.strm_raw.specs.declared.msg_nodes.MsgLink.{MsgLink}
use Rattle.strm_raw.specs.declared.data_nodes.DataNode.{DataNode}
use Rattle.strm_raw.specs.declared.data_nodes.DataLink.{DataLink}

-- what counts where nothing lies is there as well once it is written behind the others
pub more-same : {X : Type 0} (xs : List X) (d : X) (i : ℕ) → get_or (xs ++ d ∷ []) i d ≡ get_or xs i d
more-same [] d zero = refl
more-same [] d (suc i) = refl
more-same (x ∷ xs) d zero = refl
more-same (x ∷ xs) d (suc i) = more-same xs d i

pub more-len : {X : Type 0} (xs : List X) (d : X) → length (xs ++ d ∷ []) ≡ length xs + 1
more-len xs d = length-append xs (d ∷ [])

-- what holds of each member and its place, and of one more
each-more : {X : Type 0} (P : ℕ → X → Type 0) (xs : List X) (x : X) → ((i : ℕ) (y : X) → slice_get xs i ≡ Some y → P i y) → P (length xs) x → (i : ℕ) (y : X) → slice_get (xs ++ x ∷ []) i ≡ Some y → P i y
each-more P [] x all p zero y e = let same : x ≡ y = cc in subst (λ w. P 0 w) same p
each-more P [] x all p (suc i) y e = absurd (let no : None ≡ Some y = e in cc)
each-more P (z ∷ xs) x all p zero y e = all 0 y e
each-more P (z ∷ xs) x all p (suc i) y e = each-more (λ k w. P (suc k) w) xs x (λ k w h. all (suc k) w h) p i y e

map-more : {X Y : Type 0} (f : X → Y) (xs : List X) (x : X) → map f (xs ++ x ∷ []) ≡ map f xs ++ f x ∷ []
map-more f [] x = refl
map-more f (z ∷ xs) x = ap (λ ys. f z ∷ ys) (map-more f xs x)

-- a place is one of more nodes too
pub place-more : (s n m : ℕ) (at p : Ptr) → n ≤ m → IsPlace s at p n → IsPlace s at p m
place-more s n m at p le is = (let l = is.0 in omega arith, is.1)

module _ (n m : ℕ) (le : n ≤ m) where
  pub msg-more : (mat : Ptr) (o : Option MsgLink) → IsMsgOrNone mat n o → IsMsgOrNone mat m o
  msg-more mat None h = tt
  msg-more mat (Some l) h = place-more _ n m mat l.at le h

  pub data-more : (dat : Ptr) (o : Option DataLink) → IsDataOrNone dat n o → IsDataOrNone dat m o
  data-more dat None h = tt
  data-more dat (Some k) h = place-more _ n m dat k.at le h

module _ (ms : Rows MsgNode) (ds : Rows DataNode) (is : AreLinked ms ds) where
  -- a message block that names a data block, and is linked to no other
  module _ (n : MsgNode) (number : IsData ds.at (length ds.items) n.number) (next : n.next ≡ None) (ahead : n.ahead ≡ None) (behind : n.behind ≡ None) (name : n.name ≡ length ms.items) where
    pub message-linked : AreLinked (rows ms.at ms.room (ms.items ++ n ∷ [])) ds
    message-linked =
        let len = more-len ms.items n in
        let le : length ms.items ≤ length (ms.items ++ n ∷ []) = omega arith in
        let none : (o : Option MsgLink) → o ≡ None → IsMsgOrNone ms.at (length (ms.items ++ n ∷ [])) o = λ o e. subst (λ (o : Option MsgLink). IsMsgOrNone ms.at (length (ms.items ++ n ∷ [])) o) (sym e) tt in
        record {
          rows = each-more (λ i (m : MsgNode). IsRow ms.at ds.at (length (ms.items ++ n ∷ [])) (length ds.items) m) ms.items n (λ i m e. let had = is.rows i m e in record {
            number = had.number;
            next = msg-more _ _ le ms.at m.next had.next;
            ahead = msg-more _ _ le ms.at m.ahead had.ahead;
            behind = msg-more _ _ le ms.at m.behind had.behind;
          }) (record { number = number; next = none n.next next; ahead = none n.ahead ahead; behind = none n.behind behind });
          named = each-more (λ i (m : MsgNode). m.name ≡ i) ms.items n is.named name;
          datas = is.datas;
          sized = is.sized;
        }

  pub message-value : (n : MsgNode) → row_of ms.at ds.at n ≡ no_row → nodes_of (rows ms.at ms.room (ms.items ++ n ∷ [])) ds ≡ record (nodes_of ms ds) { rows = (nodes_of ms ds).rows ++ no_row ∷ [] }
  message-value n e = ap (λ (rs : List Row). record (nodes_of ms ds) { rows = rs }) (map-more (row_of ms.at ds.at) ms.items n ∙ ap (λ r. (nodes_of ms ds).rows ++ r ∷ []) e)

  abbrev pub first_data : DataNode
  first_data = record { next = None; references = 0; bytes = replicate 256 0 }

  pub data-linked : AreLinked ms (rows ds.at ds.room (ds.items ++ first_data ∷ []))
  data-linked =
      let len = more-len ds.items first_data in
      let le : length ds.items ≤ length (ds.items ++ first_data ∷ []) = omega arith in
      record {
        rows = λ i m e. let had = is.rows i m e in record { number = place-more _ _ _ ds.at m.number.at le had.number; next = had.next; ahead = had.ahead; behind = had.behind };
        named = is.named;
        datas = each-more (λ _ (m : DataNode). IsDataOrNone ds.at (length (ds.items ++ first_data ∷ [])) m.next) ds.items first_data (λ i m e. data-more _ _ le ds.at m.next (is.datas i m e)) tt;
        sized = each-more (λ _ (m : DataNode). length m.bytes ≡ 256) ds.items first_data is.sized (let none : ℕ = 0 in length-replicate 256 none);
      }

  pub data-value : nodes_of ms (rows ds.at ds.room (ds.items ++ first_data ∷ [])) ≡ record (nodes_of ms ds) { datas = (nodes_of ms ds).datas ++ no_data ∷ [] }
  data-value = ap (λ (rs : List DataRow). record (nodes_of ms ds) { datas = rs }) (map-more (data_of ds.at) ds.items first_data)

-- nodes none of which is made
pub none-linked : (ms : Rows MsgNode) (ds : Rows DataNode) → ms.items ≡ [] → ds.items ≡ [] → AreLinked ms ds
none-linked ms ds no_ms no_ds = record {
  rows = λ i n e. absurd (let no : None ≡ Some n = ap (λ xs. slice_get xs i) (sym no_ms) ∙ e in cc);
  named = λ i n e. absurd (let no : None ≡ Some n = ap (λ xs. slice_get xs i) (sym no_ms) ∙ e in cc);
  datas = λ i n e. absurd (let no : None ≡ Some n = ap (λ xs. slice_get xs i) (sym no_ds) ∙ e in cc);
  sized = λ i n e. absurd (let no : None ≡ Some n = ap (λ xs. slice_get xs i) (sym no_ds) ∙ e in cc);
}
