-- A visitor that is told of the blocks of a message, and of the messages of a list, as links lead to them.
use Rattle.std.proofs.Common.{ℕ, ◌≡◌, ◌≤◌, ◌<◌, ◌-◌, Bool, true, false, cond, List, [], ◌∷◌, ◌++◌, length, map, refl, sym, ap, ◌∙◌, subst, arith}
use Rattle.std.specs.Prelude.{Option, Some, None, option_map, sum_by, slice_range}
use Rattle.std.proofs.lemmas.List.{append_assoc}
use Rattle.std.proofs.lemmas.List.Sums.{sum_by-cons}
use Rattle.strm_blocks.specs.Blocks.{Block}
use Rattle.strm_blocks.specs.Outcomes.{SeenBlock, seen_in, seen_on, told}
use Rattle.strm_blocks.proofs.Visits.{told-on, told-last}
use Rattle.strm_raw.specs.Numbered.{Nodes, Row, DataRow, IsMsg, IsMsgOrNone, msg_number, data_number, row_at, data_at, row_of, data_of}
use Rattle.strm_raw.specs.Roster.{Msg, Roster}
use Rattle.strm_raw.specs.Raw.{IsChain, IsRaw, next_of, breaks, block_no, shown, chain_of, ids, broken}
use Rattle.strm_raw.specs.Lists.{AreWhole, IsList, ahead_of, begin_of, queue_at}
use Rattle.strm_raw.specs.declared.neighbours.Ends.{Ends}
use Rattle.strm_raw.specs.declared.msg_nodes.MsgLink.{MsgLink}
use Rattle.strm_raw.specs.declared.msg_nodes.MsgNode.{MsgNode}
use Rattle.strm_raw.specs.declared.data_nodes.DataLink.{DataLink}
use Rattle.strm_raw.specs.declared.data_nodes.DataNode.{DataNode}
use Rattle.strm_raw.proofs.Apart.{gap-self}
use Rattle.strm_raw.proofs.Moved.{one-queue}
use Rattle.strm_raw.proofs.Placing.{messages-few}
use Rattle.strm_raw.proofs.Standing.{empty}
use Rattle.strm_raw.proofs.Tied.{a-first, list-ahead, list-begin, no-first}
use Rattle.strm_raw.proofs.Walks.{Walked, split, none-behind, stands-next, walk-begins, walk-within, walk-last, walk-steps}

-- what a visitor is told of a block
abbrev pub seen_as : Bool → Block → SeenBlock
seen_as first b = record { first = first; kind = b.kind; band = b.band; bytes = b.bytes }

-- a block as the two nodes have it
pub seen-node : (v : Nodes) (leads : Bool) (i : ℕ) (node : MsgNode) (shows : DataNode) → row_of v.mat v.dat node ≡ row_at i v.rows → data_of v.dat shows ≡ data_at (data_number v.dat node.number) v.datas
    → record { first = leads; kind = node.kind; band = node.band; bytes = slice_range shows.bytes node.start node.end } ≡ seen_as leads (block_no v i)
seen-node v leads i node shows row datum =
    ap (λ (d : DataRow). record { first = leads; kind = node.kind; band = node.band; bytes = slice_range d.bytes node.start node.end }) datum
    ∙ ap (λ (r : Row). seen_as leads (shown v.datas r)) row

-- each message of a list is a chain
module _ (rows : List Row) (m : Msg) (q : List Msg) (whole : AreWhole rows (m ∷ q)) where
  chain-whole : IsChain rows m.head (ids m)
  unfolding breaks
  chain-whole = let c = whole.chained in let s = sum_by-cons (broken rows) m q in let g = gap-self (Some m.head) in omega arith

  few-whole : length (ids m) ≤ length rows
  few-whole = let f = whole.few in let s = sum_by-cons (λ (m : Msg). length (ids m)) m q in omega arith

  rest-whole : AreWhole rows q
  rest-whole = record {
    chained = let c = whole.chained in let s = sum_by-cons (broken rows) m q in omega arith;
    few = let f = whole.few in let s = sum_by-cons (λ (m : Msg). length (ids m)) m q in omega arith;
  }

-- the lists of a store are of whole chains
pub queue-whole : {v : Nodes} {b : Roster} {first_m : Option MsgLink} {first_d : Option DataLink} {spare_m spare_d : ℕ} → IsRaw v first_m first_d spare_m spare_d b → (k : ℕ) → AreWhole v.rows (queue_at k b.lists)
queue-whole {v = v} {b = b} is k = record {
  chained = let c = is.chained in let o = one-queue (λ q. sum_by (broken v.rows) q) refl b.lists k in omega arith;
  few = let c = is.counted_m in let o = one-queue (λ q. sum_by (λ m. length (ids m)) q) refl b.lists k in omega arith;
}

module _ {V : Type 0} (after : V → SeenBlock → V) (goes_on : V → Bool) where
  -- to tell one visitor of all comes to the same as to tell another one of what is left
  abbrev pub Alike : V → V → List SeenBlock → List SeenBlock → Type 0
  Alike v0 v all rest = (more : List SeenBlock) → told after goes_on v0 (all ++ more) ≡ told after goes_on v (rest ++ more)

  -- a walk along a chain, and what the visitor has still to be told of
  pub record Telling (v : Nodes) (first link : MsgLink) (leads : Bool) (left : ℕ) (v0 w : V) : Type 0 where
    pub walk : Walked v first link (length v.rows) left
    pub same : (is : List ℕ) (c : IsChain v.rows (msg_number v.mat first) is) → Alike v0 w (seen_in true (map (block_no v) is)) (seen_in leads (map (block_no v) (walk.stands is c).rest))

  pub tells-begin : {v : Nodes} {first : MsgLink} {v0 : V} → IsMsg v.mat (length v.rows) first → (n : ℕ) → n ≡ length v.rows → Telling v first first true n v0 v0
  unfolding walk-begins
  tells-begin {v = v} there n all = record { walk = walk-begins n (length v.rows) all there; same = λ is c more. refl }

  -- a walk comes to the end of a chain before it has used up its steps
  pub tells-past : {v : Nodes} {first link : MsgLink} {leads : Bool} {left : ℕ} {v0 w : V} → Telling v first link leads left v0 w → left ≤ 0
      → (is : List ℕ) → IsChain v.rows (msg_number v.mat first) is → length is ≤ length v.rows → ⊥
  tells-past t zero is c few = let n = walk-within t.walk is c in absurd (omega arith)

  module _ {v : Nodes} {first link : MsgLink} {leads : Bool} {left : ℕ} {v0 w w' : V} (t : Telling v first link leads left v0 w)
      (is_told : w' ≡ after w (seen_as leads (block_no v (msg_number v.mat link)))) where
    begins : (is : List ℕ) (c : IsChain v.rows (msg_number v.mat first) is) (more : List SeenBlock) → told after goes_on v0 (seen_in true (map (block_no v) is) ++ more)
        ≡ told after goes_on w (seen_as leads (block_no v (msg_number v.mat link)) ∷ (seen_in false (map (block_no v) (split (t.walk.stands is c)).0) ++ more))
    begins is c more = t.same is c more ∙ ap (λ r. told after goes_on w (seen_in leads (map (block_no v) r) ++ more)) (split (t.walk.stands is c)).1.0

    -- a visitor that wants no more was told of all that it wanted
    pub tells-last : goes_on w' ≡ false → (is : List ℕ) → IsChain v.rows (msg_number v.mat first) is → (more : List SeenBlock) → told after goes_on v0 (seen_in true (map (block_no v) is) ++ more) ≡ w'
    tells-last off is c more = begins is c more ∙ told-last after goes_on w w' _ is_told _ off

    module _ (goes : 0 < left) {o : Option MsgLink} (row : option_map (msg_number v.mat) o ≡ next_of v.rows (msg_number v.mat link)) where
      -- where no link leads on, it was told of the whole message
      pub tells-all : goes_on w' ≡ true → o ≡ None → (is : List ℕ) → IsChain v.rows (msg_number v.mat first) is → (more : List SeenBlock) → told after goes_on v0 (seen_in true (map (block_no v) is) ++ more) ≡ told after goes_on w' more
      tells-all on none is c more =
          begins is c more ∙ told-on after goes_on w w' _ is_told _ on
          ∙ ap (λ r. told after goes_on w' (seen_in false (map (block_no v) r) ++ more)) (none-behind (t.walk.stands is c) (walk-last t.walk goes row none))

      -- where one does, it wants to be told of the next block
      pub tells-step : goes_on w' ≡ true → (next : MsgLink) → o ≡ Some next → IsMsgOrNone v.mat (length v.rows) o → Telling v first next false (left - 1) v0 w'
      unfolding walk-steps stands-next
      tells-step on next some there = record {
        walk = walk-steps t.walk goes row next some there;
        same = λ is c more. begins is c more ∙ told-on after goes_on w w' _ is_told _ on;
      }

-- the messages of a list that are left
module _ {V : Type 0} (after : V → SeenBlock → V) (goes_on : V → Bool) (v : Nodes) (ends : Ends) (v0 : V) where
  pub record LeftOn (at : Option MsgLink) (left : ℕ) (w : V) (q : List Msg) : Type 0 where
    pub front : List Msg
    pub rest : List Msg
    pub joined : q ≡ front ++ rest
    pub place : option_map (msg_number v.mat) at ≡ begin_of rest
    pub whole : AreWhole v.rows rest
    pub short : length rest ≤ left
    pub same : told after goes_on v0 (seen_on (map (chain_of v) q)) ≡ told after goes_on w (seen_on (map (chain_of v) rest))

  pub record TellingOn (at : Option MsgLink) (left : ℕ) (w : V) : Type 0 where
    pub there : IsMsgOrNone v.mat (length v.rows) at
    pub told_of : (q : List Msg) → IsList v ends q → AreWhole v.rows q → LeftOn at left w q

  pub list-begins : IsMsgOrNone v.mat (length v.rows) ends.first → (n : ℕ) → n ≡ length v.rows → TellingOn ends.first n v0
  list-begins there n all = record {
    there = there;
    told_of = λ q t whole. record {
      front = [];
      rest = q;
      joined = refl;
      place = list-begin v ends q t;
      whole = whole;
      short = let f = messages-few q in let g = whole.few in omega arith;
      same = refl;
    };
  }

  -- where no message is left, the visitor was told of all
  nothing-left : (at : Option MsgLink) (left : ℕ) (w : V) (q : List Msg) (l : LeftOn at left w q) → l.rest ≡ [] → w ≡ told after goes_on v0 (seen_on (map (chain_of v) q))
  nothing-left at left w q l none = sym (l.same ∙ ap (λ r. told after goes_on w (seen_on (map (chain_of v) r))) none)

  pub list-ends : (at : Option MsgLink) (left : ℕ) (w : V) → TellingOn at left w → at ≡ None
      → (q : List Msg) → IsList v ends q → AreWhole v.rows q → w ≡ told after goes_on v0 (seen_on (map (chain_of v) q))
  list-ends at left w t none q tied whole =
      let l = t.told_of q tied whole in
      nothing-left at left w q l (no-first l.rest (sym l.place ∙ ap (λ o. option_map (msg_number v.mat) o) none))

  pub list-past : (at : Option MsgLink) (left : ℕ) (w : V) → TellingOn at left w → left ≤ 0
      → (q : List Msg) → IsList v ends q → AreWhole v.rows q → w ≡ told after goes_on v0 (seen_on (map (chain_of v) q))
  list-past at left w t zero q tied whole =
      let l = t.told_of q tied whole in let s = l.short in
      nothing-left at left w q l (empty l.rest (omega arith))

  module _ (at : Option MsgLink) (left : ℕ) (w w' : V) (t : TellingOn at left w) (link : MsgLink) (some : at ≡ Some link) (wants : Bool)
      (tells : (is : List ℕ) → IsChain v.rows (msg_number v.mat link) is → length is ≤ length v.rows → (more : List SeenBlock)
      → told after goes_on w (seen_in true (map (block_no v) is) ++ more) ≡ cond wants (told after goes_on w' more) w') where
    module _ (q : List Msg) (tied : IsList v ends q) (whole : AreWhole v.rows q) where
      here : LeftOn at left w q
      here = t.told_of q tied whole

      one : (m : Msg) × ((ys : List Msg) × ((here.rest ≡ m ∷ ys) × (m.head ≡ msg_number v.mat link)))
      one = a-first here.rest (msg_number v.mat link) (sym here.place ∙ ap (λ o. option_map (msg_number v.mat) o) some)

      whole-one : AreWhole v.rows (one.0 ∷ one.1.0)
      whole-one = subst (λ r. AreWhole v.rows r) one.1.1.0 here.whole

      tells-one : told after goes_on v0 (seen_on (map (chain_of v) q)) ≡ cond wants (told after goes_on w' (seen_on (map (chain_of v) one.1.0))) w'
      tells-one =
          let m = one.0 in
          here.same ∙ ap (λ r. told after goes_on w (seen_on (map (chain_of v) r))) one.1.1.0
          ∙ tells (ids m) (subst (λ i. IsChain v.rows i (ids m)) one.1.1.1 (chain-whole v.rows m one.1.0 whole-one)) (few-whole v.rows m one.1.0 whole-one) (seen_on (map (chain_of v) one.1.0))

    -- a visitor that wants no more was told of all that it wanted
    pub list-stops : wants ≡ false → (q : List Msg) → IsList v ends q → AreWhole v.rows q → w' ≡ told after goes_on v0 (seen_on (map (chain_of v) q))
    list-stops off q tied whole = sym (tells-one q tied whole ∙ ap (λ b. cond b (told after goes_on w' (seen_on (map (chain_of v) (one q tied whole).1.0))) w') off)

    pub list-steps : wants ≡ true → (next : Option MsgLink) → option_map (msg_number v.mat) next ≡ ahead_of v.rows (msg_number v.mat link) → IsMsgOrNone v.mat (length v.rows) next → TellingOn next (left - 1) w'
    list-steps on next row there = record {
      there = there;
      told_of = λ q tied whole. (
          let l = here q tied whole in
          let o = one q tied whole in
          let joined = l.joined ∙ ap (λ ys. l.front ++ ys) o.1.1.0 in
          record {
            front = l.front ++ o.0 ∷ [];
            rest = o.1.0;
            joined = joined ∙ sym (append_assoc l.front (o.0 ∷ []) o.1.0);
            place = row ∙ ap (λ i. ahead_of v.rows i) (sym o.1.1.1) ∙ list-ahead v ends l.front o.0 o.1.0 (subst (λ (q : List Msg). IsList v ends q) joined tied);
            whole = rest-whole v.rows o.0 o.1.0 (whole-one q tied whole);
            short = let s = l.short in let n = ap length o.1.1.0 in omega arith;
            same = tells-one q tied whole ∙ ap (λ b. cond b (told after goes_on w' (seen_on (map (chain_of v) o.1.0))) w') on;
          });
    }
