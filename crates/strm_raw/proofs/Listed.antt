-- What is written into a message block leaves the lists as they are where it keeps both its neighbours.
use Rattle.std.proofs.Common.{ℕ, zero, suc, ◌≡◌, ◌<◌, List, [], length, get_or, map, refl, sym, ap, ◌∙◌, subst}
use Rattle.std.proofs.Math.ListN.{set, length-set}
use Rattle.std.specs.Prelude.{Option, None, replicate}
use Rattle.strm_types.specs.declared.limits.TheConstants.{LISTS}
use denote.RawPtr.{Ptr}
use Rattle.strm_types.specs.Ranked as ranked
use Rattle.strm_blocks.specs.Blocks.{Block, StoreValue, rank_of, list_at}
use Rattle.strm_raw.specs.Numbered.{Nodes, Row, row_at, IsMsgOrNone}
use Rattle.strm_raw.specs.Roster.{Msg, Roster}
use Rattle.strm_raw.specs.Raw.{value_of, chain_of}
use Rattle.strm_raw.specs.Lists.{AreListed, IsList, IsTied, kept, no_ends, opened, on, back, ahead_of, behind_of, ends_at, queue_at}
use Rattle.strm_raw.specs.declared.neighbours.Ends.{Ends}
use Rattle.strm_raw.specs.declared.neighbours.KeptEnds.{KeptEnds}
use Rattle.strm_raw.specs.declared.msg_nodes.MsgLink.{MsgLink}
use Rattle.strm_raw.proofs.Relinking.{row-keeps}

module _ {v : Nodes} {ends : List KeptEnds} {b : Roster} (is : AreListed v ends b) (v' : Nodes) (b' : Roster)
    (mat : v'.mat ≡ v.mat) (i : ℕ) (within : i < length v.rows) (r : Row) (ahead : r.ahead ≡ (row_at i v.rows).ahead) (behind : r.behind ≡ (row_at i v.rows).behind)
    (rows : v'.rows ≡ set v.rows i r) (lists : b'.lists ≡ b.lists) (s : StoreValue) (value : value_of v' b' ≡ s) (same : s.lists ≡ (value_of v b).lists) where
  ahead-same : ahead_of v'.rows ≡ ahead_of v.rows
  ahead-same = ap ahead_of rows ∙ (λ j k. row-keeps (λ (x : Row). x.ahead) v.rows i r within ahead k j)

  behind-same : behind_of v'.rows ≡ behind_of v.rows
  behind-same = ap behind_of rows ∙ (λ j k. row-keeps (λ (x : Row). x.behind) v.rows i r within behind k j)

  len : length v'.rows ≡ length v.rows
  len = ap length rows ∙ length-set v.rows i r

  there : (o : Option MsgLink) → IsMsgOrNone v.mat (length v.rows) o → IsMsgOrNone v'.mat (length v'.rows) o
  there o h = subst (λ (x : Ptr × ℕ). IsMsgOrNone x.0 x.1 o) (λ j. (sym mat j, sym len j)) h

  pub kept-listed : AreListed v' ends b'
  kept-listed = record {
    eight = is.eight;
    first = λ k. there _ (is.first k);
    last = λ k. there _ (is.last k);
    tied = λ k. subst (λ (x : Ptr × (ℕ → Option ℕ) × (ℕ → Option ℕ) × List (List Msg)). IsTied (on x.0 x.1 (ends_at k ends)) (back x.0 x.2 (ends_at k ends)) None (queue_at k x.3))
        (λ j. (sym mat j, sym ahead-same j, sym behind-same j, sym lists j)) (is.tied k);
    counted = λ k. is.counted k ∙ ap (λ lists. length (queue_at k lists)) (sym lists);
    ordered = λ k. subst (λ (lists : List (List (List Block))). ranked.IsOrdered rank_of (get_or lists k [])) (sym (ap (λ (s : StoreValue). s.lists) value ∙ same)) (is.ordered k);
  }

-- lists with nothing on them
module _ {A : Type 0} (x : A) where
  pub each-same : (n k : ℕ) → get_or (replicate n x) k x ≡ x
  each-same zero k = refl
  each-same (suc n) zero = refl
  each-same (suc n) (suc k) = each-same n k

none-linked : (v : Nodes) → IsList v no_ends []
none-linked v = (refl, refl)

pub listed-none : (v : Nodes) (b : Roster) → b.lists ≡ replicate LISTS [] → AreListed v (replicate LISTS (kept no_ends)) b
listed-none v b lists =
    let ends : (k : ℕ) → ends_at k (replicate LISTS (kept no_ends)) ≡ no_ends = λ k. ap opened (each-same (kept no_ends) LISTS k) in
    let none : List Msg = [] in
    let queues : (k : ℕ) → queue_at k b.lists ≡ [] = λ k. ap (queue_at k) lists ∙ each-same none LISTS k in
    let chains : List (List Block) = [] in
    let values : (k : ℕ) → list_at (value_of v b) k ≡ [] = λ k. ap (λ (ls : List (List Msg)). get_or (map (λ q. map (chain_of v) q) ls) k []) lists ∙ each-same chains LISTS k in
    record {
      eight = refl;
      first = λ k. subst (λ (e : Ends). IsMsgOrNone v.mat (length v.rows) e.first) (sym (ends k)) tt;
      last = λ k. subst (λ (e : Ends). IsMsgOrNone v.mat (length v.rows) e.last) (sym (ends k)) tt;
      tied = λ k. subst (λ (x : Ends × List Msg). IsList v x.0 x.1) (λ j. (sym (ends k) j, sym (queues k) j)) (none-linked v);
      counted = λ k. ap (λ (e : Ends). e.count) (ends k) ∙ ap (λ (q : List Msg). length q) (sym (queues k));
      ordered = λ k. subst (λ (q : List (List Block)). ranked.IsOrdered rank_of q) (sym (values k)) tt;
    }
