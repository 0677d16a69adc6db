-- Messages that move between the hand and a list.
use Rattle.std.proofs.Common.{ℕ, zero, suc, ◌≡◌, ◌≢◌, ◌≤◌, ◌<◌, ◌+◌, eqb, List, [], ◌∷◌, length, get_or, map, refl, sym, ap, ◌∙◌, subst, arith, inl, inr}
use Rattle.std.proofs.Math.ListN.{set, length-set}
use Rattle.std.specs.Prelude.{sum_by, count_by, Option, None, option_map}
use Rattle.std.proofs.lemmas.Bool.{cases_eq}
use Rattle.std.proofs.lemmas.Bool.Decides.{nat_tests}
use Rattle.std.proofs.lemmas.List.{get_or-set_same, get_or-set_other}
use Rattle.std.proofs.lemmas.List.Sums.{sum_by-cons, sum_by-set}
use Rattle.strm_types.specs.declared.limits.TheConstants.{LISTS}
use Rattle.strm_types.specs.Ranked as ranked
use Rattle.strm_blocks.specs.Blocks.{Block, rank_of}
use Rattle.strm_raw.specs.Numbered.{Nodes, Row, row_at, msg_number, IsMsgOrNone}
use Rattle.strm_raw.specs.Roster.{Msg, Roster}
use Rattle.strm_raw.specs.Raw.{weigh, ids, times, chain_of, held_of, block_no, shown, value_of, naming, breaks, broken, IsRaw, next_of, is_there, askew, heads}
use Rattle.strm_raw.specs.Lists.{AreListed, IsList, plain, kept, opened, ends_at, queue_at, no_ends, on, back, ahead_of, behind_of}
use Rattle.strm_raw.specs.declared.neighbours.Ends.{Ends}
use Rattle.strm_raw.specs.declared.neighbours.KeptEnds.{KeptEnds}
use Rattle.strm_raw.specs.declared.msg_nodes.MsgLink.{MsgLink}
use Rattle.strm_raw.specs.declared.data_nodes.DataLink.{DataLink}
use Rattle.strm_raw.proofs.Numbered.{map-set}
use Rattle.strm_raw.proofs.Parting.{heads-few}
use Rattle.strm_raw.proofs.Relinking.{map-ext}
use Rattle.strm_raw.proofs.Tied.{tied-same}
use Rattle.strm_raw.proofs.Kept.{list-kept}

-- what one list has, and what two have, is no more than what all have
module _ (g : List Msg → ℕ) (none : g [] ≡ 0) where
  pub one-queue : (lists : List (List Msg)) (k : ℕ) → g (queue_at k lists) ≤ sum_by g lists
  one-queue [] k = omega (arith, none)
  one-queue (q ∷ lists) zero = omega (arith, sum_by-cons g q lists)
  one-queue (q ∷ lists) (suc k) = let ih = one-queue lists k in omega (arith, sum_by-cons g q lists)

  two-queues : (lists : List (List Msg)) (j k : ℕ) → j ≢ k → g (queue_at j lists) + g (queue_at k lists) ≤ sum_by g lists
  two-queues [] j k other = omega (arith, none)
  two-queues (q ∷ lists) zero zero other = absurd (other refl)
  two-queues (q ∷ lists) zero (suc k) other = let o = one-queue lists k in omega (arith, sum_by-cons g q lists)
  two-queues (q ∷ lists) (suc j) zero other = let o = one-queue lists j in omega (arith, sum_by-cons g q lists)
  two-queues (q ∷ lists) (suc j) (suc k) other = let ih = two-queues lists j k (λ e. other (ap suc e)) in omega (arith, sum_by-cons g q lists)

module _ {v : Nodes} {b : Roster} {first_m : Option MsgLink} {first_d : Option DataLink} {spare_m spare_d : ℕ} (is : IsRaw v first_m first_d spare_m spare_d b) (i : ℕ) where
  abbrev all_times : List Msg → ℕ
  all_times q = sum_by (λ m. times i (ids m)) q

  at-most : sum_by all_times b.lists + all_times b.hand ≤ 1
  at-most = let o = is.owned_m i in grind (arith, nat_tests)

  -- each first block is that of one message
  pub once-queue : (k : ℕ) → heads i (queue_at k b.lists) ≤ 1
  once-queue k = let a = at-most in let f = heads-few i (queue_at k b.lists) in let o = one-queue all_times refl b.lists k in omega arith

  pub once-hand : heads i b.hand ≤ 1
  once-hand = let a = at-most in let f = heads-few i b.hand in omega arith

  pub apart-queues : (j k : ℕ) → j ≢ k → 0 < heads i (queue_at j b.lists) → heads i (queue_at k b.lists) ≡ 0
  apart-queues j k other some = let a = at-most in let f = heads-few i (queue_at k b.lists) in let g = heads-few i (queue_at j b.lists) in let o = two-queues all_times refl b.lists j k other in omega arith

  pub apart-hand : (k : ℕ) → 0 < heads i (queue_at k b.lists) → heads i b.hand ≡ 0
  apart-hand k some = let a = at-most in let f = heads-few i b.hand in let g = heads-few i (queue_at k b.lists) in let o = one-queue all_times refl b.lists k in omega arith

  pub apart-lists : (k : ℕ) → 0 < heads i b.hand → heads i (queue_at k b.lists) ≡ 0
  apart-lists k some = let a = at-most in let f = heads-few i b.hand in let g = heads-few i (queue_at k b.lists) in let o = one-queue all_times refl b.lists k in omega arith

pub queue-value : (v : Nodes) (lists : List (List Msg)) (k : ℕ) → get_or (map (λ q. map (chain_of v) q) lists) k [] ≡ map (chain_of v) (queue_at k lists)
queue-value v [] k = refl
queue-value v (q ∷ lists) zero = refl
queue-value v (q ∷ lists) (suc k) = queue-value v lists k

-- one list and the hand change, and of the nodes their places on lists
module _ {v : Nodes} {ends : List KeptEnds} {b : Roster} {first_m : Option MsgLink} {first_d : Option DataLink} {spare_m spare_d : ℕ} (is : IsRaw v first_m first_d spare_m spare_d b) (listed : AreListed v ends b)
    (k : ℕ) (within : k < LISTS) (rows : List Row) (len : length rows ≡ length v.rows) (same : (i : ℕ) → plain (row_at i rows) ≡ plain (row_at i v.rows)) (q hand : List Msg)
    (all : (f : Msg → ℕ) → sum_by f q + sum_by f hand ≡ sum_by f (queue_at k b.lists) + sum_by f b.hand) where
  abbrev pub moved_nodes : Nodes
  moved_nodes = record v { rows = rows }

  abbrev pub moved_roster : Roster
  moved_roster = record b { lists = set b.lists k q; hand = hand }

  inside : k < length b.lists
  inside = let e = is.eight in omega arith

  weighs : (f : Msg → ℕ) → weigh f (set b.lists k q) hand ≡ weigh f b.lists b.hand
  weighs f = let s = sum_by-set (λ q. sum_by f q) b.lists k q [] inside in let a = all f in omega arith

  next-same : next_of rows ≡ next_of v.rows
  next-same = λ j i. (same i j).next

  abbrev number_of : List Row → ℕ → ℕ
  number_of rows i = (row_at i rows).number

  number-same : number_of rows ≡ number_of v.rows
  number-same = λ j i. (same i j).number

  pub moved-raw : IsRaw moved_nodes first_m first_d spare_m spare_d moved_roster
  moved-raw = record {
    same = is.same;
    same_d = is.same_d;
    eight = length-set b.lists k q ∙ is.eight;
    most_m = is.most_m;
    most_d = is.most_d;
    few_m = rw len is.few_m;
    few_d = is.few_d;
    counted_m = let w = weighs (λ m. length (ids m)) in let c = is.counted_m in omega arith;
    counted_d = is.counted_d;
    owned_m = λ i. (let w = weighs (λ m. times i (ids m)) in let o = is.owned_m i in let n = ap (λ n. is_there i n) len in omega arith);
    owned_d = is.owned_d;
    referenced = λ d. is.referenced d ∙ sym (weighs (naming v.rows d)) ∙ sym (ap (λ (f : ℕ → ℕ). weigh (λ m. count_by (λ i. eqb (f i) d) (ids m)) (set b.lists k q) hand) number-same);
    bounded = is.bounded;
    linked_m = ap (λ (f : ℕ → Option ℕ). breaks f (option_map (msg_number v.mat) first_m) b.free_m) next-same ∙ is.linked_m;
    linked_d = is.linked_d;
    chained = ap (λ (f : ℕ → Option ℕ). weigh (λ m. breaks f (f m.head) m.tail) (set b.lists k q) hand) next-same ∙ weighs (broken v.rows) ∙ is.chained;
    straight = λ i. ap (λ (r : Row). askew r) (same i) ∙ is.straight i;
    count_m = rw len is.count_m;
    count_d = is.count_d;
    there_m = rw len is.there_m;
    there_d = is.there_d;
  }

  pub moved-chains : chain_of moved_nodes ≡ chain_of v
  moved-chains = λ j m. map-ext (block_no moved_nodes) (block_no v) (λ i. ap (λ (r : Row). shown v.datas r) (same i)) (ids m) j

  pub moved-value : value_of moved_nodes moved_roster ≡ record (value_of v b) { lists = set (value_of v b).lists k (map (chain_of v) q); hand = map (held_of v) hand }
  moved-value = λ j. record {
    lists = (ap (λ (f : Msg → List Block). map (λ q. map f q) (set b.lists k q)) moved-chains ∙ map-set (λ q. map (chain_of v) q) b.lists k q) j;
    hand = map (λ (m : Msg). record { name = m.head; chain = moved-chains j m }) hand;
    mblks = v.mblks;
    dblks = v.dblks;
  }

  module _ (e : Ends) (first : IsMsgOrNone v.mat (length v.rows) e.first) (last : IsMsgOrNone v.mat (length v.rows) e.last) (tied : IsList moved_nodes e q) (counted : e.count ≡ length q) (order : ranked.IsOrdered rank_of (map (chain_of v) q))
      (ahead : (i j : ℕ) → j ≢ k → 0 < heads i (queue_at j b.lists) → ahead_of rows i ≡ ahead_of v.rows i) (behind : (i j : ℕ) → j ≢ k → 0 < heads i (queue_at j b.lists) → behind_of rows i ≡ behind_of v.rows i) where
    end-inside : k < length ends
    end-inside = let e = listed.eight in omega arith

    there : (o : Option MsgLink) → IsMsgOrNone v.mat (length v.rows) o → IsMsgOrNone v.mat (length rows) o
    there o h = subst (λ n. IsMsgOrNone v.mat n o) (sym len) h

    -- what holds of each list and its ends
    each : (P : ℕ → Ends → List Msg → Type 0) → P k e q → ((j : ℕ) → j ≢ k → P j (ends_at j ends) (queue_at j b.lists)) → (j : ℕ) → P j (ends_at j (set ends k (kept e))) (queue_at j (set b.lists k q))
    each P here others j = elim (cases_eq j k) [
      | inl s ↦ subst (λ (x : ℕ × Ends × List Msg). P x.0 x.1 x.2) (λ i. (sym s i, sym (ap (λ n. ends_at n (set ends k (kept e))) s ∙ ap opened (get_or-set_same ends k (kept e) (kept no_ends) end-inside) ∙ list-kept moved_nodes e q tied counted) i, sym (ap (λ n. queue_at n (set b.lists k q)) s ∙ get_or-set_same b.lists k q [] inside) i)) here
      | inr other ↦ subst (λ (x : Ends × List Msg). P j x.0 x.1) (λ i. (sym (ap opened (get_or-set_other ends k j (kept e) (kept no_ends) other)) i, sym (get_or-set_other b.lists k j q [] other) i)) (others j other)
    ]

    pub moved-listed : AreListed moved_nodes (set ends k (kept e)) moved_roster
    moved-listed = record {
      eight = length-set ends k (kept e) ∙ listed.eight;
      first = each (λ _ x _. IsMsgOrNone v.mat (length rows) x.first) (there e.first first) (λ j _. there (ends_at j ends).first (listed.first j));
      last = each (λ _ x _. IsMsgOrNone v.mat (length rows) x.last) (there e.last last) (λ j _. there (ends_at j ends).last (listed.last j));
      tied = each (λ _ x y. IsList moved_nodes x y) tied (λ j other. tied-same (on v.mat (ahead_of v.rows) (ends_at j ends)) (back v.mat (behind_of v.rows) (ends_at j ends)) (on v.mat (ahead_of rows) (ends_at j ends)) (back v.mat (behind_of rows) (ends_at j ends)) None (queue_at j b.lists) refl refl (λ i s. ahead i j other s) (λ i s. behind i j other s) (listed.tied j));
      counted = each (λ _ x y. x.count ≡ length y) counted (λ j _. listed.counted j);
      ordered = λ j. subst (λ (x : List (List Block)). ranked.IsOrdered rank_of x) (sym (queue-value moved_nodes (set b.lists k q) j ∙ ap (λ (f : Msg → List Block). map f (queue_at j (set b.lists k q))) moved-chains))
          (each (λ _ _ y. ranked.IsOrdered rank_of (map (chain_of v) y)) order (λ j _. subst (λ (x : List (List Block)). ranked.IsOrdered rank_of x) (queue-value v b.lists j) (listed.ordered j)) j);
    }
