-- What a message leaves of a store that is put on a list at the place of its rank.
use Rattle.std.proofs.Common.{ℕ, ◌≡◌, ◌≤◌, ◌<◌, List, ◌++◌, length, map, refl, sym, ap, ◌∙◌, subst, arith}
use Rattle.std.proofs.Math.ListN.{set}
use Rattle.std.specs.Prelude.{Option, None, option_map, unwrap_or}
use Rattle.strm_types.specs.declared.limits.TheConstants.{LISTS}
use Rattle.strm_types.specs.Ranked as ranked
use Rattle.strm_blocks.specs.Blocks.{Block, rank_of, list_at, in_hand, dropped, placed}
use Rattle.strm_raw.specs.Numbered.{Nodes, msg_number, IsMsgOrNone}
use Rattle.strm_raw.specs.Roster.{Msg, Roster}
use Rattle.strm_raw.specs.Raw.{chain_of, value_of, IsRaw, IsHere, msg_in}
use Rattle.strm_raw.specs.Lists.{AreListed, IsList, Seats, along, kept, pick, begin_of, end_of, ends_at, queue_at, seated}
use Rattle.strm_raw.specs.Places.{rank_at, RanksAt, place_in, put_by}
use Rattle.strm_raw.specs.declared.neighbours.Course.{Course}
use Rattle.strm_raw.specs.declared.neighbours.Course.TheVariants.{On, Back}
use Rattle.strm_raw.specs.declared.neighbours.Ends.{Ends}
use Rattle.strm_raw.specs.declared.neighbours.KeptEnds.{KeptEnds}
use Rattle.strm_raw.specs.declared.msg_nodes.MsgLink.{MsgLink}
use Rattle.strm_raw.specs.declared.data_nodes.DataLink.{DataLink}
use Rattle.strm_raw.proofs.Becoming.{Becomes}
use Rattle.strm_raw.proofs.Finding.{found-head, found-chain}
use Rattle.strm_raw.proofs.Tied.{list-on, list-back}
use Rattle.strm_raw.proofs.Moved.{queue-value}
use Rattle.strm_raw.proofs.Seating.{put-on}
use Rattle.strm_raw.proofs.Placing.{queue-few, puts-there, order-there}

-- no list counts more messages than a store has blocks
pub count-few : {v : Nodes} {ends : List KeptEnds} {b : Roster} {first_m : Option MsgLink} {first_d : Option DataLink} {spare_m spare_d : ℕ} → IsRaw v first_m first_d spare_m spare_d b → AreListed v ends b
    → (k : ℕ) → (ends_at k ends).count < 65537
count-few is listed k = omega (arith, listed.counted k, queue-few is k, is.few_m, is.most_m)

-- the places before and behind the one at which a walk in a course stops
places : (v : Nodes) (e : Ends) (c : Course) (front rear : List Msg) → IsList v e (front ++ rear) → (stop past : Option ℕ) → stop ≡ place_in c front rear → past ≡ along (pick c Back On) v e stop
    → (pick c past stop ≡ end_of None front) × (pick c stop past ≡ begin_of rear)
places v e On front rear t stop past place step = (step ∙ ap (λ p. along Back v e p) place ∙ list-back v e front rear t, place)
places v e Back front rear t stop past place step = (place, step ∙ ap (λ p. along On v e p) place ∙ list-on v e front rear t)

number-of : (f : MsgLink → ℕ) (c : Course) (x y : Option MsgLink) → option_map f (pick c x y) ≡ pick c (option_map f x) (option_map f y)
number-of f On x y = refl
number-of f Back x y = refl

module _ {v v' : Nodes} {ends ends' : List KeptEnds} {b b' : Roster} {first_m : Option MsgLink} {first_d : Option DataLink} {spare_m spare_d : ℕ} (is : IsRaw v first_m first_d spare_m spare_d b) (listed : AreListed v ends b)
    (k : ℕ) (within : k < LISTS) (l : MsgLink) (here : IsHere v b l) (r : ℕ) (rank_is : r ≡ rank_at v.rows (msg_number v.mat l)) (before after : Option MsgLink)
    (e : Ends) (seats : Seats v.mat v.rows v'.rows (ends_at k ends) e (option_map (msg_number v.mat) before) (msg_number v.mat l) (option_map (msg_number v.mat) after))
    (first : IsMsgOrNone v.mat (length v.rows) e.first) (last : IsMsgOrNone v.mat (length v.rows) e.last) (nodes : v' ≡ record v { rows = v'.rows }) (ends_are : ends' ≡ set ends k (kept e))
    (n : ℕ) (n_is : n ≡ msg_number v.mat l) (roster_is : b' ≡ seated k n (unwrap_or after l) b) where
  abbrev i : ℕ
  i = msg_number v.mat l

  abbrev x : Msg
  x = msg_in i b.hand

  abbrev q : List Msg
  q = queue_at k b.lists

  order : ranked.IsOrdered rank_of (map (chain_of v) q)
  order = subst (λ (z : List (List Block)). ranked.IsOrdered rank_of z) (queue-value v b.lists k) (listed.ordered k)

  rank-here : r ≡ rank_at v.rows x.head
  rank-here = rank_is ∙ ap (λ j. rank_at v.rows j) (sym (found-head is l here))

  pub inserted : (c other : Course) (stop past : Option MsgLink) → other ≡ pick c Back On → before ≡ pick c past stop → after ≡ pick c stop past
      → ((q : List Msg) → IsList v (ends_at k ends) q → length q ≤ length v.rows → RanksAt c v.rows r q (option_map (msg_number v.mat) stop))
      → option_map (msg_number v.mat) past ≡ along other v (ends_at k ends) (option_map (msg_number v.mat) stop)
      → Becomes v' ends' b' first_m first_d spare_m spare_d (placed (dropped (value_of v b) i) k (put_by c rank_of (in_hand (value_of v b) i) (list_at (value_of v b) k)))
  inserted c other stop past other_is before_is after_is place step =
      let number = msg_number v.mat in
      let w = subst (λ r. RanksAt c v.rows r q (option_map number stop)) rank-here (place q (listed.tied k) (queue-few is k)) in
      let tied = subst (λ (q : List Msg). IsList v (ends_at k ends) q) w.joined (listed.tied k) in
      let between = places v (ends_at k ends) c w.front w.rear tied _ _ w.place (step ∙ ap (λ d. along d v (ends_at k ends) (option_map number stop)) other_is) in
      let at_before = ap (λ (o : Option MsgLink). option_map number o) before_is ∙ number-of number c past stop ∙ between.0 in
      let at_after = ap (λ (o : Option MsgLink). option_map number o) after_is ∙ number-of number c stop past ∙ between.1 in
      let puts = puts-there v x q order c _ w ∙ (λ j. put_by c rank_of (sym (found-chain is l here) j) (sym (queue-value v b.lists k) j)) in
      put-on is listed k within l here w.front w.rear w.joined e _ _ at_before at_after seats first last nodes ends_are after (λ _. option_map number after) n n_is roster_is _ puts
      (subst (λ (z : List (List Block)). ranked.IsOrdered rank_of z) puts (order-there v x q order c _ w))
