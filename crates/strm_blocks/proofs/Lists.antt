-- The lists of a store, with messages that are put on them or taken off.
use Rattle.std.proofs.Common.{ℕ, suc, ◌≡◌, ◌≤◌, ◌<◌, ◌+◌, ◌-◌, ◌^◌, Bool, true, false, not, cond, filter, List, [], ◌∷◌, ◌++◌, length, take, drop, get_or, map, refl, sym, ap, ◌∙◌, arith}
use Rattle.std.proofs.Math.ListN.{set, length-set}
use Rattle.std.specs.Prelude.{sum_by, nat_le, nat_lt}
use Rattle.std.specs.List.{prefix_len}
use Rattle.std.proofs.lemmas.List.{map-append, map-set, get_or-map, get_or_default}
use Rattle.std.proofs.lemmas.List.Sums.{sum_by-cons, get_or-le-sum_by, prefix_len-le-length}
use Rattle.strm_types.specs.Ranked as ranked
use Rattle.strm_blocks.specs.Blocks.{Block, Held, StoreValue, IsInHand, in_hand, list_at, held, dropped, placed, put, put_back, times_in}
use Rattle.strm_blocks.specs.Outcomes.{Popped, PoppedLast, flushes, flushed}
use Rattle.strm_blocks.specs.Message.{message_at, without_at, place_in, rank_in, weigh, named, listed_rank, AreOrdered, flushes_message}
use Rattle.strm_blocks.specs.Table.{shown, chain_of, lists_of, value_of, IsTable, IsTableStore}
use Rattle.strm_blocks.specs.declared.table.TableStore.TheInside.{Inside}
use Rattle.strm_blocks.specs.declared.message.Message.{Message}
use Rattle.strm_blocks.specs.declared.message.MessageBlock.{MessageBlock}
use Rattle.strm_blocks.proofs.Nodes.{ones, sum-without, sum-put, weigh-list}
use Rattle.strm_blocks.proofs.Values.{without-value, times-value}
use Rattle.strm_blocks.proofs.Orders.{put-value, put_back-value, Ordered-without, Ordered-behind, Ordered-before, Ordered-filter, AreOrdered-set}
use Rattle.strm_blocks.proofs.Stores.{value, value-same}
use Rattle.strm_blocks.proofs.ListParts.{sum-filter}
use Rattle.std.proofs.lemmas.Bool.Decides.{nat_tests}
use Rattle.strm_types.specs.declared.limits.TheConstants.{LISTS}
use Rattle.strm_blocks.specs.declared.asked.FlushWhat.{FlushWhat}
use Rattle.strm_blocks.proofs.Moves.{IsTable-moved}
use Rattle.strm_blocks.proofs.Found.{chain-is}
use Rattle.strm_blocks.proofs.Found.{within as found-within}

-- a message goes from the hand to a place of a list, and weighs the same there
pub inserted-weigh : (g : Message → ℕ) (lists : List (List Message)) (hand : List Message) (k r p : ℕ) (q' : List Message) → k < length lists → r < length hand → q' ≡ take p (get_or lists k []) ++ ((message_at r hand ∷ []) ++ drop p (get_or lists k [])) → weigh g (set lists k q') (without_at r hand) ≡ weigh g lists hand
inserted-weigh g lists hand k r p q' within there is =
    let l = weigh-list g lists (without_at r hand) k q' within in
    let e = ap (λ (q : List Message). sum_by g q) is in
    let i = sum-put g (get_or lists k []) p (message_at r hand) in
    let w = sum-without g hand r there in
    omega arith

-- a message of a list goes to the front of the hand, and weighs the same there
pub popped-weigh : (g : Message → ℕ) (lists : List (List Message)) (hand : List Message) (k p : ℕ) (q' : List Message) → k < length lists → p < length (get_or lists k []) → q' ≡ without_at p (get_or lists k []) → weigh g (set lists k q') (message_at p (get_or lists k []) ∷ hand) ≡ weigh g lists hand
popped-weigh g lists hand k p q' within there is =
    let m = message_at p (get_or lists k []) in
    let l = weigh-list g lists (m ∷ hand) k q' within in
    let e = ap (λ (q : List Message). sum_by g q) is in
    let f = sum-without g (get_or lists k []) p there in
    let h = sum_by-cons g m hand in
    omega arith

first-rest : (q : List Message) → 0 < length q → q ≡ message_at 0 q ∷ without_at 0 q
first-rest [] some = absurd (omega arith)
first-rest (m ∷ q) some = refl

rest-last : (q : List Message) → 0 < length q → q ≡ without_at (length q - 1) q ++ message_at (length q - 1) q ∷ []
rest-last [] some = absurd (omega arith)
rest-last (m ∷ []) some = refl
rest-last (m ∷ n ∷ q) some =
    let e : suc (length (n ∷ q) - 1) ≡ length (m ∷ n ∷ q) - 1 = omega arith in
    ap (λ l. m ∷ l) (rest-last (n ∷ q) (omega arith)) ∙ ap (λ p. without_at p (m ∷ n ∷ q) ++ message_at p (m ∷ n ∷ q) ∷ []) e

-- what a flush takes is seen in the first block
flushes-value : (bytes : List (List ℕ)) (what : FlushWhat) (m : Message) → flushes what (chain_of bytes m) ≡ flushes_message what m
flushes-value bytes what m = elim m.blocks as (λ blocks. flushes what (map (shown bytes) blocks) ≡ flushes_message what (record { name = m.name; blocks = blocks })) [ [] ↦ refl | b ∷ blocks ↦ refl ]

filter-value : (bytes : List (List ℕ)) (what : FlushWhat) (q : List Message) → map (chain_of bytes) (filter (λ m. not (flushes_message what m)) q) ≡ flushed what (map (chain_of bytes) q)
filter-value bytes what [] = refl
filter-value bytes what (m ∷ q) =
    let here : not (flushes what (chain_of bytes m)) ≡ not (flushes_message what m) = ap not (flushes-value bytes what m) in
    rw here (elim (not (flushes_message what m)) as (λ b. map (chain_of bytes) (cond b (m ∷ filter (λ m. not (flushes_message what m)) q) (filter (λ m. not (flushes_message what m)) q)) ≡ cond b (chain_of bytes m ∷ flushed what (map (chain_of bytes) q)) (flushed what (map (chain_of bytes) q))) [
      | true ↦ ap (λ (rest : List (List Block)). chain_of bytes m ∷ rest) (filter-value bytes what q)
      | false ↦ filter-value bytes what q
    ])

module _ (t : Inside) {s : StoreValue} (is : value_of t ≡ s) (holds : IsTableStore t) (k : ℕ) (eight : k < LISTS) where
  abbrev pub list : List Message
  list = get_or t.lists k []

  pub list-within : k < length t.lists
  list-within = let e = holds.eight in omega arith

  -- whatever is read where there is no list
  pub list-read : (d : List Message) → get_or t.lists k d ≡ list
  list-read d = get_or_default t.lists k d [] list-within

  pub list-is : list_at s k ≡ map (chain_of t.data.bytes) list
  list-is = ap (λ (s : StoreValue). list_at s k) (sym is) ∙ get_or-map (λ (q : List Message). map (chain_of t.data.bytes) q) t.lists k [] [] list-within

  -- lists are short
  pub list-few : length list + (length t.hand + length t.idle) ≤ 65536
  list-few =
      let m = holds.messages in
      let f = holds.few in
      let h = ones t.hand in
      let o = ones list in
      let le = get_or-le-sum_by (λ (q : List Message). sum_by (λ m. 1) q) t.lists k [] list-within in
      omega arith

  -- the first message of a list, and the rest
  pub joined-value : 0 < length list → list_at s k ≡ chain_of t.data.bytes (message_at 0 list) ∷ map (chain_of t.data.bytes) (without_at 0 list)
  joined-value some = list-is ∙ ap (λ (q : List Message). map (chain_of t.data.bytes) q) (first-rest list some)

  -- the last message of a list, and those before it
  last-value : 0 < length list → list_at s k ≡ map (chain_of t.data.bytes) (without_at (length list - 1) list) ++ chain_of t.data.bytes (message_at (length list - 1) list) ∷ []
  last-value some =
      let n = length list - 1 in
      list-is ∙ ap (λ (q : List Message). map (chain_of t.data.bytes) q) (rest-last list some)
      ∙ map-append (chain_of t.data.bytes) (without_at n list) (message_at n list ∷ [])

  -- getq of a list: a message of it goes into the hand
  module _ (p : ℕ) (there : p < length list) (q' hand' : List Message) (rest : q' ≡ without_at p list) (taken : hand' ≡ message_at p list ∷ t.hand) where
    -- its name is that of none in hand
    listed-fresh : times_in (message_at p list).name s.hand ≡ 0
    listed-fresh =
        let i = (message_at p list).name in
        let a = holds.apart i in
        let f = sum-without (named i) list p there in
        let n : named i (message_at p list) ≡ 1 = grind (arith, nat_tests) in
        let le = get_or-le-sum_by (λ (q : List Message). sum_by (named i) q) t.lists k [] list-within in
        let v = times-value t.data.bytes i t.hand in
        let e = ap (λ (s : StoreValue). times_in i s.hand) is in
        omega arith

    taken-value : (name : ℕ) → name ≡ (message_at p list).name → value t.data.bytes (set t.lists k q') hand' t.mblks (length t.data.references) ≡ held (placed s k (map (chain_of t.data.bytes) (without_at p list))) name (chain_of t.data.bytes (message_at p list))
    taken-value name en =
        let bytes = t.data.bytes in
        let m = message_at p list in
        let e1 = ap (λ (hand : List Message). value bytes (set t.lists k q') hand t.mblks (length t.data.references)) taken in
        let e2 = ap (λ (lists : List (List (List Block))). record (held (value_of t) m.name (chain_of bytes m)) { lists = lists }) (map-set (λ (q : List Message). map (chain_of bytes) q) t.lists k q') in
        let e3 = ap (λ (q : List Message). held (placed (value_of t) k (map (chain_of bytes) q)) m.name (chain_of bytes m)) rest in
        let e4 = ap (λ (s : StoreValue). held (placed s k (map (chain_of bytes) (without_at p list))) m.name (chain_of bytes m)) is in
        e1 ∙ e2 ∙ e3 ∙ e4 ∙ ap (λ (n : ℕ). held (placed s k (map (chain_of bytes) (without_at p list))) n (chain_of bytes m)) (sym en)

    pub IsTable-popped : IsTable t.mblks (set t.lists k q') hand' t.idle t.spare t.data.references
    IsTable-popped =
        let o = AreOrdered-set t.lists k q' list-within holds.ordered (rw rest (Ordered-without p list (holds.ordered k))) in
        IsTable-moved holds (set t.lists k q') hand' (length-set t.lists k q' ∙ holds.eight) o (λ g. ap (λ (hand : List Message). weigh g (set t.lists k q') hand) taken ∙ popped-weigh g t.lists t.hand k p q' list-within there rest)

  -- the first message, and the last one
  pub popped-value : (q' hand' : List Message) (name : ℕ) → 0 < length list → q' ≡ without_at 0 list → hand' ≡ message_at 0 list ∷ t.hand → name ≡ (message_at 0 list).name → Popped s (value t.data.bytes (set t.lists k q') hand' t.mblks (length t.data.references)) k name
  popped-value q' hand' name some eq eh en = record {
    fresh_name = ap (λ (n : ℕ). times_in n s.hand) en ∙ listed-fresh 0 some q' hand' eq eh;
    message = chain_of t.data.bytes (message_at 0 list);
    rest = map (chain_of t.data.bytes) (without_at 0 list);
    joined = joined-value some;
    after = taken-value 0 some q' hand' eq eh name en;
  }

  pub popped-last : (q' hand' : List Message) (name : ℕ) → 0 < length list → q' ≡ without_at (length list - 1) list → hand' ≡ message_at (length list - 1) list ∷ t.hand → name ≡ (message_at (length list - 1) list).name → PoppedLast s (value t.data.bytes (set t.lists k q') hand' t.mblks (length t.data.references)) k name
  popped-last q' hand' name some eq eh en =
      let there : length list - 1 < length list = omega arith in
      record {
        fresh_name = ap (λ (n : ℕ). times_in n s.hand) en ∙ listed-fresh (length list - 1) there q' hand' eq eh;
        message = chain_of t.data.bytes (message_at (length list - 1) list);
        rest = map (chain_of t.data.bytes) (without_at (length list - 1) list);
        joined = last-value some;
        after = taken-value (length list - 1) there q' hand' eq eh name en;
      }

  -- what a flush leaves of a list
  pub flushed-value : (what : FlushWhat) (bytes' : List (List ℕ)) (q' : List Message) (n : ℕ) → bytes' ≡ t.data.bytes → n ≡ length t.data.references → q' ≡ filter (λ m. not (flushes_message what m)) list → value bytes' (set t.lists k q') t.hand t.mblks n ≡ placed s k (flushed what (list_at s k))
  flushed-value what bytes' q' n eb en eq =
      let bytes = t.data.bytes in
      let e0 = value-same bytes (set t.lists k q') t.hand t.mblks (length t.data.references) eb refl refl en in
      let e1 = ap (λ (lists : List (List (List Block))). record (value_of t) { lists = lists }) (map-set (λ (q : List Message). map (chain_of bytes) q) t.lists k q') in
      let left = ap (λ (q : List Message). map (chain_of bytes) q) eq ∙ filter-value bytes what list ∙ ap (λ (q : List (List Block)). flushed what q) (sym list-is) in
      let e2 = ap (λ (q : List (List Block)). placed (value_of t) k q) left in
      let e3 = ap (λ (s' : StoreValue). placed s' k (flushed what (list_at s k))) is in
      e0 ∙ e1 ∙ e2 ∙ e3

  pub flushed-weigh : (what : FlushWhat) (q' taken : List Message) → q' ≡ filter (λ m. not (flushes_message what m)) list → taken ≡ filter (λ m. flushes_message what m) list → (g : Message → ℕ) → weigh g (set t.lists k q') t.hand + sum_by g taken ≡ weigh g t.lists t.hand
  flushed-weigh what q' taken eq et g =
      let l = weigh-list g t.lists t.hand k q' list-within in
      let a = ap (λ (q : List Message). sum_by g q) eq in
      let b = ap (λ (q : List Message). sum_by g q) et in
      let f = sum-filter g (λ m. flushes_message what m) list in
      omega arith

  -- the value with another list, and without a message in hand
  placed-value : (i : ℕ) (q' hand' : List Message) (new : List (List Block)) → hand' ≡ without_at (place_in i t.hand) t.hand → map (chain_of t.data.bytes) q' ≡ new → value t.data.bytes (set t.lists k q') hand' t.mblks (length t.data.references) ≡ placed (dropped s i) k new
  placed-value i q' hand' new eh en =
      let bytes = t.data.bytes in
      let e1 = ap (λ (hand : List Message). value bytes (set t.lists k q') hand t.mblks (length t.data.references)) eh in
      let e2 = ap (λ (hand : List Held). record (value_of t) { lists = lists_of bytes (set t.lists k q'); hand = hand }) (without-value bytes i t.hand) in
      let e3 = ap (λ (lists : List (List (List Block))). record (dropped (value_of t) i) { lists = lists }) (map-set (λ (q : List Message). map (chain_of bytes) q) t.lists k q') in
      let e4 = ap (λ (q : List (List Block)). placed (dropped (value_of t) i) k q) en in
      let e5 = ap (λ (s : StoreValue). placed (dropped s i) k new) is in
      e1 ∙ e2 ∙ e3 ∙ e4 ∙ e5

  -- a place that was looked for on the list is one of it
  pub place-fits : (passes : Message → Bool) (p : ℕ) (d e : List Message) → p ≡ prefix_len passes (get_or t.lists k d) → p ≤ length (get_or t.lists k e)
  place-fits passes p d e is =
      let here = is ∙ ap (λ (q : List Message). prefix_len passes q) (list-read d) in
      let long = ap (λ (q : List Message). length q) (list-read e) in
      omega (arith, prefix_len-le-length passes list)

  pub list-short : (e : List Message) → length (get_or t.lists k e) + 1 < 2 ^ 63
  list-short e = let long = ap (λ (q : List Message). length q) (list-read e) in let few = list-few in omega arith

  -- a message in hand that is put on the list behind those that pass a test against its rank
  module _ (i p rank : ℕ) (blocks : List MessageBlock) (d e node q' hand' : List Message) (rank_is : rank ≡ rank_in blocks) (its : blocks ≡ (message_at (place_in i t.hand) t.hand).blocks) (left : hand' ≡ without_at (place_in i t.hand) t.hand) (node_is : node ≡ message_at (place_in i t.hand) t.hand ∷ []) (new : q' ≡ take p (get_or t.lists k e) ++ (node ++ drop p (get_or t.lists k e))) where
    abbrev m : Message
    m = message_at (place_in i t.hand) t.hand

    place-is : (passes : ℕ → ℕ → Bool) → p ≡ prefix_len (λ x. passes rank (rank_in x.blocks)) (get_or t.lists k d) → p ≡ prefix_len (λ x. passes (rank_in (message_at (place_in i t.hand) t.hand).blocks) (rank_in x.blocks)) list
    place-is passes place =
        place ∙ ap (λ (q : List Message). prefix_len (λ x. passes rank (rank_in x.blocks)) q) (list-read d)
        ∙ ap (λ (r : ℕ). prefix_len (λ (x : Message). passes r (rank_in x.blocks)) list) (rank_is ∙ ap (λ (blocks : List MessageBlock). rank_in blocks) its)

    new-is : q' ≡ take p list ++ ((message_at (place_in i t.hand) t.hand ∷ []) ++ drop p list)
    new-is = new ∙ ap (λ (node : List Message). take p (get_or t.lists k e) ++ (node ++ drop p (get_or t.lists k e))) node_is ∙ ap (λ (q : List Message). take p q ++ ((message_at (place_in i t.hand) t.hand ∷ []) ++ drop p q)) (list-read e)

    -- what holds of the fields still holds
    IsTable-inserted : IsInHand s i → ranked.IsOrdered listed_rank q' → IsTable t.mblks (set t.lists k q') hand' t.idle t.spare t.data.references
    IsTable-inserted here o =
        IsTable-moved holds (set t.lists k q') hand' (length-set t.lists k q' ∙ holds.eight) (AreOrdered-set t.lists k q' list-within holds.ordered o) (λ g. ap (λ (hand : List Message). weigh g (set t.lists k q') hand) left ∙ inserted-weigh g t.lists t.hand k (place_in i t.hand) p q' list-within (found-within t is i here) new-is)

    -- putq and putbq
    module _ (place : p ≡ prefix_len (λ x. nat_le rank (rank_in x.blocks)) (get_or t.lists k d)) where
      pub IsTable-put : IsInHand s i → IsTable t.mblks (set t.lists k q') hand' t.idle t.spare t.data.references
      IsTable-put here = IsTable-inserted here (Ordered-behind m list q' p (holds.ordered k) (place-is nat_le place) new-is)

      pub put-at : value t.data.bytes (set t.lists k q') hand' t.mblks (length t.data.references) ≡ placed (dropped s i) k (put (in_hand s i) (list_at s k))
      put-at =
          placed-value i q' hand' _ left
          (ap (λ (q : List Message). map (chain_of t.data.bytes) q) new-is ∙ put-value t.data.bytes m list p (place-is nat_le place) ∙ ap (λ (chain : List Block). put chain (map (chain_of t.data.bytes) list)) (sym (chain-is t is i)) ∙ ap (λ (q : List (List Block)). put (in_hand s i) q) (sym list-is))

    module _ (place : p ≡ prefix_len (λ x. nat_lt rank (rank_in x.blocks)) (get_or t.lists k d)) where
      pub IsTable-put_back : IsInHand s i → IsTable t.mblks (set t.lists k q') hand' t.idle t.spare t.data.references
      IsTable-put_back here = IsTable-inserted here (Ordered-before m list q' p (holds.ordered k) (place-is nat_lt place) new-is)

      pub put_back-at : value t.data.bytes (set t.lists k q') hand' t.mblks (length t.data.references) ≡ placed (dropped s i) k (put_back (in_hand s i) (list_at s k))
      put_back-at =
          placed-value i q' hand' _ left
          (ap (λ (q : List Message). map (chain_of t.data.bytes) q) new-is ∙ put_back-value t.data.bytes m list p (place-is nat_lt place) ∙ ap (λ (chain : List Block). put_back chain (map (chain_of t.data.bytes) list)) (sym (chain-is t is i)) ∙ ap (λ (q : List (List Block)). put_back (in_hand s i) q) (sym list-is))

  pub flushed-ordered : (what : FlushWhat) (q' : List Message) → q' ≡ filter (λ m. not (flushes_message what m)) list → AreOrdered (set t.lists k q')
  flushed-ordered what q' eq = AreOrdered-set t.lists k q' list-within holds.ordered (rw eq (Ordered-filter listed_rank (λ m. not (flushes_message what m)) list (holds.ordered k)))
