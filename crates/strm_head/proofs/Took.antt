-- What a get took of the first message is what it takes by the definition.
use Rattle.strm_head.proofs.Prelude.{ℕ, ◌≡◌, ◌<◌, min, Bool, true, false, cond, List, [], ◌∷◌, ◌++◌, length, map, take, drop, refl, sym, ap, subst}
use Rattle.strm_head.proofs.Prelude.{◌∙◌, nat_lt, option_map, ◌||◌, left, chain-is, before, first-chain, first-holds, Landed}
use Rattle.strm_head.specs.Prelude.{is_data_kind, Got, got_none, parts_of, Message, part, rest_with, Block, StoreValue, list_at, in_hand, changed}
use Rattle.strm_head.specs.Prelude.{block_at, Popped, bytes_of, control_blocks, control_bytes, data_blocks, data_bytes, length_of_part}
use Rattle.strm_head.specs.Prelude.{without_emptied, message_of, AreMessages, IsChain, Queue, plain_flows, AreCounted, messages_on, HoldsReadable}
use Rattle.strm_head.specs.Prelude.{IsHeadQueue, Keeps}
use Rattle.std.proofs.Common.{Option, unwrap_or}
use Rattle.strm_types.specs.Gets.{left_behind}
use Rattle.strm_types.specs.Queue as plain
use Rattle.strm_queue.specs.Kept as kept
use Rattle.strm_queue.proofs.Chains.{chain-low}
use Rattle.strm_head.specs.declared.getting.Gotten.{Gotten}
use Rattle.strm_head.specs.declared.getting.Piece.{Piece}
use Rattle.strm_head.specs.Getting.{put_rest, prio_at, Gives, TakesFirst}
use Rattle.strm_head.specs.Leaving.{Leaves}
use Rattle.strm_head.specs.Parted.{cut_by}
use Rattle.strm_head.proofs.Pieces.{given-is, count-is, more-is, taken-is}
use Rattle.strm_head.proofs.Rests.{alike, left-some, rest-one, rest-kind, rest-asked}
use Rattle.strm_head.proofs.Seen.{parts-shown}
use Rattle.strm_head.proofs.Taking.{list_left, cut-held, held-chain, rest-landed, messages-left, left-keeps, left-leaves, queue-left}

-- what is taken of the first of some messages
abbrev of_first : ℕ → ℕ → List (Message ℕ) → Got ℕ
of_first cmax dmax [] = got_none []
of_first cmax dmax (m ∷ q) = parts_of cmax dmax m q

left-same : (more : Bool) (m rest : Message ℕ) (q : List (Message ℕ)) → (more ≡ true → m ≡ rest) → cond more (plain.put_back m q) q ≡ cond more (plain.put_back rest q) q
left-same false m rest q is = refl
left-same true m rest q is = ap (λ x. plain.put_back x q) (is refl)

module _ (s got cut : StoreValue) (q : Queue) (i cmax dmax n d : ℕ) (within : q.list < length s.lists) (p : Popped s got q.list i) (ready : IsHeadQueue s q)
    (control_len data_len : Option ℕ) (first second : Piece)
    (control_len_is : control_len ≡ length_of_part (control_blocks (in_hand got i))) (data_len_is : data_len ≡ length_of_part (data_blocks (in_hand got i)))
    (first_given : first.given ≡ option_map (λ k. min cmax k) control_len) (first_more : first.more ≡ nat_lt cmax (unwrap_or control_len 0))
    (second_given : second.given ≡ option_map (λ k. min dmax k) data_len) (second_more : second.more ≡ nat_lt dmax (unwrap_or data_len 0))
    (n_is : n ≡ unwrap_or first.given 0) (d_is : d ≡ unwrap_or second.given 0)
    (cut_is : cut ≡ changed got i (cut_by n d (in_hand got i))) where
  abbrev chain : List Block
  chain = p.message

  abbrev m : Message ℕ
  m = message_of chain

  abbrev others : List (Message ℕ)
  others = map message_of p.rest

  abbrev rest : List Block
  rest = without_emptied (cut_by n d chain)

  abbrev more : Bool
  more = first.more || second.more

  here : in_hand got i ≡ chain
  here = chain-is s got q.list i within p

  readable : is_data_kind (block_at 0 chain).kind ≡ true
  readable = first-holds is_data_kind chain p.rest (subst HoldsReadable p.joined ready.readable)

  one : IsChain chain
  one = first-chain chain p.rest (subst AreMessages p.joined ready.ready.messages)

  control_there : control_len ≡ length_of_part (control_blocks chain)
  control_there = control_len_is ∙ ap (λ c. length_of_part (control_blocks c)) here

  data_there : data_len ≡ length_of_part (data_blocks chain)
  data_there = data_len_is ∙ ap (λ c. length_of_part (data_blocks c)) here

  n_least : n ≡ min cmax (length (control_bytes chain))
  n_least = count-is cmax (control_blocks chain) control_len control_there first.given n first_given n_is

  d_least : d ≡ min dmax (length (data_bytes chain))
  d_least = count-is dmax (data_blocks chain) data_len data_there second.given d second_given d_is

  more_control : first.more ≡ nat_lt cmax (length (part m.control))
  more_control = more-is cmax (control_blocks chain) control_len control_there first.more first_more ∙ ap (λ (x : Message ℕ). nat_lt cmax (length (part x.control))) (sym (parts-shown chain readable))

  more_data : second.more ≡ nat_lt dmax (length (part m.body))
  more_data = more-is dmax (data_blocks chain) data_len data_there second.more second_more ∙ ap (λ (x : Message ℕ). nat_lt dmax (length (part x.body))) (sym (parts-shown chain readable))

  -- the message in hand then, and what is left of it
  abbrev without : StoreValue
  without = left s got q.list i within p

  in_cut : in_hand cut i ≡ cut_by n d chain
  in_cut = held-chain s got q.list i within p (cut_by n d chain) cut (cut-held s got q.list i within p (cut_by n d) cut cut_is)

  some_left : more ≡ true → 0 < length (bytes_of (cut_by n d chain))
  some_left = left-some cmax dmax n d chain one readable n_least d_least first.more second.more more_control more_data

  rest_one : more ≡ true → IsChain rest
  rest_one is = rest-one n d chain one readable (some_left is)

  pub rest-some : more ≡ true → 0 < length (bytes_of (in_hand cut i))
  rest-some is = subst (λ c. 0 < length (bytes_of c)) (sym in_cut) (some_left is)

  pub rest-low : more ≡ true → kept.band_of (without_emptied (in_hand cut i)) < 256
  rest-low is = subst (λ c. kept.band_of (without_emptied c) < 256) (sym in_cut) (chain-low rest (rest_one is))

  -- what was given
  module _ (result : Gotten) (out : List ℕ) (out_is : out ≡ take n (control_bytes (in_hand got i)) ++ take d (data_bytes (in_hand got i)))
      (control_result : result.control ≡ first.given) (body_result : result.body ≡ second.given) (prio_is : result.prio ≡ prio_at (message_of (in_hand got i)))
      (more_control_is : result.more_control ≡ first.more) (more_data_is : result.more_data ≡ second.more) where
    control-given : take n (control_bytes (in_hand got i)) ≡ part (option_map (take cmax) m.control)
    control-given =
        taken-is cmax n (control_blocks chain) (take n (control_bytes (in_hand got i))) n_least (ap (λ c. take n (control_bytes c)) here)
        ∙ ap (λ (x : Message ℕ). part (option_map (take cmax) x.control)) (sym (parts-shown chain readable))

    body-given : take d (data_bytes (in_hand got i)) ≡ part (option_map (take dmax) m.body)
    body-given =
        taken-is dmax d (data_blocks chain) (take d (data_bytes (in_hand got i))) d_least (ap (λ c. take d (data_bytes c)) here)
        ∙ ap (λ (x : Message ℕ). part (option_map (take dmax) x.body)) (sym (parts-shown chain readable))

    gives : Gives result out (parts_of cmax dmax m others)
    gives = record {
      given = out_is ∙ ap (λ xs. xs ++ take d (data_bytes (in_hand got i))) control-given ∙ ap (λ xs. part (option_map (take cmax) m.control) ++ xs) body-given;
      control_there = control_result ∙ given-is cmax (control_blocks chain) control_len control_there first.given first_given ∙ ap (λ (x : Message ℕ). option_map (λ (cells : List ℕ). length cells) (option_map (take cmax) x.control)) (sym (parts-shown chain readable));
      body_there = body_result ∙ given-is dmax (data_blocks chain) data_len data_there second.given second_given ∙ ap (λ (x : Message ℕ). option_map (λ (cells : List ℕ). length cells) (option_map (take dmax) x.body)) (sym (parts-shown chain readable));
      prio = prio_is ∙ ap (λ c. prio_at (message_of c)) here;
      more_control = more_control_is ∙ more_control;
      more_data = more_data_is ∙ more_data;
    }

    -- and what is left on the queue
    module _ (new : StoreValue) (k : ℕ) (q' : Queue) (list_is : k ≡ q.list) (put_is : new ≡ put_rest more cut i k (without_emptied (in_hand cut i))) (same : q'.list ≡ q.list) where
      put-there : new ≡ put_rest more cut i q.list rest
      put-there =
          put_is ∙ ap (λ l. put_rest more cut i l (without_emptied (in_hand cut i))) list_is
          ∙ ap (λ c. put_rest more cut i q.list (without_emptied c)) in_cut

      there : Landed s new q.list (list_left (first.more || second.more) rest p.rest)
      there = rest-landed s got q.list i within p (first.more || second.more) (cut_by n d chain) rest cut new (cut-held s got q.list i within p (cut_by n d) cut cut_is) put-there

      left-is : messages_on new q.list ≡ left_behind (nat_lt cmax (length (part m.control)) || nat_lt dmax (length (part m.body))) cmax dmax m others
      left-is =
          messages-left s new q.list (first.more || second.more) rest p.rest there
          ∙ left-same (first.more || second.more) (message_of rest) (rest_with (drop cmax (part m.control)) (drop dmax (part m.body)) m) others
          (λ is. rest-asked cmax dmax n d chain one readable n_least d_least (some_left is))
          ∙ ap (λ v. left_behind (v || second.more) cmax dmax m others) more_control
          ∙ ap (λ v. left_behind (nat_lt cmax (length (part m.control)) || v) cmax dmax m others) more_data

      took : (flows : plain_flows q'.flows ≡ plain_flows q.flows) (want : q'.want_read ≡ false) (no_enable : q'.no_enable ≡ q.no_enable)
          (x : Message ℕ) (xs : List (Message ℕ)) → messages_on s q.list ≡ x ∷ xs → TakesFirst result out s new q q' (parts_of cmax dmax x xs)
      took flows want no_enable x xs stood =
          subst (TakesFirst result out s new q q') (ap (of_first cmax dmax) (sym (before s got q.list i within p) ∙ stood))
          (record { gives = gives; queue = queue-left s new q q' _ left-is same flows want no_enable })

      leaves : Leaves (list_at s q.list) (list_at new q.list)
      leaves = left-leaves (list_at s q.list) (list_at new q.list) chain rest (cut_by n d chain) p.rest more p.joined (alike n d chain one readable) refl there.here

      keeps : AreCounted q'.flows (list_at new q'.list) → Keeps s new q q'
      keeps counted =
          left-keeps s new q q' chain rest p.rest ready.ready p.joined more rest_one (λ is test passes was. rest-kind n d chain one readable (some_left is) test passes was) there same counted

      -- what a get of the first message promises
      pub record Taken : Type 0 where
        pub took : (x : Message ℕ) (xs : List (Message ℕ)) → messages_on s q.list ≡ x ∷ xs → TakesFirst result out s new q q' (parts_of cmax dmax x xs)
        pub leaves : Leaves (list_at s q.list) (list_at new q.list)
        pub keeps : Keeps s new q q'

      pub taken : plain_flows q'.flows ≡ plain_flows q.flows → q'.want_read ≡ false → q'.no_enable ≡ q.no_enable → AreCounted q'.flows (list_at new q'.list) → Taken
      taken flows want no_enable counted = record { took = took flows want no_enable; leaves = leaves; keeps = keeps counted }
