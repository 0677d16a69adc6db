-- What a call leaves that takes the message off a list that stands at one of its ends.
use Rattle.std.proofs.Common.{ℕ, ◌≡◌, ◌<◌, [], ◌∷◌, List, length, map, refl, sym, ap, ◌∙◌, subst, arith}
use Rattle.std.specs.Prelude.{Option, None, Some, option_map}
use Rattle.std.proofs.lemmas.List.{append-nil, length-append}
use Rattle.strm_types.specs.declared.limits.TheConstants.{LISTS}
use Rattle.strm_blocks.specs.Blocks.{Block, StoreValue, list_at, held, placed}
use Rattle.strm_blocks.specs.Outcomes.{Popped, PoppedLast}
use Rattle.strm_raw.specs.Numbered.{Nodes, msg_number}
use Rattle.strm_raw.specs.Roster.{Msg, Roster}
use Rattle.strm_raw.specs.Raw.{IsRaw, chain_of, value_of}
use Rattle.strm_raw.specs.Lists.{AreListed, IsList, PoppedBy, Unseats, along, ahead_of, behind_of, ends_at, pick, queue_at}
use Rattle.strm_raw.specs.declared.neighbours.Course.{Course}
use Rattle.strm_raw.specs.declared.neighbours.Course.TheVariants.{On, Back}
use Rattle.strm_raw.specs.declared.neighbours.KeptEnds.{KeptEnds}
use Rattle.strm_raw.specs.declared.msg_nodes.MsgLink.{MsgLink}
use Rattle.strm_raw.specs.declared.data_nodes.DataLink.{DataLink}
use Rattle.strm_raw.proofs.Becoming.{Becomes, becomes-as}
use Rattle.strm_raw.proofs.Tied.{list-begin, list-end, list-ahead, list-behind, no-first, no-last, a-first, a-last}
use Rattle.strm_raw.proofs.Seating.{taken-off, no-queue}

module _ {v : Nodes} {ends : List KeptEnds} {b : Roster} {first_m : Option MsgLink} {first_d : Option DataLink} {spare_m spare_d : ℕ} (is : IsRaw v first_m first_d spare_m spare_d b) (listed : AreListed v ends b)
    {s : StoreValue} (view : value_of v b ≡ s) (k : ℕ) where
  abbrev q : List Msg
  q = queue_at k b.lists

  none-at : (c : Course) → along c v (ends_at k ends) None ≡ None → q ≡ []
  none-at On none = no-first q (sym (list-begin v (ends_at k ends) q (listed.tied k)) ∙ none)
  none-at Back none = no-last q (sym (list-end v (ends_at k ends) q (listed.tied k)) ∙ none)

  pub nothing-there : (c : Course) → along c v (ends_at k ends) None ≡ None → list_at s k ≡ []
  nothing-there c none = ap (λ (s : StoreValue). list_at s k) (sym view) ∙ no-queue v b k (none-at c none)

  -- the list counts the message there
  pub some-there : (c : Course) (i : ℕ) → along c v (ends_at k ends) None ≡ Some i → 0 < (ends_at k ends).count
  some-there On i there =
      let at = a-first q i (sym (list-begin v (ends_at k ends) q (listed.tied k)) ∙ there) in
      omega (arith, listed.counted k, ap length at.1.1.0)
  some-there Back i there =
      let at = a-last q i (sym (list-end v (ends_at k ends) q (listed.tied k)) ∙ there) in
      omega (arith, listed.counted k, ap length at.1.1.0, length-append at.0 (at.1.0 ∷ []))

  -- the message there has none beyond it
  pub sides-are : (c : Course) (i : ℕ) → along c v (ends_at k ends) None ≡ Some i → (before after ahead behind : Option MsgLink) → before ≡ pick c None behind → after ≡ pick c ahead None
      → option_map (msg_number v.mat) ahead ≡ ahead_of v.rows i → option_map (msg_number v.mat) behind ≡ behind_of v.rows i
      → (option_map (msg_number v.mat) before ≡ behind_of v.rows i) × (option_map (msg_number v.mat) after ≡ ahead_of v.rows i)
  sides-are On i there before after ahead behind before_is after_is ahead_is behind_is =
      let number = λ (o : Option MsgLink). option_map (msg_number v.mat) o in
      let at = a-first q i (sym (list-begin v (ends_at k ends) q (listed.tied k)) ∙ there) in
      let none = list-behind v (ends_at k ends) [] at.0 at.1.0 (subst (λ (q : List Msg). IsList v (ends_at k ends) q) at.1.1.0 (listed.tied k)) in
      (ap number before_is ∙ sym none ∙ ap (λ i. behind_of v.rows i) at.1.1.1, ap number after_is ∙ ahead_is)
  sides-are Back i there before after ahead behind before_is after_is ahead_is behind_is =
      let number = λ (o : Option MsgLink). option_map (msg_number v.mat) o in
      let at = a-last q i (sym (list-end v (ends_at k ends) q (listed.tied k)) ∙ there) in
      let none = list-ahead v (ends_at k ends) at.0 at.1.0 [] (subst (λ (q : List Msg). IsList v (ends_at k ends) q) at.1.1.0 (listed.tied k)) in
      (ap number before_is ∙ behind_is, ap number after_is ∙ sym none ∙ ap (λ i. ahead_of v.rows i) at.1.1.1)

  -- where a link leads to the message there
  module _ (within : k < LISTS) (l : MsgLink) {v' : Nodes} {ends' : List KeptEnds} {b' : Roster} (u : Unseats v v' ends ends' b b' k l) where
    pub taken-end : (c : Course) → along c v (ends_at k ends) None ≡ Some (msg_number v.mat l)
        → (s' : StoreValue) × (Becomes v' ends' b' first_m first_d spare_m spare_d s' × PoppedBy c s s' k (msg_number v.mat l))
    taken-end On there =
        let at = a-first q (msg_number v.mat l) (sym (list-begin v (ends_at k ends) q (listed.tied k)) ∙ there) in
        let done = taken-off is listed k within l [] at.0 at.1.0 at.1.1.0 at.1.1.1 u in (
          _,
          (
            done.becomes,
            subst (λ (s : StoreValue). Popped s (held (placed (value_of v b) k (map (chain_of v) at.1.0)) (msg_number v.mat l) (chain_of v at.0)) k (msg_number v.mat l)) view
                (record { fresh_name = done.fresh; message = chain_of v at.0; rest = map (chain_of v) at.1.0; joined = done.shape; after = refl }),
          ),
        )
    taken-end Back there =
        let at = a-last q (msg_number v.mat l) (sym (list-end v (ends_at k ends) q (listed.tied k)) ∙ there) in
        let done = taken-off is listed k within l at.0 at.1.0 [] at.1.1.0 at.1.1.1 u in
        let rest = append-nil (map (chain_of v) at.0) in (
          _,
          (
            becomes-as done.becomes (ap (λ (q : List (List Block)). held (placed (value_of v b) k q) (msg_number v.mat l) (chain_of v at.1.0)) rest),
            subst (λ (s : StoreValue). PoppedLast s (held (placed (value_of v b) k (map (chain_of v) at.0)) (msg_number v.mat l) (chain_of v at.1.0)) k (msg_number v.mat l)) view
                (record { fresh_name = done.fresh; message = chain_of v at.1.0; rest = map (chain_of v) at.0; joined = done.shape; after = refl }),
          ),
        )
