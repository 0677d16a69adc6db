-- The queue of a head behind a get: what goes and what stays is what stood there, and forgetting the origins of cells commutes
-- with it.
use Rattle.strm_laws.proofs.Prelude.{ℕ, ◌≡◌, ◌+◌, Bool, true, false, cond, List, [], ◌∷◌, map, refl, sym, ap, ◌∙◌, arith, not, ◌&&◌, Option, None}
use Rattle.strm_laws.proofs.Prelude.{Some, option_map, map-append, count-joined}
use Rattle.strm_laws.specs.Prelude.{Wanted, Dir, Fate, Goes, gets_none, none_got, queue_got, get_queue, get_lets_go, get_gone, Got, head_get, map_got}
use Rattle.strm_laws.specs.Prelude.{Message, part, map_fate, Queue, weight, left_with, relieved, map_messages, map_queue, no_cells}
use Rattle.strm_types.specs.declared.rules.Rule.TheVariants as rules
use Rattle.strm_types.specs.GetQueues.{cells_got, writer_let_go}
use Rattle.strm_laws.specs.Places.{weight_gone, weight_made}
use Rattle.strm_laws.proofs.Forgetting.{relieved-forgets, relieves_from-forgets}
use Rattle.strm_laws.proofs.GetKeeps.{get-kept, get-forgets, wanted-forgets}

module _ {C : Type 0} where
  left-got : (g : Got C) (q : Queue C) → (queue_got g q).messages ≡ g.left
  left-got g q = at (none_got g)
    where
      at : (none : Bool) → (cond none (left_with g.left q) (relieved (left_with g.left q))).messages ≡ g.left
      at true = refl
      at false = refl

  -- what goes to the reader
  abbrev fates : Dir → Got C → List (Fate C)
  fates dir g = Goes dir rules.Read (cells_got g) ∷ []

  pub get_queue-keeps : (p : Dir → C → Bool) (dir : Dir) (wanted : Wanted) (cmax dmax : ℕ) (q : Queue C) →
      weight (p dir) (get_queue wanted cmax dmax q).messages + weight_gone p (get_gone dir wanted cmax dmax q.messages) ≡ weight (p dir) q.messages + weight_made p (get_gone dir wanted cmax dmax q.messages)
  get_queue-keeps p dir wanted cmax dmax q = at (gets_none wanted q.messages)
    where
      at : (none : Bool) → let g = head_get wanted cmax dmax q.messages in weight (p dir) (cond none q (queue_got g q)).messages + weight_gone p (cond none [] (fates dir g)) ≡ weight (p dir) q.messages + weight_made p (cond none [] (fates dir g))
      at true = omega arith
      at false =
          let g = head_get wanted cmax dmax q.messages in
          omega (arith, get-kept (p dir) wanted cmax dmax q.messages, count-joined (p dir) (part g.control) (part g.body), ap (λ (ms : List (Message C)). weight (p dir) ms) (left-got g q))

module _ {C D : Type 0} (f : C → D) where
  gets-forget : (wanted : Wanted) (q : List (Message C)) → gets_none wanted (map_messages f q) ≡ gets_none wanted q
  gets-forget wanted [] = refl
  gets-forget wanted (m ∷ q) = ap not (wanted-forgets f wanted m)

  none-forget : (o : Option (List C)) → no_cells (part (option_map (map f) o)) ≡ no_cells (part o)
  none-forget None = refl
  none-forget (Some []) = refl
  none-forget (Some (c ∷ cells)) = refl

  none_got-forgets : (g : Got C) → none_got (map_got f g) ≡ none_got g
  none_got-forgets g =
      ap (λ b. b && no_cells (part (option_map (map f) g.body))) (none-forget g.control) ∙ ap (λ b. no_cells (part g.control) && b) (none-forget g.body)

  queue_got-forgets : (g : Got C) (q : Queue C) → queue_got (map_got f g) (map_queue f q) ≡ map_queue f (queue_got g q)
  queue_got-forgets g q = ap (λ none. cond none (left_with (map_messages f g.left) (map_queue f q)) (relieved (left_with (map_messages f g.left) (map_queue f q)))) (none_got-forgets g) ∙ at (none_got g)
    where
      at : (none : Bool) → cond none (left_with (map_messages f g.left) (map_queue f q)) (relieved (left_with (map_messages f g.left) (map_queue f q))) ≡ map_queue f (cond none (left_with g.left q) (relieved (left_with g.left q)))
      at true = refl
      at false = sym (relieved-forgets f (left_with g.left q))

  pub get_queue-forgets : (wanted : Wanted) (cmax dmax : ℕ) (q : Queue C) → get_queue wanted cmax dmax (map_queue f q) ≡ map_queue f (get_queue wanted cmax dmax q)
  get_queue-forgets wanted cmax dmax q =
      rw (← get-forgets f wanted cmax dmax q.messages, gets-forget wanted q.messages, queue_got-forgets (head_get wanted cmax dmax q.messages) q) (at (gets_none wanted q.messages))
    where
      at : (none : Bool) → cond none (map_queue f q) (map_queue f (queue_got (head_get wanted cmax dmax q.messages) q)) ≡ map_queue f (cond none q (queue_got (head_get wanted cmax dmax q.messages) q))
      at true = refl
      at false = refl

  -- what goes to the reader
  part-forget : (o : Option (List C)) → part (option_map (map f) o) ≡ map f (part o)
  part-forget None = refl
  part-forget (Some xs) = refl

  got-forgets : (g : Got C) → cells_got (map_got f g) ≡ map f (cells_got g)
  got-forgets g = rw (part-forget g.control, part-forget g.body) (sym (map-append f (part g.control) (part g.body)))

  pub get_gone-forgets : (dir : Dir) (wanted : Wanted) (cmax dmax : ℕ) (q : List (Message C)) → get_gone dir wanted cmax dmax (map_messages f q) ≡ map (map_fate f) (get_gone dir wanted cmax dmax q)
  get_gone-forgets dir wanted cmax dmax q =
      rw (← get-forgets f wanted cmax dmax q, gets-forget wanted q, got-forgets (head_get wanted cmax dmax q)) (at (gets_none wanted q))
    where
      at : (none : Bool) → let xs = cells_got (head_get wanted cmax dmax q) in cond none [] (Goes dir rules.Read (map f xs) ∷ []) ≡ map (map_fate f) (cond none [] (Goes dir rules.Read xs ∷ []))
      at true = refl
      at false = refl

  let_go-forgets : (g : Got C) (q : Queue C) → writer_let_go (map_got f g) (map_queue f q) ≡ writer_let_go g q
  let_go-forgets g q =
      rw (none_got-forgets g, relieves_from-forgets f 0 g.left q.flows) refl

  pub get_lets_go-forgets : (wanted : Wanted) (cmax dmax : ℕ) (q : Queue C) → get_lets_go wanted cmax dmax (map_queue f q) ≡ get_lets_go wanted cmax dmax q
  get_lets_go-forgets wanted cmax dmax q =
      rw (← get-forgets f wanted cmax dmax q.messages, gets-forget wanted q.messages, let_go-forgets (head_get wanted cmax dmax q.messages) q) refl
