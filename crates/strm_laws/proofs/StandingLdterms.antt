-- An ldterm where it stands, and the line discipline that it is with its queues.
use Rattle.strm_laws.proofs.Prelude.{◌≡◌, Bool, List, [], ◌∷◌, map, refl, ap, ◌∙◌, arith, suc, ℕ, Option, None, Some, is_some, option_map}
use Rattle.strm_laws.specs.Prelude.{Dir, Side, Way, Down, Up, asked_first, ldterm_asks, Tagged, disciplined, Answered, Begun, Between, Discipline}
use Rattle.strm_laws.specs.Prelude.{is_between, queue_at, Rests, Stage, map_message, Message, direction_at, is_none_left, map_messages, map_pair}
use Rattle.strm_laws.specs.Prelude.{messages_on, QueuePair, stood}
use Rattle.strm_types.specs.Asking.{asked_by}
use Rattle.strm_types.specs.Ldterms.{Ldterm}
use Rattle.strm_laws.specs.Based.{number, number_ldterm}
use Rattle.strm_laws.specs.LdtermOrigins.{map_ldterm, map_own, map_stage}
use Rattle.strm_laws.specs.LdtermTurns.{ldterm_rests}
use Rattle.strm_laws.specs.LdtermWeights.{ldterm_weight}
use Rattle.strm_laws.specs.Stacked.{ldterm_stands, module_weight, OfLdterm}
use Rattle.strm_laws.proofs.Forgetting.{kind-forgets, named_band-forgets}

-- what it holds is what both hold
module _ {C : Type 0} (p : Dir → C → Bool) (side : Side) where
  pub weigh : (l : Ldterm C) (queues : Option (QueuePair C)) → module_weight p side (stood (OfLdterm l) queues) ≡ ldterm_weight p side (disciplined l queues)
  weigh l None = omega arith
  weigh l (Some pair) = omega arith

  pub weigh-stands : (d : Discipline C) → module_weight p side (ldterm_stands d) ≡ ldterm_weight p side d
  weigh-stands d = omega arith

-- and where the origins of cells are forgotten it is the same
pub at-forgets : {C D : Type 0} (f : C → D) (l : Ldterm C) (queues : Option (QueuePair C)) → disciplined (map_own f l) (option_map (map_pair f) queues) ≡ map_ldterm f (disciplined l queues)
at-forgets f l None = refl
at-forgets f l (Some pair) = refl

-- what stands on its queue of a way, as the line discipline has it
pub stands-at : {C : Type 0} (way : Way) (l : Ldterm C) (queues : Option (QueuePair C)) → (queue_at way (disciplined l queues)).messages ≡ messages_on way queues
stands-at Up l None = refl
stands-at Down l None = refl
stands-at Up l (Some pair) = refl
stands-at Down l (Some pair) = refl

-- what its queue of a way asks, and whether it rests, don't depend on the origins of cells
module _ {C D : Type 0} (f : C → D) where
  asked-same : (way : Way) (stopped : Bool) (ms : List (Message C)) → asked_first way stopped (map_messages f ms) ≡ asked_first way stopped ms
  asked-same way stopped [] = refl
  asked-same way stopped (m ∷ ms) =
      ap (λ kind. asked_by way stopped kind (map_message f m).band) (kind-forgets f m)
      ∙ ap (λ band. asked_by way stopped m.kind band) (named_band-forgets f m)

  pub asks-same : (way : Way) (d : Discipline C) → ldterm_asks way (map_ldterm f d) ≡ ldterm_asks way d
  asks-same Up d = asked-same Up d.stopped d.read_queue.messages
  asks-same Down d = asked-same Down d.stopped d.write_queue.messages

  between-same : (x : Stage C) → is_between (map_stage f x) ≡ is_between x
  between-same Between = refl
  between-same (Begun started c) = refl
  between-same (Answered echo) = refl

  work-same : (o : Option (Message C)) → is_some (option_map (map_message f) o) ≡ is_some o
  work-same None = refl
  work-same (Some m) = refl

  gathered-same : (xs : List C) → is_none_left (map f xs) ≡ is_none_left xs
  gathered-same [] = refl
  gathered-same (x ∷ xs) = refl

  pub rests-same : (l : Ldterm C) → ldterm_rests (map_own f l) ≡ ldterm_rests l
  rests-same l = rw (work-same l.in_work, gathered-same l.gathered, between-same l.stage) refl

-- and where its line is numbered and nothing of a turn is under way it is the same
pub number-forgets : (dir : Dir) (n : ℕ) (bytes : List ℕ) → map (λ (c : Tagged). c.byte) (number dir n bytes) ≡ bytes
number-forgets dir n [] = refl
number-forgets dir n (b ∷ bytes) = ap (λ xs. b ∷ xs) (number-forgets dir (suc n) bytes)

pub numbered-forgets : (side : Side) (up : ℕ) (l : Ldterm ℕ) → Rests l → map_own (λ c. c.byte) (number_ldterm side up l) ≡ l
numbered-forgets side up l idle = rw (number-forgets (direction_at Up side) up l.line, idle.0, idle.1, idle.3) refl
