-- Forgetting the origins of cells commutes with pushes and pops.
use Rattle.strm_laws.proofs.Prelude.{ℕ, ◌≡◌, Bool, true, false, cond, List, [], ◌∷◌, ◌++◌, map, refl, sym, ap, ◌∙◌, ◌||◌, not, flat_map, Option, None}
use Rattle.strm_laws.proofs.Prelude.{Some, option_map, map-append}
use Rattle.strm_laws.specs.Prelude.{ReadMode, ModuleName, Place, Driver, QueueName, Side, Master, Slave, Way, Up, Down, Einval, Rule}
use Rattle.strm_laws.specs.Prelude.{ModulePopped, Free, Waiting, Acted, Carried, Fate, Took, has_ioctl, slot_dropped, of_all, Message, map_message}
use Rattle.strm_laws.specs.Prelude.{QueuePair, has_queues, map_pair, messages_at, messages_on as waiting_on, stood, top_name, without_module}
use Rattle.strm_laws.specs.Prelude.{enable_if, place_of, same_module, number_of, mode_message, map_acted, map_carried, map_fate, is_none_left}
use Rattle.strm_laws.specs.Prelude.{map_messages}
use Rattle.strm_laws.specs.Prelude.{PlainSlot, cleared, line_gone, queues_cleared}
use Rattle.strm_types.specs.declared.names.Place.TheVariants.{Head}
use Rattle.strm_types.specs.declared.names.Place.TheVariants as places
use Rattle.strm_types.specs.declared.slots.Slot.TheVariants.{Answered}
use Rattle.strm_types.specs.Dropped.{is_ioctl_of}
use Rattle.strm_laws.specs.Behaviours.{Behaviour}
use Rattle.strm_laws.specs.Earlier.{before_at}
use Rattle.strm_laws.specs.Pushes.{all_taken, below_top, enable_waiting, head_above, ioctl_dropped, is_known, let_come, messages_of, messages_on, messages_there, mode_behind, mode_on_push, mode_put, module_named, modules_emptied, named_by, popped, pushed, pushed_named, taken_off, top_on, top_taken, with_modules, without_top}
use Rattle.strm_laws.specs.Puts.{earlier_at, noted, put_at_head}
use Rattle.strm_laws.specs.Stacked.{Module, Standing, kind_line, map_kind, map_module, module_name, without_kind_line}
use Rattle.strm_laws.specs.State.{State, Stream, stream, map_state, map_stream, with_ioctl}
use Rattle.strm_laws.proofs.Earlier.{before_at-forgets, name-forgets, queue-forgets}
use Rattle.strm_laws.proofs.EmptiedForgets.{gone-forgets, queue_behind-forgets, stream-forgets, writer_goes-forgets}
use Rattle.strm_laws.proofs.Forgetting.{kind-forgets, none-forgets}
use Rattle.strm_laws.proofs.LdtermPutForgets.{line_gone-forgets}
use Rattle.strm_laws.proofs.PutForgets.{mode-forgets, bytes-forget, parts-forget}
use Rattle.strm_laws.proofs.PutsForget.{head-forgets, notes-forget}
use Rattle.strm_laws.proofs.LawfulKinds.{lawful, new}

-- a module that is let go, from what its queues let go and its line
abbrev joined : {E : Type 0} → Module E → Acted E (Option (QueuePair E)) → List (Fate E) → Acted E (Option (QueuePair E)) → Acted E (Standing E)
joined part above line below = record {
  state = record { part = part; queues = below.state };
  notes = above.notes ++ below.notes;
  sent = [];
  gone = above.gone ++ (line ++ below.gone);
}

abbrev pub clears : {E : Type 0} → Side → Rule → Standing E → Acted E (Standing E)
clears side rule p = cleared kind_line without_kind_line side rule p

-- a pair on whose stream of a side the module on top was let go so, with these queues enabled
abbrev taken : {E : Type 0} → Side → List (Standing E) → List (Fate E) → List QueueName → State E → Carried E (State E)
taken side ps gone names s = record { state = record (with_modules side ps s) { enabled = names }; gone = gone }

module _ {C D : Type 0} (f : C → D) where
  abbrev images : List (Standing C) → List (Standing D)
  images ps = map (map_module f) ps

  abbrev image : Carried C (State C) → Carried D (State D)
  image t = map_carried f (map_state f) t

  abbrev map_queues : Option (QueuePair C) → Option (QueuePair D)
  map_queues queues = option_map (map_pair f) queues

  queues-forget : (side : Side) (rule : Rule) (way : Way) (queues : Option (QueuePair C)) → queues_cleared side rule way (map_queues queues) ≡ map_acted f map_queues (queues_cleared side rule way queues)
  queues-forget side rule way None = refl
  queues-forget side rule Up (Some pair) =
      rw (queue_behind-forgets f of_all pair.read, writer_goes-forgets f of_all pair.read, gone-forgets f of_all pair.read.messages) refl
  queues-forget side rule Down (Some pair) =
      rw (queue_behind-forgets f of_all pair.write, writer_goes-forgets f of_all pair.write, gone-forgets f of_all pair.write.messages) refl

  joined-forgets-all : (part : Module C) (above : Acted C (Option (QueuePair C))) (line : List (Fate C)) (below : Acted C (Option (QueuePair C)))
      → joined (map_kind f part) (map_acted f map_queues above) (map (map_fate f) line) (map_acted f map_queues below) ≡ map_acted f (map_module f) (joined part above line below)
  joined-forgets-all part above line below =
      ap (λ (gone : List (Fate D)). record { state = map_module f (stood part below.state); notes = above.notes ++ below.notes; sent = []; gone = gone })
      (ap (λ xs. map (map_fate f) above.gone ++ xs) (sym (map-append (map_fate f) line below.gone)) ∙ sym (map-append (map_fate f) above.gone (line ++ below.gone)))

  pub clears-forget : (side : Side) (rule : Rule) (p : Standing C) → clears side rule (map_module f p) ≡ map_acted f (map_module f) (clears side rule p)
  clears-forget side rule p =
      let bare = without_kind_line (map_kind f p.part) in
      let above = queues_cleared side rule Up p.queues in
      let below = queues_cleared side rule Down above.state in
      let lost = line_gone side rule (kind_line (map_kind f p.part)) in
      let up = map_acted f map_queues above in
      ap (λ (t : Acted D (Option (QueuePair D))). joined bare t lost (queues_cleared side rule Down t.state)) (queues-forget side rule Up p.queues)
      ∙ ap (λ (t : Acted D (Option (QueuePair D))). joined bare up lost t) (queues-forget side rule Down above.state)
      ∙ ap (λ (line : List (Fate D)). joined bare up line (map_acted f map_queues below))
      (ap (λ xs. line_gone side rule xs) ((lawful p).image f).line ∙ line_gone-forgets f side rule (kind_line p.part))
      ∙ ap (λ (part : Module D). joined part up (map (map_fate f) (line_gone side rule (kind_line p.part))) (map_acted f map_queues below))
      ((lawful p).image f).lineless
      ∙ joined-forgets-all (without_kind_line p.part) above (line_gone side rule (kind_line p.part)) below

  -- the module on top, and all of them
  taken-forgets : (side : Side) (ps : List (Standing C)) (gone : List (Fate C)) (names : List QueueName) (s : State C)
      → taken side (images ps) (map (map_fate f) gone) names (map_state f s) ≡ image (taken side ps gone names s)
  taken-forgets Master ps gone names s = refl
  taken-forgets Slave ps gone names s = refl

  without_top-forgets : (side : Side) (name : ModuleName) (ps : List (Standing C)) (t : Acted C (Standing C)) (s : State C)
      → without_top side name (images ps) (map_acted f (map_module f) t) (map_state f s) ≡ image (without_top side name ps t s)
  without_top-forgets side name ps t s =
      ap (λ (names : List QueueName). taken side (images ps) (map (map_fate f) t.gone) (without_module side name names) (map_state f s)) (notes-forget f side (place_of name) 1 t.notes s.enabled s)
      ∙ taken-forgets side ps t.gone (without_module side name (noted side (place_of name) (earlier_at side 1 s) t.notes s.enabled)) s

  top_taken-forgets : (rule : Rule) (side : Side) (ps : List (Standing C)) (s : State C) → top_taken rule side (images ps) (map_state f s) ≡ image (top_taken rule side ps s)
  top_taken-forgets rule side [] s = refl
  top_taken-forgets rule side (p ∷ ps) s =
      ap (λ name. without_top side name (images ps) (clears side rule (map_module f p)) (map_state f s)) (name-forgets f p)
      ∙ ap (λ (t : Acted D (Standing D)). without_top side (module_name p) (images ps) t (map_state f s)) (clears-forget side rule p)
      ∙ without_top-forgets side (module_name p) ps (clears side rule p) s

  joined-forgets : (t u : Carried C (State C)) → record { state = map_state f u.state; gone = map (map_fate f) t.gone ++ map (map_fate f) u.gone } ≡ image (record { state = u.state; gone = t.gone ++ u.gone })
  joined-forgets t u = ap (λ (gone : List (Fate D)). record { state = map_state f u.state; gone = gone }) (sym (map-append (map_fate f) t.gone u.gone))

  all_taken-forgets : (rule : Rule) (side : Side) (ps : List (Standing C)) (s : State C) → all_taken rule side (images ps) (map_state f s) ≡ image (all_taken rule side ps s)
  all_taken-forgets rule side [] s = refl
  all_taken-forgets rule side (p ∷ ps) s =
      let t = top_taken rule side (p ∷ ps) s in
      ap (λ (x : Carried D (State D)). let u = all_taken rule side (images ps) x.state in record { state = u.state; gone = x.gone ++ u.gone }) (top_taken-forgets rule side (p ∷ ps) s)
      ∙ ap (λ (u : Carried D (State D)). record { state = u.state; gone = map (map_fate f) t.gone ++ u.gone }) (all_taken-forgets rule side ps t.state)
      ∙ joined-forgets t (all_taken rule side ps t.state)

  pub modules_emptied-forgets : (rule : Rule) (side : Side) (s : State C) → modules_emptied rule side (map_state f s) ≡ image (modules_emptied rule side s)
  modules_emptied-forgets rule side s =
      ap (λ (t : Stream D). all_taken rule side t.modules (map_state f s)) (stream-forgets f side s) ∙ all_taken-forgets rule side (stream side s).modules s

  -- the head's read mode
  mode_put-forgets : (side : Side) (mode : Option ReadMode) (s : State C) → mode_put side mode (map_state f s) ≡ image (mode_put side mode s)
  mode_put-forgets side None s = refl
  mode_put-forgets side (Some mode) s =
      ap (λ (m : Message D). carried_of (put_at_head side (head_above side) m (map_state f s))) (sym (mode-forgets f mode false))
      ∙ ap (λ (t : Took D (State D)). carried_of t) (head-forgets f side (head_above side) (mode_message mode false) s)
    where
      carried_of : {E : Type 0} → Took E (State E) → Carried E (State E)
      carried_of t = record { state = t.state; gone = t.gone }

  -- a push
  on-forgets : (way : Way) (queues : Option (QueuePair C)) → waiting_on way (map_queues queues) ≡ map_messages f (waiting_on way queues)
  on-forgets way None = refl
  on-forgets Up (Some pair) = refl
  on-forgets Down (Some pair) = refl

  -- what stands on the queues of modules of a name
  of-forgets : (name : ModuleName) (way : Way) (p : Standing C) → messages_of name way (map_module f p) ≡ map_messages f (messages_of name way p)
  of-forgets name way p =
      ap (λ (n : ModuleName). cond (same_module n name) (messages_at way (map_module f p)) []) (name-forgets f p) ∙ at (same_module (module_name p) name)
    where
      at : (same : Bool) → cond same (messages_at way (map_module f p)) [] ≡ map_messages f (cond same (messages_at way p) [])
      at true = on-forgets way p.queues
      at false = refl

  all-there : (name : ModuleName) (way : Way) (ps : List (Standing C)) → flat_map (messages_of name way) (images ps) ≡ map_messages f (flat_map (messages_of name way) ps)
  all-there name way [] = refl
  all-there name way (p ∷ ps) =
      ap (λ ms. ms ++ flat_map (messages_of name way) (images ps)) (of-forgets name way p)
      ∙ ap (λ ms. map_messages f (messages_of name way p) ++ ms) (all-there name way ps)
      ∙ sym (map-append (map_message f) (messages_of name way p) (flat_map (messages_of name way) ps))

  there-forgets : (place : Place) (way : Way) (t : Stream C) → messages_there place way (map_stream f t) ≡ map_messages f (messages_there place way t)
  there-forgets Head way t = refl
  there-forgets Driver way t = refl
  there-forgets (places.Module name) way t = all-there name way t.modules

  none_waits-forgets : (name : QueueName) (s : State C) → is_none_left (messages_on name (map_state f s)) ≡ is_none_left (messages_on name s)
  none_waits-forgets name s =
      rw (stream-forgets f name.side s, there-forgets name.place name.way (stream name.side s)) (none-forgets f (map_message f) (messages_on name s))

  waiting-forgets : (earlier : Option QueueName) (s : State C) → enable_waiting earlier (map_state f s) ≡ enable_waiting earlier s
  waiting-forgets None s = refl
  waiting-forgets (Some name) s = ap (λ (none : Bool). enable_if (not none) name s.enabled) (none_waits-forgets name s)

  let_come-forgets : (reads : Bool) (side : Side) (s : State C) → let_come reads side (map_state f s) ≡ map_state f (let_come reads side s)
  let_come-forgets false side s = refl
  let_come-forgets true side s =
      rw (before_at-forgets f side Up 1 s, waiting-forgets (before_at side Up 1 s) s) refl

  with_modules-forgets : (side : Side) (ps : List (Standing C)) (s : State C) → with_modules side (images ps) (map_state f s) ≡ map_state f (with_modules side ps s)
  with_modules-forgets Master ps s = refl
  with_modules-forgets Slave ps s = refl

  pushed-forgets : (side : Side) (p : Standing C) (s : State C) → pushed side (map_module f p) (map_state f s) ≡ image (pushed side p s)
  pushed-forgets side p s =
      let mode = mode_on_push (module_name p) in
      let reads = has_queues p in
      let on = with_modules side (p ∷ (stream side s).modules) s in
      ap (λ (name : ModuleName). let t = mode_put side (mode_on_push name) (with_modules side (map_module f p ∷ (stream side (map_state f s)).modules) (map_state f s)) in record { state = let_come (has_queues (map_module f p)) side t.state; gone = t.gone }) (name-forgets f p)
      ∙ ap (λ (b : Bool). let t = mode_put side mode (with_modules side (map_module f p ∷ (stream side (map_state f s)).modules) (map_state f s)) in record { state = let_come b side t.state; gone = t.gone }) (queue-forgets f p)
      ∙ ap (λ (x : Stream D). let t = mode_put side mode (with_modules side (map_module f p ∷ x.modules) (map_state f s)) in record { state = let_come reads side t.state; gone = t.gone }) (stream-forgets f side s)
      ∙ ap (λ (x : State D). let t = mode_put side mode x in record { state = let_come reads side t.state; gone = t.gone }) (with_modules-forgets side (p ∷ (stream side s).modules) s)
      ∙ ap (λ (t : Carried D (State D)). record { state = let_come reads side t.state; gone = t.gone }) (mode_put-forgets side mode on)
      ∙ ap (λ (x : State D). record { state = x; gone = map (map_fate f) (mode_put side mode on).gone }) (let_come-forgets reads side (mode_put side mode on).state)

  pub named_by-forgets : (K : Behaviour) (name : Option ModuleName) → named_by K name ≡ option_map (map_module f) (named_by K name)
  named_by-forgets K None = refl
  named_by-forgets K (Some name) = at (is_known K name)
    where
      at : (known : Bool) → cond known (Some (module_named {C = D} K name)) None
          ≡ option_map (map_module f) (cond known (Some (module_named {C = C} K name)) None)
      at true = ap (λ p. Some p) ((new K name).forgets f)
      at false = refl

  of_named-forgets : (side : Side) (p : Option (Standing C)) (s : State C) → pushed_named side (option_map (map_module f) p) (map_state f s) ≡ image (pushed_named side p s)
  of_named-forgets side None s = refl
  of_named-forgets side (Some p) s = pushed-forgets side p s

  pub push-forgets : (K : Behaviour) (side : Side) (name : Option ModuleName) (s : State C) → pushed_named side (named_by K name) (map_state f s) ≡ image (pushed_named side (named_by K name) s)
  push-forgets K side name s =
      ap (λ (p : Option (Standing D)). pushed_named side p (map_state f s)) (named_by-forgets K name) ∙ of_named-forgets side (named_by K name) s

  -- a pop
  top_name-forgets : (ps : List (Standing C)) → top_name module_name (images ps) ≡ top_name module_name ps
  top_name-forgets [] = refl
  top_name-forgets (p ∷ ps) = ap (λ name. Some name) (name-forgets f p)

  pub top-forgets : (side : Side) (s : State C) → top_on side (map_state f s) ≡ top_on side s
  top-forgets side s = ap (λ (t : Stream D). top_name module_name t.modules) (stream-forgets f side s) ∙ top_name-forgets (stream side s).modules

  off-forgets : (side : Side) (s : State C) → taken_off side (map_state f s) ≡ image (taken_off side s)
  off-forgets side s =
      let ps = (stream side s).modules in
      let t = top_taken ModulePopped side ps s in
      let mode = mode_behind (top_on side s) in
      rw (top-forgets side s, stream-forgets f side s, top_taken-forgets ModulePopped side ps s, mode_put-forgets side mode t.state) (joined-forgets t (mode_put side mode t.state))

  -- the ioctl whose M_IOCTL goes
  below-forgets : (ps : List (Standing C)) → below_top (images ps) ≡ map_messages f (below_top ps)
  below-forgets [] = refl
  below-forgets (p ∷ ps) = on-forgets Down p.queues

  ioctl-forgets : (number : ℕ) (m : Message C) → is_ioctl_of number (map_message f m) ≡ is_ioctl_of number m
  ioctl-forgets number m =
      rw (kind-forgets f m, parts-forget f m, bytes-forget f m) refl

  ioctls-forget : (number : ℕ) (ms : List (Message C)) → has_ioctl number (map_messages f ms) ≡ has_ioctl number ms
  ioctls-forget number [] = refl
  ioctls-forget number (m ∷ ms) = ap (λ b. b || has_ioctl number (map_messages f ms)) (ioctl-forgets number m) ∙ ap (λ b. is_ioctl_of number m || b) (ioctls-forget number ms)

  slot-forgets : (ms : List (Message C)) (slot : PlainSlot) → slot_dropped (map_messages f ms) slot ≡ slot_dropped ms slot
  slot-forgets ms Free = refl
  slot-forgets ms (Waiting number command) = ap (λ b. cond b (Answered number command false (number_of Einval) []) (Waiting number command)) (ioctls-forget number ms)
  slot-forgets ms (Answered number command acked error body) = refl

  dropped-forgets : (side : Side) (ms : List (Message C)) (s : State C) → ioctl_dropped side (map_messages f ms) (map_state f s) ≡ map_state f (ioctl_dropped side ms s)
  dropped-forgets Master ms s = ap (λ (slot : PlainSlot). with_ioctl Master slot (map_state f s)) (slot-forgets ms s.ends.master.head.ioctl)
  dropped-forgets Slave ms s = ap (λ (slot : PlainSlot). with_ioctl Slave slot (map_state f s)) (slot-forgets ms s.ends.slave.head.ioctl)

  pub pop-forgets : (side : Side) (s : State C) → popped side (map_state f s) ≡ image (popped side s)
  pop-forgets side s =
      let t = taken_off side s in
      let ps = (stream side s).modules in
      ap (λ (t : Carried D (State D)). record { state = ioctl_dropped side (below_top (stream side (map_state f s)).modules) t.state; gone = t.gone }) (off-forgets side s)
      ∙ ap (λ (on : Stream D). record { state = ioctl_dropped side (below_top on.modules) (map_state f t.state); gone = map (map_fate f) t.gone }) (stream-forgets f side s)
      ∙ ap (λ (ms : List (Message D)). record { state = ioctl_dropped side ms (map_state f t.state); gone = map (map_fate f) t.gone }) (below-forgets ps)
      ∙ ap (λ (x : State D). record { state = x; gone = map (map_fate f) t.gone }) (dropped-forgets side (below_top ps) t.state)
