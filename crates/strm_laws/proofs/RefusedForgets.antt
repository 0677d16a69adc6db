-- Whatever stands for bytes, a call is refused for the same, a turn goes on or not, and a journal is legal or not.
use Rattle.strm_laws.proofs.Prelude.{ℕ, ◌≡◌, Bool, cond, List, [], ◌∷◌, map, refl, sym, ap, subst, ◌∙◌, ◌&&◌, ◌||◌, not, is_some, option_map, Option}
use Rattle.strm_laws.proofs.Prelude.{None, Some, length-map}
use Rattle.strm_laws.specs.Prelude.{Called, Turned, Caller, Push, Pop, Look, Write, Read, Put, Get, IoctlResult, Prio, Wanted, ModuleName, Side}
use Rattle.strm_laws.specs.Prelude.{Master, Slave, Up, Down, Reach, Eagain, Einval, Enxio, Erange, Request, AreCells, Cells, plain, tagged, is_held}
use Rattle.strm_laws.specs.Prelude.{Message, get_refusal, refusal_behind, PlainEntry, QueuePair, map_pair, messages_at, messages_on, may_push, stands}
use Rattle.strm_laws.specs.Prelude.{is_closed, is_master, is_open, same_module, no_parts, put_waits, map_messages, read_refusal, needs, has_no_data}
use Rattle.strm_laws.specs.Prelude.{or_else, unless, is_free, result_refusal}
use Rattle.std.specs.List.{list_any}
use Rattle.strm_types.specs.declared.events.Event.TheVariants.{Ioctl}
use Rattle.strm_types.specs.declared.modes.Prio.TheVariants as prios
use Rattle.strm_types.specs.declared.needs.Reach.TheVariants as reaches
use Rattle.strm_laws.specs.Based.{based}
use Rattle.strm_laws.specs.Behaviours.{Behaviour}
use Rattle.strm_laws.specs.Kept.{AreIdle}
use Rattle.strm_laws.specs.Pushes.{may_stand, named_by}
use Rattle.strm_laws.specs.Refusals.{at_end, goes_down, in_range, is_numbered, is_reached, hold, refused_at_once, refused_by_state, unfit}
use Rattle.strm_laws.specs.Stacked.{Standing, map_module, module_name}
use Rattle.strm_laws.specs.State.{State, map_state, stream}
use Rattle.strm_laws.specs.Step.{IsLegal, Step, after}
use Rattle.strm_laws.specs.Writes.{is_full_below}
use Rattle.strm_types.proofs.PlainCells.{tagged-cells}
use Rattle.strm_laws.proofs.Based.{based-forgets}
use Rattle.strm_laws.proofs.Earlier.{name-forgets}
use Rattle.strm_laws.proofs.Forgetting.{kind-forgets}
use Rattle.strm_laws.proofs.ForgettingSteps.{after-forgets, call-forgets, turn-forgets}
use Rattle.strm_laws.proofs.GetKeeps.{wanted-forgets}
use Rattle.strm_laws.proofs.Past.{room-forgets}
use Rattle.strm_laws.proofs.PushForgets.{named_by-forgets, top-forgets}
use Rattle.strm_laws.proofs.ReadForgets.{refusal-forgets}
use Rattle.strm_laws.proofs.Stopping.{hold-same}

module _ {C D : Type 0} (f : C → D) where
  abbrev images : List (Standing C) → List (Standing D)
  images ps = map (map_module f) ps

  goes-same : (side : Side) (s : State C) → goes_down side (map_state f s) ≡ goes_down side s
  goes-same Master s = refl
  goes-same Slave s = refl

  open-same : (side : Side) (s : State C) → is_open (stream side (map_state f s)).opened ≡ is_open (stream side s).opened
  open-same Master s = refl
  open-same Slave s = refl

  full-same : (side : Side) (band : ℕ) (s : State C) → is_full_below band side (map_state f s) ≡ is_full_below band side s
  full-same side band s = ap (λ room. not room) (room-forgets f side Down 0 band s)

  reached-same : (side : Side) (reach : Reach) (s : State C) → is_reached side reach (map_state f s) ≡ is_reached side reach s
  reached-same side reaches.Nothing s = refl
  reached-same side reaches.Master s = refl
  reached-same side reaches.Own s = open-same side s
  reached-same side reaches.Down s = goes-same side s

  at-once : (s : State C) (caller : Caller) (asked : Request) → refused_at_once (map_state f s) caller asked ≡ refused_at_once s caller asked
  at-once s caller asked =
      let n = needs asked in
      let rest = or_else (unless (not n.masters || is_master caller.side) Einval) (or_else n.wrong (or_else (unless (not n.numbered || is_numbered s) Erange) (unless (not n.makes || in_range s) Erange))) in
      ap (λ b. or_else (unless b Enxio) rest) (reached-same caller.side n.reach s)

  -- the end of input
  any-held : (ms : List (Message C)) → list_any (λ m. is_held m.kind) (map_messages f ms) ≡ list_any (λ m. is_held m.kind) ms
  any-held [] = refl
  any-held (m ∷ ms) = ap (λ kind. is_held kind || list_any (λ m. is_held m.kind) (map_messages f ms)) (kind-forgets f m) ∙ ap (λ b. is_held m.kind || b) (any-held ms)

  no-data : (ms : List (Message C)) → has_no_data (map_messages f ms) ≡ has_no_data ms
  no-data ms = ap (λ b. not b) (any-held ms)

  on-same : (queues : Option (QueuePair C)) → has_no_data (messages_on Up (option_map (map_pair f) queues)) ≡ has_no_data (messages_on Up queues)
  on-same None = refl
  on-same (Some pair) = no-data pair.read.messages

  waits-up : (ps : List (Standing C)) → list_any (λ p. not (has_no_data (messages_at Up p))) (images ps) ≡ list_any (λ p. not (has_no_data (messages_at Up p))) ps
  waits-up [] = refl
  waits-up (p ∷ ps) =
      ap (λ b. not b || list_any (λ p. not (has_no_data (messages_at Up p))) (images ps)) (on-same p.queues) ∙ ap (λ b. not (has_no_data (messages_at Up p)) || b) (waits-up ps)

  end-same : (side : Side) (s : State C) → at_end side (map_state f s) ≡ at_end side s
  end-same Slave s = refl
  end-same Master s =
      let hung = s.ends.master.head.hung_up in
      let closed = is_closed s.ends.slave.opened in
      rw (no-data s.ends.slave.driver.queue.messages, waits-up s.ends.master.modules, no-data s.ends.master.head.queue.messages) refl

  -- what the state says
  read-same : (side : Side) (n : ℕ) (s : State C) → (let h = (stream side (map_state f s)).head in read_refusal h.control_mode (at_end side (map_state f s)) n h.queue.messages) ≡ (let h = (stream side s).head in read_refusal h.control_mode (at_end side s) n h.queue.messages)
  read-same Master n s = ap (λ b. read_refusal s.ends.master.head.control_mode b n (map_messages f s.ends.master.head.queue.messages)) (end-same Master s) ∙ refusal-forgets f s.ends.master.head.control_mode (at_end Master s) n s.ends.master.head.queue.messages
  read-same Slave n s = refusal-forgets f s.ends.slave.head.control_mode (at_end Slave s) n s.ends.slave.head.queue.messages

  get-refusal : (wanted : Wanted) (end : Bool) (ms : List (Message C)) → get_refusal wanted end (map_messages f ms) ≡ get_refusal wanted end ms
  get-refusal wanted end [] = refl
  get-refusal wanted end (m ∷ ms) = ap (λ b. cond b None (Some Eagain)) (wanted-forgets f wanted m)

  get-same : (side : Side) (wanted : Wanted) (s : State C) → get_refusal wanted (at_end side (map_state f s)) (stream side (map_state f s)).head.queue.messages ≡ get_refusal wanted (at_end side s) (stream side s).head.queue.messages
  get-same Master wanted s = ap (λ b. get_refusal wanted b (map_messages f s.ends.master.head.queue.messages)) (end-same Master s) ∙ get-refusal wanted (at_end Master s) s.ends.master.head.queue.messages
  get-same Slave wanted s = get-refusal wanted (at_end Slave s) s.ends.slave.head.queue.messages

  put-same : (prio : Prio) (control body : Option (List ℕ)) (side : Side) (s : State C) → put_waits prio control body (λ band. is_full_below band side (map_state f s)) ≡ put_waits prio control body (λ band. is_full_below band side s)
  put-same prios.High control body side s = refl
  put-same (prios.Band band) control body side s = ap (λ b. not (no_parts control body) && b) (full-same side band.0 s)

  named-same : (p : Standing C) → module_name (map_module f p) ≡ module_name p
  named-same p = name-forgets f p

  stands-same : (name : ModuleName) (ps : List (Standing C)) → stands module_name name (images ps) ≡ stands module_name name ps
  stands-same name [] = refl
  stands-same name (p ∷ ps) = ap (λ n. same_module n name || stands module_name name (images ps)) (named-same p) ∙ ap (λ b. same_module (module_name p) name || b) (stands-same name ps)

  may-push : (p : Standing C) (ps : List (Standing C)) → may_push module_name (map_module f p) (images ps) ≡ may_push module_name p ps
  may-push p ps =
      rw (length-map ps (map_module f), named-same p, stands-same (module_name p) ps) refl

  may-same : (p : Option (Standing C)) (ps : List (Standing C)) → may_stand (option_map (map_module f) p) (images ps) ≡ may_stand p ps
  may-same None ps = refl
  may-same (Some p) ps = may-push p ps

  push-same : (K : Behaviour) (side : Side) (name : Option ModuleName) (s : State C) → may_stand (named_by K name) (stream side (map_state f s)).modules ≡ may_stand (named_by K name) (stream side s).modules
  push-same K Master name s = ap (λ (p : Option (Standing D)). may_stand p (images s.ends.master.modules)) (named_by-forgets f K name) ∙ may-same (named_by K name) s.ends.master.modules
  push-same K Slave name s = ap (λ (p : Option (Standing D)). may_stand p (images s.ends.slave.modules)) (named_by-forgets f K name) ∙ may-same (named_by K name) s.ends.slave.modules

  slot-same : (side : Side) (s : State C) → (stream side (map_state f s)).head.ioctl ≡ (stream side s).head.ioctl
  slot-same Master s = refl
  slot-same Slave s = refl

  fits-same : (K : Behaviour) (s : State C) (caller : Caller) (asked : Request) → unfit K (map_state f s) caller asked ≡ unfit K s caller asked
  fits-same K s caller (Write bytes) = ap (λ b. unless (not b) Eagain) (full-same caller.side 0 s)
  fits-same K s caller (Read n) = read-same caller.side n s
  fits-same K s caller (Put prio control body) = ap (λ b. unless (not b) Eagain) (put-same prio control body caller.side s)
  fits-same K s caller (Get wanted cmax dmax) = get-same caller.side wanted s
  fits-same K s caller (Ioctl command body) = ap (λ slot. unless (is_free slot) Eagain) (slot-same caller.side s)
  fits-same K s caller (IoctlResult number) = ap (λ slot. result_refusal number slot) (slot-same caller.side s)
  fits-same K s caller (Push name) = ap (λ b. unless b Einval) (push-same K caller.side name s)
  fits-same K s caller Pop = ap (λ name. unless (is_some name) Einval) (top-forgets f caller.side s)
  fits-same K s caller Look = ap (λ name. unless (is_some name) Einval) (top-forgets f caller.side s)
  fits-same K s caller _ = refl

  by-state : (K : Behaviour) (s : State C) (caller : Caller) (asked : Request) → refused_by_state K (map_state f s) caller asked
      ≡ refused_by_state K s caller asked
  by-state K s caller asked = ap (λ v. refusal_behind v (unfit K (map_state f s) caller asked)) (hold-same f s caller asked) ∙ ap (λ r. refusal_behind (hold s caller asked) r) (fits-same K s caller asked)

  pub refusals-forget : (K : Behaviour) (s : State C) (caller : Caller) (asked : Request) → or_else (refused_at_once (map_state f s) caller asked) (refused_by_state K (map_state f s) caller asked) ≡ or_else (refused_at_once s caller asked) (refused_by_state K s caller asked)
  refusals-forget K s caller asked = ap (λ r. or_else r (refused_by_state K (map_state f s) caller asked)) (at-once s caller asked) ∙ ap (λ r. or_else (refused_at_once s caller asked) r) (by-state K s caller asked)

-- a journal is legal of bytes exactly where it is of bytes with their origin
module _ {C : Type 0} (cells : Cells C) (are : AreCells cells) where
  abbrev forgotten : State C → State ℕ
  forgotten s = map_state cells.byte s

  step-same : (K : Behaviour) (s : State C) (entry : PlainEntry) → Step K plain (forgotten s) entry (after K plain (forgotten s) entry) → Step K cells s entry (after K cells s entry)
  step-same K s (Called caller asked answer) step = record {
    allowed = sym (refusals-forget cells.byte K s caller asked) ∙ step.allowed;
    answered = sym (ap (λ t. t.answer) (call-forgets cells are K caller asked s)) ∙ step.answered;
    leads = refl;
  }
  step-same K s (Turned name turn) step = record {
    enabled = step.enabled;
    in_range = step.in_range;
    answered = sym (ap (λ t. t.turn) (turn-forgets cells are K name turn s)) ∙ step.answered;
    leads = refl;
  }

  step-back : (K : Behaviour) (s : State C) (entry : PlainEntry) → Step K cells s entry (after K cells s entry) → Step K plain (forgotten s) entry (after K plain (forgotten s) entry)
  step-back K s (Called caller asked answer) step = record {
    allowed = refusals-forget cells.byte K s caller asked ∙ step.allowed;
    answered = ap (λ t. t.answer) (call-forgets cells are K caller asked s) ∙ step.answered;
    leads = refl;
  }
  step-back K s (Turned name turn) step = record {
    enabled = step.enabled;
    in_range = step.in_range;
    answered = ap (λ t. t.turn) (turn-forgets cells are K name turn s) ∙ step.answered;
    leads = refl;
  }

  pub legal-with-origins : (K : Behaviour) (s : State C) (entries : List PlainEntry) → IsLegal K plain (forgotten s) entries
      → IsLegal K cells s entries
  legal-with-origins K s [] legal = tt
  legal-with-origins K s (entry ∷ entries) legal =
      (step-same K s entry legal.0, legal-with-origins K (after K cells s entry) entries (subst (λ t. IsLegal K plain t entries) (after-forgets cells are K s entry) legal.1))

  pub legal-without : (K : Behaviour) (s : State C) (entries : List PlainEntry) → IsLegal K cells s entries → IsLegal K plain (forgotten s) entries
  legal-without K s [] legal = tt
  legal-without K s (entry ∷ entries) legal =
      (step-back K s entry legal.0, subst (λ t. IsLegal K plain t entries) (sym (after-forgets cells are K s entry)) (legal-without K (after K cells s entry) entries legal.1))

-- so a journal that is legal from a base is so with the origins of the base
pub legal-from : (K : Behaviour) (base : State ℕ) (entries : List PlainEntry) → AreIdle base → IsLegal K plain base entries
    → IsLegal K tagged (based base) entries
legal-from K base entries idle legal = legal-with-origins tagged tagged-cells K (based base) entries (subst (λ s. IsLegal K plain s entries) (sym (based-forgets base idle)) legal)
