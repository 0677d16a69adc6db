-- Replaying longer journals, and what a call or a turn that isn't refused is.
use Rattle.strm_laws.proofs.Prelude.{◌≡◌, Bool, true, false, List, [], ◌∷◌, ◌++◌, length, refl, sym, ap, subst, ◌∙◌, Option, None, Some, not, ◌||◌}
use Rattle.strm_laws.specs.Prelude.{Caller, Config, QueueName, Refusal, Einval, Enosr, Enxio, Erange, JournalFull, Side, Needs, is_enabled, is_master}
use Rattle.strm_laws.specs.Prelude.{needs, Request, payload_of, Called, Turned, Cells, PlainEntry, content_max, or_else, unless}
use Rattle.std.specs.Prelude.{Result, Err, IsOk, MatchOption, ◌+◌}
use Rattle.strm_laws.specs.Behaviours.{Behaviour}
use Rattle.strm_laws.specs.State.{State}
use Rattle.strm_laws.specs.Refusals.{in_range, is_numbered, is_reached, has_room, refused, refused_at_once, refused_by_state, turn_refused, unfit, unmet}
use Rattle.strm_laws.specs.Step.{Step, after, replay, IsLegal}

module _ {C : Type 0} (K : Behaviour) (cells : Cells C) where
  -- a longer journal goes on from where the shorter one leads
  pub replay-append : (s : State C) (es fs : List PlainEntry) → replay K cells s (es ++ fs) ≡ replay K cells (replay K cells s es) fs
  replay-append s [] fs = refl
  replay-append s (e ∷ es) fs = replay-append (after K cells s e) es fs

  -- a step leads to the state behind its entry
  pub after-step : (s t : State C) (e : PlainEntry) → Step K cells s e t → after K cells s e ≡ t
  after-step s t (Called caller asked answer) step = step.leads
  after-step s t (Turned name turn) step = step.leads

  -- a legal journal stays legal with one more step
  pub legal-push : (s : State C) (es : List PlainEntry) (e : PlainEntry) → IsLegal K cells s es → Step K cells (replay K cells s es) e (after K cells (replay K cells s es) e) → IsLegal K cells s (es ++ e ∷ [])
  legal-push s [] e legal step = (step, tt)
  legal-push s (f ∷ es) e legal step = (legal.0, legal-push (after K cells s f) es e legal.1 step)

  -- one more step after a legal journal: what it leads to is the replay, which is legal
  pub kept-replayed : (base s t : State C) (es : List PlainEntry) (e : PlainEntry) → s ≡ replay K cells base es → Step K cells s e t → t ≡ replay K cells base (es ++ e ∷ [])
  kept-replayed base s t es e is step =
      sym (after-step s t e step) ∙ ap (λ q. after K cells q e) is ∙ sym (replay-append base es (e ∷ []))

  pub kept-legal : (base s t : State C) (es : List PlainEntry) (e : PlainEntry) → s ≡ replay K cells base es → Step K cells s e t → IsLegal K cells base es → IsLegal K cells base (es ++ e ∷ [])
  kept-legal base s t es e is step legal =
      legal-push base es e legal
      (subst (λ q. Step K cells q e (after K cells q e)) is (subst (λ u. Step K cells s e u) (sym (after-step s t e step)) step))

-- where a call was refused it was for the reason that there is, and all is as it was
pub refused-by : {A K : Type 0} (o : Option Refusal) (x : Result A Refusal) → MatchOption o (IsOk x) (λ r. (x ≡ Err r) × K) → (r : Refusal) → x ≡ Err r → (o ≡ Some r) × K
refused-by {A} None x is r err = let e : Result A Refusal = Err r in let wrong : IsOk e = subst (λ y. IsOk y) err is in absurd (cc)
refused-by (Some z) x is r err = (ap (λ y. Some y) (same-reason z r (sym is.0 ∙ err)), is.1)
  where
    same-reason : {A : Type 0} (z r : Refusal) → (let e : Result A Refusal = Err z in e) ≡ Err r → z ≡ r
    same-reason z r e = cc

-- a refusal that doesn't come
pub unless-none : (b : Bool) (r : Refusal) → unless b r ≡ None → b ≡ true
unless-none true r h = refl
unless-none false r h = absurd (cc)

pub or_else-none : (a b : Option Refusal) → or_else a b ≡ None → (a ≡ None) × (b ≡ None)
or_else-none None b h = (refl, h)
or_else-none (Some r) b h = absurd (cc)

module _ {C : Type 0} where
  -- what is asked is there: the stream, arguments with which nothing is wrong, and room in the books
  pub record Met (s : State C) (side : Side) (n : Needs) : Type 0 where
    pub reached : is_reached side n.reach s ≡ true
    pub right : n.wrong ≡ None
    pub numbered : (not n.numbered || is_numbered s) ≡ true
    pub booked : (not n.makes || in_range s) ≡ true

  pub met : (s : State C) (side : Side) (n : Needs) → unmet s side n ≡ None → Met s side n
  met s side n none =
      let first = or_else-none (unless (is_reached side n.reach s) Enxio) _ none in
      let second = or_else-none (unless (not n.masters || is_master side) Einval) _ first.1 in
      let third = or_else-none n.wrong _ second.1 in
      let fourth = or_else-none (unless (not n.numbered || is_numbered s) Erange) _ third.1 in
      record { reached = unless-none _ _ first.0; right = third.0; numbered = unless-none _ _ fourth.0; booked = unless-none _ _ fourth.1 }

  -- and so of a call that isn't refused, whatever is asked behind that
  pub allowed-met : (K : Behaviour) (s : State C) (caller : Caller) (asked : Request) → or_else (refused_at_once s caller asked) (refused_by_state K s caller asked) ≡ None → Met s caller.side (needs asked)
  allowed-met K s caller asked allowed = met s caller.side (needs asked) (or_else-none (refused_at_once s caller asked) _ allowed).0

  pub fitting-met : (K : Behaviour) (s : State C) (caller : Caller) (asked : Request) → or_else (refused_at_once s caller asked) (unfit K s caller asked) ≡ None → Met s caller.side (needs asked)
  fitting-met K s caller asked allowed = met s caller.side (needs asked) (or_else-none (refused_at_once s caller asked) _ allowed).0

  -- a call that isn't refused: nothing refuses it at once or by the state, the journal has room, blocks are free
  pub call-allowed : (K : Behaviour) (s : State C) (es : List PlainEntry) (limits : Config) (has_blocks : Bool) (caller : Caller) (asked : Request) → refused K s es limits has_blocks caller asked ≡ None
      → (or_else (refused_at_once s caller asked) (refused_by_state K s caller asked) ≡ None)
      × (has_room es limits (length (payload_of asked) + content_max asked) ≡ true)
      × (has_blocks ≡ true)
  call-allowed K s es limits has_blocks caller asked h =
      let first = or_else-none (refused_at_once s caller asked) _ h in
      let second = or_else-none (unless (has_room es limits (length (payload_of asked) + content_max asked)) JournalFull) _ first.1 in
      let third = or_else-none (unless has_blocks Enosr) _ second.1 in
      (ap (λ r. or_else r (refused_by_state K s caller asked)) first.0 ∙ third.1, unless-none _ _ second.0, unless-none _ _ third.0)

  -- a turn that isn't refused: its queue is enabled, no book is full, and the journal has room
  pub turn-allowed : (s : State C) (es : List PlainEntry) (limits : Config) (has_blocks : Bool) (name : QueueName) → turn_refused s es limits has_blocks name ≡ None
      → (is_enabled name s.enabled ≡ true) × (in_range s ≡ true) × (has_room es limits 0 ≡ true)
  turn-allowed s es limits has_blocks name h =
      let first = or_else-none (unless (is_enabled name s.enabled) Einval) _ h in
      let second = or_else-none (unless (in_range s) Erange) _ first.1 in
      let third = or_else-none (unless (has_room es limits 0) JournalFull) _ second.1 in
      (unless-none _ _ first.0, unless-none _ _ second.0, unless-none _ _ third.0)
