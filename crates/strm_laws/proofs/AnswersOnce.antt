-- The answer of an ioctl is given once.
use Rattle.strm_laws.proofs.Prelude.{ℕ, ◌≡◌, ◌⊎◌, inl, inr, Bool, true, false, cond, List, refl, ap, ◌∙◌, arith, ◌==◌, Option, None, Some, nat_tests}
use Rattle.strm_laws.specs.Prelude.{Done, Bytes, Nak, Caller, IoctlResult, TIOCGPGRP, Side, Master, Slave, Refusal, Einval, Eagain, Free, Waiting}
use Rattle.strm_laws.specs.Prelude.{Reply, Cells, word_bytes, asks_group, group_reply, sets_group, unless, PlainSlot, gives_nothing, is_free}
use Rattle.strm_laws.specs.Prelude.{result_refusal, slot_behind, told_of}
use Rattle.strm_types.specs.declared.answers.Answer.TheVariants.{Pending}
use Rattle.strm_types.specs.declared.events.Event.TheVariants.{Ioctl}
use Rattle.strm_types.specs.declared.slots.Slot.TheVariants.{Answered}
use Rattle.strm_laws.specs.Behaviours.{Behaviour}
use Rattle.strm_laws.specs.Calls.{called, group_at, ioctl_at, ioctl_sent, ioctl_told}
use Rattle.strm_laws.specs.Refusals.{refused_by_state}
use Rattle.strm_types.specs.Slots.{unless_same}
use Rattle.strm_laws.specs.State.{State, stream, with_ioctl}

-- a slot that is answered is free behind that
answered-free : (number : ℕ) (slot : PlainSlot) → result_refusal number slot ≡ None → slot_behind slot ≡ Free
answered-free number Free none = refl
answered-free number (Waiting n command) none = at (n == number) none
  where
    at : (same : Bool) → cond same (Some Eagain) (Some Einval) ≡ None → ◌≡◌ {A = PlainSlot} (Waiting n command) Free
    at true is = absurd (cc)
    at false is = absurd (cc)
answered-free number (Answered n command acked error body) none = refl

-- the number of a slot that waits
same-number : (n : ℕ) (same : Option Refusal) → unless_same n n same ≡ same
same-number n same = at (n == n) refl
  where
    at : (b : Bool) → (n == n) ≡ b → cond b same (Some Einval) ≡ same
    at true is = refl
    at false is = absurd (grind (arith, nat_tests))

waits-told : (number : ℕ) (slot : PlainSlot) → told_of slot ≡ Pending number → result_refusal number (slot_behind slot) ≡ Some Eagain
waits-told number Free is = absurd (cc)
waits-told number (Waiting n command) is = let same : number ≡ n = cc in ap (λ k. unless_same n k (Some Eagain)) same ∙ same-number n (Some Eagain)
waits-told number (Answered n command true error body) is = at (gives_nothing command) is
  where
    at : (none : Bool) → ◌≡◌ {A = Reply} (cond none Done (Bytes body)) (Pending number) → Some Einval ≡ Some Eagain
    at true is = absurd (cc)
    at false is = absurd (cc)
waits-told number (Answered n command false error body) is = absurd (cc)

free-or-waits : (asked : ℕ) (slot : PlainSlot) → (result_refusal asked (slot_behind slot) ≡ Some Einval) ⊎ ((number : ℕ) × (told_of slot ≡ Pending number))
free-or-waits asked Free = inl refl
free-or-waits asked (Waiting n command) = inr (n, refl)
free-or-waits asked (Answered n command acked error body) = inl refl

-- a group that is told or set is no number
group-told : (command : ℕ) (body : List ℕ) (group number : ℕ) → group_reply command body group ≡ Pending number → ⊥
group-told command body group number is = at (command == TIOCGPGRP) (sets_group command body) is
  where
    at : (gives sets : Bool) → ◌≡◌ {A = Reply} (cond gives (Bytes (word_bytes group)) (cond sets Done (Nak Einval))) (Pending number) → ⊥
    at true sets is = cc
    at false true is = cc
    at false false is = cc

module _ {C : Type 0} where
  slot-there : (side : Side) (slot : PlainSlot) (s : State C) → (stream side (with_ioctl side slot s)).head.ioctl ≡ slot
  slot-there Master slot s = refl
  slot-there Slave slot s = refl

  abbrev slot_of : Side → State C → PlainSlot
  slot_of side s = (stream side s).head.ioctl

  result-behind : (asked : ℕ) (side : Side) (s : State C) → result_refusal asked (slot_of side (ioctl_told side s).state) ≡ result_refusal asked (slot_behind (slot_of side s))
  result-behind asked side s = ap (λ (slot : PlainSlot). result_refusal asked slot) (slot-there side (slot_behind (slot_of side s)) s)

  -- and leaves no ioctl under way
  group-leaves : (side : Side) (command : ℕ) (body : List ℕ) (s : State C) → slot_of side (group_at side command body s).state ≡ Free
  group-leaves Master command body s = refl
  group-leaves Slave command body s = refl

  pub told-once : (K : Behaviour) (cells : Cells C) (caller : Caller) (number asked : ℕ) (s : State C)
      → refused_by_state K s caller (IoctlResult number) ≡ None
      → refused_by_state K (called K cells caller (IoctlResult number) s).state caller (IoctlResult asked) ≡ Some Einval
  told-once K cells caller number asked s none =
      result-behind asked caller.side s ∙ ap (λ (slot : PlainSlot). result_refusal asked slot) (answered-free number (slot_of caller.side s) none)

  pub told-next : (K : Behaviour) (cells : Cells C) (caller : Caller) (number command : ℕ) (body : List ℕ) (s : State C) → refused_by_state K s caller (IoctlResult number) ≡ None
      → refused_by_state K (called K cells caller (IoctlResult number) s).state caller (Ioctl command body) ≡ None
  told-next K cells caller number command body s none =
      ap (λ (slot : PlainSlot). unless (is_free slot) Eagain) (slot-there caller.side (slot_behind (slot_of caller.side s)) s ∙ answered-free number (slot_of caller.side s) none)

  pub told-pending : (K : Behaviour) (cells : Cells C) (caller : Caller) (command number : ℕ) (body : List ℕ) (s : State C) → (called K cells caller (Ioctl command body) s).answer ≡ Pending number
      → refused_by_state K (called K cells caller (Ioctl command body) s).state caller (IoctlResult number) ≡ Some Eagain
  told-pending K cells caller command number body s is = at (asks_group caller.side command) is
    where
      sent : State C
      sent = (ioctl_sent K cells caller.side command body s).state

      at : (group : Bool) → (cond group (group_at caller.side command body s) (ioctl_at K cells caller.side command body s)).answer ≡ Pending number
          → result_refusal number (slot_of caller.side (cond group (group_at caller.side command body s) (ioctl_at K cells caller.side command body s)).state) ≡ Some Eagain
      at true is = absurd (group-told command body (stream caller.side s).head.group number is)
      at false is = result-behind number caller.side sent ∙ waits-told number (slot_of caller.side sent) is

  told-or-waits : (asked : ℕ) (side : Side) (s : State C) → (result_refusal asked (slot_of side (ioctl_told side s).state) ≡ Some Einval) ⊎ ((number : ℕ) × ((ioctl_told side s).answer ≡ Pending number))
  told-or-waits asked side s = at (free-or-waits asked (slot_of side s))
    where
      at : (result_refusal asked (slot_behind (slot_of side s)) ≡ Some Einval) ⊎ ((number : ℕ) × (told_of (slot_of side s) ≡ Pending number))
          → (result_refusal asked (slot_of side (ioctl_told side s).state) ≡ Some Einval) ⊎ ((number : ℕ) × ((ioctl_told side s).answer ≡ Pending number))
      at (inl is) = inl (result-behind asked side s ∙ is)
      at (inr waits) = inr waits

  pub told-at-once : (K : Behaviour) (cells : Cells C) (caller : Caller) (command asked : ℕ) (body : List ℕ) (s : State C) → let t = called K cells caller (Ioctl command body) s in
      (refused_by_state K t.state caller (IoctlResult asked) ≡ Some Einval) ⊎ ((number : ℕ) × (t.answer ≡ Pending number))
  told-at-once K cells caller command asked body s = at (asks_group caller.side command)
    where
      at : (group : Bool) → let t = cond group (group_at caller.side command body s) (ioctl_at K cells caller.side command body s) in
          (result_refusal asked (slot_of caller.side t.state) ≡ Some Einval) ⊎ ((number : ℕ) × (t.answer ≡ Pending number))
      at true = inl (ap (λ (slot : PlainSlot). result_refusal asked slot) (group-leaves caller.side command body s))
      at false = told-or-waits asked caller.side (ioctl_sent K cells caller.side command body s).state
