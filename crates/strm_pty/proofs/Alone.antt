-- A module without queues, where it stands.
use Rattle.strm_pty.proofs.Prelude.{◌≡◌, ap, sym, subst, ◌∙◌, Option, None}
use Rattle.strm_pty.specs.Prelude.{StoreValue, QueuePair, queues_in}
use Rattle.std.specs.Prelude.{IfSome}
use Rattle.strm_types.specs.Standings.{stood}
use Rattle.strm_frame.specs.Standings.{IsPairReady}

module _ (s t : StoreValue) (queues : Option QueuePair) (none : queues ≡ None) where
  -- no queue stands for anything, whatever the store holds
  pub alone-queues : queues_in t queues ≡ queues_in s queues
  alone-queues = ap (queues_in t) none ∙ sym (ap (queues_in s) none)

  pub alone-ready : IfSome queues (IsPairReady t)
  alone-ready = subst (λ q. IfSome q (IsPairReady t)) (sym none) tt

  -- so it stands as what it is by itself says
  pub alone-stands : {P : Type 0} (p q : P) → p ≡ q → stood p (queues_in t queues) ≡ stood q (queues_in s queues)
  alone-stands p q same = ap (λ v. stood v (queues_in t queues)) same ∙ ap (stood q) alone-queues
