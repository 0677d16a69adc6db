-- A put at ptem keeps within its table.
use Rattle.std.proofs.Common.{ℕ, ◌≡◌, ◌≤◌, ◌+◌, Bool, true, false, cond, List, [], ◌∷◌, ◌++◌, sym, subst, arith}
use Rattle.std.specs.Prelude.{sum_by}
use Rattle.strm_types.specs.declared.ioctls.Ioc.{Ioc}
use Rattle.strm_types.specs.declared.names.Way.{Way}
use Rattle.strm_types.specs.declared.names.Way.TheVariants.{Up, Down}
use Rattle.strm_types.specs.declared.spots.Spot.{Spot}
use Rattle.strm_types.specs.Acks.{ack_message, telling_message}
use Rattle.strm_types.specs.Budgets.{Does, Within, cost_of, emits_at}
use Rattle.strm_types.specs.Commands.{is_asked}
use Rattle.strm_types.specs.Deliver.{Parcel, toward, onward}
use Rattle.strm_types.specs.Ioctls.{nak_message}
use Rattle.strm_types.specs.Message.{Message}
use Rattle.strm_types.specs.Ptems.{Ptem, ptem_puts, signals_up, sigwinch}
use Rattle.strm_types.specs.Shapes.{At, Shape, Asking, shape_of}
use Rattle.strm_types.specs.Tables.{ptem_does}
use Rattle.strm_types.specs.Winsizes.{same_winsize}
use Rattle.strm_types.proofs.CostsOf.{one-few}
use Rattle.strm_types.proofs.ShapesOf.{asked-shape}
use Rattle.strm_types.proofs.PtemPuts.{puts-each}

module _ (here : Spot) (cost : At → ℕ) where
  abbrev costs : Does → ℕ
  costs d = sum_by cost (emits_at here d)

  passes : (way : Way) (shape : Shape) → cost (record { to = toward way here; shape = shape }) ≤ costs (ptem_does way shape)
  passes Up Asking = omega arith
  passes Down Asking = omega arith
  passes way shape = omega arith

  module _ (C : Type 0) where
    -- what an M_IOCTL gives rise to, on its way down and on its way up
    abbrev Above : List (Parcel C) → Type 0
    Above sent = cost_of cost sent ≤ costs (ptem_does Down Asking)

    abbrev Below : List (Parcel C) → Type 0
    Below sent = cost_of cost sent ≤ costs (ptem_does Up Asking)

    acked : (ioc : Ioc) (given : List ℕ) → Above (onward Up here (ack_message ioc given) ∷ [])
    acked ioc given = one-few cost (costs (ptem_does Down Asking)) (toward Up here) (ack_message ioc given) (omega arith)

    refused_above : (ioc : Ioc) → Above (onward Up here (nak_message ioc) ∷ [])
    refused_above ioc = one-few cost (costs (ptem_does Down Asking)) (toward Up here) (nak_message ioc) (omega arith)

    set : (ioc : Ioc) (given : List ℕ) (same : Bool) → Above (onward Up here (ack_message ioc given) ∷ (onward Down here (telling_message ioc given) ∷ cond same [] (signals_up here sigwinch ∷ [])))
    unfolding cost_of
    set ioc given true = omega arith
    set ioc given false = omega arith

    refused_below : (ioc : Ioc) → Below (onward Down here (nak_message ioc) ∷ [])
    refused_below ioc = one-few cost (costs (ptem_does Up Asking)) (toward Down here) (nak_message ioc) (omega arith)

    told : (ioc : Ioc) (signal : ℕ) (same : Bool) → Below (cond same [] (signals_up here signal ∷ []) ++ onward Down here (ack_message ioc []) ∷ [])
    unfolding cost_of
    told ioc signal true = omega arith
    told ioc signal false = omega arith

    module _ (m : Message C) (l : Ptem) where
      abbrev Fits : List (Parcel C) → Type 0
      Fits sent = cost_of cost sent ≤ costs (ptem_does here.way (shape_of m))

      goes : Fits (onward here.way here m ∷ [])
      goes = one-few cost (costs (ptem_does here.way (shape_of m))) (toward here.way here) m (passes here.way (shape_of m))

      module _ (asked : is_asked m ≡ true) where
        above : here.way ≡ Down → (sent : List (Parcel C)) → Above sent → Fits sent
        above way sent fits = subst (λ w. cost_of cost sent ≤ costs (ptem_does w (shape_of m))) (sym way) (subst (λ s. cost_of cost sent ≤ costs (ptem_does Down s)) (sym (asked-shape m asked)) fits)

        below : here.way ≡ Up → (sent : List (Parcel C)) → Below sent → Fits sent
        below way sent fits = subst (λ w. cost_of cost sent ≤ costs (ptem_does w (shape_of m))) (sym way) (subst (λ s. cost_of cost sent ≤ costs (ptem_does Up s)) (sym (asked-shape m asked)) fits)

      pub ptem-fits : Fits (ptem_puts here m l).sent
      ptem-fits = puts-each here m l (λ t. Fits t.sent) goes (λ asked. record {
        acked = λ way ioc given. above asked way _ (acked ioc given);
        refused_above = λ way ioc. above asked way _ (refused_above ioc);
        set = λ way ioc given new. above asked way _ (set ioc given (same_winsize l.window new.window));
        refused_below = λ way ioc. below asked way _ (refused_below ioc);
        told = λ way ioc w. below asked way _ (told ioc sigwinch (same_winsize l.window w));
        signalled = λ way ioc signal. below asked way _ (told ioc signal false);
      })

pub ptem-within : {C : Type 0} (here : Spot) (m : Message C) (l : Ptem) → Within (ptem_puts here m l).sent (emits_at here (ptem_does here.way (shape_of m)))
ptem-within {C} here m l cost = ptem-fits here cost C m l
