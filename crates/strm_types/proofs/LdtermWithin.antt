-- A put at ldterm keeps within its table.
use Rattle.std.proofs.Common.{ℕ, ◌≡◌, ◌≤◌, ◌+◌, Bool, true, false, cond, List, [], ◌∷◌, ◌++◌, refl, sym, ap, subst, ◌∙◌, arith}
use Rattle.std.specs.Prelude.{◌&&◌, ◌==◌, not, None, sum_by}
use Rattle.strm_types.specs.declared.flushing.FlushAsked.{FlushAsked}
use Rattle.strm_types.specs.declared.ioctls.TheConstants.{TCSETSF}
use Rattle.strm_types.specs.declared.names.Way.{Way}
use Rattle.strm_types.specs.declared.names.Way.TheVariants.{Up, Down}
use Rattle.strm_types.specs.declared.rules.Rule.TheVariants.{Flushed}
use Rattle.strm_types.specs.declared.spots.Spot.{Spot}
use Rattle.strm_types.specs.declared.termios.Termios.{Termios}
use Rattle.strm_types.specs.Budgets.{Does, Within, cost_of, emits_at}
use Rattle.strm_types.specs.Commands.{is_acked}
use Rattle.strm_types.specs.Deliver.{Parcel, toward, onward}
use Rattle.strm_types.specs.Flushing.{asked_by, flush_message, read_flush}
use Rattle.strm_types.specs.LdtermPuts.{ldterm_puts}
use Rattle.strm_types.specs.Ldterms.{Discipline, both, flush_passes, line_flushed, queue_flushed, read_flushed, sends, takes_band_0, without_line, write_flushed}
use Rattle.strm_types.specs.Message.{Message, data_message}
use Rattle.strm_types.specs.Options.{mode_message}
use Rattle.strm_types.specs.Service.{line_gone}
use Rattle.strm_types.specs.Shapes.{At, Shape, Held, Acking, FlushR, Passing, shape_of}
use Rattle.strm_types.specs.Tables.{ldterm_does}
use Rattle.strm_types.specs.TakenUp.{ends_lines, input_flushed, line_up, read_mode_of, taken_up, termios_taken}
use Rattle.strm_types.specs.Termios.{tostop}
use Rattle.strm_types.specs.Typing.{up_alone}
use Rattle.strm_types.proofs.CostsOf.{both-cost, more-few, none-few, one-few}
use Rattle.strm_types.proofs.LdtermPuts.{either, puts-each}
use Rattle.strm_types.proofs.ShapesOf.{acked-shape, data-shape, reads-shape}

-- flushes of its queues send nothing
module _ {C : Type 0} (here : Spot) where
  pub read-none : (asked : FlushAsked) (l : Discipline C) → (read_flushed here asked l).sent ≡ []
  read-none asked l = either (λ t. t.sent ≡ []) asked.for_read (both (queue_flushed Up here asked.band l) (line_flushed here asked.band)) (sends [] l) (line (takes_band_0 asked.band) (queue_flushed Up here asked.band l).state) refl
    where
      line : (b : Bool) (l : Discipline C) → (cond b (record (sends [] (without_line l)) { gone = line_gone here.side Flushed l.line }) (sends [] l)).sent ≡ []
      line true l = refl
      line false l = refl

  pub write-none : (asked : FlushAsked) (l : Discipline C) → (write_flushed here asked l).sent ≡ []
  write-none asked l = at asked.for_write
    where
      at : (b : Bool) → (cond b (queue_flushed Down here asked.band (record l { echoing = l.echoing && not (takes_band_0 asked.band) })) (sends [] l)).sent ≡ []
      at true = refl
      at false = refl

module _ (here : Spot) (cost : At → ℕ) where
  abbrev costs : Does → ℕ
  costs d = sum_by cost (emits_at here d)

  -- what passes, by its way and its shape
  passes : (way : Way) (shape : Shape) → cost (record { to = toward way here; shape = shape }) ≤ costs (ldterm_does way shape)
  passes Up Acking = omega arith
  passes way shape = omega arith

  module _ {C : Type 0} (m : Message C) where
    abbrev Fits : List (Parcel C) → Type 0
    Fits sent = cost_of cost sent ≤ costs (ldterm_does here.way (shape_of m))

    goes : Fits (onward here.way here m ∷ [])
    goes = one-few cost (costs (ldterm_does here.way (shape_of m))) (toward here.way here) m (passes here.way (shape_of m))

    flushes : (l : Discipline C) → Fits (flush_passes here m l).sent
    flushes l =
        let asked = asked_by m.plain in
        let first = read_flushed here asked l in
        subst (λ (ps : List (Parcel C)). Fits ((ps ++ (write_flushed here asked first.state).sent) ++ onward here.way here m ∷ [])) (sym (read-none here asked l))
        (subst (λ (ps : List (Parcel C)). Fits (ps ++ onward here.way here m ∷ [])) (sym (write-none here asked first.state)) goes)

    -- what an answer that is taken up gives rise to: each costs what the table has for it
    abbrev up : Shape → ℕ
    up shape = cost (record { to = toward Up here; shape = shape })

    module _ (acked : is_acked m ≡ true) where
      last : (t : Termios) → cost_of cost (onward Up here (mode_message {C = C} (read_mode_of t) (tostop t)) ∷ onward Up here m ∷ []) ≤ up Passing + up Acking
      last t =
          let answer = one-few cost (up Acking) (toward Up here) m (let same = ap up (acked-shape m acked) in omega (arith, same)) in
          more-few cost (up Passing + up Acking) (toward Up here) (mode_message (read_mode_of t) (tostop t)) (onward Up here m ∷ []) (omega (arith, answer))

      line : (cells : List C) → cost_of cost (line_up here cells) ≤ up Held
      line [] = none-few C cost (up Held)
      line (c ∷ more) = one-few cost (up Held) (toward Up here) (data_message (c ∷ more)) (let same = ap up (data-shape (c ∷ more)) in omega (arith, same))

      termios : (t : Termios) (l : Discipline C) → cost_of cost (termios_taken here t m l).sent ≤ up Held + (up Passing + up Acking)
      termios t l = at (ends_lines l.termios t)
        where
          rest : List (Parcel C)
          rest = onward Up here (mode_message (read_mode_of t) (tostop t)) ∷ onward Up here m ∷ []

          at : (ends : Bool) → cost_of cost (cond ends (line_up here l.line) [] ++ rest) ≤ up Held + (up Passing + up Acking)
          at true = omega (arith, both-cost cost (line_up here l.line) rest, line l.line, last t)
          at false = omega (arith, last t)

      input : (command : ℕ) (l : Discipline C) → cost_of cost (input_flushed here command l).sent ≤ up FlushR
      input command l = at (command == TCSETSF)
        where
          told : List (Parcel C)
          told = onward Up here (flush_message (read_flush None)) ∷ []

          at : (flushed : Bool) → cost_of cost (cond flushed (both (read_flushed here up_alone l) (sends told)) (sends [] l)).sent ≤ up FlushR
          at true = subst (λ (ps : List (Parcel C)). cost_of cost (ps ++ told) ≤ up FlushR) (sym (read-none here up_alone l)) (one-few cost (up FlushR) (toward Up here) (flush_message (read_flush None)) (let same = ap up (reads-shape C None) in omega (arith, same)))
          at false = none-few C cost (up FlushR)

      taken : (command : ℕ) (t : Termios) (l : Discipline C) → cost_of cost (taken_up here command t m l).sent ≤ costs (ldterm_does Up Acking)
      taken command t l =
          let first = input_flushed here command l in
          omega (arith, both-cost cost first.sent (termios_taken here t m first.state).sent, input command l, termios t first.state)

    pub ldterm-fits : (l : Discipline C) → Fits (ldterm_puts here m l).sent
    ldterm-fits l = puts-each here m l (λ t. Fits t.sent) (record {
      waits = λ is. none-few C cost (costs (ldterm_does here.way (shape_of m)));
      flushes = λ is. flushes l;
      passes = goes;
      taken = λ way is ioc t.
          subst (λ w. cost_of cost (taken_up here ioc.command t m l).sent ≤ costs (ldterm_does w (shape_of m))) (sym way)
          (subst (λ s. cost_of cost (taken_up here ioc.command t m l).sent ≤ costs (ldterm_does Up s)) (sym (acked-shape m is)) (taken is ioc.command t l));
    })

pub ldterm-within : {C : Type 0} (here : Spot) (m : Message C) (l : Discipline C) → Within (ldterm_puts here m l).sent (emits_at here (ldterm_does here.way (shape_of m)))
ldterm-within here m l cost = ldterm-fits here cost m l

-- an answer that may be obeyed takes two blocks
pub acked-own : {C : Type 0} (here : Spot) (m : Message C) → here.way ≡ Up → is_acked m ≡ true → (ldterm_does here.way (shape_of m)).own ≡ 2
acked-own here m way is = ap (λ w. (ldterm_does w (shape_of m)).own) way ∙ ap (λ s. (ldterm_does Up s).own) (acked-shape m is)
