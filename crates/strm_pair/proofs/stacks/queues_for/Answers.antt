-- They are new on two lists, or there are none.
use Rattle.strm_pair.proofs.Prelude.{◌≡◌, ◌∙◌, true, false, refl, sym, ap, arith, false≢true, Some}
use Rattle.strm_pair.specs.Prelude.{have_queues}
use Rattle.strm_pair.proofs.stacks.queues_for.Goals as goal

pub returns-then-not-has_queues-clause-given : goal.returns-then-not-has_queues-clause-given
returns-then-not-has_queues-clause-given c =
    let bare : have_queues c.args.name ≡ false = sym c.has_queues.ensures ∙ c.if-not-has_queues.true in
    record {
      has = sym bare;
      state = λ s reads writes. rw bare refl;
      ready = λ s reads writes. tt;
      own = λ is. absurd (false≢true is);
    }

pub returns-then-not-has_queues-clause-shelf : goal.returns-then-not-has_queues-clause-shelf
returns-then-not-has_queues-clause-shelf c = record { tables = omega arith; room = omega arith }

pub take-requires : goal.take-requires
take-requires c = c.requires.shelf (sym c.has_queues.ensures ∙ c.if-not-has_queues.false)

pub new-requires-clause-read : goal.new-requires-clause-read
new-requires-clause-read c = omega (arith, c.requires.first (sym c.has_queues.ensures ∙ c.if-not-has_queues.false))

pub new-requires-clause-write : goal.new-requires-clause-write
new-requires-clause-write c = c.requires.first (sym c.has_queues.ensures ∙ c.if-not-has_queues.false)

pub returns-clause-given : goal.returns-clause-given
returns-clause-given c =
    let has : have_queues c.args.name ≡ true = sym c.has_queues.ensures ∙ c.if-not-has_queues.false in
    record {
      has = sym has;
      state = λ s reads writes. rw has (ap Some (c.new.ensures.state s reads writes));
      ready = λ s reads writes. c.new.ensures.ready s reads writes;
      own = λ is. c.new.ensures.owns;
    }

pub returns-clause-shelf : goal.returns-clause-shelf
returns-clause-shelf c = record { tables = omega (arith, c.take.ensures.tables); room = omega (arith, c.take.ensures.room) }
