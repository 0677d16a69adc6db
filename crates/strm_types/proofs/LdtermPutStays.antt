-- A put at ldterm leaves a turn under way as it is, but that the turn's echo may come to its end.
use Rattle.std.proofs.Common.{ℕ, ◌≡◌, Bool, true, false, cond, [], ◌∷◌, refl, ◌∙◌}
use Rattle.std.proofs.lemmas.Bool.{and_left}
use Rattle.std.specs.Prelude.{Option, None, nat_lt, not, ◌&&◌, ◌==◌}
use Rattle.strm_types.specs.declared.flushing.FlushAsked.{FlushAsked}
use Rattle.strm_types.specs.declared.ioctls.TheConstants.{TCSETSF}
use Rattle.strm_types.specs.declared.kinds.Band.{Band}
use Rattle.strm_types.specs.declared.names.Way.{Way}
use Rattle.strm_types.specs.declared.names.Way.TheVariants.{Up, Down}
use Rattle.strm_types.specs.declared.rules.Rule.TheVariants.{Flushed}
use Rattle.strm_types.specs.declared.spots.Spot.{Spot}
use Rattle.strm_types.specs.declared.termios.Termios.{Termios}
use Rattle.strm_types.specs.Deliver.{Acted, onward}
use Rattle.strm_types.specs.Flushing.{asked_by, flush_message, read_flush}
use Rattle.strm_types.specs.LdtermPuts.{ldterm_puts}
use Rattle.strm_types.specs.Ldterms.{IsIdle, Discipline, both, line_flushed, queue_flushed, queued_at, read_flushed, sends, takes_band_0, with_queue_at, without_line, write_flushed}
use Rattle.strm_types.specs.Message.{Message}
use Rattle.strm_types.specs.Queue.{Queue}
use Rattle.strm_types.specs.Service.{line_gone}
use Rattle.strm_types.specs.TakenUp.{input_flushed, taken_up, termios_taken}
use Rattle.strm_types.specs.Typing.{up_alone}
use Rattle.strm_types.proofs.LdtermPuts.{puts-each}

module _ {C : Type 0} where
  -- Nothing of a turn changed, but that its echo may have come to an end.
  pub record Stays (p q : Discipline C) : Type 0 where
    pub work : q.in_work ≡ p.in_work
    pub gathered : q.gathered ≡ p.gathered
    pub echoing : p.echoing ≡ false → q.echoing ≡ false
    pub stage : q.stage ≡ p.stage

  pub idle-stays : (p q : Discipline C) → Stays p q → IsIdle p → IsIdle q
  idle-stays p q same idle = (same.work ∙ idle.0, same.gathered ∙ idle.1, same.echoing idle.2, same.stage ∙ idle.3)

  stays-so : (p : Discipline C) → Stays p p
  stays-so p = record { work = refl; gathered = refl; echoing = λ e. e; stage = refl }

  stays-both : (p q r : Discipline C) → Stays p q → Stays q r → Stays p r
  stays-both p q r first second = record {
    work = second.work ∙ first.work;
    gathered = second.gathered ∙ first.gathered;
    echoing = λ e. second.echoing (first.echoing e);
    stage = second.stage ∙ first.stage;
  }

  either-stays : (b : Bool) (one another : Acted C (Discipline C)) (p : Discipline C) → Stays p one.state → Stays p another.state → Stays p (cond b one another).state
  either-stays true one another p first second = first
  either-stays false one another p first second = second

  -- another queue
  pub queue-stays : (way : Way) (q : Queue C) (p : Discipline C) → Stays p (with_queue_at way q p)
  queue-stays Up q p = record { work = refl; gathered = refl; echoing = λ e. e; stage = refl }
  queue-stays Down q p = record { work = refl; gathered = refl; echoing = λ e. e; stage = refl }

  -- a line that is gone
  pub line-stays : (p : Discipline C) → Stays p (without_line p)
  line-stays p = record { work = refl; gathered = refl; echoing = λ e. e; stage = refl }

  queued-stays : (way : Way) (m : Message C) (p : Discipline C) → Stays p (queued_at way m p).state
  queued-stays Up m p = record { work = refl; gathered = refl; echoing = λ e. e; stage = refl }
  queued-stays Down m p = record { work = refl; gathered = refl; echoing = λ e. and_left p.echoing (nat_lt 0 m.band) e; stage = refl }

  flushed-stays : (here : Spot) (band : Option Band) (p : Discipline C) → Stays p (line_flushed here band p).state
  flushed-stays here band p =
      either-stays (takes_band_0 band) (record (sends [] (without_line p)) { gone = line_gone here.side Flushed p.line }) (sends [] p) p (line-stays p) (stays-so p)

  read-stays : (here : Spot) (asked : FlushAsked) (p : Discipline C) → Stays p (read_flushed here asked p).state
  read-stays here asked p =
      let q = (queue_flushed Up here asked.band p).state in
      either-stays asked.for_read (both (queue_flushed Up here asked.band p) (line_flushed here asked.band)) (sends [] p) p
      (stays-both p q (line_flushed here asked.band q).state (queue-stays Up q.read_queue p) (flushed-stays here asked.band q)) (stays-so p)

  write-stays : (here : Spot) (asked : FlushAsked) (p : Discipline C) → Stays p (write_flushed here asked p).state
  write-stays here asked p =
      let ended : Discipline C = record p { echoing = p.echoing && not (takes_band_0 asked.band) } in
      let q = (queue_flushed Down here asked.band ended).state in
      either-stays asked.for_write (queue_flushed Down here asked.band ended) (sends [] p) p
      (stays-both p ended q (record { work = refl; gathered = refl; echoing = λ e. and_left p.echoing (not (takes_band_0 asked.band)) e; stage = refl }) (queue-stays Down q.write_queue ended)) (stays-so p)

  -- an answer that is taken up
  taken-stays : (here : Spot) (command : ℕ) (t : Termios) (m : Message C) (p : Discipline C) → Stays p (taken_up here command t m p).state
  taken-stays here command t m p =
      let q = (input_flushed here command p).state in
      let told : Discipline C → Acted C (Discipline C) = sends (onward Up here (flush_message (read_flush None)) ∷ []) in
      stays-both p q (termios_taken here t m q).state
      (either-stays (command == TCSETSF) (both (read_flushed here up_alone p) told) (sends [] p) p (read-stays here up_alone p) (stays-so p))
      (record { work = refl; gathered = refl; echoing = λ e. e; stage = refl })

  pub puts-stay : (here : Spot) (m : Message C) (p : Discipline C) → Stays p (ldterm_puts here m p).state
  puts-stay here m p =
      let asked = asked_by m.plain in
      let q = (read_flushed here asked p).state in
      puts-each here m p (λ t. Stays p t.state) (record {
        waits = λ is. queued-stays here.way m p;
        flushes = λ is. stays-both p q (write_flushed here asked q).state (read-stays here asked p) (write-stays here asked q);
        passes = stays-so p;
        taken = λ way is ioc t. taken-stays here ioc.command t m p;
      })
