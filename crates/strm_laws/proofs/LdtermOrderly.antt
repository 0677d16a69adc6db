-- What holds of ldterm between the calls of its procedures stays so.
use Rattle.strm_laws.proofs.Prelude.{ℕ, zero, suc, ◌≡◌, ◌+◌, ◌-◌, ◌*◌, Bool, true, false, cond, List, [], ◌∷◌, ◌++◌, refl, sym, ap, ◌∙◌, nat_lt, not}
use Rattle.strm_laws.proofs.Prelude.{◌&&◌, ◌||◌, ◌==◌, nat_le, Option, None, Some, unwrap_or, false≢true, and_parts, ne_eqb, not-true, strikes-stay}
use Rattle.strm_laws.specs.Prelude.{FlushAsked, TCSETSF, Band, MsgKind, Way, Up, Down, Flushed, Spot, Termios, Cells, cells_made, Acted, onward}
use Rattle.strm_laws.specs.Prelude.{emptied, none_goes, of_data, queue_behind, stayed, asked_by, flush_message, read_flush, begins_next, cells_left}
use Rattle.strm_laws.specs.Prelude.{input_begins, is_data, left_of, made_of, next_stage, passes, stages, stages_done, then_on, to_treat, treats}
use Rattle.strm_laws.specs.Prelude.{restarts, ldterm_puts, ldterm_serves, new_pair, Discipline, discipline, Stage, Between, Begun, Answered, both}
use Rattle.strm_laws.specs.Prelude.{line_flushed, new_ldterm, queue_flushed, queued_at, read_flushed, sends, takes_band_0, write_flushed, Message}
use Rattle.strm_laws.specs.Prelude.{cells_of, data_message, is_high_priority, rank_of, Queue, is_full, is_none_left, left_with, put, relieved}
use Rattle.strm_laws.specs.Prelude.{line_gone, taken_up, bare, begins, echo_dir, echo_grows, echo_lost, echo_stands, echoed, grown, is_lnext}
use Rattle.strm_laws.specs.Prelude.{stroke_at, struck, up_alone}
use Rattle.std.specs.Prelude.{length}
use Rattle.std.specs.List.{list_any}
use Rattle.std.proofs.lemmas.Bool.{and_left, and_right, eqb-false, eqb-true}
use Rattle.strm_types.specs.declared.kinds.MsgKind.TheVariants as kinds
use Rattle.strm_types.specs.Flush.{counted_band, is_data_kind}
use Rattle.strm_laws.specs.LdtermTurns.{IsItsTurn, IsOrderly, is_echo}
use Rattle.strm_laws.specs.LdtermWeights.{EchoStands}
use Rattle.strm_types.proofs.LdtermPuts.{puts-each}
use Rattle.strm_laws.proofs.OutputServes.{output-orderly}

-- a test of one of two, or of many
or-swap : (a b c : Bool) → (a || (b || c)) ≡ (b || (a || c))
or-swap true true c = refl
or-swap true false c = refl
or-swap false b c = refl

or-true : (a : Bool) → (a || true) ≡ true
or-true true = refl
or-true false = refl

or-more : (a b c : Bool) → (b ≡ true → c ≡ true) → (a || b) ≡ true → (a || c) ≡ true
or-more true b c more is = refl
or-more false b c more is = more is

data-kind : (kind : MsgKind) → is_data kind ≡ true → kind ≡ kinds.Data
data-kind kinds.Data is = refl
data-kind kind is = absurd (false≢true is)

other-band : (named band : ℕ) → (named == 0) ≡ false → (band == 0) ≡ true → (counted_band kinds.Data band == named) ≡ false
unfolding is_high_priority
other-band named band other zero_is = ne_eqb band named (λ e. eqb-false named 0 other (sym e ∙ eqb-true band 0 zero_is))

module _ {C : Type 0} where
  abbrev EchoIn : List (Message C) → Type 0
  EchoIn ms = list_any is_echo ms ≡ true

  echo-put : (m : Message C) (ms : List (Message C)) → list_any is_echo (put m ms) ≡ (is_echo m || list_any is_echo ms)
  echo-put m [] = refl
  echo-put m (first ∷ rest) = at (nat_le (rank_of m) (rank_of first)) (echo-put m rest)
    where
      at : (behind : Bool) → list_any is_echo (put m rest) ≡ (is_echo m || list_any is_echo rest) → list_any is_echo (cond behind (first ∷ put m rest) (m ∷ first ∷ rest)) ≡ (is_echo m || (is_echo first || list_any is_echo rest))
      at true more = ap (λ b. is_echo first || b) more ∙ or-swap (is_echo first) (is_echo m) (list_any is_echo rest)
      at false more = refl

  echo-put-stays : (m : Message C) (ms : List (Message C)) → EchoIn ms → EchoIn (put m ms)
  echo-put-stays m ms is = echo-put m ms ∙ ap (λ b. is_echo m || b) is ∙ or-true (is_echo m)

  data-echo : (cells : List C) → is_echo (data_message cells) ≡ true
  unfolding data_message
  data-echo cells = refl

  echo-put-data : (cells : List C) (ms : List (Message C)) → EchoIn (put (data_message cells) ms)
  echo-put-data cells ms = echo-put (data_message cells) ms ∙ ap (λ b. b || list_any is_echo ms) (data-echo cells)

  echo-left : (ms : List (Message C)) → EchoIn ms → is_none_left ms ≡ false
  echo-left [] is = absurd (false≢true is)
  echo-left (m ∷ ms) is = refl

  -- a flush of another band than 0 leaves it
  echo-unflushed : (band : Option Band) (m : Message C) → takes_band_0 band ≡ false → is_echo m ≡ true → of_data band m.kind m.band ≡ false
  echo-unflushed None m other is = absurd (false≢true (sym other))
  echo-unflushed (Some band) m other is =
      let parts = and_parts (is_data m.kind) (m.band == 0) is in
      ap (λ kind. is_data_kind kind && (counted_band kind m.band == band.0)) (data-kind m.kind parts.0)
      ∙ and_right (is_data_kind kinds.Data) (counted_band kinds.Data m.band == band.0) (other-band band.0 m.band other parts.1)

  echo-stays : (band : Option Band) → takes_band_0 band ≡ false → (ms : List (Message C)) → EchoIn ms → EchoIn (stayed (of_data band) ms)
  echo-stays band other [] is = is
  echo-stays band other (m ∷ ms) is = at (is_echo m) refl (of_data band m.kind m.band) (echo-unflushed band m other) is (echo-stays band other ms)
    where
      at : (e : Bool) → is_echo m ≡ e → (goes : Bool) → (is_echo m ≡ true → goes ≡ false) → (is_echo m || list_any is_echo ms) ≡ true → (EchoIn ms → EchoIn (stayed (of_data band) ms)) →
          list_any is_echo (cond (not goes) (m ∷ stayed (of_data band) ms) (stayed (of_data band) ms)) ≡ true
      at true e true stays is rest = absurd (false≢true (sym (stays e)))
      at true e false stays is rest = ap (λ b. b || list_any is_echo (stayed (of_data band) ms)) e
      at false e true stays is rest = rest (sym (ap (λ b. b || list_any is_echo ms) e) ∙ is)
      at false e false stays is rest = or-more (is_echo m) (list_any is_echo ms) (list_any is_echo (stayed (of_data band) ms)) rest is

  echo-behind : (band : Option Band) (q : Queue C) → takes_band_0 band ≡ false → EchoIn q.messages → EchoIn (queue_behind (of_data band) q).messages
  echo-behind band q other is = at (none_goes (of_data band) q)
    where
      at : (none : Bool) → EchoIn (cond none (emptied (of_data band) q) (relieved (emptied (of_data band) q))).messages
      at true = echo-stays band other q.messages is
      at false = echo-stays band other q.messages is

  -- puts
  either-orderly : (b : Bool) (one another : Acted C (Discipline C)) → IsOrderly one.state → IsOrderly another.state → IsOrderly (cond b one another).state
  either-orderly true one another first second = first
  either-orderly false one another first second = second

  queued-orderly : (way : Way) (m : Message C) (l : Discipline C) → IsOrderly l → IsOrderly (queued_at way m l).state
  queued-orderly Up m l is = record { echo = is.echo; idle = is.idle }
  queued-orderly Down m l is = record {
    echo = λ e. echo-put-stays m l.write_queue.messages (is.echo (and_parts l.echoing (nat_lt 0 m.band) e).0);
    idle = λ none. let at = is.idle none in (at.0, at.1, and_left l.echoing (nat_lt 0 m.band) at.2);
  }

  line-orderly : (here : Spot) (band : Option Band) (l : Discipline C) → IsOrderly l → IsOrderly (line_flushed here band l).state
  line-orderly here band l is = at (takes_band_0 band)
    where
      at : (takes : Bool) → IsOrderly (cond takes (record (sends [] (record l { line = [] })) { gone = line_gone here.side Flushed l.line }) (sends [] l)).state
      at true = record { echo = is.echo; idle = is.idle }
      at false = is

  read-orderly : (here : Spot) (asked : FlushAsked) (l : Discipline C) → IsOrderly l → IsOrderly (read_flushed here asked l).state
  read-orderly here asked l is = either-orderly asked.for_read (both (queue_flushed Up here asked.band l) (line_flushed here asked.band)) (sends [] l)
      (line-orderly here asked.band (queue_flushed Up here asked.band l).state (record { echo = is.echo; idle = is.idle })) is

  write-orderly : (here : Spot) (asked : FlushAsked) (l : Discipline C) → IsOrderly l → IsOrderly (write_flushed here asked l).state
  write-orderly here asked l is =
      let quiet : Discipline C = record l { echoing = l.echoing && not (takes_band_0 asked.band) } in
      either-orderly asked.for_write (queue_flushed Down here asked.band quiet) (sends [] l)
      (record {
        echo = λ e. let parts = and_parts l.echoing (not (takes_band_0 asked.band)) e in echo-behind asked.band l.write_queue (not-true (takes_band_0 asked.band) parts.1) (is.echo parts.0);
        idle = λ none. let at = is.idle none in (at.0, at.1, and_left l.echoing (not (takes_band_0 asked.band)) at.2);
      })
      is

  taken-orderly : (here : Spot) (command : ℕ) (t : Termios) (m : Message C) (l : Discipline C) → IsOrderly l → IsOrderly (taken_up here command t m l).state
  taken-orderly here command t m l is =
      let told : Discipline C → Acted C (Discipline C) = sends (onward Up here (flush_message (read_flush None)) ∷ []) in
      let first = either-orderly (command == TCSETSF) (both (read_flushed here up_alone l) told) (sends [] l) (read-orderly here up_alone l is) is in
      record { echo = first.echo; idle = first.idle }

  pub puts-orderly : (here : Spot) (m : Message C) (l : Discipline C) → IsOrderly l → IsOrderly (ldterm_puts here m l).state
  puts-orderly here m l is =
      let asked = asked_by m.plain in
      puts-each here m l (λ t. IsOrderly t.state) (record {
        waits = λ waits. queued-orderly here.way m l is;
        flushes = λ flushes. write-orderly here asked (read_flushed here asked l).state (read-orderly here asked l is);
        passes = is;
        taken = λ way acked ioc t. taken-orderly here ioc.command t m l is;
      })

module _ {C : Type 0} (cells : Cells C) (here : Spot) where
  grown-echo : (new : List C) (ms : List (Message C)) → is_none_left ms ≡ false → EchoIn (grown cells here new ms)
  grown-echo new [] stands = absurd (false≢true (sym stands))
  grown-echo new (m ∷ []) stands = ap (λ b. b || false) (data-echo (cells_of m ++ new))
  grown-echo new (m ∷ n ∷ ms) stands = ap (λ b. is_echo m || b) (grown-echo new (n ∷ ms) refl) ∙ or-true (is_echo m)

  begins-orderly : (c : C) (m : Message C) (l : Discipline C) → IsOrderly l → l.in_work ≡ Some m → IsOrderly (begins cells here c l).state
  begins-orderly c m l is work = at (l.stopped && restarts l.termios (stroke_at cells here c l))
    where
      at : (starts : Bool) → IsOrderly (cond starts (sends (onward Down here (bare kinds.Start []) ∷ []) (record l { stopped = false; stage = Begun true c })) (sends [] (record l { stage = Begun false c }))).state
      at true = record { echo = is.echo; idle = λ none. absurd (cc (none, work)) }
      at false = record { echo = is.echo; idle = λ none. absurd (cc (none, work)) }

  between-orderly : (l : Discipline C) → IsOrderly l → IsOrderly (begins_next cells here (cells_left l) l).state
  between-orderly l is = work l.in_work is
    where
      left : (m : Message C) (xs : List C) → IsOrderly (record l { in_work = Some m }) → IsOrderly (begins_next cells here xs (record l { in_work = Some m })).state
      left m [] is = is
      left m (c ∷ rest) is = begins-orderly c (left_of rest m) (record l { in_work = Some (left_of rest m) }) (record { echo = is.echo; idle = λ none. absurd (cc none) }) refl

      work : (in_work : Option (Message C)) → IsOrderly (record l { in_work = in_work }) → IsOrderly (begins_next cells here (cells_left (record l { in_work = in_work })) (record l { in_work = in_work })).state
      work None is = is
      work (Some m) is = left m (cells_of m) is

  struck-orderly : (started : Bool) (c : C) (l : Discipline C) → IsOrderly l → l.stage ≡ Begun started c → IsOrderly (struck cells here started c l).state
  struck-orderly started c l is stage =
      let key = (stroke_at cells here c l).key in
      let byte = cells.mapped (stroke_at cells here c l).byte c in
      let begun : Discipline C = record l { after_lnext = is_lnext key } in
      record {
        echo = strikes-stay cells here (λ p. p.echoing ≡ true → EchoIn p.write_queue.messages) (λ p stopped line gathered holds. holds) key byte begun is.echo;
        idle = λ none. let same = strikes-stay cells here (λ p. p.in_work ≡ l.in_work) (λ p stopped line gathered holds. holds) key byte begun refl in
            absurd (let at = is.idle (sym same ∙ none) in cc (stage, at.0));
      }

  echoed-orderly : (made : ℕ) (echo : List ℕ) (l : Discipline C) → IsOrderly l → l.stage ≡ Answered echo → IsOrderly (echoed cells here made echo (record l { stage = Between })).state
  echoed-orderly made [] l is stage = record { echo = is.echo; idle = λ none. let at = is.idle none in (refl, at.1, at.2) }
  echoed-orderly made (b ∷ bytes) l is stage = at (is_full 0 l.write_queue) l.echoing is.echo
      (λ none. let at = is.idle none in (refl, at.1, at.2))
      (λ none. let at = is.idle none in cc (stage, at.0))
    where
      at : (full echoing : Bool) → (echoing ≡ true → EchoIn l.write_queue.messages) → (l.in_work ≡ None → (let between : Stage C = Between in (between ≡ Between) × (l.gathered ≡ []) × (echoing ≡ false))) → (l.in_work ≡ None → ⊥) →
          (let new = cells_made cells (echo_dir cells here) made (b ∷ bytes) in let p : Discipline C = record l { stage = Between; echoing = echoing } in
          IsOrderly (cond full (echo_lost cells here new p) (cond echoing (echo_grows cells here new p) (echo_stands cells here new p))).state)
      at true echoing stands idle work = record { echo = stands; idle = idle }
      at false true stands idle work = record { echo = λ e. grown-echo (cells_made cells (echo_dir cells here) made (b ∷ bytes)) l.write_queue.messages (echo-left l.write_queue.messages (stands refl)); idle = λ none. absurd (work none) }
      at false false stands idle work = record { echo = λ e. echo-put-data (cells_made cells (echo_dir cells here) made (b ∷ bytes)) l.write_queue.messages; idle = λ none. absurd (work none) }

  pub next-orderly : (made : ℕ) (l : Discipline C) → IsOrderly l → IsOrderly (next_stage cells here made l).state
  next-orderly made l is = at l.stage is
    where
      at : (stage : Stage C) → IsOrderly (record l { stage = stage }) → IsOrderly (next_stage cells here made (record l { stage = stage })).state
      at Between is = between-orderly (record l { stage = Between }) is
      at (Begun started c) is = struck-orderly started c (record l { stage = Begun started c }) is refl
      at (Answered echo) is = echoed-orderly made echo (record l { stage = Answered echo }) is refl

  then-orderly : (made : ℕ) (t : Acted C (Discipline C)) (next : ℕ → Discipline C → Acted C (Discipline C)) → IsOrderly t.state → IsOrderly (next (made + made_of t.gone) t.state).state → IsOrderly (then_on made t next).state
  then-orderly made t next first second = at (is_none_left t.sent)
    where
      at : (none : Bool) → (let u = next (made + made_of t.gone) t.state in IsOrderly (cond {A = Acted C (Discipline C)} none (record { state = u.state; notes = t.notes ++ u.notes; sent = u.sent; gone = t.gone ++ u.gone }) t).state)
      at true = second
      at false = first

  pub stages-orderly : (n made : ℕ) (l : Discipline C) → IsOrderly l → IsOrderly (stages cells here n made l).state
  stages-orderly zero made l is = record { echo = λ e. absurd (false≢true e); idle = λ none. (refl, refl, refl) }
  stages-orderly (suc more) made l is =
      let t = next_stage cells here made l in
      then-orderly made t (stages cells here more) (next-orderly made l is) (stages-orderly more (made + made_of t.gone) t.state (next-orderly made l is))

  input-orderly : (made : ℕ) (stop : Option ℕ) (ms : List (Message C)) (l : Discipline C) → IsOrderly l → l.in_work ≡ None → IsOrderly (input_begins cells here stop made ms l).acted.state
  input-orderly made stop [] l is none = is
  input-orderly made stop (m ∷ rest) l is none = at (is_data m.kind)
    where
      at : (treated : Bool) → IsOrderly (cond treated (treats cells here (unwrap_or stop (length (cells_of m))) made (record l { read_queue = left_with rest l.read_queue; in_work = Some m })) (passes cells here Up m rest l)).acted.state
      at true =
          let begun : Discipline C = record l { read_queue = left_with rest l.read_queue; in_work = Some m } in
          stages-orderly (3 * unwrap_or stop (length (cells_of m)) - stages_done l.stage) made begun (record { echo = is.echo; idle = λ some. absurd (cc some) })
      at false = record { echo = is.echo; idle = is.idle }

module _ {C : Type 0} (cells : Cells C) where
  serves-at : (way : Way) (here : Spot) (again : Bool) (made : ℕ) (stop : Option ℕ) (l : Discipline C) → IsOrderly l → IsItsTurn way again l → IsOrderly (ldterm_serves cells (record here { way = way }) made again stop l).acted.state
  serves-at Down here true made stop l is turn = output-orderly cells (record here { way = Down }) stop made l.write_queue.messages l is turn
  serves-at Down here false made stop l is turn = output-orderly cells (record here { way = Down }) stop made l.write_queue.messages l is turn
  serves-at Up here false made stop l is turn = input-orderly cells (record here { way = Up }) made stop l.read_queue.messages l is turn
  serves-at Up here true made stop l is turn = stages-orderly cells (record here { way = Up }) (3 * unwrap_or stop (to_treat l) - stages_done l.stage) made l is

  pub serves-orderly : (here : Spot) (made : ℕ) (again : Bool) (stop : Option ℕ) (l : Discipline C) → IsOrderly l → IsItsTurn here.way again l → IsOrderly (ldterm_serves cells here made again stop l).acted.state
  serves-orderly here made again stop l is turn = serves-at here.way here again made stop l is turn

module _ {C : Type 0} where
  pub new-orderly : IsOrderly (discipline (new_ldterm {C = C}) new_pair)
  new-orderly = record { echo = λ e. absurd (false≢true e); idle = λ none. (refl, refl, refl) }

  pub orderly-echo : (l : Discipline C) → IsOrderly l → EchoStands l
  orderly-echo l is = λ e. echo-left l.write_queue.messages (is.echo e)
