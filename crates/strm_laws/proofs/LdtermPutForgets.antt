-- Forgetting the origins of cells commutes with puts at ldterm.
use Rattle.strm_laws.proofs.Prelude.{ℕ, ◌≡◌, Bool, true, false, cond, List, [], ◌∷◌, ◌++◌, map, refl, sym, ap, ◌∙◌, not, ◌&&◌, ◌||◌, ◌==◌, nat_lt}
use Rattle.strm_laws.proofs.Prelude.{Option, None, Some, map-append}
use Rattle.strm_laws.specs.Prelude.{FlushAsked, Ioc, TCSETSF, Band, Side, Way, Up, Down, Rule, Flushed, Enable, Spot, Termios, payload, is_acked}
use Rattle.strm_laws.specs.Prelude.{is_ioctl, sets_termios, Acted, Parcel, onward, of_data, is_flush, asked_by, flush_message, read_flush, read_ioc}
use Rattle.strm_laws.specs.Prelude.{goes_on, ldterm_puts, passes_on_way, told_by_header, told_termios, waits_behind, waits_on, Discipline, both}
use Rattle.strm_laws.specs.Prelude.{flush_passes, line_flushed, queue_flushed, queued_at, read_flushed, sends, takes_band_0, waits_there}
use Rattle.strm_laws.specs.Prelude.{with_queue_at, without_line, write_flushed, Message, map_message, mode_message, map_acted, map_fate, map_parcel}
use Rattle.strm_laws.specs.Prelude.{Queue, map_queue, put_on, put_enables, line_gone, ends_lines, input_flushed, line_up, read_mode_of, taken_up}
use Rattle.strm_laws.specs.Prelude.{termios_taken, read_termios, tostop, up_alone}
use Rattle.strm_types.specs.Commands.{is_iocack}
use Rattle.strm_laws.specs.LdtermOrigins.{map_ldterm}
use Rattle.strm_types.specs.LdtermPuts.{goes_behind}
use Rattle.strm_laws.proofs.EmptiedForgets.{gone-forgets, queue_behind-forgets, writer_goes-forgets}
use Rattle.strm_laws.proofs.Forgetting.{data-forgets, kind-forgets, put_enables-forgets, put_on-forgets}
use Rattle.strm_laws.proofs.PutForgets.{flush-forgets as message-forgets, mode-forgets, parts-forget}

-- ldterm with a message put on its queue of a way, and with that queue flushed
abbrev queued_made : {E : Type 0} → Way → Bool → Queue E → Discipline E → Acted E (Discipline E)
queued_made way enables behind l = record { state = with_queue_at way behind l; notes = cond enables (Enable way ∷ []) []; sent = []; gone = [] }

module _ {C D : Type 0} (f : C → D) where
  abbrev pub image : Acted C (Discipline C) → Acted D (Discipline D)
  image t = map_acted f (map_ldterm f) t

  pub either-agrees : (b : Bool) (one another : Acted C (Discipline C)) (one' another' : Acted D (Discipline D)) → one' ≡ image one → another' ≡ image another → cond b one' another' ≡ image (cond b one another)
  either-agrees true one another one' another' first second = first
  either-agrees false one another one' another' first second = second

  plain-forgets : (m : Message C) → (map_message f m).plain ≡ m.plain
  unfolding map_message
  plain-forgets m = refl

  band-forgets : (m : Message C) → (map_message f m).band ≡ m.band
  unfolding map_message
  band-forgets m = refl

  pub line_gone-forgets : (side : Side) (rule : Rule) (cells : List C) → line_gone side rule (map f cells) ≡ map (map_fate f) (line_gone side rule cells)
  line_gone-forgets side rule [] = refl
  line_gone-forgets side rule (c ∷ cells) = refl

  queued-forgets : (way : Way) (m : Message C) (l : Discipline C) → queued_at way (map_message f m) (map_ldterm f l) ≡ image (queued_at way m l)
  queued-forgets Up m l =
      rw (put_enables-forgets f m l.read_queue, put_on-forgets f m l.read_queue) refl
  queued-forgets Down m l =
      ap (λ n. queued_made Down (put_enables (map_message f m) (map_queue f l.write_queue)) (put_on (map_message f m) (map_queue f l.write_queue))
      (record (map_ldterm f l) { echoing = l.echoing && nat_lt 0 n })) (band-forgets m)
      ∙ (ap (λ b. queued_made Down b (put_on (map_message f m) (map_queue f l.write_queue)) (record (map_ldterm f l) { echoing = l.echoing && nat_lt 0 m.band })) (put_enables-forgets f m l.write_queue)
      ∙ ap (λ q. queued_made Down (put_enables m l.write_queue) q (record (map_ldterm f l) { echoing = l.echoing && nat_lt 0 m.band })) (put_on-forgets f m l.write_queue))

  flushed-forgets : (way : Way) (here : Spot) (band : Option Band) (l : Discipline C) → queue_flushed way here band (map_ldterm f l) ≡ image (queue_flushed way here band l)
  flushed-forgets Up here band l =
      let q = l.read_queue in
      let chosen = of_data band in
      rw (writer_goes-forgets f chosen q, gone-forgets f chosen q.messages, queue_behind-forgets f chosen q) refl
  flushed-forgets Down here band l =
      let q = l.write_queue in
      let chosen = of_data band in
      rw (writer_goes-forgets f chosen q, gone-forgets f chosen q.messages, queue_behind-forgets f chosen q) refl

  -- one after the other
  joined-forget : (t u : Acted C (Discipline C)) → record { state = (image u).state; notes = t.notes ++ u.notes; sent = (image t).sent ++ (image u).sent; gone = (image t).gone ++ (image u).gone }
      ≡ image (record { state = u.state; notes = t.notes ++ u.notes; sent = t.sent ++ u.sent; gone = t.gone ++ u.gone })
  joined-forget t u =
      rw (← map-append (map_parcel f) t.sent u.sent, ← map-append (map_fate f) t.gone u.gone) refl

  both-forget : (t : Acted C (Discipline C)) (t' : Acted D (Discipline D)) (next : Discipline C → Acted C (Discipline C)) (next' : Discipline D → Acted D (Discipline D)) → t' ≡ image t →
      next' (map_ldterm f t.state) ≡ image (next t.state) → both t' next' ≡ image (both t next)
  both-forget t t' next next' first second =
      rw (first, second) (joined-forget t (next t.state))

  line-forgets : (here : Spot) (band : Option Band) (l : Discipline C) → line_flushed here band (map_ldterm f l) ≡ image (line_flushed here band l)
  line-forgets here band l = either-agrees (takes_band_0 band) (record (sends [] (without_line l)) { gone = line_gone here.side Flushed l.line }) (sends [] l)
      (record (sends [] (without_line (map_ldterm f l))) { gone = line_gone here.side Flushed (map f l.line) }) (sends [] (map_ldterm f l))
      (ap (λ gone. record (sends [] (without_line (map_ldterm f l))) { gone = gone }) (line_gone-forgets here.side Flushed l.line)) refl

  read-forgets : (here : Spot) (asked : FlushAsked) (l : Discipline C) → read_flushed here asked (map_ldterm f l) ≡ image (read_flushed here asked l)
  read-forgets here asked l = either-agrees asked.for_read (both (queue_flushed Up here asked.band l) (line_flushed here asked.band)) (sends [] l)
      (both (queue_flushed Up here asked.band (map_ldterm f l)) (line_flushed here asked.band)) (sends [] (map_ldterm f l))
      (both-forget (queue_flushed Up here asked.band l) (queue_flushed Up here asked.band (map_ldterm f l)) (line_flushed here asked.band) (line_flushed here asked.band)
      (flushed-forgets Up here asked.band l) (line-forgets here asked.band (queue_flushed Up here asked.band l).state))
      refl

  write-forgets : (here : Spot) (asked : FlushAsked) (l : Discipline C) → write_flushed here asked (map_ldterm f l) ≡ image (write_flushed here asked l)
  write-forgets here asked l =
      let quiet : Discipline C = record l { echoing = l.echoing && not (takes_band_0 asked.band) } in
      either-agrees asked.for_write (queue_flushed Down here asked.band quiet) (sends [] l)
      (queue_flushed Down here asked.band (map_ldterm f quiet)) (sends [] (map_ldterm f l))
      (flushed-forgets Down here asked.band quiet) refl

  flush-forgets : (here : Spot) (m : Message C) (l : Discipline C) → flush_passes here (map_message f m) (map_ldterm f l) ≡ image (flush_passes here m l)
  flush-forgets here m l =
      let asked = asked_by m.plain in
      let first = read_flushed here asked l in
      let behind = both first (write_flushed here asked) in
      let passed : Discipline C → Acted C (Discipline C) = sends (onward here.way here m ∷ []) in
      let passed' : Discipline D → Acted D (Discipline D) = sends (onward here.way here (map_message f m) ∷ []) in
      ap (λ bytes. both (both (read_flushed here (asked_by bytes) (map_ldterm f l)) (write_flushed here (asked_by bytes))) passed') (plain-forgets m)
      ∙ both-forget behind (both (read_flushed here asked (map_ldterm f l)) (write_flushed here asked)) passed passed'
      (both-forget first (read_flushed here asked (map_ldterm f l)) (write_flushed here asked) (write_flushed here asked) (read-forgets here asked l) (write-forgets here asked first.state))
      refl

  -- an answer to a command that set a termios
  input-forgets : (here : Spot) (command : ℕ) (l : Discipline C) → input_flushed here command (map_ldterm f l) ≡ image (input_flushed here command l)
  input-forgets here command l =
      let read = read_flushed here up_alone l in
      let told : Discipline C → Acted C (Discipline C) = sends (onward Up here (flush_message (read_flush None)) ∷ []) in
      let told' : Discipline D → Acted D (Discipline D) = sends (onward Up here (flush_message (read_flush None)) ∷ []) in
      either-agrees (command == TCSETSF) (both read told) (sends [] l) (both (read_flushed here up_alone (map_ldterm f l)) told') (sends [] (map_ldterm f l))
      (both-forget read (read_flushed here up_alone (map_ldterm f l)) told told' (read-forgets here up_alone l)
      (ap (λ m. sends (onward Up here m ∷ []) (map_ldterm f read.state)) (sym (message-forgets f (read_flush None)))))
      refl

  line-up-forgets : (here : Spot) (line : List C) → line_up here (map f line) ≡ map (map_parcel f) (line_up here line)
  line-up-forgets here [] = refl
  line-up-forgets here (c ∷ more) = ap (λ m. onward Up here m ∷ []) (sym (data-forgets f (c ∷ more)))

  termios-forgets : (here : Spot) (t : Termios) (m : Message C) (l : Discipline C) → termios_taken here t (map_message f m) (map_ldterm f l) ≡ image (termios_taken here t m l)
  termios-forgets here t m l = at (ends_lines l.termios t)
    where
      rest : List (Parcel C)
      rest = onward Up here (mode_message (read_mode_of t) (tostop t)) ∷ onward Up here m ∷ []

      rest' : List (Parcel D)
      rest' = onward Up here (mode_message (read_mode_of t) (tostop t)) ∷ onward Up here (map_message f m) ∷ []

      rest-forgets : rest' ≡ map (map_parcel f) rest
      rest-forgets = ap (λ n. onward Up here n ∷ onward Up here (map_message f m) ∷ []) (sym (mode-forgets f (read_mode_of t) (tostop t)))

      at : (ends : Bool) → sends (cond ends (line_up here (map f l.line)) [] ++ rest') (record (map_ldterm f l) { termios = t; line = cond ends [] (map f l.line) })
          ≡ image (sends (cond ends (line_up here l.line) [] ++ rest) (record l { termios = t; line = cond ends [] l.line }))
      at true = ap (λ sent. sends sent (record (map_ldterm f l) { termios = t; line = [] }))
          (ap (λ up. up ++ rest') (line-up-forgets here l.line) ∙ ap (λ more. map (map_parcel f) (line_up here l.line) ++ more) rest-forgets ∙ sym (map-append (map_parcel f) (line_up here l.line) rest))
      at false = ap (λ sent. sends sent (record (map_ldterm f l) { termios = t })) rest-forgets

  module _ (here : Spot) (m : Message C) (l : Discipline C) where
    taken-forgets : (command : ℕ) (t : Termios) → taken_up here command t (map_message f m) (map_ldterm f l) ≡ image (taken_up here command t m l)
    taken-forgets command t =
        let first = input_flushed here command l in
        both-forget first (input_flushed here command (map_ldterm f l)) (termios_taken here t m) (termios_taken here t (map_message f m)) (input-forgets here command l) (termios-forgets here t m first.state)

    told-forgets : (ioc : Ioc) (o : Option Termios) → told_termios here ioc o (map_message f m) (map_ldterm f l) ≡ image (told_termios here ioc o m l)
    told-forgets ioc None = refl
    told-forgets ioc (Some t) = taken-forgets ioc.command t

    header-forgets : (o : Option Ioc) → told_by_header here o (map_message f m) (map_ldterm f l) ≡ image (told_by_header here o m l)
    unfolding map_message
    header-forgets None = refl
    header-forgets (Some ioc) = either-agrees (sets_termios ioc.command) _ _ _ _ (told-forgets ioc (read_termios (payload m.plain))) refl

    way-forgets : (way : Way) → passes_on_way way here (map_message f m) (map_ldterm f l) ≡ image (passes_on_way way here m l)
    unfolding map_message
    way-forgets Down = refl
    way-forgets Up =
        ap (λ parts. cond (is_iocack m.kind && not parts) (told_by_header here (read_ioc m.plain) (map_message f m) (map_ldterm f l)) (goes_on here (map_message f m) (map_ldterm f l))) (parts-forget f m)
        ∙ either-agrees (is_acked m) _ _ _ _ (header-forgets (read_ioc m.plain)) refl

    -- and what goes behind output
    behind-forgets : (way : Way) → goes_behind way (map_message f m) ≡ goes_behind way m
    unfolding map_message
    behind-forgets Up = refl
    behind-forgets Down = ap (λ parts. (is_ioctl m.kind && not parts) && waits_behind (read_ioc m.plain)) (parts-forget f m)

    pub puts-forget : ldterm_puts here (map_message f m) (map_ldterm f l) ≡ image (ldterm_puts here m l)
    puts-forget =
        let m' = map_message f m in
        let l' = map_ldterm f l in
        ap (λ kind. cond (waits_there kind || goes_behind here.way m') (queued_at here.way m' l') (cond (is_flush kind) (flush_passes here m' l') (passes_on_way here.way here m' l'))) (kind-forgets f m)
        ∙ ap (λ behind. cond (waits_there m.kind || behind) (queued_at here.way m' l') (cond (is_flush m.kind) (flush_passes here m' l') (passes_on_way here.way here m' l'))) (behind-forgets here.way)
        ∙ either-agrees (waits_on here.way m) _ _ _ _ (queued-forgets here.way m l) (either-agrees (is_flush m.kind) _ _ _ _ (flush-forgets here m l) (way-forgets here.way))
