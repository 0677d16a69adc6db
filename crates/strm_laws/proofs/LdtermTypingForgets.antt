-- Forgetting the origins of cells commutes with what typed bytes do.
use Rattle.strm_laws.proofs.Prelude.{ℕ, ◌≡◌, ◌-◌, Bool, true, false, cond, List, [], ◌∷◌, ◌++◌, length, take, drop, map, refl, sym, ap, ◌∙◌, not}
use Rattle.strm_laws.proofs.Prelude.{◌&&◌, nat_lt, take-map, drop-map, length-map, map-append, made-forget, bytes-plain}
use Rattle.strm_laws.specs.Prelude.{FlushAsked, Key, Stop, Start, Intr, Quit, Susp, Ignored, Eof, Erase, Kill, Werase, Reprint, Lnext, Delimiter}
use Rattle.strm_laws.specs.Prelude.{Ordinary, MsgKind, LINE_MAX, Up, Down, Rule, EraseKey, Erased, Killed, SignalKey, FlowKey, LineFull, LineOver}
use Rattle.strm_laws.specs.Prelude.{Flushed, Enable, Spot, Cells, AreCells, bytes_of, cells_made, plain, Acted, Fate, Comes, Parcel, onward}
use Rattle.strm_laws.specs.Prelude.{flush_bytes, flush_message, restarts, Discipline, Begun, Answered, sends, has_room, without_end, without_last}
use Rattle.strm_laws.specs.Prelude.{without_word, Message, cells_of, data_message, map_message, map_fate, map_parcel, is_full, is_none_left}
use Rattle.strm_laws.specs.Prelude.{map_messages, map_queue, line_gone, icanon, imaxbel, noflsh, added, bare, begins, both_ways, dropped, echo_dir}
use Rattle.strm_laws.specs.Prelude.{echo_grows, echo_lost, echo_stands, echoed, gathered_up, goes_up, grown, is_blank_cell, is_lnext, lost, sigint}
use Rattle.strm_laws.specs.Prelude.{signals, sigquit, sigtstp, stops, strikes, stroke_at, struck, up_alone}
use Rattle.strm_types.specs.declared.kinds.MsgKind.TheVariants as kinds
use Rattle.strm_types.specs.declared.rules.Rule.TheVariants.{EofKey}
use Rattle.strm_types.specs.Echo.{echo_of}
use Rattle.strm_laws.specs.LdtermOrigins.{map_ldterm}
use Rattle.strm_types.specs.Typing.{line_sent}
use Rattle.strm_laws.proofs.Forgetting.{cells-forget, full-forgets, none-forgets, put_enables-forgets, put_on-forgets}
use Rattle.strm_laws.proofs.LdtermPutForgets.{image, either-agrees, line_gone-forgets}

module _ {C D : Type 0} (f : C → D) where
  bare-forgets : (kind : MsgKind) (bytes : List ℕ) → map_message f (bare kind bytes) ≡ bare kind bytes
  unfolding map_message
  bare-forgets kind bytes = refl

  flush-forgets : (bytes : List ℕ) → map_message f (flush_message bytes) ≡ flush_message bytes
  unfolding map_message
  flush-forgets bytes = refl

  pub data-forgets : (line : List C) → map_message f (data_message line) ≡ data_message (map f line)
  unfolding map_message data_message
  data-forgets line = refl

  last-forgets : (line : List C) → without_last (map f line) ≡ map f (without_last line)
  last-forgets line = ap (λ n. take (n - 1) (map f line)) (length-map line f) ∙ take-map f (length line - 1) line

  end-forgets : (test : D → Bool) (line : List C) → without_end test (map f line) ≡ map f (without_end (λ c. test (f c)) line)
  end-forgets test [] = refl
  end-forgets test (c ∷ line) =
      let rest = without_end (λ x. test (f x)) line in
      rw (end-forgets test line, none-forgets f f rest) (at (is_none_left rest && test (f c)) rest)
    where
      at : (b : Bool) (rest : List C) → cond b [] (f c ∷ map f rest) ≡ map f (cond b [] (c ∷ rest))
      at true rest = refl
      at false rest = refl

  word-forgets : (blank : D → Bool) (line : List C) → without_word blank (map f line) ≡ map f (without_word (λ c. blank (f c)) line)
  word-forgets blank line =
      ap (λ l. without_end (λ d. not (blank d)) l) (end-forgets blank line)
      ∙ end-forgets (λ d. not (blank d)) (without_end (λ c. blank (f c)) line)

-- a line of which an edit leaves less
abbrev edits_made : {E : Type 0} → Spot → Rule → List E → List E → E → Discipline E → Acted E (Discipline E)
edits_made here rule left gone c l = record { state = record l { line = left }; notes = []; sent = []; gone = line_gone here.side rule gone ++ line_gone here.side EraseKey (c ∷ []) }

-- ldterm with its signal on the way
abbrev signalled : {E : Type 0} → List (Parcel E) → List (Fate E) → Discipline E → Acted E (Discipline E)
signalled sent gone l = record { state = l; notes = []; sent = sent; gone = gone }

-- with a byte that it gathers, or adds to its line
abbrev added_made : {E : Type 0} → Spot → Bool → Bool → Bool → List E → List E → E → Discipline E → Acted E (Discipline E)
added_made here canonical room bell gathered line c l =
    cond (not canonical) (sends [] (record l { gathered = gathered }))
    (cond room (sends [] (record l { line = cond room line l.line }))
    (cond bell (record (sends [] l) { gone = line_gone here.side LineFull (c ∷ []) })
    (record (sends [] (record l { line = [] })) { gone = line_gone here.side LineOver line })))

-- with the echo of a byte still to come
abbrev struck_made : {E : Type 0} → Bool → Bool → List ℕ → Acted E (Discipline E) → Acted E (Discipline E)
struck_made started none echo t = record t { state = record t.state { stage = Answered echo }; notes = cond (started && not none) (Enable Down ∷ []) [] }

module _ {C : Type 0} (cells : Cells C) (are : AreCells cells) (here : Spot) where
  abbrev f : C → ℕ
  f = cells.byte

  edits-forget : (left : List C) (left' : List ℕ) (rule : Rule) (c : C) (l : Discipline C) → left' ≡ map f left →
      edits_made here rule left' (drop (length left') (map f l.line)) (f c) (map_ldterm f l) ≡ image f (edits_made here rule left (drop (length left) l.line) c l)
  edits-forget left left' rule c l is =
      let gone = drop (length left) l.line in
      rw (is, length-map left f, drop-map f (length left) l.line, line_gone-forgets f here.side rule gone, ← map-append (map_fate f) (line_gone here.side rule gone) (line_gone here.side EraseKey (c ∷ [])))
      refl

  up-forgets : (line : List C) → goes_up plain here (map f line) ≡ map_parcel f (goes_up cells here line)
  up-forgets line = ap (λ m. onward Up here m) (sym (data-forgets f line))

  pub gathered-forget : (gathered : List C) → gathered_up plain here (map f gathered) ≡ map (map_parcel f) (gathered_up cells here gathered)
  gathered-forget [] = refl
  gathered-forget (c ∷ more) = ap (λ parcel. parcel ∷ []) (up-forgets (c ∷ more))

  line-forgets : (line : List C) (l : Discipline C) → line_sent plain here (map f line) (map_ldterm f l) ≡ image f (line_sent cells here line l)
  line-forgets line l = ap (λ parcel. sends (parcel ∷ []) (record (map_ldterm f l) { line = [] })) (up-forgets line)

  stops-forget : (c : C) (l : Discipline C) → stops plain here (f c) (map_ldterm f l) ≡ image f (stops cells here c l)
  stops-forget c l = at l.stopped
    where
      at : (stopped : Bool) → record (dropped plain here FlowKey (f c) (record (map_ldterm f l) { stopped = true })) { sent = cond stopped [] (onward Down here (bare kinds.Stop []) ∷ []) }
          ≡ image f (record (dropped cells here FlowKey c (record l { stopped = true })) { sent = cond stopped [] (onward Down here (bare kinds.Stop []) ∷ []) })
      at true = refl
      at false = ap (λ m. record (dropped plain here FlowKey (f c) (record (map_ldterm f l) { stopped = true })) { sent = onward Down here m ∷ [] }) (sym (bare-forgets f kinds.Stop []))

  sent-forgets : (gathered : List C) (more : List (Parcel C)) (more' : List (Parcel ℕ)) → more' ≡ map (map_parcel f) more →
      gathered_up plain here (map f gathered) ++ more' ≡ map (map_parcel f) (gathered_up cells here gathered ++ more)
  sent-forgets gathered more more' is =
      rw (gathered-forget gathered, is) (sym (map-append (map_parcel f) (gathered_up cells here gathered) more))

  signals-forget : (asked : FlushAsked) (signal : ℕ) (c : C) (l : Discipline C) → signals plain here asked signal (f c) (map_ldterm f l) ≡ image f (signals cells here asked signal c l)
  signals-forget asked signal c l = at (noflsh l.termios)
    where
      key : onward Up here (bare kinds.Pcsig (signal ∷ [])) ∷ [] ≡ map (map_parcel f) (onward Up here (bare kinds.Pcsig (signal ∷ [])) ∷ [])
      key = ap (λ m. onward Up here m ∷ []) (sym (bare-forgets f kinds.Pcsig (signal ∷ [])))

      flush : onward Up here (flush_message (flush_bytes asked)) ∷ onward Up here (bare kinds.Pcsig (signal ∷ [])) ∷ [] ≡ map (map_parcel f) (onward Up here (flush_message (flush_bytes asked)) ∷ onward Up here (bare kinds.Pcsig (signal ∷ [])) ∷ [])
      flush = rw (← flush-forgets f (flush_bytes asked), key) refl

      at : (kept : Bool) → cond kept
          (signalled (gathered_up plain here (map f l.gathered) ++ onward Up here (bare kinds.Pcsig (signal ∷ [])) ∷ []) (lost plain here SignalKey (f c ∷ [])) (record (map_ldterm f l) { gathered = [] }))
          (signalled (gathered_up plain here (map f l.gathered) ++ onward Up here (flush_message (flush_bytes asked)) ∷ onward Up here (bare kinds.Pcsig (signal ∷ [])) ∷ []) (lost plain here Flushed (map f l.line) ++ lost plain here SignalKey (f c ∷ [])) (record (map_ldterm f l) { gathered = []; line = [] }))
          ≡ image f (cond kept
          (signalled (gathered_up cells here l.gathered ++ onward Up here (bare kinds.Pcsig (signal ∷ [])) ∷ []) (lost cells here SignalKey (c ∷ [])) (record l { gathered = [] }))
          (signalled (gathered_up cells here l.gathered ++ onward Up here (flush_message (flush_bytes asked)) ∷ onward Up here (bare kinds.Pcsig (signal ∷ [])) ∷ []) (lost cells here Flushed l.line ++ lost cells here SignalKey (c ∷ [])) (record l { gathered = []; line = [] })))
      at true = ap (λ sent. signalled sent (lost plain here SignalKey (f c ∷ [])) (record (map_ldterm f l) { gathered = [] })) (sent-forgets l.gathered (onward Up here (bare kinds.Pcsig (signal ∷ [])) ∷ []) (onward Up here (bare kinds.Pcsig (signal ∷ [])) ∷ []) key)
      at false =
          ap (λ sent. signalled sent (lost plain here Flushed (map f l.line) ++ lost plain here SignalKey (f c ∷ [])) (record (map_ldterm f l) { gathered = []; line = [] }))
          (sent-forgets l.gathered (onward Up here (flush_message (flush_bytes asked)) ∷ onward Up here (bare kinds.Pcsig (signal ∷ [])) ∷ []) (onward Up here (flush_message (flush_bytes asked)) ∷ onward Up here (bare kinds.Pcsig (signal ∷ [])) ∷ []) flush)
          ∙ ap (λ gone. signalled (map (map_parcel f) (gathered_up cells here l.gathered ++ onward Up here (flush_message (flush_bytes asked)) ∷ onward Up here (bare kinds.Pcsig (signal ∷ [])) ∷ [])) gone (record (map_ldterm f l) { gathered = []; line = [] }))
          (ap (λ gone. gone ++ lost plain here SignalKey (f c ∷ [])) (line_gone-forgets f here.side Flushed l.line) ∙ sym (map-append (map_fate f) (lost cells here Flushed l.line) (lost cells here SignalKey (c ∷ []))))

  room-forgets : (line : List C) → has_room (map f line) ≡ has_room line
  room-forgets line = ap (λ n. nat_lt n LINE_MAX) (length-map line f)

  longer-forgets : (line : List C) (c : C) → map f line ++ f c ∷ [] ≡ map f (line ++ c ∷ [])
  longer-forgets line c = sym (map-append f line (c ∷ []))

  added-forgets : (c : C) (l : Discipline C) → added plain here (f c) (map_ldterm f l) ≡ image f (added cells here c l)
  added-forgets c l =
      rw (room-forgets l.line, longer-forgets l.gathered c, longer-forgets l.line c) (at (icanon l.termios) (has_room l.line) (imaxbel l.termios) (l.gathered ++ c ∷ []) (l.line ++ c ∷ []))
    where
      at : (canonical room bell : Bool) (gathered line : List C) → added_made here canonical room bell (map f gathered) (map f line) (f c) (map_ldterm f l) ≡ image f (added_made here canonical room bell gathered line c l)
      at false room bell gathered line = refl
      at true true bell gathered line = refl
      at true false true gathered line = refl
      at true false false gathered line = ap (λ gone. record (sends [] (record (map_ldterm f l) { line = [] })) { gone = gone }) (line_gone-forgets f here.side LineOver line)

  strikes-forget : (key : Key) (c : C) (l : Discipline C) → strikes plain here key (f c) (map_ldterm f l) ≡ image f (strikes cells here key c l)
  strikes-forget Stop c l = stops-forget c l
  strikes-forget Start c l = refl
  strikes-forget Intr c l = signals-forget both_ways sigint c l
  strikes-forget Quit c l = signals-forget both_ways sigquit c l
  strikes-forget Susp c l = signals-forget up_alone sigtstp c l
  strikes-forget Ignored c l = refl
  strikes-forget Eof c l = ap (λ (t : Acted ℕ (Discipline ℕ)). record t { gone = lost plain here EofKey (f c ∷ []) }) (line-forgets l.line l)
  strikes-forget Erase c l = edits-forget (without_last l.line) (without_last (map f l.line)) Erased c l (last-forgets f l.line)
  strikes-forget Werase c l = edits-forget (without_word (is_blank_cell cells here) l.line) (without_word (is_blank_cell plain here) (map f l.line)) Erased c l (word-forgets f (is_blank_cell plain here) l.line)
  strikes-forget Kill c l = edits-forget [] [] Killed c l refl
  strikes-forget Reprint c l = refl
  strikes-forget Lnext c l = refl
  strikes-forget Delimiter c l = ap (λ line. line_sent plain here line (map_ldterm f l)) (longer-forgets l.line c) ∙ line-forgets (l.line ++ c ∷ []) l
  strikes-forget Ordinary c l = added-forgets c l

  pub begins-forget : (c : C) (l : Discipline C) → begins plain here (f c) (map_ldterm f l) ≡ image f (begins cells here c l)
  begins-forget c l = at (l.stopped && restarts l.termios (stroke_at cells here c l))
    where
      at : (starts : Bool) → cond starts (sends (onward Down here (bare kinds.Start []) ∷ []) (record (map_ldterm f l) { stopped = false; stage = Begun true (f c) })) (sends [] (record (map_ldterm f l) { stage = Begun false (f c) }))
          ≡ image f (cond starts (sends (onward Down here (bare kinds.Start []) ∷ []) (record l { stopped = false; stage = Begun true c })) (sends [] (record l { stage = Begun false c })))
      at true = ap (λ m. sends (onward Down here m ∷ []) (record (map_ldterm f l) { stopped = false; stage = Begun true (f c) })) (sym (bare-forgets f kinds.Start []))
      at false = refl

  pub struck-forgets : (started : Bool) (c : C) (l : Discipline C) → struck plain here started (f c) (map_ldterm f l) ≡ image f (struck cells here started c l)
  struck-forgets started c l =
      let stroke = stroke_at cells here c l in
      let mapped = cells.mapped stroke.byte c in
      let begun : Discipline C = record l { after_lnext = is_lnext stroke.key } in
      let t = strikes cells here stroke.key mapped begun in
      ap (λ b. struck_made started (is_none_left (map_messages f l.write_queue.messages)) (echo_of l.termios (bytes_of plain (map f l.line)) (bytes_of plain (strikes plain here stroke.key b (map_ldterm f begun)).state.line) stroke) (strikes plain here stroke.key b (map_ldterm f begun))) (sym (are.byte_mapped stroke.byte c))
      ∙ ap (λ u. struck_made started (is_none_left (map_messages f l.write_queue.messages)) (echo_of l.termios (bytes_of plain (map f l.line)) (bytes_of plain u.state.line) stroke) u) (strikes-forget stroke.key mapped begun)
      ∙ ap (λ none. struck_made started none (echo_of l.termios (bytes_of plain (map f l.line)) (bytes_of plain (map f t.state.line)) stroke) (image f t)) (none-forgets f (map_message f) l.write_queue.messages)
      ∙ ap (λ before. struck_made started (is_none_left l.write_queue.messages) (echo_of l.termios before (bytes_of plain (map f t.state.line)) stroke) (image f t)) (bytes-plain (map f l.line))
      ∙ ap (λ after. struck_made started (is_none_left l.write_queue.messages) (echo_of l.termios (map f l.line) after stroke) (image f t)) (bytes-plain (map f t.state.line))

  grown-forgets : (new : List C) (ms : List (Message C)) → grown plain here (map f new) (map_messages f ms) ≡ map_messages f (grown cells here new ms)
  grown-forgets new [] = refl
  grown-forgets new (m ∷ []) =
      rw (cells-forget f m, ← map-append f (cells_of m) new, ← data-forgets f (cells_of m ++ new)) refl
  grown-forgets new (m ∷ n ∷ ms) = ap (λ rest. map_message f m ∷ rest) (grown-forgets new (n ∷ ms))

  grows-forget : (new : List C) (l : Discipline C) → echo_grows plain here (map f new) (map_ldterm f l) ≡ image f (echo_grows cells here new l)
  grows-forget new l = ap (λ ms. record (sends [] (record (map_ldterm f l) { write_queue = record (map_queue f l.write_queue) { messages = ms } })) { gone = Comes (echo_dir plain here) (map f new) ∷ [] }) (grown-forgets new l.write_queue.messages)

  stands-forget : (new : List C) (l : Discipline C) → echo_stands plain here (map f new) (map_ldterm f l) ≡ image f (echo_stands cells here new l)
  stands-forget new l =
      let m = data_message new in
      rw (← data-forgets f new, put_enables-forgets f m l.write_queue, put_on-forgets f m l.write_queue) refl

  pub echoed-forgets : (made : ℕ) (echo : List ℕ) (l : Discipline C) → echoed plain here made echo (map_ldterm f l) ≡ image f (echoed cells here made echo l)
  echoed-forgets made [] l = refl
  echoed-forgets made (b ∷ bytes) l =
      let new = cells_made cells (echo_dir cells here) made (b ∷ bytes) in
      ap (λ xs. cond (is_full 0 (map_queue f l.write_queue)) (echo_lost plain here xs (map_ldterm f l)) (cond l.echoing (echo_grows plain here xs (map_ldterm f l)) (echo_stands plain here xs (map_ldterm f l)))) (made-forget cells are (echo_dir cells here) made (b ∷ bytes))
      ∙ ap (λ full. cond full (echo_lost plain here (map f new) (map_ldterm f l)) (cond l.echoing (echo_grows plain here (map f new) (map_ldterm f l)) (echo_stands plain here (map f new) (map_ldterm f l)))) (full-forgets f 0 l.write_queue)
      ∙ either-agrees f (is_full 0 l.write_queue) (echo_lost cells here new l) (cond l.echoing (echo_grows cells here new l) (echo_stands cells here new l))
      (echo_lost plain here (map f new) (map_ldterm f l)) (cond l.echoing (echo_grows plain here (map f new) (map_ldterm f l)) (echo_stands plain here (map f new) (map_ldterm f l)))
      refl
      (either-agrees f l.echoing (echo_grows cells here new l) (echo_stands cells here new l) (echo_grows plain here (map f new) (map_ldterm f l)) (echo_stands plain here (map f new) (map_ldterm f l)) (grows-forget new l) (stands-forget new l))
