-- Forgetting the origins of cells commutes with puts at a head and at a driver.
use Rattle.strm_laws.proofs.Prelude.{ℕ, ◌≡◌, Bool, true, false, cond, List, [], ◌∷◌, ◌++◌, map, refl, sym, ap, ◌∙◌, ◌==◌, ◌&&◌, ◌||◌, Option, None}
use Rattle.strm_laws.proofs.Prelude.{Some, option_map, unwrap_or, map-append}
use Rattle.strm_laws.specs.Prelude.{FlushAsked, Ioc, MsgKind, Flush, Setopts, Ioctl, ReadMode, Side, Way, Up, Down, Marks, Doubled, EndClosed, Across}
use Rattle.strm_laws.specs.Prelude.{Enable, Spot, Acted, Parcel, toward, Goes, answered, bottom_across, crosses, driver_across, driver_put, freed}
use Rattle.strm_laws.specs.Prelude.{ioctl_put, own_flushed, put_across, put_down, reader_flush, taken_in, of_data, asked_by, flush_bytes}
use Rattle.strm_laws.specs.Prelude.{flush_message, read_flush, head_flushed, head_put, is_doubled, nak_down, obeyed, passed_by, turned_round}
use Rattle.strm_laws.specs.Prelude.{waits_for_readers, with_marks_given, Head, map_head, nak_message, read_ioc, Message, cells_of, has_parts, is_part}
use Rattle.strm_laws.specs.Prelude.{map_message, direction_at, direction_from, is_master, mode_message, options_in, map_acted, map_parcel, Queue}
use Rattle.strm_laws.specs.Prelude.{map_messages, map_queue, put_on, put_enables}
use Rattle.std.specs.List.{list_any}
use Rattle.strm_types.specs.Heads.{is_pcproto}
use Rattle.strm_laws.proofs.EmptiedForgets.{gone-forgets, queue_behind-forgets, writer_goes-forgets}
use Rattle.strm_laws.proofs.Forgetting.{cells-forget, kind-forgets, put_enables-forgets, put_on-forgets}

-- a driver whose queue takes a message in, or lets it go
abbrev taken_made : {E : Type 0} → Side → Bool → Bool → List E → Queue E → Queue E → Acted E (Queue E)
taken_made side ended enables cells q behind =
    cond ended (record (freed q) { gone = Goes (direction_from side) EndClosed cells ∷ [] })
    (record (freed behind) { notes = cond enables (Enable Down ∷ []) [] })

-- a head that has the message for its readers, or lets it go
abbrev waits_made : {E : Type 0} → Spot → Bool → List E → Head E → Queue E → Acted E (Head E)
waits_made here doubled cells h behind =
    cond doubled (record (passed_by h) { gone = Goes (direction_at Up here.side) Doubled cells ∷ [] })
    (passed_by (record h { queue = behind }))

-- the same, but for what is sent on
abbrev sends : {E S : Type 0} → List (Parcel E) → Acted E S → Acted E S
sends sent t = record t { sent = sent }

module _ {C D : Type 0} (f : C → D) where
  part-forgets : (o : Option (List C)) → is_part (option_map (map f) o) ≡ is_part o
  part-forgets None = refl
  part-forgets (Some cells) = refl

  pub parts-forget : (m : Message C) → has_parts (map_message f m) ≡ has_parts m
  unfolding map_message
  parts-forget m = ap (λ b. b || is_part (option_map (map f) m.body)) (part-forgets m.control) ∙ ap (λ b. is_part m.control || b) (part-forgets m.body)

  pub bytes-forget : (m : Message C) → (map_message f m).plain ≡ m.plain
  unfolding map_message
  bytes-forget m = refl

  pub flush-forgets : (bytes : List ℕ) → map_message f (flush_message bytes) ≡ flush_message bytes
  unfolding map_message
  flush-forgets bytes = refl

  pub mode-forgets : (mode : ReadMode) (tostop : Bool) → map_message f (mode_message mode tostop) ≡ mode_message mode tostop
  unfolding map_message
  mode-forgets mode tostop = refl

  nak-forgets : (ioc : Ioc) → map_message f (nak_message ioc) ≡ nak_message ioc
  unfolding map_message
  nak-forgets ioc = refl

  abbrev driver_image : Acted C (Queue C) → Acted D (Queue D)
  driver_image t = map_acted f (map_queue f) t

  abbrev head_image : Acted C (Head C) → Acted D (Head D)
  head_image t = map_acted f (map_head f) t

  either-agrees : {S T : Type 0} (g : S → T) (b : Bool) (one another : S) (one' another' : T) → one' ≡ g one → another' ≡ g another → cond b one' another' ≡ g (cond b one another)
  either-agrees g true one another one' another' first second = first
  either-agrees g false one another one' another' first second = second

  -- at a driver
  reads-forget : (goes : Bool) (asked : FlushAsked) (to : Spot) → reader_flush goes asked to ≡ map (map_parcel f) (reader_flush goes asked to)
  reads-forget true asked to = ap (λ m. record { to = to; message = m } ∷ []) (sym (flush-forgets (read_flush asked.band)))
  reads-forget false asked to = refl

  taken_made-forgets : (side : Side) (ended enables : Bool) (cells : List C) (q behind : Queue C) → taken_made side ended enables (map f cells) (map_queue f q) (map_queue f behind) ≡ driver_image (taken_made side ended enables cells q behind)
  taken_made-forgets side true enables cells q behind = refl
  taken_made-forgets side false enables cells q behind = refl

  taken_in-forgets : (side : Side) (across : Across) (m : Message C) (q : Queue C) → taken_in side across (map_message f m) (map_queue f q) ≡ driver_image (taken_in side across m q)
  taken_in-forgets side across m q =
      rw (put_enables-forgets f m q, cells-forget f m, put_on-forgets f m q) (taken_made-forgets side across.ended (put_enables m q) (cells_of m) q (put_on m q))

  own-forgets : (side : Side) (asked : FlushAsked) (q : Queue C) → own_flushed side asked (map_queue f q) ≡ driver_image (own_flushed side asked q)
  own-forgets side asked q =
      let chosen = of_data asked.band in
      rw (queue_behind-forgets f chosen q, writer_goes-forgets f chosen q, gone-forgets f chosen q.messages) refl

  flushed-forgets : (side : Side) (asked : FlushAsked) (q : Queue C) (own : Bool) → cond own (own_flushed side asked (map_queue f q)) (freed (map_queue f q)) ≡ driver_image (cond own (own_flushed side asked q) (freed q))
  flushed-forgets side asked q own = either-agrees driver_image own (own_flushed side asked q) (freed q) (own_flushed side asked (map_queue f q)) (freed (map_queue f q)) (own-forgets side asked q) refl

  -- what an M_FLUSH does, by what it asks for
  down-forgets : (side : Side) (across : Across) (asked : FlushAsked) (q : Queue C) → let ps = reader_flush {C = C} (asked.for_write && across.is_open) asked (bottom_across side across) in let qs = reader_flush {C = C} asked.for_read asked (driver_across side across) in
      sends (reader_flush (asked.for_write && across.is_open) asked (bottom_across side across) ++ reader_flush asked.for_read asked (driver_across side across)) (cond asked.for_write (own_flushed side asked (map_queue f q)) (freed (map_queue f q)))
      ≡ driver_image (sends (ps ++ qs) (cond asked.for_write (own_flushed side asked q) (freed q)))
  down-forgets side across asked q =
      let goes = asked.for_write && across.is_open in
      let up = bottom_across side across in
      let over = driver_across side across in
      let ps = reader_flush {C = C} goes asked up in
      let qs = reader_flush {C = C} asked.for_read asked over in
      let t = cond asked.for_write (own_flushed side asked q) (freed q) in
      rw (flushed-forgets side asked q asked.for_write, reads-forget goes asked up, reads-forget asked.for_read asked over, ← map-append (map_parcel f) ps qs) refl

  across-forgets : (side : Side) (across : Across) (asked : FlushAsked) (q : Queue C) →
      sends (reader_flush across.is_open asked (bottom_across side across)) (own_flushed side asked (map_queue f q)) ≡ driver_image (sends (reader_flush across.is_open asked (bottom_across side across)) (own_flushed side asked q))
  across-forgets side across asked q =
      ap (λ u. sends (reader_flush across.is_open asked (bottom_across side across)) u) (own-forgets side asked q)
      ∙ ap (λ xs. sends xs (driver_image (own_flushed side asked q))) (reads-forget across.is_open asked (bottom_across side across))

  ioctl-forgets : (side : Side) (across : Across) (here : Spot) (known : Option Ioc) (m : Message C) (q : Queue C) → ioctl_put side across here known (map_message f m) (map_queue f q) ≡ driver_image (ioctl_put side across here known m q)
  ioctl-forgets side across here None m q = refl
  ioctl-forgets side across here (Some ioc) m q =
      either-agrees driver_image (ioc.number == 0 || (is_master side && across.is_open)) (taken_in side across m q) (answered here ioc q) (taken_in side across (map_message f m) (map_queue f q)) (answered here ioc (map_queue f q))
      (taken_in-forgets side across m q)
      (ap (λ nak. record (freed (map_queue f q)) { sent = record { to = toward Up here; message = nak } ∷ [] }) (sym (nak-forgets ioc)))

  put_down-forgets : (side : Side) (across : Across) (here : Spot) (kind : MsgKind) (m : Message C) (q : Queue C) → put_down side across here kind (map_message f m) (map_queue f q) ≡ driver_image (put_down side across here kind m q)
  unfolding map_message
  put_down-forgets side across here Flush m q = down-forgets side across (asked_by m.plain) q
  put_down-forgets side across here Ioctl m q = ioctl-forgets side across here (read_ioc m.plain) m q
  put_down-forgets side across here kind m q = either-agrees driver_image (crosses kind) (taken_in side across m q) (freed q) (taken_in side across (map_message f m) (map_queue f q)) (freed (map_queue f q)) (taken_in-forgets side across m q) refl

  put_across-forgets : (side : Side) (across : Across) (kind : MsgKind) (m : Message C) (q : Queue C) → put_across side across kind (map_message f m) (map_queue f q) ≡ driver_image (put_across side across kind m q)
  unfolding map_message
  put_across-forgets side across Flush m q =
      let asked = asked_by m.plain in
      either-agrees driver_image asked.for_read (sends (reader_flush across.is_open asked (bottom_across side across)) (own_flushed side asked q)) (freed q)
      (sends (reader_flush across.is_open asked (bottom_across side across)) (own_flushed side asked (map_queue f q))) (freed (map_queue f q)) (across-forgets side across asked q) refl
  put_across-forgets side across kind m q = refl

  way-forgets : (way : Way) (side : Side) (across : Across) (here : Spot) (m : Message C) (q : Queue C) → let to : Spot = record here { way = way } in driver_put side across to (map_message f m) (map_queue f q) ≡ driver_image (driver_put side across to m q)
  way-forgets Down side across here m q =
      let to : Spot = record here { way = Down } in
      let image = map_message f m in
      let behind = map_queue f q in
      ap (λ parts. cond parts (taken_in side across image behind) (put_down side across to image.kind image behind)) (parts-forget m)
      ∙ ap (λ kind. cond (has_parts m) (taken_in side across image behind) (put_down side across to kind image behind)) (kind-forgets f m)
      ∙ either-agrees driver_image (has_parts m) (taken_in side across m q) (put_down side across to m.kind m q) (taken_in side across image behind) (put_down side across to m.kind image behind) (taken_in-forgets side across m q) (put_down-forgets side across to m.kind m q)
  way-forgets Up side across here m q =
      let image = map_message f m in
      let behind = map_queue f q in
      ap (λ parts. cond parts (taken_in side across image behind) (put_across side across image.kind image behind)) (parts-forget m)
      ∙ ap (λ kind. cond (has_parts m) (taken_in side across image behind) (put_across side across kind image behind)) (kind-forgets f m)
      ∙ either-agrees driver_image (has_parts m) (taken_in side across m q) (put_across side across m.kind m q) (taken_in side across image behind) (put_across side across m.kind image behind) (taken_in-forgets side across m q) (put_across-forgets side across m.kind m q)

  pub driver_put-forgets : (side : Side) (across : Across) (here : Spot) (m : Message C) (q : Queue C) → driver_put side across here (map_message f m) (map_queue f q) ≡ driver_image (driver_put side across here m q)
  driver_put-forgets side across here m q = way-forgets here.way side across here m q

  -- at a head
  any-forgets : (ms : List (Message C)) → list_any (λ x. is_pcproto x.kind) (map_messages f ms) ≡ list_any (λ x. is_pcproto x.kind) ms
  any-forgets [] = refl
  any-forgets (m ∷ ms) =
      rw (kind-forgets f m, any-forgets ms) refl

  doubled-forgets : (m : Message C) (ms : List (Message C)) → is_doubled (map_message f m) (map_messages f ms) ≡ is_doubled m ms
  doubled-forgets m ms =
      rw (kind-forgets f m, any-forgets ms) refl

  waits_made-forgets : (here : Spot) (doubled : Bool) (cells : List C) (h : Head C) (behind : Queue C) → waits_made here doubled (map f cells) (map_head f h) (map_queue f behind) ≡ head_image (waits_made here doubled cells h behind)
  waits_made-forgets here true cells h behind = refl
  waits_made-forgets here false cells h behind = refl

  waits-forgets : (here : Spot) (m : Message C) (h : Head C) → waits_for_readers here (map_message f m) (map_head f h) ≡ head_image (waits_for_readers here m h)
  waits-forgets here m h =
      rw (doubled-forgets m h.queue.messages, cells-forget f m, put_on-forgets f m h.queue) (waits_made-forgets here (is_doubled m h.queue.messages) (cells_of m) h (put_on m h.queue))

  head-flushed-forgets : (here : Spot) (asked : FlushAsked) (h : Head C) → head_flushed here asked (map_head f h) ≡ head_image (head_flushed here asked h)
  head-flushed-forgets here asked h =
      let chosen = of_data asked.band in
      let q = h.queue in
      rw (queue_behind-forgets f chosen q, writer_goes-forgets f chosen q, gone-forgets f chosen q.messages) refl

  round-forgets : (here : Spot) (asked : FlushAsked) (goes : Bool) → let bytes = flush_bytes (record asked { for_read = false }) in
      cond goes (record { to = toward Down here; message = flush_message {C = D} bytes } ∷ []) [] ≡ map (map_parcel f) (cond goes (record { to = toward Down here; message = flush_message bytes } ∷ []) [])
  round-forgets here asked true = ap (λ m. record { to = toward Down here; message = m } ∷ []) (sym (flush-forgets (flush_bytes (record asked { for_read = false }))))
  round-forgets here asked false = refl

  up-forgets : (here : Spot) (asked : FlushAsked) (h : Head C) →
      sends (turned_round here asked) (cond asked.for_read (head_flushed here asked (map_head f h)) (passed_by (map_head f h))) ≡ head_image (sends (turned_round here asked) (cond asked.for_read (head_flushed here asked h) (passed_by h)))
  up-forgets here asked h =
      rw (either-agrees head_image asked.for_read (head_flushed here asked h) (passed_by h) (head_flushed here asked (map_head f h)) (passed_by (map_head f h)) (head-flushed-forgets here asked h) refl, round-forgets here asked asked.for_write)
      refl

  nak_down-forgets : (here : Spot) (known : Option Ioc) → nak_down here known ≡ map (map_parcel f) (nak_down here known)
  nak_down-forgets here None = refl
  nak_down-forgets here (Some ioc) = at (ioc.number == 0)
    where
      at : (none : Bool) → cond none [] (record { to = toward Down here; message = nak_message {C = D} ioc } ∷ []) ≡ map (map_parcel f) (cond none [] (record { to = toward Down here; message = nak_message ioc } ∷ []))
      at true = refl
      at false = ap (λ m. record { to = toward Down here; message = m } ∷ []) (sym (nak-forgets ioc))

  marks-forget : (given : Option Marks) (q : Queue C) → with_marks_given given (map_queue f q) ≡ map_queue f (with_marks_given given q)
  marks-forget None q = refl
  marks-forget (Some marks) q = refl

  obeyed-forgets : (here : Spot) (kind : MsgKind) (bytes : List ℕ) (h : Head C) → obeyed here kind bytes (map_head f h) ≡ head_image (obeyed here kind bytes h)
  obeyed-forgets here Flush bytes h = up-forgets here (asked_by bytes) h
  obeyed-forgets here Setopts bytes h =
      let options = options_in bytes in
      ap (λ q. passed_by (record (map_head f h) { read_mode = unwrap_or options.mode h.read_mode; tostop = unwrap_or options.tostop h.tostop; queue = q })) (marks-forget options.marks h.queue)
  obeyed-forgets here Ioctl bytes h = ap (λ xs. sends xs (passed_by (map_head f h))) (nak_down-forgets here (read_ioc bytes))
  obeyed-forgets here kind bytes h = refl

  image-obeyed : (here : Spot) (m : Message C) (h : Head C) → obeyed here (map_message f m).kind (map_message f m).plain (map_head f h) ≡ head_image (obeyed here m.kind m.plain h)
  unfolding map_message
  image-obeyed here m h = obeyed-forgets here m.kind m.plain h

  pub head_put-forgets : (here : Spot) (m : Message C) (h : Head C) → head_put here (map_message f m) (map_head f h) ≡ head_image (head_put here m h)
  head_put-forgets here m h =
      let image = map_message f m in
      let again = obeyed here image.kind image.plain (map_head f h) in
      ap (λ parts. cond parts (waits_for_readers here image (map_head f h)) again) (parts-forget m)
      ∙ either-agrees head_image (has_parts m) (waits_for_readers here m h) (obeyed here m.kind m.plain h) (waits_for_readers here image (map_head f h)) again (waits-forgets here m h)
      (image-obeyed here m h)
