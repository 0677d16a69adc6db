-- Nothing that is put at a head, a module or a driver goes to a reader, nor what a delivery gives rise to.
use Rattle.std.proofs.Common.{ℕ, zero, suc, ◌≡◌, ◌+◌, ◌-◌, Bool, true, false, cond, List, [], ◌∷◌, ◌++◌, length, refl, ap, arith}
use Rattle.std.specs.Prelude.{◌==◌, ◌&&◌, ◌||◌, not, nat_le, Option, None, Some}
use Rattle.strm_types.specs.declared.flushing.FlushAsked.{FlushAsked}
use Rattle.strm_types.specs.declared.ioctls.Ioc.{Ioc}
use Rattle.strm_types.specs.declared.ioctls.TheConstants.{TCSETSF}
use Rattle.strm_types.specs.declared.kinds.Band.{Band}
use Rattle.strm_types.specs.declared.kinds.MsgKind.{MsgKind}
use Rattle.strm_types.specs.declared.kinds.MsgKind.TheVariants.{Flush, Ioctl}
use Rattle.strm_types.specs.declared.limits.TheConstants.{HOPS, MODULES}
use Rattle.strm_types.specs.declared.names.Dir.{Dir}
use Rattle.strm_types.specs.declared.names.Dir.TheVariants.{MasterToSlave, SlaveToMaster}
use Rattle.strm_types.specs.declared.names.Side.{Side}
use Rattle.strm_types.specs.declared.names.Way.{Way}
use Rattle.strm_types.specs.declared.names.Way.TheVariants.{Up, Down}
use Rattle.strm_types.specs.declared.rules.Rule.{Rule}
use Rattle.strm_types.specs.declared.rules.Rule.TheVariants.{Flushed}
use Rattle.strm_types.specs.declared.spots.Across.{Across}
use Rattle.strm_types.specs.declared.spots.Spot.{Spot}
use Rattle.strm_types.specs.declared.termios.Termios.{Termios}
use Rattle.strm_types.specs.Cells.{Cells}
use Rattle.strm_types.specs.Deliver.{Acted, Carried, Fate, Goes, Comes, Parcel, Took, carried, in_turn, onward}
use Rattle.strm_types.specs.Drivers.{answered, crosses, driver_put, flush_down, freed, ioctl_put, own_flushed, put_across, put_down, taken_in}
use Rattle.strm_laws.proofs.NoOwn.{none as no_own}
use Rattle.strm_laws.specs.Behaviours.{own_by}
use Rattle.strm_laws.specs.Earlier.{driver_place, modules_on}
use Rattle.strm_types.specs.Flushing.{asked_by, flush_message, read_flush, is_bare_flush, is_flush}
use Rattle.strm_types.specs.Heads.{head_flushed, head_put, is_doubled, obeyed, passed_by, Head}
use Rattle.strm_types.specs.Ioctls.{read_ioc}
use Rattle.strm_types.specs.LdtermPuts.{ldterm_puts}
use Rattle.strm_types.specs.Ldterms.{Discipline, both, flush_passes, line_flushed, queue_flushed, read_flushed, sends, takes_band_0, without_line, write_flushed}
use Rattle.strm_types.specs.Message.{Message, has_parts}
use Rattle.strm_types.specs.Modules.{put_among}
use Rattle.strm_types.specs.Names.{direction_at, is_master, is_open}
use Rattle.strm_types.specs.Owns.{Own}
use Rattle.strm_types.specs.OwnStands.{own_holds, own_puts, own_queued, pair_flushed, way_flushed}
use Rattle.strm_laws.specs.Puts.{across_of, delivered, made_above, passed_up, put_at_driver, put_at_head, put_at_module, put_behind, put_below, put_in}
use Rattle.strm_types.specs.Queue.{Queue}
use Rattle.strm_types.specs.Rules.{number_of}
use Rattle.strm_types.specs.Service.{line_gone}
use Rattle.strm_laws.specs.Stacked.{Module, OfLdterm, OfPtem, OfPckt, OfOwn, Standing, module_puts}
use Rattle.strm_laws.specs.State.{State, stream}
use Rattle.strm_types.specs.TakenUp.{input_flushed, taken_up, termios_taken}
use Rattle.strm_types.specs.Typing.{up_alone}
use Rattle.strm_types.specs.Standings.{stood, QueuePair}
use Rattle.strm_types.specs.LdtermStands.{disciplined}
use Rattle.strm_types.proofs.LdtermPuts as of_ldterm
use Rattle.strm_types.proofs.PcktPuts as of_pckt
use Rattle.strm_types.proofs.PtemPuts as of_ptem

-- so many bytes, where both directions are the same
abbrev pub only_in : Dir → Dir → ℕ → ℕ
only_in MasterToSlave MasterToSlave n = n
only_in SlaveToMaster SlaveToMaster n = n
only_in _ _ n = 0

abbrev pub is_first : ℕ → Bool
is_first zero = true
is_first (suc k) = false

-- whether bytes that go by a rule go to a reader: the rule of reads is the first
abbrev pub is_read : Rule → Bool
is_read rule = is_first (number_of rule)

-- how many bytes of a direction go to readers, of what is told
abbrev pub reads : {C : Type 0} → Dir → List (Fate C) → ℕ
reads dir [] = 0
reads dir (Goes other rule xs ∷ told) = cond (is_read rule) (only_in dir other (length xs)) 0 + reads dir told
reads dir (Comes other xs ∷ told) = reads dir told

module _ {C : Type 0} (dir : Dir) where
  pub reads-append : (one two : List (Fate C)) → reads dir (one ++ two) ≡ reads dir one + reads dir two
  reads-append [] two = omega arith
  reads-append (Goes other rule xs ∷ one) two = let more = reads-append one two in omega arith
  reads-append (Comes other xs ∷ one) two = reads-append one two

  pub none-both : (one two : List (Fate C)) → reads dir one ≡ 0 → reads dir two ≡ 0 → reads dir (one ++ two) ≡ 0
  none-both one two first second = omega (arith, reads-append one two, first, second)

  -- nothing goes to a reader
  abbrev pub Unread : {S : Type 0} → Acted C S → Type 0
  Unread t = reads dir t.gone ≡ 0

  pub either : {S : Type 0} (b : Bool) (one another : Acted C S) → Unread one → Unread another → Unread (cond b one another)
  either true one another first second = first
  either false one another first second = second

  -- an unfinished line that goes by another rule
  pub line-unread : (side : Side) (rule : Rule) (xs : List C) → is_read rule ≡ false → reads dir (line_gone side rule xs) ≡ 0
  line-unread side rule [] other = refl
  line-unread side rule (c ∷ xs) other = ap (λ b. cond b (only_in dir (direction_at Up side) (length (c ∷ xs))) 0 + 0) other

  -- at a driver
  taken_in-unread : (side : Side) (across : Across) (m : Message C) (q : Queue C) → Unread (taken_in side across m q)
  taken_in-unread side across m q = either across.ended _ _ refl refl

  flush_down-unread : (side : Side) (across : Across) (asked : FlushAsked) (q : Queue C) → Unread (flush_down side across asked q)
  flush_down-unread side across asked q = either asked.for_write (own_flushed side asked q) (freed q) refl refl

  ioctl-unread : (side : Side) (across : Across) (here : Spot) (known : Option Ioc) (m : Message C) (q : Queue C) → Unread (ioctl_put side across here known m q)
  ioctl-unread side across here None m q = refl
  ioctl-unread side across here (Some ioc) m q = either (ioc.number == 0 || (is_master side && across.is_open)) _ (answered here ioc q) (taken_in-unread side across m q) refl

  put_down-unread : (side : Side) (across : Across) (here : Spot) (kind : MsgKind) (m : Message C) (q : Queue C) → Unread (put_down side across here kind m q)
  put_down-unread side across here Flush m q = flush_down-unread side across (asked_by m.plain) q
  put_down-unread side across here Ioctl m q = ioctl-unread side across here (read_ioc m.plain) m q
  put_down-unread side across here kind m q = either (crosses kind) _ (freed q) (taken_in-unread side across m q) refl

  put_across-unread : (side : Side) (across : Across) (kind : MsgKind) (m : Message C) (q : Queue C) → Unread (put_across side across kind m q)
  put_across-unread side across Flush m q = either (asked_by m.plain).for_read _ (freed q) refl refl
  put_across-unread side across kind m q = refl

  way-unread : (way : Way) (side : Side) (across : Across) (here : Spot) (m : Message C) (q : Queue C) → Unread (driver_put side across (record here { way = way }) m q)
  way-unread Down side across here m q = either (has_parts m) _ _ (taken_in-unread side across m q) (put_down-unread side across (record here { way = Down }) m.kind m q)
  way-unread Up side across here m q = either (has_parts m) _ _ (taken_in-unread side across m q) (put_across-unread side across m.kind m q)

  driver-unread : (side : Side) (across : Across) (here : Spot) (m : Message C) (q : Queue C) → Unread (driver_put side across here m q)
  driver-unread side across here m q = way-unread here.way side across here m q

  -- at a head
  obeyed-unread : (here : Spot) (kind : MsgKind) (bytes : List ℕ) (h : Head C) → Unread (obeyed here kind bytes h)
  obeyed-unread here Flush bytes h = either (asked_by bytes).for_read (head_flushed here (asked_by bytes) h) (passed_by h) refl refl
  obeyed-unread here kind bytes h = refl

  head-unread : (here : Spot) (m : Message C) (h : Head C) → Unread (head_put here m h)
  head-unread here m h = either (has_parts m) _ _ (either (is_doubled m h.queue.messages) _ _ refl refl) (obeyed-unread here m.kind m.plain h)

  -- at ldterm
  both-unread : (t : Acted C (Discipline C)) (next : Discipline C → Acted C (Discipline C)) → Unread t → Unread (next t.state) → Unread (both t next)
  both-unread t next first second = none-both t.gone (next t.state).gone first second

  flushed-unread : (here : Spot) (band : Option Band) (l : Discipline C) → Unread (line_flushed here band l)
  flushed-unread here band l = either (takes_band_0 band) (record (sends [] (without_line l)) { gone = line_gone here.side Flushed l.line }) (sends [] l) (line-unread here.side Flushed l.line refl) refl

  read-unread : (here : Spot) (asked : FlushAsked) (l : Discipline C) → Unread (read_flushed here asked l)
  read-unread here asked l = either asked.for_read (both (queue_flushed Up here asked.band l) (line_flushed here asked.band)) (sends [] l)
      (both-unread (queue_flushed Up here asked.band l) (line_flushed here asked.band) refl (flushed-unread here asked.band (queue_flushed Up here asked.band l).state))
      refl

  write-unread : (here : Spot) (asked : FlushAsked) (l : Discipline C) → Unread (write_flushed here asked l)
  write-unread here asked l = either asked.for_write (queue_flushed Down here asked.band (record l { echoing = l.echoing && not (takes_band_0 asked.band) })) (sends [] l) refl refl

  flush-unread : (here : Spot) (m : Message C) (l : Discipline C) → Unread (flush_passes here m l)
  flush-unread here m l =
      let asked = asked_by m.plain in
      let first = read_flushed here asked l in
      let behind = both first (write_flushed here asked) in
      both-unread behind (sends (onward here.way here m ∷ [])) (both-unread first (write_flushed here asked) (read-unread here asked l) (write-unread here asked first.state)) refl

  taken-unread : (here : Spot) (command : ℕ) (t : Termios) (m : Message C) (l : Discipline C) → Unread (taken_up here command t m l)
  taken-unread here command t m l =
      let read = read_flushed here up_alone l in
      let told : Discipline C → Acted C (Discipline C) = sends (onward Up here (flush_message (read_flush None)) ∷ []) in
      both-unread (input_flushed here command l) (termios_taken here t m) (either (command == TCSETSF) (both read told) (sends [] l) (both-unread read told (read-unread here up_alone l) refl) refl) refl

  ldterm-unread : (here : Spot) (m : Message C) (l : Discipline C) → Unread (ldterm_puts here m l)
  ldterm-unread here m l = of_ldterm.puts-each here m l (λ t. reads dir t.gone ≡ 0) (record {
    waits = λ is. refl;
    flushes = λ is. flush-unread here m l;
    passes = refl;
    taken = λ way is ioc t. taken-unread here ioc.command t m l;
  })

  -- at a module of a user's own, which obeys an M_FLUSH where it has queues
  way-flushed-unread : (here : Spot) (band : Option Band) (flushed : Bool) (way : Way) (pair : QueuePair C) → Unread (way_flushed here band flushed way pair)
  way-flushed-unread here band false way pair = refl
  way-flushed-unread here band true way pair = refl

  pair-unread : (here : Spot) (m : Message C) (o : Own) (pair : QueuePair C) → Unread (pair_flushed here m o pair)
  pair-unread here m o pair =
      let flush = asked_by m.plain in
      let above = way_flushed here flush.band flush.for_read Up pair in
      none-both above.gone (way_flushed here flush.band flush.for_write Down above.state).gone
      (way-flushed-unread here flush.band flush.for_read Up pair) (way-flushed-unread here flush.band flush.for_write Down above.state)

  own-unread : (cells : Cells C) (here : Spot) (m : Message C) (o : Own) (queues : Option (QueuePair C))
      → Unread (own_puts (own_by no_own cells) here m (record { part = o; queues = queues }))
  own-unread cells here m o None = refl
  own-unread cells here m o (Some pair) =
      let own = own_by no_own cells in
      either (is_flush m.kind) (pair_flushed here m o pair) _ (pair-unread here m o pair)
      (either (own_holds own here m o) (own_queued here.way m o pair) _ refl refl)

  -- at any module
  module _ (cells : Cells C) where
    module-unread : (made : ℕ) (here : Spot) (m : Message C) (q : Standing C) → Unread (module_puts no_own cells made here m q)
    module-unread made here m q = by q.part
      where
        by : (part : Module C) → Unread (module_puts no_own cells made here m (stood part q.queues))
        by (OfLdterm l) = ldterm-unread here m (disciplined l q.queues)
        by (OfPtem p) = ap (λ told. reads dir told) (of_ptem.puts-gone here m p)
        by (OfPckt p) = of_pckt.puts-each cells made here m (λ t. reads dir t.gone ≡ 0) refl (λ up is. refl)
        by (OfOwn o) = own-unread cells here m o q.queues

    among-unread : (made i : ℕ) (here : Spot) (m : Message C) (ps : List (Standing C))
        → Unread (put_among (module_puts no_own cells made) i here m ps)
    among-unread made i here m [] = refl
    among-unread made zero here m (q ∷ ps) = module-unread made here m q
    among-unread made (suc i) here m (q ∷ ps) = among-unread made i here m ps

    -- at a spot of a pair
    abbrev Quiet : Took C (State C) → Type 0
    Quiet t = reads dir t.gone ≡ 0

    either-took : (b : Bool) (one another : Took C (State C)) → Quiet one → Quiet another → Quiet (cond b one another)
    either-took true one another first second = first
    either-took false one another first second = second

    pub at-head : (side : Side) (here : Spot) (m : Message C) (s : State C) → Quiet (put_at_head side here m s)
    at-head side here m s = either-took (is_open (stream side s).opened) _ _ (head-unread here m (stream side s).head) refl

    at-driver : (side : Side) (here : Spot) (m : Message C) (s : State C) → Quiet (put_at_driver side here m s)
    at-driver side here m s = driver-unread side (across_of side s) (record here { at = driver_place side s }) m (stream side s).driver.queue

    behind : (way : Way) (here : Spot) (m : Message C) (s : State C) → Quiet (put_behind way here m s)
    behind Down here m s = at-driver here.side here m s
    behind Up here m s = either-took (is_bare_flush m && here.at == suc MODULES) (put_at_driver here.side here m s) (passed_up here m s) (at-driver here.side here m s) refl

    puts-unread : (here : Spot) (m : Message C) (s : State C) → Quiet (put_in no_own cells here m s)
    puts-unread here m s =
        either-took (here.at == 0) (put_at_head here.side here m s) (put_below no_own cells here.way here m s) (at-head here.side here m s)
        (either-took (nat_le here.at (modules_on here.side s)) (put_at_module no_own cells here m s) (put_behind here.way here m s)
        (among-unread (made_above here.side s) (here.at - 1) here m (stream here.side s).modules) (behind here.way here m s))

    -- and with all that it gives rise to
    in_turn-unread : (carry : Parcel C → State C → Carried C (State C)) → ((q : Parcel C) (s : State C) → reads dir (carry q s).gone ≡ 0) → (ps : List (Parcel C)) (s : State C) → reads dir (in_turn carry ps s).gone ≡ 0
    in_turn-unread carry each [] s = refl
    in_turn-unread carry each (q ∷ ps) s =
        let t = carry q s in
        none-both t.gone (in_turn carry ps t.state).gone (each q s) (in_turn-unread carry each ps t.state)

    carried-unread : (hops : ℕ) (q : Parcel C) (s : State C) → reads dir (carried (put_in no_own cells) hops q s).gone ≡ 0
    unfolding carried
    carried-unread zero q s = refl
    carried-unread (suc hops) q s =
        let t = put_in no_own cells q.to q.message s in
        let u = in_turn (carried (put_in no_own cells) hops) t.sent t.state in
        none-both t.gone u.gone (puts-unread q.to q.message s)
        (in_turn-unread (carried (put_in no_own cells) hops) (carried-unread hops) t.sent t.state)

    pub delivered-unread : (to : Spot) (m : Message C) (s : State C) → reads dir (delivered no_own cells to m s).gone ≡ 0
    delivered-unread to m s = carried-unread HOPS (record { to = to; message = m }) s

    pub sent-unread : (ps : List (Parcel C)) (s : State C) → reads dir (in_turn (carried (put_in no_own cells) HOPS) ps s).gone ≡ 0
    sent-unread ps s = in_turn-unread (carried (put_in no_own cells) HOPS) (carried-unread HOPS) ps s
