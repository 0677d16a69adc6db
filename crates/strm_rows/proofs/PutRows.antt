-- What puts at a head and in a pair compute, case by case, as worked out by hand from the manual pages.
use Rattle.strm_rows.proofs.Prelude.{ℕ, ◌≡◌, Bool, true, false, List, [], ◌∷◌, map, refl, Option, None, Some, Moved, Both, FlushAsked, Band, MsgKind}
use Rattle.strm_rows.proofs.Prelude.{Dir, MasterToSlave, SlaveToMaster, Openness, Never, Open, Closed, QueueName, Side, Master, Slave, Way, Up, Down}
use Rattle.strm_rows.proofs.Prelude.{Rule, Room, Spot, plain, new_book, Acted, Fate, Goes, Parcel, Took, carried, is_data_kind, flush_message, no_own}
use Rattle.strm_rows.proofs.Prelude.{head_put, Head, Message, band_of, cells_of, is_held, is_high_priority, rank_of, size_of, driver_of, delivered}
use Rattle.strm_rows.proofs.Prelude.{put_in, State, Stream, driver_serves, flow, head_with, ordinary, proto, queue, urgent}
use Rattle.strm_types.specs.declared.events.FlushQueues.TheVariants.{Read, Write}
use Rattle.strm_types.specs.declared.kinds.MsgKind.TheVariants as kinds
use Rattle.strm_types.specs.declared.rules.Rule.TheVariants as rules
use Rattle.strm_types.specs.declared.spots.Note.{Note}
use Rattle.strm_types.specs.Flushing.{asked_of, flush_bytes}

abbrev spot : Side → ℕ → Way → Spot
spot side at way = record { side = side; at = at; way = way }

abbrev fate : Rule → Dir → List ℕ → Fate ℕ
fate rule dir cells = Goes dir rule cells

abbrev asked : Bool → Bool → Option Band → FlushAsked
asked for_read for_write band = record { for_read = for_read; for_write = for_write; band = band }

abbrev band : ℕ → Option Band
band n = Some (record { 0 = n })

-- a message of a kind with neither parts nor bytes
abbrev bare : MsgKind → Message ℕ
bare kind = record { kind = kind; band = 0; control = None; body = None; plain = [] }

-- what an M_FLUSH says: FLUSHR, FLUSHW, both and neither, of all bands and of one

pub flushes-are-written : map flush_bytes (asked true false None ∷ asked false true None ∷ asked true true None ∷ asked false false None ∷ asked true false (band 7) ∷ asked false true (band 0) ∷ asked true true (band 2) ∷ [])
    ≡ (1 ∷ []) ∷ (2 ∷ []) ∷ (3 ∷ []) ∷ (0 ∷ []) ∷ (5 ∷ 7 ∷ []) ∷ (6 ∷ 0 ∷ []) ∷ (7 ∷ 2 ∷ []) ∷ []
flushes-are-written = refl

pub flushes-ask-for : map (λ what. asked_of what (band 2)) (Read ∷ Write ∷ Both ∷ []) ≡ asked true false (band 2) ∷ asked false true (band 2) ∷ asked true true (band 2) ∷ []
flushes-ask-for = refl

-- at a head, the slave's

abbrev here : Spot
here = spot Slave 0 Up

abbrev head_of : List (Message ℕ) → Head ℕ
head_of messages = head_with (queue messages []) false

abbrev leaves : Head ℕ → Acted ℕ (Head ℕ)
leaves h = record { state = h; notes = []; sent = []; gone = [] }

-- data joins the queue in the order of its rank, whatever parts it has
pub data-waits-for-readers : map (λ m. head_put here m (head_of (ordinary (7 ∷ []) ∷ []))) (ordinary (8 ∷ []) ∷ ordinary [] ∷ proto ∷ urgent ∷ [])
    ≡ leaves (head_of (ordinary (7 ∷ []) ∷ ordinary (8 ∷ []) ∷ [])) ∷ leaves (head_of (ordinary (7 ∷ []) ∷ ordinary [] ∷ []))
    ∷ leaves (head_of (proto ∷ ordinary (7 ∷ []) ∷ [])) ∷ leaves (head_of (urgent ∷ ordinary (7 ∷ []) ∷ [])) ∷ []
unfolding rank_of is_high_priority
data-waits-for-readers = refl

-- a second M_PCPROTO goes, and others wait behind the one that stands
pub second-pcproto-goes : head_put here urgent (head_of (urgent ∷ proto ∷ [])) ≡ record (leaves (head_of (urgent ∷ proto ∷ []))) { gone = fate rules.Doubled MasterToSlave (9 ∷ []) ∷ [] }
unfolding cells_of
second-pcproto-goes = refl

pub others-wait-behind-a-pcproto : map (λ m. head_put here m (head_of (urgent ∷ []))) (ordinary (8 ∷ []) ∷ proto ∷ []) ≡ leaves (head_of (urgent ∷ ordinary (8 ∷ []) ∷ [])) ∷ leaves (head_of (urgent ∷ proto ∷ [])) ∷ []
unfolding rank_of is_high_priority
others-wait-behind-a-pcproto = refl

-- M_FLUSH: a head with an M_PROTO of band 2 and two bytes, whose writer waits in band 0
abbrev flushed : List ℕ → Acted ℕ (Head ℕ)
flushed bytes = head_put here (flush_message bytes) (head_with (queue (proto ∷ ordinary (7 ∷ 8 ∷ []) ∷ []) (flow 9 1 true ∷ [])) false)

abbrev flush_led : List (Message ℕ) → Bool → List Note → List (Parcel ℕ) → List (Fate ℕ) → Acted ℕ (Head ℕ)
flush_led messages waits notes sent gone = record { state = head_with (queue messages (flow 9 1 waits ∷ [])) false; notes = notes; sent = sent; gone = gone }

abbrev turned : List ℕ → List (Parcel ℕ)
turned bytes = record { to = spot Slave 1 Down; message = flush_message bytes } ∷ []

-- FLUSHR: the queue, whose writer is let go
pub flush-of-a-head : flushed (1 ∷ []) ≡ flush_led [] false (Room Up ∷ []) [] (fate rules.Flushed MasterToSlave (1 ∷ 2 ∷ 3 ∷ 4 ∷ 5 ∷ 7 ∷ 8 ∷ []) ∷ [])
unfolding is_data_kind cells_of size_of band_of is_high_priority
flush-of-a-head = refl

-- FLUSHW: down again, and FLUSHR is cleared; the band stays, and with FLUSHR it alone goes
pub flush-of-writers-is-turned-round : flushed (2 ∷ []) ∷ flushed (6 ∷ 2 ∷ []) ∷ []
    ≡ flush_led (proto ∷ ordinary (7 ∷ 8 ∷ []) ∷ []) true [] (turned (2 ∷ [])) [] ∷ flush_led (proto ∷ ordinary (7 ∷ 8 ∷ []) ∷ []) true [] (turned (6 ∷ 2 ∷ [])) [] ∷ []
flush-of-writers-is-turned-round = refl

pub flush-of-both-at-a-head : flushed (3 ∷ []) ≡ flush_led [] false (Room Up ∷ []) (turned (2 ∷ [])) (fate rules.Flushed MasterToSlave (1 ∷ 2 ∷ 3 ∷ 4 ∷ 5 ∷ 7 ∷ 8 ∷ []) ∷ [])
unfolding is_data_kind cells_of size_of band_of is_high_priority
flush-of-both-at-a-head = refl

pub flush-of-a-band-at-a-head : flushed (7 ∷ 2 ∷ []) ≡ flush_led (ordinary (7 ∷ 8 ∷ []) ∷ []) true [] (turned (6 ∷ 2 ∷ [])) (fate rules.Flushed MasterToSlave (1 ∷ 2 ∷ 3 ∷ 4 ∷ 5 ∷ []) ∷ [])
unfolding is_data_kind cells_of size_of band_of is_high_priority
flush-of-a-band-at-a-head = refl

-- one that asks for nothing is freed, as one without a byte is
pub flush-of-nothing : flushed (0 ∷ []) ∷ flushed [] ∷ [] ≡ flush_led (proto ∷ ordinary (7 ∷ 8 ∷ []) ∷ []) true [] [] [] ∷ flush_led (proto ∷ ordinary (7 ∷ 8 ∷ []) ∷ []) true [] [] [] ∷ []
flush-of-nothing = refl

-- M_HANGUP says that the other end is gone, which stays so; others are freed, and the queue stays as it is
abbrev hanging : Bool → Head ℕ
hanging hung_up = head_with (queue (proto ∷ []) []) hung_up

pub hangups-are-kept : map (λ h. head_put here (bare kinds.Hangup) h) (hanging false ∷ hanging true ∷ []) ≡ leaves (hanging true) ∷ leaves (hanging true) ∷ []
hangups-are-kept = refl

pub others-are-freed : map (λ h. head_put here (bare kinds.Sig) h) (hanging false ∷ hanging true ∷ []) ≡ leaves (hanging false) ∷ leaves (hanging true) ∷ []
others-are-freed = refl

-- in a pair, on each queue of which one byte stands

abbrev pair : Stream ℕ → Stream ℕ → List QueueName → State ℕ
pair master slave enabled = record {
  ends = record { master = master; slave = slave };
  locked = false;
  enabled = enabled;
  next_ioctl = 1;
  books = record { master = new_book; slave = new_book };
}

abbrev end : Openness → List (Message ℕ) → List (Message ℕ) → Stream ℕ
end opened head driver = record { opened = opened; head = head_of head; modules = []; driver = record { queue = queue driver [] } }

abbrev one : ℕ → List (Message ℕ)
one byte = ordinary (byte ∷ []) ∷ []

abbrev ones : Openness → State ℕ
ones slave = pair (end Open (one 1) (one 2)) (end slave (one 3) (one 4)) []

abbrev took : State ℕ → List (Parcel ℕ) → List (Fate ℕ) → Took ℕ (State ℕ)
took s sent gone = record { state = s; sent = sent; gone = gone }

-- at the head of a side that isn't open nobody reads
pub nobody-reads-there : map (λ slave. put_in no_own plain here (ordinary (7 ∷ [])) (ones slave)) (Open ∷ Never ∷ Closed ∷ [])
    ≡ took (pair (end Open (one 1) (one 2)) (end Open (ordinary (3 ∷ []) ∷ one 7) (one 4)) []) [] []
    ∷ took (ones Never) [] (fate rules.EndClosed MasterToSlave (7 ∷ []) ∷ [])
    ∷ took (ones Closed) [] (fate rules.EndClosed MasterToSlave (7 ∷ []) ∷ []) ∷ []
unfolding rank_of is_high_priority cells_of
nobody-reads-there = refl

-- where nothing stands what comes up goes on to the head: data also at the driver's place, an M_FLUSH below that alone
pub nothing-stands-there : map (λ (p : Parcel ℕ). put_in no_own plain p.to p.message (ones Open)) (record { to = spot Slave 2 Up; message = ordinary (7 ∷ []) } ∷ record { to = spot Slave 4 Up; message = ordinary (7 ∷ []) } ∷ record { to = spot Slave 3 Up; message = flush_message (1 ∷ []) } ∷ [])
    ≡ took (ones Open) (record { to = here; message = ordinary (7 ∷ []) } ∷ []) [] ∷ took (ones Open) (record { to = here; message = ordinary (7 ∷ []) } ∷ []) [] ∷ took (ones Open) (record { to = here; message = flush_message (1 ∷ []) } ∷ []) [] ∷ []
nothing-stands-there = refl

-- an M_FLUSH that comes across is for the driver's queue, and for the readers of the side that sent it, if that is open
pub flush-comes-across : put_in no_own plain (spot Slave 4 Up) (flush_message (1 ∷ [])) (ones Open) ≡ took (pair (end Open (one 1) (one 2)) (end Open (one 3) []) []) (record { to = spot Master 0 Up; message = flush_message (1 ∷ []) } ∷ []) (fate rules.Flushed SlaveToMaster (4 ∷ []) ∷ [])
unfolding is_data_kind cells_of size_of
flush-comes-across = refl

pub flush-comes-across-alone : (put_in no_own plain (spot Master 4 Up) (flush_message (1 ∷ [])) (ones Closed)).sent ≡ []
flush-comes-across-alone = refl

-- what goes down is for the driver's queue, which is enabled; once the master is closed it goes
pub data-goes-down : put_in no_own plain (spot Slave 1 Down) (ordinary (7 ∷ [])) (ones Open) ≡ took (pair (end Open (one 1) (one 2)) (end Open (one 3) (ordinary (4 ∷ []) ∷ one 7)) (driver_of Slave ∷ [])) [] []
unfolding rank_of is_high_priority band_of
data-goes-down = refl

pub nothing-crosses-any-more : put_in no_own plain (spot Slave 1 Down) (ordinary (7 ∷ [])) (pair (end Closed [] []) (end Open [] []) []) ≡ took (pair (end Closed [] []) (end Open [] []) []) [] (fate rules.EndClosed SlaveToMaster (7 ∷ []) ∷ [])
unfolding cells_of
nothing-crosses-any-more = refl

-- a writer that is let go at a head enables the driver across
pub room-at-a-head : (put_in no_own plain here (flush_message (1 ∷ [])) (pair (end Open [] []) (record (end Open [] []) { head = head_with (queue (one 3) (flow 9 1 true ∷ [])) false }) [])).state.enabled ≡ driver_of Master ∷ []
unfolding is_data_kind cells_of size_of band_of is_high_priority
room-at-a-head = refl

-- an M_FLUSH for both that comes up to the slave: its head, and what FLUSHW does on the way down, its driver and the head across
pub flush-goes-round : delivered no_own plain here (flush_message (3 ∷ [])) (ones Open)
    ≡ record { state = pair (end Open [] (one 2)) (end Open [] []) []; gone = fate rules.Flushed MasterToSlave (3 ∷ []) ∷ fate rules.Flushed SlaveToMaster (4 ∷ []) ∷ fate rules.Flushed SlaveToMaster (1 ∷ []) ∷ [] }
unfolding carried is_data_kind cells_of size_of
flush-goes-round = refl

-- a turn: an M_PCPROTO that finds one goes by its rule, and counts as moved
pub doubled-in-a-turn : driver_serves no_own plain Master (urgent ∷ one 2) (pair (end Open [] (urgent ∷ one 2)) (end Open (urgent ∷ []) []) [])
    ≡ record {
      turn = Moved 1;
      state = pair (record (end Open [] []) { driver = record { queue = record { messages = one 2; flows = []; want_read = false; no_enable = false } } }) (end Open (urgent ∷ []) []) (driver_of Master ∷ []);
      gone = fate rules.Doubled MasterToSlave (9 ∷ []) ∷ [];
    }
unfolding carried is_held band_of size_of cells_of is_high_priority
doubled-in-a-turn = refl

-- Of an M_FLUSH for writers that is turned round, the master's head lets the slave's driver go; only then the turned queue, on
-- which more stands, is enabled again.
abbrev flush_first : List (Message ℕ)
flush_first = flush_message (2 ∷ []) ∷ one 2

abbrev waited_for : Stream ℕ
waited_for = record (end Open [] flush_first) { head = head_with (queue (one 1) (flow 9 0 true ∷ [])) false }

pub turn-ends-behind-its-delivery : (driver_serves no_own plain Master flush_first (pair waited_for (end Open [] []) [])).state.enabled ≡ driver_of Slave ∷ driver_of Master ∷ []
unfolding carried is_data_kind is_held band_of size_of cells_of is_high_priority
turn-ends-behind-its-delivery = refl
