-- What putmsg(2) and putpmsg(2) send and are refused for, as worked out by hand from the manual pages.
use Rattle.strm_rows.proofs.Prelude.{ℕ, ◌≡◌, Bool, true, false, List, [], ◌∷◌, map, refl, replicate, Option, None, Some, Done, Book, Called, Caller}
use Rattle.strm_rows.proofs.Prelude.{no_own}
use Rattle.strm_rows.proofs.Prelude.{Put, Get, Mode, Nread, MsgKind, Data, Proto, Pcproto, Discard, Prio, Any, SlaveToMaster, Openness, Never, Open}
use Rattle.strm_rows.proofs.Prelude.{Closed, QueueName, Side, Master, Slave, Refusal, Einval, Eagain, Enxio, Erange, new_book, Request, payload_of}
use Rattle.strm_rows.proofs.Prelude.{called, Tagged, plain, tagged, cells_written, carried, Goes, caller_of, content_max, entries_in, room_of, came}
use Rattle.strm_rows.proofs.Prelude.{gone, Message, rank_of, band_of, size_of, cells_of, is_high_priority, driver_of, Queue, Flow, blocks_asked}
use Rattle.strm_rows.proofs.Prelude.{blocks_taken, refused_at_once, refused_by_state, State, Stream, opening, head_with, flow, queue, ordinary}
use Rattle.strm_types.specs.declared.modes.Mode.TheVariants.{Control}
use Rattle.strm_types.specs.declared.modes.Prio.TheVariants.{High, Band}
use Rattle.strm_types.specs.declared.rules.Rule.TheVariants as rules
use Rattle.strm_types.specs.PutMsg.{put_message, put_refusal}

abbrev caller : Side → Caller
caller side = caller_of side

abbrev banded : ℕ → Prio
banded n = Band (record { 0 = n })

abbrev message : MsgKind → ℕ → Option (List ℕ) → Option (List ℕ) → Message ℕ
message kind band control body = record { kind = kind; band = band; control = control; body = body; plain = [] }

-- M_PCPROTO of band 0 for high priority, M_PROTO with a control part, be it empty, and M_DATA without

pub kinds-that-are-put : put_message High (Some (1 ∷ [])) (Some (2 ∷ [])) ∷ put_message (banded 3) (Some []) None ∷ put_message (banded 3) None (Some (2 ∷ [])) ∷ []
    ≡ message Pcproto 0 (Some (1 ∷ [])) (Some (2 ∷ [])) ∷ message Proto 3 (Some []) None ∷ message Data 3 None (Some (2 ∷ [])) ∷ []
kinds-that-are-put = refl

-- high priority wants a control part, be there a data part or none; every band may be put, whatever is put

pub priorities-that-no-message-has : put_refusal {C = ℕ} High None None ∷ put_refusal {C = ℕ} High None (Some (2 ∷ [])) ∷ put_refusal {C = ℕ} High (Some []) None ∷ put_refusal {C = ℕ} (banded 7) None None ∷ put_refusal {C = ℕ} (banded 8) None None ∷ put_refusal {C = ℕ} (banded 255) None (Some (2 ∷ [])) ∷ []
    ≡ Some Einval ∷ Some Einval ∷ None ∷ None ∷ None ∷ None ∷ []
priorities-that-no-message-has = refl

-- 64 bytes of control and 256 of data, and EINVAL before ERANGE

pub parts-that-are-too-long : map (λ n. put_refusal {C = ℕ} High (Some (replicate n 1)) None) (64 ∷ 65 ∷ []) ≡ None ∷ Some Erange ∷ []
parts-that-are-too-long = refl

pub data-that-is-too-long : map (λ n. put_refusal {C = ℕ} (banded 0) (Some []) (Some (replicate n 1))) (256 ∷ 257 ∷ []) ≡ None ∷ Some Erange ∷ []
data-that-is-too-long = refl

pub missing-control-before-long-parts : put_refusal {C = ℕ} High None (Some (replicate 257 1)) ≡ Some Einval
missing-control-before-long-parts = refl

-- blocks: one for each part, and 32 beside them

abbrev puts : List Request
puts = Put (banded 0) None None ∷ Put (banded 0) (Some []) None ∷ Put (banded 0) None (Some (replicate 256 97)) ∷ Put High (Some (replicate 64 97)) (Some []) ∷ []

pub each-part-takes-a-block : map blocks_taken puts ≡ 0 ∷ 1 ∷ 1 ∷ 2 ∷ []
each-part-takes-a-block = refl

pub puts-ask-for-32-more : map blocks_asked puts ≡ 32 ∷ 33 ∷ 33 ∷ 34 ∷ []
puts-ask-for-32-more = refl

-- A pair whose master's driver has two bytes in band 0, the high mark of each of its two bands. The books have these bytes.

abbrev end : Openness → Bool → Queue ℕ → Stream ℕ
end opened hung_up driver = record { opened = opened; head = head_with (queue [] []) hung_up; modules = []; driver = record { queue = driver } }

abbrev pair : Stream ℕ → Stream ℕ → Book → List QueueName → State ℕ
pair master slave book enabled = record {
  ends = record { master = master; slave = slave };
  locked = false;
  enabled = enabled;
  next_ioctl = 1;
  books = record { master = book; slave = new_book };
}

abbrev marks : List Flow
marks = flow 2 1 false ∷ flow 2 1 false ∷ []

abbrev full : State ℕ
full = pair (end Open false (queue (ordinary (7 ∷ 8 ∷ []) ∷ []) marks)) (end Open false (queue [] [])) new_book []

-- band 0 has to wait; another band, high priority, and what isn't sent have not

abbrev waits : Request → Option Refusal
waits asked = refused_by_state no_own full (caller Master) asked

pub put-waits-for-its-band : map waits (Put (banded 0) None (Some (97 ∷ [])) ∷ Put (banded 0) (Some []) None ∷ Put (banded 1) None (Some (97 ∷ [])) ∷ Put High (Some (97 ∷ [])) None ∷ Put (banded 0) None None ∷ []) ≡ Some Eagain ∷ Some Eagain ∷ None ∷ None ∷ None ∷ []
unfolding band_of size_of cells_of is_high_priority
put-waits-for-its-band = refl

-- not one byte below the mark, nor on the other side
pub put-waits-at-the-mark : refused_by_state no_own full (caller Slave) (Put (banded 0) None (Some (97 ∷ []))) ∷ refused_by_state no_own (pair (end Open false (queue (ordinary (7 ∷ []) ∷ []) marks)) (end Open false (queue [] [])) new_book []) (caller Master) (Put (banded 0) None (Some (97 ∷ []))) ∷ [] ≡ None ∷ None ∷ []
unfolding band_of size_of cells_of is_high_priority
put-waits-at-the-mark = refl

-- what is sent goes to the driver, which is enabled, and is booked as written

pub put-goes-to-the-driver : called no_own plain (caller Master) (Put (banded 1) (Some (97 ∷ 98 ∷ [])) (Some (99 ∷ []))) full
    ≡ record { answer = Done; state = pair (end Open false (queue (message Proto 1 (Some (97 ∷ 98 ∷ [])) (Some (99 ∷ [])) ∷ ordinary (7 ∷ 8 ∷ []) ∷ []) marks)) (end Open false (queue [] [])) (record { written = 3; made = 0 }) (driver_of Master ∷ []); came = 97 ∷ 98 ∷ 99 ∷ []; gone = [] }
unfolding cells_of carried rank_of band_of is_high_priority
put-goes-to-the-driver = refl

-- the control part is written first, behind what was written before
abbrev put_twice : State Tagged
put_twice = (called no_own tagged (caller Slave) (Put High (Some (97 ∷ [])) (Some (98 ∷ 99 ∷ []))) (called no_own tagged (caller Slave) (Put (banded 0) None (Some (100 ∷ []))) opening).state).state

pub control-is-written-before-data : map cells_of put_twice.ends.slave.driver.queue.messages ≡ cells_written tagged SlaveToMaster 1 (97 ∷ 98 ∷ 99 ∷ []) ∷ cells_written tagged SlaveToMaster 0 (100 ∷ []) ∷ []
unfolding carried rank_of band_of cells_of is_high_priority
control-is-written-before-data = refl

pub puts-are-booked : put_twice.books.slave ∷ put_twice.books.master ∷ [] ≡ record { written = 4; made = 0 } ∷ new_book ∷ []
unfolding carried rank_of band_of cells_of is_high_priority
puts-are-booked = refl

-- neither part: nothing is sent
pub put-of-nothing : called no_own plain (caller Master) (Put (banded 0) None None) full
    ≡ record { answer = Done; state = full; came = []; gone = [] }
unfolding cells_of
put-of-nothing = refl

-- two empty parts: a zero-length message
pub put-of-empty-parts : (called no_own plain (caller Slave) (Put (banded 0) (Some []) (Some [])) full).state.ends.slave.driver.queue.messages ≡ message Proto 0 (Some []) (Some []) ∷ []
unfolding carried rank_of band_of is_high_priority
put-of-empty-parts = refl

-- a put brings all its bytes; those that find the master closed go at once
abbrev deserted : State ℕ
deserted = pair (end Closed false (queue [] [])) (end Open false (queue [] [])) new_book []

pub put-brings-its-bytes : came no_own plain deserted (Called (caller Slave) (Put (banded 0) (Some (97 ∷ [])) (Some (98 ∷ []))) Done) ∷ came no_own plain deserted (Called (caller Slave) (Put (banded 0) None None) Done) ∷ [] ≡ (97 ∷ 98 ∷ []) ∷ [] ∷ []
unfolding cells_of
put-brings-its-bytes = refl

pub put-to-nobody-goes : gone no_own plain deserted (Called (caller Slave) (Put (banded 0) (Some (97 ∷ [])) (Some (98 ∷ []))) Done) ≡ Goes SlaveToMaster rules.EndClosed (97 ∷ 98 ∷ []) ∷ []
unfolding carried cells_of
put-to-nobody-goes = refl

-- ENXIO where the slave was never open, where it is closed, and, of a put alone, behind a hang-up

abbrev heard : Openness → Bool → Request → Option Refusal
heard opened hung_up asked = refused_at_once (pair (end Open false (queue [] [])) (end opened hung_up (queue [] [])) new_book []) (caller Slave) asked

abbrev four : List Request
four = Put (banded 0) None (Some (97 ∷ [])) ∷ Get Any 9 9 ∷ Mode (Control Discard) ∷ Nread ∷ []

pub closed-sides-take-no-call : map (heard Never false) four ∷ map (heard Closed false) four ∷ [] ≡ (Some Enxio ∷ Some Enxio ∷ Some Enxio ∷ Some Enxio ∷ []) ∷ (Some Enxio ∷ Some Enxio ∷ Some Enxio ∷ Some Enxio ∷ []) ∷ []
closed-sides-take-no-call = refl

pub hung-up-sides-take-no-put : map (heard Open true) four ∷ map (heard Open false) four ∷ [] ≡ (Some Enxio ∷ None ∷ None ∷ None ∷ []) ∷ (None ∷ None ∷ None ∷ None ∷ []) ∷ []
hung-up-sides-take-no-put = refl

-- ENXIO before EINVAL before ERANGE, of parts as of books
pub refusals-of-puts-in-order : map (λ hung_up. heard Open hung_up (Put High None (Some (97 ∷ [])))) (true ∷ false ∷ []) ≡ Some Enxio ∷ Some Einval ∷ []
refusals-of-puts-in-order = refl

abbrev with_full_book : State ℕ
with_full_book = pair (end Open false (queue [] [])) (end Open false (queue [] [])) (record { written = 4611686018427387904; made = 0 }) []

pub full-books-take-no-put : map (refused_at_once with_full_book (caller Slave)) (Put High None None ∷ Put (banded 0) None None ∷ Get Any 9 9 ∷ []) ≡ Some Einval ∷ Some Erange ∷ None ∷ []
full-books-take-no-put = refl

-- the journal has the control part's bytes and then those of the data part, and none of an absent one

pub payloads-of-puts : map payload_of (Put High (Some (97 ∷ 98 ∷ [])) (Some (99 ∷ [])) ∷ Put (banded 0) None (Some (99 ∷ [])) ∷ Put (banded 0) None None ∷ []) ≡ (97 ∷ 98 ∷ 99 ∷ []) ∷ (99 ∷ []) ∷ [] ∷ []
payloads-of-puts = refl

pub puts-take-room : map room_of (map (λ asked. Called (caller Master) asked Done) puts) ∷ map content_max puts ∷ [] ≡ (0 ∷ 0 ∷ 256 ∷ 64 ∷ []) ∷ (0 ∷ 0 ∷ 0 ∷ 0 ∷ []) ∷ []
puts-take-room = refl

pub stored-puts : entries_in (Called (caller Master) (Put High (Some 2) (Some 1)) Done ∷ Called (caller Slave) (Put (banded 0) (Some 0) None) Done ∷ Called (caller Slave) (Put (banded 3) None (Some 2)) Done ∷ []) (97 ∷ 98 ∷ 99 ∷ 100 ∷ 101 ∷ [])
    ≡ Called (caller Master) (Put High (Some (97 ∷ 98 ∷ [])) (Some (99 ∷ []))) Done ∷ Called (caller Slave) (Put (banded 0) (Some []) None) Done ∷ Called (caller Slave) (Put (banded 3) None (Some (100 ∷ 101 ∷ []))) Done ∷ []
stored-puts = refl
