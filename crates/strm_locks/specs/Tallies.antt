-- What a call adds to the numbers of its pair: the bytes that it wrote and those that it read, each in their direction (write(2), read(2),
-- putmsg(2), getmsg(2)).
use Rattle.std.specs.Prelude.{◌≡◌, ℕ, ◌+◌, List, [], ◌∷◌, length, slice_index_or}
use Rattle.strm_types.specs.declared.answers.Answer.TheVariants.{Done, Count}
use Rattle.strm_types.specs.declared.entries.Entry.TheVariants.{Called, Turned}
use Rattle.strm_types.specs.declared.events.Event.TheVariants.{Write, Read, Put, Get}
use Rattle.strm_types.specs.declared.names.Dir.{Dir}
use Rattle.strm_types.specs.declared.names.Dir.TheVariants.{MasterToSlave, SlaveToMaster}
use Rattle.strm_types.specs.declared.names.Side.{Side}
use Rattle.strm_types.specs.declared.names.Side.TheVariants.{Master, Slave}
use Rattle.strm_types.specs.declared.rules.Fates.{Fates}
use Rattle.strm_types.specs.declared.rules.Rule.TheVariants as rules
use Rattle.strm_types.specs.Events.{Request, Reply, content_of}
use Rattle.strm_types.specs.Journal.{PlainEntry}
use Rattle.strm_types.specs.Message.{part}
use Rattle.strm_types.specs.Rules.{fates_of, number_of}
use Rattle.strm_laws.specs.Pair.{PairState}
use Rattle.strm_laws.specs.State.{book}

-- how many bytes a call wrote: those that a write took, and both parts of a putmsg that is done. Who was stopped wrote none
abbrev pub written_by : Request → Reply → ℕ
written_by (Write bytes) (Count taken) = taken
written_by (Put prio control body) Done = length (part control) + length (part body)
written_by _ _ = 0

-- how many bytes a call read: those that a read gave, and both parts that a getmsg gave. Who was stopped read none
abbrev pub read_by : Request → Reply → ℕ
read_by (Read n) answer = length (content_of answer)
read_by (Get wanted cmax dmax) answer = length (content_of answer)
read_by _ _ = 0

-- so many bytes of what a side writes, in a direction
abbrev pub sent_by : Side → Dir → ℕ → ℕ
sent_by Master MasterToSlave n = n
sent_by Slave SlaveToMaster n = n
sent_by _ _ _ = 0

-- so many bytes of what a side reads, in a direction
abbrev pub received_by : Side → Dir → ℕ → ℕ
received_by Master SlaveToMaster n = n
received_by Slave MasterToSlave n = n
received_by _ _ _ = 0

-- how many bytes of a direction an entry wrote and read; a turn does neither
abbrev pub written_in : Dir → PlainEntry → ℕ
written_in dir (Called caller asked answer) = sent_by caller.side dir (written_by asked answer)
written_in dir (Turned name turn) = 0

abbrev pub read_in : Dir → PlainEntry → ℕ
read_in dir (Called caller asked answer) = received_by caller.side dir (read_by asked answer)
read_in dir (Turned name turn) = 0

-- how many bytes of a direction readers have, of all that has gone
abbrev pub bytes_read : Dir → Fates → ℕ
bytes_read dir fates = slice_index_or (fates_of dir fates) (number_of rules.Read) 0

-- a pair's numbers of written and of read bytes have grown by what the entry wrote and read
pub record Tallies (old new : PairState) (entry : PlainEntry) : Type 0 where
  pub written : (dir : Dir) → (book dir new.state).written ≡ (book dir old.state).written + written_in dir entry
  pub read : (dir : Dir) → bytes_read dir new.fates ≡ bytes_read dir old.fates + read_in dir entry

-- the calls of a journal, in their order, without its turns
abbrev pub calls_in : List PlainEntry → List PlainEntry
calls_in [] = []
calls_in (Called caller asked answer ∷ entries) = Called caller asked answer ∷ calls_in entries
calls_in (Turned name turn ∷ entries) = calls_in entries
