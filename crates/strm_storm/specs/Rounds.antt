-- A round at a pair of a host: it is claimed, opened, written, read and settled.
use Rattle.std.specs.Prelude.{◌≡◌, ℕ, suc, ◌+◌, List, [], ◌∷◌, ◌++◌, All, Some, length, slice_get}
use Rattle.strm_types.specs.declared.answers.Answer.TheVariants.{Bytes, Count}
use Rattle.strm_types.specs.declared.entries.Entry.TheVariants.{Called}
use Rattle.strm_types.specs.declared.events.Caller.{Caller}
use Rattle.strm_types.specs.declared.events.Event.TheVariants.{OpenMaster, OpenSlave, Read, Unlock, Write}
use Rattle.strm_types.specs.declared.names.Side.TheVariants.{Slave}
use Rattle.strm_types.specs.Events.{Reply}
use Rattle.strm_types.specs.JobControl.{caller_of}
use Rattle.strm_types.specs.Journal.{PlainEntry}
use Rattle.strm_laws.specs.Pair.{PairState, new_pair}
use Rattle.strm_locks.specs.declared.held.Settled.{Settled}
use Rattle.strm_locks.specs.Books.{IsReordered, history_of, pick, tally_of, told, weigh}
use Rattle.strm_locks.specs.Ends.{Share, joined_end}
use Rattle.strm_locks.specs.Settles.{IsSettled, ShowsPair}
use Rattle.strm_locks.specs.Shares.{opener}
use Rattle.strm_locks.specs.Systems.{IsOne, Numbered, Plan}
use Rattle.strm_locks.specs.Turns.{Visited}
use Rattle.strm_storm.specs.declared.ends.Ends.{Ends}
use Rattle.strm_storm.specs.declared.hosting.Rounds.{Rounds}
use Rattle.strm_storm.specs.declared.rounds.Round.{Round}

-- "abc"
abbrev pub word : List ℕ
word = 97 ∷ 98 ∷ 99 ∷ []

-- the call that writes these bytes, all of them, and the one that reads them
abbrev pub writing : Caller → PlainEntry
writing caller = Called caller (Write word) (Count 3)

abbrev pub reading : Caller → PlainEntry
reading caller = Called caller (Read 16) (Bytes word)

-- the calls of a round, by what the opening ones were answered: the master's end opened the pair, unlocked it, opened its slave and wrote, and the slave's end read
abbrev pub opening_calls : Reply → Reply → Reply → List PlainEntry
opening_calls opened unlocked slave = Called opener OpenMaster opened ∷ Called opener Unlock unlocked ∷ Called opener OpenSlave slave ∷ []

abbrev pub calls_of : Reply → Reply → Reply → List PlainEntry
calls_of opened unlocked slave = opening_calls opened unlocked slave ++ writing opener ∷ reading (caller_of Slave) ∷ []

-- What a pair tells that was settled behind a round: its ends were told five calls, three bytes written by the master and these read. The pair that was left as new had made just these calls
-- since it was opened, in some order, and the ledgers are its own.
pub record IsRound (s : Settled) (v : Visited) : Type 0 where
  pub told : s.told ≡ told 5 3 0 3 0
  pub pair : PairState
  pub opened : Reply
  pub unlocked : Reply
  pub slave : Reply
  pub calls : IsReordered (calls_of opened unlocked slave) (history_of pair)
  pub shows : ShowsPair pair s
  pub sized : pair.limits ≡ v.lock.sizes
  pub before : List PairState
  pub left : v.met ≡ before ++ pair ∷ [] ++ new_pair pair.limits ∷ []

-- the round was made at the pair of this minor
abbrev pub IsRoundAt : Plan → ℕ → Settled → Visited → Type 0
IsRoundAt system minor s v = (slice_get system.locks minor ≡ Some v.lock) × IsRound s v

-- the round was made at the pair of its minor in this host
abbrev pub IsRoundOf : {P : Type 0} → List Plan → Round P → Type 0
IsRoundOf host r = (system : Plan) × (slice_get host r.minor.system ≡ Some system) × IsRoundAt system r.minor.minor r.closed.settled r.closed.visit

-- so many rounds were asked for: each was made at this host, or refused
abbrev pub AreRounds : {P : Type 0} → List Plan → ℕ → Rounds P → Type 0
AreRounds host asked r = All (λ x. IsRoundOf host x) r.made.items × (length r.made.items + r.refused ≡ asked)

-- the end's calls were these, and what it was told of bytes is what they wrote and read
pub record HasMade (calls : List PlainEntry) (e : Share) : Type 0 where
  pub made : e.made ≡ calls
  pub bytes : (i : ℕ) → pick (suc i) e.told ≡ weigh (λ x. pick (suc i) (tally_of x)) calls

-- ends of this system
abbrev pub AreEnds : {P : Type 0} → Plan → Ends P → Type 0
AreEnds system e = IsOne system e.master × IsOne system e.slave

-- both ends of the pair of a minor, of which the master's opened it, unlocked it and opened the slave
pub record AreOpened (system : Plan) (minor : ℕ) (master slave : Numbered) : Type 0 where
  pub one : IsOne system master
  pub other : IsOne system slave
  pub pair : master.pair ≡ minor
  pub same : slave.pair ≡ minor
  pub caller : master.end.caller ≡ opener
  pub slaves : slave.end.caller ≡ caller_of Slave
  pub opened : Reply
  pub unlocked : Reply
  pub answered : Reply
  pub made : HasMade (opening_calls opened unlocked answered) master.end
  pub none : HasMade [] slave.end

-- the end made just this call more
pub record Asks (a b : Numbered) (e : PlainEntry) : Type 0 where
  pub pair : b.pair ≡ a.pair
  pub lock : b.end.lock ≡ a.end.lock
  pub caller : b.end.caller ≡ a.end.caller
  pub made : b.end.made ≡ a.end.made ++ e ∷ []
  pub bytes : (i : ℕ) → pick (suc i) b.end.told ≡ pick (suc i) a.end.told + pick (suc i) (tally_of e)

-- the pair of two ends was settled, by the end of both
abbrev pub Settles : Plan → Numbered → Numbered → Settled → Visited → Type 0
Settles system master slave s v = (slice_get system.locks master.pair ≡ Some v.lock) × IsSettled (joined_end master.end slave.end) s v.met
