-- The rules by which bytes go, how many have gone by each, and how many were made on the way.
use Rattle.std.specs.Prelude.{ℕ, ◌+◌, ◌%◌, ◌^◌, List, replicate, slice_set, slice_index_or}
use Rattle.strm_types.specs.declared.names.Dir.{Dir}
use Rattle.strm_types.specs.declared.names.Dir.TheVariants.{MasterToSlave, SlaveToMaster}
use Rattle.strm_types.specs.declared.rules.TheConstants.{RULES}
use Rattle.strm_types.specs.declared.rules.Fates.{Fates}
use Rattle.strm_types.specs.declared.rules.Rule.{Rule}
use Rattle.strm_types.specs.declared.rules.Rule.TheVariants.{Read, Igncr, EraseKey, Erased, Killed, EofKey, SignalKey, FlowKey, LnextKey, ReprintKey, LineFull, LineOver, Flushed, RestDiscarded, ControlDropped, Doubled, ModulePopped, EndClosed, Replaced, Onocr, EchoFull}

-- the place of a rule in a ledger
abbrev pub number_of : Rule → ℕ
number_of Read = 0
number_of Igncr = 1
number_of EraseKey = 2
number_of Erased = 3
number_of Killed = 4
number_of EofKey = 5
number_of SignalKey = 6
number_of FlowKey = 7
number_of LnextKey = 8
number_of ReprintKey = 9
number_of LineFull = 10
number_of LineOver = 11
number_of Flushed = 12
number_of RestDiscarded = 13
number_of ControlDropped = 14
number_of Doubled = 15
number_of ModulePopped = 16
number_of EndClosed = 17
number_of Replaced = 18
number_of Onocr = 19
number_of EchoFull = 20

-- nothing has gone, and nothing was made
abbrev pub no_fates : Fates
no_fates = record { from_master = replicate RULES 0; from_slave = replicate RULES 0; made_from_master = 0; made_from_slave = 0 }

-- the counts of one direction with so many bytes more by a rule
abbrev pub counted_more : Rule → ℕ → List ℕ → List ℕ
counted_more rule bytes counts =
    slice_set counts (number_of rule) ((slice_index_or counts (number_of rule) 0 + bytes) % 2 ^ 64)

-- the counts with so many bytes of a direction more
abbrev pub told_more : Dir → Rule → ℕ → Fates → Fates
told_more MasterToSlave rule bytes fates = record fates { from_master = counted_more rule bytes fates.from_master }
told_more SlaveToMaster rule bytes fates = record fates { from_slave = counted_more rule bytes fates.from_slave }

-- the counts with so many bytes of a direction more that were made
abbrev pub made_more : Dir → ℕ → Fates → Fates
made_more MasterToSlave bytes fates = record fates { made_from_master = (fates.made_from_master + bytes) % 2 ^ 64 }
made_more SlaveToMaster bytes fates = record fates { made_from_slave = (fates.made_from_slave + bytes) % 2 ^ 64 }

-- what has gone of a direction, by the numbers of the rules
abbrev pub fates_of : Dir → Fates → List ℕ
fates_of MasterToSlave fates = fates.from_master
fates_of SlaveToMaster fates = fates.from_slave
