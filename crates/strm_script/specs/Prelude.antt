-- The definitions of crates below that several files name, passed on from one place. Declares nothing.
pub use Rattle.strm_laws.specs.Calls.{called}
pub use Rattle.strm_laws.specs.ModuleTurns.{place_named}
pub use Rattle.strm_laws.specs.Pair.{PairState}
pub use Rattle.strm_laws.specs.Refusals.{blocks_asked, refused, refused_at_once, refused_by_state, turn_refused}
pub use Rattle.strm_laws.specs.State.{State, Stream, opening, stream}
pub use Rattle.strm_laws.specs.TurnOutcomes.{TurnOutcome}
pub use Rattle.strm_laws.specs.Turns.{turned, whole_turn}
pub use Rattle.strm_pair.specs.Shows.{first_at}
pub use Rattle.strm_types.specs.Both.{get}
pub use Rattle.strm_types.specs.Cells.{plain}
pub use Rattle.strm_types.specs.Deliver.{tallied}
unfoldable pub use Rattle.strm_types.specs.Deliver.{carried}
pub use Rattle.strm_types.specs.Events.{Reply, Request}
pub use Rattle.strm_types.specs.Journal.{reply_in}
pub use Rattle.strm_types.specs.Message.{Message}
unfoldable pub use Rattle.strm_types.specs.Message.{band_of, cells_of, data_message, is_held, is_high_priority, rank_of, size_of}
pub use Rattle.strm_types.specs.Names.{driver_of, head_of, is_enabled}
pub use Rattle.strm_types.specs.Refused.{or_else, unless}
pub use Rattle.strm_types.specs.Rules.{no_fates, number_of}
pub use Rattle.strm_types.specs.declared.answers.Answer.TheVariants.{Bytes, Count, Done, Msg, Nak, Name}
pub use Rattle.strm_types.specs.declared.answers.Turn.{Turn}
pub use Rattle.strm_types.specs.declared.answers.Turn.TheVariants.{Blocked, Idle, Moved}
pub use Rattle.strm_types.specs.declared.both.Both.{Both}
pub use Rattle.strm_types.specs.declared.entries.Entry.TheVariants.{Called, Turned}
pub use Rattle.strm_types.specs.declared.events.Caller.{Caller}
pub use Rattle.strm_types.specs.declared.events.Event.TheVariants.{Ioctl, IoctlResult, Look, OpenSlave, Pop, Push, Read, Shut, Unlock, Write}
pub use Rattle.strm_types.specs.declared.events.FlushQueues.{FlushQueues}
pub use Rattle.strm_types.specs.declared.modes.ControlMode.TheVariants.{Data, Discard, Refuse}
pub use Rattle.strm_types.specs.declared.modes.Mode.{Mode}
pub use Rattle.strm_types.specs.declared.modes.Prio.{Prio}
pub use Rattle.strm_types.specs.declared.modes.ReadMode.TheVariants.{ByteStream, MessageDiscard, MessageKeep}
pub use Rattle.strm_types.specs.declared.modes.Wanted.{Wanted}
pub use Rattle.strm_types.specs.declared.names.Dir.{Dir}
pub use Rattle.strm_types.specs.declared.names.Dir.TheVariants.{MasterToSlave, SlaveToMaster}
pub use Rattle.strm_types.specs.declared.names.ModuleName.{ModuleName}
pub use Rattle.strm_types.specs.declared.names.Place.{Place}
pub use Rattle.strm_types.specs.declared.names.Place.TheVariants.{Driver, Head}
pub use Rattle.strm_types.specs.declared.names.QueueName.{QueueName}
pub use Rattle.strm_types.specs.declared.names.Side.{Side}
pub use Rattle.strm_types.specs.declared.names.Side.TheVariants.{Master, Slave}
pub use Rattle.strm_types.specs.declared.names.Way.{Way}
pub use Rattle.strm_types.specs.declared.names.Way.TheVariants.{Down, Up}
pub use Rattle.strm_types.specs.declared.refusals.Refusal.{Refusal}
pub use Rattle.strm_types.specs.declared.refusals.Refusal.TheVariants.{Eagain, Ebadmsg, Einval, Eio, Enosr, Enxio, Erange, JournalFull, NoMemory}
pub use Rattle.strm_types.specs.declared.refusals.Refusal.TheVariants.{NoMinor, StillShared}
pub use Rattle.strm_types.specs.declared.signals.StopSignal.TheVariants.{Ttin, Ttou}
