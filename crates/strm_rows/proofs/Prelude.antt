-- The words of std, and the lemmas of crates below, that several proofs name, passed on from one place. Declares nothing.
pub use Rattle.std.proofs.Common.{Bool, List, [], false, if◌then◌else◌, length, map, refl, replicate, suc, take, true, ℕ, ◌++◌, ◌-◌, ◌∷◌, ◌≡◌}
pub use Rattle.std.specs.Prelude.{None, Option, Some, filter, ◌==◌}
pub use Rattle.strm_laws.proofs.NoOwn.{none as no_own}
pub use Rattle.strm_laws.proofs.Samples.{flow, fresh, head_with, header, options, ordinary, proto, queue, urgent, without_parts}
pub use Rattle.strm_laws.specs.Calls.{called}
pub use Rattle.strm_laws.specs.Closes.{closed_at}
pub use Rattle.strm_laws.specs.Kept.{came, gone}
pub use Rattle.strm_laws.specs.Pushes.{module_named}
pub use Rattle.strm_laws.specs.Puts.{delivered, put_in}
pub use Rattle.strm_laws.specs.Refusals.{at_end, blocks_asked, blocks_taken, refused, refused_at_once, refused_by_state, turn_refused}
pub use Rattle.strm_laws.specs.Stacked.{Standing, ldterm_stands, module_line, module_name}
pub use Rattle.strm_laws.specs.State.{State, Stream, messages_in, new_stream, opening, with_book, with_stream}
pub use Rattle.strm_laws.specs.Step.{IsLegal, replay}
pub use Rattle.strm_laws.specs.TurnOutcomes.{TurnOutcome}
pub use Rattle.strm_laws.specs.Turns.{driver_serves, turned, whole_turn}
pub use Rattle.strm_types.specs.Books.{new_book}
pub use Rattle.strm_types.specs.Cells.{Base, Made, Tagged, Written, cells_written, plain, tagged}
pub use Rattle.strm_types.specs.Deliver.{Acted, Carried, Comes, Fate, Goes, Parcel, Took}
unfoldable pub use Rattle.strm_types.specs.Deliver.{carried}
unfoldable pub use Rattle.strm_types.specs.Drivers.{crosses}
pub use Rattle.strm_types.specs.Events.{Request, content_of, map_answer, map_event, payload_of}
unfoldable pub use Rattle.strm_types.specs.Flush.{is_data_kind}
pub use Rattle.strm_types.specs.Flushing.{flush_message}
pub use Rattle.strm_types.specs.Heads.{Head, head_put, new_head}
pub use Rattle.strm_types.specs.JobControl.{caller_of}
pub use Rattle.strm_types.specs.Journal.{PlainEntry, content_max, entries_in, room_of}
unfoldable pub use Rattle.strm_types.specs.Kinds.{kind_number}
pub use Rattle.strm_types.specs.LdtermPuts.{ldterm_puts}
pub use Rattle.strm_types.specs.Ldterms.{Begun, Between, Discipline}
pub use Rattle.strm_types.specs.Message.{Message}
unfoldable pub use Rattle.strm_types.specs.Message.{band_of, cells_of, data_message, is_held, is_high_priority, map_message, rank_of, size_of}
unfoldable pub use Rattle.strm_types.specs.Message.{weight_of}
pub use Rattle.strm_types.specs.Names.{driver_of, head_of}
pub use Rattle.strm_types.specs.Numbers.{number_of}
pub use Rattle.strm_types.specs.Queue.{Flow, Queue, new_queue}
pub use Rattle.strm_types.specs.Rules.{no_fates}
pub use Rattle.strm_types.specs.Service.{Serving}
pub use Rattle.strm_types.specs.Slots.{PlainSlot}
pub use Rattle.strm_types.specs.Termios.{first_termios, termios_bytes}
unfoldable pub use Rattle.strm_types.specs.Write.{chunk_count}
pub use Rattle.strm_types.specs.declared.answers.Answer.{Answer}
pub use Rattle.strm_types.specs.declared.answers.Answer.TheVariants.{Bytes, Count, Done, Nak, Name, Pending}
pub use Rattle.strm_types.specs.declared.answers.Turn.{Turn}
pub use Rattle.strm_types.specs.declared.answers.Turn.TheVariants.{Blocked, Idle, Moved}
pub use Rattle.strm_types.specs.declared.books.Book.{Book}
pub use Rattle.strm_types.specs.declared.entries.Entry.TheVariants.{Called, Turned}
pub use Rattle.strm_types.specs.declared.events.Caller.{Caller}
pub use Rattle.strm_types.specs.declared.events.Event.TheVariants.{Get, Look, Mode, Nread, OpenMaster, OpenSlave, Pop, Put, Shut, Unlock, Write}
pub use Rattle.strm_types.specs.declared.events.FlushQueues.TheVariants.{Both}
pub use Rattle.strm_types.specs.declared.flushing.FlushAsked.{FlushAsked}
pub use Rattle.strm_types.specs.declared.ioctls.TheConstants.{TCSETSW, TIOCGPGRP, TIOCGWINSZ, TIOCSPGRP}
pub use Rattle.strm_types.specs.declared.keys.Key.{Key}
pub use Rattle.strm_types.specs.declared.keys.Key.TheVariants.{Delimiter, Eof, Erase, Ignored, Intr, Kill, Lnext, Ordinary, Quit, Reprint, Susp}
pub use Rattle.strm_types.specs.declared.keys.Key.TheVariants.{Werase}
pub use Rattle.strm_types.specs.declared.kinds.Band.{Band}
pub use Rattle.strm_types.specs.declared.kinds.MsgKind.{MsgKind}
pub use Rattle.strm_types.specs.declared.kinds.MsgKind.TheVariants.{Ctl, Data, Error, Flush, Hangup, Iocack, Iocnak, Ioctl, Pcproto, Pcsig, Proto}
pub use Rattle.strm_types.specs.declared.kinds.MsgKind.TheVariants.{Read, Setopts, Sig, Start, Stop}
pub use Rattle.strm_types.specs.declared.limits.Config.{Config}
pub use Rattle.strm_types.specs.declared.modes.ControlMode.TheVariants.{Discard, Refuse}
pub use Rattle.strm_types.specs.declared.modes.Prio.{Prio}
pub use Rattle.strm_types.specs.declared.modes.ReadMode.{ReadMode}
pub use Rattle.strm_types.specs.declared.modes.ReadMode.TheVariants.{ByteStream, MessageDiscard, MessageKeep}
pub use Rattle.strm_types.specs.declared.modes.Wanted.TheVariants.{Any, High}
pub use Rattle.strm_types.specs.declared.names.Dir.{Dir}
pub use Rattle.strm_types.specs.declared.names.Dir.TheVariants.{MasterToSlave, SlaveToMaster}
pub use Rattle.strm_types.specs.declared.names.ModuleName.TheVariants.{Pckt, Ptem}
pub use Rattle.strm_types.specs.declared.names.Openness.{Openness}
pub use Rattle.strm_types.specs.declared.names.Openness.TheVariants.{Closed, Never, Open}
pub use Rattle.strm_types.specs.declared.names.Place.TheVariants.{Driver}
pub use Rattle.strm_types.specs.declared.names.QueueName.{QueueName}
pub use Rattle.strm_types.specs.declared.names.Side.{Side}
pub use Rattle.strm_types.specs.declared.names.Side.TheVariants.{Master, Slave}
pub use Rattle.strm_types.specs.declared.names.Way.{Way}
pub use Rattle.strm_types.specs.declared.names.Way.TheVariants.{Down, Up}
pub use Rattle.strm_types.specs.declared.refusals.Refusal.{Refusal}
pub use Rattle.strm_types.specs.declared.refusals.Refusal.TheVariants.{Eagain, Ebadmsg, Einval, Eio, Enosr, Enxio, Erange, JournalFull, NoMemory}
pub use Rattle.strm_types.specs.declared.refusals.Refusal.TheVariants.{NoMinor, StillShared}
pub use Rattle.strm_types.specs.declared.rules.Rule.{Rule}
pub use Rattle.strm_types.specs.declared.rules.Rule.TheVariants.{EndClosed, Flushed, ModulePopped}
pub use Rattle.strm_types.specs.declared.slots.Slot.TheVariants.{Answered, Free, Waiting}
pub use Rattle.strm_types.specs.declared.spots.Note.TheVariants.{Enable, Room}
pub use Rattle.strm_types.specs.declared.spots.Spot.{Spot}
pub use Rattle.strm_types.specs.declared.termios.Termios.{Termios}
