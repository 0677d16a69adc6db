-- The definitions of crates below that several files name, passed on from one place. Declares nothing.
pub use Rattle.strm_laws.specs.Bases.{IsBase}
pub use Rattle.strm_laws.specs.LdtermTurns.{ldterm_rests}
pub use Rattle.strm_laws.specs.Ledgers.{FewBooked, inline, queued}
pub use Rattle.strm_laws.specs.GoodMessages.{GoodMessage}
pub use Rattle.strm_laws.specs.Restorable.{AreMarks, GoodKind, GoodModule, GoodModules, GoodPair, GoodQueue, GoodStream, IsShut, IsThere}
pub use Rattle.strm_laws.specs.Restorable.{IsWhole, Restorable, StandsOn}
pub use Rattle.strm_laws.specs.GoodMessages.{has_header, is_part_kind}
pub use Rattle.strm_laws.specs.Restorable.{goes_out, is_there_among, stands_below}
pub use Rattle.strm_laws.specs.StackCosts.{EachOnce, stands_of, times_there}
pub use Rattle.strm_laws.specs.Stacked.{IsAtRest, KindRests, Module, OfLdterm, OfOwn, OfPckt, OfPtem, Standing, kind_name, ldterm_stands, module_line}
pub use Rattle.strm_laws.specs.Stacked.{module_name, module_queues, queues_of_modules}
pub use Rattle.strm_laws.specs.State.{State, Stream, book, messages_in, queues_of, stream, stream_queues}
pub use Rattle.strm_laws.specs.Within.{IsWithin}
pub use Rattle.strm_types.specs.Both.{get}
unfoldable pub use Rattle.strm_types.specs.Drivers.{crosses}
unfoldable pub use Rattle.strm_types.specs.Flush.{is_data_kind}
pub use Rattle.strm_types.specs.Heads.{Head}
unfoldable pub use Rattle.strm_types.specs.Kinds.{is_body_kind, is_control_kind, kind_number}
pub use Rattle.strm_types.specs.Ldterms.{Between, Discipline, Ldterm, Rests, Stage, is_between, waits_there}
pub use Rattle.strm_types.specs.Message.{Message, is_high_priority, is_part, part}
unfoldable pub use Rattle.strm_types.specs.Message.{cells_of, rank_of, size_of}
pub use Rattle.strm_types.specs.Modules.{stands}
pub use Rattle.strm_types.specs.Names.{AreQueues, IsOnce, has_queues_at, has_service, has_service_at, have_queues, is_enabled, is_master, is_open}
pub use Rattle.strm_types.specs.Names.{same_module, same_queue, same_way}
pub use Rattle.strm_types.specs.Names.{side_from, times}
pub use Rattle.strm_types.specs.Options.{mode_number}
pub use Rattle.strm_types.specs.Owns.{Own}
pub use Rattle.strm_types.specs.Pckts.{new_pckt}
pub use Rattle.strm_types.specs.Ptems.{Ptem}
pub use Rattle.strm_types.specs.Queue.{Flow, IsOrdered, Queue, bytes_of, is_none_left}
pub use Rattle.strm_types.specs.Rules.{fates_of}
pub use Rattle.strm_types.specs.Signals.{AreSignals, has_signal, is_signal}
pub use Rattle.strm_types.specs.Slots.{PlainSlot, answer_bytes, is_free}
pub use Rattle.strm_types.specs.Standings.{QueuePair, messages_at, stood}
pub use Rattle.strm_types.specs.declared.books.Book.{Book}
pub use Rattle.strm_types.specs.declared.both.Both.{Both}
pub use Rattle.strm_types.specs.declared.kinds.MsgKind.{MsgKind}
pub use Rattle.strm_types.specs.declared.kinds.MsgKind.TheVariants.{Ctl, Data, Error, Flush, Hangup, Iocack, Iocnak, Ioctl, Pcproto, Pcsig, Proto}
pub use Rattle.strm_types.specs.declared.kinds.MsgKind.TheVariants.{Read, Setopts, Sig, Start, Stop}
pub use Rattle.strm_types.specs.declared.limits.TheConstants.{BANDS, BLOCK_SIZE, HIGH_PRIORITY_RANK, IOCTL_MAX, MODULES, OWN_QUEUED}
pub use Rattle.strm_types.specs.declared.limits.TheConstants.{SETTINGS_MAX, SIGNAL_LAST}
pub use Rattle.strm_types.specs.declared.modes.ControlMode.{ControlMode}
pub use Rattle.strm_types.specs.declared.modes.ReadMode.{ReadMode}
pub use Rattle.strm_types.specs.declared.names.Dir.{Dir}
pub use Rattle.strm_types.specs.declared.names.Dir.TheVariants.{MasterToSlave, SlaveToMaster}
pub use Rattle.strm_types.specs.declared.names.ModuleName.{ModuleName}
pub use Rattle.strm_types.specs.declared.names.Openness.{Openness}
pub use Rattle.strm_types.specs.declared.names.Openness.TheVariants.{Closed, Never, Open}
pub use Rattle.strm_types.specs.declared.names.Place.{Place}
pub use Rattle.strm_types.specs.declared.names.QueueName.{QueueName}
pub use Rattle.strm_types.specs.declared.names.Side.{Side}
pub use Rattle.strm_types.specs.declared.names.Side.TheVariants.{Master, Slave}
pub use Rattle.strm_types.specs.declared.names.Way.{Way}
pub use Rattle.strm_types.specs.declared.names.Way.TheVariants.{Down, Up}
pub use Rattle.strm_types.specs.declared.options.Marks.{Marks}
pub use Rattle.strm_types.specs.declared.output.TheConstants.{COLUMN_MAX}
pub use Rattle.strm_types.specs.declared.rules.Fates.{Fates}
pub use Rattle.strm_types.specs.declared.rules.TheConstants.{RULES}
pub use Rattle.strm_types.specs.declared.slots.Slot.TheVariants.{Answered, Free, Waiting}
pub use Rattle.strm_types.specs.declared.termios.Termios.{Termios}
pub use Rattle.strm_types.specs.declared.winsize.Winsize.{Winsize}
