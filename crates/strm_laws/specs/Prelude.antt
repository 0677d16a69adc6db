-- The definitions of crates below that several files name, passed on from one place. Declares nothing.
pub use Rattle.strm_types.specs.Acks.{ack_message, payload, telling_message}
pub use Rattle.strm_types.specs.Asking.{asked_first, ldterm_asks}
pub use Rattle.strm_types.specs.Books.{with_made, with_written}
pub use Rattle.strm_types.specs.Both.{AllSides, get, map_both, set}
pub use Rattle.strm_types.specs.Budgets.{Costed, Costs, Does, Within, beyond, emits_at, next_at}
unfoldable pub use Rattle.strm_types.specs.Budgets.{budget, cost_of}
pub use Rattle.strm_types.specs.Cells.{AreCells, Base, Cells, Made, Origin, Tagged, Written, bytes_of, cells_made, cells_written, plain, tagged}
pub use Rattle.strm_types.specs.Commands.{is_acked, is_asked, is_ioctl, sets_termios}
pub use Rattle.strm_types.specs.Deliver.{Acted, Carried, Comes, Fate, Goes, Parcel, Took, counted_with, in_turn, onward, tallied, toward}
unfoldable pub use Rattle.strm_types.specs.Deliver.{carried}
pub use Rattle.strm_types.specs.Drivers.{answered, bottom_across, driver_across, driver_put, flush_across, flush_down, freed, ioctl_put, own_flushed}
pub use Rattle.strm_types.specs.Drivers.{put_across, put_down, reader_flush, taken_in}
unfoldable pub use Rattle.strm_types.specs.Drivers.{crosses}
pub use Rattle.strm_types.specs.Dropped.{has_ioctl, slot_dropped}
pub use Rattle.strm_types.specs.Emptied.{Choice, cells_gone, emptied, none_goes, of_all, of_data, queue_behind, stayed, writer_goes}
pub use Rattle.strm_types.specs.Events.{Reply, Request, content_of, payload_of}
pub use Rattle.strm_types.specs.Flushing.{asked_by, asked_of, flush_bytes, flush_message, is_bare_flush, is_flush, read_flush}
pub use Rattle.strm_types.specs.GetQueues.{get_gone, get_lets_go, get_queue, gets_none, none_got, queue_got}
pub use Rattle.strm_types.specs.Gets.{Got, first_data, get_refusal, got_none, head_get, is_wanted, left_behind, map_got, parts_of, prio_got}
pub use Rattle.strm_types.specs.Heads.{Head, flush_up, head_flushed, head_put, is_doubled, map_head, nak_down, new_head, obeyed, passed_by}
pub use Rattle.strm_types.specs.Heads.{turned_round, waits_for_readers, with_marks_given}
pub use Rattle.strm_types.specs.Input.{back_on, begins_next, cells_left, finished, input_begins, is_data, left_of, made_of, next_stage, passes}
pub use Rattle.strm_types.specs.Input.{stage_at, stages, stages_done, then_on, to_treat, treats, with_left}
pub use Rattle.strm_types.specs.Ioctls.{asking, ioc_bytes, ioctl_message, nak_message, read_ioc, word_bytes}
pub use Rattle.strm_types.specs.JobControl.{asks_group, foreground, group_behind, group_reply, held, refusal_behind, sets_group, stop_in}
pub use Rattle.strm_types.specs.Journal.{PlainEntry, answer_len, content_max, entry_in, event_len, part_in, part_len, reply_in, request_in, room_of}
pub use Rattle.strm_types.specs.Journal.{room_used}
pub use Rattle.strm_types.specs.Keys.{carriage_return, restarts}
pub use Rattle.strm_types.specs.Kinds.{kind_number}
unfoldable pub use Rattle.strm_types.specs.Kinds.{is_body_kind, is_control_kind}
pub use Rattle.strm_types.specs.LdtermCalls.{Begins, Ends, bytes_left}
pub use Rattle.strm_types.specs.LdtermPuts.{goes_on, ldterm_puts, passes_on_way, told_by_header, told_termios, waits_behind, waits_on}
pub use Rattle.strm_types.specs.LdtermServes.{ldterm_serves}
pub use Rattle.strm_types.specs.LdtermStands.{disciplined}
pub use Rattle.strm_types.specs.Ldterms.{Answered, Begun, Between, Discipline, IsIdle, Rests, Stage, both, discipline, flush_passes, is_between}
pub use Rattle.strm_types.specs.Ldterms.{line_flushed, new_ldterm, queue_at, queue_flushed, queued_at, read_flushed, sends, takes_band_0, waits_there}
pub use Rattle.strm_types.specs.Ldterms.{with_queue_at, without_line, write_flushed}
pub use Rattle.strm_types.specs.Lines.{Edit, ErasesAll, ErasesByte, ErasesWord, Types, edited, has_room, without_end, without_last, without_word}
pub use Rattle.strm_types.specs.Message.{Message, has_parts, is_part, part}
unfoldable pub use Rattle.strm_types.specs.Message.{band_of, cells_of, data_message, is_held, is_high_priority, map_message, rank_of, size_of}
unfoldable pub use Rattle.strm_types.specs.Message.{weight_of}
pub use Rattle.strm_types.specs.ModuleQueues.{at_place, can_pass, place_before, place_past, waits_at, with_waiting}
pub use Rattle.strm_types.specs.Modules.{act_among, change_among, may_push, put_among, stands, top_name, without_module}
pub use Rattle.strm_types.specs.Names.{direction_at, direction_from, direction_of, driver_of, enable_found, enable_if, enable_some, has_queues_at}
pub use Rattle.strm_types.specs.Names.{have_queues, head_of}
pub use Rattle.strm_types.specs.Names.{is_closed, is_enabled, is_master, is_open, other, place_of, same_module, same_place, same_queue}
pub use Rattle.strm_types.specs.Names.{same_side, same_way, side_from, without}
pub use Rattle.strm_types.specs.Needs.{needs}
pub use Rattle.strm_types.specs.Numbers.{number_of}
pub use Rattle.strm_types.specs.Options.{mode_message, options_in}
pub use Rattle.strm_types.specs.Origins.{PutsAgree, map_acted, map_carried, map_fate, map_parcel, map_took}
pub use Rattle.strm_types.specs.Output.{made_for, map_output, post, posts, space, told_for}
pub use Rattle.strm_types.specs.OutputTurns.{Outgoing, outgoing, output_dir, output_serves, posted, unchanged, with_given}
pub use Rattle.strm_types.specs.Pckts.{Pckt, flush_passed, is_flush_passed, is_packed, packet, pckt_on_way, pckt_packs, pckt_passes, pckt_puts}
pub use Rattle.strm_types.specs.Pckts.{plain_packed}
pub use Rattle.strm_types.specs.Ptems.{Ptem, acks, asked_above, asked_below, asked_by_header, asked_on_way, naks, ptem_passes, ptem_puts, set_above}
pub use Rattle.strm_types.specs.Ptems.{signal_told, signals_up, sigwinch, termios_set, window_set, window_told}
pub use Rattle.strm_types.specs.PutMsg.{is_no_prio, is_too_long, no_parts, put_message, put_refusal, put_waits}
pub use Rattle.strm_types.specs.Queue.{Flow, IsOrdered, Queue, count_of, first_size, is_full, is_none_left, lane, left_with, map_messages, map_queue}
pub use Rattle.strm_types.specs.Queue.{new_queue, put, put_back, put_enables, put_on, relieved, relieved_from, relieves, weight}
pub use Rattle.strm_types.specs.Reads.{Drawn, all_cells, and_more, control_gone, drawn, emptied_of, front_of, head_draw, is_passed, is_refused}
pub use Rattle.strm_types.specs.Reads.{no_cells, none_went, offered, queue_drawn, read_fates, read_gone, read_lets_go, read_queue, read_refusal}
pub use Rattle.strm_types.specs.Reads.{rest_after, rest_with, shown, stopped, takes_none, wanted_after}
pub use Rattle.strm_types.specs.Refused.{has_no_data, or_else, turn_blocks, unless}
pub use Rattle.strm_types.specs.Rules.{fates_of, no_fates}
pub use Rattle.strm_types.specs.Service.{Serving, cleared, done_by, echo_most, end_relieves, has_more, line_gone, queues_cleared, served_by}
pub use Rattle.strm_types.specs.Service.{turn_ended}
pub use Rattle.strm_types.specs.Shapes.{Acking, Asking, At, FlushMixed, FlushR, FlushRW, FlushW, Held, Packed, Passing, Shape, is_flushing, shape_by}
pub use Rattle.strm_types.specs.Shapes.{shape_of}
pub use Rattle.strm_types.specs.Signals.{signal_in}
pub use Rattle.strm_types.specs.Slots.{PlainSlot, answer_bytes, gives_nothing, is_free, result_refusal, slot_behind, told_of}
pub use Rattle.strm_types.specs.Standings.{QueuePair, has_queues, map_pair, messages_at, messages_on, new_pair, pair_changed, queue_changed, stood}
pub use Rattle.strm_types.specs.Tables.{Crossing, ToDriver, ToReaders, driver_does, head_does, name_does}
pub use Rattle.strm_types.specs.TakenUp.{ends_lines, input_flushed, line_up, read_mode_of, taken_up, termios_taken}
pub use Rattle.strm_types.specs.Termios.{icanon, imaxbel, noflsh, opost, read_termios, termios_bytes, tostop}
pub use Rattle.strm_types.specs.Typing.{added, bare, begins, both_ways, dropped, echo_dir, echo_grows, echo_lost, echo_stands, echoed, gathered_up}
pub use Rattle.strm_types.specs.Typing.{goes_up, grown, is_blank_cell, is_lnext, lost, sigint, signals, sigquit, sigtstp, stops, strikes, stroke_at}
pub use Rattle.strm_types.specs.Typing.{struck, up_alone}
pub use Rattle.strm_types.specs.Winsizes.{read_winsize, same_winsize, winsize_bytes}
pub use Rattle.strm_types.specs.Write.{chunks_of}
unfoldable pub use Rattle.strm_types.specs.Write.{chunk_count}
pub use Rattle.strm_types.specs.declared.answers.Answer.{Answer}
pub use Rattle.strm_types.specs.declared.answers.Answer.TheVariants.{Bytes, Count, Done, Msg, Nak, Sizes}
pub use Rattle.strm_types.specs.declared.answers.Turn.{Turn}
pub use Rattle.strm_types.specs.declared.answers.Turn.TheVariants.{Blocked, Idle, Moved}
pub use Rattle.strm_types.specs.declared.books.Book.{Book}
pub use Rattle.strm_types.specs.declared.both.Both.{Both}
pub use Rattle.strm_types.specs.declared.entries.Entry.TheVariants.{Called, Turned}
pub use Rattle.strm_types.specs.declared.events.Caller.{Caller}
pub use Rattle.strm_types.specs.declared.events.Event.{Event}
pub use Rattle.strm_types.specs.declared.events.Event.TheVariants.{Get, IoctlResult, Look, Mode, Nread, OpenMaster, OpenSlave, Pop, Push, Put, Read}
pub use Rattle.strm_types.specs.declared.events.Event.TheVariants.{Shut, Signals, Unlock, Write}
pub use Rattle.strm_types.specs.declared.events.FlushQueues.{FlushQueues}
pub use Rattle.strm_types.specs.declared.flushing.FlushAsked.{FlushAsked}
pub use Rattle.strm_types.specs.declared.ioctls.Ioc.{Ioc}
pub use Rattle.strm_types.specs.declared.ioctls.TheConstants.{TCGETS, TCSETSF, TIOCGPGRP, TIOCGWINSZ, TIOCSIGNAL, TIOCSWINSZ}
pub use Rattle.strm_types.specs.declared.job_control.Verdict.{Verdict}
pub use Rattle.strm_types.specs.declared.keys.Key.{Key}
pub use Rattle.strm_types.specs.declared.keys.Key.TheVariants.{Delimiter, Eof, Erase, Ignored, Intr, Kill, Lnext, Ordinary, Quit, Reprint, Start}
pub use Rattle.strm_types.specs.declared.keys.Key.TheVariants.{Stop, Susp, Werase}
pub use Rattle.strm_types.specs.declared.keys.TheConstants.{LINE_MAX}
pub use Rattle.strm_types.specs.declared.kinds.Band.{Band}
pub use Rattle.strm_types.specs.declared.kinds.MsgKind.{MsgKind}
pub use Rattle.strm_types.specs.declared.kinds.MsgKind.TheVariants.{Ctl, Data, Error, Flush, Hangup, Iocack, Iocnak, Ioctl, Pcproto, Pcsig, Proto}
pub use Rattle.strm_types.specs.declared.kinds.MsgKind.TheVariants.{Setopts, Sig}
pub use Rattle.strm_types.specs.declared.limits.Config.{Config}
pub use Rattle.strm_types.specs.declared.limits.TheConstants.{BANDS, HOPS, IOCTL_END, IOCTL_MAX, MODULES, READ_MAX, STOP_BLOCKS}
pub use Rattle.strm_types.specs.declared.modes.ControlMode.{ControlMode}
pub use Rattle.strm_types.specs.declared.modes.ControlMode.TheVariants.{Discard, Refuse}
pub use Rattle.strm_types.specs.declared.modes.Prio.{Prio}
pub use Rattle.strm_types.specs.declared.modes.Prio.TheVariants.{High}
pub use Rattle.strm_types.specs.declared.modes.ReadMode.{ReadMode}
pub use Rattle.strm_types.specs.declared.modes.ReadMode.TheVariants.{ByteStream, MessageDiscard, MessageKeep}
pub use Rattle.strm_types.specs.declared.modes.Wanted.{Wanted}
pub use Rattle.strm_types.specs.declared.names.Dir.{Dir}
pub use Rattle.strm_types.specs.declared.names.Dir.TheVariants.{MasterToSlave, SlaveToMaster}
pub use Rattle.strm_types.specs.declared.names.ModuleName.{ModuleName}
pub use Rattle.strm_types.specs.declared.names.Openness.{Openness}
pub use Rattle.strm_types.specs.declared.names.Openness.TheVariants.{Closed, Open}
pub use Rattle.strm_types.specs.declared.names.Place.{Place}
pub use Rattle.strm_types.specs.declared.names.Place.TheVariants.{Driver}
pub use Rattle.strm_types.specs.declared.names.QueueName.{QueueName}
pub use Rattle.strm_types.specs.declared.names.Side.{Side}
pub use Rattle.strm_types.specs.declared.names.Side.TheVariants.{Master, Slave}
pub use Rattle.strm_types.specs.declared.names.Way.{Way}
pub use Rattle.strm_types.specs.declared.names.Way.TheVariants.{Down, Up}
pub use Rattle.strm_types.specs.declared.needs.Needs.{Needs}
pub use Rattle.strm_types.specs.declared.needs.Reach.{Reach}
pub use Rattle.strm_types.specs.declared.options.Marks.{Marks}
pub use Rattle.strm_types.specs.declared.output.Given.{Given}
pub use Rattle.strm_types.specs.declared.output.Given.TheVariants.{Byte, Ended, Nothing, Spaces}
pub use Rattle.strm_types.specs.declared.output.TheConstants.{COLUMN_MAX}
pub use Rattle.strm_types.specs.declared.refusals.Refusal.{Refusal}
pub use Rattle.strm_types.specs.declared.refusals.Refusal.TheVariants.{Eagain, Einval, Enosr, Enxio, Erange, JournalFull}
pub use Rattle.strm_types.specs.declared.rules.Fates.{Fates}
pub use Rattle.strm_types.specs.declared.rules.Rule.{Rule}
pub use Rattle.strm_types.specs.declared.rules.Rule.TheVariants.{Doubled, EndClosed, EraseKey, Erased, FlowKey, Flushed, Killed, LineFull, LineOver}
pub use Rattle.strm_types.specs.declared.rules.Rule.TheVariants.{ModulePopped, SignalKey}
pub use Rattle.strm_types.specs.declared.rules.TheConstants.{RULES}
pub use Rattle.strm_types.specs.declared.signals.StopSignal.{StopSignal}
pub use Rattle.strm_types.specs.declared.slots.Slot.TheVariants.{Free, Waiting}
pub use Rattle.strm_types.specs.declared.spots.Across.{Across}
pub use Rattle.strm_types.specs.declared.spots.Asks.{Asks}
pub use Rattle.strm_types.specs.declared.spots.Note.{Note}
pub use Rattle.strm_types.specs.declared.spots.Note.TheVariants.{Enable, Room}
pub use Rattle.strm_types.specs.declared.spots.Spot.{Spot}
pub use Rattle.strm_types.specs.declared.termios.Termios.{Termios}
pub use Rattle.strm_types.specs.declared.winsize.Winsize.{Winsize}
