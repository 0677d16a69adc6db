-- The definitions of crates below that several files name, passed on from one place. Declares nothing.
pub use Rattle.strm_blocks.specs.Blocks.{Block, Held, IsFreshName, IsInHand, IsStore, StoreValue, block_at, dropped, empty_store, free_m, held}
pub use Rattle.strm_blocks.specs.Blocks.{in_hand, list_at, times_in, token, used}
unfoldable pub use Rattle.strm_blocks.specs.Blocks.{free_d}
pub use Rattle.strm_blocks.specs.Outcomes.{PeekedFirst, SeenBlock, seen_in}
pub use Rattle.strm_blocks.specs.declared.asked.Peek.{Peek}
pub use Rattle.strm_frame.specs.Does.{Puts, StaysAlone}
pub use Rattle.strm_frame.specs.Hands.{AreIn, CanPut, Handles, Hands, HasRoom, OnlyOwn, SameOwn, SamePool, Shifts, Spends, Takes}
unfoldable pub use Rattle.strm_frame.specs.Hands.{once}
pub use Rattle.strm_frame.specs.Outboxes.{AreChains, message_in, parcels_in, sent_of, times_sent}
pub use Rattle.strm_frame.specs.Serves.{SameHand, later_cost, least_free, stop_at}
pub use Rattle.strm_frame.specs.StackLaws.{stack-stays}
pub use Rattle.strm_frame.specs.Stacks.{AreHeld, all_of}
pub use Rattle.strm_frame.specs.Standings.{Fits, IsPairReady, keeps_of, owns, pair_in, queues_in, queues_own, standing, standing_in}
pub use Rattle.strm_frame.specs.declared.modules.Acts.{Acts}
pub use Rattle.strm_frame.specs.declared.parcels.Sent.{Sent}
pub use Rattle.strm_frame.specs.declared.queue_pair.QueuePair.{QueuePair}
pub use Rattle.strm_frame.specs.declared.service.Served.{Served}
pub use Rattle.strm_frame.specs.declared.stack.Stack.{Stack}
pub use Rattle.strm_head.specs.Heads.{down_message, head_in, plain_slot, sent_down}
pub use Rattle.strm_head.specs.declared.head.Head.{Head}
unfoldable pub use Rattle.strm_image.specs.Codes.{flag}
pub use Rattle.strm_image.specs.Counts.{laid_blocks}
pub use Rattle.strm_image.specs.FlowTexts.{flow_now, read_flows}
pub use Rattle.strm_image.specs.Format.{IsTextOf, gather_from, whole, ◌>>=◌}
pub use Rattle.strm_image.specs.HasImage.{AreCounts, AreNumbers, HasImage, imaged}
pub use Rattle.strm_image.specs.Image.{Imaged, image, laid_on}
pub use Rattle.strm_image.specs.ImageTexts.{imaged_now}
pub use Rattle.strm_image.specs.Loads.{blocks_of, part_blocks}
pub use Rattle.strm_image.specs.Messages.{Parts, bytes_in, is_ioctl_kind}
unfoldable pub use Rattle.strm_image.specs.Messages.{message}
pub use Rattle.strm_image.specs.ModuleTexts.{module_now, modules_now, names_now}
pub use Rattle.strm_image.specs.Modules.{module_format}
pub use Rattle.strm_image.specs.QueueTexts.{queue_now}
pub use Rattle.strm_image.specs.Queues.{behind_last, first_flow, queue}
pub use Rattle.strm_image.specs.Sinks.{Given, patch, place_in, put}
pub use Rattle.strm_image.specs.StreamTexts.{laid_now}
pub use Rattle.strm_image.specs.Texts.{messages_now, values_read}
pub use Rattle.strm_image.specs.declared.modules.LdtermText.{LdtermText}
pub use Rattle.strm_image.specs.declared.modules.ModuleText.{ModuleText}
pub use Rattle.strm_image.specs.declared.streams.StreamText.{StreamText}
pub use Rattle.strm_image.specs.declared.versions.QueueKind.{QueueKind}
pub use Rattle.strm_image.specs.declared.versions.Version.{Version}
pub use Rattle.strm_image.specs.declared.versions.Version.TheVariants.{First, Second}
pub use Rattle.strm_laws.specs.Bases.{IsBase}
pub use Rattle.strm_laws.specs.Behaviours.{Behaviour}
pub use Rattle.strm_laws.specs.Calls.{Outcome}
pub use Rattle.strm_laws.specs.Closes.{head_emptied}
pub use Rattle.strm_laws.specs.Earlier.{before_among, before_at, before_by, before_driver, before_head, driver_place, modules_on, places_of}
pub use Rattle.strm_laws.specs.Kept.{AreIdle, told_by}
pub use Rattle.strm_laws.specs.Ledgers.{FewBooked, inline, queued}
pub use Rattle.strm_laws.specs.ModuleTurns.{module_turn_ended, module_turned, moved_by, moved_on, moved_within, named_from, place_named, queue_ended}
pub use Rattle.strm_laws.specs.ModuleTurns.{stayed_at}
pub use Rattle.strm_laws.specs.Pair.{AddsEntry, IsKeptAhead, MovesOn, PairState, RanTurns, call_refused, new_pair, next_refused, queue_refused}
pub use Rattle.strm_laws.specs.Pair.{restarted}
pub use Rattle.strm_laws.specs.Past.{has_room_past, waits_on, writer_waits}
pub use Rattle.strm_laws.specs.Pushes.{all_taken, below_top, head_above, may_stand, mode_behind, mode_put, module_named, named_by, queues_named}
pub use Rattle.strm_laws.specs.Pushes.{top_on, top_taken, with_modules}
pub use Rattle.strm_laws.specs.Puts.{across_of, delivered, earlier_at, module_acted, noted, passed_up, put_at_driver, put_at_head, put_at_module}
pub use Rattle.strm_laws.specs.Puts.{put_behind, put_below, put_in}
pub use Rattle.strm_laws.specs.Refusals.{Free, blocks_asked, enough, has_room, in_range, refused_at_once, refused_by_state, stop_of, unfit}
pub use Rattle.strm_laws.specs.GoodMessages.{is_part_kind}
pub use Rattle.strm_laws.specs.Restorable.{AreWithinEntries, GoodStream, Restorable}
pub use Rattle.strm_laws.specs.SideCosts.{costs}
pub use Rattle.strm_laws.specs.Spares.{spare, spare_behind}
pub use Rattle.strm_laws.specs.StackCosts.{EachOnce, Stands, module_takes, stands_of, stands_on}
pub use Rattle.strm_laws.specs.Stacked.{IsAtRest, KindRests, Module, OfLdterm, OfOwn, OfPckt, OfPtem, Standing, kind_line, kind_name}
pub use Rattle.strm_laws.specs.Stacked.{module_asks, module_name, module_puts, module_serves, queues_of_modules, without_kind_line}
pub use Rattle.strm_laws.specs.State.{AreOrdered, State, Stream, book, messages_in, opening, stream, stream_queues, with_book, with_driver_queue}
pub use Rattle.strm_laws.specs.State.{with_head_queue, with_stream}
pub use Rattle.strm_laws.specs.Step.{IsCall, IsLegal, after, replay}
pub use Rattle.strm_laws.specs.TurnCalls.{asks_on, called, discipline_of, ldterm_of, led, module_at, none_there, treated}
pub use Rattle.strm_laws.specs.TurnOutcomes.{TurnOutcome, stayed_put}
pub use Rattle.strm_laws.specs.Turns.{driver_serves, driver_turned, is_stopped_across, moved_across, with_driver}
pub use Rattle.strm_laws.specs.Writes.{Wrote, below_head, chunks_sent}
pub use Rattle.strm_ldterm.specs.Resting.{own-rests}
pub use Rattle.strm_ldterm.specs.Stands.{HasInHand, own_in}
pub use Rattle.strm_msg.specs.Bytes.{control_blocks, data_blocks}
pub use Rattle.strm_msg.specs.Messages.{AreData, AreMessages, IsChain, part_of}
unfoldable pub use Rattle.strm_msg.specs.Messages.{message_of}
pub use Rattle.strm_pty.specs.Beside.{ptem_in}
pub use Rattle.strm_pty.specs.Does.{Makes, OnlyQueue}
pub use Rattle.strm_pty.specs.Packs.{pckt_in}
pub use Rattle.strm_queue.specs.Flows.{plain_flow, plain_flows}
pub use Rattle.strm_queue.specs.Kept.{AreCounted}
pub use Rattle.strm_queue.specs.Queues.{OnlyCounts}
pub use Rattle.strm_queue.specs.Stored.{Changes, FreesBlocks, FreesNone, HoldsReadable, IsHeadQueue, IsReady, Keeps, messages_on, queue_in}
pub use Rattle.strm_types.specs.Books.{with_written}
pub use Rattle.strm_types.specs.Both.{AllSides, get, map_both, set}
pub use Rattle.strm_types.specs.Budgets.{budget, cost_of, most, most_of}
pub use Rattle.strm_types.specs.Cells.{cells_written, plain}
pub use Rattle.strm_types.specs.Costs.{head_takes}
pub use Rattle.strm_types.specs.Deliver.{Acted, Carried, Fate, Goes, Parcel, Took, tallied, toward}
pub use Rattle.strm_types.specs.Drivers.{driver_put}
pub use Rattle.strm_types.specs.Dropped.{is_met, number_sought}
pub use Rattle.strm_types.specs.Emptied.{cells_gone, emptied, none_goes, of_all, queue_behind, writer_goes}
pub use Rattle.strm_types.specs.Events.{Request, payload_of, request}
unfoldable pub use Rattle.strm_types.specs.Flush.{is_data_kind}
pub use Rattle.strm_types.specs.Flushing.{asked_by, flush_bytes, flush_message}
pub use Rattle.strm_types.specs.Heads.{new_head}
pub use Rattle.strm_types.specs.Input.{input_begins, is_data, made_of, passes, stages, stages_done, treats}
pub use Rattle.strm_types.specs.JobControl.{judged}
pub use Rattle.strm_types.specs.Journal.{PlainEntry, content_max, entries_in, entry_len, part_len, reply_in, room_used}
pub use Rattle.strm_types.specs.Kinds.{kind_number}
unfoldable pub use Rattle.strm_types.specs.Kinds.{is_body_kind, is_control_kind}
pub use Rattle.strm_types.specs.LdtermCalls.{Begins, Ends, bytes_left}
pub use Rattle.strm_types.specs.LdtermStands.{disciplined}
pub use Rattle.strm_types.specs.Ldterms.{Discipline}
pub use Rattle.strm_types.specs.Message.{Message, has_parts, is_high_priority, part, rank_of}
unfoldable pub use Rattle.strm_types.specs.Message.{cells_of, data_message, is_held, size_of}
pub use Rattle.strm_types.specs.ModuleQueues.{at_place, first_place, place_past}
pub use Rattle.strm_types.specs.Modules.{act_among, change_among, stands, top_name, without_module}
pub use Rattle.strm_types.specs.Names.{direction_at, direction_from, direction_of, driver_of, enable, enable_if, enable_some, head_of, is_enabled}
pub use Rattle.strm_types.specs.Names.{have_queues, is_open, other, place_of, same_module, same_place}
pub use Rattle.strm_types.specs.Needs.{needs}
pub use Rattle.strm_types.specs.Options.{mode_message}
pub use Rattle.strm_types.specs.OutputTurns.{Outgoing, output_serves, posted, unchanged}
pub use Rattle.strm_types.specs.PutMsg.{no_parts, put_message}
pub use Rattle.strm_types.specs.Queue.{IsOrdered, Queue, bytes_of, count_of, first_size, is_none_left, left_with}
pub use Rattle.strm_types.specs.Reads.{is_there, read_gone}
pub use Rattle.strm_types.specs.Refused.{turn_blocks}
pub use Rattle.strm_types.specs.Rules.{no_fates, told_more}
pub use Rattle.strm_types.specs.Service.{Serving, most_made, turn_ended}
pub use Rattle.strm_types.specs.Shapes.{FlushR, FlushRW, FlushW, shape_of}
pub use Rattle.strm_types.specs.Signals.{AreSignals}
pub use Rattle.strm_types.specs.Standings.{HoldsOfPart, has_queues, messages_at, stood}
pub use Rattle.strm_types.specs.Tables.{driver_own}
pub use Rattle.strm_types.specs.Termios.{opost}
pub use Rattle.strm_types.specs.Write.{chunks_of}
unfoldable pub use Rattle.strm_types.specs.Write.{chunk_count}
pub use Rattle.strm_types.specs.declared.answers.Answer.{Answer}
pub use Rattle.strm_types.specs.declared.answers.Answer.TheVariants.{Bytes, Count, Msg, Stop}
pub use Rattle.strm_types.specs.declared.answers.Turn.{Turn}
pub use Rattle.strm_types.specs.declared.answers.Turn.TheVariants.{Blocked, Idle, Moved}
pub use Rattle.strm_types.specs.declared.books.Book.{Book}
pub use Rattle.strm_types.specs.declared.both.Both.{Both}
pub use Rattle.strm_types.specs.declared.entries.Entry.{Entry}
pub use Rattle.strm_types.specs.declared.entries.Entry.TheVariants.{Called, Turned}
pub use Rattle.strm_types.specs.declared.events.Caller.{Caller}
pub use Rattle.strm_types.specs.declared.events.Event.TheVariants.{Ioctl, Put, Write}
pub use Rattle.strm_types.specs.declared.flushing.FlushAsked.{FlushAsked}
pub use Rattle.strm_types.specs.declared.kinds.MsgKind.{MsgKind}
pub use Rattle.strm_types.specs.declared.kinds.MsgKind.TheVariants.{Data, Flush}
pub use Rattle.strm_types.specs.declared.limits.Config.{Config}
pub use Rattle.strm_types.specs.declared.limits.TheConstants.{BANDS, HOPS, IOCTL_MAX, LISTS, MODULES, READ_MAX, STOP_BLOCKS}
pub use Rattle.strm_types.specs.declared.modes.Prio.{Prio}
pub use Rattle.strm_types.specs.declared.modes.Prio.TheVariants.{Band, High}
pub use Rattle.strm_types.specs.declared.modes.ReadMode.{ReadMode}
pub use Rattle.strm_types.specs.declared.names.Dir.{Dir}
pub use Rattle.strm_types.specs.declared.names.Dir.TheVariants.{MasterToSlave, SlaveToMaster}
pub use Rattle.strm_types.specs.declared.names.ModuleName.{ModuleName}
pub use Rattle.strm_types.specs.declared.names.Openness.{Openness}
pub use Rattle.strm_types.specs.declared.names.Openness.TheVariants.{Open}
pub use Rattle.strm_types.specs.declared.names.Place.{Place}
pub use Rattle.strm_types.specs.declared.names.Place.TheVariants.{Driver}
pub use Rattle.strm_types.specs.declared.names.QueueName.{QueueName}
pub use Rattle.strm_types.specs.declared.names.Side.{Side}
pub use Rattle.strm_types.specs.declared.names.Side.TheVariants.{Master, Slave}
pub use Rattle.strm_types.specs.declared.names.Way.{Way}
pub use Rattle.strm_types.specs.declared.names.Way.TheVariants.{Down, Up}
pub use Rattle.strm_types.specs.declared.refusals.Refusal.{Refusal}
pub use Rattle.strm_types.specs.declared.refusals.Refusal.TheVariants.{Einval, Enosr}
pub use Rattle.strm_types.specs.declared.rules.Fates.{Fates}
pub use Rattle.strm_types.specs.declared.rules.Rule.{Rule}
pub use Rattle.strm_types.specs.declared.rules.Rule.TheVariants.{EndClosed, ModulePopped}
pub use Rattle.strm_types.specs.declared.slots.Slot.{Slot}
pub use Rattle.strm_types.specs.declared.slots.Slot.TheVariants.{Answered, Waiting}
pub use Rattle.strm_types.specs.declared.spots.Across.{Across}
pub use Rattle.strm_types.specs.declared.spots.Note.{Note}
pub use Rattle.strm_types.specs.declared.spots.Spot.{Spot}
