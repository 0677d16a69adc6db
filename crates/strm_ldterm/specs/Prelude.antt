-- The definitions of crates below that several files name, passed on from one place. Declares nothing.
pub use Rattle.strm_blocks.specs.Blocks.{Block, Held, IsFreshName, IsInHand, IsStore, StoreValue, banded, block_at, chain_in, changed, dropped}
pub use Rattle.strm_blocks.specs.Blocks.{extended, free_d, free_m, held, in_hand, list_at, names_of, placed, put_back, times_in, token, total}
pub use Rattle.strm_blocks.specs.Blocks.{with_block, written}
pub use Rattle.strm_blocks.specs.declared.in_hand.InHand.{InHand}
pub use Rattle.strm_frame.specs.Hands.{AreIn, CanPut, Hands, HasRoom, OnlyOwn, SameOwn, SamePool, Shifts}
unfoldable pub use Rattle.strm_frame.specs.Hands.{once}
pub use Rattle.strm_frame.specs.Outboxes.{message_in, sent_of}
unfoldable pub use Rattle.strm_frame.specs.Outboxes.{AreChains, parcels_in, times_sent}
pub use Rattle.strm_frame.specs.Serves.{least_free, stop_at, stop_of}
pub use Rattle.strm_frame.specs.StandingLaws.{queue-ready}
pub use Rattle.strm_frame.specs.declared.modules.Acts.{Acts}
pub use Rattle.strm_frame.specs.declared.parcels.Outbox.{Outbox}
pub use Rattle.strm_frame.specs.declared.parcels.Sent.{Sent}
pub use Rattle.strm_frame.specs.declared.queue_pair.QueuePair.{QueuePair}
pub use Rattle.strm_frame.specs.declared.service.Served.{Served}
pub use Rattle.strm_msg.specs.Bytes.{bytes_of, data_bytes}
pub use Rattle.strm_msg.specs.Made.{MadeOf, TooFew}
pub use Rattle.strm_msg.specs.Messages.{AreData, IsChain, message_of}
pub use Rattle.strm_queue.specs.Flows.{plain_flows}
pub use Rattle.strm_queue.specs.Stored.{Changes, FreesBlocks, FreesNone, IsReady, messages_on, queue_in}
pub use Rattle.strm_queue.specs.declared.queue.Queue.{Queue}
pub use Rattle.strm_types.specs.Asking.{asked_first}
pub use Rattle.strm_types.specs.Budgets.{cost_of, most, own_at}
pub use Rattle.strm_types.specs.Cells.{Cells, cells_made, plain}
pub use Rattle.strm_types.specs.Deliver.{Acted, Comes, Fate, Goes, Parcel, counted_with, onward, tallied, toward}
pub use Rattle.strm_types.specs.Echo.{column_from, echo_of, is_control, rub_out, shown_control, tab}
pub use Rattle.strm_types.specs.Emptied.{Choice, cells_gone, of_data, stayed}
unfoldable pub use Rattle.strm_types.specs.Flush.{is_data_kind}
pub use Rattle.strm_types.specs.Flushing.{flush_bytes, flush_message, is_flush}
pub use Rattle.strm_types.specs.Input.{back_on, begins_next, cells_left, finished, input_begins, is_data, left_of, made_of, next_stage, passes}
pub use Rattle.strm_types.specs.Input.{stage_at, stages, stages_done, then_on, to_treat, treats, with_left}
pub use Rattle.strm_types.specs.Ioctls.{read_ioc}
pub use Rattle.strm_types.specs.Keys.{carriage_return, lowered, newline, restarts, stripped, stroke_of, taken_as}
pub use Rattle.strm_types.specs.LdtermCalls.{Ends, bytes_left}
pub use Rattle.strm_types.specs.LdtermPuts.{goes_behind, goes_on, ldterm_puts, passes_on_way, waits_behind, waits_on}
pub use Rattle.strm_types.specs.LdtermServes.{ldterm_serves}
pub use Rattle.strm_types.specs.LdtermStands.{as_stands}
pub use Rattle.strm_types.specs.Ldterms.{Answered, Begun, Between, Discipline, Ldterm, Stage, both, by_itself, flush_passes, line_flushed}
pub use Rattle.strm_types.specs.Ldterms.{queue_flushed, queued_at, read_flushed, sends, takes_band_0, waits_there, write_flushed}
pub use Rattle.strm_types.specs.Lines.{ErasesByte, ErasesWord, Types, edited, has_room, is_blank, without_end}
pub use Rattle.strm_types.specs.Message.{Message}
unfoldable pub use Rattle.strm_types.specs.Message.{band_of, cells_of, data_message, is_held, is_high_priority, rank_of, size_of}
pub use Rattle.strm_types.specs.Names.{direction_at}
pub use Rattle.strm_types.specs.Output.{Output, post, posts, raised, space, told_for, wrapped}
pub use Rattle.strm_types.specs.OutputTurns.{output_dir, output_serves, posted, unchanged, with_given}
pub use Rattle.strm_types.specs.Queue.{count_of, first_size, flow_of, is_full, is_none_left, left_with, put_enables}
pub use Rattle.strm_types.specs.Rules.{made_more, told_more}
pub use Rattle.strm_types.specs.Service.{Serving}
pub use Rattle.strm_types.specs.Shapes.{shape_of}
pub use Rattle.strm_types.specs.Tables.{ldterm_does}
pub use Rattle.strm_types.specs.TakenUp.{ends_lines, line_up, read_mode_of}
pub use Rattle.strm_types.specs.Termios.{echo, echoe, icanon, icrnl, igncr, imaxbel, inlcr, isig, istrip, iuclc, ixon, noflsh, opost}
pub use Rattle.strm_types.specs.Typing.{added, bare, begins, echo_dir, echo_grows, echo_lost, echo_stands, echoed, edits, gathered_up, grown}
pub use Rattle.strm_types.specs.Typing.{is_lnext, line_sent, lost, signals, strikes, stroke_at, struck, up_alone, wakes}
unfoldable pub use Rattle.strm_types.specs.Write.{chunk_count}
pub use Rattle.strm_types.specs.declared.flushing.FlushAsked.{FlushAsked}
pub use Rattle.strm_types.specs.declared.ioctls.TheConstants.{TCSETSF}
pub use Rattle.strm_types.specs.declared.keys.Key.{Key}
pub use Rattle.strm_types.specs.declared.keys.Key.TheVariants.{Delimiter, Eof, Erase, Ignored, Intr, Kill, Lnext, Ordinary, Quit, Reprint, Start}
pub use Rattle.strm_types.specs.declared.keys.Key.TheVariants.{Stop, Susp, Werase}
pub use Rattle.strm_types.specs.declared.keys.Stroke.{Stroke}
pub use Rattle.strm_types.specs.declared.keys.TheConstants.{LINE_MAX}
pub use Rattle.strm_types.specs.declared.kinds.Band.{Band}
pub use Rattle.strm_types.specs.declared.kinds.MsgKind.{MsgKind}
pub use Rattle.strm_types.specs.declared.kinds.MsgKind.TheVariants.{Data, Pcsig, Setopts}
pub use Rattle.strm_types.specs.declared.limits.TheConstants.{STOP_BLOCKS}
pub use Rattle.strm_types.specs.declared.names.Dir.{Dir}
pub use Rattle.strm_types.specs.declared.names.Way.{Way}
pub use Rattle.strm_types.specs.declared.names.Way.TheVariants.{Down, Up}
pub use Rattle.strm_types.specs.declared.output.Given.{Given}
pub use Rattle.strm_types.specs.declared.output.Given.TheVariants.{Byte, Ended, Nothing, Spaces}
pub use Rattle.strm_types.specs.declared.output.Posted.{Posted}
pub use Rattle.strm_types.specs.declared.output.TheConstants.{COLUMN_MAX}
pub use Rattle.strm_types.specs.declared.rules.Fates.{Fates}
pub use Rattle.strm_types.specs.declared.rules.Rule.TheVariants.{EchoFull, Erased, Flushed, LineFull, LineOver, SignalKey}
pub use Rattle.strm_types.specs.declared.spots.Note.{Note}
pub use Rattle.strm_types.specs.declared.spots.Note.TheVariants.{Enable, Room}
pub use Rattle.strm_types.specs.declared.spots.Spot.{Spot}
pub use Rattle.strm_types.specs.declared.termios.Termios.{Termios}
