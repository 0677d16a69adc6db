-- The definitions of crates below that several files name, passed on from one place. Declares nothing.
pub use Rattle.strm_blocks.specs.Blocks.{Block, IsInHand, IsStore, StoreValue, block_at, changed, copy_of, dropped, filled_block, free_d, free_m}
pub use Rattle.strm_blocks.specs.Blocks.{held, in_hand, list_at, names_of, placed, put_back, token, trimmed_head}
pub use Rattle.strm_blocks.specs.Outcomes.{Copied, Popped}
pub use Rattle.strm_blocks.specs.declared.asked.Peek.{Peek}
pub use Rattle.strm_msg.specs.Adjusted.{trimmed_by, without_bytes}
pub use Rattle.strm_msg.specs.Bytes.{bytes_of, control_blocks, control_bytes, data_blocks, data_bytes, length_of_part}
pub use Rattle.strm_msg.specs.Emptied.{without_emptied}
pub use Rattle.strm_msg.specs.Made.{Made}
pub use Rattle.strm_msg.specs.Messages.{AreData, AreMessages, IsChain, part_of}
unfoldable pub use Rattle.strm_msg.specs.Messages.{message_of}
pub use Rattle.strm_msg.specs.Taken.{filled, without_control, without_data}
pub use Rattle.strm_queue.specs.Flows.{plain_flows}
pub use Rattle.strm_queue.specs.Kept.{AreCounted}
pub use Rattle.strm_queue.specs.Stored.{Holds, HoldsReadable, IsHeadQueue, IsReady, Keeps, SameFlags, messages_on, queue_in}
pub use Rattle.strm_queue.specs.declared.queue.Queue.{Queue}
pub use Rattle.strm_types.specs.Deliver.{Acted, Goes, Parcel, tallied, toward}
unfoldable pub use Rattle.strm_types.specs.Flush.{is_data_kind}
pub use Rattle.strm_types.specs.Flushing.{flush_bytes, flush_message, is_flush}
pub use Rattle.strm_types.specs.Gets.{Got, first_data, got_none, is_wanted, parts_of}
pub use Rattle.strm_types.specs.Heads.{flush_up, head_put, is_doubled, is_pcproto, obeyed, waits_for_readers}
unfoldable pub use Rattle.strm_types.specs.Kinds.{is_control_kind}
pub use Rattle.strm_types.specs.Message.{Message, part}
unfoldable pub use Rattle.strm_types.specs.Message.{band_of, cells_of, is_held, is_high_priority, size_of}
pub use Rattle.strm_types.specs.Names.{direction_at}
pub use Rattle.strm_types.specs.Options.{options_in}
pub use Rattle.strm_types.specs.PutMsg.{put_refusal}
pub use Rattle.strm_types.specs.Queue.{first_size, left_with, relieved, relieves}
pub use Rattle.strm_types.specs.Reads.{Drawn, control_gone, drawn, front_of, head_draw, is_passed, is_refused, no_cells, none_went, offered}
pub use Rattle.strm_types.specs.Reads.{part_left, rest_after, rest_with, shown, starts_refused, stopped, takes_none, wanted_after}
pub use Rattle.strm_types.specs.Rules.{told_more}
pub use Rattle.strm_types.specs.Slots.{PlainSlot, slot_answered}
pub use Rattle.strm_types.specs.declared.flushing.FlushAsked.{FlushAsked}
pub use Rattle.strm_types.specs.declared.ioctls.Ioc.{Ioc}
pub use Rattle.strm_types.specs.declared.kinds.MsgKind.{MsgKind}
pub use Rattle.strm_types.specs.declared.modes.ControlMode.{ControlMode}
pub use Rattle.strm_types.specs.declared.modes.ControlMode.TheVariants.{Data, Discard, Refuse}
pub use Rattle.strm_types.specs.declared.modes.Prio.{Prio}
pub use Rattle.strm_types.specs.declared.modes.Prio.TheVariants.{Band, High}
pub use Rattle.strm_types.specs.declared.modes.ReadMode.{ReadMode}
pub use Rattle.strm_types.specs.declared.modes.ReadMode.TheVariants.{ByteStream, MessageDiscard, MessageKeep}
pub use Rattle.strm_types.specs.declared.modes.Wanted.{Wanted}
pub use Rattle.strm_types.specs.declared.modes.Wanted.TheVariants.{Any}
pub use Rattle.strm_types.specs.declared.names.Dir.{Dir}
pub use Rattle.strm_types.specs.declared.names.Way.TheVariants.{Up}
pub use Rattle.strm_types.specs.declared.refusals.Refusal.TheVariants.{Eagain, Erange}
pub use Rattle.strm_types.specs.declared.rules.Fates.{Fates}
pub use Rattle.strm_types.specs.declared.rules.Rule.TheVariants.{Doubled}
pub use Rattle.strm_types.specs.declared.spots.Spot.{Spot}
