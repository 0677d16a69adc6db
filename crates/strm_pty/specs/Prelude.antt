-- The definitions of crates below that several files name, passed on from one place. Declares nothing.
pub use Rattle.strm_blocks.specs.Blocks.{Block, IsFreshName, IsInHand, IsStore, StoreValue, block_at, changed, copy_of, dropped, filled_block, free_d}
pub use Rattle.strm_blocks.specs.Blocks.{free_m, held, in_hand, names_of, references, times_in, token, total, used}
pub use Rattle.strm_blocks.specs.Outcomes.{Copied}
pub use Rattle.strm_frame.specs.Hands.{Hands, HasRoom, Shifts, Spends}
unfoldable pub use Rattle.strm_frame.specs.Hands.{once}
pub use Rattle.strm_frame.specs.Outboxes.{message_in, sent_of}
unfoldable pub use Rattle.strm_frame.specs.Outboxes.{AreChains, parcels_in, times_sent}
pub use Rattle.strm_frame.specs.Standings.{queues_in}
pub use Rattle.strm_frame.specs.declared.modules.Acts.{Acts}
pub use Rattle.strm_frame.specs.declared.parcels.Sent.{Sent}
pub use Rattle.strm_frame.specs.declared.queue_pair.QueuePair.{QueuePair}
pub use Rattle.strm_msg.specs.Bytes.{bytes_of}
pub use Rattle.strm_msg.specs.Messages.{IsChain}
unfoldable pub use Rattle.strm_msg.specs.Messages.{message_of}
pub use Rattle.strm_msg.specs.Retyped.{retyped}
pub use Rattle.strm_queue.specs.Stored.{FreesNone, IsReady, queue_in}
pub use Rattle.strm_queue.specs.declared.queue.Queue.{Queue}
pub use Rattle.strm_types.specs.Acks.{ack_message, payload, telling_message}
pub use Rattle.strm_types.specs.Budgets.{own_at}
pub use Rattle.strm_types.specs.Cells.{cells_made, plain}
pub use Rattle.strm_types.specs.Commands.{is_asked}
pub use Rattle.strm_types.specs.Deliver.{Acted, Parcel, onward, tallied, toward}
pub use Rattle.strm_types.specs.Drivers.{bottom_across, reader_flush, taken_in}
unfoldable pub use Rattle.strm_types.specs.Flush.{is_data_kind}
pub use Rattle.strm_types.specs.Flushing.{asked_by, is_flush}
pub use Rattle.strm_types.specs.Ioctls.{ioc_bytes, nak_message, read_ioc}
pub use Rattle.strm_types.specs.Kinds.{kind_number}
unfoldable pub use Rattle.strm_types.specs.Kinds.{is_control_kind}
pub use Rattle.strm_types.specs.Message.{Message, has_parts}
unfoldable pub use Rattle.strm_types.specs.Message.{cells_of, is_held}
pub use Rattle.strm_types.specs.Pckts.{is_packed, is_stop_or_start, pckt_packs, pckt_passes, plain_packed, writers_flush}
pub use Rattle.strm_types.specs.Ptems.{window_signal}
pub use Rattle.strm_types.specs.Queue.{first_size}
pub use Rattle.strm_types.specs.Standings.{messages_on}
pub use Rattle.strm_types.specs.Tables.{ptem_does}
pub use Rattle.strm_types.specs.Typing.{bare}
pub use Rattle.strm_types.specs.Winsizes.{read_winsize}
pub use Rattle.strm_types.specs.declared.flushing.FlushAsked.{FlushAsked}
pub use Rattle.strm_types.specs.declared.ioctls.Ioc.{Ioc}
pub use Rattle.strm_types.specs.declared.kinds.MsgKind.{MsgKind}
pub use Rattle.strm_types.specs.declared.kinds.MsgKind.TheVariants.{Flush, Iocack, Iocnak, Ioctl}
pub use Rattle.strm_types.specs.declared.limits.TheConstants.{MODULES}
pub use Rattle.strm_types.specs.declared.names.Side.{Side}
pub use Rattle.strm_types.specs.declared.names.Way.{Way}
pub use Rattle.strm_types.specs.declared.names.Way.TheVariants.{Down, Up}
pub use Rattle.strm_types.specs.declared.rules.Fates.{Fates}
pub use Rattle.strm_types.specs.declared.spots.Across.{Across}
pub use Rattle.strm_types.specs.declared.spots.Note.{Note}
pub use Rattle.strm_types.specs.declared.spots.Spot.{Spot}
