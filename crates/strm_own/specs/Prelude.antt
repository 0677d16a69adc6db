-- The definitions of crates below that several files name, passed on from one place. Declares nothing.
pub use Rattle.strm_blocks.specs.Blocks.{IsInHand, IsStore, StoreValue, dropped, free_m, in_hand, list_at, times_in, token}
pub use Rattle.strm_frame.specs.Hands.{Hands, HasRoom, SamePool, Spends}
pub use Rattle.strm_frame.specs.Outboxes.{AreChains, message_in, parcels_in, sent_of, times_sent}
pub use Rattle.strm_frame.specs.declared.parcels.Outbox.{Outbox}
pub use Rattle.strm_frame.specs.declared.parcels.Sent.{Sent}
pub use Rattle.strm_frame.specs.declared.queue_pair.QueuePair.{QueuePair}
pub use Rattle.strm_msg.specs.Messages.{message_of}
pub use Rattle.strm_queue.specs.Stored.{messages_on}
pub use Rattle.strm_types.specs.Deliver.{Acted, onward, tallied}
pub use Rattle.strm_types.specs.Message.{Message, is_high_priority}
pub use Rattle.strm_types.specs.Owns.{Own}
pub use Rattle.strm_types.specs.declared.names.Way.{Way}
pub use Rattle.strm_types.specs.declared.names.Way.TheVariants.{Down, Up}
pub use Rattle.strm_types.specs.declared.rules.Fates.{Fates}
pub use Rattle.strm_types.specs.declared.spots.Spot.{Spot}
