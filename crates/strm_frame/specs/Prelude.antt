-- The definitions of crates below that several files name, passed on from one place. Declares nothing.
pub use Rattle.strm_blocks.specs.Blocks.{Block, IsInHand, IsStore, StoreValue, dropped, free_d, free_m, in_hand, list_at, times_in, token}
pub use Rattle.strm_msg.specs.Messages.{AreMessages, IsChain, message_of}
pub use Rattle.strm_msg.specs.Taken.{filled}
pub use Rattle.strm_queue.specs.Kept.{AreCounted}
pub use Rattle.strm_queue.specs.Stored.{Changes, Dequeued, FreesBlocks, FreesNone, IsReady, messages_on, queue_in}
pub use Rattle.strm_queue.specs.declared.queue.Queue.{Queue}
pub use Rattle.strm_types.specs.Budgets.{Costs, Within, beyond, most, own_at}
unfoldable pub use Rattle.strm_types.specs.Budgets.{budget, cost_of}
pub use Rattle.strm_types.specs.Deliver.{Acted, Carried, Parcel, Took, in_turn, tallied}
unfoldable pub use Rattle.strm_types.specs.Deliver.{carried}
pub use Rattle.strm_types.specs.Dropped.{is_met}
pub use Rattle.strm_types.specs.Emptied.{of_all}
pub use Rattle.strm_types.specs.Input.{made_of}
pub use Rattle.strm_types.specs.Ioctls.{read_ioc, word_at}
pub use Rattle.strm_types.specs.Message.{Message}
pub use Rattle.strm_types.specs.ModuleQueues.{at_place, first_place, full_at, last_place}
pub use Rattle.strm_types.specs.Modules.{act_among, change_among}
pub use Rattle.strm_types.specs.Names.{without}
pub use Rattle.strm_types.specs.Queue.{bytes_of, count_of, first_size, is_none_left}
pub use Rattle.strm_types.specs.Service.{Serving, cleared, end_relieves, has_more, most_made, queues_cleared, turn_ended}
pub use Rattle.strm_types.specs.Shapes.{At}
pub use Rattle.strm_types.specs.Standings.{Standing, messages_at, of_part, pair_changed, queue_changed, stood, way_queue}
pub use Rattle.strm_types.specs.declared.names.Side.{Side}
pub use Rattle.strm_types.specs.declared.names.Way.{Way}
pub use Rattle.strm_types.specs.declared.names.Way.TheVariants.{Down, Up}
pub use Rattle.strm_types.specs.declared.rules.Fates.{Fates}
pub use Rattle.strm_types.specs.declared.rules.Rule.{Rule}
pub use Rattle.strm_types.specs.declared.spots.Note.{Note}
pub use Rattle.strm_types.specs.declared.spots.Note.TheVariants.{Room}
pub use Rattle.strm_types.specs.declared.spots.Spot.{Spot}
