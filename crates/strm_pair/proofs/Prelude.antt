-- The words of std, and the lemmas of crates below, that several proofs name, passed on from one place. Declares nothing.
pub use Rattle.std.proofs.Common.{Bool, List, [], ap, append-nil, append_assoc, arith, cond, drop, false, get_or, inl, inr, length, length-append}
pub use Rattle.std.proofs.Common.{map, refl, rules, subst, suc, sym, take, true, zero, ℕ, ◌++◌, ◌+◌, ◌-◌, ◌<◌, ◌∙◌, ◌∷◌, ◌≡◌, ◌≢◌, ◌≤◌}
pub use Rattle.std.proofs.lemmas.Bool.{and_parts, false≢true}
pub use Rattle.std.proofs.lemmas.Bool.Decides.{nat_tests}
pub use Rattle.std.proofs.lemmas.List.{length-map, length-take, take_all, take_more}
pub use Rattle.std.proofs.lemmas.List.Sums.{sum_by-append, sum_by-cons}
pub use Rattle.std.specs.Prelude.{Err, HoldsAt, IfSome, MatchOption, None, Ok, Option, Result, Some, is_some, min, nat_le, nat_lt, not, option_map}
pub use Rattle.std.specs.Prelude.{replicate, slice_get, slice_index_or, sum_by, ◌&&◌, ◌*◌, ◌==◌, ◌^◌, ◌||◌}
pub use Rattle.strm_blocks.proofs.Laws.{free_m-is}
pub use Rattle.strm_frame.proofs.Handing.{can-in_hand, once-self}
pub use Rattle.strm_frame.proofs.Seeking.{all-gone}
pub use Rattle.strm_image.proofs.FitImages.{image_fits}
pub use Rattle.strm_image.proofs.ReadRows.{same_images}
pub use Rattle.strm_image.proofs.SinkRows.{put_both, put_nothing}
pub use Rattle.strm_image.proofs.TextLengths.{image_length_in}
pub use Rattle.strm_laws.proofs.Balances.{both-true, parts-few, turn-few}
pub use Rattle.strm_laws.proofs.Booked.{between-counts, made-within, made_in, master-told, slave-told}
pub use Rattle.strm_laws.proofs.Budgeted.{keeps-most}
pub use Rattle.strm_laws.proofs.JournalEntries.{length-entries_in, room_used-stored}
pub use Rattle.strm_laws.proofs.LdtermStops.{FullFirst}
pub use Rattle.strm_laws.proofs.LedgerSums.{sum_of}
pub use Rattle.strm_laws.proofs.ModuleTurnCalls.{UnderWay, index-map, module-ends, module-goes, under_way}
pub use Rattle.strm_laws.proofs.ModulesIdle.{AllIdle, delivered-idle}
pub use Rattle.strm_laws.proofs.Noted.{noted-same}
pub use Rattle.strm_laws.proofs.PutsOwn.{own, place-makes, place-own}
pub use Rattle.strm_laws.proofs.Replay.{call-allowed, met, or_else-none, turn-allowed, unless-none}
pub use Rattle.strm_laws.proofs.StackOnce.{none-once}
pub use Rattle.strm_laws.proofs.StackSpares.{range-spare, same-spare, spare-low}
pub use Rattle.strm_laws.proofs.SameNames.{keep-names, queue-names, serve-names}
pub use Rattle.strm_laws.proofs.Staying.{kept-ahead}
pub use Rattle.strm_ldterm.proofs.Flushed.{tallied-append}
pub use Rattle.strm_msg.proofs.Chains.{bytes-sum, control-body, control-front, data-all, data-behind, data-or-control, kind-is}
pub use Rattle.strm_msg.proofs.MadePlain.{parts-same, plain-is}
pub use Rattle.strm_queue.proofs.Bounds.{few-bytes}
pub use Rattle.strm_queue.proofs.Placed.{ready-same}
pub use Rattle.strm_types.proofs.BySide.{each-side, get-map, get-set-same, map-set, set-all}
pub use Rattle.strm_types.proofs.PlainCells.{bytes-plain, written-plain}
