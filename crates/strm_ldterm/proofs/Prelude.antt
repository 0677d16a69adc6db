-- The words of std, and the lemmas of crates below, that several proofs name, passed on from one place. Declares nothing.
pub use Rattle.std.proofs.Common.{Bool, List, [], ap, append-nil, append_assoc, arith, cond, drop, eqb, false, get_or, inl, inr, length}
pub use Rattle.std.proofs.Common.{length-append, length-drop, length-take, map, refl, replicate, rules, set, subst, suc, sym, take, take-append-drop}
pub use Rattle.std.proofs.Common.{true, zero, ℕ, ◌%◌, ◌*◌, ◌++◌, ◌+◌, ◌-◌, ◌<◌, ◌^◌, ◌∙◌, ◌∷◌, ◌≡◌, ◌≢◌, ◌≤◌, ◌⊎◌}
pub use Rattle.std.proofs.lemmas.Bool.{and_parts, cases_eq, false≢true}
pub use Rattle.std.proofs.lemmas.Bool.Decides.{nat_tests}
pub use Rattle.std.proofs.lemmas.List.{drop-drop, take_all, take_more}
pub use Rattle.std.proofs.lemmas.List.Sums.{sum_by-append, sum_by-cons}
pub use Rattle.std.specs.Prelude.{IfSome, None, Option, Some, flat_map, if◌then◌else◌, is_some, nat_le, nat_lt, not, option_map, slice_index_or}
pub use Rattle.std.specs.Prelude.{unwrap_or, ◌&&◌, ◌==◌, ◌||◌}
pub use Rattle.strm_blocks.proofs.Laws.{free_d-more, free_m-is, in_hand-changed, in_hand-changed_other, in_hand-held_other, references-is}
pub use Rattle.strm_blocks.proofs.Laws.{total-changed, total-dropped, total-held, total-placed, used-is}
pub use Rattle.strm_frame.proofs.Asked.{acked-plain}
pub use Rattle.strm_frame.proofs.Handing.{can-in_hand, no-parts, none-chains, once-apart, once-self, one-chains, one-parts}
pub use Rattle.strm_frame.proofs.Shifting.{shifts-joined}
pub use Rattle.strm_msg.proofs.Chains.{band-is, data-all, data-control, data-shown, data_in, data_in-cells, kind-is}
pub use Rattle.strm_msg.proofs.Hands.{held-changed, stays-chain, times-replaced}
pub use Rattle.strm_queue.proofs.OneMade.{chunk-one}
pub use Rattle.strm_types.proofs.CostsOf.{most-few, none-few, one-few}
pub use Rattle.strm_types.proofs.LdtermWithin.{acked-own}
pub use Rattle.strm_types.proofs.OutputStops.{turn_of}
pub use Rattle.strm_types.proofs.Outputs.{in_front, posts-join, posts-same}
pub use Rattle.strm_types.proofs.Ranked.{sum-put_back}
pub use Rattle.strm_types.proofs.StrikesStay.{strikes-stay}
