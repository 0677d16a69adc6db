-- The words of std, and the lemmas of crates below, that several proofs name, passed on from one place. Declares nothing.
pub use Rattle.std.proofs.Common.{Bool, List, Some, [], ap, append-nil, append_assoc, arith, cond, drop, false, inl, inr, length, length-append}
pub use Rattle.std.proofs.Common.{length-set, map, min, refl, replicate, subst, sym, take, true, ℕ, ◌++◌, ◌+◌, ◌-◌, ◌<◌, ◌∙◌, ◌∷◌, ◌≡◌, ◌≤◌}
pub use Rattle.std.proofs.lemmas.Bool.{false≢true}
pub use Rattle.std.proofs.lemmas.Bool.Decides.{nat_tests}
pub use Rattle.std.proofs.lemmas.List.{drop_all, length-drop, length-take, length-take-le, nil_from_length, take_all}
pub use Rattle.std.proofs.lemmas.List.Sums.{sum_by-cons}
pub use Rattle.std.specs.Prelude.{None, Option, is_none, nat_le, nat_lt, not, option_map, unwrap_or, ◌&&◌, ◌==◌, ◌||◌}
pub use Rattle.strm_blocks.proofs.Laws.{dropped-held, free_m-is, in_hand-held, references-is, used-is}
pub use Rattle.strm_msg.proofs.Chains.{band-is, control-front, control-none, data-all, data-behind, data-control, data_in, kind-is, put_back-chains}
pub use Rattle.strm_msg.proofs.Cutting.{data-cut, front-cut}
pub use Rattle.strm_msg.proofs.Hands.{changed-chain, changed-in_hand}
pub use Rattle.strm_msg.proofs.MadePlain.{plain-is}
pub use Rattle.strm_msg.proofs.Making.{Made-more, Made-one}
pub use Rattle.strm_queue.proofs.Gotten.{before, behind, chain-is, has-list, left, off}
pub use Rattle.strm_queue.proofs.Holding.{data-readable, first-chain, first-holds, put_back-holds, put_back-messages, rest-holds, rest-messages}
pub use Rattle.strm_queue.proofs.Kept.{flags-both, head-kept, keeps-both, keeps-counted, keeps-none}
pub use Rattle.strm_queue.proofs.Placed.{Landed, changed-held, keeps-landed, landed, landed-again}
