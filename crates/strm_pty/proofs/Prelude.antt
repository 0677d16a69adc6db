-- The words of std, and the lemmas of crates below, that several proofs name, passed on from one place. Declares nothing.
pub use Rattle.std.proofs.Common.{Bool, List, [], ap, append-nil, arith, cond, drop, eqb, false, inl, inr, length, refl, rules, subst, suc, sym, take}
pub use Rattle.std.proofs.Common.{true, ℕ, ◌++◌, ◌+◌, ◌<◌, ◌∙◌, ◌∷◌, ◌≡◌, ◌≢◌, ◌≤◌}
pub use Rattle.std.proofs.lemmas.Bool.{cases_eq, false≢true}
pub use Rattle.std.proofs.lemmas.List.Sums.{sum_by-cons}
pub use Rattle.std.specs.Prelude.{None, Option, Some, ◌&&◌}
pub use Rattle.strm_blocks.proofs.Laws.{IsInHand-dropped, free_m-is, in_hand-changed, in_hand-changed_other, in_hand-dropped, references-is}
pub use Rattle.strm_blocks.proofs.Laws.{total-changed, total-dropped, used-is}
pub use Rattle.strm_frame.proofs.Asked.{asked-plain}
pub use Rattle.strm_frame.proofs.Behind.{window_read}
pub use Rattle.strm_frame.proofs.Handing.{can-in_hand, chains-same, no-parts, no-room, none-chains, none-hands, once-self, one-chains, one-parts}
pub use Rattle.strm_frame.proofs.Handing.{parcels-same, still-hands}
pub use Rattle.strm_frame.proofs.Shifting.{shifts-as, shifts-both, shifts-freed}
pub use Rattle.strm_msg.proofs.Chains.{kind-is}
pub use Rattle.strm_msg.proofs.Hands.{changed-in_hand, held-apart, held-chain, held-is, stays, stays-chain, times-replaced}
pub use Rattle.strm_msg.proofs.MadePlain.{parts-same, plain-is}
pub use Rattle.strm_msg.proofs.Retyping.{retyped-length}
