-- The words of std, and the lemmas of crates below, that several proofs name, passed on from one place. Declares nothing.
pub use Rattle.std.proofs.Common.{Bool, List, [], ap, append-nil, arith, cond, drop, false, inl, inr, length, length-append, map, refl, subst, suc}
pub use Rattle.std.proofs.Common.{sym, take, true, zero, ℕ, ◌*◌, ◌++◌, ◌+◌, ◌-◌, ◌<◌, ◌∙◌, ◌∷◌, ◌≡◌, ◌≤◌, ◌⊎◌}
pub use Rattle.std.proofs.lemmas.Bool.{and_from, and_parts, false≢true, ne_eqb, not-true}
pub use Rattle.std.proofs.lemmas.Bool.Decides.{nat_tests}
pub use Rattle.std.proofs.lemmas.List.{append_assoc, drop-map, length-drop, length-map, length-take, map-append, take-append-drop, take-append-le}
pub use Rattle.std.proofs.lemmas.List.{take-map}
pub use Rattle.std.proofs.lemmas.List.Sums.{sum_by-append, sum_by-cons}
pub use Rattle.std.specs.Prelude.{None, Option, Some, count_by, flat_map, if◌then◌else◌, is_some, max, min, nat_le, nat_lt, not, option_map}
pub use Rattle.std.specs.Prelude.{replicate, slice_index_or, sum_by, unwrap_or, ◌&&◌, ◌==◌, ◌^◌, ◌||◌}
pub use Rattle.strm_types.proofs.BySide.{each-side, get-map, get-set-same, map-set, set-all}
pub use Rattle.strm_types.proofs.DeliveryHolds.{PutHolds, carried-holds, in_turn-holds}
pub use Rattle.strm_types.proofs.Drawing.{count-joined, of-each}
pub use Rattle.strm_types.proofs.EnabledNames.{once-without, same_queue-sound}
pub use Rattle.strm_types.proofs.LdtermPutStays.{idle-stays, puts-stay}
pub use Rattle.strm_types.proofs.LdtermPuts.{either}
pub use Rattle.strm_types.proofs.MadeCells.{made-forget, made-long}
pub use Rattle.strm_types.proofs.Outputs.{posts-low}
pub use Rattle.strm_types.proofs.PcktPuts.{passed_made, puts-each}
pub use Rattle.strm_types.proofs.PcktWithin.{pckt-within}
pub use Rattle.strm_types.proofs.PlainCells.{bytes-plain, written-bytes, written-plain}
pub use Rattle.strm_types.proofs.PtemPuts.{puts-gone}
pub use Rattle.strm_types.proofs.PtemWithin.{ptem-within}
pub use Rattle.strm_types.proofs.Ranked.{Ordered-put, Ordered-put_back, lane-put, sum-put}
pub use Rattle.strm_types.proofs.ReadKeeps.{head_draw-keeps, head_draw-most}
pub use Rattle.strm_types.proofs.SignalRoom.{signals-fit}
pub use Rattle.strm_types.proofs.StrikesStay.{strikes-stay}
pub use Rattle.strm_types.proofs.Weights.{count-join, weight-data, weight-put, weight-put_back, weight-take, weight-whole}
