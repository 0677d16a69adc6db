-- The words of std, and the lemmas of crates below, that several proofs name, passed on from one place. Declares nothing.
pub use Rattle.std.proofs.Common.{Bool, List, None, Option, Some, [], ap, append_assoc, arith, cond, drop, eqb, false, get_or, leb, length}
pub use Rattle.std.proofs.Common.{length-set, ltb, map, not, refl, subst, suc, sym, take, true, zero, ℕ, ◌&&◌, ◌*◌, ◌++◌, ◌+◌, ◌-◌, ◌<◌, ◌||◌, ◌∙◌}
pub use Rattle.std.proofs.Common.{◌∷◌, ◌≡◌, ◌≤◌}
pub use Rattle.std.proofs.lemmas.Bool.{and_from, and_parts, eq-eqb, eqb-true, false≢true, le-leb, le-ltb, leb-true, lt-ltb, ltb-false, ltb-true}
pub use Rattle.std.proofs.lemmas.Bool.{ne_eqb, not-true, or_right}
pub use Rattle.std.proofs.lemmas.List.{append-nil, length-append, map_push, nil_from_length, take_all, take_more_set}
pub use Rattle.std.proofs.lemmas.List.Concat.{flat_map-cons}
pub use Rattle.std.proofs.lemmas.List.Sums.{sum_by-append, sum_by-cons}
pub use Rattle.std.specs.Prelude.{is_some, nat_lt, replicate, ◌^◌}
pub use Rattle.strm_laws.proofs.StackOnce.{top-times}
pub use Rattle.strm_types.proofs.SignalRoom.{signals-fit, times, times-cons}
