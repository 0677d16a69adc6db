-- The words of std, and the lemmas of crates below, that several proofs name, passed on from one place. Declares nothing.
pub use Rattle.std.proofs.Common.{Bool, List, [], ap, arith, cond, false, length, map, refl, rules, subst, sym, true, ℕ, ◌++◌, ◌+◌, ◌<◌, ◌∙◌, ◌∷◌, ◌≡◌, ◌≤◌}
pub use Rattle.std.proofs.lemmas.Bool.{false≢true}
pub use Rattle.std.specs.Prelude.{IfSome, None, Option, Some}
pub use Rattle.strm_blocks.proofs.Laws.{free_m-is}
pub use Rattle.strm_frame.proofs.Handing.{can-in_hand}
