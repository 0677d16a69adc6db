-- The trace of a visit that cut the pair of an end is given.
use Rattle.std.proofs.Common.{◌≡◌, refl, subst}
use Rattle.std.specs.Prelude.{Option, Some, Result, Ok}
use Rattle.strm_types.specs.declared.refusals.NoMemory.{NoMemory}
use Rattle.strm_image.specs.declared.trace.Trace.{Trace}
use Rattle.strm_locks.specs.Books.{LockId}
use Rattle.strm_locks.specs.Systems.{Numbered}
use Rattle.strm_locks.specs.Turns.{IsCut, Visited}
use Rattle.strm_ends.specs.Cutting.{CutsBy}
use Rattle.strm_ends.specs.Members.{Seated}

pub cut_given : (a : Seated) (e : Numbered) (given : Option Trace) (found : Option LockId) (v : Visited) (r : Result Trace NoMemory) (t : Trace)
    → found ≡ Some e.end.lock → found ≡ Some v.lock → IsCut v.lock v r → r ≡ Ok t → given ≡ Some t → CutsBy a e given (Ok tt) a
cut_given a e given found v r t own met cut is held =
    let lock : v.lock ≡ e.end.lock = cc (own, met) in
    let visit : IsCut e.end.lock v (Ok t) =
    subst (λ (l : LockId). IsCut l v (Ok t)) lock (subst (λ (x : Result Trace NoMemory). IsCut v.lock v x) is cut) in
    (refl, (t, held, (v, visit)))
