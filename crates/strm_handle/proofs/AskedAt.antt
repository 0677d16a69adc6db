-- A call of numbers is the call that they stand for.
use Rattle.std.proofs.Common.{ℕ, ◌≡◌, List, sym, subst}
use Rattle.std.specs.Prelude.{Option, Some, IsSomeAnd}
use Rattle.strm_types.specs.declared.events.Caller.{Caller}
use Rattle.strm_types.specs.Events.{Request}
use Rattle.strm_handle.specs.declared.replies.Reply.{Reply}
use Rattle.strm_handle.specs.Kept.{KeptPair}
use Rattle.strm_handle.specs.Outcomes.{Answers, CallsAt, call_of_both, refused_within}

pub asked-at : (o : Option Caller) (e : Option Request) (caller : Caller) (asked : Request) (room : ℕ) (stays : Type 0) (reply : Reply) (before out : List ℕ) (old new : KeptPair) (n : ℕ)
    → o ≡ Some caller → e ≡ Some asked → CallsAt (refused_within caller asked room) stays (Answers caller asked reply before out) old new n
    → CallsAt (call_of_both o e room) stays (λ x y. IsSomeAnd o (λ c. IsSomeAnd e (λ a. Answers c a reply before out x y))) old new n
asked-at o e caller asked room stays reply before out old new n who what told =
    subst (λ p. CallsAt (call_of_both p e room) stays (λ x y. IsSomeAnd p (λ c. IsSomeAnd e (λ a. Answers c a reply before out x y))) old new n) (sym who)
    (subst (λ q. CallsAt (call_of_both (Some caller) q room) stays (λ x y. IsSomeAnd q (λ a. Answers caller a reply before out x y)) old new n) (sym what) told)
