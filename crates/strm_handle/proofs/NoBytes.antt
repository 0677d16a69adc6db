-- A call whose buffer is empty leaves it so.
use Rattle.std.proofs.Common.{ℕ, ◌≡◌, List, [], drop, subst, arith}
use Rattle.std.specs.Prelude.{Option, None, Some, IsSomeAnd}
use Rattle.strm_types.specs.declared.events.Caller.{Caller}
use Rattle.strm_types.specs.declared.names.Side.{Side}
use Rattle.strm_types.specs.declared.refusals.Refusal.{Refusal}
use Rattle.strm_types.specs.Events.{Request}
use Rattle.strm_types.specs.JobControl.{caller_of}
use Rattle.strm_handle.specs.declared.replies.Reply.{Reply}
use Rattle.strm_handle.specs.Kept.{KeptPair, made_at}
use Rattle.strm_handle.specs.Numbers.{side_at}
use Rattle.strm_handle.specs.Outcomes.{Answers, AnswersSide, CallsAt, Decided, Stay, side_refused}

answered-none : (caller : Caller) (asked : Request) (reply : Reply) (out : List ℕ) (old new : KeptPair) → Answers caller asked reply [] out old new → out ≡ []
answered-none caller asked reply out old new is =
    let none : reply.bytes ≡ 0 = omega (arith, is.fits) in
    subst (λ n. drop n out ≡ drop n []) none is.others

side-none : (o : Option Side) (asked : Request) (reply : Reply) (out : List ℕ) (old new : KeptPair)
    → IsSomeAnd o (λ side. Answers (caller_of side) asked reply [] out old new) → out ≡ []
side-none None asked reply out old new is = absurd is
side-none (Some side) asked reply out old new is = answered-none (caller_of side) asked reply out old new is

decided-none : (o : Option Refusal) (same rest done : Type 0) (out : List ℕ) (n : ℕ) → (done → out ≡ []) → Decided o (same × ((out ≡ []) × rest)) done n → out ≡ []
decided-none None same rest done out n so is = so is.1
decided-none (Some r) same rest done out n so is = is.1.1.0

pub gives-none : (side : ℕ) (asked : Request) (before reply : Reply) (out : List ℕ) (old new : KeptPair) (n : ℕ)
    → CallsAt (side_refused side asked 0) (Stay [] out before reply) (AnswersSide side asked reply [] out) old new n → out ≡ []
gives-none side asked before reply out old new n is =
    let at : KeptPair = made_at (side_refused side asked 0) old in
    decided-none (side_refused side asked 0 at) (new ≡ at) (reply ≡ before) (AnswersSide side asked reply [] out at new) out n (side-none (side_at side) asked reply out at new) is.made
