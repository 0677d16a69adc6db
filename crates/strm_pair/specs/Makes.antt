-- What a call of a pair does, whichever it is (STREAMS Programming Guide, "Stream Head").
use Rattle.std.specs.Prelude.{ℕ, ◌≡◌, ◌≤◌, length, Result, Err, MatchOption, IsOk, IfOk}
use Rattle.arrayvec.specs.ArrayVec.{ArrayVec}
use Rattle.strm_types.specs.declared.answers.Answer.{Answer}
use Rattle.strm_types.specs.declared.entries.Entry.TheVariants.{Called}
use Rattle.strm_types.specs.declared.events.Caller.{Caller}
use Rattle.strm_types.specs.declared.limits.TheConstants.{READ_MAX}
use Rattle.strm_types.specs.declared.refusals.Refusal.{Refusal}
use Rattle.strm_types.specs.Events.{Request}
use Rattle.strm_types.specs.Journal.{answer_len, reply_in}
use Rattle.strm_laws.specs.Behaviours.{Behaviour}
use Rattle.strm_laws.specs.Pair.{AddsEntry, PairState, call_refused}
use Rattle.strm_pair.specs.Parts.{longest_part}

-- It is refused exactly where one is to be, and then neither the pair nor the buffer changes. Else the journal gains it with its answer; the buffer has
-- the bytes that the answer gives, and no others, and no part of these is longer than a read may be.
pub record Makes (K : Behaviour) (old new : PairState) (caller : Caller) (asked : Request) (result : Result (Answer ℕ) Refusal)
    (out out' : ArrayVec ℕ) : Type 0 where
  pub refused : MatchOption (call_refused K old caller asked) (IsOk result) (λ r. (result ≡ Err r) × ((new ≡ old) × (out' ≡ out)))
  pub adds : IfOk result (λ answer. AddsEntry K old new (Called caller asked (reply_in answer out'.items)))
  pub filled : IfOk result (λ answer. answer_len answer ≡ length out'.items)
  pub parts : IfOk result (λ answer. longest_part answer ≤ READ_MAX)
