-- What a pair gives fits what its caller was asked to have room for, and a reply reads back as the answer.
use Rattle.std.proofs.Common.{ℕ, ◌≡◌, ◌≤◌, List, [], ◌∷◌, ◌++◌, length, take, drop, sym, subst, ap, ◌∙◌, arith}
use Rattle.std.specs.Prelude.{Option, Some, IsSomeAnd}
use Rattle.std.proofs.lemmas.List.{take_all}
use Rattle.std.proofs.Math.Seq.{take-append_seam, drop-append_seam}
use Rattle.strm_types.specs.Cells.{plain}
use Rattle.strm_types.specs.declared.answers.Answer.{Answer}
use Rattle.strm_types.specs.declared.entries.Entry.TheVariants.{Called}
use Rattle.strm_types.specs.declared.events.Caller.{Caller}
use Rattle.strm_types.specs.declared.limits.Config.{Config}
use Rattle.strm_types.specs.declared.refusals.Refusal.{Refusal}
use Rattle.strm_laws.proofs.NoOwn.{none as no_own}
use Rattle.strm_laws.specs.State.{State}
use Rattle.strm_types.specs.declared.events.Event.TheVariants as shapes
use Rattle.strm_types.specs.Events.{Request, content_of}
use Rattle.strm_types.specs.Journal.{PlainEntry, answer_len, content_max, reply_in}
use Rattle.strm_laws.specs.Pair.{PairState, AddsEntry}
use Rattle.strm_laws.specs.Within.{AreWithin}
use Rattle.strm_laws.proofs.AnswersFit.{content-fits}
use Rattle.strm_laws.proofs.JournalEntries.{room_used-stored}
use Rattle.strm_laws.proofs.WithinSteps.{step-within}
use Rattle.strm_handle.specs.declared.replies.Reply.{Reply}
use Rattle.strm_handle.specs.Kept.{IsKept, KeptPair, SameChoices, TakesAny, begun}
use Rattle.strm_handle.specs.Calls.{Replies, answer_at, answer_in}
use Rattle.strm_handle.specs.Outcomes.{Answers}
use Rattle.strm_handle.proofs.Begun.{begun-keeps}

-- the bytes of an answer are as many as its buffer holds
content-length : (caller : Caller) (answer : Answer ℕ) (content : List ℕ) → answer_len answer ≡ length content → length (content_of (reply_in answer content)) ≡ length content
content-length caller answer content filled =
    let used = room_used-stored (Called caller shapes.Look answer ∷ []) content (omega (arith, filled)) in omega (arith, used)

-- and no more than the call asks room for
pub content-small : (old new : PairState) (caller : Caller) (asked : Request) (answer : Answer ℕ) (content : List ℕ)
    → AreWithin old.state → AddsEntry no_own old new (Called caller asked (reply_in answer content)) → answer_len answer ≡ length content → length content ≤ content_max asked
content-small old new caller asked answer content within adds filled =
    subst (λ n. n ≤ content_max asked)
    (ap (λ a. length (content_of a)) adds.step.answered ∙ content-length caller answer content filled)
    (content-fits plain no_own caller asked old.state within)

-- each step leaves heads as they have to be
pub stays-within : (old new : PairState) (entry : PlainEntry) → AreWithin old.state → AddsEntry no_own old new entry → AreWithin new.state
stays-within old new entry within adds = step-within no_own plain old.state new.state entry within adds.step

-- and a pair that is kept stays so
pub stays-kept : (old new : KeptPair) (entry : PlainEntry) → IsKept old → SameChoices old new → AddsEntry no_own old.pair new.pair entry → IsKept new
stays-kept old new entry kept choices adds = record {
  within = stays-within old.pair new.pair entry kept.within adds;
  anew = λ is. subst (λ (l : Config). TakesAny l) (sym adds.limits) (kept.anew (sym choices.anew ∙ is));
}

pub begun-kept : (k : KeptPair) (o : Option Refusal) → IsKept k → IsKept (record k { pair = begun k.anew o k.pair })
begun-kept k o kept =
    let keeps = begun-keeps k.anew o k.pair in
    record {
      within = subst (λ (s : State ℕ). AreWithin s) (sym keeps.0) kept.within;
      anew = λ is. subst (λ (l : Config). TakesAny l) (sym keeps.1.1) (kept.anew is);
    }

-- a reply beside a buffer whose front is an answer's bytes tells that answer
pub told-over : (reply : Reply) (answer : Answer ℕ) (content rest : List ℕ)
    → reply.bytes ≡ answer_len answer → Replies reply answer → answer_len answer ≡ length content → answer_in reply (content ++ rest) ≡ Some (reply_in answer content)
told-over reply answer content rest bytes replies filled =
    let front : take reply.bytes (content ++ rest) ≡ content = ap (λ n. take n (content ++ rest)) (bytes ∙ filled) ∙ take-append_seam content rest in
    let whole : take (answer_len answer) content ≡ content = ap (λ n. take n content) filled ∙ take_all (length content) content (omega arith) in
    ap (λ bs. answer_at reply bs) (front ∙ sym whole) ∙ replies content (omega (arith, filled))

-- a call's answer, with its bytes at the front of the buffer
pub answered : (caller : Caller) (asked : Request) (reply : Reply) (answer : Answer ℕ) (content before out : List ℕ) (old new : KeptPair)
    → reply.bytes ≡ answer_len answer → Replies reply answer → answer_len answer ≡ length content → length content ≤ length before → out ≡ content ++ drop (length content) before
    → AddsEntry no_own old.pair new.pair (Called caller asked (reply_in answer content)) → SameChoices old new → Answers caller asked reply before out old new
answered caller asked reply answer content before out old new bytes replies filled few is adds choices =
    let rest : List ℕ = drop (length content) before in
    let told : answer_in reply out ≡ Some (reply_in answer content) = ap (λ b. answer_in reply b) is ∙ told-over reply answer content rest bytes replies filled in
    record {
      adds = subst (λ o. IsSomeAnd o (λ a. AddsEntry no_own old.pair new.pair (Called caller asked a) × (reply.bytes ≡ length (content_of a))))
          (sym told) (adds, bytes ∙ filled ∙ sym (content-length caller answer content filled));
      choices = choices;
      fits = omega (arith, bytes, filled, few);
      others = ap (λ b. drop reply.bytes b) is ∙ ap (λ n. drop n (content ++ rest)) (bytes ∙ filled) ∙ drop-append_seam content rest ∙ ap (λ n. drop n before) (sym (bytes ∙ filled));
    }
