-- The calls and turns of a pair, as the plain session has them.
use Rattle.strm_script.proofs.Prelude.{◌≡◌, ℕ, zero, suc, ◌+◌, ◌-◌, ◌<◌, ◌≤◌, Bool, true, false, List, [], ◌∷◌, ◌++◌, Option, None, Some, Result, Ok}
use Rattle.strm_script.proofs.Prelude.{Err, MatchOption, slice_get, refl, arith, sym, ap, ◌∙◌, inl, inr, append_assoc, ◌⊎◌, leb, ◌&&◌, ◌||◌, ◌==◌}
use Rattle.strm_script.proofs.Prelude.{is_some, le-leb, nat_tests}
use Rattle.strm_script.specs.Prelude.{Turn, Caller, QueueName, Refusal, FlushQueues, Called, Turned, is_enabled, tallied, called, State, first_at}
use Rattle.strm_script.specs.Prelude.{TurnOutcome, turned, Request, Reply, reply_in, blocks_asked, turn_refused, or_else, unless, PairState, Einval}
use Rattle.strm_script.specs.Prelude.{Enosr}
use Rattle.std.proofs.Common.{IsOk, IfOk}
use Rattle.strm_types.specs.declared.answers.Answer.{Answer}
use Rattle.strm_types.specs.Cells as cells
use Rattle.strm_laws.proofs.NoOwn.{none as no_own}
use Rattle.strm_laws.specs.Refusals.{Free, enough}
use Rattle.strm_types.specs.Refused.{turn_blocks}
use Rattle.strm_laws.specs.Pair.{call_refused, queue_refused, AddsEntry}
use Rattle.strm_script.proofs.Stopping.{accounted}
use Rattle.strm_script.specs.ScriptAnswers.{Ran, reply_line, turn_line}
use Rattle.strm_script.specs.ScriptRun as script
use Rattle.strm_script.specs.ScriptRun.{Supply, Enough, TooFew, is_enough, PlainPair, Happened, call_refusal, turn_refusal, call_happens, turn_happens, told_of, turn_to, reach, call_of, turn_of, is_enosr, Turns, no_turns, counted, turns_of, by_call, by_flush, by_named, by_turn, by_run, by_open, unanswered, new_plain, next_of, rest_of}
use Rattle.std.proofs.lemmas.Bool.{lt-leb}
use Rattle.strm_types.specs.declared.events.Event.TheVariants as calls
use Rattle.strm_script.specs.declared.answers.Line.TheVariants as lines
use Rattle.strm_script.specs.Plain.{plain}
use Rattle.strm_script.specs.Lines.{line_of}
use Rattle.strm_script.specs.Outcomes.{LeadsTo, answered_as}
use Rattle.strm_script.specs.declared.outcomes.Answered.{Answered}

-- what the pool had, by whether it had enough
supply_of : Bool → Supply
supply_of true = Enough
supply_of false = TooFew

is_enough-supply_of : (b : Bool) → is_enough (supply_of b) ≡ b
unfolding supply_of
is_enough-supply_of true = refl
is_enough-supply_of false = refl

-- the answer of a call, with its bytes, which stand in front of others
abbrev pub replied : List ℕ → Result (Answer ℕ) Refusal → Result Reply Refusal
replied bytes (Ok answer) = Ok (reply_in answer bytes)
replied bytes (Err refusal) = Err refusal

-- whether the pool was short of blocks for a call, and for a turn, by its answer
abbrev pub short_call : {A : Type 0} → Result A Refusal → Bool
short_call (Ok answer) = false
short_call (Err refusal) = is_enosr refusal

abbrev pub short_turn : QueueName → State ℕ → Result Turn Refusal → Bool
short_turn name s (Ok turn) = is_some (reach name.place (first_at name s) turn)
short_turn name s (Err refusal) = is_enosr refusal

-- a call of the code, and a turn, happen as they do to the plain pair
pub record CallHappens (old new : PairState) (caller : Caller) (asked : Request) (bytes : List ℕ) (r : Result (Answer ℕ) Refusal) : Type 0 where
  pub supply : Supply
  pub same : call_of supply (plain old) caller asked ≡ record { answer = replied bytes r; pair = plain new; is_short = short_call r }

pub record TurnHappens (old new : PairState) (name : QueueName) (r : Result Turn Refusal) : Type 0 where
  pub supply : Supply
  pub same : turn_of supply (plain old) name ≡ record { answer = r; pair = plain new; is_short = short_turn name old.state r }

call_as : (P : Type 0) (o : Option Refusal) (old new : PairState) (caller : Caller) (asked : Request) (bytes : List ℕ) (r : Result (Answer ℕ) Refusal)
    → MatchOption o (IsOk r) (λ x. (r ≡ Err x) × ((new ≡ old) × P))
    → IfOk r (λ answer. AddsEntry no_own old new (Called caller asked (reply_in answer bytes)))
    → call_happens o (plain old) caller asked ≡ record { answer = replied bytes r; pair = plain new; is_short = short_call r }
call_as P (Some refusal) old new caller asked bytes r h adds =
    λ i. record { answer = replied bytes (sym h.0 i); pair = plain (sym h.1.0 i); is_short = short_call (sym h.0 i) }
call_as P None old new caller asked bytes (Err x) h adds = cc
call_as P None old new caller asked bytes (Ok answer) h adds =
    (λ i. record {
      answer = Ok (adds.step.answered i);
      pair = record {
        state = adds.step.leads i;
        journal = old.journal ++ Called caller asked (adds.step.answered i) ∷ [];
        limits = old.limits;
        fates = tallied (called no_own cells.plain caller asked old.state).gone old.fates;
      };
      is_short = false;
    })
    ∙ (λ i. record {
      answer = Ok (reply_in answer bytes);
      pair = record { state = new.state; journal = sym adds.journal i; limits = sym adds.limits i; fates = sym adds.fates i };
      is_short = false;
    })

-- what the pool had for a call, which has enough where it asks for nothing
asked-at : (n : ℕ) (free : Free) (b : Bool) → enough n free ≡ b → (is_enough (supply_of b) || (n == 0)) ≡ b
unfolding supply_of
asked-at n free true e = refl
asked-at n free false e = grind (arith, nat_tests)

asked-supply : (n : ℕ) (free : Free) → (is_enough (supply_of (enough n free)) || (n == 0)) ≡ enough n free
asked-supply n free = asked-at n free (enough n free) refl

pub CallHappens-from : (P : Type 0) (old new : PairState) (caller : Caller) (asked : Request) (bytes : List ℕ) (r : Result (Answer ℕ) Refusal)
    → MatchOption (call_refused no_own old caller asked) (IsOk r) (λ x. (r ≡ Err x) × ((new ≡ old) × P))
    → IfOk r (λ answer. AddsEntry no_own old new (Called caller asked (reply_in answer bytes)))
    → CallHappens old new caller asked bytes r
unfolding call_of
CallHappens-from P old new caller asked bytes r h adds = record {
  supply = supply_of (enough (blocks_asked asked) old.free);
  same = rw (asked-supply (blocks_asked asked) old.free) (call_as P (call_refused no_own old caller asked) old new caller asked bytes r h adds);
}

-- a turn that isn't refused isn't where the pool has enough
none-enough : (a b c : Option Refusal) (has_blocks : Bool) → or_else a (or_else b (or_else c (unless has_blocks Enosr))) ≡ None
    → or_else a (or_else b (or_else c (unless true Enosr))) ≡ None
none-enough (Some refusal) b c has_blocks h = absurd cc
none-enough None (Some refusal) c has_blocks h = absurd cc
none-enough None None (Some refusal) has_blocks h = absurd cc
none-enough None None None true h = refl
none-enough None None None false h = absurd cc

-- a turn that is taken, with the account of how far it went
turn_taken : (old new : PairState) (name : QueueName) (turn : Turn) → AddsEntry no_own old new (Turned name turn)
    → turned no_own cells.plain name (turn_to (reach name.place (first_at name old.state) turn) name old.state) old.state ≡ turned no_own cells.plain name turn old.state
    → turn_happens None (reach name.place (first_at name old.state) turn) (plain old) name ≡ record { answer = Ok turn; pair = plain new; is_short = short_turn name old.state (Ok turn) }
turn_taken old new name turn adds goes =
    ap (λ (o : TurnOutcome ℕ). record {
      answer = Ok o.turn;
      pair = record { state = o.state; journal = old.journal ++ Turned name o.turn ∷ []; limits = old.limits; fates = tallied o.gone old.fates };
      is_short = short_turn name old.state (Ok turn);
    }) goes
    ∙ (λ i. record {
      answer = Ok (adds.step.answered i);
      pair = record {
        state = adds.step.leads i;
        journal = old.journal ++ Turned name (adds.step.answered i) ∷ [];
        limits = old.limits;
        fates = tallied (turned no_own cells.plain name turn old.state).gone old.fates;
      };
      is_short = short_turn name old.state (Ok turn);
    })
    ∙ (λ i. record {
      answer = Ok turn;
      pair = record { state = new.state; journal = sym adds.journal i; limits = sym adds.limits i; fates = sym adds.fates i };
      is_short = short_turn name old.state (Ok turn);
    })

-- by what the pool had for it
turn_by : (has_blocks : Bool) (o : Option Refusal) (old new : PairState) (name : QueueName) (r : Result Turn Refusal)
    → turn_refused old.state old.journal old.limits has_blocks name ≡ o
    → MatchOption o (IsOk r) (λ x. (r ≡ Err x) × (new ≡ old))
    → IfOk r (λ turn. AddsEntry no_own old new (Turned name turn))
    → TurnHappens old new name r
unfolding turn_of
turn_by has_blocks (Some refusal) old new name r is h adds = record {
  supply = supply_of has_blocks;
  same =
      (λ i. turn_happens (turn_refused old.state old.journal old.limits (is_enough-supply_of has_blocks i) name) (told_of (supply_of has_blocks) name old.state) (plain old) name)
      ∙ ap (λ o. turn_happens o (told_of (supply_of has_blocks) name old.state) (plain old) name) is
      ∙ (λ i. record { answer = sym h.0 i; pair = plain (sym h.1 i); is_short = short_turn name old.state (sym h.0 i) });
}
turn_by has_blocks None old new name (Err x) is h adds = cc
turn_by has_blocks None old new name (Ok turn) is h adds =
    let account = accounted turn name old.state adds.step.answered in
    record {
      supply = account.supply;
      same =
          (λ i. turn_happens (turn_refused old.state old.journal old.limits (account.enough i) name) (account.told i) (plain old) name)
          ∙ ap (λ o. turn_happens o (reach name.place (first_at name old.state) turn) (plain old) name) (none-enough (unless (is_enabled name old.state.enabled) Einval) _ _ has_blocks is)
          ∙ turn_taken old new name turn adds account.goes;
    }

pub TurnHappens-from : (old new : PairState) (name : QueueName) (r : Result Turn Refusal)
    → MatchOption (queue_refused old name) (IsOk r) (λ x. (r ≡ Err x) × (new ≡ old))
    → IfOk r (λ turn. AddsEntry no_own old new (Turned name turn))
    → TurnHappens old new name r
TurnHappens-from old new name r h adds = turn_by (enough (turn_blocks name.place) old.free) (queue_refused old name) old new name r refl h adds

-- the answer of a command that makes a call, and of one that gives a turn
pub answers_call : (old new : PairState) (caller : Caller) (asked : Request) (bytes : List ℕ) (r : Result (Answer ℕ) Refusal) (found : Answered)
    → CallHappens old new caller asked bytes r → line_of bytes found.line ≡ reply_line (replied bytes r) → found.short ≡ short_call r
    → LeadsTo (λ account. by_call caller asked account (plain old)) found bytes (Some (plain new))
unfolding by_call
answers_call old new caller asked bytes r found h line short = record {
  events = h.supply ∷ [];
  leads = λ account.
      ap (λ (happened : Happened (Reply)). record {
        line = reply_line happened.answer;
        pair = Some happened.pair;
        account = account;
        is_short = happened.is_short;
      }) h.same
      ∙ (λ i. record { line = sym line i; pair = Some (plain new); account = account; is_short = sym short i });
}

pub answers_turn : (bytes : List ℕ) (old new : PairState) (name : QueueName) (r : Result Turn Refusal) (found : Answered)
    → TurnHappens old new name r → line_of bytes found.line ≡ turn_line r → found.short ≡ short_turn name old.state r
    → LeadsTo (λ account. by_turn name account (plain old)) found bytes (Some (plain new))
unfolding by_turn
answers_turn bytes old new name r found h line short = record {
  events = h.supply ∷ [];
  leads = λ account.
      ap (λ (happened : Happened Turn). record {
        line = turn_line happened.answer;
        pair = Some happened.pair;
        account = account;
        is_short = happened.is_short;
      }) h.same
      ∙ (λ i. record { line = sym line i; pair = Some (plain new); account = account; is_short = sym short i });
}

-- where no queue is enabled, no turn is taken
pub turns_none : (n : ℕ) (account : List Supply) (p : PlainPair) → slice_get p.state.enabled 0 ≡ None → turns_of n account p ≡ no_turns false account p
unfolding turns_of
turns_none zero account p h = refl
turns_none (suc n) account p h = rw (h, turns_of) refl

-- one that is refused ends the turns, and one that isn't counts
pub turns_err : (n : ℕ) (account : List Supply) (p after : PlainPair) (name : QueueName) (refusal : Refusal) (short : Bool)
    → slice_get p.state.enabled 0 ≡ Some name → turn_of (next_of account) p name ≡ record { answer = Err refusal; pair = after; is_short = short }
    → turns_of (suc n) account p ≡ no_turns short (rest_of account) after
unfolding turns_of
turns_err n account p after name refusal short first h =
    rw (first, turns_of, h) (ap (λ (x : Happened Turn). no_turns x.is_short (rest_of account) x.pair) h)

pub turns_ok : (n : ℕ) (account : List Supply) (p after : PlainPair) (name : QueueName) (turn : Turn) (short : Bool)
    → slice_get p.state.enabled 0 ≡ Some name → turn_of (next_of account) p name ≡ record { answer = Ok turn; pair = after; is_short = short }
    → turns_of (suc n) account p ≡ counted short (turns_of n (rest_of account) after)
unfolding turns_of
turns_ok n account p after name turn short first h =
    rw (first, turns_of, h) (ap (λ (x : Happened Turn). counted x.is_short (turns_of n (rest_of account) x.pair)) h)

-- so many turns before others, for one of which the pool was short of blocks or not
abbrev pub counted_by : ℕ → Bool → Turns → Turns
counted_by n short turns = record { count = n + turns.count; pair = turns.pair; account = turns.account; is_short = short || turns.is_short }

-- turns of which so many are taken, on a pair that began as another
pub record RunsTo (turns taken : ℕ) (short : Bool) (begun now : PlainPair) : Type 0 where
  pub events : List Supply
  pub leads : (account : List Supply) → turns_of turns (events ++ account) begun ≡ counted_by taken short (turns_of (turns - taken) account now)

pub turns_zero : (account : List Supply) (p : PlainPair) → turns_of 0 account p ≡ no_turns false account p
unfolding turns_of
turns_zero account p = refl

pub RunsTo-start : (turns : ℕ) (p : PlainPair) → RunsTo turns 0 false p p
RunsTo-start turns p = record {
  events = [];
  leads = λ account.
      let all : turns ≡ turns - 0 = omega arith in
      ap (λ n. turns_of n account p) all
      ∙ (let rest = turns_of (turns - 0) account p in
      let count : rest.count ≡ 0 + rest.count = omega arith in
      λ i. record { count = count i; pair = rest.pair; account = rest.account; is_short = rest.is_short });
}

or_assoc : (a b c : Bool) → (a || (b || c)) ≡ ((a || b) || c)
or_assoc true b c = refl
or_assoc false b c = refl

or_false : (a : Bool) → (a || false) ≡ a
or_false true = refl
or_false false = refl

pub RunsTo-more : (turns taken : ℕ) (short : Bool) (begun : PlainPair) (old new : PairState) (name : QueueName) (turn : Turn) (r : Result Turn Refusal)
    → taken < turns → RunsTo turns taken short begun (plain old) → slice_get old.state.enabled 0 ≡ Some name
    → TurnHappens old new name r → r ≡ Ok turn → RunsTo turns (taken + 1) (short || is_some (reach name.place (first_at name old.state) turn)) begun (plain new)
RunsTo-more turns taken short begun old new name turn r below so first h e = record {
  events = so.events ++ h.supply ∷ [];
  leads = λ account.
      ap (λ events. turns_of turns events begun) (append_assoc so.events (h.supply ∷ []) account)
      ∙ so.leads (h.supply ∷ account)
      ∙ (let left : turns - taken ≡ suc (turns - (taken + 1)) = omega arith in
      let rest = turns_of (turns - (taken + 1)) account (plain new) in
      let here = is_some (reach name.place (first_at name old.state) turn) in
      let count : taken + suc rest.count ≡ taken + 1 + rest.count = omega arith in
      ap (λ n. counted_by taken short (turns_of n (h.supply ∷ account) (plain old))) left
      ∙ ap (counted_by taken short) (turns_ok (turns - (taken + 1)) (h.supply ∷ account) (plain old) (plain new) name turn here first
      (h.same ∙ ap (λ x. record { answer = x; pair = plain new; is_short = short_turn name old.state x }) e))
      ∙ (λ i. record { count = count i; pair = rest.pair; account = rest.account; is_short = or_assoc short here rest.is_short i }));
}

-- the turns end here
pub run_ends : (turns taken : ℕ) (before : Bool) (begun : PlainPair) (now after : PlainPair) (found : Answered) (bytes : List ℕ) (front : List Supply) (short : Bool)
    → RunsTo turns taken before begun now → ((account : List Supply) → turns_of (turns - taken) (front ++ account) now ≡ no_turns short account after)
    → line_of bytes found.line ≡ Ran taken → found.short ≡ (before || short)
    → LeadsTo (λ account. by_run turns account begun) found bytes (Some after)
unfolding by_run
run_ends turns taken before begun now after found bytes front short so ends line same = record {
  events = so.events ++ front;
  leads = λ account.
      let all = ap (λ events. turns_of turns events begun) (append_assoc so.events front account)
      ∙ so.leads (front ++ account) ∙ ap (counted_by taken before) (ends account) in
      let count : taken + 0 ≡ taken = omega arith in
      ap (λ (t : Turns). record { line = Ran t.count; pair = Some t.pair; account = t.account; is_short = t.is_short }) all
      ∙ (λ i. record { line = Ran (count i); pair = Some after; account = account; is_short = before || short })
      ∙ (λ i. record { line = sym line i; pair = Some after; account = account; is_short = sym same i });
}

pub run_none : (bytes : List ℕ) (turns taken : ℕ) (short : Bool) (begun : PlainPair) (old : PairState) (found : Answered)
    → RunsTo turns taken short begun (plain old) → slice_get old.state.enabled 0 ≡ None
    → line_of bytes found.line ≡ Ran taken → found.short ≡ short
    → LeadsTo (λ account. by_run turns account begun) found bytes (Some (plain old))
run_none bytes turns taken short begun old found so none line same =
    run_ends turns taken short begun (plain old) (plain old) found bytes [] false so (λ account. turns_none (turns - taken) account (plain old) none) line (same ∙ sym (or_false short))

pub run_refused : (bytes : List ℕ) (turns taken : ℕ) (short : Bool) (begun : PlainPair) (old new : PairState) (name : QueueName) (refusal : Refusal) (r : Result Turn Refusal) (found : Answered)
    → taken < turns → RunsTo turns taken short begun (plain old) → slice_get old.state.enabled 0 ≡ Some name
    → TurnHappens old new name r → r ≡ Err refusal
    → line_of bytes found.line ≡ Ran taken → found.short ≡ (short || is_enosr refusal)
    → LeadsTo (λ account. by_run turns account begun) found bytes (Some (plain new))
run_refused bytes turns taken short begun old new name refusal r found below so first h e line same =
    run_ends turns taken short begun (plain old) (plain new) found bytes (h.supply ∷ []) (is_enosr refusal) so
    (λ account.
    let left : turns - taken ≡ suc (turns - (taken + 1)) = omega arith in
    ap (λ n. turns_of n (h.supply ∷ account) (plain old)) left
    ∙ turns_err (turns - (taken + 1)) (h.supply ∷ account) (plain old) (plain new) name refusal (is_enosr refusal) first
    (h.same ∙ ap (λ x. record { answer = x; pair = plain new; is_short = short_turn name old.state x }) e))
    line same

pub run_all : (bytes : List ℕ) (turns : ℕ) (short : Bool) (begun : PlainPair) (old : PairState) (found : Answered) (taken : ℕ) → turns ≤ taken
    → RunsTo turns taken short begun (plain old) → line_of bytes found.line ≡ Ran taken → found.short ≡ short
    → LeadsTo (λ account. by_run turns account begun) found bytes (Some (plain old))
run_all bytes turns short begun old found taken past so line same =
    run_ends turns taken short begun (plain old) (plain old) found bytes [] false so
    (λ account.
    let none : turns - taken ≡ 0 = omega arith in
    ap (λ n. turns_of n account (plain old)) none ∙ turns_zero account (plain old))
    line (same ∙ sym (or_false short))

-- a command that no call answers
pub leads_unanswered : (bytes : List ℕ) (command : List Supply → script.Answered) (refusal : Refusal) (pair : Option PlainPair) (found : Answered)
    → found ≡ record { line = lines.Refused refusal; short = false }
    → ((account : List Supply) → command account ≡ unanswered refusal pair account)
    → LeadsTo command found bytes pair
leads_unanswered bytes command refusal pair found e same = record {
  events = [];
  leads = λ account. same account ∙ ap (λ x. answered_as x bytes pair account) (sym e);
}

-- a look at a pair, which no call makes, and a command that asks nothing of it
pub leads_looked : (bytes : List ℕ) (command : List Supply → script.Answered) (pair : Option PlainPair) (found : Answered)
    → ((account : List Supply) → command account ≡ record { line = line_of bytes found.line; pair = pair; account = account; is_short = found.short })
    → LeadsTo command found bytes pair
leads_looked bytes command pair found same = record { events = []; leads = same }

-- the same command
pub leads_same : (bytes : List ℕ) (command said : List Supply → script.Answered) (pair : Option PlainPair) (found : Answered)
    → ((account : List Supply) → command account ≡ said account) → LeadsTo said found bytes pair → LeadsTo command found bytes pair
leads_same bytes command said pair found same h = record {
  events = h.events;
  leads = λ account. same (h.events ++ account) ∙ h.leads account;
}

and_none : (b : Bool) → (b && false) ≡ false
and_none true = refl
and_none false = refl

-- a flush, by its band
pub flush_refused : (caller : Caller) (what : FlushQueues) (band : ℕ) (account : List Supply) (p : PlainPair) → 255 < band
    → by_flush caller what (Some band) account p ≡ unanswered Einval (Some p) account
unfolding by_flush
flush_refused caller what band account p h = rw (lt-leb band 255 h) refl

pub flush_made : (caller : Caller) (what : FlushQueues) (band : ℕ) (account : List Supply) (p : PlainPair) → band ≤ 255
    → by_flush caller what (Some band) account p ≡ by_call caller (calls.Flush what (Some (record { 0 = band }))) account p
unfolding by_flush
flush_made caller what band account p h = rw (le-leb band 255 h) refl

-- a command that names what no call can name, and one that doesn't
pub named_none : {A : Type 0} (caller : Caller) (asked : A → Request) (named : Option A) (account : List Supply) (p : PlainPair) → named ≡ None
    → by_named caller asked named account p ≡ unanswered Einval (Some p) account
named_none caller asked named account p h = ap (λ named. by_named caller asked named account p) h

pub named_some : {A : Type 0} (caller : Caller) (asked : A → Request) (named : Option A) (x : A) (account : List Supply) (p : PlainPair) → named ≡ Some x
    → by_named caller asked named account p ≡ by_call caller (asked x) account p
named_some caller asked named x account p h = ap (λ named. by_named caller asked named account p) h

-- an `open`, by its number of blocks
pub open_refused : (caller : Caller) (blocks : ℕ) (account : List Supply) → (blocks ≡ 0) ⊎ (4096 < blocks) → by_open caller blocks account ≡ unanswered Einval None account
unfolding by_open
open_refused caller blocks account (inl e) = rw (e) refl
open_refused caller blocks account (inr h) = rw (lt-leb blocks 4096 h, and_none (leb 1 blocks)) refl

pub open_made : (caller : Caller) (blocks : ℕ) (account : List Supply) → 0 < blocks → blocks ≤ 4096
    → by_open caller blocks account ≡ by_call caller calls.OpenMaster account (new_plain blocks)
unfolding by_open
open_made caller blocks account some most = rw (le-leb 1 blocks some, le-leb blocks 4096 most) refl
