-- Events that aren't short are answered as if all events had the blocks that they ask for.
use Rattle.strm_script.proofs.Prelude.{◌≡◌, ℕ, zero, suc, ◌-◌, ◌≤◌, Bool, true, false, List, [], ◌∷◌, ◌++◌, take, Option, None, Some, Result, Ok, Err}
use Rattle.strm_script.proofs.Prelude.{refl, sym, ap, ◌∙◌, slice_get, arith, append_assoc, inl, inr, nat_le, ◌&&◌, ◌||◌, unwrap_or, ◌⊎◌, ◌==◌}
use Rattle.strm_script.proofs.Prelude.{cases_Bool, false≢true}
use Rattle.strm_script.specs.Prelude.{Turn, Caller, QueueName, Refusal, Einval, Enosr, FlushQueues, is_enabled, Request, Reply, or_else, unless}
use Rattle.strm_script.specs.Prelude.{refused, refused_at_once, refused_by_state, blocks_asked, Both, get}
use Rattle.strm_types.specs.declared.events.Event.TheVariants as calls
use Rattle.strm_laws.proofs.NoOwn.{none as no_own}
use Rattle.strm_script.specs.Script.{Command, Open, Call, Flush, Put, Get, Turn as TurnOf, Run, Show, Ledger, Cut, Group}
use Rattle.strm_script.specs.ScriptReading.{Reading, Silent, Malformed, Spoken, reading}
use Rattle.strm_script.specs.ScriptAnswers.{printed_line, reply_line, turn_line, Ran, Wrong}
use Rattle.strm_script.specs.ScriptRun as script
use Rattle.strm_script.specs.ScriptRun.{Supply, Enough, Within, TooFew, next_of, rest_of, PlainPair, Happened, call_refusal, turn_refusal, call_happens, turn_happens, told_of, call_of, turn_of, is_enosr, turns_of, by_call, by_flush, prio_of, wanted_of, by_named, by_put, by_get, by_show, by_ledger, by_cut, by_turn, by_run, by_open, answered, Session, session_behind, told_from, told_after, first_of, line_if, Told, new_plain}
use Rattle.strm_script.proofs.Supplies.{is_want, call_happens-short, turn_happens-short, answered-enough}
use Rattle.strm_script.proofs.Events.{turns_none, turns_err, turns_ok, turns_zero}

-- what isn't refused for want of blocks doesn't depend on them
same_refusal : (a b c d : Option Refusal) → is_want (or_else a (or_else b (Some Enosr))) ≡ false → or_else a (or_else b c) ≡ or_else a (or_else b d)
unfolding is_want
same_refusal (Some r) b c d h = refl
same_refusal None (Some r) c d h = refl
same_refusal None None c d h = absurd (false≢true (sym h))

-- nor where one more comes before
same_refusal_behind : (a b c d e : Option Refusal) → is_want (or_else a (or_else b (or_else c (Some Enosr)))) ≡ false
    → or_else a (or_else b (or_else c d)) ≡ or_else a (or_else b (or_else c e))
same_refusal_behind (Some r) b c d e h = refl
same_refusal_behind None b c d e h = same_refusal b c d e h

refused-same : (b : Bool) (p : PlainPair) (caller : Caller) (asked : Request)
    → is_want (refused no_own p.state p.journal p.limits b caller asked) ≡ false
    → refused no_own p.state p.journal p.limits b caller asked ≡ refused no_own p.state p.journal p.limits true caller asked
refused-same true p caller asked h = refl
refused-same false p caller asked h =
    same_refusal (refused_at_once p.state caller asked) _ (Some Enosr) (refused_by_state no_own p.state caller asked) h

call-same : (supply : Supply) (p : PlainPair) (caller : Caller) (asked : Request) → (call_of supply p caller asked).is_short ≡ false
    → call_of supply p caller asked ≡ call_of Enough p caller asked
unfolding call_of
call-same Enough p caller asked h = refl
call-same (Within bytes) p caller asked h = refl
call-same TooFew p caller asked h =
    ap (λ o. call_happens o p caller asked)
    (refused-same (blocks_asked asked == 0) p caller asked
    (sym (call_happens-short (call_refusal TooFew p caller asked) p caller asked) ∙ h))

-- a turn of which the account says nothing goes to the end of its message
untold-same : (o : Option Refusal) (told : Option ℕ) (p : PlainPair) (name : QueueName) → (turn_happens o told p name).is_short ≡ false
    → turn_happens o told p name ≡ turn_happens o None p name
untold-same (Some refusal) told p name h = refl
untold-same None None p name h = refl
untold-same None (Some bytes) p name h = absurd (false≢true (sym h))

turn-same : (supply : Supply) (p : PlainPair) (name : QueueName) → (turn_of supply p name).is_short ≡ false
    → turn_of supply p name ≡ turn_of Enough p name
unfolding turn_of
turn-same Enough p name h = refl
turn-same (Within bytes) p name h = untold-same (turn_refusal Enough p name) (told_of (Within bytes) name p.state) p name h
turn-same TooFew p name h =
    ap (λ o. turn_happens o None p name)
    (same_refusal_behind (unless (is_enabled name p.state.enabled) Einval) _ _ (Some Enosr) None
    (sym (turn_happens-short (turn_refusal TooFew p name) p name) ∙ h))

-- turns that end alike
record SameTurns (t u : script.Turns) : Type 0 where
  count : t.count ≡ u.count
  pair : t.pair ≡ u.pair

same_turns : (t t' u u' : script.Turns) → t ≡ t' → u ≡ u' → SameTurns t' u' → SameTurns t u
same_turns t t' u u' e f h = record {
  count = ap (λ (x : script.Turns). x.count) e ∙ h.count ∙ ap (λ (x : script.Turns). x.count) (sym f);
  pair = ap (λ (x : script.Turns). x.pair) e ∙ h.pair ∙ ap (λ (x : script.Turns). x.pair) (sym f);
}

abbrev Same-at : ℕ → Type 0
Same-at n = (account : List Supply) (p : PlainPair) → (turns_of n account p).is_short ≡ false → SameTurns (turns_of n account p) (turns_of n [] p)

-- neither of two is so
neither : (a b : Bool) → (a || b) ≡ false → (a ≡ false) × (b ≡ false)
neither true b h = absurd (false≢true (sym h))
neither false b h = (refl, h)

turns-one : (n : ℕ) → Same-at n → (account : List Supply) (p : PlainPair) (name : QueueName) → slice_get p.state.enabled 0 ≡ Some name → (r : Result Turn Refusal) (after : PlainPair) (now : Bool)
    → turn_of (next_of account) p name ≡ record { answer = r; pair = after; is_short = now } → (turns_of (suc n) account p).is_short ≡ false
    → SameTurns (turns_of (suc n) account p) (turns_of (suc n) [] p)
turns-one n later account p name e (Err refusal) after now h short =
    let all = turns_err n account p after name refusal now e h in
    let not_short = ap (λ (x : Happened Turn). x.is_short) h ∙ sym (ap (λ (t : script.Turns). t.is_short) all) ∙ short in
    let none = turns_err n [] p after name refusal now e (sym (turn-same (next_of account) p name not_short) ∙ h) in
    same_turns _ _ _ _ all none (record { count = refl; pair = refl })
turns-one n later account p name e (Ok turn) after now h short =
    let all = turns_ok n account p after name turn now e h in
    let none_short = neither now _ (sym (ap (λ (t : script.Turns). t.is_short) all) ∙ short) in
    let not_short = ap (λ (x : Happened Turn). x.is_short) h ∙ none_short.0 in
    let none = turns_ok n [] p after name turn now e (sym (turn-same (next_of account) p name not_short) ∙ h) in
    let rest = later (rest_of account) after none_short.1 in
    same_turns _ _ _ _ all none (record { count = ap suc rest.count; pair = rest.pair })

turns-first : (n : ℕ) → Same-at n → (account : List Supply) (p : PlainPair) (o : Option QueueName) → slice_get p.state.enabled 0 ≡ o
    → (turns_of (suc n) account p).is_short ≡ false → SameTurns (turns_of (suc n) account p) (turns_of (suc n) [] p)
turns-first n later account p None e short =
    same_turns _ _ _ _ (turns_none (suc n) account p e) (turns_none (suc n) [] p e) (record { count = refl; pair = refl })
turns-first n later account p (Some name) e short =
    let happened = turn_of (next_of account) p name in
    turns-one n later account p name e happened.answer happened.pair happened.is_short refl short

turns-same : (n : ℕ) → Same-at n
turns-same zero account p short = same_turns _ _ _ _ (turns_zero account p) (turns_zero [] p) (record { count = refl; pair = refl })
turns-same (suc n) account p short = turns-first n (turns-same n) account p (slice_get p.state.enabled 0) refl short

-- commands that are answered alike
record SameAnswer (a b : script.Answered) : Type 0 where
  line : a.line ≡ b.line
  pair : a.pair ≡ b.pair

call_answer : (supply : Supply) (p : PlainPair) (caller : Caller) (asked : Request) (account : List Supply)
    → (call_of (next_of account) p caller asked).is_short ≡ false → SameAnswer (by_call caller asked account p) (by_call caller asked [] p)
unfolding by_call
call_answer supply p caller asked account h =
    let same = call-same (next_of account) p caller asked h in
    record { line = ap (λ (x : Happened (Reply)). reply_line x.answer) same; pair = ap (λ (x : Happened (Reply)). Some x.pair) same }

open-same : (caller : Caller) (blocks : ℕ) (account : List Supply) → (by_open caller blocks account).is_short ≡ false → SameAnswer (by_open caller blocks account) (by_open caller blocks [])
unfolding by_open by_call
open-same caller blocks account h = elim (cases_Bool (nat_le 1 blocks && nat_le blocks 4096)) [
  | inl e ↦ rw (e) (call_answer Enough (new_plain blocks) caller calls.OpenMaster account (rw (e) at h))
  | inr e ↦ rw (e) (record { line = refl; pair = refl })
]

flush-same : (caller : Caller) (what : FlushQueues) (band : ℕ) (account : List Supply) (p : PlainPair)
    → (by_flush caller what (Some band) account p).is_short ≡ false
    → SameAnswer (by_flush caller what (Some band) account p) (by_flush caller what (Some band) [] p)
unfolding by_flush by_call
flush-same caller what band account p h = elim (cases_Bool (nat_le band 255)) [
  | inl e ↦ rw (e) (call_answer Enough p caller (calls.Flush what (Some (record { 0 = band }))) account (rw (e) at h))
  | inr e ↦ rw (e) (record { line = refl; pair = refl })
]

named-same : {A : Type 0} (caller : Caller) (asked : A → Request) (named : Option A) (account : List Supply) (p : PlainPair)
    → (by_named caller asked named account p).is_short ≡ false → SameAnswer (by_named caller asked named account p) (by_named caller asked named [] p)
unfolding by_call
named-same caller asked None account p h = record { line = refl; pair = refl }
named-same caller asked (Some x) account p h = call_answer Enough p caller (asked x) account h

answered-same : (callers : Both Caller) (command : Command) (account : List Supply) (pair : Option PlainPair) → (answered callers command account pair).is_short ≡ false
    → SameAnswer (answered callers command account pair) (answered callers command [] pair)
unfolding answered by_call by_flush by_put by_get by_show by_ledger by_cut by_turn by_run
answered-same callers (Open blocks) account None h = open-same callers.master (unwrap_or blocks 256) account h
answered-same callers (Open blocks) account (Some p) h = record { line = refl; pair = refl }
answered-same callers (Call side asked) account None h = record { line = refl; pair = refl }
answered-same callers (Call side asked) account (Some p) h = call_answer Enough p (get side callers) asked account h
answered-same callers (Flush side what band) account None h = record { line = refl; pair = refl }
answered-same callers (Flush side what None) account (Some p) h = call_answer Enough p (get side callers) (calls.Flush what None) account h
answered-same callers (Flush side what (Some band)) account (Some p) h = flush-same (get side callers) what band account p h
answered-same callers (Put side prio control body) account None h = record { line = refl; pair = refl }
answered-same callers (Put side prio control body) account (Some p) h = named-same (get side callers) (λ prio. calls.Put prio control body) (prio_of prio) account p h
answered-same callers (Get side wanted cmax dmax) account None h = record { line = refl; pair = refl }
answered-same callers (Get side wanted cmax dmax) account (Some p) h = named-same (get side callers) (λ wanted. calls.Get wanted cmax dmax) (wanted_of wanted) account p h
answered-same callers (TurnOf name) account None h = record { line = refl; pair = refl }
answered-same callers (TurnOf name) account (Some p) h =
    let same = turn-same (next_of account) p name h in
    record { line = ap (λ (x : Happened Turn). turn_line x.answer) same; pair = ap (λ (x : Happened Turn). Some x.pair) same }
answered-same callers (Run n) account None h = record { line = refl; pair = refl }
answered-same callers (Run n) account (Some p) h =
    let same = turns-same n account p h in
    record { line = ap Ran same.count; pair = ap Some same.pair }
answered-same callers (Show side) account None h = record { line = refl; pair = refl }
answered-same callers (Show side) account (Some p) h = record { line = refl; pair = refl }
answered-same callers (Ledger direction) account None h = record { line = refl; pair = refl }
answered-same callers (Ledger direction) account (Some p) h = record { line = refl; pair = refl }
answered-same callers Cut account None h = record { line = refl; pair = refl }
answered-same callers Cut account (Some p) h = record { line = refl; pair = refl }
answered-same callers (Group caller) account pair h = record { line = refl; pair = refl }

-- a line with a command, and the same line where the events get their blocks
told_spoken : (n : ℕ) (account : List Supply) (session : Session) (line : List ℕ) (lines : List (List ℕ)) (command : Command) → reading line ≡ Spoken command
    → told_from n account session (line ∷ lines)
    ≡ told_after (printed_line (answered session.callers command account session.pair).line) (line_if (answered session.callers command account session.pair).is_short n)
    (told_from (suc n) (answered session.callers command account session.pair).account (session_behind command session (answered session.callers command account session.pair).pair) lines)
unfolding told_from
told_spoken n account session line lines command e = rw (e, told_from) refl

told_plain : (n : ℕ) (account : List Supply) (session : Session) (line : List ℕ) (lines : List (List ℕ)) (command : Command) → reading line ≡ Spoken command
    → (answered session.callers command account session.pair).is_short ≡ false
    → told_from n [] session (line ∷ lines)
    ≡ told_after (printed_line (answered session.callers command account session.pair).line) None (told_from (suc n) [] (session_behind command session (answered session.callers command account session.pair).pair) lines)
told_plain n account session line lines command e h =
    let same = answered-same session.callers command account session.pair h in
    let enough = answered-enough session.callers command session.pair in
    told_spoken n [] session line lines command e
    ∙ (λ i. told_after (printed_line (sym same.line i)) (line_if (enough.not_short i) n) (told_from (suc n) (enough.none_left i) (session_behind command session (sym same.pair i)) lines))

told_silent : (n : ℕ) (account : List Supply) (session : Session) (line : List ℕ) (lines : List (List ℕ)) → reading line ≡ Silent
    → told_from n account session (line ∷ lines) ≡ told_from (suc n) account session lines
unfolding told_from
told_silent n account session line lines e = rw (e, told_from) refl

told_malformed : (n : ℕ) (account : List Supply) (session : Session) (line : List ℕ) (lines : List (List ℕ)) → reading line ≡ Malformed
    → told_from n account session (line ∷ lines) ≡ record { text = printed_line (Wrong n); short = None; fault = Some n }
unfolding told_from
told_malformed n account session line lines e = rw (e, told_from) refl

told_end : (n : ℕ) (account : List Supply) (session : Session) → told_from n account session [] ≡ record { text = []; short = None; fault = None }
unfolding told_from
told_end n account pair = refl

-- a first short line that isn't there
no_first : (b : Bool) (n : ℕ) (later : Option ℕ) → first_of (line_if b n) later ≡ None → (b ≡ false) × (later ≡ None)
no_first true n later h = absurd cc
no_first false n later h = (refl, h)

-- what lines come to that have no short line
abbrev Plain-behind : ℕ → List (List ℕ) → Type 0
Plain-behind n lines = (account : List Supply) (session : Session) → (told_from n account session lines).short ≡ None → told_from n account session lines ≡ told_from n [] session lines

told-line : (n : ℕ) (account : List Supply) (session : Session) (line : List ℕ) (lines : List (List ℕ)) (r : Reading) → reading line ≡ r → Plain-behind (suc n) lines
    → (told_from n account session (line ∷ lines)).short ≡ None → told_from n account session (line ∷ lines) ≡ told_from n [] session (line ∷ lines)
told-line n account session line lines Silent e later h =
    let all = told_silent n account session line lines e in
    all ∙ later account session (ap (λ (t : Told). t.short) (sym all) ∙ h) ∙ sym (told_silent n [] session line lines e)
told-line n account session line lines Malformed e later h = told_malformed n account session line lines e ∙ sym (told_malformed n [] session line lines e)
told-line n account session line lines (Spoken command) e later h =
    let here = answered session.callers command account session.pair in
    let all = told_spoken n account session line lines command e in
    let none = no_first here.is_short n _ (ap (λ (t : Told). t.short) (sym all) ∙ h) in
    all
    ∙ (λ i. told_after (printed_line here.line) (line_if (none.0 i) n) (later here.account (session_behind command session here.pair) none.1 i))
    ∙ sym (told_plain n account session line lines command e none.0)

pub told-same : (n : ℕ) (lines : List (List ℕ)) → Plain-behind n lines
told-same n [] account session h = told_end n account session ∙ sym (told_end n [] session)
told-same n (line ∷ lines) account session h = told-line n account session line lines (reading line) refl (told-same (suc n) lines) h

-- what lines come to before their first short line
pub record BeginsPlain (n k : ℕ) (session : Session) (lines : List (List ℕ)) (text : List ℕ) : Type 0 where
  pub rest : List ℕ
  pub above : n ≤ k
  pub text_is : text ≡ (told_from n [] session (take (k - n) lines)).text ++ rest

abbrev Front-behind : ℕ → ℕ → List (List ℕ) → Type 0
Front-behind k n lines = (account : List Supply) (session : Session) → (told_from n account session lines).short ≡ Some k → BeginsPlain n k session lines (told_from n account session lines).text

-- the first short line is this one, or a later one
first_cases : (b : Bool) (n k : ℕ) (later : Option ℕ) → first_of (line_if b n) later ≡ Some k → ((b ≡ true) × (n ≡ k)) ⊎ ((b ≡ false) × (later ≡ Some k))
first_cases true n k later h = inl (refl, cc)
first_cases false n k later h = inr (refl, h)

front-line : (k n : ℕ) (account : List Supply) (session : Session) (line : List ℕ) (lines : List (List ℕ)) (r : Reading) → reading line ≡ r → Front-behind k (suc n) lines
    → (told_from n account session (line ∷ lines)).short ≡ Some k → BeginsPlain n k session (line ∷ lines) (told_from n account session (line ∷ lines)).text
front-line k n account session line lines Silent e later h =
    let all = told_silent n account session line lines e in
    let x = later account session (ap (λ (t : Told). t.short) (sym all) ∙ h) in
    let left : k - n ≡ suc (k - suc n) = omega (arith, x.above) in
    record {
      rest = x.rest;
      above = omega (arith, x.above);
      text_is = ap (λ (t : Told). t.text) all ∙ x.text_is
          ∙ ap (λ (t : Told). t.text ++ x.rest) (sym (ap (λ m. told_from n [] session (take m (line ∷ lines))) left ∙ told_silent n [] session line (take (k - suc n) lines) e));
    }
front-line k n account session line lines Malformed e later h =
    let all = told_malformed n account session line lines e in
    let no : None ≡ Some k = ap (λ (t : Told). t.short) (sym all) ∙ h in
    absurd cc
front-line k n account session line lines (Spoken command) e later h =
    let here = answered session.callers command account session.pair in
    let all = told_spoken n account session line lines command e in
    elim (first_cases here.is_short n k _ (ap (λ (t : Told). t.short) (sym all) ∙ h)) [
      | inl now ↦
          let left : k - n ≡ 0 = omega (arith, now.1) in
          record {
            rest = (told_from n account session (line ∷ lines)).text;
            above = omega (arith, now.1);
            text_is = ap (λ (t : Told). t.text ++ (told_from n account session (line ∷ lines)).text)
                (sym (ap (λ m. told_from n [] session (take m (line ∷ lines))) left ∙ told_end n [] session));
          }
      | inr then ↦
          let x = later here.account (session_behind command session here.pair) then.1 in
          let left : k - n ≡ suc (k - suc n) = omega (arith, x.above) in
          let plain = ap (λ m. told_from n [] session (take m (line ∷ lines))) left ∙ told_plain n account session line (take (k - suc n) lines) command e then.0 in
          record {
            rest = x.rest;
            above = omega (arith, x.above);
            text_is = ap (λ (t : Told). t.text) all ∙ ap (λ t. printed_line here.line ++ t) x.text_is
                ∙ sym (append_assoc (printed_line here.line) _ x.rest) ∙ ap (λ (t : Told). t.text ++ x.rest) (sym plain);
          }
    ]

pub told-front : (k n : ℕ) (lines : List (List ℕ)) → Front-behind k n lines
told-front k n [] account session h =
    let no : None ≡ Some k = ap (λ (t : Told). t.short) (sym (told_end n account session)) ∙ h in
    absurd cc
told-front k n (line ∷ lines) account session h = front-line k n account session line lines (reading line) refl (told-front k (suc n) lines) h
