use Rattle.strm_script.proofs.Prelude.{◌≡◌, ℕ, Bool, true, false, cond, List, [], ◌∷◌, ◌++◌, length, map, Option, None, Some, is_some, ap, sym, refl}
use Rattle.strm_script.proofs.Prelude.{◌∙◌}
use Rattle.strm_script.specs.Prelude.{Both, Caller, QueueName, Up, Down, place_named, get, head_of, driver_of, State, stream, Side}
use Rattle.strm_script.specs.Prelude.{FlushQueues, Request, Einval, PairState}
use Rattle.strm_types.specs.declared.names.ModuleName.TheVariants as modules
use Rattle.strm_types.specs.declared.names.Place.TheVariants as places
use Rattle.strm_script.specs.ScriptAnswers.{Sizes}
use Rattle.strm_script.specs.Script.{Call, Flush, Put, Get, Cut}
use Rattle.strm_script.specs.declared.commands.NamedPrio.{NamedPrio}
use Rattle.strm_script.specs.declared.commands.NamedWanted.{NamedWanted}
use Rattle.strm_script.specs.ScriptRun.{PlainPair, answered, by_call, by_flush, by_put, by_get, by_show, by_ledger, by_cut, queues_down, size_at}
use Rattle.strm_script.specs.Commands.{command_of}
use Rattle.strm_script.specs.Plain.{plain}
use Rattle.strm_script.specs.Lines.{line_of, module_sizes, sizes_of}
use Rattle.strm_script.specs.Outcomes.{LeadsTo}
use Rattle.strm_script.specs.declared.outcomes.Answered.{Answered}
use Rattle.strm_script.specs.declared.commands.Command.{Command}
use Rattle.strm_script.proofs.Events.{leads_unanswered, leads_looked, leads_same}
use Rattle.strm_laws.specs.Pair.{restarted}
use Rattle.strm_script.specs.declared.answers.Line.TheVariants.{Entries}
use Rattle.strm_script.proofs.obeying.on_pair.Goals as goal

-- a command that is known
known : (callers : Both Caller) (bytes : List ℕ) (command said : Command) (found : Answered) (old new : Option PlainPair) → command ≡ said
    → LeadsTo (λ account. answered callers (command_of said) account old) found bytes new
    → LeadsTo (λ account. answered callers (command_of command) account old) found bytes new
known callers bytes command said found old new e h =
    leads_same bytes (λ account. answered callers (command_of command) account old) (λ account. answered callers (command_of said) account old) new found
    (λ account. ap (λ x. answered callers (command_of x) account old) e) h

pub returns-in-Open : goal.returns-in-Open
unfolding answered
returns-in-Open g c = known _ _ _ _ _ _ _ c.in-Open.is (leads_unanswered _ _ Einval _ _ c.refused.ensures (λ account. refl))

-- a call
makes : (callers : Both Caller) (caller : Caller) (bytes : List ℕ) (side : Side) (event asked : Request) (found : Answered) (old : PlainPair) (new : Option PlainPair) → caller ≡ get side callers → asked ≡ event
    → LeadsTo (λ account. by_call caller asked account old) found bytes new
    → LeadsTo (λ account. answered callers (Call side event) account (Some old)) found bytes new
unfolding answered
makes callers caller bytes side event asked found old new who e h =
    leads_same bytes (λ account. answered callers (Call side event) account (Some old)) (λ account. by_call caller asked account old) new found
    (λ account. (λ i. by_call (sym who i) (sym e i) account old)) h

pub returns-in-Call : goal.returns-in-Call
returns-in-Call g c = known _ _ _ _ _ _ _ c.in-Call.is (makes _ _ _ _ _ _ _ _ _ c.get.ensures c.lend.ensures c.call.ensures)

pub returns-in-Turn : goal.returns-in-Turn
unfolding answered
returns-in-Turn g c = known _ _ _ _ _ _ _ c.in-Turn.is (c.turn.ensures _)

pub returns-in-Run : goal.returns-in-Run
unfolding answered
returns-in-Run g c = known _ _ _ _ _ _ _ c.in-Run.is (c.run.ensures _)

-- a flush
flushes : (callers : Both Caller) (caller : Caller) (bytes : List ℕ) (side : Side) (what : FlushQueues) (band : Option ℕ) (found : Answered) (old : PlainPair) (new : Option PlainPair) → caller ≡ get side callers
    → LeadsTo (λ account. by_flush caller what band account old) found bytes new
    → LeadsTo (λ account. answered callers (Flush side what band) account (Some old)) found bytes new
unfolding answered
flushes callers caller bytes side what band found old new who h =
    leads_same bytes (λ account. answered callers (Flush side what band) account (Some old)) (λ account. by_flush caller what band account old) new found
    (λ account. ap (λ x. by_flush x what band account old) (sym who)) h

pub returns-in-Flush : goal.returns-in-Flush
returns-in-Flush g c = known _ _ _ _ _ _ _ c.in-Flush.is (flushes _ _ _ _ _ _ _ _ _ c.get-in-Flush.ensures c.flush.ensures)

-- a look, by whether a module with queues stands there
shown : (side : Side) (s : State ℕ) → Sizes side (size_at s (head_of side) ∷ (sizes_of (module_sizes side s) ++ size_at s (driver_of side) ∷ []))
    ≡ Sizes side (map (size_at s) (queues_down side s))
shown side s = by (is_some (place_named (places.Module modules.Ldterm) (stream side s).modules))
  where
    up : QueueName
    up = record { side = side; place = places.Module modules.Ldterm; way = Up }

    down : QueueName
    down = record { side = side; place = places.Module modules.Ldterm; way = Down }

    by : (stands : Bool) → Sizes side (size_at s (head_of side) ∷ (sizes_of (cond stands (Some (record { up = size_at s up; down = size_at s down })) None) ++ size_at s (driver_of side) ∷ []))
        ≡ Sizes side (map (size_at s) (head_of side ∷ (cond stands (up ∷ down ∷ []) [] ++ driver_of side ∷ [])))
    by true = refl
    by false = refl

pub returns-in-Show : goal.returns-in-Show
unfolding answered by_show
returns-in-Show g c = known _ _ _ _ _ _ _ c.in-Show.is
    (leads_looked _ _ _ _ (λ account.
    ap (λ line. record { line = line; pair = Some (plain c.args.pair.now); account = account; is_short = false }) (sym (shown c.in-Show.side c.args.pair.now.state))
    ∙ ap (λ (x : Answered). record { line = line_of c.args.out.now.items x.line; pair = Some (plain c.args.pair.now); account = account; is_short = x.short }) (sym c.show.ensures)))

pub returns-in-Ledger : goal.returns-in-Ledger
unfolding answered by_ledger
returns-in-Ledger g c = known _ _ _ _ _ _ _ c.in-Ledger.is
    (leads_looked _ _ _ _ (λ account.
    ap (λ (x : Answered). record { line = line_of c.args.out.now.items x.line; pair = Some (plain c.args.pair.now); account = account; is_short = x.short }) (sym c.ledger.ensures)))

-- a journal that begins anew
cuts : (callers : Both Caller) (bytes : List ℕ) (found : Answered) (old new : PairState) → found ≡ record { line = Entries (length old.journal); short = false } → new ≡ restarted old
    → LeadsTo (λ account. answered callers Cut account (Some (plain old))) found bytes (Some (plain new))
unfolding answered by_cut
cuts callers bytes found old new line pair =
    leads_looked _ _ _ _ (λ account.
    ap (λ (x : Answered). record { line = line_of bytes x.line; pair = Some (plain (restarted old)); account = account; is_short = x.short }) (sym line)
    ∙ ap (λ p. record { line = line_of bytes found.line; pair = Some (plain p); account = account; is_short = found.short }) (sym pair))

pub returns-in-Cut : goal.returns-in-Cut
returns-in-Cut g c = known _ _ _ _ _ _ _ c.in-Cut.is (cuts _ _ _ c.args.pair.now _ c.cut.ensures.line c.cut.ensures.pair)

-- a put, whose parts are lent
puts : (callers : Both Caller) (caller : Caller) (bytes : List ℕ) (side : Side) (prio : NamedPrio) (control body asked_control asked_body : Option (List ℕ)) (found : Answered) (old : PlainPair) (new : Option PlainPair)
    → caller ≡ get side callers → asked_control ≡ control → asked_body ≡ body
    → LeadsTo (λ account. by_put caller prio asked_control asked_body account old) found bytes new
    → LeadsTo (λ account. answered callers (Put side prio control body) account (Some old)) found bytes new
unfolding answered
puts callers caller bytes side prio control body asked_control asked_body found old new who c d h =
    leads_same bytes (λ account. answered callers (Put side prio control body) account (Some old)) (λ account. by_put caller prio asked_control asked_body account old) new found
    (λ account. (λ i. by_put (sym who i) prio (sym c i) (sym d i) account old)) h

pub returns-in-Put : goal.returns-in-Put
returns-in-Put g c = known _ _ _ _ _ _ _ c.in-Put.is (puts _ _ _ _ _ _ _ _ _ _ _ _ c.get-in-Put.ensures c.lend-in-Put.ensures c.lend-in-Put-2.ensures c.put.ensures)

-- a get
gets : (callers : Both Caller) (caller : Caller) (bytes : List ℕ) (side : Side) (wanted : NamedWanted) (cmax dmax : ℕ) (found : Answered) (old : PlainPair) (new : Option PlainPair) → caller ≡ get side callers
    → LeadsTo (λ account. by_get caller wanted cmax dmax account old) found bytes new
    → LeadsTo (λ account. answered callers (Get side wanted cmax dmax) account (Some old)) found bytes new
unfolding answered
gets callers caller bytes side wanted cmax dmax found old new who h =
    leads_same bytes (λ account. answered callers (Get side wanted cmax dmax) account (Some old)) (λ account. by_get caller wanted cmax dmax account old) new found
    (λ account. ap (λ x. by_get x wanted cmax dmax account old) (sym who)) h

pub returns-in-Get : goal.returns-in-Get
returns-in-Get g c = known _ _ _ _ _ _ _ c.in-Get.is (gets _ _ _ _ _ _ _ _ _ _ c.get-in-Get.ensures c.get-in-Get-2.ensures)

pub returns-in-Group : goal.returns-in-Group
unfolding answered
returns-in-Group g c = known _ _ _ _ _ _ _ c.in-Group.is
    (leads_looked _ _ _ _ (λ account. ap (λ (x : Answered). record { line = line_of c.args.out.now.items x.line; pair = Some (plain c.args.pair.now); account = account; is_short = x.short }) (sym c.done.ensures)))
