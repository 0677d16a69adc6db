use Rattle.strm_script.proofs.Prelude.{◌≡◌, ℕ, false, List, Option, None, ap, sym, refl, ◌∙◌, unwrap_or, option_map, IfOk-weaker}
use Rattle.strm_script.specs.Prelude.{Both, Caller, Enxio, PairState, Done as Nothing}
use Rattle.strm_script.specs.ScriptRun.{Supply, PlainPair, answered, unanswered, by_open}
use Rattle.strm_script.specs.Commands.{command_of}
use Rattle.strm_script.specs.Plain.{plain}
use Rattle.strm_script.specs.Lines.{line_of}
use Rattle.strm_script.specs.declared.answers.Line.TheVariants.{Done}
use Rattle.strm_script.specs.Outcomes.{LeadsTo}
use Rattle.strm_script.specs.declared.outcomes.Answered.{Answered}
use Rattle.strm_script.specs.declared.commands.Command.{Command}
use Rattle.strm_script.specs.declared.commands.Command.TheVariants.{Open, Call, Flush, Put, Get, Turn, Run, Show, Ledger, Cut, Group}
use Rattle.strm_script.proofs.Events.{leads_unanswered, leads_looked, leads_same}
use Rattle.strm_script.proofs.obeying.answer.Goals as goal

-- before `open` no other command is answered
closed : (callers : Both Caller) (command : Command) → ((blocks : Option ℕ) → command ≡ Open blocks → ⊥) → ((caller : Caller) → command ≡ Group caller → ⊥) → (account : List Supply)
    → answered callers (command_of command) account None ≡ unanswered Enxio None account
unfolding answered
closed callers (Open blocks) h other account = absurd (h blocks refl)
closed callers (Call side event) h other account = refl
closed callers (Flush side what band) h other account = refl
closed callers (Put side prio control body) h other account = refl
closed callers (Get side wanted cmax dmax) h other account = refl
closed callers (Turn name) h other account = refl
closed callers (Run turns) h other account = refl
closed callers (Show side) h other account = refl
closed callers (Ledger direction) h other account = refl
closed callers Cut h other account = refl
closed callers (Group caller) h other account = absurd (other caller refl)

pub returns-in_default-command : goal.returns-in_default-command
returns-in_default-command g c = record {
  ok = rw c.in_default.is
      (leads_unanswered _ (λ account. answered c.args.callers.now (command_of c.args.command.now) account None) Enxio None c.refused.result c.refused.ensures
      (closed c.args.callers.now c.args.command.now c.in_default-command.not-Open c.in_default-command.not-Group));
  err = tt;
}

-- an `open` with the blocks that it names, or as many as is usual
opens : (callers : Both Caller) (bytes : List ℕ) (command : Command) (pair : Option PairState) (new : Option PlainPair) (blocks : Option ℕ) (n : ℕ) (found : Answered)
    → command ≡ Open blocks → pair ≡ None → n ≡ unwrap_or blocks 256 → LeadsTo (λ account. by_open callers.master n account) found bytes new
    → LeadsTo (λ account. answered callers (command_of command) account (option_map plain pair)) found bytes new
unfolding answered
opens callers bytes command pair new blocks n found said none count h =
    leads_same bytes (λ account. answered callers (command_of command) account (option_map plain pair)) (λ account. by_open callers.master n account) new found
    (λ account. (λ i. answered callers (command_of (said i)) account (option_map plain (none i))) ∙ ap (λ k. by_open callers.master k account) (sym count)) h

pub returns-in-Open-clause-ok : goal.returns-in-Open-clause-ok
returns-in-Open-clause-ok g c =
    IfOk-weaker c.open.result _ _
    (λ found h. opens c.args.callers.now _ c.args.command.now c.args.pair.now _ c.in-Open.blocks c.unwrap_or-blocks.result found c.in-Open.is c.in_default.is c.unwrap_or-blocks.ensures h)
    c.open.ensures.ok

-- another caller, before there is a pair
groups : (callers : Both Caller) (bytes : List ℕ) (command : Command) (pair : Option PairState) (caller : Caller) (found : Answered)
    → command ≡ Group caller → found ≡ record { line = Done Nothing; short = false }
    → LeadsTo (λ account. answered callers (command_of command) account (option_map plain pair)) found bytes (option_map plain pair)
unfolding answered
groups callers bytes command pair caller found said done =
    leads_looked bytes (λ account. answered callers (command_of command) account (option_map plain pair)) (option_map plain pair) found
    (λ account. ap (λ x. answered callers (command_of x) account (option_map plain pair)) said
    ∙ ap (λ (x : Answered). record { line = line_of bytes x.line; pair = option_map plain pair; account = account; is_short = x.short }) (sym done))

pub returns-in-Group : goal.returns-in-Group
returns-in-Group g c = record {
  ok = groups c.args.callers.now _ c.args.command.now c.args.pair.now c.in-Group.caller c.done.result c.in-Group.is c.done.ensures;
  err = tt;
}
