-- By its kind, or else by its command.
use Rattle.strm_ldterm.proofs.Prelude.{sym, ap, ◌∙◌, ◌||◌, kind-is}
use Rattle.strm_ldterm.specs.Prelude.{goes_behind, waits_there, in_hand, token, message_in}
use Rattle.strm_ldterm.proofs.puts.waits_on.Goals as goal

pub returns-then-waits_there : goal.returns-then-waits_there
returns-then-waits_there g c =
    let s = g.B.Blocks.value c.args.store.now in
    let i = token c.args.message.now in
    let there = ap waits_there (kind-is (in_hand s i) ∙ sym c.requires.kind) ∙ sym c.waits_there.ensures ∙ c.if-waits_there.true in
    c.if-waits_there.true ∙ ap (λ b. b || goes_behind c.args.way (message_in s i)) (sym there)

pub returns-else-waits_there : goal.returns-else-waits_there
returns-else-waits_there g c =
    let s = g.B.Blocks.value c.args.store.now in
    let i = token c.args.message.now in
    let there = ap waits_there (kind-is (in_hand s i) ∙ sym c.requires.kind) ∙ sym c.waits_there.ensures ∙ c.if-waits_there.false in
    c.goes_behind.ensures ∙ ap (λ b. b || goes_behind c.args.way (message_in s i)) (sym there)
