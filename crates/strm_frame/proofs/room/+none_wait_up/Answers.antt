-- Nothing waits at the first module, nor at the rest.
use Rattle.strm_frame.proofs.Prelude.{◌≡◌, Bool, true, false, map, ap, subst, sym, ◌∙◌, ◌||◌, not}
use Rattle.strm_frame.specs.Prelude.{Up, messages_at}
use Rattle.std.proofs.Common.{rules}
use Rattle.std.specs.List.{AllByRecursion, list_any}
use Rattle.strm_types.specs.Refused.{has_no_data}
use Rattle.strm_frame.specs.Standings.{standing_in, Fits}
use Rattle.strm_frame.proofs.room.+none_wait_up.Goals as goal

none-more : (said first found others : Bool) → said ≡ first → said ≡ true → found ≡ not others → found ≡ not (not first || others)
none-more said first found others is so same = same ∙ sym (ap (λ b. not (not b || others)) (sym is ∙ so))

one-waits : (said first others : Bool) → said ≡ first → said ≡ false → said ≡ not (not first || others)
one-waits said first others is so = so ∙ sym (ap (λ b. not (not b || others)) (sym is ∙ so))

pub none_wait_up-requires : goal.none_wait_up-requires
none_wait_up-requires g t c =
    let more : AllByRecursion (Fits g.M.Module.IsHeld (g.B.Blocks.value c.args.store.now)) c.in-Some.rest.now =
    (subst (AllByRecursion (Fits g.M.Module.IsHeld (g.B.Blocks.value c.args.store.now))) c.in-Some.ensures.cases.0 c.requires).1 in
    search (rules, more) steps 1000000

pub returns-then-none_waits_up : goal.returns-then-none_waits_up
returns-then-none_waits_up g t c =
    let w = g.M.Module in
    let s = g.B.Blocks.value c.args.store.now in
    none-more c.none_waits_up.result (has_no_data (messages_at Up (standing_in w.plain s c.in-Some.first.now))) c.none_wait_up.result (list_any (λ p. not (has_no_data (messages_at Up p))) (map (standing_in w.plain s) c.in-Some.rest.now))
    c.none_waits_up.ensures c.if-none_waits_up.true c.none_wait_up.ensures
    ∙ ap (λ xs. not (list_any (λ p. not (has_no_data (messages_at Up p))) (map (standing_in w.plain s) xs))) (sym c.in-Some.ensures.cases.0)

pub returns-else-none_waits_up : goal.returns-else-none_waits_up
returns-else-none_waits_up g t c =
    let w = g.M.Module in
    let s = g.B.Blocks.value c.args.store.now in
    one-waits c.none_waits_up.result (has_no_data (messages_at Up (standing_in w.plain s c.in-Some.first.now))) (list_any (λ p. not (has_no_data (messages_at Up p))) (map (standing_in w.plain s) c.in-Some.rest.now))
    c.none_waits_up.ensures c.if-none_waits_up.false
    ∙ ap (λ xs. not (list_any (λ p. not (has_no_data (messages_at Up p))) (map (standing_in w.plain s) xs))) (sym c.in-Some.ensures.cases.0)
