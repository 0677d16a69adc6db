-- Its settings and both queues are its text.
use Rattle.strm_pair.proofs.Prelude.{sym, ap, subst, ◌∙◌, IfSome}
use Rattle.strm_pair.specs.Prelude.{Second, module_format, queue, put, queue_in, IsPairReady, standing, HasInHand}
use Rattle.strm_pair.specs.Prelude.{OfLdterm, own_in, standing_in}
use Rattle.strm_image.specs.declared.versions.QueueKind.TheVariants as queues
use Rattle.strm_laws.specs.Stacked.{of_kind}
use Rattle.strm_pair.proofs.RestTexts.{ldterm_written}
use Rattle.strm_pair.proofs.images.modules.put_ldterm.Goals as goal

pub unreachable-requires : goal.unreachable-requires
unreachable-requires g c = subst (HasInHand (g.B.Blocks.value c.args.store.now) c.args.ldterm.now) c.in_default.is c.requires.held.itself

pub put_queue-out-requires : goal.put_queue-out-requires
put_queue-out-requires g c =
    let s = g.B.Blocks.value c.args.store.now in
    let ready : IsPairReady s c.in-Some.pair = subst (λ o. IfSome o (IsPairReady s)) c.in-Some.is c.requires.held.queues in
    ready.read

pub put_queue-requires : goal.put_queue-requires
put_queue-requires g c =
    let s = g.B.Blocks.value c.args.store.now in
    let ready : IsPairReady s c.in-Some.pair = subst (λ o. IfSome o (IsPairReady s)) c.in-Some.is c.requires.held.queues in
    ready.write

pub returns : goal.returns
returns g c =
    let s = g.B.Blocks.value c.args.store.now in
    let x = c.args.ldterm.now in
    let pair = c.in-Some.pair in
    c.put_queue.ensures ∙ ap (put ((queue Second queues.ModuleWrite).text (queue_in s pair.write)))
    (c.put_queue-out.ensures ∙ ap (put ((queue Second queues.ModuleRead).text (queue_in s pair.read))) (c.put_line_modes.ensures s))
    ∙ ldterm_written s x pair c.args.out
    ∙ ap (λ o. put ((module_format Second).text (of_kind OfLdterm (standing_in own_in s (standing x o)))) c.args.out) (sym c.in-Some.is)
