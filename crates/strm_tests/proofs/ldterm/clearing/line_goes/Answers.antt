-- It fits whatever its line is.
use Rattle.strm_tests.proofs.ldterm.clearing.line_goes.Goals as goal

pub clear-popped-requires-clause-held : goal.clear-popped-requires-clause-held
clear-popped-requires-clause-held g c =
    let s = g.B.Blocks.value c.args.store.now in
    let own = c.new-module.ensures.held s c.new.result in
    c.let_wait-2.ensures.held s (c.let_wait.ensures.held s (record {
      queues = c.new.ensures.ready s c.requires.read c.requires.write;
      itself = record { work = own.work; gathers = own.gathers; echoes = own.echoes; once_each = own.once_each };
    }))
