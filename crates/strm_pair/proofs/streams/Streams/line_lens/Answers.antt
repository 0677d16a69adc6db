-- The lines of the reader's modules are counted.
use Rattle.strm_pair.proofs.Prelude.{ℕ, length, ap, ◌≡◌, ◌∙◌, subst, sym, sum_by}
use Rattle.strm_pair.specs.Prelude.{Dir, inline, Stream}
use Rattle.strm_laws.specs.Stacked.{module_line}
use Rattle.strm_pair.specs.Pairs.{state_in}
use Rattle.strm_pair.proofs.streams.Streams.line_lens.Goals as goal

pub returns-in-MasterToSlave : goal.returns-in-MasterToSlave
returns-in-MasterToSlave c = λ s.
    subst (λ (dir : Dir). c.line_lens.result ≡ inline dir (state_in s c.args.self.now)) (sym c.in-MasterToSlave.is)
    (c.line_lens.ensures.lines s ∙ ap (λ (t : Stream ℕ). sum_by (λ p. length (module_line p)) t.modules) (c.end.ensures.stream s))

pub returns-in-SlaveToMaster : goal.returns-in-SlaveToMaster
returns-in-SlaveToMaster c = λ s.
    subst (λ (dir : Dir). c.line_lens-in-SlaveToMaster.result ≡ inline dir (state_in s c.args.self.now)) (sym c.in-SlaveToMaster.is)
    (c.line_lens-in-SlaveToMaster.ensures.lines s ∙ ap (λ (t : Stream ℕ). sum_by (λ p. length (module_line p)) t.modules) (c.end-in-SlaveToMaster.ensures.stream s))
