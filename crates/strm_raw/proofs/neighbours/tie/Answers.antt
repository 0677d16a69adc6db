use Rattle.strm_raw.proofs.Leading.{ties-by, count-stays}
use Rattle.strm_raw.proofs.neighbours.tie.Goals as goal

pub returns-clause-tied : goal.returns-clause-tied
returns-clause-tied c =
    ties-by c.args.memory.now c.lead_on.new.memory c.lead_back.new.memory c.args.ends.now c.lead_on.new.ends c.lead_back.new.ends c.args.before c.args.after c.requires.before c.requires.after c.lead_on.ensures c.lead_back.ensures

pub returns-clause-count : goal.returns-clause-count
returns-clause-count c =
    count-stays c.args.memory.now c.lead_on.new.memory c.lead_back.new.memory c.args.ends.now c.lead_on.new.ends c.lead_back.new.ends c.args.before c.args.after c.lead_on.ensures c.lead_back.ensures
