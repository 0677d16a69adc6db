use Rattle.std.proofs.Common.{◌∙◌}
use Rattle.strm_image.proofs.TextRows.{names_stand}
use Rattle.strm_image.proofs.modules.stands.Goals as goal

pub returns : goal.returns
returns c = c.has_name.ensures ∙ names_stand c.args.name c.args.found.now
