use Rattle.std.proofs.Common.{sym, ◌∙◌}
use Rattle.strm_image.specs.Texts.{parts_now}
use Rattle.strm_image.proofs.LoadRows.{cells_added, no_cells}
use Rattle.strm_image.proofs.messages.MessageText.cells.Goals as goal

pub returns-then-is_data_kind-clause-value : goal.returns-then-is_data_kind-clause-value
returns-then-is_data_kind-clause-value c = rw (c.length_of.ensures, c.length_of-then-is_data_kind.ensures) (cells_added c.args.version (parts_now c.args.self.now) c.requires.fits (sym c.is_data_kind.ensures ∙ c.if-is_data_kind.true))

pub returns-else-is_data_kind-clause-value : goal.returns-else-is_data_kind-clause-value
returns-else-is_data_kind-clause-value c = no_cells c.args.version (parts_now c.args.self.now) c.requires.fits (sym c.is_data_kind.ensures ∙ c.if-is_data_kind.false)
