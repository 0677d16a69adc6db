use Rattle.std.proofs.Common.{sym, ◌∙◌}
use Rattle.strm_image.specs.Texts.{parts_now}
use Rattle.strm_image.proofs.LoadRows.{ioctl_blocks, part_blocks_added}
use Rattle.strm_image.proofs.messages.MessageText.blocks.Goals as goal

pub returns-then-is_ioctl_kind-clause-value : goal.returns-then-is_ioctl_kind-clause-value
returns-then-is_ioctl_kind-clause-value c = rw (c.begun.ensures.value, c.length_of.ensures) (ioctl_blocks c.args.version (parts_now c.args.self.now) c.requires.fits (sym c.is_ioctl_kind.ensures ∙ c.if-is_ioctl_kind.true))

pub returns-else-is_ioctl_kind-clause-value : goal.returns-else-is_ioctl_kind-clause-value
returns-else-is_ioctl_kind-clause-value c = rw (c.part_blocks.ensures.value, c.part_blocks-else-is_ioctl_kind.ensures.value) (part_blocks_added c.args.version (parts_now c.args.self.now) c.requires.fits (sym c.is_ioctl_kind.ensures ∙ c.if-is_ioctl_kind.false))
