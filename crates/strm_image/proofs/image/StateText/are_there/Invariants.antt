use Rattle.std.proofs.Common.{◌≡◌, drop}
use Rattle.std.specs.List.{list_all}
use Rattle.strm_image.specs.Image.{is_there}
use Rattle.strm_image.specs.ImageTexts.{imaged_now}
use Rattle.strm_image.proofs.image.StateText.are_there.Given as goal

abbrev pub invariant-loop-name : goal.invariant-loop-name
invariant-loop-name l = list_all (is_there (imaged_now l.self).state) (drop l.name-index l.self.enabled.items) ≡ list_all (is_there (imaged_now l.self).state) l.self.enabled.items
