use Rattle.std.proofs.Common.{ap}
use Rattle.strm_image.specs.declared.versions.Load.{Load}
use Rattle.strm_image.proofs.LoadRows.{load_kept}
use Rattle.strm_image.proofs.passed.MessagesText.blocks.Goals as goal

pub returns-clause-value : goal.returns-clause-value
returns-clause-value c =
    let ms = c.args.self.now in
    ap (λ (l : Load). l.blocks) (load_kept ms.version ms.queue ms.count ms.text.now ms.load ms.there)
