use Rattle.strm_image.specs.Texts.{messages_now}
use Rattle.strm_image.proofs.CountRows.{none_left}
use Rattle.strm_image.proofs.LoadRows.{counted_long}
use Rattle.strm_image.proofs.passed.MessagesText.is_empty.Goals as goal

pub returns : goal.returns
returns c =
    let ms = c.args.self.now in
    none_left (messages_now ms) ms.count (counted_long ms.version ms.queue ms.count ms.text.now ms.load ms.there)
