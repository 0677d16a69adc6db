-- An image in a text, seen as a plain value.
use Rattle.strm_image.specs.declared.image.ImageText.{ImageText}
use Rattle.strm_image.specs.declared.image.StateText.{StateText}
use Rattle.strm_image.specs.declared.versions.Version.{Version}
use Rattle.strm_image.specs.AccountTexts.{account_now}
use Rattle.strm_image.specs.Image.{Imaged, imaged_of}
use Rattle.strm_image.specs.StreamTexts.{laid_now}

abbrev pub imaged_now : StateText → Imaged
imaged_now s = imaged_of (s.opened.master, (s.opened.slave, (s.locked, (s.next_ioctl, (laid_now s.streams.master, (laid_now s.streams.slave, (s.enabled.items, (account_now s.accounts.master, account_now s.accounts.slave))))))))

abbrev pub image_now : ImageText → Version × Imaged
image_now i = (i.version, imaged_now i.state)
