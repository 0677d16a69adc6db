-- Streams in a text, seen as plain values.
use Rattle.strm_types.specs.Slots.{map_slot}
use Rattle.strm_image.specs.declared.streams.HeadBits.{HeadBits}
use Rattle.strm_image.specs.declared.streams.StreamText.{StreamText}
use Rattle.strm_image.specs.ModuleTexts.{modules_now}
use Rattle.strm_image.specs.QueueTexts.{queue_now}
use Rattle.strm_image.specs.Streams as plain

abbrev pub bits_now : HeadBits → plain.HeadBits
bits_now b = (b.hung_up, (b.tostop, b.group))

abbrev pub laid_now : StreamText → plain.Laid
laid_now t = plain.laid_of (t.read_mode, (t.control_mode, (bits_now t.bits, (t.signals.now, (map_slot (λ b. b.now) t.slot, (modules_now t.modules.items, (queue_now t.head, queue_now t.driver)))))))
