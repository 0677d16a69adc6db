-- Modules in a text, seen as plain values.
use Rattle.std.specs.Prelude.{ℕ, List, map, Option, option_map}
use Rattle.strm_image.specs.Prelude.{Ldterm, ModuleName, Ptem, QueuePair, Module, OfLdterm, OfPtem, OfPckt, Standing, module_name, new_pckt, stood}
use Rattle.strm_image.specs.declared.modules.KindText.{KindText}
use Rattle.strm_image.specs.declared.modules.KindText.TheVariants as texts
use Rattle.strm_image.specs.declared.modules.LdtermText.{LdtermText}
use Rattle.strm_image.specs.declared.modules.ModuleText.{ModuleText}
use Rattle.strm_image.specs.declared.modules.PtemText.{PtemText}
use Rattle.strm_image.specs.declared.modules.QueuesText.{QueuesText}
use Rattle.strm_image.specs.Modules.{ldterm_of, own_of, pair_of, ptem_of}
use Rattle.strm_image.specs.QueueTexts.{queue_now}

-- what a module is by itself
abbrev pub ldterm_now : LdtermText → Ldterm ℕ
ldterm_now l = ldterm_of (l.termios, (l.stopped, (l.after_lnext, (l.column, l.line.now))))

abbrev pub ptem_now : PtemText → Ptem
ptem_now p = ptem_of (p.termios, p.window)

abbrev pub kind_now : KindText → Module ℕ
kind_now (texts.Ldterm l) = OfLdterm (ldterm_now l)
kind_now (texts.Ptem p) = OfPtem (ptem_now p)
kind_now texts.Pckt = OfPckt new_pckt
kind_now (texts.Own o) = own_of o.number o.settings.now

-- its queues, where it has any
abbrev pub pair_now : QueuesText → QueuePair ℕ
pair_now q = pair_of (queue_now q.read, queue_now q.write)

abbrev pub own_pair_now : Option QueuesText → Option (QueuePair ℕ)
own_pair_now queues = option_map pair_now queues

abbrev pub module_now : ModuleText → Standing ℕ
module_now m = stood (kind_now m.kind) (own_pair_now m.queues)

abbrev pub modules_now : List ModuleText → List (Standing ℕ)
modules_now ms = map module_now ms

abbrev pub names_now : List ModuleText → List ModuleName
names_now ms = map (λ m. module_name (module_now m)) ms
