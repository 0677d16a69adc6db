-- What writers put, in pieces of the texts of the formats.
use Rattle.std.specs.Prelude.{ℕ, ◌<◌, Bool, true, false, List, [], ◌∷◌, ◌++◌, length, Option, None, Some}
use Rattle.strm_image.specs.Prelude.{Openness, Free, Waiting, Answered, Head, Discipline, Queue, QueuePair, PlainSlot}
use Rattle.strm_types.specs.declared.names.ModuleName.TheVariants as names
use Rattle.strm_image.specs.declared.versions.QueueKind.{QueueKind}
use Rattle.strm_image.specs.declared.versions.QueueKind.TheVariants as queues
use Rattle.strm_image.specs.declared.versions.Version.TheVariants.{Second}
use Rattle.strm_image.specs.Codes.{control_mode, flag, module_kind, openness, read_mode}
use Rattle.strm_image.specs.Format.{byte, bytes_of, counted, u32}
use Rattle.strm_image.specs.Image.{Imaged, account, enabled, laid_on, mark}
use Rattle.strm_image.specs.Messages.{messages}
use Rattle.strm_image.specs.Modules.{modules, termios}
use Rattle.strm_image.specs.Queues.{flags, flows, queue}
use Rattle.strm_image.specs.Streams.{Laid, head_bits, laid, signals, slot}

-- an answer whose length has 32 bits
abbrev pub IsShortSlot : PlainSlot → Type 0
IsShortSlot Free = Unit {0}
IsShortSlot (Waiting number command) = Unit {0}
IsShortSlot (Answered number command acked error body) = length body < 4294967296

-- a head without its queue
abbrev pub head_text : Bool → Head ℕ → List ℕ
head_text is_slave h =
    read_mode.text h.read_mode ++ (control_mode.text h.control_mode ++ ((head_bits is_slave).text (h.hung_up, (h.tostop, h.group)) ++ (signals.text h.signals ++ slot.text h.ioctl)))

-- a queue of version 2, the queues of a module where it has any, an ldterm behind its name, and a stream
abbrev pub queue_text : QueueKind → Queue ℕ → List ℕ
queue_text at q = flags.text (q.want_read, q.no_enable) ++ ((flows Second at).text q.flows ++ (messages Second at).text q.messages)

abbrev pub pair_text : Option (QueuePair ℕ) → List ℕ
pair_text None = []
pair_text (Some pair) = (queue Second queues.ModuleRead).text pair.read ++ (queue Second queues.ModuleWrite).text pair.write

abbrev pub ldterm_text : Discipline ℕ → List ℕ
ldterm_text l =
    module_kind.text names.Ldterm ++ (termios.text l.termios ++ (flag.text l.stopped ++ (flag.text l.after_lnext ++ (u32.text l.column ++ ((counted byte bytes_of).text l.line
    ++ ((queue Second queues.ModuleRead).text l.read_queue ++ (queue Second queues.ModuleWrite).text l.write_queue))))))

abbrev pub laid_text : Bool → Laid → List ℕ
laid_text is_slave t =
    head_text is_slave t.head ++ ((modules Second).text t.modules ++ ((queue Second queues.Head).text t.head.queue ++ (queue Second queues.Driver).text t.driver))

-- what stands in front of the streams
abbrev pub front_text : Openness → Openness → Bool → ℕ → List ℕ
front_text master slave locked next = mark ++ (2 ∷ (openness.text master ++ (openness.text slave ++ (flag.text locked ++ u32.text next))))

-- an image of version 2
abbrev pub image_text : Imaged → List ℕ
image_text x =
    front_text x.state.ends.master.opened x.state.ends.slave.opened x.state.locked x.state.next_ioctl
    ++ ((laid Second false).text (laid_on x.state.ends.master) ++ ((laid Second true).text (laid_on x.state.ends.slave) ++ (enabled.text x.state.enabled
    ++ (account.text (record { book = x.state.books.master; fates = x.fates.master }) ++ account.text (record { book = x.state.books.slave; fates = x.fates.slave })))))
