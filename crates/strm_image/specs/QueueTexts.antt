-- A queue in a text, seen as a plain value.
use Rattle.std.specs.Prelude.{ℕ}
use Rattle.strm_types.specs.Queue.{Queue}
use Rattle.strm_image.specs.declared.queues.QueueText.{QueueText}
use Rattle.strm_image.specs.Texts.{flows_now, messages_now}

abbrev pub queue_now : QueueText → Queue ℕ
queue_now q = record { messages = messages_now q.messages; flows = flows_now q.flows; want_read = q.want_read; no_enable = q.no_enable }
