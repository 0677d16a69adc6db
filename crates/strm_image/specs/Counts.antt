-- What the messages of a stream take and hold, and that this is what the ledger of a direction counts.
use Rattle.std.specs.Prelude.{ℕ, ◌+◌, ◌==◌, Bool, List, length}
use Rattle.std.specs.List.{sum, sum_by}
use Rattle.strm_image.specs.Prelude.{Way, Up, Down, Message, messages_at, Queue, Standing, module_line, module_queues}
use Rattle.strm_image.specs.Image.{Account}
use Rattle.strm_image.specs.Loads.{blocks_of, counted_of}
use Rattle.strm_image.specs.Streams.{Laid}

-- the bytes of messages that a ledger counts
abbrev pub counted_in : List (Message ℕ) → ℕ
counted_in ms = sum_by counted_of ms

-- what those of a way hold at a module
abbrev pub cells_at : Way → Standing ℕ → ℕ
cells_at way p = counted_in (messages_at way p)

-- those that stand on the queues of a stream on the way up, on the way down, and in its unfinished lines
abbrev pub up_cells : Laid → ℕ
up_cells t = counted_in t.head.queue.messages + sum_by (cells_at Up) t.modules

abbrev pub down_cells : Laid → ℕ
down_cells t = sum_by (cells_at Down) t.modules + counted_in t.driver.messages

abbrev pub inline_cells : Laid → ℕ
inline_cells t = sum_by (λ p. length (module_line p)) t.modules

-- how many blocks of each kind the messages of a queue, of a module and of a stream take
abbrev pub queue_blocks : Queue ℕ → ℕ
queue_blocks q = sum_by blocks_of q.messages

abbrev pub module_blocks : Standing ℕ → ℕ
module_blocks p = sum_by queue_blocks (module_queues p)

abbrev pub laid_blocks : Laid → ℕ
laid_blocks t = queue_blocks t.head.queue + (sum_by module_blocks t.modules + queue_blocks t.driver)

-- what was written and made in a direction stands on the writer's way down, on its reader's way up or in its reader's lines, or has gone
abbrev pub balances : Account → Laid → Laid → Bool
balances a from to = a.book.written + a.book.made == (down_cells from + up_cells to) + inline_cells to + sum a.fates
