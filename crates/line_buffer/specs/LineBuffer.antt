-- A line buffer: what is written waits on its write queue until a line is whole, 128 bytes stand there, or an M_IOCTL waits behind it (setvbuf(3C):
-- line buffered; STREAMS Programming Guide, "Message Queues", "Service Procedures").
use Rattle.std.proofs.Common.{ℕ, ◌≡◌, Bool, true, false, List, [], refl, arith}
use Rattle.std.proofs.lemmas.Bool.Decides.{nat_tests}
use Rattle.std.specs.List.{list_any}
use Rattle.std.specs.Prelude.{◌==◌, ◌&&◌, ◌||◌, nat_le}
use Rattle.strm_types.specs.declared.kinds.MsgKind.{MsgKind}
use Rattle.strm_types.specs.declared.names.Way.{Way}
use Rattle.strm_types.specs.declared.names.Way.TheVariants.{Up, Down}
use Rattle.strm_types.specs.Commands.{is_ioctl}
use Rattle.strm_types.specs.Input.{is_data}
use Rattle.strm_types.specs.declared.names.ModuleName.TheVariants as modules
use Rattle.strm_types.specs.Names.{have_queues}
use Rattle.strm_types.specs.Message.{Message}
use Rattle.strm_types.specs.Queue.{bytes_of}
use Rattle.strm_laws.specs.Behaviours.{Behaviour, GoodOwn, passes_all}
use Rattle.strm_laws.proofs.NoOwn.{passes-put}
use Rattle.strm_own.specs.Looking.{has_byte}
use Rattle.line_buffer.specs.declared.TheConstants.{LINE_BUFFER, LINE_END, MOST}

abbrev pub is_down : Way → Bool
is_down Down = true
is_down Up = false

-- what waits: M_DATA, and M_IOCTL behind it
abbrev pub waits : MsgKind → Bool
waits kind = is_data kind || is_ioctl kind

-- whether messages go on that stand there
abbrev pub may_go : List (Message ℕ) → Bool
may_go ms = has_byte LINE_END ms || (nat_le MOST (bytes_of ms) || list_any (λ m. is_ioctl m.kind) ms)

pub buffer-good : (n : ℕ) → (n == LINE_BUFFER) ≡ true → GoodOwn (record { number = n; settings = [] })
buffer-good n is = let e : n ≡ LINE_BUFFER = grind (arith, nat_tests) in record { number = omega (arith, e); few = omega arith; bytes = tt }

-- and it has queues
pub buffer-queues : (n : ℕ) → (n == LINE_BUFFER) ≡ true → have_queues (modules.Own n) ≡ true → true ≡ true
buffer-queues n is has = refl

-- its number is 128; M_DATA and M_IOCTL on their way down wait, and all passes as it is
abbrev pub line_buffer : Behaviour
line_buffer = record {
  knows = λ n. n == LINE_BUFFER;
  fresh = λ n. [];
  puts = λ cells here m x. passes_all here m x;
  changes = false;
  holds = λ here m x. is_down here.way && waits m.kind;
  goes = λ way ms x. may_go ms;
  good = buffer-good;
  put = λ cells here m x. passes-put cells here m x;
  forgets = λ cells are here m x. refl;
}
