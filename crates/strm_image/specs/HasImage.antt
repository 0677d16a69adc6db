-- Which states of a pair have an image. Beside what each restorable state has, its numbers are of the widths that they have in a pair: a pair
-- has that from the types of its fields, from the size of its pool, and from its ledgers.
use Rattle.std.specs.Prelude.{◌≡◌, ◌<◌, ◌^◌, ◌+◌, ℕ, List, length, replicate, sum_by}
use Rattle.std.specs.List.{AllByRecursion, sum}
use Rattle.strm_image.specs.Prelude.{Book, Both, BANDS, Dir, MasterToSlave, SlaveToMaster, Fates, RULES, Free, Waiting, Answered, Termios, Winsize}
use Rattle.strm_image.specs.Prelude.{get, Message, part, side_from, IsOrdered, Queue, bytes_of, fates_of, PlainSlot, inline, queued, Module, OfLdterm}
use Rattle.strm_image.specs.Prelude.{OfOwn, OfPtem, OfPckt, Standing, State, Stream, book, queues_of}
use Rattle.strm_types.specs.Both.{AllSides, twice}
use Rattle.strm_laws.specs.Restorable.{Restorable}
use Rattle.strm_laws.specs.State.{AreOrdered, opening}
use Rattle.strm_image.specs.Image.{Imaged}

-- the lengths of a message's parts have 32 bits
pub record IsShort (m : Message ℕ) : Type 0 where
  pub control : length (part m.control) < 2 ^ 32
  pub body : length (part m.body) < 2 ^ 32
  pub plain : length m.plain < 2 ^ 32

-- so does the number of a queue's messages
pub record IsShortQueue (q : Queue ℕ) : Type 0 where
  pub few : length q.messages < 2 ^ 32
  pub each : AllByRecursion IsShort q.messages

abbrev pub AreShort : State ℕ → Type 0
AreShort s = AllByRecursion IsShortQueue (queues_of s)

-- each queue has the flow control of each band
abbrev pub AreBanded : State ℕ → Type 0
AreBanded s = AllByRecursion (λ (q : Queue ℕ). length q.flows ≡ BANDS) (queues_of s)

-- what a queue has beside what stands on it
pub record IsLaid (q : Queue ℕ) : Type 0 where
  pub ordered : IsOrdered q.messages
  pub short : IsShortQueue q
  pub banded : length q.flows ≡ BANDS

-- the words of a termios have 32 bits (termio(7I): tcflag_t)
pub record HasWords (t : Termios) : Type 0 where
  pub input : t.iflag.0 < 2 ^ 32
  pub output : t.oflag.0 < 2 ^ 32
  pub line : t.cflag < 2 ^ 32
  pub local : t.lflag.0 < 2 ^ 32

-- the sizes of a window have 16 bits (termio(7I): struct winsize)
pub record HasHalves (w : Winsize) : Type 0 where
  pub rows : w.rows < 2 ^ 16
  pub columns : w.columns < 2 ^ 16
  pub x_pixels : w.x_pixels < 2 ^ 16
  pub y_pixels : w.y_pixels < 2 ^ 16

abbrev pub HasKindNumbers : Module ℕ → Type 0
HasKindNumbers (OfLdterm l) = HasWords l.termios
HasKindNumbers (OfPtem p) = HasWords p.termios × HasHalves p.window
HasKindNumbers (OfPckt p) = Unit {0}
HasKindNumbers (OfOwn o) = Unit {0}

abbrev pub HasModuleNumbers : Standing ℕ → Type 0
HasModuleNumbers x = HasKindNumbers x.part

-- the number, the command and the error of an ioctl have 32 bits (sys/stream.h: struct iocblk)
abbrev pub HasSlotNumbers : PlainSlot → Type 0
HasSlotNumbers Free = Unit {0}
HasSlotNumbers (Waiting number command) = (number < 2 ^ 32) × (command < 2 ^ 32)
HasSlotNumbers (Answered number command acked error body) = (number < 2 ^ 32) × ((command < 2 ^ 32) × (error < 2 ^ 32))

-- so has the foreground group
pub record HasNumbers (t : Stream ℕ) : Type 0 where
  pub group : t.head.group < 2 ^ 32
  pub ioctl : HasSlotNumbers t.head.ioctl
  pub modules : AllByRecursion HasModuleNumbers t.modules

abbrev pub AreNumbers : State ℕ → Type 0
AreNumbers s = AllSides (λ side t. HasNumbers t) s.ends

-- what was written and made in a direction has 63 bits each
pub record IsBooked (b : Book) : Type 0 where
  pub written : b.written < 2 ^ 63
  pub made : b.made < 2 ^ 63

-- what has gone by each rule in a direction has 64 bits
pub record AreFates (fates : List ℕ) : Type 0 where
  pub each : AllByRecursion (λ n. n < 2 ^ 64) fates
  pub all : length fates ≡ RULES

-- what was written and made in a direction stands on its queues and in its lines, or has gone
abbrev pub Balances : Dir → Imaged → Type 0
Balances dir x = (book dir x.state).written + (book dir x.state).made ≡ queued dir x.state + inline dir x.state + sum (get (side_from dir) x.fates)

-- A state has an image, with what has gone by each rule, where these hold of it.
pub record HasImage (x : Imaged) : Type 0 where
  pub restorable : Restorable x.state
  pub ordered : AreOrdered x.state
  pub short : AreShort x.state
  pub banded : AreBanded x.state
  pub numbers : AreNumbers x.state
  pub booked : AllSides (λ side b. IsBooked b) x.state.books
  pub gone : AllSides (λ side counts. AreFates counts) x.fates
  pub balanced : (dir : Dir) → Balances dir x

-- a pair as it is made: nothing has gone
abbrev pub new_imaged : Imaged
new_imaged = record { state = opening; fates = twice (replicate RULES 0) }

-- how many bytes the messages of a pair have, all of them
abbrev pub bytes_in : State ℕ → ℕ
bytes_in s = sum_by (λ q. bytes_of q.messages) (queues_of s)

-- how many bytes have gone by each rule in each direction, by the side that writes there
abbrev pub counts_of : Fates → Both (List ℕ)
counts_of fates = record { master = fates_of MasterToSlave fates; slave = fates_of SlaveToMaster fates }

-- the state and the fates of a base, as an image has them
abbrev pub imaged : State ℕ → Fates → Imaged
imaged s fates = record { state = s; fates = counts_of fates }

-- what has gone by each rule in each direction has 64 bits
abbrev pub AreCounts : Fates → Type 0
AreCounts fates = (dir : Dir) → AllByRecursion (λ n. n < 2 ^ 64) (fates_of dir fates)
