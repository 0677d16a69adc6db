-- What the module ldterm and its queues stand for beside a store, and what holds of them.
use Rattle.std.specs.Prelude.{ℕ, ◌≡◌, ◌≤◌, ◌<◌, ◌+◌, Bool, true, List, [], ◌∷◌, ◌++◌, length, Option, None, Some, is_some, IfSome}
use Rattle.strm_types.specs.declared.kinds.MsgKind.TheVariants as kinds
use Rattle.strm_ldterm.specs.Prelude.{Termios, Message, cells_of, data_message, StoreValue, in_hand, block_at, token, InHand, IsChain, Queue}
use Rattle.strm_ldterm.specs.Prelude.{queue_in, messages_on, IsReady, QueuePair, once, message_in}
use Rattle.strm_types.specs.Ldterms as plain
use Rattle.strm_ldterm.specs.declared.ldterm.Ldterm.{Ldterm}
use Rattle.strm_ldterm.specs.declared.ldterm.Stage.{Stage}
use Rattle.strm_ldterm.specs.declared.ldterm.Stage.TheVariants.{Between, Begun, Answered}

-- how far a turn has come with a byte
abbrev pub stage_in : Stage → plain.Stage ℕ
stage_in Between = plain.Between
stage_in (Begun started byte) = plain.Begun started byte
stage_in (Answered echo) = plain.Answered echo.items

-- the cells of a message, where there is one
abbrev pub cells_kept : Option (Message ℕ) → List ℕ
cells_kept None = []
cells_kept (Some m) = cells_of m

-- M_DATA in hand
pub record IsData (s : StoreValue) (i : ℕ) : Type 0 where
  pub chain : IsChain (in_hand s i)
  pub kind : (block_at 0 (in_hand s i)).kind ≡ kinds.Data

-- and of band 0
pub record IsOrdinary (s : StoreValue) (i : ℕ) : Type 0 where
  pub are : IsData s i
  pub band : (block_at 0 (in_hand s i)).band ≡ 0

-- and of a byte at least
pub record IsGathered (s : StoreValue) (i : ℕ) : Type 0 where
  pub are : IsOrdinary s i
  pub some : 0 < length (cells_of (message_in s i))

-- The module with the queues that its stream gives it, as its procedures are lent both.
pub record Paired : Type 0 where
  pub termios : Termios
  pub stopped : Bool
  pub after_lnext : Bool
  pub column : ℕ
  pub line : List ℕ
  pub read_queue : Queue
  pub write_queue : Queue
  pub in_work : Option InHand
  pub gathered : Option InHand
  pub echoing : Bool
  pub stage : Stage

abbrev pub paired : Ldterm → QueuePair → Paired
paired x queues = record {
  termios = x.termios;
  stopped = x.stopped;
  after_lnext = x.after_lnext;
  column = x.column;
  line = x.line;
  read_queue = queues.read;
  write_queue = queues.write;
  in_work = x.in_work;
  gathered = x.gathered;
  echoing = x.echoing;
  stage = x.stage;
}

-- 1 for each list that is its own
abbrev pub owns : Paired → ℕ → ℕ
owns x k = once x.read_queue.list k + once x.write_queue.list k

-- a message that may be kept in hand
abbrev pub kept_in : StoreValue → Option InHand → Option (Message ℕ)
kept_in s None = None
kept_in s (Some m) = Some (message_in s (token m))

-- how often a name is one of a message that is kept
unfoldable pub times_kept : Option InHand → ℕ → ℕ
times_kept None i = 0
times_kept (Some m) i = once (token m) i

-- how often it keeps a message of a name in hand
abbrev pub keeps : Paired → ℕ → ℕ
keeps x i = times_kept x.in_work i + times_kept x.gathered i

-- what it stands for
abbrev pub ldterm_in : StoreValue → Paired → plain.Discipline ℕ
ldterm_in s x = record {
  termios = x.termios;
  stopped = x.stopped;
  after_lnext = x.after_lnext;
  column = x.column;
  line = x.line;
  read_queue = queue_in s x.read_queue;
  write_queue = queue_in s x.write_queue;
  in_work = kept_in s x.in_work;
  gathered = cells_kept (kept_in s x.gathered);
  echoing = x.echoing;
  stage = stage_in x.stage;
}

-- The last of some messages is M_DATA of band 0.
pub record EndsPlain (ms : List (Message ℕ)) : Type 0 where
  pub before : List (Message ℕ)
  pub cells : List ℕ
  pub is : ms ≡ before ++ data_message cells ∷ []

-- Its queues are ready, each on a list of its own, the read queue's first. The message in work is M_DATA, what is gathered is M_DATA of band 0 and has
-- bytes, and they are two messages. While a message is in work, the turn's echo stands last on the write queue where there is one.
pub record IsHeld (s : StoreValue) (x : Paired) : Type 0 where
  pub read : IsReady s x.read_queue
  pub write : IsReady s x.write_queue
  pub apart : x.read_queue.list < x.write_queue.list
  pub work : IfSome x.in_work (λ m. IsData s (token m))
  pub gathers : IfSome x.gathered (λ m. IsGathered s (token m))
  pub echoes : x.echoing ≡ true → is_some x.in_work ≡ true → EndsPlain (messages_on s x.write_queue.list)
  pub once_each : (i : ℕ) → keeps x i ≤ 1

-- how often the module itself keeps a message of a name in hand, and what it stands for
abbrev pub keeps_itself : Ldterm → ℕ → ℕ
keeps_itself x i = times_kept x.in_work i + times_kept x.gathered i

abbrev pub own_in : StoreValue → Ldterm → plain.Ldterm ℕ
own_in s x = record {
  termios = x.termios;
  stopped = x.stopped;
  after_lnext = x.after_lnext;
  column = x.column;
  line = x.line;
  in_work = kept_in s x.in_work;
  gathered = cells_kept (kept_in s x.gathered);
  echoing = x.echoing;
  stage = stage_in x.stage;
}

-- What the module has in hand fits the store and its queues, which it has: of what holds of it with them, all but that they are ready.
pub record FitsQueues (s : StoreValue) (x : Ldterm) (queues : QueuePair) : Type 0 where
  pub work : IfSome x.in_work (λ m. IsData s (token m))
  pub gathers : IfSome x.gathered (λ m. IsGathered s (token m))
  pub echoes : x.echoing ≡ true → is_some x.in_work ≡ true → EndsPlain (messages_on s queues.write.list)
  pub once_each : (i : ℕ) → keeps_itself x i ≤ 1

abbrev pub HasInHand : StoreValue → Ldterm → Option QueuePair → Type 0
HasInHand s x None = ⊥
HasInHand s x (Some queues) = FitsQueues s x queues
