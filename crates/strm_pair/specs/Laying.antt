-- Streams of a text in a store.
use Rattle.std.specs.Prelude.{ℕ, ◌≡◌, ◌≤◌, ◌<◌, ◌+◌, length}
use Rattle.strm_pair.specs.Prelude.{IOCTL_MAX, Openness, AreSignals, is_part_kind, Stream, StoreValue, list_at, StreamText, queue_now, laid_now}
use Rattle.strm_types.specs.Slots.{answer_bytes, map_slot}
use Rattle.strm_laws.specs.Restorable.{GoodQueue}
use Rattle.strm_image.specs.Image.{stream_of}
use Rattle.strm_pair.specs.declared.ends.StreamEnd.{StreamEnd}
use Rattle.strm_pair.specs.Placing.{AreModuleTexts}
use Rattle.strm_pair.specs.Runs.{Spent}
use Rattle.strm_pair.specs.Stacks.{stack_keeps}
use Rattle.strm_pair.specs.Streams.{IsSide, stream_in}

-- what the text of a stream has as its format says: what readers may read, modules, signals, and the answer of an ioctl
pub record IsStreamText (t : StreamText) : Type 0 where
  pub head : GoodQueue is_part_kind (queue_now t.head)
  pub modules : AreModuleTexts t.modules.items
  pub signals : AreSignals t.signals.now
  pub answer : length (answer_bytes (map_slot (λ b. b.now) t.slot)) ≤ IOCTL_MAX

-- the stream that a text stands for, on a side that was opened so
abbrev pub stream_now : Openness → StreamText → Stream ℕ
stream_now opened t = stream_of opened (laid_now t)

-- A stream stands on eight lists of a store, from a number on, and no other list changed. It keeps nothing in hand, and its messages take so many
-- blocks.
pub record IsStood (old new : StoreValue) (first : ℕ) (plain : Stream ℕ) (blocks : ℕ) (e : StreamEnd) : Type 0 where
  pub stream : stream_in new e ≡ plain
  pub side : IsSide new first e
  pub rests : (i : ℕ) → stack_keeps e.stack i ≡ 0
  pub before : (k : ℕ) → k < first → list_at new k ≡ list_at old k
  pub behind : (k : ℕ) → first + 8 ≤ k → list_at new k ≡ list_at old k
  pub hand : new.hand ≡ old.hand
  pub mblks : new.mblks ≡ old.mblks
  pub dblks : new.dblks ≡ old.dblks
  pub spent : Spent old new blocks
