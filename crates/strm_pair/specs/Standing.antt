-- Queues of a text in a store.
use Rattle.std.specs.Prelude.{ℕ, ◌≡◌, ◌≢◌, ◌≤◌, ◌+◌, Bool, false, List, length, slice_index_or, sum_by}
use Rattle.strm_image.specs.declared.modules.QueuesText.{QueuesText}
use Rattle.strm_pair.specs.Prelude.{StoreValue, list_at, IsReady, LdtermText, blocks_of, messages_now}
use Rattle.strm_types.specs.declared.keys.TheConstants.{LINE_MAX}
use Rattle.strm_types.specs.declared.output.TheConstants.{COLUMN_MAX}
use Rattle.strm_types.specs.Queue as plain
use Rattle.strm_queue.specs.declared.queue.Queue.{Queue}

-- the flow control of a band that there isn't
abbrev pub no_flow : plain.Flow
no_flow = record { high = 0; low = 0; want_write = false }

-- whether a writer waits for a band
abbrev pub waits_at : ℕ → List plain.Flow → Bool
waits_at band fs = (slice_index_or fs band no_flow).want_write

-- A queue stands on a list of a store, and no other list changed, nor what is in hand.
pub record Fills (old new : StoreValue) (list : ℕ) (q : Queue) : Type 0 where
  pub ready : IsReady new q
  pub list_is : q.list ≡ list
  pub others : (k : ℕ) → k ≢ list → list_at new k ≡ list_at old k
  pub hand : new.hand ≡ old.hand
  pub mblks : new.mblks ≡ old.mblks
  pub dblks : new.dblks ≡ old.dblks

-- ---- modules

-- how many blocks the messages on both queues of a module take
abbrev pub pair_blocks : QueuesText → ℕ
pair_blocks q = sum_by blocks_of (messages_now q.read.messages) + sum_by blocks_of (messages_now q.write.messages)

-- what the text of an ldterm has as its format says: a column, a line
pub record IsLdtermText (l : LdtermText) : Type 0 where
  pub column : l.column ≤ COLUMN_MAX
  pub line : length l.line.now ≤ LINE_MAX

-- two lists of a store, from a number on, may have changed, and no other one, nor what is in hand
pub record FillsTwo (old new : StoreValue) (first : ℕ) : Type 0 where
  pub others : (k : ℕ) → k ≢ first → k ≢ first + 1 → list_at new k ≡ list_at old k
  pub hand : new.hand ≡ old.hand
  pub mblks : new.mblks ≡ old.mblks
  pub dblks : new.dblks ≡ old.dblks
