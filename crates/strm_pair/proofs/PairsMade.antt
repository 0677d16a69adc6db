-- Both streams of a text, one after the other, in a store that holds nothing.
use Rattle.strm_pair.proofs.Prelude.{ℕ, ◌≡◌, ◌≤◌, ◌<◌, ◌+◌, List, [], refl, ap, ◌∙◌, arith, map, sum_by, sym, replicate, slice_index_or, each-side}
use Rattle.strm_pair.specs.Prelude.{LISTS, Openness, Side, Stream, Block, StoreValue, StreamText, list_at, HasRoom, GoodStream, module_name}
use Rattle.strm_pair.specs.declared.ends.StreamEnd.{StreamEnd}
use Rattle.strm_pair.specs.Framing.{still}
use Rattle.strm_pair.specs.Laying.{IsStood, stream_now}
use Rattle.strm_pair.specs.Lists.{first_list}
use Rattle.strm_pair.specs.Pairs.{Stays}
use Rattle.strm_pair.specs.Placing.{text_pair}
use Rattle.strm_pair.specs.Runs.{Spent}
use Rattle.strm_pair.specs.Shelves.{pairs_named}
use Rattle.strm_pair.specs.Stacks.{stack_keeps}
use Rattle.strm_pair.specs.Streams.{IsBlank, IsSide, AreSides, stream_in}
use Rattle.strm_pair.proofs.ShelfSteps.{good-named}
use Rattle.strm_pair.proofs.Sides.{no-list, side-stays, stream-stays}
use Rattle.strm_pair.proofs.StacksMade.{text-pairs}

-- each list of such a store is empty
module _ (s : StoreValue) (lists : s.lists ≡ replicate LISTS []) where
  list-none : (k : ℕ) → slice_index_or (replicate {A = List (List Block)} LISTS []) k [] ≡ [] → list_at s k ≡ []
  list-none k none = ap (λ (ls : List (List (List Block))). slice_index_or ls k []) lists ∙ none

  pub blank-first : IsBlank s 0
  blank-first = record { head = list-none 0 refl; driver = list-none 1 refl; modules = λ k low high. list-none k (no-list LISTS k) }

  pub blank-last : IsBlank s 8
  blank-last = record { head = list-none 8 refl; driver = list-none 9 refl; modules = λ k low high. list-none k (no-list LISTS k) }

module _ {s t u : StoreValue} {p q : Stream ℕ} {m n : ℕ} {e f : StreamEnd} (master : IsStood s t 0 p m e) (slave : IsStood t u 8 q n f) where
  -- the master's lists stay
  stays : Stays t u (stack_keeps e.stack)
  stays = still t u (stack_keeps e.stack) slave.hand slave.mblks slave.dblks

  stay : (k : ℕ) → 0 ≤ k → k < 0 + 8 → list_at u k ≡ list_at t k
  stay k low high = slave.before k (omega (arith, high))

  pub master-stream : stream_in u e ≡ p
  master-stream = stream-stays t u 0 e master.side stays stay ∙ master.stream

  pub both-sides : AreSides u (record { master = e; slave = f })
  both-sides = each-side (λ side x. IsSide u (first_list side) x) (record { master = e; slave = f }) (side-stays t u 0 e master.side stays stay) slave.side

  pub both-spent : Spent s u (m + n)
  both-spent = record {
    mblks = omega (arith, master.spent.mblks, slave.spent.mblks);
    dblks = omega (arith, master.spent.dblks, slave.spent.dblks);
  }

-- the slave's lists are empty till then
module _ {s t : StoreValue} {p : Stream ℕ} {m : ℕ} {e : StreamEnd} (master : IsStood s t 0 p m e) where
  pub blank-behind : IsBlank s 8 → IsBlank t 8
  blank-behind blank = record {
    head = master.behind 8 (omega arith) ∙ blank.head;
    driver = master.behind 9 (omega arith) ∙ blank.driver;
    modules = λ k low high. master.behind k (omega (arith, low)) ∙ blank.modules k low high;
  }

  pub room-behind : (n : ℕ) → HasRoom s (m + n) → HasRoom t n
  room-behind n room = record {
    mblks = omega (arith, room.mblks, master.spent.mblks);
    dblks = omega (arith, room.dblks, master.spent.dblks);
  }

-- how many modules of a text have queues
pub text-named : (side : Side) (opened : Openness) (text : StreamText) → GoodStream side (stream_now opened text)
    → sum_by text_pair text.modules.items ≡ pairs_named (map module_name (stream_now opened text).modules)
text-named side opened text good = sym (text-pairs text.modules.items) ∙ good-named (stream_now opened text).modules good.modules.each
