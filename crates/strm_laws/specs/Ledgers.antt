-- The ledger of a direction: how many bytes were written and made there, how many stand on its queues and in its unfinished lines, and how
-- many have gone by each rule; and in how many places a single byte is (STREAMS Programming Guide, "Message Queues"; termio(7I)).
use Rattle.std.specs.Prelude.{ℕ, ◌≡◌, ◌+◌, ◌<◌, ◌^◌, ◌==◌, nat_le, nat_lt, Bool, true, false, ◌&&◌, List, [], ◌∷◌, ◌++◌, flat_map, length, sum_by}
use Rattle.strm_laws.specs.Prelude.{Dir, MasterToSlave, SlaveToMaster, Up, Down, Fates, RULES, Cells, Origin, Written, Made, Base, Tagged, Message}
use Rattle.strm_laws.specs.Prelude.{tagged, Fate, PlainEntry, messages_at, other, side_from, fates_of}
use Rattle.strm_types.specs.declared.ledger.Ledger.{Ledger}
use Rattle.strm_laws.specs.Based.{based, cells_in}
use Rattle.strm_laws.specs.Behaviours.{Behaviour}
use Rattle.strm_laws.specs.Kept.{gone, state_weight}
use Rattle.strm_laws.specs.Places.{weight_gone}
use Rattle.strm_laws.specs.Stacked.{module_line}
use Rattle.strm_laws.specs.State.{State, book, stream}
use Rattle.strm_laws.specs.Step.{after, replay}

abbrev pub same_dir : Dir → Dir → Bool
same_dir MasterToSlave MasterToSlave = true
same_dir SlaveToMaster SlaveToMaster = true
same_dir _ _ = false

module _ {C : Type 0} where
  -- What stands on the queues of a direction: in the writer's stream on those that go down, in the other one on those that go up, of each from its
  -- head on.
  abbrev pub queues_in : Dir → State C → List (List (Message C))
  queues_in dir s =
      let writer = stream (side_from dir) s in
      let reader = stream (other (side_from dir)) s in
      flat_map (messages_at Down) writer.modules ∷ writer.driver.queue.messages
      ∷ reader.head.queue.messages ∷ flat_map (messages_at Up) reader.modules ∷ []

  -- how many cells stand there
  abbrev pub queued : Dir → State C → ℕ
  queued dir s = sum_by (λ ms. cells_in ms) (queues_in dir s)

  -- how many stand in the unfinished lines of a direction, which are its reader's
  abbrev pub inline : Dir → State C → ℕ
  inline dir s = sum_by (λ p. length (module_line p)) (stream (other (side_from dir)) s).modules

-- how many bytes of a direction stood there when a journal began that has this state as its base
abbrev pub base_count : Dir → State ℕ → ℕ
base_count dir base = queued dir base + inline dir base

-- the ledger of a direction, of a pair in a state of which so much has gone
abbrev pub ledger_of : Dir → State ℕ → Fates → Ledger
ledger_of dir s fates = record {
  written = (book dir s).written;
  made = (book dir s).made;
  queued = queued dir s;
  inline = inline dir s;
  fates = fates_of dir fates;
}

-- There is a count for each rule, and the numbers agree: what was written and made is what stands on the queues and in the lines of the
-- direction, and what has gone there by each rule.
pub record Balanced (dir : Dir) (s : State ℕ) (fates : Fates) : Type 0 where
  pub rules : length (fates_of dir fates) ≡ RULES
  pub agree : let l = ledger_of dir s fates in l.written + l.made ≡ l.queued + (l.inline + sum_by (λ n. n) l.fates)

-- what entries let go from a state on, one after the other, and make
abbrev pub all_gone : {C : Type 0} → Behaviour → Cells C → State C → List PlainEntry → List (Fate C)
all_gone K cells s [] = []
all_gone K cells s (entry ∷ entries) = gone K cells s entry ++ all_gone K cells (after K cells s entry) entries

-- two origins are the same
abbrev pub same_origin : Origin → Origin → Bool
same_origin (Written d n) (Written e m) = same_dir d e && n == m
same_origin (Made d n) (Made e m) = same_dir d e && n == m
same_origin (Base d n) (Base e m) = same_dir d e && n == m
same_origin _ _ = false

abbrev pub direction_in : Origin → Dir
direction_in (Written dir n) = dir
direction_in (Made dir n) = dir
direction_in (Base dir n) = dir

-- Whether a byte of this origin was booked in a journal from a base, so far as a state's books say. The numbers of what is written and made go on
-- as the ledger counts them, from the base's books on; what stood there at the base has the numbers below its count.
abbrev pub is_booked : {C : Type 0} → Origin → State ℕ → State C → Bool
is_booked (Written dir n) base s = nat_le (book dir base).written n && nat_lt n (book dir s).written
is_booked (Made dir n) base s = nat_le (book dir base).made n && nat_lt n (book dir s).made
is_booked (Base dir n) base s = nat_lt n (base_count dir base)

-- in how many places the byte of an origin is behind a journal from a base: on queues, in lines, and among what has gone
abbrev pub places_of : Behaviour → Origin → State ℕ → List PlainEntry → ℕ
places_of K origin base entries =
    let test = λ (direction : Dir) (c : Tagged). same_origin c.origin origin in
    state_weight test (replay K tagged (based base) entries) + weight_gone test (all_gone K tagged (based base) entries)

-- in how many of the direction in which it was booked
abbrev pub own_places_of : Behaviour → Origin → State ℕ → List PlainEntry → ℕ
own_places_of K origin base entries =
    let test = λ (direction : Dir) (c : Tagged). same_dir direction (direction_in origin) && same_origin c.origin origin in
    state_weight test (replay K tagged (based base) entries) + weight_gone test (all_gone K tagged (based base) entries)

-- Fewer than 2^63 bytes were written in each direction, and fewer than 2^63 made, so that no count of a ledger goes round: what may add to a
-- book wants that it isn't full.
pub record FewBooked {C : Type 0} (s : State C) : Type 0 where
  pub written : (dir : Dir) → (book dir s).written < 2 ^ 63
  pub made : (dir : Dir) → (book dir s).made < 2 ^ 63
