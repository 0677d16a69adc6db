-- What modules of a user's own do, over any cells: which numbers they have, what one is set to as it is pushed, what it does with a message that is
-- put at it, and what it owes the stream on which it stands (STREAMS Programming Guide, "Modules", "Put Procedures"). Such a module makes no cells:
-- it hands on what comes to it, changed or not, drops it by a rule, or answers an M_IOCTL. One that has queues, by its number, may have messages wait
-- there, and then does with each what it does with one that comes, in a turn of its queue ("Service Procedures"; OwnStands).
use Rattle.std.specs.Prelude.{ℕ, ◌≡◌, ◌+◌, ◌-◌, ◌/◌, ◌≤◌, ◌<◌, max, Bool, true, false, List, [], ◌∷◌, length, sum_by, Option, None, Some}
use Rattle.std.specs.List.{AllByRecursion}
use Rattle.strm_laws.specs.Prelude.{Dir, MsgKind, Data, Ioctl, Spot, Within, emits_at, AreCells, Cells, plain, Acted, Fate, Goes, Message}
use Rattle.strm_laws.specs.Prelude.{weight_of, chunk_count, direction_at, map_acted, shape_of, onward, map_message, map_messages, Way}
use Rattle.strm_types.specs.declared.limits.TheConstants.{BLOCK_SIZE, SETTINGS_MAX}
use Rattle.strm_types.specs.declared.rules.Rule.TheVariants.{Read}
use Rattle.strm_types.specs.OwnStands.{OwnActs}
use Rattle.strm_types.specs.Owns.{Own}
use Rattle.strm_types.specs.Tables.{own_does}
use Rattle.strm_laws.specs.GoodMessages.{AreGood, GoodMessage}
use Rattle.strm_laws.specs.LdtermWeights.{IgnoresMapping}
use Rattle.strm_laws.specs.Places.{weight_gone, weight_made, weight_sent}

-- One as an image may hold it: its number is that of a name, and it is set to 320 bytes at most.
pub record GoodOwn (x : Own) : Type 0 where
  pub number : x.number < 256
  pub few : length x.settings ≤ SETTINGS_MAX
  pub bytes : AllByRecursion (λ b. b < 256) x.settings

-- the kinds that such a module makes of no other kind: M_DATA, whose bytes may be typed at a line discipline, and M_IOCTL, which is answered
abbrev pub is_only_itself : MsgKind → Bool
is_only_itself Data = true
is_only_itself Ioctl = true
is_only_itself _ = false

module _ {C : Type 0} where
  -- whether cells have gone by the rule of those that a reader has
  abbrev pub goes_to_readers : Fate C → Bool
  goes_to_readers (Goes direction Read cells) = true
  goes_to_readers _ = false

  -- how many blocks of each kind a message takes at least (STREAMS Programming Guide, "Message Structure"): those of its parts, or of its other bytes
  abbrev pub part_blocks : Option (List C) → ℕ
  part_blocks None = 0
  part_blocks (Some cells) = chunk_count (length cells)

  abbrev pub blocks_of : Message C → ℕ
  blocks_of m = max 1 (part_blocks m.control + (part_blocks m.body + (length m.plain + (BLOCK_SIZE - 1)) / BLOCK_SIZE))

-- What a put owes of a message that comes to one at a spot, where such modules change bytes (true) or don't.
pub record OwnPut {C : Type 0} (changes : Bool) (cells : Cells C) (here : Spot) (m : Message C) (x : Own) (t : Acted C Own) : Type 0 where
  -- it stays a module of its number, and notes nothing of queues
  pub number : t.state.number ≡ x.number
  pub notes : t.notes ≡ []
  -- It loses no cell and doubles none, whatever test on cells is chosen, and makes none. Where such modules change bytes, the test says the same of a
  -- cell with another byte.
  pub once : (p : Dir → C → Bool) → (changes ≡ true → IgnoresMapping cells p)
      → weight_sent p t.sent + weight_gone p t.gone ≡ weight_of (p (direction_at here.way here.side)) m
  pub none_made : (p : Dir → C → Bool) → weight_made p t.gone ≡ 0
  -- what it drops no reader has
  pub unread : AllByRecursion (λ f. goes_to_readers f ≡ false) t.gone
  -- It sends no more than its table says, no M_DATA and no M_IOCTL where none came, and takes no block beside those that came.
  pub within : Within t.sent (emits_at here (own_does here.way (shape_of m)))
  pub kinds : AllByRecursion (λ q. is_only_itself q.message.kind ≡ true → q.message.kind ≡ m.kind) t.sent
  pub fits : sum_by (λ q. blocks_of q.message) t.sent ≤ blocks_of m
  -- what can be in an image stays so
  pub sends : GoodMessage m → AreGood GoodMessage t.sent
  pub stays : GoodOwn x → GoodOwn t.state

pub record Behaviour : Type 1 where
  -- the numbers of which there are modules, and what one is set to as it is pushed
  pub knows : ℕ → Bool
  pub fresh : ℕ → List ℕ
  -- what one does with a message that is put at it, and whether any changes bytes
  pub puts : {C : Type 0} → Cells C → Spot → Message C → Own → Acted C Own
  pub changes : Bool
  -- Of one that has queues: which messages wait that come, and whether the first of those goes on that stand on the queue of a way, where there is
  -- room ahead. Both see the bytes, whatever stands for them.
  pub holds : Spot → Message ℕ → Own → Bool
  pub goes : Way → List (Message ℕ) → Own → Bool
  -- what each owes
  pub good : (n : ℕ) → knows n ≡ true → GoodOwn (record { number = n; settings = fresh n })
  pub put : {C : Type 0} (cells : Cells C) (here : Spot) (m : Message C) (x : Own) → OwnPut changes cells here m x (puts cells here m x)
  -- whatever stands for bytes, it does the same as with plain bytes
  pub forgets : {C : Type 0} (cells : Cells C) → AreCells cells → (here : Spot) (m : Message C) (x : Own)
      → puts plain here (map_message cells.byte m) x ≡ map_acted cells.byte (λ (o : Own). o) (puts cells here m x)

-- one as it is pushed
abbrev pub fresh_own : Behaviour → ℕ → Own
fresh_own K n = record { number = n; settings = K.fresh n }

-- Where modules of a user's own change bytes, a test on cells has to say the same of a cell with another byte.
abbrev pub MayTestOwn : {C : Type 0} → Behaviour → Cells C → (Dir → C → Bool) → Type 0
MayTestOwn K cells p = K.changes ≡ true → IgnoresMapping cells p

-- what passes all that comes to it on
abbrev pub passes_all : {C : Type 0} → Spot → Message C → Own → Acted C Own
passes_all here m x = record { state = x; notes = []; sent = onward here.way here m ∷ []; gone = [] }

-- what they do with these cells
abbrev pub own_by : {C : Type 0} → Behaviour → Cells C → OwnActs C
own_by K cells = record {
  puts = λ here m x. K.puts cells here m x;
  holds = λ here m x. K.holds here (map_message cells.byte m) x;
  goes = λ way ms x. K.goes way (map_messages cells.byte ms) x;
}
