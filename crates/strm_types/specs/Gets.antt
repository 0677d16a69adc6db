-- What a getmsg(2) or getpmsg(2) takes from a stream head.
use Rattle.std.specs.Prelude.{ℕ, Bool, true, false, ◌||◌, nat_le, nat_lt, if◌then◌else◌, List, [], ◌∷◌, length, map, take, drop, Option, None, Some, option_map}
use Rattle.strm_types.specs.declared.modes.Prio.{Prio}
use Rattle.strm_types.specs.declared.modes.Prio.TheVariants as prios
use Rattle.strm_types.specs.declared.modes.Wanted.{Wanted}
use Rattle.strm_types.specs.declared.modes.Wanted.TheVariants.{Any, High, Band}
use Rattle.strm_types.specs.declared.refusals.Refusal.{Refusal}
use Rattle.strm_types.specs.declared.refusals.Refusal.TheVariants.{Eagain}
use Rattle.strm_types.specs.Message.{Message, part, is_high_priority}
use Rattle.strm_types.specs.Queue.{put_back, map_messages}
use Rattle.strm_types.specs.Reads.{rest_with}

-- what a get takes: the parts that it gives, whether they are of high priority, their band, whether there is more of each part
-- (MORECTL, MOREDATA), and the messages that it leaves
pub record Got (C : Type 0) : Type 0 where
  pub control : Option (List C)
  pub body : Option (List C)
  pub high : Bool
  pub band : ℕ
  pub more_control : Bool
  pub more_data : Bool
  pub left : List (Message C)

module _ {C : Type 0} where
  -- the priority of what a get gives
  abbrev pub prio_got : Got C → Prio
  prio_got g = if g.high then prios.High else prios.Band (record { 0 = g.band })

  -- how many bytes the data part of the first message has
  abbrev pub first_data : List (Message C) → ℕ
  first_data [] = 0
  first_data (m ∷ q) = length (part m.body)

  -- whether the first message is the one that is asked for
  abbrev pub is_wanted : Wanted → Message C → Bool
  is_wanted Any m = true
  is_wanted High m = is_high_priority m.kind
  is_wanted (Band band) m = is_high_priority m.kind || nat_le band.0 m.band

  -- what a get is refused for: the first message isn't the one that is asked for, or there is none, and the input isn't at its end
  abbrev pub get_refusal : Wanted → Bool → List (Message C) → Option Refusal
  get_refusal wanted at_end [] = if at_end then None else Some Eagain
  get_refusal wanted at_end (m ∷ q) = if is_wanted wanted m then None else Some Eagain

  -- nothing is taken, and both parts are absent
  abbrev pub got_none : List (Message C) → Got C
  got_none q = record { control = None; body = None; high = false; band = 0; more_control = false; more_data = false; left = q }

  -- what stays of the first message in front of the others: nothing, or its rest, which is put back
  abbrev pub left_behind : Bool → ℕ → ℕ → Message C → List (Message C) → List (Message C)
  left_behind more cmax dmax m q = if more then put_back (rest_with (drop cmax (part m.control)) (drop dmax (part m.body)) m) q else q

  -- up to these sizes of the parts of the first message
  abbrev pub parts_of : ℕ → ℕ → Message C → List (Message C) → Got C
  parts_of cmax dmax m q =
      let more_control = nat_lt cmax (length (part m.control)) in
      let more_data = nat_lt dmax (length (part m.body)) in
      record {
        control = option_map (take cmax) m.control;
        body = option_map (take dmax) m.body;
        high = is_high_priority m.kind;
        band = m.band;
        more_control = more_control;
        more_data = more_data;
        left = left_behind (more_control || more_data) cmax dmax m q;
      }

  -- what a get takes
  abbrev pub head_get : Wanted → ℕ → ℕ → List (Message C) → Got C
  head_get wanted cmax dmax [] = got_none []
  head_get wanted cmax dmax (m ∷ q) = if is_wanted wanted m then parts_of cmax dmax m q else got_none (m ∷ q)

-- what is taken of other cells
abbrev pub map_got : {C D : Type 0} → (C → D) → Got C → Got D
map_got f g = record { control = option_map (map f) g.control; body = option_map (map f) g.body; high = g.high; band = g.band; more_control = g.more_control; more_data = g.more_data; left = map_messages f g.left }
