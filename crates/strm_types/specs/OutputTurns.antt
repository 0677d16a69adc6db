-- Turns of ldterm's write queue: what stands there goes down, and the bytes of M_DATA are output characters (termio(7I): "Output Modes";
-- ldterm(7M), "Write-side Behavior"; srv(9E)).
use Rattle.std.specs.Prelude.{ℕ, false, ◌&&◌, if◌then◌else◌, List, [], ◌∷◌, length, map, take, drop, Option, None, Some, unwrap_or}
use Rattle.strm_types.specs.declared.names.Dir.{Dir}
use Rattle.strm_types.specs.declared.names.Way.TheVariants.{Down}
use Rattle.strm_types.specs.declared.spots.Spot.{Spot}
use Rattle.strm_types.specs.Cells.{Cells}
use Rattle.strm_types.specs.Deliver.{Fate, onward}
use Rattle.strm_types.specs.Input.{back_on, is_data, left_of, nothing_served}
use Rattle.strm_types.specs.Ldterms.{Discipline}
use Rattle.strm_types.specs.Message.{Message, cells_of, size_of}
use Rattle.strm_types.specs.Names.{direction_at}
use Rattle.strm_types.specs.Output.{posts}
use Rattle.strm_types.specs.Queue.{left_with}
use Rattle.strm_types.specs.Service.{Serving}
use Rattle.strm_types.specs.Termios.{opost}

-- What becomes of a message whose turn it is: messages that go down, none or one; what is left of it, if anything; how many bytes were treated;
-- the column behind them; and what is told.
pub record Outgoing (C : Type 0) : Type 0 where
  pub messages : List (Message C)
  pub left : Option (Message C)
  pub bytes : ℕ
  pub column : ℕ
  pub told : List (Fate C)

module _ {C : Type 0} where
  -- a message that goes down as it is
  abbrev pub unchanged : Message C → Discipline C → Outgoing C
  unchanged m p = record { messages = m ∷ []; left = None; bytes = size_of m; column = p.column; told = [] }

  -- the same message with what its bytes give; where they give nothing there is none
  abbrev pub with_given : List C → Message C → List (Message C)
  with_given [] m = []
  with_given (c ∷ given) m = record m { control = None; body = Some (c ∷ given) } ∷ []

module _ {C : Type 0} (cells : Cells C) (here : Spot) where
  -- the direction of output
  abbrev pub output_dir : Dir
  output_dir = direction_at Down here.side

  -- Bytes of M_DATA are output under OPOST: all of them, or so many at most where blocks are few. One without bytes goes down as it is.
  abbrev pub posted : Option ℕ → ℕ → List C → Message C → Discipline C → Outgoing C
  posted stop made [] m p = unchanged m p
  posted stop made (c ∷ rest) m p =
      let most = unwrap_or stop (length (c ∷ rest)) in
      let treated = take most (c ∷ rest) in
      let t = posts cells output_dir made p.termios p.column treated in
      record {
        messages = with_given t.given m;
        left = Some (left_of (drop most (c ∷ rest)) m);
        bytes = length treated;
        column = t.column;
        told = t.told;
      }

  -- A message, by its kind. So many cells were made before in the direction of output.
  abbrev pub outgoing : Option ℕ → ℕ → Message C → Discipline C → Outgoing C
  outgoing stop made m p = if is_data m.kind && opost p.termios then posted stop made (cells_of m) m p else unchanged m p

  -- A turn of the write queue, of these messages. It goes as far as it may, or stops for want of blocks when so many bytes are treated: what is
  -- left of the message goes back to the front of the queue then.
  abbrev pub output_serves : Option ℕ → ℕ → List (Message C) → Discipline C → Serving C (Discipline C)
  output_serves stop made [] p = nothing_served cells here p
  output_serves stop made (m ∷ rest) p =
      let t = outgoing stop made m p in
      record {
        acted = record {
          state = record p { write_queue = back_on t.left (left_with rest p.write_queue); column = t.column };
          notes = [];
          sent = map (onward Down here) t.messages;
          gone = t.told;
        };
        bytes = t.bytes;
        again = false;
      }
