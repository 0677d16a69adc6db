-- What one message gives to a read (read(2), streamio(7I): I_SRDOPT).
use Rattle.std.specs.Prelude.{ℕ, Bool, true, false, not, ◌==◌, ◌&&◌, ◌||◌, nat_lt, if◌then◌else◌, ◌≡◌, ◌≤◌, ◌<◌, ◌+◌, List, [], ◌∷◌, ◌++◌, length}
use Rattle.strm_head.specs.Prelude.{ReadMode, ByteStream, MessageKeep, MessageDiscard, ControlMode, Refuse, Data, Discard, Message, Drawn, drawn}
use Rattle.strm_head.specs.Prelude.{wanted_after, is_passed, is_refused, no_cells, offered}

-- what is drawn, but for what is dropped of control parts
abbrev pub but_dropped : Drawn ℕ → Drawn ℕ
but_dropped d = record { given = d.given; discarded = d.discarded; dropped = []; left = d.left }

-- a read of the messages that passed none over yet
abbrev pub drawn_on : ReadMode → ControlMode → Bool → ℕ → List (Message ℕ) → Drawn ℕ
drawn_on read control begun n q = but_dropped (drawn read control begun n [] q)

-- the messages from the first one on that a read doesn't pass over
abbrev pub behind_passed : ControlMode → List (Message ℕ) → List (Message ℕ)
behind_passed control [] = []
behind_passed control (m ∷ q) = if is_passed control m then behind_passed control q else m ∷ q

-- whether a read passes the first message over
abbrev pub first_passed : ControlMode → List (Message ℕ) → Bool
first_passed control [] = false
first_passed control (m ∷ q) = is_passed control m

-- whether a read takes bytes of a message, or takes it away: it doesn't fail at it, and the message has bytes where the read
-- has begun to give
abbrev pub goes : ControlMode → Bool → Message ℕ → Bool
goes control begun m = not (is_refused control m) && not (begun && no_cells (offered control m))

-- whether a read passes messages over and drops the bytes of control parts
abbrev pub drops_control : ControlMode → Bool
drops_control Refuse = false
drops_control Data = false
drops_control Discard = true

-- whether the first message is one that a read takes
abbrev pub first_goes : ControlMode → Bool → List (Message ℕ) → Bool
first_goes control begun [] = false
first_goes control begun (m ∷ q) = not (is_passed control m) && goes control begun m

-- whether what a read leaves of a message is discarded
abbrev pub discards : ReadMode → Bool
discards ByteStream = false
discards MessageKeep = false
discards MessageDiscard = true

-- what is wanted behind a message of this size that was taken away: nothing where it had no bytes, or more than were wanted
abbrev pub more_behind : ReadMode → ℕ → ℕ → ℕ
more_behind read n size = if size == 0 || nat_lt n size then 0 else wanted_after read n size

-- One step of a read of so many bytes: the bytes that it added, those that it discarded, and what is still wanted. What is
-- drawn is that, and what is drawn with what is still wanted from the messages that are left. Where the read goes on nothing
-- was discarded.
pub record Stepped (read : ReadMode) (control : ControlMode) (begun : Bool) (wanted more discarded : ℕ) (old new : List (Message ℕ)) (out out' : List ℕ) : Type 0 where
  pub piece : List ℕ
  pub gone : List ℕ
  pub given : out' ≡ out ++ piece
  pub count : discarded ≡ length gone
  pub rest : drawn_on read control begun wanted old
      ≡ record { given = piece ++ (drawn_on read control true more new).given; discarded = gone ++ (drawn_on read control true more new).discarded; dropped = []; left = (drawn_on read control true more new).left }
  pub most : more + length piece ≤ wanted
  pub less : more < wanted
  pub kept : 0 < more → gone ≡ []
