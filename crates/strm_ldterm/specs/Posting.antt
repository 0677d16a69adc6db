-- Output on plain bytes: what bytes of the message in work give is gathered, to go down together (termio(7I): "Output Modes"; ldterm(7M)).
use Rattle.std.specs.Prelude.{ℕ, ◌≡◌, ◌≤◌, ◌<◌, ◌-◌, ◌==◌, Bool, not, ◌&&◌, List, [], ◌∷◌, ◌++◌, length, take, drop, replicate}
use Rattle.strm_ldterm.specs.Prelude.{STOP_BLOCKS, Given, Byte, Ended, Spaces, Nothing, Fates, Spot, Termios, plain, Acted, tallied, is_control}
use Rattle.strm_ldterm.specs.Prelude.{cells_left, with_left, carriage_return, newline, Output, posts, raised, space, output_dir, StoreValue, HasRoom}
use Rattle.strm_ldterm.specs.Prelude.{least_free}
use Rattle.strm_types.specs.Ldterms as ldterms
use Rattle.strm_ldterm.specs.declared.output_runs.Flow.{Flow}
use Rattle.strm_ldterm.specs.FreeBefore.{IsFreeBefore, all_free}
use Rattle.strm_ldterm.specs.Does.{Proceeds}
use Rattle.strm_ldterm.specs.Stands.{ldterm_in, Paired}

-- A byte that goes out as itself and moves the carriage on by a column, wherever it stands.
abbrev pub is_printed : Termios → ℕ → Bool
is_printed t b = not (is_control b) && (raised t b == b)

-- the bytes that a byte gives
abbrev pub bytes_given : Given → List ℕ
bytes_given (Byte b) = b ∷ []
bytes_given Ended = carriage_return ∷ newline ∷ []
bytes_given (Spaces columns) = replicate columns space
bytes_given Nothing = []

-- The first bytes of the message in work go out, so many: what they give is gathered, behind what was gathered before.
abbrev pub poured : Spot → ℕ → ldterms.Discipline ℕ → Acted ℕ (ldterms.Discipline ℕ)
poured here n p =
    let cells = cells_left p in
    let t = posts plain (output_dir plain here) 0 p.termios p.column (take n cells) in
    record {
      state = record (with_left (drop n cells) p) { gathered = p.gathered ++ t.given; column = t.column };
      notes = [];
      sent = [];
      gone = t.told;
    }

module _ (here : Spot) (t : Termios) where
  -- what bytes give that go out one after the other, from a column on
  abbrev pub out_of : ℕ → List ℕ → Output ℕ
  out_of column bytes = posts plain (output_dir plain here) 0 t column bytes

  -- The first bytes went out, so many: what they give stands behind what was given before, the carriage moved, and what is made or goes was told.
  pub record FlowsAs (bytes : List ℕ) (n : ℕ) (old new : Flow) (f f' : Fates) : Type 0 where
    pub within : n ≤ length bytes
    pub given : new.given.items ≡ old.given.items ++ (out_of old.column (take n bytes)).given
    pub column : new.column ≡ (out_of old.column (take n bytes)).column
    pub told : f' ≡ tallied (out_of old.column (take n bytes)).told f

module _ (old new : StoreValue) (here : Spot) (x x' : Paired) where
  -- Of so many bytes of the message in work all went out but those that are left. Before each of them blocks enough are free, and before the
  -- next one they are few; where they were many one went out.
  pub record PoursAs (bytes left : ℕ) (t t' : Fates) : Type 0 where
    pub fewer : left ≤ bytes
    pub does : Proceeds old new x x' (all_free old) [] [] t t' (poured here (bytes - left) (ldterm_in old x))
    pub begun : (byte : ℕ) → byte < bytes - left → IsFreeBefore old x t (poured here) (ldterm_in old x) byte
    pub stops : 0 < left → least_free new < STOP_BLOCKS
    pub some : 0 < bytes → HasRoom old STOP_BLOCKS → left < bytes
