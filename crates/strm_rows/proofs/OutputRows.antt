-- What becomes of bytes that go out, as worked out by hand from termio(7I) and ldterm(7M).
use Rattle.strm_rows.proofs.Prelude.{ℕ, ◌≡◌, Bool, true, false, List, [], ◌∷◌, ◌++◌, map, refl, replicate, None, Some, Data, Sig, Ctl, Ioctl, Setopts}
use Rattle.strm_rows.proofs.Prelude.{Iocack, Iocnak, Pcproto, Pcsig, Read, Flush, Stop, Start, Hangup, Error, MasterToSlave, SlaveToMaster, Slave}
use Rattle.strm_rows.proofs.Prelude.{Master, Down, Termios, Tagged, Written, Made, plain, tagged, Fate, Goes, Comes, Parcel, Discipline, Message}
use Rattle.strm_rows.proofs.Prelude.{cells_of, is_high_priority, rank_of, size_of, Serving, first_termios, ordinary, without_parts}
use Rattle.strm_types.specs.declared.output.Given.{Given}
use Rattle.strm_types.specs.declared.output.Given.TheVariants.{Byte, Ended, Spaces, Nothing}
use Rattle.strm_types.specs.declared.output.Posted.{Posted}
use Rattle.strm_types.specs.declared.rules.Rule.TheVariants.{Replaced, Onocr}
use Rattle.strm_types.specs.declared.spots.Asks.TheVariants as asked
use Rattle.strm_types.specs.Asking.{ldterm_asks}
use Rattle.strm_types.specs.Output.{Output, made_for, post, posts, raised}
use Rattle.strm_types.specs.OutputTurns.{output_serves}
use Rattle.strm_rows.proofs.LdtermRows.{at, down, protocol, queue_with, to_write, waiting}
use Rattle.strm_rows.proofs.TypingRows.{lined}

-- output modes: OPOST is 1, OLCUC 2, ONLCR 4, OCRNL 8, ONOCR 0x10, ONLRET 0x20, XTABS 0x1800
abbrev with_output : ℕ → Termios → Termios
with_output word t = record t { oflag = record { 0 = word } }

abbrev output : ℕ → Termios
output word = with_output word first_termios

abbrev gives : Given → ℕ → Posted
gives given column = record { given = given; column = column }

-- what a byte gives in such modes at these columns
abbrev at_columns : ℕ → ℕ → List ℕ → List Posted
at_columns word b columns = map (λ column. post (output word) column b) columns

-- OLCUC raises the letters a to z alone
abbrev letters : List ℕ
letters = 64 ∷ 65 ∷ 90 ∷ 91 ∷ 96 ∷ 97 ∷ 109 ∷ 122 ∷ 123 ∷ 225 ∷ 10 ∷ []

pub raised-letters : map (raised (output 0x2)) letters ≡ 64 ∷ 65 ∷ 90 ∷ 91 ∷ 96 ∷ 65 ∷ 77 ∷ 90 ∷ 123 ∷ 225 ∷ 10 ∷ []
raised-letters = refl

pub letters-as-they-are : map (raised (output 0xfffffffd)) letters ≡ letters
letters-as-they-are = refl

pub letters-go-out-raised : at_columns 0x3 97 (4 ∷ []) ++ at_columns 0xfffffffd 97 (4 ∷ []) ≡ gives (Byte 65) 5 ∷ gives (Byte 97) 5 ∷ []
letters-go-out-raised = refl

-- NL: under ONLCR, whatever else is set; without it, and under ONLRET
pub newlines : map (λ word. at_columns word 10 (0 ∷ 7 ∷ [])) (0x5 ∷ 0xffffffff ∷ 0x1 ∷ 0x21 ∷ 0xfffffffb ∷ 0xffffffdb ∷ [])
    ≡ (gives Ended 0 ∷ gives Ended 0 ∷ []) ∷ (gives Ended 0 ∷ gives Ended 0 ∷ [])
    ∷ (gives (Byte 10) 0 ∷ gives (Byte 10) 7 ∷ []) ∷ (gives (Byte 10) 0 ∷ gives (Byte 10) 0 ∷ [])
    ∷ (gives (Byte 10) 0 ∷ gives (Byte 10) 0 ∷ []) ∷ (gives (Byte 10) 0 ∷ gives (Byte 10) 7 ∷ []) ∷ []
newlines = refl

-- CR: under OCRNL a newline, which ONLCR doesn't map again, with ONLRET or without; under ONOCR nothing at column 0 alone; else itself
pub returns : map (λ word. at_columns word 13 (0 ∷ 1 ∷ 7 ∷ [])) (0x8 ∷ 0x28 ∷ 0xffffffff ∷ 0x1c ∷ 0x10 ∷ 0xfffffff7 ∷ 0x1 ∷ 0xffffffe7 ∷ [])
    ≡ (gives (Byte 10) 0 ∷ gives (Byte 10) 1 ∷ gives (Byte 10) 7 ∷ [])
    ∷ replicate 2 (gives (Byte 10) 0 ∷ gives (Byte 10) 0 ∷ gives (Byte 10) 0 ∷ [])
    ++ (gives (Byte 10) 0 ∷ gives (Byte 10) 1 ∷ gives (Byte 10) 7 ∷ [])
    ∷ replicate 2 (gives Nothing 0 ∷ gives (Byte 13) 0 ∷ gives (Byte 13) 0 ∷ [])
    ++ replicate 2 (gives (Byte 13) 0 ∷ gives (Byte 13) 0 ∷ gives (Byte 13) 0 ∷ [])
returns = refl

-- TAB: spaces to the next multiple of 8 under both bits of XTABS, else itself
pub tabs-expanded : map (λ word. at_columns word 9 (0 ∷ 1 ∷ 7 ∷ 8 ∷ 13 ∷ [])) (0x1800 ∷ 0xffffffff ∷ [])
    ≡ replicate 2 (gives (Spaces 8) 8 ∷ gives (Spaces 7) 8 ∷ gives (Spaces 1) 8 ∷ gives (Spaces 8) 16 ∷ gives (Spaces 3) 16 ∷ [])
tabs-expanded = refl

pub tabs-as-they-are : map (λ word. at_columns word 9 (0 ∷ 1 ∷ 7 ∷ 8 ∷ 13 ∷ [])) (0x1 ∷ 0x801 ∷ 0x1001 ∷ 0xffffefff ∷ 0xfffff7ff ∷ [])
    ≡ replicate 5 (gives (Byte 9) 8 ∷ gives (Byte 9) 8 ∷ gives (Byte 9) 8 ∷ gives (Byte 9) 16 ∷ gives (Byte 9) 16 ∷ [])
tabs-as-they-are = refl

-- BS, in all modes
pub backspaces : map (λ word. at_columns word 8 (0 ∷ 1 ∷ 8 ∷ [])) (0 ∷ 0xffffffff ∷ []) ≡ replicate 2 (gives (Byte 8) 0 ∷ gives (Byte 8) 0 ∷ gives (Byte 8) 7 ∷ [])
backspaces = refl

-- NUL, BEL, VT, FF, ESC, 31 and DEL leave the column; the space, `~` and bytes with their top bit move it on; in all modes
pub other-bytes : map (λ word. map (post (output word) 3) (0 ∷ 7 ∷ 11 ∷ 12 ∷ 27 ∷ 31 ∷ 127 ∷ 32 ∷ 126 ∷ 128 ∷ 255 ∷ [])) (0 ∷ 0xffffffff ∷ [])
    ≡ replicate 2 (map (λ b. gives (Byte b) 3) (0 ∷ 7 ∷ 11 ∷ 12 ∷ 27 ∷ 31 ∷ 127 ∷ []) ++ map (λ b. gives (Byte b) 4) (32 ∷ 126 ∷ 128 ∷ 255 ∷ []))
other-bytes = refl

-- the last columns: a letter, a TAB and the spaces in its place, and a BS
pub last-columns : at_columns 0x1 97 (65534 ∷ 65535 ∷ []) ++ at_columns 0x1 9 (65527 ∷ 65528 ∷ 65535 ∷ []) ++ at_columns 0x1801 9 (65527 ∷ 65528 ∷ 65535 ∷ []) ++ at_columns 0x1 8 (65535 ∷ [])
    ≡ gives (Byte 97) 65535 ∷ gives (Byte 97) 8 ∷ gives (Byte 9) 65528 ∷ gives (Byte 9) 8 ∷ gives (Byte 9) 8 ∷ gives (Spaces 1) 65528 ∷ gives (Spaces 8) 8 ∷ gives (Spaces 1) 8 ∷ gives (Byte 8) 65534 ∷ []
last-columns = refl

pub made-for-bytes : map made_for (Byte 13 ∷ Ended ∷ Spaces 5 ∷ Nothing ∷ []) ≡ 0 ∷ 1 ∷ 5 ∷ 0 ∷ []
made-for-bytes = refl

-- runs of bytes

abbrev outputs : ℕ → ℕ → List ℕ → Output ℕ
outputs word column bytes = posts plain SlaveToMaster 3 (output word) column bytes

pub no-bytes : outputs 0xffffffff 5 [] ≡ record { given = []; column = 5; told = [] }
no-bytes = refl

-- "hi", NL, "a"
pub lines-end : outputs 0x5 0 (104 ∷ 105 ∷ 10 ∷ 97 ∷ []) ≡ record { given = 104 ∷ 105 ∷ 13 ∷ 10 ∷ 97 ∷ []; column = 1; told = Comes SlaveToMaster (13 ∷ []) ∷ [] }
lines-end = refl

-- "a", TAB, "b" from column 0 and from column 6
pub tabs-go-out : map (λ column. outputs 0x1801 column (97 ∷ 9 ∷ 98 ∷ [])) (0 ∷ 6 ∷ [])
    ≡ record { given = 97 ∷ 32 ∷ 32 ∷ 32 ∷ 32 ∷ 32 ∷ 32 ∷ 32 ∷ 98 ∷ []; column = 9; told = Comes SlaveToMaster (replicate 7 32) ∷ Goes SlaveToMaster Replaced (9 ∷ []) ∷ [] }
    ∷ record { given = 97 ∷ 32 ∷ 98 ∷ []; column = 9; told = Comes SlaveToMaster (32 ∷ []) ∷ Goes SlaveToMaster Replaced (9 ∷ []) ∷ [] } ∷ []
tabs-go-out = refl

-- two CRs, "a" and a CR: the second one goes
pub returns-go : outputs 0x11 4 (13 ∷ 13 ∷ 97 ∷ 13 ∷ []) ≡ record { given = 13 ∷ 97 ∷ 13 ∷ []; column = 0; told = Goes SlaveToMaster Onocr (13 ∷ []) ∷ [] }
returns-go = refl

-- with their origins: "a" as "A", a CR as a NL, a NL behind the fourth cell that was made, a TAB at column 0 for which the next eight are
abbrev made : ℕ → ℕ → Tagged
made b n = record { byte = b; origin = Made SlaveToMaster n }

abbrev written : ℕ → ℕ → Tagged
written b n = record { byte = b; origin = Written SlaveToMaster n }

abbrev origins : List Tagged
origins = written 97 20 ∷ written 13 21 ∷ written 10 22 ∷ written 9 23 ∷ []

pub cells-go-out : posts tagged SlaveToMaster 3 (output 0x180f) 6 origins ≡ (
    let spaces = map (made 32) (4 ∷ 5 ∷ 6 ∷ 7 ∷ 8 ∷ 9 ∷ 10 ∷ 11 ∷ []) in
    record {
      given = written 65 20 ∷ written 10 21 ∷ made 13 3 ∷ written 10 22 ∷ spaces;
      column = 8;
      told = Comes SlaveToMaster (made 13 3 ∷ []) ∷ Comes SlaveToMaster spaces ∷ Goes SlaveToMaster Replaced (written 9 23 ∷ []) ∷ [];
    })
cells-go-out = refl

-- turns

-- one with such modes, whose output is stopped or not, with these messages on its write queue
abbrev writing : ℕ → Bool → List (Message ℕ) → Discipline ℕ
writing word stopped messages = record (lined []) { termios = output word; stopped = stopped; column = 6; write_queue = queue_with messages (waiting true false) true }

abbrev behind : ℕ → ℕ → List (Message ℕ) → Discipline ℕ
behind word column messages = record (lined []) { termios = output word; column = column; write_queue = queue_with messages (waiting true false) false }

abbrev banded : ℕ → List ℕ → Message ℕ
banded band bytes = record { kind = Data; band = band; control = None; body = Some bytes; plain = [] }

-- What the first message asks: M_DATA waits while output is stopped, and so it does where more stands behind it; none else does.
pub asked-first : map (λ stopped. map (λ ms. ldterm_asks Down (writing 0x5 stopped ms)) ([] ∷ (banded 0 (97 ∷ []) ∷ []) ∷ (banded 3 [] ∷ ordinary [] ∷ []) ∷ (protocol 2 (1 ∷ []) [] ∷ []) ∷ [])) (false ∷ true ∷ [])
    ≡ (asked.Empty ∷ asked.Room (record { 0 = 0 }) ∷ asked.Room (record { 0 = 3 }) ∷ asked.Room (record { 0 = 2 }) ∷ [])
    ∷ (asked.Empty ∷ asked.Held ∷ asked.Held ∷ asked.Room (record { 0 = 2 }) ∷ []) ∷ []
asked-first = refl

pub others-are-free : map (λ stopped. map (λ kind. ldterm_asks Down (writing 0x5 stopped (without_parts kind [] ∷ []))) (Ioctl ∷ Sig ∷ Ctl ∷ Setopts ∷ Iocack ∷ Iocnak ∷ Pcproto ∷ Pcsig ∷ Read ∷ Flush ∷ Stop ∷ Start ∷ Hangup ∷ Error ∷ [])) (false ∷ true ∷ [])
    ≡ replicate 2 (replicate 14 asked.Free)
others-are-free = refl

-- M_DATA of a band under OPOST: what its bytes give, in one message of that band
pub output-is-posted : output_serves plain (at Slave Down) None 3 (banded 2 (97 ∷ 10 ∷ []) ∷ ordinary (98 ∷ []) ∷ []) (writing 0x5 false (banded 2 (97 ∷ 10 ∷ []) ∷ ordinary (98 ∷ []) ∷ [])) ≡ record {
  acted = record { state = behind 0x5 0 (ordinary (98 ∷ []) ∷ []); notes = []; sent = down (banded 2 (97 ∷ 13 ∷ 10 ∷ [])) ∷ []; gone = Comes SlaveToMaster (13 ∷ []) ∷ [] };
  bytes = 2;
  again = false;
}
unfolding cells_of size_of
output-is-posted = refl

-- of the master's stream in the other direction
pub masters-output : (output_serves plain (at Master Down) None 3 (ordinary (10 ∷ []) ∷ []) (writing 0x5 false [])).acted.gone ≡ Comes MasterToSlave (13 ∷ []) ∷ []
unfolding cells_of size_of
masters-output = refl

-- without OPOST it goes down as it is, whatever else is set, and the column stays
pub output-is-raw : output_serves plain (at Slave Down) None 3 (banded 2 (97 ∷ 10 ∷ 13 ∷ []) ∷ []) (writing 0xfffffffe false (banded 2 (97 ∷ 10 ∷ 13 ∷ []) ∷ [])) ≡ record {
  acted = record { state = behind 0xfffffffe 6 []; notes = []; sent = down (banded 2 (97 ∷ 10 ∷ 13 ∷ [])) ∷ []; gone = [] };
  bytes = 3;
  again = false;
}
unfolding cells_of size_of
output-is-raw = refl

-- A message whose bytes give nothing sends none; one without bytes goes down.
pub nothing-is-left : output_serves plain (at Slave Down) None 3 (ordinary (13 ∷ 13 ∷ []) ∷ []) (record (writing 0x11 false []) { column = 0 }) ≡ record {
  acted = record { state = behind 0x11 0 []; notes = []; sent = []; gone = Goes SlaveToMaster Onocr (13 ∷ []) ∷ Goes SlaveToMaster Onocr (13 ∷ []) ∷ [] };
  bytes = 2;
  again = false;
}
unfolding cells_of size_of
nothing-is-left = refl

pub empty-message : output_serves plain (at Slave Down) None 3 (banded 1 [] ∷ []) (writing 0xffffffff false []) ≡ record {
  acted = record { state = behind 0xffffffff 6 []; notes = []; sent = down (banded 1 []) ∷ []; gone = [] };
  bytes = 0;
  again = false;
}
unfolding cells_of size_of
empty-message = refl

-- M_PROTO goes down as it is, with its control part, under OPOST too, and so does an M_IOCTL
pub protocols-pass : output_serves plain (at Slave Down) None 3 (protocol 2 (10 ∷ []) (10 ∷ 13 ∷ []) ∷ to_write) (writing 0xffffffff false []) ≡ record {
  acted = record { state = behind 0xffffffff 6 to_write; notes = []; sent = down (protocol 2 (10 ∷ []) (10 ∷ 13 ∷ [])) ∷ []; gone = [] };
  bytes = 3;
  again = false;
}
unfolding cells_of size_of
protocols-pass = refl

pub ioctls-pass : output_serves plain (at Slave Down) None 3 (without_parts Ioctl (10 ∷ 13 ∷ []) ∷ []) (writing 0xffffffff false []) ≡ record {
  acted = record { state = behind 0xffffffff 6 []; notes = []; sent = down (without_parts Ioctl (10 ∷ 13 ∷ [])) ∷ []; gone = [] };
  bytes = 2;
  again = false;
}
unfolding cells_of size_of
ioctls-pass = refl

pub nothing-stands : output_serves plain (at Slave Down) None 3 [] (writing 0x5 false []) ≡ record { acted = record { state = writing 0x5 false []; notes = []; sent = []; gone = [] }; bytes = 0; again = false }
nothing-stands = refl

-- A turn that stops treats so many bytes, and what is left goes back in front of those of its band. One that stops at its end leaves none, and one
-- that treats nothing sends nothing.
abbrev stopped_at : ℕ → Message ℕ → Serving ℕ (Discipline ℕ)
stopped_at most m = output_serves plain (at Slave Down) (Some most) 3 (m ∷ ordinary (98 ∷ []) ∷ []) (writing 0x5 false [])

abbrev leaves : ℕ → ℕ → List (Message ℕ) → List (Parcel ℕ) → List (Fate ℕ) → Serving ℕ (Discipline ℕ)
leaves bytes column messages sent gone = record { acted = record { state = behind 0x5 column messages; notes = []; sent = sent; gone = gone }; bytes = bytes; again = false }

pub output-stops : map (λ most. stopped_at most (banded 2 (97 ∷ 10 ∷ 99 ∷ []))) (0 ∷ 1 ∷ 2 ∷ 3 ∷ 4 ∷ [])
    ≡ leaves 0 6 (banded 2 (97 ∷ 10 ∷ 99 ∷ []) ∷ ordinary (98 ∷ []) ∷ []) [] []
    ∷ leaves 1 7 (banded 2 (10 ∷ 99 ∷ []) ∷ ordinary (98 ∷ []) ∷ []) (down (banded 2 (97 ∷ [])) ∷ []) []
    ∷ leaves 2 0 (banded 2 (99 ∷ []) ∷ ordinary (98 ∷ []) ∷ []) (down (banded 2 (97 ∷ 13 ∷ 10 ∷ [])) ∷ []) (Comes SlaveToMaster (13 ∷ []) ∷ [])
    ∷ replicate 2 (leaves 3 1 (ordinary (98 ∷ []) ∷ []) (down (banded 2 (97 ∷ 13 ∷ 10 ∷ 99 ∷ [])) ∷ []) (Comes SlaveToMaster (13 ∷ []) ∷ []))
unfolding cells_of size_of rank_of is_high_priority
output-stops = refl

-- one that passes does so whole
pub others-dont-stop : map (λ m. stopped_at 1 m) (protocol 2 (10 ∷ []) (10 ∷ 13 ∷ []) ∷ ordinary [] ∷ [])
    ≡ leaves 3 6 (ordinary (98 ∷ []) ∷ []) (down (protocol 2 (10 ∷ []) (10 ∷ 13 ∷ [])) ∷ []) [] ∷ leaves 0 6 (ordinary (98 ∷ []) ∷ []) (down (ordinary []) ∷ []) [] ∷ []
unfolding cells_of size_of
others-dont-stop = refl
