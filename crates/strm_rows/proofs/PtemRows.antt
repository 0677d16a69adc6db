-- What ptem does with what is put at it, as worked out by hand from ptem(7M), termio(7I) and ptm(7D).
use Rattle.strm_rows.proofs.Prelude.{ℕ, ◌≡◌, true, false, List, [], ◌∷◌, ◌++◌, map, refl, replicate, take, Some, Sig, Ctl, Ioctl, Setopts, Iocack}
use Rattle.strm_rows.proofs.Prelude.{Iocnak, Pcsig, Read, Flush, Stop, Start, Hangup, Error, Master, Slave, Way, Up, Down, Spot, Termios, Acted}
use Rattle.strm_rows.proofs.Prelude.{Parcel, Message, first_termios, termios_bytes, header, ordinary, without_parts}
use Rattle.strm_types.specs.Acks.{ack_message, payload, telling_message}
use Rattle.strm_types.specs.Commands.{sets_termios}
use Rattle.strm_types.specs.Ptems.{Ptem, new_ptem, ptem_puts}
use Rattle.strm_rows.proofs.LdtermRows.{protocol}
use Rattle.strm_rows.proofs.WinsizeRows.{window}

-- what answers and tells

-- an M_IOCACK has the command, the number and what is given; it has no refusal and no result, whatever its M_IOCTL had
pub acks-are-made : ack_message {C = ℕ} (record { command = 5; number = 7; error = 9; result = 3 }) (200 ∷ 201 ∷ []) ≡ without_parts Iocack (header 5 7 0 ++ 200 ∷ 201 ∷ [])
acks-are-made = refl

-- an M_IOCTL that tells has the command and the payload, and number 0
pub telling-has-no-number : telling_message {C = ℕ} (record { command = 5; number = 7; error = 9; result = 3 }) (200 ∷ 201 ∷ []) ≡ without_parts Ioctl (header 5 0 0 ++ 200 ∷ 201 ∷ [])
telling-has-no-number = refl

pub payloads-stand-behind-headers : map payload (header 5 7 0 ∷ (header 5 7 0 ++ 200 ∷ 201 ∷ []) ∷ []) ≡ [] ∷ (200 ∷ 201 ∷ []) ∷ []
payloads-stand-behind-headers = refl

-- the module

pub pushed : new_ptem ≡ record { termios = first_termios; window = window 0 0 0 0 }
pushed = refl

-- a termios that differs from the first one, and a window of 24 rows and 80 columns
abbrev other_termios : Termios
other_termios = record first_termios { cflag = 0x01020304; control = replicate 19 7 }

abbrev sized : Ptem
sized = record { termios = other_termios; window = window 24 80 640 480 }

abbrev at : Way → Spot
at way = record { side = Slave; at = 2; way = way }

-- an M_IOCTL of a command, of number 7 and with a payload
abbrev ioctl : ℕ → List ℕ → Message ℕ
ioctl command given = without_parts Ioctl (header command 7 0 ++ given)

abbrev up : Message ℕ → Parcel ℕ
up m = record { to = record { side = Slave; at = 1; way = Up }; message = m }

abbrev down : Message ℕ → Parcel ℕ
down m = record { to = record { side = Slave; at = 3; way = Down }; message = m }

abbrev does : List (Parcel ℕ) → Ptem → Acted ℕ Ptem
does sent p = record { state = p; notes = []; sent = sent; gone = [] }

-- what becomes of an M_IOCTL that comes down, and of one that comes up
abbrev from_above : ℕ → List ℕ → Acted ℕ Ptem
from_above command given = ptem_puts (at Down) (ioctl command given) sized

abbrev from_below : ℕ → List ℕ → Acted ℕ Ptem
from_below command given = ptem_puts (at Up) (ioctl command given) sized

abbrev acked : ℕ → List ℕ → Message ℕ
acked command given = without_parts Iocack (header command 7 0 ++ given)

-- EINVAL
abbrev nakked : ℕ → Message ℕ
nakked command = without_parts Iocnak (header command 7 1)

abbrev told : ℕ → List ℕ → Message ℕ
told command given = without_parts Ioctl (header command 0 0 ++ given)

abbrev sigwinch : Message ℕ
sigwinch = without_parts Pcsig (20 ∷ [])

-- from above

-- TCGETS and TIOCGWINSZ are answered, with a payload too
pub termios-is-told : map (from_above 1) ([] ∷ (1 ∷ 2 ∷ []) ∷ []) ≡ replicate 2 (does (up (acked 1 (termios_bytes other_termios)) ∷ []) sized)
termios-is-told = refl

pub window-is-told : map (from_above 5) ([] ∷ replicate 8 9 ∷ []) ≡ replicate 2 (does (up (acked 5 (0 ∷ 24 ∷ 0 ∷ 80 ∷ 2 ∷ 128 ∷ 1 ∷ 224 ∷ [])) ∷ []) sized)
window-is-told = refl

-- TCSETS, TCSETSW and TCSETSF: the answer goes up with the payload, then the M_IOCTL of number 0 down. No signal goes up.
pub termios-is-set : map (λ command. from_above command (termios_bytes first_termios)) (2 ∷ 3 ∷ 4 ∷ [])
    ≡ map (λ command. does (up (acked command (termios_bytes first_termios)) ∷ down (told command (termios_bytes first_termios)) ∷ []) (record sized { termios = first_termios })) (2 ∷ 3 ∷ 4 ∷ [])
termios-is-set = refl

pub commands-that-set-termios : map sets_termios (0 ∷ 1 ∷ 2 ∷ 3 ∷ 4 ∷ 5 ∷ 6 ∷ 7 ∷ 8 ∷ []) ≡ false ∷ false ∷ true ∷ true ∷ true ∷ false ∷ false ∷ false ∷ false ∷ []
commands-that-set-termios = refl

-- 34 or 36 bytes are no termios; nothing is set, and nothing goes down
pub other-termios-are-refused : map (λ command. map (λ n. from_above command (replicate n 0)) (0 ∷ 34 ∷ 36 ∷ [])) (2 ∷ 3 ∷ 4 ∷ []) ≡ map (λ command. replicate 3 (does (up (nakked command) ∷ []) sized)) (2 ∷ 3 ∷ 4 ∷ [])
other-termios-are-refused = refl

-- TIOCSWINSZ: the answer with the payload, the M_IOCTL of number 0, and then SIGWINCH, as the window changed
abbrev larger : List ℕ
larger = 0 ∷ 25 ∷ 0 ∷ 80 ∷ 2 ∷ 128 ∷ 1 ∷ 224 ∷ []

pub window-is-set : from_above 6 larger ≡ does (up (acked 6 larger) ∷ down (told 6 larger) ∷ up sigwinch ∷ []) (record sized { window = window 25 80 640 480 })
window-is-set = refl

-- without a change all the same is sent, but SIGWINCH
abbrev the_same : List ℕ
the_same = 0 ∷ 24 ∷ 0 ∷ 80 ∷ 2 ∷ 128 ∷ 1 ∷ 224 ∷ []

pub window-is-set-again : from_above 6 the_same ≡ does (up (acked 6 the_same) ∷ down (told 6 the_same) ∷ []) sized
window-is-set-again = refl

pub other-windows-are-refused : map (λ n. from_above 6 (replicate n 0)) (0 ∷ 7 ∷ 9 ∷ 35 ∷ []) ≡ replicate 4 (does (up (nakked 6) ∷ []) sized)
other-windows-are-refused = refl

-- 0, TIOCSIGNAL and what nobody knows go on down
pub other-commands-go-down : map (λ command. from_above command (9 ∷ [])) (0 ∷ 7 ∷ 8 ∷ 9 ∷ 200 ∷ []) ≡ map (λ command. does (down (ioctl command (9 ∷ [])) ∷ []) sized) (0 ∷ 7 ∷ 8 ∷ 9 ∷ 200 ∷ [])
other-commands-go-down = refl

-- from below

-- TIOCSWINSZ: SIGWINCH where the window changed, and then the answer without the payload
pub window-is-set-from-below : map (from_below 6) (larger ∷ the_same ∷ [])
    ≡ does (up sigwinch ∷ down (acked 6 []) ∷ []) (record sized { window = window 25 80 640 480 }) ∷ does (down (acked 6 []) ∷ []) sized ∷ []
window-is-set-from-below = refl

-- TIOCSIGNAL: the signal, and then the answer
pub signals-from-below : map (λ signal. from_below 7 (signal ∷ [])) (1 ∷ 2 ∷ 31 ∷ []) ≡ map (λ signal. does (up (without_parts Pcsig (signal ∷ [])) ∷ down (acked 7 []) ∷ []) sized) (1 ∷ 2 ∷ 31 ∷ [])
signals-from-below = refl

-- a window of 7 or 9 bytes; no signal, 0, 32 and two bytes
pub refused-from-below : map (λ n. from_below 6 (replicate n 0)) (0 ∷ 7 ∷ 9 ∷ []) ∷ map (from_below 7) ([] ∷ (0 ∷ []) ∷ (32 ∷ []) ∷ (2 ∷ 3 ∷ []) ∷ []) ∷ []
    ≡ replicate 3 (does (down (nakked 6) ∷ []) sized) ∷ replicate 4 (does (down (nakked 7) ∷ []) sized) ∷ []
refused-from-below = refl

-- all others go on up
pub other-commands-go-up : map (λ command. from_below command []) (0 ∷ 1 ∷ 2 ∷ 3 ∷ 4 ∷ 5 ∷ 8 ∷ 9 ∷ []) ≡ map (λ command. does (up (ioctl command []) ∷ []) sized) (0 ∷ 1 ∷ 2 ∷ 3 ∷ 4 ∷ 5 ∷ 8 ∷ 9 ∷ [])
other-commands-go-up = refl

-- number 0, by which the other side tells of a change, is as any other one
pub number-0-is-answered : ptem_puts (at Up) (told 6 larger) sized ≡ does (up sigwinch ∷ down (without_parts Iocack (header 6 0 0)) ∷ []) (record sized { window = window 25 80 640 480 })
number-0-is-answered = refl

pub number-0-from-above : ptem_puts (at Down) (told 5 []) sized ≡ does (up (without_parts Iocack (header 5 0 0 ++ the_same)) ∷ []) sized
number-0-from-above = refl

-- all else passes, both ways

-- an M_IOCTL whose header is cut off, messages of each other kind, and what has parts
abbrev others : List (Message ℕ)
others = without_parts Ioctl (take 15 (header 5 7 0)) ∷ without_parts Ioctl [] ∷ ordinary (1 ∷ 2 ∷ []) ∷ protocol 2 (1 ∷ []) (2 ∷ []) ∷ record (ioctl 5 []) { body = Some (8 ∷ []) }
    ∷ map (λ kind. without_parts kind (header 5 7 0)) (Sig ∷ Ctl ∷ Setopts ∷ Iocack ∷ Iocnak ∷ Pcsig ∷ Read ∷ Flush ∷ Stop ∷ Start ∷ Hangup ∷ Error ∷ [])

pub others-go-down : map (λ m. ptem_puts (at Down) m sized) others ≡ map (λ m. does (down m ∷ []) sized) others
others-go-down = refl

pub others-go-up : map (λ m. ptem_puts (at Up) m sized) others ≡ map (λ m. does (up m ∷ []) sized) others
others-go-up = refl

-- on the master's side too
pub master-has-one : ptem_puts (record { side = Master; at = 1; way = Down }) (ioctl 5 []) new_ptem
    ≡ does (record { to = record { side = Master; at = 0; way = Up }; message = without_parts Iocack (header 5 7 0 ++ replicate 8 0) } ∷ []) new_ptem
master-has-one = refl
