-- Runs of plain bytes: they stand in the line, or wait to go up, and are echoed as themselves, and do nothing else (termio(7I): "Canonical
-- Mode Input Processing", "Non-Canonical Mode Input Processing", ECHO).
use Rattle.std.specs.Prelude.{ℕ, ◌≡◌, ◌≤◌, ◌+◌, Bool, true, false, not, ◌&&◌, ◌||◌, ◌==◌, if◌then◌else◌, List, [], ◌++◌, length, drop}
use Rattle.std.specs.List.{list_any}
use Rattle.strm_ldterm.specs.Prelude.{LINE_MAX, Spot, Termios, plain, Acted, is_control, cells_left, with_left, carriage_return, lowered, newline}
use Rattle.strm_ldterm.specs.Prelude.{stripped, Discipline, sends, count_of, flow_of, echo, icanon, icrnl, igncr, inlcr, isig, istrip, iuclc, ixon}
use Rattle.strm_ldterm.specs.Prelude.{echo_grows, echo_stands}

-- the modes in which a control byte of the termios may be a key: ICANON, ISIG and IXON
abbrev pub has_keys : Termios → Bool
has_keys t = icanon t || (isig t || ixon t)

-- the modes in which a newline or a carriage return may be taken as another byte, or as a key: ICANON, IGNCR, ICRNL and INLCR
abbrev pub turns_ends : Termios → Bool
turns_ends t = icanon t || (igncr t || (icrnl t || inlcr t))

-- A byte that is no key in this mode, is taken as itself, and is echoed as itself where there is an echo.
abbrev pub is_plain : Termios → ℕ → Bool
is_plain t b =
    not (echo t && is_control b)
    && (not (turns_ends t && (b == newline || b == carriage_return))
    && (not (has_keys t && list_any (λ c. c == b) t.control)
    && lowered t (stripped t b) == b))

-- raw mode without an echo: each byte is plain
abbrev pub is_raw : Termios → Bool
is_raw t = not (has_keys t) && (not (turns_ends t) && (not (echo t) && (not (istrip t) && not (iuclc t))))

-- it stands in the line, or waits to go up where no lines are made
abbrev pub typed_run : List ℕ → Discipline ℕ → Discipline ℕ
typed_run run p = if icanon p.termios then record p { line = p.line ++ run } else record p { gathered = p.gathered ++ run }

-- and is echoed as itself
abbrev pub run_echoed : Spot → List ℕ → Discipline ℕ → Acted ℕ (Discipline ℕ)
run_echoed here run p = if echo p.termios then (if p.echoing then echo_grows plain here run p else echo_stands plain here run p) else sends [] p

-- what a run does that is taken off the front of the message in work
abbrev pub run_done : Spot → List ℕ → Discipline ℕ → Acted ℕ (Discipline ℕ)
run_done here run p = run_echoed here run (typed_run run (with_left (drop (length run) (cells_left p)) p))

-- So many plain bytes may be treated at once: output isn't stopped, no LNEXT stands before them, the line has room for them, and band 0 of
-- the write queue isn't full before the last one is echoed.
pub record MayRun (bytes : ℕ) (p : Discipline ℕ) : Type 0 where
  pub running : p.stopped ≡ false
  pub free : p.after_lnext ≡ false
  pub line : icanon p.termios ≡ true → length p.line + bytes ≤ LINE_MAX
  pub room : echo p.termios ≡ true → count_of 0 p.write_queue.messages + bytes ≤ (flow_of 0 p.write_queue).high

-- What is left of the message in work goes up as it is: each of its bytes is plain in raw mode, output isn't stopped, no LNEXT stands before them,
-- nothing waits to go up before them, and no echo of the turn stands.
pub record MayPass (p : Discipline ℕ) : Type 0 where
  pub raw : is_raw p.termios ≡ true
  pub running : p.stopped ≡ false
  pub free : p.after_lnext ≡ false
  pub first : p.gathered ≡ []
  pub quiet : p.echoing ≡ false
