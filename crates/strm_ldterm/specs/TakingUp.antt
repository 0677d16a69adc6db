-- How a termios is taken up, step by step, and how many blocks each step takes.
use Rattle.std.specs.Prelude.{ℕ, min, ◌==◌, if◌then◌else◌, List, [], length}
use Rattle.strm_ldterm.specs.Prelude.{TCSETSF, Spot, Termios, Acted, Discipline, sends, ends_lines, line_up}

-- an M_FLUSH where a command flushes input, and a line where there is one
abbrev pub flush_takes : ℕ → ℕ
flush_takes command = if command == TCSETSF then 1 else 0

abbrev pub line_takes : List ℕ → ℕ
line_takes line = min 1 (length line)

-- the termios is set, and where lines are made no longer the unfinished one goes up
abbrev pub termios_set : Spot → Termios → Discipline ℕ → Acted ℕ (Discipline ℕ)
termios_set here t p =
    let ends = ends_lines p.termios t in
    sends (if ends then line_up here p.line else []) (record p { termios = t; line = if ends then [] else p.line })
