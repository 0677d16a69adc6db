-- Several stages of a turn on plain bytes, one after the other, before its end.
use Rattle.std.specs.Prelude.{ℕ, zero, suc, ◌+◌, ◌*◌, true, if◌then◌else◌, [], ◌++◌}
use Rattle.strm_ldterm.specs.Prelude.{Spot, plain, Acted, next_stage, Discipline, Stage, Between, Begun, Answered, sends, is_none_left}

-- how many stages of a byte that has begun are left, and whether one has begun
abbrev pub stages_left : Stage ℕ → ℕ
stages_left Between = 0
stages_left (Begun started c) = 2
stages_left (Answered echo) = 1

abbrev pub under_way : Stage ℕ → ℕ
under_way Between = 0
under_way _ = 1

-- one thing and then another, unless the first one sends something
abbrev pub one_after : Acted ℕ (Discipline ℕ) → (Discipline ℕ → Acted ℕ (Discipline ℕ)) → Acted ℕ (Discipline ℕ)
one_after t next = if is_none_left t.sent then joined (next t.state) else t
  where
    joined : Acted ℕ (Discipline ℕ) → Acted ℕ (Discipline ℕ)
    joined u = record { state = u.state; notes = t.notes ++ u.notes; sent = u.sent; gone = t.gone ++ u.gone }

-- so many stages, up to the first one that sends something
abbrev pub ahead : Spot → ℕ → Discipline ℕ → Acted ℕ (Discipline ℕ)
ahead here zero p = sends [] p
ahead here (suc n) p = one_after (next_stage plain here 0 p) (ahead here n)

-- so many bytes, behind what is left of one that has begun
abbrev pub bytes_on : Spot → ℕ → Discipline ℕ → Acted ℕ (Discipline ℕ)
bytes_on here n p = ahead here (stages_left p.stage + 3 * n) p

-- How many blocks of each kind the rest of a byte takes at most, beside one in which the bytes that are gathered may become a packet, and how
-- many are free at least behind a call that leaves the byte there, for it and for the delivery of what the call sent.
abbrev pub needs : Stage ℕ → ℕ
needs Between = 1
needs (Begun started c) = 28
needs (Answered echo) = 2

abbrev pub leaves : Stage ℕ → ℕ
leaves Between = 1
leaves (Begun started c) = 31
leaves (Answered echo) = 26

-- how many notes a call may tell of at most, from where it is: of output that was started, and of the echo that begins
abbrev pub notes_left : Discipline ℕ → ℕ
notes_left p = of_stage p.stage + (if p.echoing then 0 else 1)
  where
    of_stage : Stage ℕ → ℕ
    of_stage (Begun true c) = 1
    of_stage _ = 0
