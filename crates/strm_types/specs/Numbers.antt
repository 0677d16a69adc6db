-- The numbers of refusals.
use Rattle.std.specs.Prelude.{ℕ, ◌==◌, if◌then◌else◌}
use Rattle.strm_types.specs.declared.refusals.Refusal.{Refusal}
use Rattle.strm_types.specs.declared.refusals.Refusal.TheVariants.{Einval, Eagain, Enxio, Ebadmsg, Enosr, Erange, JournalFull, NoMinor, NoMemory, StillShared, Eio}

-- each refusal has its own, from 1
abbrev pub number_of : Refusal → ℕ
number_of Einval = 1
number_of Eagain = 2
number_of Enxio = 3
number_of Ebadmsg = 4
number_of Enosr = 5
number_of Erange = 6
number_of JournalFull = 7
number_of NoMinor = 8
number_of NoMemory = 9
number_of StillShared = 10
number_of Eio = 11

-- the refusal of a number; EINVAL for one that none has
abbrev pub refusal_numbered : ℕ → Refusal
refusal_numbered n =
    if n == 2 then Eagain else (if n == 3 then Enxio else (if n == 4 then Ebadmsg else (if n == 5 then Enosr else (if n == 6 then Erange
    else (if n == 7 then JournalFull else (if n == 8 then NoMinor else (if n == 9 then NoMemory else (if n == 10 then StillShared else (if n == 11 then Eio else Einval)))))))))
