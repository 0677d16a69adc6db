-- Which lines spell which command: spellings of each command, and lines that are none.
use Rattle.strm_script.proofs.Prelude.{ℕ, ◌≡◌, ◌≢◌, List, [], ◌∷◌, map, refl, arith, codes}
use Rattle.strm_script.specs.Prelude.{MasterToSlave, SlaveToMaster, Master, Slave, Up, ModuleName, Unlock, OpenSlave, Shut, Push, Pop, Look}
use Rattle.strm_script.specs.Prelude.{Write, Read, Ioctl, IoctlResult, MessageDiscard, Refuse}
use Rattle.strm_types.specs.declared.names.Place.TheVariants as places
use Rattle.std.proofs.Common.{lit<, lit≤}
use Rattle.std.specs.Prelude.{true, false, None, Some}
use Rattle.strm_types.specs.declared.names.ModuleName.TheVariants as modules
use Rattle.strm_types.specs.declared.events.FlushQueues.TheVariants as queues
use Rattle.strm_types.specs.declared.events.Event.TheVariants.{Mode}
use Rattle.strm_types.specs.declared.events.Event.TheVariants as calls
use Rattle.strm_types.specs.declared.modes.Mode.TheVariants as modes
use Rattle.strm_script.specs.declared.commands.NamedPrio.TheVariants as prios
use Rattle.strm_script.specs.declared.commands.NamedWanted.TheVariants as wanteds
use Rattle.strm_script.specs.declared.ioctls.IoctlName.{IoctlName}
use Rattle.strm_script.specs.declared.ioctls.IoctlName.TheVariants as ioctls
use Rattle.strm_script.specs.declared.verbs.Verb.{Verb}
use Rattle.strm_script.specs.declared.verbs.Verb.TheVariants as words
use Rattle.strm_script.specs.Named.{named}
use Rattle.strm_script.specs.Script.{Open, Call, Flush, Put, Get, Turn, Run, Show, Ledger, Cut, Group, has_word, module_name, IsName, IsUnknown, IsNumber, Itself, Named, Coded, digit_of, hex_of, escaped}
use Rattle.strm_script.specs.Table.{verbs, ioctl_names, IsSpelled}

twelve : IsNumber (codes "12") 12
unfolding digit_of
twelve = record { some = lit< tt; most = lit≤ tt; value = (1, refl, (2, refl, refl)); fits = lit≤ tt }

pub open-is-spelled : IsSpelled (Open None) (codes "open")
open-is-spelled = (words.Open, codes "open", [], refl, refl, refl)

pub open-with-a-number-is-spelled : IsSpelled (Open (Some 12)) (codes "open 12")
open-with-a-number-is-spelled = (words.Open, codes "open", codes " 12", refl, (12, codes "12", twelve, refl, refl), refl)

pub unlock-is-spelled : IsSpelled (Call Master Unlock) (codes "unlock")
unlock-is-spelled = (words.Unlock, codes "unlock", [], refl, (refl, refl), refl)

pub slave-is-spelled : IsSpelled (Call Slave OpenSlave) (codes "slave")
slave-is-spelled = (words.Slave, codes "slave", [], refl, (refl, refl), refl)

pub cut-is-spelled : IsSpelled (Cut) (codes "cut")
cut-is-spelled = (words.Cut, codes "cut", [], refl, (refl, refl), refl)

pub read-is-spelled : IsSpelled (Call Slave (Read 12)) (codes "read s 12")
read-is-spelled = (words.Read, codes "read", codes " s 12", refl, (Slave, codes "s", codes " 12", refl, (12, codes "12", twelve, refl, refl), refl), refl)

pub run-is-spelled : IsSpelled (Run 12) (codes "run 12")
run-is-spelled = (words.Run, codes "run", codes " 12", refl, (12, codes "12", twelve, refl, refl), refl)

pub turn-is-spelled : IsSpelled (Turn (record { side = Slave; place = places.Module modules.Ldterm; way = Up })) (codes "turn s.ldterm.r")
turn-is-spelled = (words.Turn, codes "turn", codes " s.ldterm.r", refl, (record { side = Slave; place = places.Module modules.Ldterm; way = Up }, codes "s.ldterm.r", (refl, refl), refl, refl), refl)

pub close-is-spelled : IsSpelled (Call Slave Shut) (codes "close s")
close-is-spelled = (words.Close, codes "close", codes " s", refl, (Slave, codes "s", refl, refl, refl), refl)

pub pop-is-spelled : IsSpelled (Call Master Pop) (codes "pop m")
pop-is-spelled = (words.Pop, codes "pop", codes " m", refl, (Master, codes "m", refl, refl, refl), refl)

pub look-is-spelled : IsSpelled (Call Slave Look) (codes "look s")
look-is-spelled = (words.Look, codes "look", codes " s", refl, (Slave, codes "s", refl, refl, refl), refl)

pub show-is-spelled : IsSpelled (Show Master) (codes "show m")
show-is-spelled = (words.Show, codes "show", codes " m", refl, (Master, codes "m", refl, refl, refl), refl)

pub ledgers-are-spelled : IsSpelled (Ledger MasterToSlave) (codes "ledger ms") × IsSpelled (Ledger SlaveToMaster) (codes "ledger sm")
ledgers-are-spelled = (
  (words.Ledger, codes "ledger", codes " ms", refl, (MasterToSlave, codes "ms", refl, refl, refl), refl),
  (words.Ledger, codes "ledger", codes " sm", refl, (SlaveToMaster, codes "sm", refl, refl, refl), refl),
)

-- a push by the name of a module, and by a name that none has
pub push-is-spelled : IsSpelled (Call Slave (Push (Some modules.Ptem))) (codes "push s ptem")
push-is-spelled = (words.Push, codes "push", codes " s ptem", refl, (Slave, codes "s", codes " ptem", refl, (Some modules.Ptem, codes "ptem", (refl, refl), refl, refl), refl), refl)

not-foo : (known : ModuleName) → has_word known ≡ true → codes "foo" ≢ module_name known
not-foo modules.Ldterm has h = cc
not-foo modules.Ptem has h = cc
not-foo modules.Pckt has h = cc
not-foo (modules.Own n) has h = cc

foo : IsUnknown (codes "foo")
foo = record { is_name = record { some = lit< tt; most = lit≤ tt; letters = (refl, (refl, (refl, tt))) }; other = not-foo }

pub push-of-no-module-is-spelled : IsSpelled (Call Slave (Push None)) (codes "push s foo")
push-of-no-module-is-spelled = (words.Push, codes "push", codes " s foo", refl, (Slave, codes "s", codes " foo", refl, (None, codes "foo", foo, refl, refl), refl), refl)

pub name-of-a-module-is-known : IsUnknown (codes "ptem") → ⊥
name-of-a-module-is-known is = is.other modules.Ptem refl refl

pub nine-letters-are-no-name : IsName (codes "abcdefghi") → ⊥
nine-letters-are-no-name is = let most = is.most in omega arith

pub no-letters-are-no-name : IsName [] → ⊥
no-letters-are-no-name is = let some = is.some in omega arith

pub capital-is-no-name : IsName (codes "Foo") → ⊥
capital-is-no-name is = let letter = is.letters.0 in cc

-- a flush of all bands, and of one
pub flush-is-spelled : IsSpelled (Flush Master queues.Both None) (codes "flush m rw")
flush-is-spelled = (words.Flush, codes "flush", codes " m rw", refl, (Master, codes "m", codes " rw", refl, (queues.Both, codes "rw", [], refl, refl, refl), refl), refl)

pub flush-of-a-band-is-spelled : IsSpelled (Flush Slave queues.Read (Some 12)) (codes "flush s r 12")
flush-of-a-band-is-spelled = (words.Flush, codes "flush", codes " s r 12", refl, (Slave, codes "s", codes " r 12", refl, (queues.Read, codes "r", codes " 12", refl, (12, codes "12", twelve, refl, refl), refl), refl), refl)

-- a put of high priority without a data part, and one of a band without a control part
pub put-is-spelled : IsSpelled (Put Slave prios.High (Some (97 ∷ [])) None) (codes "put s hi \"a\" -")
put-is-spelled = (words.Put, codes "put", codes " s hi \"a\" -", refl, (Slave, codes "s", codes " hi \"a\" -", refl, (prios.High, codes "hi", codes " \"a\" -", refl, (Some (97 ∷ []), codes "\"a\"", codes " -", (codes "a", (codes "a", [], Itself 97 (omega arith) (omega arith) (omega arith), refl, refl), refl), (None, codes "-", refl, refl, refl), refl), refl), refl), refl)

pub put-in-a-band-is-spelled : IsSpelled (Put Master (prios.Band 12) None (Some [])) (codes "put m 12 - \"\"")
put-in-a-band-is-spelled = (words.Put, codes "put", codes " m 12 - \"\"", refl, (Master, codes "m", codes " 12 - \"\"", refl, (prios.Band 12, codes "12", codes " - \"\"", twelve, (None, codes "-", codes " \"\"", refl, (Some [], codes "\"\"", ([], refl, refl), refl, refl), refl), refl), refl), refl)

-- a get of any message with the usual sizes, in both spellings, and one of a band
pub get-is-spelled : IsSpelled (Get Slave wanteds.Any 1024 1024) (codes "get s")
get-is-spelled = (words.Get, codes "get", codes " s", refl, (Slave, codes "s", [], refl, refl, refl), refl)

pub get-of-a-band-is-spelled : IsSpelled (Get Master (wanteds.Band 12) 12 12) (codes "get m 12 12 12")
get-of-a-band-is-spelled = (words.Get, codes "get", codes " m 12 12 12", refl, (Master, codes "m", codes " 12 12 12", refl, (wanteds.Band 12, codes "12", codes " 12 12", twelve, (12, codes "12", codes " 12", twelve, (12, codes "12", twelve, refl, refl), refl), refl), refl), refl)

pub modes-are-spelled : IsSpelled (Call Slave (Mode (modes.Read MessageDiscard))) (codes "mode s msgd") × IsSpelled (Call Master (Mode (modes.Control Refuse))) (codes "mode m protnorm")
modes-are-spelled = (
  (words.Mode, codes "mode", codes " s msgd", refl, (Slave, codes "s", codes " msgd", refl, (modes.Read MessageDiscard, codes "msgd", refl, refl, refl), refl), refl),
  (words.Mode, codes "mode", codes " m protnorm", refl, (Master, codes "m", codes " protnorm", refl, (modes.Control Refuse, codes "protnorm", refl, refl, refl), refl), refl),
)

-- an ioctl by a name that takes nothing, one with a size of a window, one with a signal, and one with a text
pub ioctl-is-spelled : IsSpelled (Call Slave (Ioctl 1 [])) (codes "ioctl s TCGETS")
ioctl-is-spelled = (words.Ioctl, codes "ioctl", codes " s TCGETS", refl, (Slave, codes "s", codes " TCGETS", refl, (ioctls.Tcgets, codes "TCGETS", [], refl, (refl, refl), refl), refl), refl)

pub ioctl-of-a-window-is-spelled : IsSpelled (Call Master (Ioctl 6 (0 ∷ 12 ∷ 0 ∷ 12 ∷ 0 ∷ 12 ∷ 0 ∷ 12 ∷ []))) (codes "ioctl m TIOCSWINSZ 12 12 12 12")
ioctl-of-a-window-is-spelled = (words.Ioctl, codes "ioctl", codes " m TIOCSWINSZ 12 12 12 12", refl, (Master, codes "m", codes " TIOCSWINSZ 12 12 12 12", refl, (ioctls.Tiocswinsz, codes "TIOCSWINSZ", codes " 12 12 12 12", refl, (12, codes "12", codes " 12 12 12", (twelve, lit≤ tt), (12, codes "12", codes " 12 12", (twelve, lit≤ tt), (12, codes "12", codes " 12", (twelve, lit≤ tt), (12, codes "12", (twelve, lit≤ tt), refl, refl), refl), refl), refl), refl), refl), refl)

pub ioctl-of-a-signal-is-spelled : IsSpelled (Call Slave (Ioctl 7 (12 ∷ []))) (codes "ioctl s TIOCSIGNAL 12")
ioctl-of-a-signal-is-spelled = (words.Ioctl, codes "ioctl", codes " s TIOCSIGNAL 12", refl, (Slave, codes "s", codes " TIOCSIGNAL 12", refl, (ioctls.Tiocsignal, codes "TIOCSIGNAL", codes " 12", refl, (12, codes "12", (twelve, lit≤ tt), refl, refl), refl), refl), refl)

pub ioctl-of-a-group-is-spelled : IsSpelled (Call Slave (Ioctl 9 (0 ∷ 0 ∷ 0 ∷ 12 ∷ []))) (codes "ioctl s TIOCSPGRP 12")
ioctl-of-a-group-is-spelled = (words.Ioctl, codes "ioctl", codes " s TIOCSPGRP 12", refl, (Slave, codes "s", codes " TIOCSPGRP 12", refl, (ioctls.Tiocspgrp, codes "TIOCSPGRP", codes " 12", refl, (12, codes "12", twelve, refl, refl), refl), refl), refl)

pub ioctl-of-a-text-is-spelled : IsSpelled (Call Slave (Ioctl 2 [])) (codes "ioctl s TCSETS \"\"")
ioctl-of-a-text-is-spelled = (words.Ioctl, codes "ioctl", codes " s TCSETS \"\"", refl, (Slave, codes "s", codes " TCSETS \"\"", refl, (ioctls.Tcsets, codes "TCSETS", codes " \"\"", refl, ([], codes "\"\"", ([], refl, refl), refl, refl), refl), refl), refl)

-- an ioctl by its number; one that has a name may be spelled so, too
pub ioctl-by-its-number-is-spelled : IsSpelled (Call Slave (Ioctl 12 [])) (codes "ioctl s raw 12 \"\"")
ioctl-by-its-number-is-spelled = (words.Ioctl, codes "ioctl", codes " s raw 12 \"\"", refl, (Slave, codes "s", codes " raw 12 \"\"", refl, (ioctls.Raw, codes "raw", codes " 12 \"\"", refl, (12, codes "12", codes " \"\"", twelve, ([], codes "\"\"", ([], refl, refl), refl, refl), refl), refl), refl), refl)

pub poll-is-spelled : IsSpelled (Call Master (IoctlResult 12)) (codes "poll m 12")
poll-is-spelled = (words.Poll, codes "poll", codes " m 12", refl, (Master, codes "m", codes " 12", refl, (12, codes "12", twelve, refl, refl), refl), refl)

pub signals-is-spelled : IsSpelled (Call Slave calls.Signals) (codes "signals s")
signals-is-spelled = (words.Signals, codes "signals", codes " s", refl, (Slave, codes "s", refl, refl, refl), refl)

-- a caller of a process group that ignores what would stop it
pub group-is-spelled : IsSpelled (Group (record { side = Slave; group = 12; ignores = true; orphaned = false })) (codes "group s 12 i")
group-is-spelled = (words.Group, codes "group", codes " s 12 i", refl, (Slave, codes "s", codes " 12 i", refl, (12, codes "12", codes " i", twelve, ((true, false), codes "i", refl, refl, refl), refl), refl), refl)

-- a byte as it is, one by its name, one by its number
pub write-is-spelled : IsSpelled (Call Master (Write (97 ∷ 10 ∷ 255 ∷ []))) (codes "write m \"a\\n\\xfF\"")
unfolding hex_of escaped
write-is-spelled = (
  words.Write,
  codes "write",
  codes " m \"a\\n\\xfF\"",
  refl,
  (
    Master,
    codes "m",
    codes " \"a\\n\\xfF\"",
    refl,
    (
      97 ∷ 10 ∷ 255 ∷ [],
      codes "\"a\\n\\xfF\"",
      (
        codes "a\\n\\xfF",
        (
          codes "a",
          codes "\\n\\xfF",
          Itself 97 (omega arith) (omega arith) (omega arith),
          refl,
          (
            codes "\\n",
            codes "\\xfF",
            Named 110 10 refl,
            refl,
            (codes "\\xfF", [], Coded 102 70 15 15 refl refl, refl, refl),
          ),
        ),
        refl,
      ),
      refl,
      refl,
    ),
    refl,
  ),
  refl,
)

-- each word is one command's: no row of the table stands behind another with its word
pub words-differ : map (λ (row : List ℕ × Verb). named verbs row.0) verbs ≡ map (λ (row : List ℕ × Verb). Some row.1) verbs
words-differ = refl

pub words-of-ioctls-differ : map (λ (row : List ℕ × IoctlName). named ioctl_names row.0) ioctl_names ≡ map (λ (row : List ℕ × IoctlName). Some row.1) ioctl_names
words-of-ioctls-differ = refl

-- eleven digits are no number, and neither is none, nor one above the limit
pub eleven-digits-are-no-number : (n : ℕ) → IsNumber (codes "00000000012") n → ⊥
eleven-digits-are-no-number n is = let most = is.most in omega arith

pub no-digits-are-no-number : (n : ℕ) → IsNumber [] n → ⊥
no-digits-are-no-number n is = let some = is.some in omega arith

pub number-above-the-limit : (digits : List ℕ) → IsNumber digits 4294967296 → ⊥
number-above-the-limit digits is = let fits = is.fits in omega arith
