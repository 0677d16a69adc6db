-- Calls that push no module, pop none and close no side leave each stream its modules, by their names.
use Rattle.strm_pair.proofs.Prelude.{ℕ, ◌≡◌, Bool, true, false, cond, List, refl, ◌∙◌, Option, None, Some}
use Rattle.strm_pair.specs.Prelude.{Behaviour, Message, Prio, Side, Master, Slave, State, cells_written, direction_from, mode_put, of_all, plain, book}
use Rattle.strm_pair.specs.Prelude.{stands_of, stream, with_stream, is_open, new_head, Open, EndClosed, head_emptied}
use Rattle.strm_types.specs.declared.events.FlushQueues.{FlushQueues}
use Rattle.strm_types.specs.declared.kinds.Band as bands
use Rattle.strm_types.specs.declared.modes.Mode.{Mode}
use Rattle.strm_types.specs.declared.modes.ReadMode.{ReadMode}
use Rattle.strm_types.specs.declared.modes.Wanted.{Wanted}
use Rattle.strm_types.specs.JobControl.{asks_group}
use Rattle.strm_laws.specs.Calls.{Outcome, get_at, group_at, ioctl_at, ioctl_begun, ioctl_called, ioctl_sent, ioctl_told, mode_set, opened_master, opened_slave, put_at, read_at, signals_told, wrote}
use Rattle.strm_laws.specs.Closes.{driver_emptied, ended, hung_up_at}
use Rattle.strm_laws.specs.Pushes.{ioctl_dropped}
use Rattle.strm_laws.specs.Puts.{flushed_on}
use Rattle.strm_laws.proofs.PutParts.{either-holds}
use Rattle.strm_laws.proofs.StackStays.{delivered-stands, same-names}
use Rattle.strm_laws.proofs.WriteSteps.{cells_sent-holds}

-- of two the one that is meant
either : {A : Type 0} (P : A → Type 0) (b : Bool) (x y : A) → P x → P y → P (cond b x y)
either P true x y first second = first
either P false x y first second = second

abbrev St : Type 0
St = State ℕ

pub master-stands : (s : State ℕ) → stands_of (opened_master s) ≡ stands_of s
master-stands s = same-names Master (record (stream Master s) { opened = Open }) s refl

pub slave-stands : (s : State ℕ) → stands_of (opened_slave s) ≡ stands_of s
slave-stands s = same-names Slave (record (stream Slave s) { opened = Open; head = new_head }) s refl

pub read-stands : (side : Side) (n : ℕ) (s : State ℕ) → stands_of (read_at plain side n s).state ≡ stands_of s
read-stands side n s = same-names side _ s refl

pub get-stands : (side : Side) (wanted : Wanted) (cmax dmax : ℕ) (s : State ℕ) → stands_of (get_at plain side wanted cmax dmax s).state ≡ stands_of s
get-stands side wanted cmax dmax s = same-names side _ s refl

pub mode-stands : (side : Side) (mode : Mode) (s : State ℕ) → stands_of (mode_set side mode s) ≡ stands_of s
mode-stands side mode s = same-names side _ s refl

pub told-stands : (side : Side) (s : State ℕ) → stands_of (ioctl_told side s).state ≡ stands_of s
told-stands side s = same-names side _ s refl

pub signals-stand : (side : Side) (s : State ℕ) → stands_of (signals_told side s).state ≡ stands_of s
signals-stand side s = same-names side _ s refl

module _ (K : Behaviour) (side : Side) where
  pub flush-stands : (band : Option bands.Band) (what : FlushQueues) (s : State ℕ) → stands_of (flushed_on K plain band side what s).state ≡ stands_of s
  flush-stands band what s = delivered-stands K plain _ _ s

  pub write-stands : (bytes : List ℕ) (s : State ℕ) → stands_of (wrote K plain side bytes s).state ≡ stands_of s
  write-stands bytes s =
      let dir = direction_from side in
      cells_sent-holds K plain (λ (v : St). stands_of v ≡ stands_of s) (λ to m v is. delivered-stands K plain to m v ∙ is) side (cells_written plain dir (book dir s).written bytes) s refl

  pub put-stands : (prio : Prio) (control body : Option (List ℕ)) (s : State ℕ) → stands_of (put_at K plain side prio control body s).state ≡ stands_of s
  put-stands prio None None s = refl
  put-stands prio None (Some xs) s = delivered-stands K plain _ _ s
  put-stands prio (Some xs) body s = delivered-stands K plain _ _ s

  pub ioctl-stands : (command : ℕ) (body : List ℕ) (s : State ℕ) → stands_of (ioctl_called K plain side command body s).state ≡ stands_of s
  ioctl-stands command body s =
      either (λ (o : Outcome ℕ). stands_of o.state ≡ stands_of s) (asks_group side command) (group_at side command body s) (ioctl_at K plain side command body s)
      (same-names side _ s refl)
      (same-names side _ (ioctl_sent K plain side command body s).state refl ∙ delivered-stands K plain _ _ (ioctl_begun side command s) ∙ same-names side _ s refl)

-- and so do the steps of a push, of a pop and of a close
pub put-mode-stands : (side : Side) (mode : Option ReadMode) (s : State ℕ) → stands_of (mode_put side mode s).state ≡ stands_of s
put-mode-stands side None s = refl
put-mode-stands side (Some mode) s =
    either-holds (λ (v : St). stands_of v ≡ stands_of s) (is_open (stream side s).opened) _ _ (same-names side (record (stream side s) { head = _ }) s refl) refl

pub drop-stands : (side : Side) (ms : List (Message ℕ)) (s : State ℕ) → stands_of (ioctl_dropped side ms s) ≡ stands_of s
drop-stands side ms s = same-names side _ s refl

pub head-stands : (side : Side) (s : State ℕ) → stands_of (head_emptied EndClosed of_all side s).state ≡ stands_of s
head-stands side s = same-names side _ s refl

pub driver-stands : (side : Side) (s : State ℕ) → stands_of (driver_emptied EndClosed of_all side s).state ≡ stands_of s
driver-stands side s = same-names side _ s refl

pub ended-stands : (side : Side) (s : State ℕ) → stands_of (ended side s) ≡ stands_of s
ended-stands side s = same-names side _ s refl

pub hung-stands : (side : Side) (s : State ℕ) → stands_of (hung_up_at side s) ≡ stands_of s
hung-stands side s =
    let t = stream side s in
    either (λ (v : St). stands_of v ≡ stands_of s) (is_open t.opened) (with_stream side (record t { head = record t.head { hung_up = true } }) s) s (same-names side _ s refl) refl
