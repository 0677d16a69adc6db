-- What holds of ldterm between the calls of its procedures.
use Rattle.std.specs.Prelude.{◌≡◌, Bool, true, false, not, ◌&&◌, ◌==◌, [], None, is_some}
use Rattle.std.specs.List.{list_any}
use Rattle.strm_laws.specs.Prelude.{Way, Up, is_data, Discipline, Between, is_between, Message, is_none_left}
use Rattle.strm_types.specs.Ldterms.{Ldterm}

-- a message as an echo is: M_DATA of band 0
abbrev pub is_echo : {C : Type 0} → Message C → Bool
is_echo m = is_data m.kind && (m.band == 0)

-- While a turn's echo grows, such a message stands on the write queue. Where no message is in work, no byte is under way, nothing
-- waits to go up, and no echo grows.
pub record IsOrderly {C : Type 0} (l : Discipline C) : Type 0 where
  pub echo : l.echoing ≡ true → list_any is_echo l.write_queue.messages ≡ true
  pub idle : l.in_work ≡ None → (l.stage ≡ Between) × (l.gathered ≡ []) × (l.echoing ≡ false)

-- A turn of the read queue goes on alone: no other one begins while a message is in work.
abbrev pub IsItsTurn : {C : Type 0} → Way → Bool → Discipline C → Type 0
IsItsTurn Up true l = Unit {0}
IsItsTurn way again l = l.in_work ≡ None

abbrev pub ldterm_rests : {C : Type 0} → Ldterm C → Bool
ldterm_rests l = not (is_some l.in_work) && (is_none_left l.gathered && (not l.echoing && is_between l.stage))
