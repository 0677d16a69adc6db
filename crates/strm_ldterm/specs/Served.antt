-- Where a turn of a queue stands behind a call of its service procedure.
use Rattle.std.specs.Prelude.{◌≡◌, Bool, true, is_some}
use Rattle.strm_ldterm.specs.Prelude.{Way, Up, Discipline, Ldterm, by_itself}
use Rattle.strm_types.specs.Ldterms.{Rests}

-- While a turn of the read queue is to be called again, a message is in work. Else nothing of a turn is under way.
abbrev pub MayBeServed : {C : Type 0} → Way → Bool → Ldterm C → Type 0
MayBeServed Up true l = is_some l.in_work ≡ true
MayBeServed way again l = Rests l

-- the same of the module with its queues
abbrev pub IsServed : {C : Type 0} → Way → Bool → Discipline C → Type 0
IsServed way again p = MayBeServed way again (by_itself p)
