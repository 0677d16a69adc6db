-- An end, as contracts see it, and what calls do to it.
use Rattle.std.specs.Prelude.{◌≡◌, ◌≢◌, ℕ, Bool, ◌+◌, ◌-◌, ◌/◌, ◌⊎◌, List, [], ◌∷◌, ◌++◌, Result, Ok, Err, MatchResult}
use Rattle.strm_types.specs.declared.answers.Answer.{Answer}
use Rattle.strm_types.specs.declared.events.Caller.{Caller}
use Rattle.strm_types.specs.declared.events.Event.TheVariants.{OpenMaster, OpenSlave}
use Rattle.strm_types.specs.declared.limits.Config.{Config}
use Rattle.strm_types.specs.declared.names.Side.TheVariants.{Slave}
use Rattle.strm_types.specs.declared.refusals.Refusal.{Refusal}
use Rattle.strm_types.specs.declared.refusals.Refusal.TheVariants.{Erange}
use Rattle.strm_types.specs.Events.{Request}
use Rattle.strm_types.specs.JobControl.{caller_of}
use Rattle.strm_types.specs.Journal.{PlainEntry}
use Rattle.strm_laws.specs.Pair.{PairState}
use Rattle.strm_locks.specs.declared.end.TheConstants.{ALL_PARTS}
use Rattle.strm_locks.specs.declared.told.Told.{Told}
use Rattle.strm_locks.specs.Books.{IsNew, LockId, nothing, plus, tally_of}
use Rattle.strm_locks.specs.Rules.{Mine, share}
use Rattle.strm_locks.specs.Shares.{Does, IsShut, Makes, Outcome, Tells, entry_of, opener}
use Rattle.strm_locks.specs.Sounds.{IsSoundAt}

-- an end: its lock, whom it calls as, what it was told, the entries of its calls, its parts, and the pairs that its calls met, two for each: as the call found it, and as it left it
pub record Share : Type 0 where
  pub lock : LockId
  pub caller : Caller
  pub told : Told
  pub made : List PlainEntry
  pub parts : ℕ
  pub met : List PairState

-- the end is of this lock
abbrev pub IsOf : LockId → Share → Type 0
IsOf lock e = e.lock ≡ lock

-- the end met the pair p, and left it as q
abbrev pub passing : Share → PairState → PairState → Share
passing a p q = record a { met = a.met ++ p ∷ [] ++ q ∷ [] }

-- the end was told of one call more, of the pair p that became q; nothing else changes
abbrev pub Gains : Share → PairState → PlainEntry → PairState → Share → Type 0
Gains a p e q b = (more : Told) × Tells p e more × (b ≡ record (passing a p q) { told = plus a.told more; made = a.made ++ e ∷ [] })

-- the end whose later calls a process of this group makes: only job control asks for that
abbrev pub grouped_end : ℕ → Bool → Bool → Share → Share
grouped_end group ignores orphaned e = record e { caller = record e.caller { group = group; ignores = ignores; orphaned = orphaned } }

-- the end that keeps what it was told where it is cut in two, and the other, with half of the parts, rounded down
abbrev pub kept_end : Share → Share
kept_end e = record e { parts = e.parts - e.parts / 2 }

abbrev pub split_end : Share → Share
split_end e = record e { told = nothing; made = []; parts = e.parts / 2; met = [] }

-- the slave's end that is cut off one that opens the slave
abbrev pub slave_end : Share → Share
slave_end e = record { lock = e.lock; caller = caller_of Slave; told = nothing; made = []; parts = e.parts / 2; met = [] }

-- one end of two, with what both were told and the parts of both
abbrev pub joined_end : Share → Share → Share
joined_end a b = record a { told = plus a.told b.told; made = a.made ++ b.made; parts = a.parts + b.parts; met = a.met ++ b.met }

-- what an end is told of a call on the pair p, which became q: the call with this answer; or nothing, as it was refused
abbrev pub IsTold : Share → PairState → Request → List ℕ → Outcome → PairState → Share → Type 0
IsTold a p asked bytes r q b = MatchResult r
    (λ x. Gains a p (entry_of a.caller asked bytes x) q b)
    (λ _. b ≡ passing a p q)

-- A call by an end, with the bytes of the caller's buffer before and behind it: the end met its lock's pair, to which this call was done and nothing else, and was told of just that
pub record Calls (a : Share) (asked : Request) (before bytes : List ℕ) (r : Outcome) (b : Share) : Type 0 where
  pub found : PairState
  pub left : PairState
  pub sound : IsSoundAt a.lock found
  pub does : Does found a.caller asked before bytes r left
  pub told : IsTold a found asked bytes r left b

-- An end is cut in two, or comes back where it has one part. Here and below an end stands alone, or in what a system gives out; the other may stand otherwise.
abbrev pub Splits : {E : Type 0} → (Share → E) → (Share → E) → Share → Result (E × E) E → Type 0
Splits stands other e r = MatchResult r
    (λ two. (e.parts ≢ 1) × (two.0 ≡ stands (kept_end e)) × (two.1 ≡ other (split_end e)))
    (λ one. (e.parts ≡ 1) × (one ≡ stands e))

-- The end a is c since it called for the slave, whose end is given out: it made that call, and was cut in two. An end of one part makes no call, and is refused by ERANGE, and it alone.
abbrev pub CallsSlave : {E : Type 0} → (Share → E) → Share → Result E Refusal → Share → Type 0
CallsSlave stands a r c = MatchResult r
    (λ slave. (a.parts ≢ 1) × (x : Answer ℕ) × (bytes : List ℕ) × (b : Share) × Calls a OpenSlave [] bytes (Ok x) b × (c ≡ kept_end b) × (slave ≡ stands (slave_end a)))
    (λ z. ((a.parts ≡ 1) × (z ≡ Erange) × (c ≡ a)) ⊎ ((a.parts ≢ 1) × (z ≢ Erange) × Calls a OpenSlave [] [] (Err z) c))

-- The end that opened a pair: it met one that nobody had opened, has all its parts, and was told of that call alone.
pub record IsOpened (lock : LockId) (e : Share) : Type 0 where
  pub here : IsOf lock e
  pub caller : e.caller ≡ opener
  pub parts : e.parts ≡ ALL_PARTS
  pub found : PairState
  pub left : PairState
  pub met : e.met ≡ found ∷ left ∷ []
  pub sound : IsSoundAt lock found
  pub new : IsNew found
  pub answer : Answer ℕ
  pub bytes : List ℕ
  pub makes : Makes found opener OpenMaster bytes answer left
  pub told : e.told ≡ tally_of (entry_of opener OpenMaster bytes answer)
  pub made : e.made ≡ entry_of opener OpenMaster bytes answer ∷ []

-- What a seat that opens the master of the pair p, which becomes q, knows then: it has all parts and was told of that call alone; or it has nothing still, and the pair stays
abbrev pub OpenedAs : Config → PairState → PairState → List ℕ → Told → Mine → Outcome → Type 0
OpenedAs sizes p q bytes told m r = MatchResult r
    (λ a. let e = entry_of opener OpenMaster bytes a in IsNew p × Makes p opener OpenMaster bytes a q × (told ≡ tally_of e) × (m ≡ (share sizes told (e ∷ []) ALL_PARTS (p ∷ q ∷ []), [])))
    (λ z. (q ≡ p) × IsShut p z × (m ≡ (share sizes nothing [] 0 (p ∷ q ∷ []), [])))
