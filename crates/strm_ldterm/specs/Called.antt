-- What a call of the service procedure of the read queue did.
use Rattle.std.specs.Prelude.{ℕ, ◌≡◌, ◌<◌, ◌≤◌, ◌+◌, ◌-◌, ◌*◌, Bool, true, false, if◌then◌else◌, [], ◌∷◌, List, Option, Some, unwrap_or}
use Rattle.strm_ldterm.specs.Prelude.{STOP_BLOCKS, Way, Up, Down, Fates, Note, Spot, plain, Acted, stages_done, to_treat, treats, ldterm_serves}
use Rattle.strm_ldterm.specs.Prelude.{Message, is_none_left, left_with, Serving, Ends, StoreValue, FreesBlocks, Sent, Served, HasRoom, sent_of}
use Rattle.strm_ldterm.specs.Prelude.{least_free, stop_of}
use Rattle.strm_types.specs.Ldterms as ldterms
use Rattle.strm_ldterm.specs.declared.service_calls.Run.{Run}
use Rattle.strm_ldterm.specs.declared.service_calls.Run.TheVariants as run
use Rattle.strm_ldterm.specs.Bounds.{passes_whole}
use Rattle.strm_ldterm.specs.Does.{Proceeds}
use Rattle.strm_ldterm.specs.FreeBefore.{IsFreeBefore, all_free}
use Rattle.strm_ldterm.specs.Posting.{poured}
use Rattle.strm_ldterm.specs.Stands.{ldterm_in, stage_in, Paired}
use Rattle.strm_ldterm.specs.Turns.{ahead, bytes_on, leaves, stages_left, under_way}

-- a call treats bytes of the first message of its queue, or goes on with the message in work
abbrev pub at_work : Way → Bool → ldterms.Discipline ℕ → ldterms.Discipline ℕ
at_work Up true p = p
at_work way again p = taken (ldterms.queue_at way p).messages
  where
    taken : List (Message ℕ) → ldterms.Discipline ℕ
    taken [] = p
    taken (m ∷ rest) = record (ldterms.with_queue_at way (left_with rest (ldterms.queue_at way p)) p) { in_work = Some m }

-- what so many bytes do, by the queue's way
abbrev pub bytes_of_way : Spot → Way → ℕ → ldterms.Discipline ℕ → Acted ℕ (ldterms.Discipline ℕ)
bytes_of_way here Up = bytes_on here
bytes_of_way here Down = poured here

-- how many bytes have begun in a call that treated so many: the one that has sent something too, and not the one that had begun before
abbrev pub begun_in : ℕ → Bool → ℕ → ℕ
begun_in bytes again before = bytes + (if again then 1 else 0) - before

module _ (old new : StoreValue) (here : Spot) (x x' : Paired) where
  -- Of so many bytes some were treated, and nothing was sent. Before each of them blocks enough are free. Bytes are left only where blocks are
  -- few, and not all of them where blocks were many.
  pub record RunsOut (bytes left : ℕ) (notes : List Note) (t t' : Fates) : Type 0 where
    pub fewer : left ≤ bytes
    pub does : Proceeds old new x x' (all_free old) notes [] t t' (ahead here (3 * (bytes - left)) (ldterm_in old x))
    pub begun : (byte : ℕ) → byte < bytes - left → IsFreeBefore old x t (bytes_on here) (ldterm_in old x) byte
    pub stops : 0 < left → least_free new < STOP_BLOCKS
    pub some : 0 < bytes → HasRoom old STOP_BLOCKS → left < bytes
    pub room : HasRoom new 1

  -- and then one has sent something, which counts as left
  pub record RunsInto (bytes left : ℕ) (notes : List Note) (sent : List Sent) (t t' : Fates) : Type 0 where
    pub fewer : left ≤ bytes
    pub some : 0 < left
    pub sends : is_none_left sent ≡ false
    pub does : Proceeds old new x x' (all_free old) notes sent t t' (ahead here (3 * (bytes - left) + 3) (ldterm_in old x))
    pub begun : (byte : ℕ) → byte ≤ bytes - left → IsFreeBefore old x t (bytes_on here) (ldterm_in old x) byte
    pub under_way : 0 < stages_left (stage_in x'.stage)
    pub room : HasRoom new (leaves (stage_in x'.stage))
    pub treat : to_treat (ldterm_in new x') ≡ left

  abbrev pub RunAs : ℕ → Fates → Fates → Run → Type 0
  RunAs bytes t t' (run.Out notes left) = RunsOut bytes left notes.items t t'
  RunAs bytes t t' (run.Into acts left) = RunsInto bytes left acts.notes.items (sent_of acts.sent) t t'

  -- what the definition says of a call that stopped, or went as far as it may
  abbrev pub treated_by : Option ℕ → Serving ℕ (ldterms.Discipline ℕ)
  treated_by stop = let p = ldterm_in old x in treats plain here (unwrap_or stop (to_treat p)) 0 p

  -- It treated no more bytes than there were, and those that had begun are among them.
  pub record EndsAt (bytes : ℕ) : Type 0 where
    pub treat : bytes ≤ to_treat (ldterm_in old x)
    pub done : stages_done (stage_in x.stage) ≤ 3 * bytes

  -- A call did what the definition says. Before each byte that it begins blocks enough are free. Behind one that stopped fewer blocks of some kind
  -- are free than a byte may take, and it isn't called again; where blocks were many it treated a byte. What it leaves of a byte has blocks enough.
  pub record TreatsAs (served : Served) (t t' : Fates) : Type 0 where
    pub does : Proceeds old new x x' (all_free old) served.acts.notes.items (sent_of served.acts.sent) t t' (treated_by (stop_of served)).acted
    pub bytes : served.bytes ≡ (treated_by (stop_of served)).bytes
    pub again : served.again ≡ (treated_by (stop_of served)).again
    pub begun : (byte : ℕ) → byte < begun_in served.bytes served.again (under_way (stage_in x.stage)) → IsFreeBefore old x t (bytes_on here) (ldterm_in old x) byte
    pub stops : served.stopped ≡ true → (least_free new < STOP_BLOCKS) × (served.again ≡ false)
    pub ends : served.stopped ≡ true → EndsAt served.bytes
    pub some : served.stopped ≡ true → HasRoom old STOP_BLOCKS → 0 < served.bytes
    pub less : to_treat (ldterm_in new x') ≤ to_treat (ldterm_in old x)
    pub room : HasRoom new (leaves (stage_in x'.stage))

  -- what the definition says of a call, which stopped or went as far as it may
  abbrev pub served_by : Bool → Option ℕ → Serving ℕ (ldterms.Discipline ℕ)
  served_by again stop = ldterm_serves plain here 0 again stop (ldterm_in old x)

  -- A call of the service procedure of a queue did what the definition says. Before each byte that it begins blocks enough are free, unless a
  -- message passes whole. Behind one that stopped fewer blocks of some kind are free than a byte may take, it isn't called again, and it treated a byte
  -- where blocks were many. One that is called again leaves blocks enough for the rest of the byte, and for what it has sent, and any one on the way up one for
  -- what it sends at its end.
  -- A message that passes whole takes none.
  pub record ServesAs (again : Bool) (served : Served) (t t' : Fates) : Type 0 where
    pub does : Proceeds old new x x' (all_free old) served.acts.notes.items (sent_of served.acts.sent) t t' (served_by again (stop_of served)).acted
    pub bytes : served.bytes ≡ (served_by again (stop_of served)).bytes
    pub again_is : served.again ≡ (served_by again (stop_of served)).again
    pub begun : passes_whole here.way again (ldterm_in old x) ≡ false → (byte : ℕ) → byte < begun_in served.bytes served.again (under_way (stage_in x.stage))
        → IsFreeBefore old x t (bytes_of_way here here.way) (at_work here.way again (ldterm_in old x)) byte
    pub stops : served.stopped ≡ true → (least_free new < STOP_BLOCKS) × (served.again ≡ false)
    pub ends : served.stopped ≡ true → Ends here.way again (ldterm_in old x) served.bytes
    pub some : served.stopped ≡ true → HasRoom old STOP_BLOCKS → 0 < served.bytes
    pub room : served.again ≡ true → HasRoom new (leaves (stage_in x'.stage))
    pub over : here.way ≡ Up → HasRoom new 1
    pub whole : passes_whole here.way again (ldterm_in old x) ≡ true → FreesBlocks old new
