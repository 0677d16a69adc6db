-- What the ends of a round were told, call by call, and what is told where they settle.
use Rattle.std.proofs.Common.{◌≡◌, ℕ, zero, suc, ◌+◌, List, [], ◌∷◌, ◌++◌, length, refl, sym, ap, ◌∙◌, subst, arith}
use Rattle.std.specs.Prelude.{Option, None, Some, Result, Ok, Err, IfOk, slice_get}
use Rattle.strm_types.specs.declared.answers.Answer.{Answer}
use Rattle.strm_types.specs.declared.entries.Entry.TheVariants.{Called}
use Rattle.strm_types.specs.declared.events.Caller.{Caller}
use Rattle.strm_types.specs.declared.events.Event.TheVariants.{OpenMaster, OpenSlave, Unlock}
use Rattle.strm_types.specs.declared.names.Side.TheVariants.{Slave}
use Rattle.strm_types.specs.Events.{Request}
use Rattle.strm_types.specs.JobControl.{caller_of}
use Rattle.strm_types.specs.Journal.{PlainEntry, reply_in}
use Rattle.strm_laws.specs.Pair.{PairState}
use Rattle.strm_locks.specs.declared.held.Settled.{Settled}
use Rattle.strm_locks.specs.Books.{IsReordered, LockId, history_of, pick, plus, tally_of, told, weigh}
use Rattle.strm_locks.specs.Ends.{Calls, IsOpened, Share, kept_end, slave_end}
use Rattle.strm_locks.specs.Settles.{IsAll}
use Rattle.strm_locks.specs.Shares.{entry_of, opener}
use Rattle.strm_locks.specs.Systems.{IsOne, Numbered, Plan, numbered}
use Rattle.strm_locks.specs.Turns.{Visited}
use Rattle.strm_locks.proofs.Sums.{pick-plus, same_told, weigh-append}
use Rattle.strm_storm.specs.Rounds.{AreOpened, Asks, HasMade, IsRound, IsRoundAt, Settles, calls_of, opening_calls, reading, writing}

-- an end whose call was answered so made just that call more
pub asked_by : (a b : Numbered) (asked : Request) (before bytes : List ℕ) (x : Answer ℕ) → b.pair ≡ a.pair → Calls a.end asked before bytes (Ok x) b.end → Asks a b (entry_of a.end.caller asked bytes x)
asked_by a b asked before bytes x pair calls =
    let more = calls.told.0 in
    let is = calls.told.2 in record {
      pair = pair;
      lock = ap (λ (s : Share). s.lock) is;
      caller = ap (λ (s : Share). s.caller) is;
      made = ap (λ (s : Share). s.made) is;
      bytes = λ i. ap (λ (s : Share). pick (suc i) s.told) is ∙ pick-plus (suc i) a.end.told more ∙ ap (λ n. pick (suc i) a.end.told + n) (calls.told.1.bytes i);
    }

pub made_on : (a b : Numbered) (e : PlainEntry) (calls : List PlainEntry) → Asks a b e → HasMade calls a.end → HasMade (calls ++ e ∷ []) b.end
made_on a b e calls asks had = record {
  made = asks.made ∙ ap (λ es. es ++ e ∷ []) had.made;
  bytes = λ i. let h : PlainEntry → ℕ = λ x. pick (suc i) (tally_of x) in
      let b = asks.bytes i in let a = had.bytes i in let w = weigh-append h calls (e ∷ []) in omega (arith, a, b, w);
}

-- each entry weighs one
weigh-one : (es : List PlainEntry) → weigh (λ _. 1) es ≡ length es
weigh-one [] = refl
weigh-one (e ∷ es) = let r = weigh-one es in omega arith

abbrev lock_or : LockId → Option LockId → LockId
lock_or d None = d
lock_or d (Some x) = x

module _ (system : Plan) (minor : ℕ) (m s w r : Numbered) (c : Settled) (v : Visited) where
  pub round-at : AreOpened system minor m s → Asks m w (writing m.end.caller) → Asks s r (reading s.end.caller) → IsOne system w → Settles system w r c v → IsRoundAt system minor c v
  round-at o wrote read one settles = (subst (λ n. slice_get system.locks n ≡ Some v.lock) (wrote.pair ∙ o.pair) settles.0, round)
    where
      masters : HasMade (opening_calls o.opened o.unlocked o.answered ++ writing opener ∷ []) w.end
      masters = subst (λ (k : Caller). HasMade (opening_calls o.opened o.unlocked o.answered ++ writing k ∷ []) w.end) o.caller (made_on m w (writing m.end.caller) (opening_calls o.opened o.unlocked o.answered) wrote o.made)

      slaves : HasMade (reading (caller_of Slave) ∷ []) r.end
      slaves = subst (λ (k : Caller). HasMade (reading k ∷ []) r.end) o.slaves (made_on s r (reading s.end.caller) [] read o.none)

      entries : List PlainEntry
      entries = calls_of o.opened o.unlocked o.answered

      made : w.end.made ++ r.end.made ≡ entries
      made = (λ k. masters.made k ++ slaves.made k)

      pair : PairState
      pair = settles.1.pair

      all : IsAll (plus w.end.told r.end.told) (w.end.made ++ r.end.made) pair c
      all = settles.1.all

      calls : IsReordered entries (history_of pair)
      calls = λ h. ap (weigh h) (sym made) ∙ all.calls h

      five : length (history_of pair) ≡ 5
      five = sym (weigh-one (history_of pair)) ∙ sym (calls (λ _. 1))

      picks : (i : ℕ) → pick i (plus w.end.told r.end.told) ≡ pick i (told 5 3 0 3 0)
      picks zero = let n = all.counted in omega (arith, n, five)
      picks (suc zero) = let a : w.end.told.written.from_master ≡ 3 = masters.bytes 0 in let b : r.end.told.written.from_master ≡ 0 = slaves.bytes 0 in omega (arith, a, b)
      picks (suc (suc zero)) = let a : w.end.told.written.from_slave ≡ 0 = masters.bytes 1 in let b : r.end.told.written.from_slave ≡ 0 = slaves.bytes 1 in omega (arith, a, b)
      picks (suc (suc (suc zero))) = let a : w.end.told.read.from_master ≡ 0 = masters.bytes 2 in let b : r.end.told.read.from_master ≡ 3 = slaves.bytes 2 in omega (arith, a, b)
      picks (suc (suc (suc (suc i)))) = let a : w.end.told.read.from_slave ≡ 0 = masters.bytes 3 in let b : r.end.told.read.from_slave ≡ 0 = slaves.bytes 3 in omega (arith, a, b)

      locks : w.end.lock ≡ v.lock
      locks = ap (lock_or w.end.lock) (sym one ∙ settles.0)

      round : IsRound c v
      round = record {
        told = all.told_all ∙ same_told (plus w.end.told r.end.told) (told 5 3 0 3 0) picks;
        pair = pair;
        opened = o.opened;
        unlocked = o.unlocked;
        slave = o.answered;
        calls = calls;
        shows = all.shows;
        sized = settles.1.sized ∙ ap (λ (l : LockId). l.sizes) locks;
        before = w.end.met ++ r.end.met;
        left = settles.1.met;
      }

-- an end that opened a pair made that call alone
pub has_opened : (lock : LockId) (e : Share) (o : IsOpened lock e) → HasMade (Called opener OpenMaster (reply_in o.answer o.bytes) ∷ []) e
has_opened lock e o = record { made = o.made; bytes = λ i. ap (pick (suc i)) o.told ∙ omega arith }

module _ (system : Plan) (minor : ℕ) (e f g s : Numbered) where
  -- the master's end e opened the pair, was f once it had unlocked it, and is g since it opened the slave, whose end is s
  pub are_opened : (o : IsOpened e.end.lock e.end) (x y : Answer ℕ) (before bytes more : List ℕ) (b : Share) → IsOne system g → IsOne system s → e.pair ≡ minor → f.pair ≡ e.pair → g.pair ≡ f.pair
      → Calls e.end Unlock before bytes (Ok x) f.end → Calls f.end OpenSlave [] more (Ok y) b → g.end ≡ kept_end b → s ≡ numbered f.pair None (slave_end f.end) → AreOpened system minor g s
  are_opened o x y before bytes more b one other at same again unlocked opened kept slave = record {
    one = one;
    other = other;
    pair = again ∙ same ∙ at;
    same = ap (λ (n : Numbered). n.pair) slave ∙ same ∙ at;
    caller = ap (λ (n : Share). n.caller) kept ∙ second.caller ∙ first.caller ∙ o.caller;
    slaves = ap (λ (n : Numbered). n.end.caller) slave;
    opened = reply_in o.answer o.bytes;
    unlocked = reply_in x bytes;
    answered = reply_in y more;
    made = record { made = ap (λ (n : Share). n.made) kept ∙ made.made; bytes = λ i. ap (λ (n : Share). pick (suc i) n.told) kept ∙ made.bytes i };
    none = record { made = ap (λ (n : Numbered). n.end.made) slave; bytes = λ i. ap (λ (n : Numbered). pick (suc i) n.end.told) slave ∙ none i };
  }
    where
      first : Asks e f (entry_of e.end.caller Unlock bytes x)
      first = asked_by e f Unlock before bytes x same unlocked

      then_ : Numbered
      then_ = numbered f.pair None b

      second : Asks f then_ (entry_of f.end.caller OpenSlave more y)
      second = asked_by f then_ OpenSlave [] more y refl opened

      callers : f.end.caller ≡ opener
      callers = first.caller ∙ o.caller

      made : HasMade (opening_calls (reply_in o.answer o.bytes) (reply_in x bytes) (reply_in y more)) b
      made =
          let a = made_on e f _ _ first (has_opened e.end.lock e.end o) in
          let c = made_on f then_ _ _ second a in
          subst (λ (k : Caller × Caller). HasMade (Called opener OpenMaster (reply_in o.answer o.bytes) ∷ Called k.0 Unlock (reply_in x bytes) ∷ Called k.1 OpenSlave (reply_in y more) ∷ []) b) (λ j. (o.caller j, callers j)) c

      none : (i : ℕ) → pick (suc i) (slave_end f.end).told ≡ 0
      none zero = refl
      none (suc zero) = refl
      none (suc (suc zero)) = refl
      none (suc (suc (suc i))) = refl

-- what follows from what was answered
pub if-ok : {A E : Type 0} (P Q : A → Type 0) → ((x : A) → P x → Q x) → (r : Result A E) → IfOk r P → IfOk r Q
if-ok P Q f (Ok x) p = f x p
if-ok P Q f (Err e) p = p
