-- The messages of a queue stay in order of rank where some are taken, where others come, and where its last one grows.
use Rattle.strm_laws.proofs.Prelude.{ℕ, ◌≤◌, Bool, true, false, cond, List, [], ◌∷◌, ◌++◌, length, sym, subst, arith, append-nil, ◌==◌, ◌||◌, not}
use Rattle.strm_laws.proofs.Prelude.{nat_lt, of-each, Ordered-put_back}
use Rattle.strm_laws.specs.Prelude.{ControlMode, ReadMode, ByteStream, MessageKeep, MessageDiscard, Wanted, Spot, Cells, Choice, stayed, got_none}
use Rattle.strm_laws.specs.Prelude.{head_get, is_wanted, left_behind, parts_of, Message, cells_of, data_message, is_high_priority, part, rank_of}
use Rattle.strm_laws.specs.Prelude.{IsOrdered, Drawn, all_cells, and_more, control_gone, drawn, emptied_of, front_of, is_passed, is_refused, no_cells}
use Rattle.strm_laws.specs.Prelude.{offered, rest_after, shown, stopped, wanted_after, grown}
use Rattle.std.proofs.Math.Seq.{append_snoc}
use Rattle.std.specs.List.{AllByRecursion}

module _ {C : Type 0} where
  -- what holds of all messages of a queue holds of those that stay
  pub all-stayed : (P : Message C → Type 0) (chosen : Choice) (ms : List (Message C)) → AllByRecursion P ms → AllByRecursion P (stayed chosen ms)
  all-stayed P chosen [] all = tt
  all-stayed P chosen (m ∷ ms) all = at (not (chosen m.kind m.band)) (all-stayed P chosen ms all.1)
    where
      at : (stays : Bool) → AllByRecursion P (stayed chosen ms) → AllByRecursion P (cond stays (m ∷ stayed chosen ms) (stayed chosen ms))
      at true more = (all.0, more)
      at false more = more

  pub stayed-order : (chosen : Choice) (ms : List (Message C)) → IsOrdered ms → IsOrdered (stayed chosen ms)
  stayed-order chosen [] o = tt
  stayed-order chosen (m ∷ ms) o = at (not (chosen m.kind m.band)) (stayed-order chosen ms o.1)
    where
      at : (stays : Bool) → IsOrdered (stayed chosen ms) → IsOrdered (cond stays (m ∷ stayed chosen ms) (stayed chosen ms))
      at true more = (all-stayed (λ later. rank_of later ≤ rank_of m) chosen ms o.0, more)
      at false more = more

  -- those behind the first ones
  behind-order : (xs ys : List (Message C)) → IsOrdered (xs ++ ys) → IsOrdered ys
  behind-order [] ys o = o
  behind-order (x ∷ xs) ys o = behind-order xs ys o.1

  front-order : (read : ReadMode) (control : ControlMode) (n : ℕ) (dropped : List C) (m : Message C) (q : List (Message C)) → IsOrdered q → IsOrdered (front_of read n dropped (shown control m) q).left
  front-order ByteStream control n dropped m q o = Ordered-put_back rank_of (rest_after n (shown control m)) q o
  front-order MessageKeep control n dropped m q o = Ordered-put_back rank_of (rest_after n (shown control m)) q o
  front-order MessageDiscard control n dropped m q o = o

  -- what a read leaves, which passed some
  pub drawn-order : (read : ReadMode) (control : ControlMode) (begun : Bool) (n : ℕ) (passed q : List (Message C)) → IsOrdered (passed ++ q) → IsOrdered (drawn read control begun n passed q).left
  drawn-order read control begun n passed [] o = subst IsOrdered (append-nil passed) o
  drawn-order read control begun n passed (m ∷ q) o =
      let gone = all_cells passed ++ control_gone control m in
      let cells = offered control m in
      let rest = (behind-order passed (m ∷ q) o).1 in
      let more = drawn read control true (wanted_after read n (length cells)) [] q in
      of-each (λ (d : Drawn C). IsOrdered d.left)
      (n == 0 || is_refused control m) (is_passed control m) (no_cells cells) begun (nat_lt n (length cells))
      (stopped (passed ++ m ∷ q)) (drawn read control begun n (passed ++ m ∷ []) q) (emptied_of gone q) (front_of read n gone (shown control m) q) (and_more cells gone more)
      o
      (λ is. drawn-order read control begun n (passed ++ m ∷ []) q (subst IsOrdered (sym (append_snoc passed m q)) o))
      (λ is. rest)
      (λ is. front-order read control n gone m q rest)
      (λ is. drawn-order read control true (wanted_after read n (length cells)) [] q rest)

  -- and what a get leaves
  pub got-order : (wanted : Wanted) (cmax dmax : ℕ) (q : List (Message C)) → IsOrdered q → IsOrdered (head_get wanted cmax dmax q).left
  got-order wanted cmax dmax [] o = tt
  got-order wanted cmax dmax (m ∷ q) o = at (is_wanted wanted m)
    where
      behind : (more : Bool) → IsOrdered (left_behind more cmax dmax m q)
      behind true = Ordered-put_back rank_of _ q o.1
      behind false = o.1

      at : (is : Bool) → IsOrdered (cond is (parts_of cmax dmax m q) (got_none (m ∷ q))).left
      at true = behind (nat_lt cmax (length (part m.control)) || nat_lt dmax (length (part m.body)))
      at false = o

-- M_DATA of band 0 has the lowest rank
data-lowest : {C : Type 0} (cells : List C) (bound : ℕ) → rank_of (data_message cells) ≤ bound
unfolding data_message rank_of is_high_priority
data-lowest cells bound = omega arith

module _ {C : Type 0} (cells : Cells C) (here : Spot) where
  grown-low : (bound : ℕ) (new : List C) (ms : List (Message C)) → AllByRecursion (λ later. rank_of later ≤ bound) ms → AllByRecursion (λ later. rank_of later ≤ bound) (grown cells here new ms)
  grown-low bound new [] all = tt
  grown-low bound new (m ∷ []) all = (data-lowest (cells_of m ++ new) bound, tt)
  grown-low bound new (m ∷ n ∷ ms) all = (all.0, grown-low bound new (n ∷ ms) all.1)

  pub grown-order : (new : List C) (ms : List (Message C)) → IsOrdered ms → IsOrdered (grown cells here new ms)
  grown-order new [] o = tt
  grown-order new (m ∷ []) o = (tt, tt)
  grown-order new (m ∷ n ∷ ms) o = (grown-low (rank_of m) new (n ∷ ms) o.0, grown-order new (n ∷ ms) o.1)
