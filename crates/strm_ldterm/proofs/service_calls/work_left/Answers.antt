use Rattle.std.proofs.Common.{ℕ, ◌≤◌, subst, arith}
use Rattle.std.specs.Prelude.{IfSome, if◌then◌else◌, true, false, Bool}
use Rattle.strm_blocks.specs.Blocks.{in_hand, token}
use Rattle.strm_queue.specs.Kept.{bytes_of, is_data}
use Rattle.strm_queue.proofs.Bounds.{few-bytes}
use Rattle.strm_queue.proofs.Going.{cells-long}
use Rattle.strm_ldterm.specs.Stands.{IsData}
use Rattle.strm_ldterm.proofs.Beside.{chain-in-hand}
use Rattle.strm_ldterm.proofs.service_calls.work_left.Goals as goal

pub booked_size-requires-clause-in_hand : goal.booked_size-requires-clause-in_hand
booked_size-requires-clause-in_hand g c =
    let s = g.B.Blocks.value c.args.store.now in
    let is : IsData s (token c.in-Some.message) = subst (λ o. IfSome o (λ m. IsData s (token m))) c.in-Some.is c.requires in
    chain-in-hand s (token c.in-Some.message) c.audit.ensures is.chain.some

-- what counts of a message is no more than it has
some-of : (v : Bool) (n : ℕ) → (if v then n else 0) ≤ n
some-of true n = omega arith
some-of false n = omega arith

pub returns-clause-few : goal.returns-clause-few
returns-clause-few g c =
    let s = g.B.Blocks.value c.args.store.now in
    let i = token c.in-Some.message in
    let is : IsData s i = subst (λ o. IfSome o (λ m. IsData s (token m))) c.in-Some.is c.requires in
    let long = cells-long (in_hand s i) is.chain in
    let part = some-of (is_data (in_hand s i)) (bytes_of (in_hand s i)) in
    let few = few-bytes s c.audit.ensures 0 i in
    let size = c.booked_size.ensures in
    omega arith
