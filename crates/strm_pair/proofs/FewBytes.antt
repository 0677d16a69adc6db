-- How many bytes a call that isn't refused brings.
use Rattle.strm_pair.proofs.Prelude.{ℕ, ◌≡◌, ◌<◌, ◌≤◌, length, arith, length-append, None, parts-few, met}
use Rattle.strm_pair.specs.Prelude.{Caller, Write, Put, Ioctl, Request, payload_of, part, needs, blocks_asked, refused_at_once, State, chunk_count}
use Rattle.std.proofs.Common.{◌^◌}
use Rattle.strm_pair.proofs.Refusing.{few-asked}

-- of no call that isn't refused at once, and for which a store has the blocks, there are more bytes than 32 bits count
pub few-kept : (s : State ℕ) (caller : Caller) (asked : Request) → refused_at_once s caller asked ≡ None → blocks_asked asked ≤ 65536 → length (payload_of asked) < 2 ^ 32
unfolding chunk_count
few-kept s caller (Write bytes) at_once enough = omega (arith, enough)
few-kept s caller (Put prio control body) at_once enough =
    omega (arith, parts-few prio control body (met s caller.side (needs (Put prio control body)) at_once).right, length-append (part control) (part body))
few-kept s caller (Ioctl command body) at_once enough = omega (arith, few-asked s caller command body at_once)
few-kept s caller _ at_once enough = omega arith
