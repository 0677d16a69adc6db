-- The first block has fewer bytes, and goes where it has none.
use Rattle.strm_ldterm.proofs.Prelude.{◌≡◌, ◌++◌, length, take, drop, subst, arith, length-take}
use Rattle.strm_ldterm.specs.Prelude.{left_of, cells_of, block_at, in_hand, token, message_in}
use Rattle.strm_ldterm.specs.Becoming.{Becomes}
use Rattle.strm_ldterm.proofs.Skipped.{becomes-both, front-becomes, front-in, front-is}
use Rattle.strm_ldterm.proofs.output.trim_front.Goals as goal

pub skip_empty-requires-clause-in_hand : goal.skip_empty-requires-clause-in_hand
skip_empty-requires-clause-in_hand g c =
    front-in (g.B.Blocks.value c.args.store.now) (g.B.Blocks.value c.trim_head.new.self) (token c.args.message) c.args.bytes c.requires.in_hand c.requires.is c.trim_head.ensures

pub skip_empty-requires-clause-is : goal.skip_empty-requires-clause-is
skip_empty-requires-clause-is g c =
    (front-becomes (g.B.Blocks.value c.args.store.now) (g.B.Blocks.value c.trim_head.new.self) (token c.args.message) c.args.bytes c.requires.in_hand c.requires.is c.trim_head.ensures).is

pub returns-clause-became : goal.returns-clause-became
returns-clause-became g c =
    let s = g.B.Blocks.value c.args.store.now in
    let u = g.B.Blocks.value c.trim_head.new.self in
    let v = g.B.Blocks.value c.skip_empty.new.store in
    let i = token c.args.message in
    let k = token c.skip_empty.result in
    let n = c.args.bytes in
    let within = c.requires.within in
    let long : length (take n (block_at 0 (in_hand s i)).bytes) ≡ n = omega (arith, length-take n (block_at 0 (in_hand s i)).bytes, within) in
    let m = message_in s i in
    let left = left_of (drop n (cells_of m)) m in
    let taken = subst (λ l. Becomes s u i i (left_of (drop l (cells_of m)) m)) long (front-becomes s u i n c.requires.in_hand c.requires.is c.trim_head.ensures) in
    subst (Becomes s v i k) taken.shows (becomes-both s u v i i k left (message_in u i) c.audit.ensures taken c.skip_empty.ensures.became)

pub returns-clause-front : goal.returns-clause-front
returns-clause-front g c =
    let s = g.B.Blocks.value c.args.store.now in
    let i = token c.args.message in
    let n = c.args.bytes in
    let first = (block_at 0 (in_hand s i)).bytes in
    let within = c.requires.within in
    let long : length (take n first) ≡ n = omega (arith, length-take n first, within) in
    let cells = cells_of (message_in s i) in
    subst (λ l. cells ≡ take n first ++ drop l cells) long (front-is s (g.B.Blocks.value c.trim_head.new.self) i n c.requires.in_hand c.requires.is c.trim_head.ensures)
