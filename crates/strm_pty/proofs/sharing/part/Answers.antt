-- A message of two blocks has one behind its first one, which goes.
use Rattle.std.proofs.Common.{MatchOption, ◌≡◌, length, sym, subst, arith}
use Rattle.strm_blocks.specs.Blocks.{IsInHand, block_at, in_hand, token}
use Rattle.strm_blocks.specs.Outcomes.{Unlinked, UnlinkedLast}
use Rattle.strm_pty.proofs.Parting.{first-there, parts}
use Rattle.strm_pty.proofs.sharing.part.Goals as goal

pub free-requires : goal.free-requires
free-requires g c =
    let s = g.B.Blocks.value c.args.store.now in
    let t = g.B.Blocks.value c.dup.new.self in
    let u = g.B.Blocks.value c.unlink-behind.new.self in
    let i = token c.args.message in
    let k = token c.in-Ok.copy in
    let f = token c.unlink-behind.result.0 in
    let r = token c.in-Some.payload in
    let long : length (in_hand s i) ≡ 2 = (let two = c.if-blocks-ne2.false in let count = c.blocks-2.ensures.count in omega (arith, two, count)) in
    let parted : Unlinked t u i f r = subst (λ o. MatchOption o (UnlinkedLast t u i f) (λ rest. Unlinked t u i f (token rest))) c.in-Some.is c.unlink-behind.ensures in
    subst (IsInHand u) (sym parted.kept_name) (first-there s i k r f t u c.requires long c.in-Ok.ensures parted)

pub returns : goal.returns
returns g c =
    let s = g.B.Blocks.value c.args.store.now in
    let t = g.B.Blocks.value c.dup.new.self in
    let u = g.B.Blocks.value c.unlink-behind.new.self in
    let i = token c.args.message in
    let k = token c.in-Ok.copy in
    let f = token c.unlink-behind.result.0 in
    let r = token c.in-Some.payload in
    let long : length (in_hand s i) ≡ 2 = (let two = c.if-blocks-ne2.false in let count = c.blocks-2.ensures.count in omega (arith, two, count)) in
    let sixteen : length (block_at 0 (in_hand s i)).bytes ≡ 16 = (let is = c.if-block_len-ne-HEADER_SIZE.false in let count = c.block_len.ensures.count in omega (arith, is, count)) in
    let parted : Unlinked t u i f r = subst (λ o. MatchOption o (UnlinkedLast t u i f) (λ rest. Unlinked t u i f (token rest))) c.in-Some.is c.unlink-behind.ensures in
    parts s i k r f t u c.requires long c.in-Ok.ensures parted c.audit-2.ensures (g.B.Blocks.value c.free.new.self) c.free.ensures sixteen
