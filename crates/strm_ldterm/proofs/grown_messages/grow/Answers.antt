-- What the last block takes, and the rest behind it.
use Rattle.std.proofs.Common.{take}
use Rattle.strm_ldterm.proofs.Grows.{data-in-hand, grown-append, grown-all, grown-parts, grown-room}
use Rattle.strm_ldterm.proofs.grown_messages.grow.Goals as goal
use Rattle.strm_blocks.specs.Blocks.{token}

pub append-taken-requires : goal.append-taken-requires
append-taken-requires g c = data-in-hand (g.B.Blocks.value c.args.store.now) (token c.args.message) c.audit.ensures c.requires.data

pub returns-then-taken-bytes-clause-grown : goal.returns-then-taken-bytes-clause-grown
returns-then-taken-bytes-clause-grown g c =
    let s = g.B.Blocks.value c.args.store.now in
    let t = g.B.Blocks.value c.append-taken.new.self in
    let i = token c.args.message in
    let n = c.append-taken.result in
    let bytes = c.args.bytes.now in
    grown-all s t i n bytes (grown-append s t i (take n bytes) c.audit.ensures c.requires.data c.append-taken.ensures.written) c.if-taken-bytes.true

pub hang-requires-clause-data : goal.hang-requires-clause-data
hang-requires-clause-data g c =
    let s = g.B.Blocks.value c.args.store.now in
    let t = g.B.Blocks.value c.append-taken.new.self in
    (grown-append s t (token c.args.message) (take c.append-taken.result c.args.bytes.now) c.audit.ensures c.requires.data c.append-taken.ensures.written).are

pub hang-requires-clause-room : goal.hang-requires-clause-room
hang-requires-clause-room g c =
    let s = g.B.Blocks.value c.args.store.now in
    let t = g.B.Blocks.value c.append-taken.new.self in
    let i = token c.args.message in
    let new = take c.append-taken.result c.args.bytes.now in
    grown-room s t i 1 new (grown-append s t i new c.audit.ensures c.requires.data c.append-taken.ensures.written) c.requires.room

pub returns-clause-grown : goal.returns-clause-grown
returns-clause-grown g c =
    let s = g.B.Blocks.value c.args.store.now in
    let t = g.B.Blocks.value c.append-taken.new.self in
    let u = g.B.Blocks.value c.hang.new.store in
    let i = token c.args.message in
    let n = c.append-taken.result in
    let bytes = c.args.bytes.now in
    grown-parts s t u i n bytes (grown-append s t i (take n bytes) c.audit.ensures c.requires.data c.append-taken.ensures.written) c.hang.ensures.grown
