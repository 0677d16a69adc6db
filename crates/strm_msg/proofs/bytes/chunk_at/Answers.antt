use Rattle.std.proofs.Common.{◌*◌, arith}
use Rattle.strm_msg.proofs.Pieces.{chunk-is}
use Rattle.strm_msg.proofs.bytes.chunk_at.Goals as goal

pub returns-clause-chunk : goal.returns-clause-chunk
returns-clause-chunk c = chunk-is c.args.bytes.now (c.args.at * 256) c.min-len.result (let e = c.min-len.ensures in omega arith)
