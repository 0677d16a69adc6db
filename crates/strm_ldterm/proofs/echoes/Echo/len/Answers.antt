use Rattle.strm_ldterm.proofs.EchoBytes.{length-echo}
use Rattle.strm_ldterm.proofs.echoes.Echo.len.Goals as goal

pub returns : goal.returns
returns c =
    length-echo c.args.self.now c.args.line.now c.bytes-bytes.result.now c.len.result c.from.result c.saturating_sub-at.result c.shown_len.result
    c.len.ensures.value c.from.ensures c.bytes-bytes.ensures.value c.saturating_sub-at.ensures c.shown_len.ensures.value
