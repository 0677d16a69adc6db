use Rattle.std.proofs.Common.{◌≡◌, false, rules}
use Rattle.strm_ldterm.proofs.PlainBytes.{stroke_of-plain}
use Rattle.strm_ldterm.proofs.strokes.stroke_of.Goals as goal

pub returns-then-not-may_be_key : goal.returns-then-not-may_be_key
returns-then-not-may_be_key c =
    let not_key : c.may_be_key.result ≡ false = search rules in
    stroke_of-plain c.args.termios.now c.args.after_lnext c.args.byte c.stripped.result c.lowered-plain.result c.may_be_key.result
    c.if-after_lnext.false c.stripped.ensures c.lowered-plain.ensures c.may_be_key.ensures not_key
