use Rattle.std.proofs.Common.{◌+◌, arith, ap, ◌∙◌, subst}
use Rattle.strm_script.proofs.Readings.{QuotedTo, QuotedTo-ends, QuotedTo-past, QuotedTo-escaped, QuotedTo-all}
use Rattle.strm_script.proofs.texts.quoted_len.Goals as goal
use Rattle.strm_script.proofs.texts.quoted_len.Goals.{then-escaped, else-escaped+else-byte-eq34}

pub returns-then-byte-eq34-clause-same : goal.returns-then-byte-eq34-clause-same
returns-then-byte-eq34-clause-same c =
    let l = c.loop-byte in
    let so = subst (λ e. QuotedTo e l.byte-index c.args.bytes.now) c.if-escaped.false l.invariant.1 in
    ap (λ n. n + 1) l.invariant.0 ∙ QuotedTo-ends l.byte-index c.args.bytes.now c.loop-byte-test.true so c.if-byte-eq34.true

pub loop-byte-preserved : goal.loop-byte-preserved
loop-byte-preserved c =
    let l = c.loop-byte in
    let bytes = c.args.bytes.now in
    let len = ap (λ n. n + 1) l.invariant.0 in
    elim c.if-escaped.branch [
      | then-escaped w ↦ rw (w.escaped-is)
          (len, QuotedTo-escaped l.byte-index bytes c.loop-byte-test.true (subst (λ e. QuotedTo e l.byte-index bytes) w.if-escaped.true l.invariant.1))
      | else-escaped+else-byte-eq34 w ↦ rw (w.escaped-is)
          (len, QuotedTo-past l.byte-index bytes c.loop-byte-test.true (subst (λ e. QuotedTo e l.byte-index bytes) w.if-escaped.false l.invariant.1) w.if-byte-eq34.false)
    ]

pub returns-clause-same : goal.returns-clause-same
returns-clause-same c =
    let l = c.loop-byte in
    l.invariant.0 ∙ QuotedTo-all l.escaped l.byte-index c.args.bytes.now (omega arith) l.invariant.1
