-- What isn't marked at the end was marked by none.
use Rattle.std.proofs.Common.{◌∙◌}
use Rattle.strm_ldterm.proofs.Unmarked.{in-table, outside, plain-is}
use Rattle.strm_ldterm.proofs.plain_runs.mark_odd.Goals as goal

pub returns : goal.returns
returns c = λ b free.
    let six = c.mark_keys.ensures.stays b free in
    let five = c.mark-6.ensures.stays b six in
    let four = c.mark-5.ensures.stays b five in
    let three = c.mark-4.ensures.stays b four in
    let two = c.mark-3.ensures.stays b three in
    let one = c.mark-2.ensures.stays b two in
    plain-is c.args.termios.now b (in-table c.mark_keys.new.odd b c.mark_keys.array_long free)
    (outside c.mark.new.odd b 0 32 _ one (λ on. c.mark.ensures.marked b (c.contains-echo.ensures tt ∙ on)))
    (outside c.mark-2.new.odd b 127 128 _ two (λ on. c.mark-2.ensures.marked b (c.contains-echo.ensures tt ∙ on)))
    (outside c.mark-3.new.odd b 10 11 _ three (λ on. c.mark-3.ensures.marked b (c.turns_ends-ends.ensures ∙ on)))
    (outside c.mark-4.new.odd b 13 14 _ four (λ on. c.mark-4.ensures.marked b (c.turns_ends-ends.ensures ∙ on)))
    (outside c.mark-5.new.odd b 128 256 _ five (λ on. c.mark-5.ensures.marked b (c.contains.ensures tt ∙ on)))
    (outside c.mark-6.new.odd b 65 91 _ six (λ on. c.mark-6.ensures.marked b (c.contains-2.ensures tt ∙ on)))
    (c.mark_keys.ensures.none b free)
