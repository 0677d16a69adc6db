-- By parts, and then by the way.
use Rattle.strm_pty.proofs.Prelude.{◌∙◌, sym, false≢true}
use Rattle.strm_pty.proofs.Putting.{put-data, put-down, put-across}
use Rattle.strm_pty.proofs.drivers.put_any.Goals as goal

pub returns-then-is_data_kind-clause-does : goal.returns-then-is_data_kind-clause-does
returns-then-is_data_kind-clause-does g c =
    put-data _ _ _ _ _ _ _ _ c.args.across c.args.here c.args.kind c.requires.chain c.requires.kind_is (sym c.is_data_kind.ensures ∙ c.if-is_data_kind.true) c.take_in.ensures.does

pub returns-in-Down-clause-does : goal.returns-in-Down-clause-does
returns-in-Down-clause-does g c =
    put-down _ _ _ _ _ _ _ _ c.args.across c.args.here c.args.kind c.requires.chain c.requires.kind_is (sym c.is_data_kind.ensures ∙ c.if-is_data_kind.false) c.in-Down.is c.put_down.ensures

pub returns-in-Up-clause-does : goal.returns-in-Up-clause-does
returns-in-Up-clause-does g c =
    put-across _ _ _ _ _ _ _ _ c.args.across c.args.here c.args.kind c.requires.chain c.requires.kind_is (sym c.is_data_kind.ensures ∙ c.if-is_data_kind.false) c.in-Up.is c.put_across.ensures

pub returns-in-Down-clause-blocks : goal.returns-in-Down-clause-blocks
returns-in-Down-clause-blocks g c = λ parts. absurd (false≢true (sym (sym c.is_data_kind.ensures ∙ c.if-is_data_kind.false) ∙ parts))

pub returns-in-Up-clause-blocks : goal.returns-in-Up-clause-blocks
returns-in-Up-clause-blocks g c = λ parts. absurd (false≢true (sym (sym c.is_data_kind.ensures ∙ c.if-is_data_kind.false) ∙ parts))
