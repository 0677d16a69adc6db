-- The runs are those of the message's parts.
use Rattle.strm_pair.proofs.Prelude.{ap, subst, sym, ◌∙◌}
use Rattle.strm_pair.specs.Prelude.{token, HasRoom}
use Rattle.strm_image.specs.Texts.{parts_now}
use Rattle.strm_pair.specs.Runs.{Joins, run_blocks}
use Rattle.strm_pair.proofs.TextMade.{makes-joined, runs-counted}
use Rattle.strm_pair.proofs.images.made_messages.make.Goals as goal

pub join-requires : goal.join-requires
join-requires g c =
    let x = parts_now c.args.message.now in
    record { room = subst (HasRoom (g.B.Blocks.value c.args.store.now)) (sym (ap run_blocks c.runs_of.ensures ∙ runs-counted c.args.version x c.requires.good.fits)) c.requires.room }

pub returns : goal.returns
returns g c =
    let x = parts_now c.args.message.now in
    makes-joined c.args.version x c.requires.good.fits
    (subst (λ r. Joins (g.B.Blocks.value c.args.store.now) (g.B.Blocks.value c.join.new.store) (token c.join.result) x.0 x.1.0 r) c.runs_of.ensures c.join.ensures)
