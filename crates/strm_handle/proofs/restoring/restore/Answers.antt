-- A refused restore leaves a closed handle.
use Rattle.std.proofs.Common.{◌≡◌, rules, true}
use Rattle.std.specs.Prelude.{None}
use Rattle.strm_handle.specs.Kept.{are_fit}
use Rattle.strm_handle.proofs.RestoreRefused.{restore-refused}
use Rattle.strm_handle.proofs.restoring.restore.Goals as goal

pub returns-in-Err : goal.returns-in-Err
returns-in-Err c =
    let kept = c.args.handle.now.held.kept in
    let closed : kept ≡ None = search rules in
    let fits : are_fit c.args.choices.now ≡ true = search rules in
    let e = c.in-Err.ensures in
    restore-refused c.args.choices.now c.args.text.now kept c.in-Err.why c.refused-in-Err.result closed fits
    (record { einval = e.einval; enosr = e.enosr; others = e.others }) c.refused-in-Err.ensures
