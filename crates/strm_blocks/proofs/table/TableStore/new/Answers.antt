use Rattle.std.proofs.Common.{arith, ◌≡◌, refl}
use Rattle.strm_blocks.proofs.Fresh.{names-next, IsTable-new}
use Rattle.strm_blocks.proofs.table.TableStore.new.Goals as goal

pub loop-name-preserved : goal.loop-name-preserved
loop-name-preserved c = record {
  messages = omega (arith, c.in_ok-push_back.ensures.len);
  blocks = omega (arith, c.in_ok-push_back-2.ensures.len);
  names = rw c.in_ok-push_back.ensures.items (names-next c.loop-name.idle _ c.loop-name.name refl c.loop-name.invariant.names);
}

pub invariant_of-result : goal.invariant_of-result
invariant_of-result c =
    let same : c.loop-name.name ≡ c.args.mblks = omega arith in
    let names = rw same at c.loop-name.invariant.names in
    rw (c.no_lists.ensures, c.new-2.ensures) (IsTable-new c.args.mblks c.args.dblks c.loop-name.idle c.loop-name.spare c.in_ok-data.data.references c.requires.few_mblks (omega arith) (omega arith) names c.in_ok-data.ensures)
