use Rattle.std.proofs.Common.{arith}
use Rattle.strm_vectors.proofs.PairRows.{found_left, if_ok}
use Rattle.strm_vectors.proofs.checking.found_over.Goals as goal

pub found_of-found-requires-clause-mblks : goal.found_of-found-requires-clause-mblks
found_of-found-requires-clause-mblks g c = let free = c.in_ok-pair.ensures.ok.1.1.free_mblks in omega (arith, free)

pub found_of-found-requires-clause-dblks : goal.found_of-found-requires-clause-dblks
found_of-found-requires-clause-dblks g c = let free = c.in_ok-pair.ensures.ok.1.1.free_dblks in omega (arith, free)

pub returns : goal.returns
returns g c =
    let y = c.in_ok-pair.ensures.ok in
    if_ok c.found_of-found.result _ _ (λ f left. (y.0, (y.1.0, found_left y.0 c.args.room c.in_ok-pair.pair f.image.items f.mblks f.dblks y.1.1 left))) c.found_of-found.ensures
