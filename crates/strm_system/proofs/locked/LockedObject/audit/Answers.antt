use Rattle.strm_system.proofs.locked.LockedObject.audit.Goals as goal

pub returns : goal.returns
returns g c = let a = c.audit.ensures in record {
  legal = a.legal;
  replayed = a.replayed;
  gone = a.told;
  ordered = a.ordered;
  blocks = (a.blocks.in_use, a.blocks.all_free);
  balanced = a.balanced;
  once = λ o. (a.once o, a.own o);
}
