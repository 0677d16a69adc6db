use Rattle.std.proofs.Common.{sym, subst}
use Rattle.strm_system.specs.Hosts.{AreOf}
use Rattle.strm_system.proofs.Openers.{held_here, opener_at, opener_of, released, still_of, within}
use Rattle.strm_system.proofs.hosts.Host.release.Goals as goal

pub release-requires-clause-own : goal.release-requires-clause-own
release-requires-clause-own g c =
    let host = c.args.self.now in let items = c.opener.inside.openers.items in let n = c.args.minor.system in let here = c.index_mut-here.result.now in
    let own = subst (AreOf host) (sym c.opener.view_is) c.requires.own in
    let at = opener_at items n here (within host items n own c.requires.within) c.index_mut-here.ensures.value in
    opener_of host items n here c.at.result.now own at c.at.ensures

pub release-requires-clause-held : goal.release-requires-clause-held
release-requires-clause-held g c =
    let host = c.args.self.now in let items = c.opener.inside.openers.items in let n = c.args.minor.system in let here = c.index_mut-here.result.now in
    let own = subst (AreOf host) (sym c.opener.view_is) c.requires.own in
    let at = opener_at items n here (within host items n own c.requires.within) c.index_mut-here.ensures.value in
    held_here host c.args.opener.now items c.opener.view_is n here here at c.args.minor.minor c.requires.held

pub returns-clause-lost : goal.returns-clause-lost
returns-clause-lost g c =
    let host = c.args.self.now in let items = c.opener.inside.openers.items in let n = c.args.minor.system in let here = c.index_mut-here.result.now in
    let own = subst (AreOf host) (sym c.opener.view_is) c.requires.own in
    let at = opener_at items n here (within host items n own c.requires.within) c.index_mut-here.ensures.value in
    released host c.args.opener.now items c.opener.view_is n here c.release.new.opener at c.args.minor.minor c.release.ensures

pub returns-clause-own : goal.returns-clause-own
returns-clause-own g c =
    let host = c.args.self.now in let items = c.opener.inside.openers.items in let n = c.args.minor.system in let here = c.index_mut-here.result.now in
    let own = subst (AreOf host) (sym c.opener.view_is) c.requires.own in
    let at = opener_at items n here (within host items n own c.requires.within) c.index_mut-here.ensures.value in
    still_of host items n here c.release.new.opener own at c.release.ensures.table
