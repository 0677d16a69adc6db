use Rattle.std.proofs.Common.{length, sym, subst}
use Rattle.strm_system.specs.Hosts.{AreOf}
use Rattle.strm_system.proofs.Openers.{found_by, opener_at, opener_of, still_of, table_stays, within}
use Rattle.strm_system.proofs.hosts.Host.claim_at.Goals as goal

pub claim-requires : goal.claim-requires
claim-requires g c =
    let host = c.args.self.now in let items = c.opener.inside.openers.items in let n = c.args.system in let here = c.index_mut-here.result.now in
    let own = subst (AreOf host) (sym c.opener.view_is) c.requires.own in
    let at = opener_at items n here (within host items n own c.requires.within) c.index_mut-here.ensures.value in
    opener_of host items n here c.at.result.now own at c.at.ensures

pub returns-clause-found : goal.returns-clause-found
returns-clause-found g c =
    let host = c.args.self.now in let items = c.opener.inside.openers.items in let n = c.args.system in let here = c.index_mut-here.result.now in
    let own = subst (AreOf host) (sym c.opener.view_is) c.requires.own in
    let at = opener_at items n here (within host items n own c.requires.within) c.index_mut-here.ensures.value in
    found_by host c.args.opener.now items c.opener.view_is n here c.claim.new.opener at c.at.result.now c.at.ensures c.claim.result c.claim.ensures.within c.claim.ensures.claimed c.claim.ensures.none

pub returns-clause-own : goal.returns-clause-own
returns-clause-own g c =
    let host = c.args.self.now in let items = c.opener.inside.openers.items in let n = c.args.system in let here = c.index_mut-here.result.now in
    let own = subst (AreOf host) (sym c.opener.view_is) c.requires.own in
    let at = opener_at items n here (within host items n own c.requires.within) c.index_mut-here.ensures.value in
    let table = table_stays host c.args.opener.now items c.opener.view_is n here c.claim.new.opener at (length c.at.result.now.locks) c.claim.result c.claim.ensures.claimed c.claim.ensures.none in
    still_of host items n here c.claim.new.opener own at table
