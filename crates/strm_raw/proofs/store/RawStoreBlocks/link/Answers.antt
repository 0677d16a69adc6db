use Rattle.std.proofs.Common.{refl, sym, subst}
use Rattle.strm_blocks.specs.Blocks.{token}
use Rattle.strm_raw.specs.Wiped.{AreWiped}
use Rattle.strm_raw.proofs.Finding.{token-below}
use Rattle.strm_raw.proofs.Hanging.{Hung, hung}
use Rattle.strm_raw.proofs.store.RawStoreBlocks.link.Goals as goal
use Rattle.strm_raw.proofs.store.RawStoreBlocks.link.Goals.{After-hang}

pub hang-requires-clause-first : goal.hang-requires-clause-first
hang-requires-clause-first c = token-below c.self.invariant.raw _ c.self.view_is (token c.args.first) _ refl c.requires.first_in_hand

pub hang-requires-clause-second : goal.hang-requires-clause-second
hang-requires-clause-second c = token-below c.self.invariant.raw _ c.self.view_is (token c.args.second) _ refl c.requires.second_in_hand

done : (c : After-hang) → let t = c.self.inside in Hung t.memory c.hang.new.memory t.ledger.roster c.hang.new.ledger.roster t.ends t.free_msg t.free_data t.spare_m t.spare_d c.args.self.now (token c.args.first) (token c.args.second)
done c = hung c.self.invariant.raw c.self.invariant.listed c.self.view_is _ _ c.requires.first_in_hand c.requires.second_in_hand c.requires.apart c.hang.ensures.hangs

pub invariant_of-self : goal.invariant_of-self
invariant_of-self c = let d = done (goal.at.invariant_of-self c).After-hang in record { raw = d.becomes.raw; wiped = subst AreWiped (sym d.datas) c.self.invariant.wiped; listed = d.becomes.listed }

pub returns-clause-linked : goal.returns-clause-linked
returns-clause-linked c = (done (goal.at.returns-clause-linked c).After-hang).becomes.value
