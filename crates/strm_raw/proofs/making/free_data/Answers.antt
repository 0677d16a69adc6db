use Rattle.std.proofs.Common.{length, refl, sym, subst}
use Rattle.strm_raw.specs.Numbered.{Nodes, IsData, IsDataOrNone, no_data}
use Rattle.strm_raw.specs.Made.{GivesData}
use Rattle.strm_raw.proofs.Made.{more-len}
use Rattle.strm_raw.proofs.making.free_data.Goals as goal

pub returns-in_default-clause-given : goal.returns-in_default-clause-given
returns-in_default-clause-given c =
    let made = c.make_data-made.ensures in
    subst (λ o. GivesData c.args.memory.now c.make_data-made.new.self c.args.ledger.now.roster c.note.new.self.roster o c.make_data-made.result) (sym c.in_default.is) (record { nodes = made.made; roster = c.note.ensures; there = made.there; number = made.number })

pub returns-in_default-clause-there : goal.returns-in_default-clause-there
returns-in_default-clause-there c =
    let made = c.make_data-made.ensures in
    subst (λ (w : Nodes). IsData w.dat (length w.datas) c.make_data-made.result) (sym made.made) (subst (λ n. IsData c.args.memory.now.dat n c.make_data-made.result) (sym (more-len c.args.memory.now.datas no_data)) made.there)

pub returns-clause-given : goal.returns-clause-given
returns-clause-given c = subst (λ o. GivesData c.args.memory.now c.args.memory.now c.args.ledger.now.roster c.args.ledger.now.roster o c.in-Some.at) (sym c.in-Some.is) (record { nodes = refl; roster = refl; link = refl })

pub returns-clause-there : goal.returns-clause-there
returns-clause-there c = subst (λ o. IsDataOrNone c.args.memory.now.dat (length c.args.memory.now.datas) o) c.in-Some.is c.requires.first
