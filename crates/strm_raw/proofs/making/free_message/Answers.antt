use Rattle.std.proofs.Common.{length, refl, sym, subst}
use Rattle.strm_raw.specs.Numbered.{Nodes, IsMsg, IsMsgOrNone, no_row}
use Rattle.strm_raw.specs.Made.{GivesMessage}
use Rattle.strm_raw.proofs.Made.{more-len}
use Rattle.strm_raw.proofs.making.free_message.Goals as goal

pub returns-in_default-clause-given : goal.returns-in_default-clause-given
returns-in_default-clause-given c =
    let made = c.make_message-made.ensures in
    subst (λ o. GivesMessage c.args.memory.now c.make_message-made.new.self c.args.ledger.now.roster c.note.new.self.roster o c.make_message-made.result) (sym c.in_default.is) (record { nodes = made.made; roster = c.note.ensures; there = made.there; number = made.number })

pub returns-in_default-clause-there : goal.returns-in_default-clause-there
returns-in_default-clause-there c =
    let made = c.make_message-made.ensures in
    subst (λ (w : Nodes). IsMsg w.mat (length w.rows) c.make_message-made.result) (sym made.made) (subst (λ n. IsMsg c.args.memory.now.mat n c.make_message-made.result) (sym (more-len c.args.memory.now.rows no_row)) made.there)

pub returns-clause-given : goal.returns-clause-given
returns-clause-given c = subst (λ o. GivesMessage c.args.memory.now c.args.memory.now c.args.ledger.now.roster c.args.ledger.now.roster o c.in-Some.at) (sym c.in-Some.is) (record { nodes = refl; roster = refl; link = refl })

pub returns-clause-there : goal.returns-clause-there
returns-clause-there c = subst (λ o. IsMsgOrNone c.args.memory.now.mat (length c.args.memory.now.rows) o) c.in-Some.is c.requires.first
