-- The message is the same but for its band.
use Rattle.strm_ldterm.proofs.Rebanded.{reband-becomes, reband-frees}
use Rattle.strm_ldterm.proofs.write_turns.reband.Goals as goal
use Rattle.strm_blocks.specs.Blocks.{token}

pub returns-clause-became : goal.returns-clause-became
returns-clause-became g c =
    reband-becomes (g.B.Blocks.value c.args.store.now) (g.B.Blocks.value c.set_band.new.self) (token c.args.message.now) c.args.band.0 c.requires.in_hand c.requires.is c.audit_band.ensures c.set_band.ensures

pub returns-clause-blocks : goal.returns-clause-blocks
returns-clause-blocks g c =
    reband-frees (g.B.Blocks.value c.args.store.now) (g.B.Blocks.value c.set_band.new.self) (token c.args.message.now) c.args.band.0 c.requires.in_hand c.requires.is c.audit_band.ensures c.set_band.ensures
