-- Its kind does it; an ldterm keeps what the module does.
use Rattle.strm_pair.proofs.Prelude.{true, refl, sym, subst, ◌∙◌, arith, false≢true}
use Rattle.strm_pair.specs.Prelude.{Ends, discipline_of, AreIn, HasRoom, plain, stood, queues_in}
use Rattle.strm_types.specs.LdtermStands.{discipline_at}
use Rattle.strm_ldterm.specs.Bounds.{turn_cost}
use Rattle.strm_laws.specs.Behaviours.{own_by}
use Rattle.strm_own.specs.Stands.{turn_room}
use Rattle.strm_own.specs.StandsLaws.{own-once}
use Rattle.strm_pair.specs.AnyModules.{MayServe, kind_cost, kind_in, kind_keeps}
use Rattle.strm_pair.proofs.OwnCalls.{own-room}
use Rattle.strm_pair.proofs.KindsDo.{kind-fits, kind-serves, ldterm-kind, own-kind, pckt-kind, ptem-kind}
use Rattle.strm_pair.proofs.modules.AnyModuleProcedures.serve.Goals as goal

pub serve-requires-clause-held : goal.serve-requires-clause-held
serve-requires-clause-held g c = kind-fits _ _ _ _ _ ldterm-kind _ _ _ _ c.in-Ldterm.is c.requires.held

pub serve-requires-in-Ptem-clause-held : goal.serve-requires-in-Ptem-clause-held
serve-requires-in-Ptem-clause-held g c = kind-fits _ _ _ _ _ ptem-kind _ _ _ _ c.in-Ptem.is c.requires.held

pub serve-requires-in-Pckt-clause-held : goal.serve-requires-in-Pckt-clause-held
serve-requires-in-Pckt-clause-held g c = kind-fits _ _ _ _ _ pckt-kind _ _ _ _ c.in-Pckt.is c.requires.held

pub serve-requires-clause-kept : goal.serve-requires-clause-kept
serve-requires-clause-kept g c = subst (λ x. AreIn (g.B.Blocks.value c.args.store.now) (λ _. 0) (kind_keeps x)) c.in-Ldterm.is c.requires.kept

pub returns-in-Ldterm : goal.returns-in-Ldterm
returns-in-Ldterm g c =
    let here = c.args.here in
    let again = c.args.again in
    rw c.in-Ldterm.is (kind-serves _ _ _ _ _ ldterm-kind (turn_cost here true) (kind_cost here true)
    (λ n x. Ends here.way again (discipline_at x) n) (λ n x. Ends here.way again (discipline_of x) n) (λ n x ends. ends)
    _ _ _ _ _ _ _ _ _ _ (λ on p. refl) c.serve.ensures)

-- ptem and pckt have no procedure, and never stop; nor does one of a user's own
pub returns-in-Ptem : goal.returns-in-Ptem
returns-in-Ptem g c =
    rw c.in-Ptem.is (rw c.in-Ptem.is (kind-serves _ _ _ _ _ ptem-kind (λ p. 0) (kind_cost c.args.here true)
    (λ n x. ⊥) (λ n x. Ends c.args.here.way c.args.again (discipline_of x) n) (λ n x never. absurd never)
    _ _ _ _ _ _ _ _ _ _ (λ on p. absurd (false≢true on)) c.serve-in-Ptem.ensures))

pub returns-in-Pckt : goal.returns-in-Pckt
returns-in-Pckt g c =
    rw c.in-Pckt.is (rw c.in-Pckt.is (kind-serves _ _ _ _ _ pckt-kind (λ p. 0) (kind_cost c.args.here true)
    (λ n x. ⊥) (λ n x. Ends c.args.here.way c.args.again (discipline_of x) n) (λ n x never. absurd never)
    _ _ _ _ _ _ _ _ _ _ (λ on p. absurd (false≢true on)) c.serve-in-Pckt.ensures))

pub serve-requires-in-Own-clause-held : goal.serve-requires-in-Own-clause-held
serve-requires-in-Own-clause-held g c = kind-fits _ _ _ _ _ own-kind _ _ _ _ c.in-Own.is c.requires.held

-- A call of one of a user's own has room for what it sends, as none goes on with a message in work.
pub serve-requires-in-Own-clause-room : goal.serve-requires-in-Own-clause-room
serve-requires-in-Own-clause-room g c =
    let s = g.B.Blocks.value c.args.store.now in
    let here = c.args.here in
    let again = c.args.again in
    let room = subst (λ x. HasRoom s (kind_cost here again (kind_in s x))) c.in-Own.is c.requires.room in
    let may = subst (λ x. MayServe here.way again (kind_in s x)) c.in-Own.is c.requires.turn in
    let few = own-room here here.way again c.in-Own.own may in
    record { mblks = omega (arith, room.mblks, few); dblks = omega (arith, room.dblks, few) }

pub returns-in-Own : goal.returns-in-Own
returns-in-Own g c =
    let by = own_by g.M.Behaves.does plain in
    let x = stood c.in-Own.own (queues_in (g.B.Blocks.value c.args.store.now) c.args.queues.now) in
    rw c.in-Own.is (kind-serves _ _ _ _ _ own-kind (λ p. turn_room) (kind_cost c.args.here true)
    (λ n x. ⊥) (λ n x. Ends c.args.here.way c.args.again (discipline_of x) n) (λ n x never. absurd never)
    _ _ _ _ _ _ _ _ _ _ (λ on p. absurd (false≢true (sym (own-once by c.args.here x) ∙ on))) c.serve-in-Own.ensures)
