-- Bytes of the control part are taken first, and the data part stays as it is.
use Rattle.strm_head.proofs.Prelude.{◌∙◌, ◌≡◌, ◌++◌, length, take, ap, sym, subst, arith, length-take-le, data-cut, changed-chain, changed-in_hand}
use Rattle.strm_head.specs.Prelude.{IsInHand, in_hand, changed, token, control_bytes, data_bytes, without_control, without_data}
use Rattle.strm_msg.proofs.Hands.{changed-twice}
use Rattle.strm_head.proofs.getting.take_parts.Goals as goal

pub take_data_into-requires-clause-in_hand : goal.take_data_into-requires-clause-in_hand
take_data_into-requires-clause-in_hand g c =
    let s = g.B.Blocks.value c.args.store.now in
    let i = token c.args.message.now in
    subst (λ v. IsInHand v i) (sym c.take_control_into.ensures.trimmed) (changed-in_hand s i (without_control c.args.count (in_hand s i)) i c.requires.in_hand)

pub take_data_into-requires-clause-has : goal.take_data_into-requires-clause-has
take_data_into-requires-clause-has g c =
    let s = g.B.Blocks.value c.args.store.now in
    let t = g.B.Blocks.value c.take_control_into.new.store in
    let i = token c.args.message.now in
    let first = without_control c.args.count (in_hand s i) in
    let now : in_hand t i ≡ first = ap (λ v. in_hand v i) c.take_control_into.ensures.trimmed ∙ changed-chain s i first c.requires.in_hand in
    omega (arith, ap (λ xs. length (data_bytes xs)) now, ap length (data-cut c.args.count (in_hand s i)), c.requires.has_data)

pub take_data_into-requires-clause-room : goal.take_data_into-requires-clause-room
take_data_into-requires-clause-room g c =
    let bytes = control_bytes (in_hand (g.B.Blocks.value c.args.store.now) (token c.args.message.now)) in
    omega (arith, ap length c.take_control_into.ensures.given, length-take-le c.args.count bytes c.requires.has_control, c.requires.room, c.requires.data_room)

pub returns-clause-given : goal.returns-clause-given
returns-clause-given g c =
    let s = g.B.Blocks.value c.args.store.now in
    let t = g.B.Blocks.value c.take_control_into.new.store in
    let i = token c.args.message.now in
    let first = without_control c.args.count (in_hand s i) in
    let now : in_hand t i ≡ first = ap (λ v. in_hand v i) c.take_control_into.ensures.trimmed ∙ changed-chain s i first c.requires.in_hand in
    c.take_data_into.ensures.given
    ∙ ap (λ xs. xs ++ take c.args.data_count (data_bytes (in_hand t i))) c.take_control_into.ensures.given
    ∙ ap (λ xs. take c.args.count (control_bytes (in_hand s i)) ++ xs) (ap (λ xs. take c.args.data_count (data_bytes xs)) now ∙ ap (take c.args.data_count) (data-cut c.args.count (in_hand s i)))

pub returns-clause-cut : goal.returns-clause-cut
returns-clause-cut g c =
    let s = g.B.Blocks.value c.args.store.now in
    let t = g.B.Blocks.value c.take_control_into.new.store in
    let i = token c.args.message.now in
    let first = without_control c.args.count (in_hand s i) in
    let now : in_hand t i ≡ first = ap (λ v. in_hand v i) c.take_control_into.ensures.trimmed ∙ changed-chain s i first c.requires.in_hand in
    c.take_data_into.ensures.trimmed
    ∙ ap (λ xs. changed t i (without_data c.args.data_count xs)) now
    ∙ ap (λ v. changed v i (without_data c.args.data_count first)) c.take_control_into.ensures.trimmed
    ∙ changed-twice s i first (without_data c.args.data_count first)
