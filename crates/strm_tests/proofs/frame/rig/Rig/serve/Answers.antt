-- What was sent is delivered, and nothing is left in hand.
use Rattle.std.proofs.Common.{◌∙◌, ◌-◌, map, false, refl, sym, subst, arith}
use Rattle.strm_types.specs.declared.names.Side.TheVariants.{Slave}
use Rattle.strm_types.specs.declared.names.Way.TheVariants.{Down}
use Rattle.strm_types.specs.declared.spots.Spot.{Spot}
use Rattle.strm_types.specs.Shapes.{shape_of}
use Rattle.strm_frame.specs.Hands.{Hands}
use Rattle.strm_frame.specs.Outboxes.{message_in}
use Rattle.strm_frame.specs.declared.stack.Stack.{Stack}
use Rattle.strm_tests.specs.declared.frame.stock.Stock as toy
use Rattle.strm_frame.specs.Serves.{stop_of}
use Rattle.strm_frame.specs.Stacks.{all_of}
use Rattle.strm_frame.specs.Standings.{standing_in}
use Rattle.strm_frame.proofs.Beside.{rest-in}
use Rattle.strm_tests.proofs.RigSteps.{eight-taken, kept-none, rig-may, room-seen, sent-can, sent-chain, sent-rest, none-rest}
use Rattle.strm_tests.proofs.frame.rig.Rig.serve.Goals as goal
use Rattle.strm_blocks.specs.Blocks.{token}

pub serve-served-requires : goal.serve-served-requires
serve-served-requires g c =
    let xs = c.args.self.now.modules.modules.items in
    let two = c.requires.rest.are.two in
    let within = c.requires.within in
    let s = g.B.Blocks.value c.args.store.now in
    let room = room-seen s (sym c.has_room.ensures ∙ c.if-not-has_room.false) in
    let few = eight-taken (map (standing_in (λ t y. y.name) s) xs) (c.args.at - 1) in
    (omega arith, (c.requires.inside, (omega arith, (c.requires.rest.are.held, ((λ d. refl), (rest-in s (all_of (λ y i. 0) xs) (kept-none xs), (record { mblks = omega (arith, few, room.mblks); dblks = omega (arith, few, room.dblks) }, tt)))))))

pub deliver-requires-clause-held : goal.deliver-requires-clause-held
deliver-requires-clause-held g c = rw c.note_all.ensures (record { held = c.serve-served.ensures.does.held; two = c.serve-served.ensures.length ∙ c.requires.rest.are.two })

pub deliver-requires-clause-can_put : goal.deliver-requires-clause-can_put
deliver-requires-clause-can_put g c =
    let s = g.B.Blocks.value c.args.store.now in
    let t = g.B.Blocks.value c.serve-served.new.store in
    let xs = c.args.self.now.modules.modules.items in
    let ys = c.serve-served.new.self.modules.items in
    rw c.note_all.ensures (sent-can s t (all_of (λ y i. 0) xs) (all_of (λ y i. 0) ys) _ c.requires.rest.hand (kept-none xs) (kept-none ys) c.serve-served.ensures.does.hands c.in-Some.next _ c.in-Some.ensures)

pub deliver-requires-clause-chain : goal.deliver-requires-clause-chain
deliver-requires-clause-chain g c =
    let s = g.B.Blocks.value c.args.store.now in
    let t = g.B.Blocks.value c.serve-served.new.store in
    let xs = c.args.self.now.modules.modules.items in
    let ys = c.serve-served.new.self.modules.items in
    sent-chain s t (all_of (λ y i. 0) xs) (all_of (λ y i. 0) ys) _ c.requires.rest.hand (kept-none xs) (kept-none ys) c.serve-served.ensures.does.hands c.in-Some.next _ c.in-Some.ensures c.serve-served.ensures.does.chains

pub deliver-requires-clause-may : goal.deliver-requires-clause-may
deliver-requires-clause-may g c =
    let t = g.B.Blocks.value c.serve-served.new.store in
    rig-may t c.in-Some.next.to (shape_of (message_in t (token c.in-Some.next.message)))

pub returns-in_default : goal.returns-in_default
returns-in_default g c =
    let s = g.B.Blocks.value c.args.store.now in
    let t = g.B.Blocks.value c.serve-served.new.store in
    let xs = c.args.self.now.modules.modules.items in
    let ys = c.serve-served.new.self.modules.items in
    rw c.note_all.ensures (record {
      are = record { held = c.serve-served.ensures.does.held; two = c.serve-served.ensures.length ∙ c.requires.rest.are.two };
      hand = none-rest s t (all_of (λ y i. 0) xs) (all_of (λ y i. 0) ys) _ c.requires.rest.hand (kept-none xs) (kept-none ys) c.serve-served.ensures.does.hands c.in_default.ensures.0;
    })

pub returns : goal.returns
returns g c =
    let s = g.B.Blocks.value c.args.store.now in
    let t = g.B.Blocks.value c.serve-served.new.store in
    let u = g.B.Blocks.value c.deliver.new.store in
    let n = token c.in-Some.next.message in
    let xs = c.args.self.now.modules.modules.items in
    let ys = c.serve-served.new.self.modules.items in
    let zs = c.deliver.new.stations.modules.modules.items in
    let here : Spot = record { side = Slave; at = c.args.at; way = Down } in
    let carried : Hands t u n (all_of (λ y i. 0) ys) (all_of (λ y i. 0) zs) (λ _. 0) = subst (λ (m : Stack toy.Stock). Hands t u n (all_of (λ y i. 0) m.modules.items) (all_of (λ y i. 0) zs) (λ _. 0)) c.note_all.ensures c.deliver.ensures.delivers.hands in
    record {
      are = c.deliver.ensures.delivers.held;
      hand = sent-rest s t (all_of (λ y i. 0) xs) (all_of (λ y i. 0) ys) _ c.requires.rest.hand (kept-none xs) (kept-none ys) c.serve-served.ensures.does.hands c.in-Some.next _ c.in-Some.ensures
          here false (stop_of c.serve-served.result) _ (map (standing_in (λ t y. y.name) s) xs) u (all_of (λ y i. 0) zs) c.serve-served.ensures.does.sent (kept-none zs) carried;
    }
