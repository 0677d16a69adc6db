-- The message is the only one in hand, and none is when all is delivered.
use Rattle.strm_types.specs.Shapes.{shape_of}
use Rattle.strm_blocks.specs.Blocks.{in_hand, token}
use Rattle.strm_frame.specs.Outboxes.{message_in}
use Rattle.strm_frame.specs.Stacks.{all_of}
use Rattle.strm_frame.proofs.Handing.{alone-can, none-left}
use Rattle.strm_tests.proofs.RigSteps.{kept-none, rig-may}
use Rattle.strm_tests.proofs.frame.rig.Rig.put.Goals as goal

pub deliver-requires-clause-can_put : goal.deliver-requires-clause-can_put
deliver-requires-clause-can_put g c =
    let s = g.B.Blocks.value c.args.store.now in
    let n = token c.args.message in
    let xs = c.args.self.now.modules.modules.items in
    alone-can s n (in_hand s n) (all_of (λ y i. 0) xs) c.requires.alone (kept-none xs)

pub deliver-requires-clause-may : goal.deliver-requires-clause-may
deliver-requires-clause-may g c =
    let s = g.B.Blocks.value c.args.store.now in
    rig-may s c.args.to (shape_of (message_in s (token c.args.message)))

pub returns : goal.returns
returns g c =
    let s = g.B.Blocks.value c.args.store.now in
    let n = token c.args.message in
    let xs = c.args.self.now.modules.modules.items in
    let ys = c.deliver.new.stations.modules.modules.items in
    record {
      are = c.deliver.ensures.delivers.held;
      hand = none-left s (g.B.Blocks.value c.deliver.new.store) n (in_hand s n) (all_of (λ y i. 0) xs) (all_of (λ y i. 0) ys) c.requires.alone (kept-none ys) c.deliver.ensures.delivers.hands;
    }
