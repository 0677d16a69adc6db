use Rattle.std.proofs.Common.{ap, arith}
use Rattle.strm_types.specs.declared.names.Side.TheVariants.{Slave}
use Rattle.strm_types.specs.declared.names.Way.TheVariants.{Up}
use Rattle.strm_types.specs.Shapes.{shape_of}
use Rattle.strm_frame.specs.Outboxes.{message_in}
use Rattle.strm_msg.proofs.MadeData.{made-data}
use Rattle.strm_tests.proofs.ToySteps.{count-ends, made-alone}
use Rattle.strm_tests.proofs.frame.a_message_is_handed_on_until_an_end_takes_it.Goals as goal

pub deliver-requires-clause-can_put : goal.deliver-requires-clause-can_put
deliver-requires-clause-can_put g c =
    made-alone c.in_ok-store.store c.from_bytes.new.store c.in_ok-message.message.name _ (ap (λ v. v.hand) c.in_ok-store.ensures) c.in_ok-message.ensures

pub deliver-requires-clause-chain : goal.deliver-requires-clause-chain
deliver-requires-clause-chain g c =
    (made-data c.in_ok-store.store c.from_bytes.new.store c.in_ok-message.message.name _ c.in_ok-message.ensures).one

pub deliver-requires-clause-may : goal.deliver-requires-clause-may
deliver-requires-clause-may g c =
    let s = c.from_bytes.new.store in
    let none = count-ends 16 (record { side = Slave; at = 4; way = Up }) (shape_of (message_in s c.in_ok-message.message.name)) (omega arith) in
    record { room = record { mblks = omega (arith, none); dblks = omega (arith, none) }; spare = omega (arith, none); ends = omega (arith, none) }
