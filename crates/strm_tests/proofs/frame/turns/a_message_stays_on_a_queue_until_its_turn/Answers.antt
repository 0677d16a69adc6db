use Rattle.strm_tests.proofs.frame.turns.a_message_stays_on_a_queue_until_its_turn.Goals as goal

pub play_all-requires : goal.play_all-requires
play_all-requires g c = rw c.in_ok-store.ensures (c.new-rig.ensures 20 20)
