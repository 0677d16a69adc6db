-- What becomes of a message with parts that goes down a side's stream, where no module stands on it (putq(9F)).
use Rattle.std.specs.Prelude.{[]}
use Rattle.strm_laws.specs.Prelude.{Side, Carried, Message, driver_of, enable_if, put_on, put_enables}
use Rattle.strm_laws.specs.State.{State, stream, with_stream, with_driver_queue}

module _ {C : Type 0} where
  -- it stands on the driver's queue, which is enabled where the put does that, and nothing goes on the way
  abbrev pub put_effect : Side → Message C → State C → Carried C (State C)
  put_effect side m s =
      let below = stream side s in
      let q = below.driver.queue in
      record {
        state = record (with_stream side (with_driver_queue (put_on m q) below) s) { enabled = enable_if (put_enables m q) (driver_of side) s.enabled };
        gone = [];
      }
