-- What stands on the driver's queue stays.
use Rattle.std.proofs.Common.{refl}
use Rattle.strm_laws.specs.State.{with_driver_queue}
use Rattle.strm_pair.proofs.Becoming.{side-becomes}
use Rattle.strm_pair.proofs.streams.Streams.keep.Goals as goal

pub returns : goal.returns
returns c =
    side-becomes c.args.side c.args.self.now c.get_mut.result.now c.get_mut.ensures.value _ (λ t. with_driver_queue (record t.driver.queue { want_read = c.args.want_read }) t) (λ s. refl)
    (λ s is. record {
      head_list = is.head_list;
      driver_list = is.driver_list;
      head = is.head;
      driver = record { messages = is.driver.messages; counted = is.driver.counted };
      stack = is.stack;
      once = is.once;
      lists = is.lists;
    })
