-- Nothing stands on its queues, and no module on its stack.
use Rattle.strm_pair.proofs.Prelude.{◌+◌, map, ap, arith, refl, sym, subst, ◌∙◌, none-once}
use Rattle.strm_pair.specs.Prelude.{list_at, all_of, AreHeld, owns}
use Rattle.strm_frame.proofs.Pairs.{empty-ready}
use Rattle.strm_queue.proofs.Renewed.{fresh-queue}
use Rattle.strm_pair.specs.AnyModules.{IsHeld, module_in}
use Rattle.strm_pair.specs.Stacks.{stack_owns}
use Rattle.strm_pair.specs.Streams.{AreApart}
use Rattle.strm_pair.proofs.Sides.{blank-for, readable-none}
use Rattle.strm_pair.proofs.ends.StreamEnd.renew.Goals as goal

pub returns-clause-side : goal.returns-clause-side
returns-clause-side c = λ s t first is blank.
    let none = c.take_modules.ensures.none in
    let head = c.renew.new.self.queue in
    let head_is = c.renew.ensures.list ∙ is.head_list in
    let driver_is = c.renew-2.ensures.list ∙ is.driver_list in
    record {
      head_list = head_is;
      driver_list = driver_is;
      head = record { ready = empty-ready t head first head_is c.renew.ensures.counted blank.head; readable = readable-none (list_at t head.list) (ap (list_at t) head_is ∙ blank.head) };
      driver = empty-ready t c.renew-2.new.self (first + 1) driver_is c.renew-2.ensures.counted blank.driver;
      stack = subst (λ xs. AreHeld IsHeld owns t xs) (sym none) (record { each = tt; apart = λ k. omega arith; order = tt });
      once = subst (λ xs. AreApart (map (module_in t) xs)) (sym none) none-once;
      lists = blank-for t first blank (stack_owns c.take_modules.new.stack) (λ k. ap (λ xs. all_of owns xs k) none);
    }

pub returns-clause-stream : goal.returns-clause-stream
returns-clause-stream c = λ s t first is blank.
    let head_is = c.renew.ensures.list ∙ is.head_list in
    let driver = c.renew-2.new.self in
    let driver_is = c.renew-2.ensures.list ∙ is.driver_list in
    rw (c.renew.ensures.head t (ap (list_at t) is.head_list ∙ blank.head), c.take_modules.ensures.none, fresh-queue t driver 512 128 (ap (list_at t) driver_is ∙ blank.driver) c.renew-2.ensures.flows c.renew-2.ensures.want_read c.renew-2.ensures.no_enable) refl
