-- No module stands there.
use Rattle.strm_pair.proofs.Prelude.{refl, map, ap, arith, rules, sym, subst, none-once}
use Rattle.strm_pair.specs.Prelude.{all_of, AreHeld, owns}
use Rattle.strm_pair.specs.AnyModules.{IsHeld, module_in}
use Rattle.strm_pair.specs.Stacks.{stack_owns}
use Rattle.strm_pair.specs.Streams.{AreApart}
use Rattle.strm_pair.proofs.Sides.{blank-for}
use Rattle.strm_pair.proofs.streams.new_end.Goals as goal

pub returns-clause-side : goal.returns-clause-side
returns-clause-side c = λ s blank.
    let none = c.new-3.ensures in
    record {
      head_list = search rules;
      driver_list = search rules;
      head = search rules;
      driver = search rules;
      stack = subst (λ xs. AreHeld IsHeld owns s xs) (sym none) (record { each = tt; apart = λ k. omega arith; order = tt });
      once = subst (λ xs. AreApart (map (module_in s) xs)) (sym none) none-once;
      lists = blank-for s c.args.first blank (stack_owns c.new-3.result) (λ k. ap (λ xs. all_of owns xs k) none);
    }

pub returns-clause-stream : goal.returns-clause-stream
returns-clause-stream c = λ s blank.
    let head = c.new-2.ensures in
    let own = c.new.ensures in
    let driver = c.new-4.ensures in
    rw (
      head.queue,
      head.read_mode,
      head.control_mode,
      head.tostop,
      head.group,
      head.hung_up,
      head.signals,
      head.ioctl,
      own.list,
      own.flows,
      own.want_read,
      own.no_enable,
      driver.list,
      driver.flows,
      driver.want_read,
      driver.no_enable,
      c.new-3.ensures,
      blank.head,
      blank.driver,
    ) refl
