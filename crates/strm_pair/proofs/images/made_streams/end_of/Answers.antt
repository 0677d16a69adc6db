-- The queues stand first, and then the modules.
use Rattle.strm_pair.proofs.Prelude.{◌+◌, ◌∙◌, ap, arith, subst, sum_by, sym}
use Rattle.strm_pair.specs.Placing.{AreModuleTexts, AreStacked, module_blocks, text_pair}
use Rattle.strm_pair.specs.Shelves.{Restocks}
use Rattle.strm_pair.proofs.EndsMade.{blocks-same, list-free, stood}
use Rattle.strm_pair.proofs.images.made_streams.end_of.Goals as goal

pub stack_of-stack-requires-clause-room : goal.stack_of-stack-requires-clause-room
stack_of-stack-requires-clause-room g c =
    let ms = ap (λ xs. sum_by module_blocks xs) c.as_slice.ensures.value in
    let head = c.queue_of-queue.ensures.spent in
    let driver = c.queue_of-driver.ensures.spent in
    record {
      mblks = omega (arith, c.requires.room.mblks, head.mblks, driver.mblks, blocks-same c.args.text.now.modules.items, ms);
      dblks = omega (arith, c.requires.room.dblks, head.dblks, driver.dblks, blocks-same c.args.text.now.modules.items, ms);
    }

pub returns-clause-stood : goal.returns-clause-stood
returns-clause-stood g c =
    let s = g.B.Blocks.value c.queue_of-driver.new.store in
    let t = g.B.Blocks.value c.stack_of-stack.new.store in
    stood c.args.text.now c.args.opened c.requires.good c.queue_of-queue.ensures.fills c.queue_of-queue.ensures.queue c.queue_of-queue.ensures.spent
    c.queue_of-driver.ensures.fills c.queue_of-driver.ensures.queue c.queue_of-driver.ensures.spent c.stack_of-stack.result
    (subst (λ ms. AreStacked s t (c.args.first + 2) c.args.shelf.now c.stack_of-stack.new.shelf ms c.stack_of-stack.result.modules.items) c.as_slice.ensures.value c.stack_of-stack.ensures)
    c.head_of.result c.head_of.ensures.queue c.head_of.ensures.head

pub stack_of-stack-requires-clause-empty : goal.stack_of-stack-requires-clause-empty
stack_of-stack-requires-clause-empty g c = λ k low high.
    list-free c.queue_of-queue.ensures.fills c.queue_of-driver.ensures.fills k low ∙ c.requires.blank.modules k low (omega (arith, high))

pub stack_of-stack-requires-clause-shelf : goal.stack_of-stack-requires-clause-shelf
stack_of-stack-requires-clause-shelf g c = omega (arith, c.requires.shelf, ap (λ ms. sum_by text_pair ms) c.as_slice.ensures.value)

pub stack_of-stack-requires-clause-good : goal.stack_of-stack-requires-clause-good
stack_of-stack-requires-clause-good g c = subst AreModuleTexts (sym c.as_slice.ensures.value) c.requires.good.modules

pub returns-clause-shelf : goal.returns-clause-shelf
returns-clause-shelf g c =
    subst (λ ms. Restocks c.args.shelf.now c.stack_of-stack.new.shelf 0 (sum_by text_pair ms)) c.as_slice.ensures.value c.stack_of-stack.ensures.shelf
