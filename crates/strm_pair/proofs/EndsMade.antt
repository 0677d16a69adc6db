-- A stream of a text, on eight lists of a store: its queues one after the other, and then its modules.
use Rattle.strm_pair.proofs.Prelude.{ℕ, ◌≡◌, ◌≤◌, ◌+◌, true, List, [], ◌∷◌, map, refl, sym, ap, subst, ◌∙◌, arith}
use Rattle.strm_pair.proofs.Prelude.{Option, None, Some, sum_by, sum_by-cons, kind-is, ready-same}
use Rattle.strm_pair.specs.Prelude.{MsgKind, Openness, is_data_kind, is_body_kind, is_control_kind, EachOnce, module_name, is_part_kind, Block}
use Rattle.strm_pair.specs.Prelude.{StoreValue, block_at, list_at, message_of, queue_in, HoldsReadable, IsHeadQueue, Head, head_in, Stack}
use Rattle.strm_pair.specs.Prelude.{ModuleText, StreamText, laid_blocks, module_now, modules_now, names_now, queue_now, laid_now}
use Rattle.std.specs.List.{AllByRecursion}
use Rattle.strm_types.specs.declared.kinds.MsgKind.TheVariants as kinds
use Rattle.strm_types.specs.Queue as state
use Rattle.strm_types.specs.Heads as heads
use Rattle.strm_laws.specs.Restorable.{StandsOn}
use Rattle.strm_queue.specs.declared.queue.Queue.{Queue}
use Rattle.strm_image.specs.declared.modules.QueuesText.{QueuesText}
use Rattle.strm_image.specs.Counts as counts
use Rattle.strm_image.specs.Counts.{queue_blocks}
use Rattle.strm_pair.specs.declared.ends.StreamEnd.{StreamEnd}
use Rattle.strm_pair.specs.declared.modules.AnyModule.{AnyModule}
use Rattle.strm_pair.specs.AnyModules.{module_in}
use Rattle.strm_pair.specs.Laying.{IsStood, IsStreamText, stream_now}
use Rattle.strm_pair.specs.Placing.{AreStacked, module_blocks}
use Rattle.strm_pair.specs.Runs.{Spent}
use Rattle.strm_pair.specs.declared.shelves.Shelf.{Shelf}
use Rattle.strm_pair.specs.Standing.{Fills}
use Rattle.strm_pair.specs.Streams.{AreApart}
use Rattle.strm_pair.proofs.Sides.{queue-same}

-- ---- what a text tells

part-data : (k : MsgKind) → is_part_kind k ≡ true → is_data_kind k ≡ true
unfolding is_data_kind is_control_kind is_body_kind
part-data kinds.Data is = refl
part-data kinds.Proto is = refl
part-data kinds.Pcproto is = refl
part-data _ is = absurd cc

-- what has parts may be read
readable-each : (q : List (List Block)) → AllByRecursion (λ m. StandsOn is_part_kind m) (map message_of q) → AllByRecursion (λ chain. is_data_kind (block_at 0 chain).kind ≡ true) q
readable-each [] all = tt
readable-each (chain ∷ q) all = (part-data (block_at 0 chain).kind (ap is_part_kind (sym (kind-is chain)) ∙ all.0.kind), readable-each q all.1)

-- the blocks of modules, as the text counts them
pub blocks-same : (ms : List ModuleText) → sum_by counts.module_blocks (modules_now ms) ≡ sum_by module_blocks ms
blocks-same [] = refl
blocks-same (m ∷ ms) = omega (arith, sum_by-cons counts.module_blocks (module_now m) (modules_now ms), sum_by-cons module_blocks m ms, one m, blocks-same ms)
  where
    one : (m : ModuleText) → counts.module_blocks (module_now m) ≡ module_blocks m
    one m = by m.queues
      where
        by : (queues : Option QueuesText) → let n = record m { queues = queues } in counts.module_blocks (module_now n) ≡ module_blocks n
        by None = refl
        by (Some q) = omega arith

-- ---- the lists

module _ {s a b : StoreValue} {first : ℕ} {q r : Queue} (h : Fills s a first q) (w : Fills a b (first + 1) r) where
  -- the driver's list is empty till then, and so are those of the modules
  pub list-free : (k : ℕ) → first + 2 ≤ k → list_at b k ≡ list_at s k
  list-free k low = w.others k (λ e. absurd (omega (arith, low, e))) ∙ h.others k (λ e. absurd (omega (arith, low, e)))

  module _ (d : StoreValue) (f : (k : ℕ) → (first + 2 ≤ k → first + 2 + 6 ≤ k) → list_at d k ≡ list_at b k) where
    head-list : list_at d q.list ≡ list_at a q.list
    head-list =
        f q.list (λ low. absurd (omega (arith, low, h.list_is)))
        ∙ w.others q.list (λ e. absurd (omega (arith, e, h.list_is)))

    driver-list : list_at d r.list ≡ list_at b r.list
    driver-list = f r.list (λ low. absurd (omega (arith, low, w.list_is)))

    outside : (k : ℕ) → (first ≤ k → first + 8 ≤ k) → list_at d k ≡ list_at s k
    outside k out =
        f k (λ low. omega (arith, out (omega (arith, low))))
        ∙ w.others k (λ e. absurd (omega (arith, e, out (omega (arith, e)))))
        ∙ h.others k (λ e. absurd (omega (arith, e, out (omega (arith, e)))))

pub names-same : (ms : List ModuleText) → names_now ms ≡ map module_name (modules_now ms)
names-same [] = refl
names-same (m ∷ ms) = ap (λ ns. module_name (module_now m) ∷ ns) (names-same ms)

-- ---- what stands there

module _ {s a b d : StoreValue} {first : ℕ} {q r : Queue} (text : StreamText) (opened : Openness) (good : IsStreamText text)
    (h : Fills s a first q) (head_is : queue_in a q ≡ queue_now text.head) (head_spent : Spent s a (queue_blocks (queue_now text.head)))
    (w : Fills a b (first + 1) r) (driver_is : queue_in b r ≡ queue_now text.driver) (driver_spent : Spent a b (queue_blocks (queue_now text.driver)))
    (stack : Stack AnyModule) {was is_now : Shelf} (stacked : AreStacked b d (first + 2) was is_now text.modules.items stack.modules.items)
    (head : Head) (is : head.queue ≡ q) (shown : (t : StoreValue) → head_in t head ≡ record (laid_now text).head { queue = queue_in t q }) where
  abbrev made : StreamEnd
  made = record { opened = opened; head = head; stack = stack; driver = r }

  abbrev ms : List ModuleText
  ms = text.modules.items

  head-same : queue_in d q ≡ queue_now text.head
  head-same = queue-same a d q (head-list h w d stacked.others) ∙ head_is

  driver-same : queue_in d r ≡ queue_now text.driver
  driver-same = queue-same b d r (driver-list h w d stacked.others) ∙ driver_is

  readable : HoldsReadable (list_at d q.list)
  readable = record { each = readable-each (list_at d q.list) (subst (λ (x : state.Queue ℕ). AllByRecursion (λ m. StandsOn is_part_kind m) x.messages) (sym head-same) good.head.messages) }

  head-fits : IsHeadQueue d head.queue
  head-fits = subst (IsHeadQueue d) (sym is) (record { ready = ready-same a d q (head-list h w d stacked.others) h.ready; readable = readable })

  names-once : AreApart (map (module_in d) stack.modules.items)
  names-once = subst (λ ps. EachOnce (map module_name ps)) (sym stacked.state) (subst EachOnce (names-same ms) good.modules.names)

  pub stood : IsStood s d first (stream_now opened text) (laid_blocks (laid_now text)) made
  stood = record {
    stream =
        ap (λ (x : heads.Head ℕ). record { opened = opened; head = x; modules = map (module_in d) stack.modules.items; driver = record { queue = queue_in d r } })
        (shown d ∙ ap (λ (x : state.Queue ℕ). record (laid_now text).head { queue = x }) head-same)
        ∙ ap (λ ps. record { opened = opened; head = (laid_now text).head; modules = ps; driver = record { queue = queue_in d r } }) stacked.state
        ∙ ap (λ (x : state.Queue ℕ). record { opened = opened; head = (laid_now text).head; modules = modules_now ms; driver = record { queue = x } }) driver-same;
    side = record {
      head_list = ap (λ (x : Queue). x.list) is ∙ h.list_is;
      driver_list = w.list_is;
      head = head-fits;
      driver = ready-same b d r (driver-list h w d stacked.others) w.ready;
      stack = stacked.held;
      once = names-once;
      lists = stacked.lists;
    };
    rests = stacked.rests;
    before = λ k low. outside h w d stacked.others k (λ up. absurd (omega (arith, low, up)));
    behind = λ k high. outside h w d stacked.others k (λ up. high);
    hand = stacked.hand ∙ w.hand ∙ h.hand;
    mblks = stacked.mblks ∙ w.mblks ∙ h.mblks;
    dblks = stacked.dblks ∙ w.dblks ∙ h.dblks;
    spent = record {
      mblks = omega (arith, head_spent.mblks, driver_spent.mblks, stacked.spent.mblks, blocks-same ms);
      dblks = omega (arith, head_spent.dblks, driver_spent.dblks, stacked.spent.dblks, blocks-same ms);
    };
  }
