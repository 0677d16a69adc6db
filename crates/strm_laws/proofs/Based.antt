-- What stands in a state with the origins of a base: how often a test is passed there by bytes that are numbered, and that the bytes are the base's.
use Rattle.strm_laws.proofs.Prelude.{ℕ, ◌≡◌, ◌+◌, Bool, true, false, List, [], ◌∷◌, ◌++◌, length, map, refl, ap, ◌∙◌, arith, count_by, flat_map}
use Rattle.strm_laws.proofs.Prelude.{sum_by, option_map, Option, None, Some, sum_by-cons, each-side, count-join, weight-take}
use Rattle.strm_laws.specs.Prelude.{Dir, MasterToSlave, SlaveToMaster, Side, Master, Slave, Way, Up, Down, Tagged, tagged, Message, cells_of}
use Rattle.strm_laws.specs.Prelude.{map_message, part, weight_of, QueuePair, map_pair, messages_at, messages_on, stood, direction_at, is_open, Queue}
use Rattle.strm_laws.specs.Prelude.{map_messages, map_queue, weight}
use Rattle.std.specs.List.{AllByRecursion}
use Rattle.strm_laws.specs.Based.{based, cells_in, held_by, held_in, number, number_message, number_messages, number_module, number_modules, number_pair, number_queue, number_stream}
use Rattle.strm_laws.specs.Kept.{AreIdle, NothingUnread, state_weight, stream_weight}
use Rattle.strm_laws.specs.Ledgers.{base_count, inline, queued}
use Rattle.strm_laws.specs.Stacked.{Module, Standing, IsAtRest, map_module, module_line, module_weight, modules_weight, queues_weight}
use Rattle.strm_laws.specs.State.{State, Stream, map_state, map_stream}
use Rattle.strm_laws.proofs.LawfulKinds.{plainly}
use Rattle.strm_laws.proofs.StandingLdterms.{number-forgets}

-- how much stands in a direction
module _ {C : Type 0} where
  pub all-counted : (xs : List C) → count_by (λ c. true) xs ≡ length xs
  all-counted [] = refl
  all-counted (x ∷ xs) = omega (arith, count-join (λ c. true) (x ∷ []) xs, all-counted xs)

  pub none-counted : (xs : List C) → count_by (λ c. false) xs ≡ 0
  none-counted [] = refl
  none-counted (x ∷ xs) = omega (arith, count-join (λ c. false) (x ∷ []) xs, none-counted xs)

  cells-join : (xs ys : List (Message C)) → cells_in (xs ++ ys) ≡ cells_in xs + cells_in ys
  cells-join [] ys = omega arith
  cells-join (m ∷ xs) ys = omega (arith, weight-take (λ c. true) m xs, weight-take (λ c. true) m (xs ++ ys), cells-join xs ys)

  -- what stands on the queues of a way of modules, and in their lines
  abbrev on_queues : Way → List (Standing C) → List (Message C)
  on_queues way ps = flat_map (messages_at way) ps

  abbrev in_lines : List (Standing C) → ℕ
  in_lines ps = sum_by (λ q. length (module_line q)) ps

  held-down : (ps : List (Standing C)) → sum_by (held_by Down) ps ≡ cells_in (on_queues Down ps)
  held-down [] = refl
  held-down (q ∷ ps) = omega (arith, sum_by-cons (held_by Down) q ps, held-down ps, cells-join (messages_at Down q) (on_queues Down ps))

  held-up : (ps : List (Standing C)) → sum_by (held_by Up) ps ≡ cells_in (on_queues Up ps) + in_lines ps
  held-up [] = refl
  held-up (q ∷ ps) =
      omega (
        arith,
        sum_by-cons (held_by Up) q ps,
        sum_by-cons (λ q. length (module_line q)) q ps,
        held-up ps,
        cells-join (messages_at Up q) (on_queues Up ps),
      )

-- The master's stream and the slave's hold what a ledger says. A direction goes a way on each.
abbrev on_masters : Dir → Way
on_masters MasterToSlave = Down
on_masters SlaveToMaster = Up

abbrev on_slaves : Dir → Way
on_slaves MasterToSlave = Up
on_slaves SlaveToMaster = Down

pub held-there : {C : Type 0} (dir : Dir) (s : State C) → queued dir s + inline dir s ≡ held_in (on_masters dir) s.ends.master + held_in (on_slaves dir) s.ends.slave
held-there MasterToSlave s = omega (arith, held-down s.ends.master.modules, held-up s.ends.slave.modules)
held-there SlaveToMaster s = omega (arith, held-down s.ends.slave.modules, held-up s.ends.master.modules)

-- How often a test is passed among the first bytes of a base.
pub record NumberedBase (p : Dir → Tagged → Bool) : Type 0 where
  pub upto : Dir → ℕ → ℕ
  pub counted : (dir : Dir) (n : ℕ) (bytes : List ℕ) → count_by (p dir) (number dir n bytes) + upto dir n ≡ upto dir (n + length bytes)
  pub none : (dir : Dir) → upto dir 0 ≡ 0

module _ (p : Dir → Tagged → Bool) (numbered : NumberedBase p) where
  -- numbers that are told in another way
  same-upto : (dir : Dir) (n m : ℕ) → n ≡ m → numbered.upto dir n ≡ numbered.upto dir m
  same-upto dir n m same = ap (numbered.upto dir) same

  part-counted : (dir : Dir) (n : ℕ) (o : Option (List ℕ)) → count_by (p dir) (part (option_map (number dir n) o)) + numbered.upto dir n ≡ numbered.upto dir (n + length (part o))
  part-counted dir n None = omega (arith, same-upto dir n (n + 0) (omega arith))
  part-counted dir n (Some bytes) = numbered.counted dir n bytes

  message-counted : (dir : Dir) (n : ℕ) (m : Message ℕ) → weight_of (p dir) (number_message dir n m) + numbered.upto dir n ≡ numbered.upto dir (n + weight_of (λ c. true) m)
  unfolding weight_of cells_of
  message-counted dir n m =
      let c = part m.control in
      let b = part m.body in
      omega (
        arith,
        part-counted dir n m.control,
        part-counted dir (n + length c) m.body,
        count-join (p dir) (part (option_map (number dir n) m.control)) (part (option_map (number dir (n + length c)) m.body)),
        same-upto dir (n + length c + length b) (n + count_by (λ c. true) (c ++ b)) (omega (arith, count-join (λ c. true) c b, all-counted c, all-counted b)),
      )

  messages-counted : (dir : Dir) (n : ℕ) (ms : List (Message ℕ)) → weight (p dir) (number_messages dir n ms) + numbered.upto dir n ≡ numbered.upto dir (n + cells_in ms)
  messages-counted dir n [] = omega (arith, same-upto dir n (n + 0) (omega arith))
  messages-counted dir n (m ∷ ms) =
      let next = n + weight_of (λ c. true) m in
      omega (
        arith,
        message-counted dir n m,
        messages-counted dir next ms,
        weight-take (p dir) (number_message dir n m) (number_messages dir next ms),
        same-upto dir (next + cells_in ms) (n + cells_in (m ∷ ms)) (omega (arith, weight-take (λ c. true) m ms)),
      )

  module _ (side : Side) where
    abbrev into : Dir
    into = direction_at Up side

    abbrev out_of : Dir
    out_of = direction_at Down side

    -- how often it is passed before these numbers of what goes up and of what goes down
    abbrev before : ℕ → ℕ → ℕ
    before up down = numbered.upto into up + numbered.upto out_of down

    same-before : (a b c d : ℕ) → a ≡ b → c ≡ d → before a c ≡ before b d
    same-before a b c d one two = omega (arith, same-upto into a b one, same-upto out_of c d two)

    stays : (up down : ℕ) → before up down ≡ before (up + 0) (down + 0)
    stays up down = same-before up (up + 0) down (down + 0) (omega arith) (omega arith)

    queues-counted : (up down : ℕ) (queues : Option (QueuePair ℕ)) → queues_weight p side (option_map (number_pair side up down) queues) + before up down
        ≡ before (up + cells_in (messages_on Up queues)) (down + cells_in (messages_on Down queues))
    queues-counted up down None = omega (arith, stays up down)
    queues-counted up down (Some pair) = omega (arith, messages-counted into up pair.read.messages, messages-counted out_of down pair.write.messages)

    module-counted : (up down : ℕ) (q : Standing ℕ) → module_weight p side (number_module side up down q) + before up down ≡ before (up + held_by Up q) (down + held_by Down q)
    module-counted up down q =
        let line = length (module_line q) in
        omega (
          arith,
          (plainly q).counted p side up,
          numbered.counted into up (module_line q),
          queues-counted (up + line) down q.queues,
          same-upto into (up + line + cells_in (messages_at Up q)) (up + held_by Up q) (omega arith),
        )

    modules-counted : (up down : ℕ) (ps : List (Standing ℕ)) → modules_weight p side (number_modules side up down ps) + before up down ≡ before (up + sum_by (held_by Up) ps) (down + sum_by (held_by Down) ps)
    modules-counted up down [] = omega (arith, stays up down)
    modules-counted up down (q ∷ ps) =
        let up' = up + held_by Up q in
        let down' = down + held_by Down q in
        omega (
          arith,
          module-counted up down q,
          modules-counted up' down' ps,
          sum_by-cons (module_weight p side) (number_module side up down q) (number_modules side up' down' ps),
          same-before (up' + sum_by (held_by Up) ps) (up + sum_by (held_by Up) (q ∷ ps)) (down' + sum_by (held_by Down) ps) (down + sum_by (held_by Down) (q ∷ ps))
              (omega (arith, sum_by-cons (held_by Up) q ps))
              (omega (arith, sum_by-cons (held_by Down) q ps)),
        )

    stream-counted : (up down : ℕ) (t : Stream ℕ) → stream_weight p side (number_stream side up down t) + before up down ≡ before (up + held_in Up t) (down + held_in Down t)
    stream-counted up down t =
        let ups = sum_by (held_by Up) t.modules in
        let downs = sum_by (held_by Down) t.modules in
        let head = t.head.queue.messages in
        let driver = t.driver.queue.messages in
        omega (
          arith,
          modules-counted up down t.modules,
          messages-counted into (up + ups) head,
          messages-counted out_of (down + downs) driver,
          same-before (up + ups + cells_in head) (up + held_in Up t) (down + downs + cells_in driver) (down + held_in Down t) (omega arith) (omega arith),
        )

  -- of what stands at the base it is passed as often as among so many numbers of each direction
  pub based-counted : (s : State ℕ) → state_weight p (based s) ≡ numbered.upto MasterToSlave (base_count MasterToSlave s) + numbered.upto SlaveToMaster (base_count SlaveToMaster s)
  based-counted s =
      let m = s.ends.master in
      let t = s.ends.slave in
      let one = stream_weight p Master (number_stream Master 0 0 m) in
      let two = stream_weight p Slave (number_stream Slave (held_in Down m) (held_in Up m) t) in
      let all : one + two ≡ numbered.upto MasterToSlave (base_count MasterToSlave s) + numbered.upto SlaveToMaster (base_count SlaveToMaster s) = omega (
        arith,
        stream-counted Master 0 0 m,
        same-before Master (0 + held_in Up m) (held_in Up m) (0 + held_in Down m) (held_in Down m) (omega arith) (omega arith),
        stream-counted Slave (held_in Down m) (held_in Up m) t,
        numbered.none MasterToSlave,
        numbered.none SlaveToMaster,
        same-upto MasterToSlave (base_count MasterToSlave s) (held_in Down m + held_in Up t) (held-there MasterToSlave s),
        same-upto SlaveToMaster (base_count SlaveToMaster s) (held_in Up m + held_in Down t) (held-there SlaveToMaster s),
      ) in
      all

-- forgetting the origins
abbrev byte : Tagged → ℕ
byte c = c.byte

part-forgets : (dir : Dir) (n : ℕ) (o : Option (List ℕ)) → option_map (map byte) (option_map (number dir n) o) ≡ o
part-forgets dir n None = refl
part-forgets dir n (Some bytes) = ap (λ xs. Some xs) (number-forgets dir n bytes)

message-forgets : (dir : Dir) (n : ℕ) (m : Message ℕ) → map_message byte (number_message dir n m) ≡ m
unfolding map_message
message-forgets dir n m =
    ap (λ control. record m { control = control; body = option_map (map byte) (option_map (number dir (n + length (part m.control))) m.body) }) (part-forgets dir n m.control)
    ∙ ap (λ body. record m { body = body }) (part-forgets dir (n + length (part m.control)) m.body)

messages-forget : (dir : Dir) (n : ℕ) (ms : List (Message ℕ)) → map_messages byte (number_messages dir n ms) ≡ ms
messages-forget dir n [] = refl
messages-forget dir n (m ∷ ms) =
    let next = n + weight_of (λ c. true) m in
    ap (λ x. x ∷ map_messages byte (number_messages dir next ms)) (message-forgets dir n m) ∙ ap (λ xs. m ∷ xs) (messages-forget dir next ms)

queue-forgets : (dir : Dir) (n : ℕ) (q : Queue ℕ) → map_queue byte (number_queue dir n q) ≡ q
queue-forgets dir n q = ap (λ ms. record q { messages = ms }) (messages-forget dir n q.messages)

module _ (side : Side) where
  queues-forget : (up down : ℕ) (queues : Option (QueuePair ℕ)) → option_map (map_pair byte) (option_map (number_pair side up down) queues) ≡ queues
  queues-forget up down None = refl
  queues-forget up down (Some pair) = rw (queue-forgets (direction_at Up side) up pair.read, queue-forgets (direction_at Down side) down pair.write) refl

  module-forgets : (up down : ℕ) (q : Standing ℕ) → IsAtRest q → map_module byte (number_module side up down q) ≡ q
  module-forgets up down q idle =
      let line = length (module_line q) in
      ap (λ (part : Module ℕ). stood part (option_map (map_pair byte) (option_map (number_pair side (up + line) down) q.queues)))
      ((plainly q).forgets side up idle)
      ∙ ap (λ queues. stood q.part queues) (queues-forget (up + line) down q.queues)

  modules-forget : (up down : ℕ) (ps : List (Standing ℕ)) → AllByRecursion (λ q. IsAtRest q) ps → map (map_module byte) (number_modules side up down ps) ≡ ps
  modules-forget up down [] idle = refl
  modules-forget up down (q ∷ ps) idle =
      let up' = up + held_by Up q in
      let down' = down + held_by Down q in
      ap (λ x. x ∷ map (map_module byte) (number_modules side up' down' ps)) (module-forgets up down q idle.0) ∙ ap (λ qs. q ∷ qs) (modules-forget up' down' ps idle.1)

  stream-forgets : (up down : ℕ) (t : Stream ℕ) → AllByRecursion (λ q. IsAtRest q) t.modules → map_stream byte (number_stream side up down t) ≡ t
  stream-forgets up down t idle =
      rw (
        queue-forgets (direction_at Up side) (up + sum_by (held_by Up) t.modules) t.head.queue,
        modules-forget up down t.modules idle,
        queue-forgets (direction_at Down side) (down + sum_by (held_by Down) t.modules) t.driver.queue,
      ) refl

  -- nothing of a turn is under way in what is numbered
  modules-rest : (up down : ℕ) (ps : List (Standing ℕ)) → AllByRecursion (λ q. IsAtRest q) ps → AllByRecursion (λ q. IsAtRest q) (number_modules side up down ps)
  modules-rest up down [] idle = tt
  modules-rest up down (q ∷ ps) idle = ((plainly q).numbered side up idle.0, modules-rest (up + held_by Up q) (down + held_by Down q) ps idle.1)

pub based-forgets : (s : State ℕ) → AreIdle s → map_state tagged.byte (based s) ≡ s
based-forgets s idle =
    let m = s.ends.master in
    rw (stream-forgets Master 0 0 m (idle Master), stream-forgets Slave (held_in Down m) (held_in Up m) s.ends.slave (idle Slave)) refl

pub based-idle : (s : State ℕ) → AreIdle s → AreIdle (based s)
based-idle s idle =
    let m = s.ends.master in
    each-side (λ side t. AllByRecursion (λ q. IsAtRest q) t.modules) (based s).ends (modules-rest Master 0 0 m.modules (idle Master)) (modules-rest Slave (held_in Down m) (held_in Up m) s.ends.slave.modules (idle Slave))

none-numbered : (dir : Dir) (n : ℕ) (ms : List (Message ℕ)) → ms ≡ [] → number_messages dir n ms ≡ []
none-numbered dir n ms none = ap (number_messages dir n) none

pub based-unread : (s : State ℕ) → NothingUnread s → NothingUnread (based s)
based-unread s unread =
    let m = s.ends.master in
    let t = s.ends.slave in
    each-side (λ side t. is_open t.opened ≡ false → t.head.queue.messages ≡ []) (based s).ends
    (λ closed. none-numbered (direction_at Up Master) (0 + sum_by (held_by Up) m.modules) m.head.queue.messages (unread Master closed))
    (λ closed. none-numbered (direction_at Up Slave) (held_in Down m + sum_by (held_by Up) t.modules) t.head.queue.messages (unread Slave closed))
