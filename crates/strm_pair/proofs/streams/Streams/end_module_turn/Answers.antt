-- The nearest earlier queue is the one that it was before the turn ended, as the modules keep their names.
use Rattle.strm_pair.proofs.Prelude.{ℕ, ◌≡◌, ◌-◌, Bool, false, ap, subst, sym, ◌∙◌, queue-names}
use Rattle.strm_pair.specs.Prelude.{QueueName, Spot, StoreValue, stands_of, turn_ended, at_place, enable_if, enable_some, before_at, queue_ended, State, stream, with_stream}
use Rattle.strm_types.specs.Service.{end_relieves, has_more}
use Rattle.strm_pair.specs.declared.streams.Streams.{Streams}
use Rattle.strm_laws.specs.Restorable.{IsThere}
use Rattle.strm_laws.proofs.StackStays.{same-names}
use Rattle.strm_frame.specs.MayEnable.{MayEnable}
use Rattle.strm_pair.specs.Enabling.{AreFewEnabled}
use Rattle.strm_pair.specs.Pairs.{state_in}
use Rattle.strm_pair.proofs.Enabling.{let-few, let-room, with-few}
use Rattle.strm_pair.proofs.NearestStays.{before-ended}
use Rattle.strm_pair.proofs.streams.Streams.end_module_turn.Goals as goal

-- the queue that ends a turn is there still
ended-few : (here : Spot) (took : Bool) (s : StoreValue) (p q : Streams) → AreFewEnabled (state_in s p)
    → state_in s q ≡ with_stream here.side (queue_ended here took (stream here.side (state_in s p))) (state_in s p) → AreFewEnabled (state_in s q)
ended-few here took s p q e is =
    let st = state_in s p in
    let t = queue_ended here took (stream here.side st) in
    subst AreFewEnabled (sym is) (with-few st e here.side t (queue-names here.way (turn_ended took) (here.at - 1) (stream here.side st).modules))

ended-there : (here : Spot) (took : Bool) (s : StoreValue) (p q : Streams) (name : QueueName) → IsThere (stands_of (state_in s p)) name
    → state_in s q ≡ with_stream here.side (queue_ended here took (stream here.side (state_in s p))) (state_in s p)
    → IsThere (stands_of (state_in s q)) name
ended-there here took s p q name there is =
    let st = state_in s p in
    let t = queue_ended here took (stream here.side st) in
    let same = ap (λ (x : State ℕ). stands_of x) is
    ∙ same-names here.side t st (queue-names here.way (turn_ended took) (here.at - 1) (stream here.side st).modules) in
    subst (λ a. IsThere a name) (sym same) there

pub let_go-requires : goal.let_go-requires
let_go-requires g c =
    let s = g.B.Blocks.value c.args.store.now in
    let here = c.args.here in
    let q = c.end_queue-end.new.self in
    let few = ended-few here c.args.took s c.args.self.now q c.requires.enabled c.end_queue-end.ensures.state in
    record { few = (s, let-few (state_in s q) few here.side here.way here.at c.end_queue-end.result.room) }

pub enable_if-requires : goal.enable_if-requires
enable_if-requires g c =
    let s = g.B.Blocks.value c.args.store.now in
    let here = c.args.here in
    let name = c.args.name in
    let q = c.end_queue-end.new.self in
    let e = c.end_queue-end.ensures in
    let few = ended-few here c.args.took s c.args.self.now q c.requires.enabled e.state in
    let there = ended-there here c.args.took s c.args.self.now q name c.requires.there e.state in
    record {
      room = λ more. subst (λ (x : Streams). MayEnable x.enabled name) (sym (c.let_go.ensures s))
          (let-room (state_in s q) few here.side here.way here.at c.end_queue-end.result.room name there);
    }

pub returns-clause-state : goal.returns-clause-state
returns-clause-state g c =
    let s = g.B.Blocks.value c.args.store.now in
    let here = c.args.here in
    let name = c.args.name in
    let st = state_in s c.args.self.now in
    let q = c.end_queue-end.new.self in
    let e = c.end_queue-end.ensures in
    let gone = c.let_go.ensures s in
    let ms = (stream here.side st).modules in
    let more = at_place (has_more here.way) false here.at ms in
    let room = at_place (end_relieves c.args.took here.way) false here.at ms in
    let ended = with_stream here.side (queue_ended here c.args.took (stream here.side st)) st in
    ap (λ (x : Streams). record (state_in s x) { enabled = c.enable_if.new.self }) gone
    ∙ ap (λ ns. record (state_in s q) { enabled = ns })
    (c.enable_if.ensures
    ∙ ap (λ b. enable_if b name c.let_go.new.self.enabled) e.more
    ∙ ap (λ (x : Streams). enable_if more name x.enabled) gone
    ∙ ap (λ b. enable_if more name (enable_some b (before_at here.side here.way here.at (state_in s q)) q.enabled)) e.room)
    ∙ ap (λ (x : State ℕ). record x { enabled = enable_if more name (enable_some room (before_at here.side here.way here.at x) x.enabled) }) e.state
    ∙ ap (λ n. record ended { enabled = enable_if more name (enable_some room n st.enabled) }) (before-ended here.side here.way here.at here c.args.took st)

pub returns-clause-beside : goal.returns-clause-beside
returns-clause-beside g c = rw (c.let_go.ensures (g.B.Blocks.value c.args.store.now)) c.end_queue-end.ensures.beside

pub returns-clause-keeps : goal.returns-clause-keeps
returns-clause-keeps g c = λ i. rw (c.let_go.ensures (g.B.Blocks.value c.args.store.now)) (c.end_queue-end.ensures.keeps i)
