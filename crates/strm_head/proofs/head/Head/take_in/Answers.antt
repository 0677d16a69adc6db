-- A message waits, but for a second M_PCPROTO.
use Rattle.strm_head.proofs.Prelude.{ℕ, ◌≡◌, true, false, sym, ap, ◌∙◌, false≢true}
use Rattle.strm_head.specs.Prelude.{Up, Doubled, Acted, tallied, is_data_kind, is_pcproto, is_doubled, direction_at, told_more, in_hand, token}
use Rattle.strm_head.specs.Prelude.{message_of, messages_on}
use Rattle.strm_types.specs.declared.names.QueueName.{QueueName}
use Rattle.strm_types.specs.Heads as state
use Rattle.strm_head.specs.Heads.{head_in}
use Rattle.strm_head.proofs.Coming.{no-pcproto, a-pcproto, goes-doubled, waits-there, freed-frees}
use Rattle.strm_head.proofs.head.Head.take_in.Given as given
use Rattle.strm_head.proofs.head.Head.take_in.Goals.{else-is_pcproto-via-then-is_pcproto+else-has_pcproto, else-is_pcproto-via-else-is_pcproto}
use Rattle.strm_head.proofs.head.Head.take_in.Goals as goal

doubled-then : (g : given.Over) (c : goal.After-free g) → let s = g.B.Blocks.value c.args.store.now in
    is_doubled (message_of (in_hand s (token c.args.message))) (messages_on s c.args.self.now.queue.list) ≡ true
doubled-then g c =
    let s = g.B.Blocks.value c.args.store.now in
    let chain = in_hand s (token c.args.message) in
    a-pcproto c.args.here chain (head_in s c.args.self.now) true
    (sym (ap is_pcproto c.kind.ensures) ∙ sym c.is_pcproto.ensures ∙ c.if-is_pcproto.true)
    (sym c.has_pcproto.ensures ∙ c.if-has_pcproto.true)

pub returns-then-has_pcproto-clause-state : goal.returns-then-has_pcproto-clause-state
returns-then-has_pcproto-clause-state g c =
    let s = g.B.Blocks.value c.args.store.now in
    let chain = in_hand s (token c.args.message) in
    let h = head_in s c.args.self.now in
    ap (λ t. head_in t c.args.self.now) c.free.ensures
    ∙ sym (ap (λ (a : Acted ℕ (state.Head ℕ)). a.state) (goes-doubled c.args.here chain h (doubled-then g c)))

pub returns-then-has_pcproto-clause-told : goal.returns-then-has_pcproto-clause-told
returns-then-has_pcproto-clause-told g c =
    let s = g.B.Blocks.value c.args.store.now in
    let chain = in_hand s (token c.args.message) in
    let h = head_in s c.args.self.now in
    let fates = c.args.told.now in
    c.tell.ensures
    ∙ ap (λ d. told_more d Doubled c.booked_size-bytes.result fates) (c.direction.ensures ∙ ap (λ (x : QueueName). direction_at x.way x.side) c.head.ensures)
    ∙ ap (λ n. told_more (direction_at Up c.args.here.side) Doubled n fates) c.booked_size-bytes.ensures
    ∙ sym (ap (λ (a : Acted ℕ (state.Head ℕ)). tallied a.gone fates) (goes-doubled c.args.here chain h (doubled-then g c)))

pub returns-then-has_pcproto-clause-frees : goal.returns-then-has_pcproto-clause-frees
returns-then-has_pcproto-clause-frees g c =
    freed-frees (g.B.Blocks.value c.args.store.now) (g.B.Blocks.value c.free.new.self) (token c.args.message) c.requires.in_hand c.free.ensures

doubled-else : (g : given.Over) (c : goal.After-enqueue g) → let s = g.B.Blocks.value c.args.store.now in
    is_doubled (message_of (in_hand s (token c.args.message))) (messages_on s c.args.self.now.queue.list) ≡ false
doubled-else g c =
    let s = g.B.Blocks.value c.args.store.now in
    let chain = in_hand s (token c.args.message) in
    let h = head_in s c.args.self.now in
    elim c.else-is_pcproto.branch [
      | else-is_pcproto-via-then-is_pcproto+else-has_pcproto w ↦
          a-pcproto c.args.here chain h false
          (sym (ap is_pcproto c.kind.ensures) ∙ sym c.is_pcproto.ensures ∙ w.if-is_pcproto.true)
          (sym w.has_pcproto.ensures ∙ w.if-has_pcproto.false)
      | else-is_pcproto-via-else-is_pcproto w ↦
          no-pcproto c.args.here chain h (sym (ap is_pcproto c.kind.ensures) ∙ sym c.is_pcproto.ensures ∙ w.if-is_pcproto.false)
    ]

pub returns-clause-state : goal.returns-clause-state
returns-clause-state g c =
    let s = g.B.Blocks.value c.args.store.now in
    let chain = in_hand s (token c.args.message) in
    let h = head_in s c.args.self.now in
    ap (λ q. record h { queue = q }) c.enqueue.ensures.queue
    ∙ sym (ap (λ (a : Acted ℕ (state.Head ℕ)). a.state) (waits-there c.args.here chain h (doubled-else g c)))

pub returns-clause-told : goal.returns-clause-told
returns-clause-told g c =
    let s = g.B.Blocks.value c.args.store.now in
    let chain = in_hand s (token c.args.message) in
    let h = head_in s c.args.self.now in
    sym (ap (λ (a : Acted ℕ (state.Head ℕ)). tallied a.gone c.args.told.now) (waits-there c.args.here chain h (doubled-else g c)))

pub returns-clause-readable : goal.returns-clause-readable
returns-clause-readable g c = c.enqueue.ensures.holds is_data_kind c.requires.data c.requires.ready.readable

-- none is freed but of a second M_PCPROTO
pub returns-then-has_pcproto-clause-blocks : goal.returns-then-has_pcproto-clause-blocks
returns-then-has_pcproto-clause-blocks g c = λ other. absurd (false≢true (sym other ∙ (sym (ap is_pcproto c.kind.ensures) ∙ sym c.is_pcproto.ensures ∙ c.if-is_pcproto.true)))

pub returns-clause-blocks : goal.returns-clause-blocks
returns-clause-blocks g c = λ other. c.enqueue.ensures.blocks
