-- What a message does at a head, by its kind.
use Rattle.strm_head.proofs.Prelude.{ℕ, ◌≡◌, false, true, List, sym, ap, ◌∙◌, false≢true}
use Rattle.strm_head.specs.Prelude.{FlushAsked, MsgKind, Acted, tallied, is_data_kind, is_flush, is_held, waits_for_readers, flush_up, obeyed}
use Rattle.strm_head.specs.Prelude.{head_put, StoreValue, in_hand, token, bytes_of, message_of}
use Rattle.strm_types.specs.Deliver.{Fate}
use Rattle.strm_types.specs.Heads as state
use Rattle.strm_head.specs.Heads.{head_in}
use Rattle.strm_head.proofs.Coming.{data-comes, flush-comes, other-comes, heeds-notes, heeds-gone, counts-changed, readable-still, held-data, held-other, waits-notes, waits-sent, freed-frees, frees-both}
use Rattle.strm_head.proofs.head.Head.put.Given as given
use Rattle.strm_head.proofs.head.Head.put.Goals as goal

-- M_DATA, M_PROTO and M_PCPROTO
abbrev waits : (g : given.Over) → goal.After-take_in g → Acted ℕ (state.Head ℕ)
waits g c =
    let s = g.B.Blocks.value c.args.store.now in
    waits_for_readers c.args.here (message_of (in_hand s (token c.args.message))) (head_in s c.args.self.now)

abbrev put-data : (g : given.Over) → goal.After-take_in g → Acted ℕ (state.Head ℕ)
put-data g c =
    let s = g.B.Blocks.value c.args.store.now in
    head_put c.args.here (message_of (in_hand s (token c.args.message))) (head_in s c.args.self.now)

data-is : (g : given.Over) (c : goal.After-take_in g) → put-data g c ≡ waits g c
data-is g c =
    let s = g.B.Blocks.value c.args.store.now in
    let chain = in_hand s (token c.args.message) in
    data-comes c.args.here chain (head_in s c.args.self.now) c.requires.chain
    (sym (ap is_data_kind c.kind-kind.ensures) ∙ sym c.is_data_kind.ensures ∙ c.if-is_data_kind.true)

pub returns-then-is_data_kind-clause-state : goal.returns-then-is_data_kind-clause-state
returns-then-is_data_kind-clause-state g c = c.take_in.ensures.state ∙ sym (ap (λ (a : Acted ℕ (state.Head ℕ)). a.state) (data-is g c))

pub returns-then-is_data_kind-clause-notes : goal.returns-then-is_data_kind-clause-notes
returns-then-is_data_kind-clause-notes g c =
    let s = g.B.Blocks.value c.args.store.now in
    sym (ap (λ (a : Acted ℕ (state.Head ℕ)). a.notes) (data-is g c)
    ∙ waits-notes c.args.here (in_hand s (token c.args.message)) (head_in s c.args.self.now))

pub returns-then-is_data_kind-clause-sent : goal.returns-then-is_data_kind-clause-sent
returns-then-is_data_kind-clause-sent g c =
    let s = g.B.Blocks.value c.args.store.now in
    sym (ap (λ (a : Acted ℕ (state.Head ℕ)). a.sent) (data-is g c)
    ∙ waits-sent c.args.here (in_hand s (token c.args.message)) (head_in s c.args.self.now))

pub returns-then-is_data_kind-clause-told : goal.returns-then-is_data_kind-clause-told
returns-then-is_data_kind-clause-told g c = c.take_in.ensures.told ∙ sym (ap (λ (a : Acted ℕ (state.Head ℕ)). tallied a.gone c.args.told.now) (data-is g c))

-- M_FLUSH
abbrev flushed : (g : given.Over) (c : goal.After-obey g) → StoreValue → FlushAsked → Acted ℕ (state.Head ℕ)
flushed g c t asked = flush_up c.args.here asked (head_in t c.args.self.now)

abbrev put-flush : (g : given.Over) → goal.After-obey g → Acted ℕ (state.Head ℕ)
put-flush g c =
    let s = g.B.Blocks.value c.args.store.now in
    head_put c.args.here (message_of (in_hand s (token c.args.message))) (head_in s c.args.self.now)

flush-is : (g : given.Over) (c : goal.After-obey g) → flushed g c (g.B.Blocks.value c.free.new.self) c.asked-asked.result ≡ put-flush g c
flush-is g c =
    let s = g.B.Blocks.value c.args.store.now in
    let chain = in_hand s (token c.args.message) in
    ap (λ t. flushed g c t c.asked-asked.result) c.free.ensures
    ∙ ap (λ a. flushed g c s a) c.asked-asked.ensures.asked
    ∙ sym (flush-comes c.args.here chain (head_in s c.args.self.now) c.requires.chain
    (sym (ap is_data_kind c.kind-kind.ensures) ∙ sym c.is_data_kind.ensures ∙ c.if-is_data_kind.false)
    (sym (ap is_flush c.kind-kind.ensures) ∙ sym c.is_flush.ensures ∙ c.if-is_flush.true))

pub returns-then-is_flush-clause-state : goal.returns-then-is_flush-clause-state
returns-then-is_flush-clause-state g c = c.obey.ensures.state ∙ ap (λ (a : Acted ℕ (state.Head ℕ)). a.state) (flush-is g c)

pub returns-then-is_flush-clause-notes : goal.returns-then-is_flush-clause-notes
returns-then-is_flush-clause-notes g c = c.obey.ensures.notes ∙ ap (λ (a : Acted ℕ (state.Head ℕ)). a.notes) (flush-is g c)

pub returns-then-is_flush-clause-sent : goal.returns-then-is_flush-clause-sent
returns-then-is_flush-clause-sent g c = c.obey.ensures.sent ∙ ap (λ (a : Acted ℕ (state.Head ℕ)). a.sent) (flush-is g c)

pub returns-then-is_flush-clause-told : goal.returns-then-is_flush-clause-told
returns-then-is_flush-clause-told g c = c.obey.ensures.told ∙ ap (λ (a : Acted ℕ (state.Head ℕ)). tallied a.gone c.args.told.now) (flush-is g c)

pub returns-then-is_flush-clause-frees : goal.returns-then-is_flush-clause-frees
returns-then-is_flush-clause-frees g c =
    let s = g.B.Blocks.value c.args.store.now in
    let t = g.B.Blocks.value c.free.new.self in
    frees-both s t (g.B.Blocks.value c.obey.new.store) (freed-frees s t (token c.args.message) c.requires.in_hand c.free.ensures) c.obey.ensures.frees

-- all others
abbrev put-rest : (g : given.Over) → goal.After-free-2 g → Acted ℕ (state.Head ℕ)
put-rest g c =
    let s = g.B.Blocks.value c.args.store.now in
    head_put c.args.here (message_of (in_hand s (token c.args.message))) (head_in s c.args.self.now)

abbrev heeded : (g : given.Over) → goal.After-free-2 g → MsgKind → Acted ℕ (state.Head ℕ)
heeded g c kind =
    let s = g.B.Blocks.value c.args.store.now in
    obeyed c.args.here kind (bytes_of (in_hand s (token c.args.message))) (head_in s c.args.self.now)

no-flush : (g : given.Over) (c : goal.After-free-2 g) → is_flush c.kind-kind.result ≡ false
no-flush g c = sym c.is_flush.ensures ∙ c.if-is_flush.false

rest-is : (g : given.Over) (c : goal.After-free-2 g) → heeded g c c.kind-kind.result ≡ put-rest g c
rest-is g c =
    let s = g.B.Blocks.value c.args.store.now in
    let chain = in_hand s (token c.args.message) in
    ap (λ kind. heeded g c kind) c.kind-kind.ensures
    ∙ sym (other-comes c.args.here chain (head_in s c.args.self.now) c.requires.chain
    (sym (ap is_data_kind c.kind-kind.ensures) ∙ sym c.is_data_kind.ensures ∙ c.if-is_data_kind.false))

pub returns-clause-state : goal.returns-clause-state
returns-clause-state g c =
    let s = g.B.Blocks.value c.args.store.now in
    ap (λ t. head_in t c.heed-down.new.self) c.free-2.ensures
    ∙ c.heed-down.ensures.state s c.args.here c.requires.ready.ready
    ∙ ap (λ (a : Acted ℕ (state.Head ℕ)). a.state) (rest-is g c)

pub returns-clause-notes : goal.returns-clause-notes
returns-clause-notes g c =
    let s = g.B.Blocks.value c.args.store.now in
    sym (heeds-notes c.args.here c.kind-kind.result (bytes_of (in_hand s (token c.args.message))) (head_in s c.args.self.now) (no-flush g c))
    ∙ ap (λ (a : Acted ℕ (state.Head ℕ)). a.notes) (rest-is g c)

pub returns-clause-sent : goal.returns-clause-sent
returns-clause-sent g c =
    let s = g.B.Blocks.value c.args.store.now in
    c.heed-down.ensures.sent (head_in s c.args.self.now) c.args.here ∙ ap (λ (a : Acted ℕ (state.Head ℕ)). a.sent) (rest-is g c)

pub returns-clause-told : goal.returns-clause-told
returns-clause-told g c =
    let s = g.B.Blocks.value c.args.store.now in
    sym (ap (λ (gone : List (Fate ℕ)). tallied gone c.args.told.now)
    (heeds-gone c.args.here c.kind-kind.result (bytes_of (in_hand s (token c.args.message))) (head_in s c.args.self.now) (no-flush g c)))
    ∙ ap (λ (a : Acted ℕ (state.Head ℕ)). tallied a.gone c.args.told.now) (rest-is g c)

pub returns-clause-changes : goal.returns-clause-changes
returns-clause-changes g c =
    counts-changed (g.B.Blocks.value c.args.store.now) (g.B.Blocks.value c.free-2.new.self) (token c.args.message)
    c.args.self.now.queue c.heed-down.new.self.queue c.free-2.ensures c.heed-down.ensures.others c.requires.ready.ready c.heed-down.ensures.counted

pub returns-clause-readable : goal.returns-clause-readable
returns-clause-readable g c =
    readable-still (g.B.Blocks.value c.args.store.now) (g.B.Blocks.value c.free-2.new.self) (token c.args.message)
    c.args.self.now.queue c.heed-down.new.self.queue c.free-2.ensures c.heed-down.ensures.others c.requires.ready.readable

pub returns-clause-frees : goal.returns-clause-frees
returns-clause-frees g c =
    freed-frees (g.B.Blocks.value c.args.store.now) (g.B.Blocks.value c.free-2.new.self) (token c.args.message) c.requires.in_hand c.free-2.ensures

-- M_DATA and M_PROTO free none
pub returns-then-is_data_kind-clause-blocks : goal.returns-then-is_data_kind-clause-blocks
returns-then-is_data_kind-clause-blocks g c = λ held. c.take_in.ensures.blocks (held-other _ held)

other-kind : (kind : MsgKind) → is_held kind ≡ true → is_data_kind kind ≡ false → ⊥
other-kind kind held none = false≢true (sym none ∙ held-data kind held)

pub returns-then-is_flush-clause-blocks : goal.returns-then-is_flush-clause-blocks
returns-then-is_flush-clause-blocks g c = λ held. absurd (other-kind _ held (sym (ap is_data_kind c.kind-kind.ensures) ∙ sym c.is_data_kind.ensures ∙ c.if-is_data_kind.false))

pub returns-clause-blocks : goal.returns-clause-blocks
returns-clause-blocks g c = λ held. absurd (other-kind _ held (sym (ap is_data_kind c.kind-kind.ensures) ∙ sym c.is_data_kind.ensures ∙ c.if-is_data_kind.false))
