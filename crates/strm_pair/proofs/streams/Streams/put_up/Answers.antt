-- What was sent across is for the driver, and all else goes on.
use Rattle.strm_pair.proofs.Prelude.{ℕ, ◌≡◌, Bool, true, false, cond, List, refl, sym, ap, subst, ◌∙◌, arith, false≢true, nat_tests, ◌&&◌, ◌==◌, not}
use Rattle.strm_pair.proofs.Prelude.{kind-is, parts-same, can-in_hand}
use Rattle.strm_pair.specs.Prelude.{MsgKind, Flush, Data, is_data_kind, has_parts, passed_up, put_at_driver, Block, block_at, in_hand, token, IsChain}
use Rattle.strm_pair.specs.Prelude.{message_of, HasRoom, message_in, sent_of, driver_own}
use Rattle.strm_types.specs.declared.kinds.MsgKind.TheVariants.{Proto, Pcproto}
use Rattle.strm_types.specs.Flushing.{is_flush, is_bare_flush}
use Rattle.strm_laws.proofs.Staying.{no-flush}
use Rattle.strm_types.specs.Costs.{is_across}
use Rattle.strm_pair.specs.Pairs.{kept_by, state_in}
use Rattle.strm_pair.specs.PutBy.{PutBy}
use Rattle.strm_pair.proofs.streams.Streams.put_up.Goals as goal
use Rattle.strm_pair.proofs.streams.Streams.put_up.Goals.{else-to-via-then-to+else-is_flush, else-to-via-else-to}

-- an M_FLUSH has no parts
bare-kind : (kind : MsgKind) → (is_flush kind && not (is_data_kind kind)) ≡ is_flush kind
unfolding is_data_kind
bare-kind Flush = refl
bare-kind Data = refl
bare-kind Proto = refl
bare-kind Pcproto = refl
bare-kind kind = refl

bare-is : (chain : List Block) → IsChain chain → is_bare_flush (message_of chain) ≡ is_flush (block_at 0 chain).kind
bare-is chain one =
    ap (λ kind. is_flush kind && not (has_parts (message_of chain))) (kind-is chain)
    ∙ ap (λ parts. is_flush (block_at 0 chain).kind && not parts) (parts-same chain one)
    ∙ bare-kind (block_at 0 chain).kind

and-false : (b : Bool) → (b && false) ≡ false
and-false true = refl
and-false false = refl

at-place : (n : ℕ) → n ≡ 4 → (n == 4) ≡ true
at-place n is = grind (arith, nat_tests)

at-other : (n : ℕ) → (n ≡ 4 → ⊥) → (n == 4) ≡ false
at-other n ne = grind (arith, nat_tests)

pub kind-requires-clause-in_hand : goal.kind-requires-clause-in_hand
kind-requires-clause-in_hand g c = can-in_hand (g.B.Blocks.value c.args.store.now) (token c.args.message) (kept_by c.args.self.now) c.audit.ensures c.requires.may.can_put

pub put_driver-requires-clause-room : goal.put_driver-requires-clause-room
put_driver-requires-clause-room g c =
    let s = g.B.Blocks.value c.args.store.now in
    let i = token c.args.message in
    let flush : is_bare_flush (message_in s i) ≡ true = bare-is (in_hand s i) c.requires.may.chain ∙ ap is_flush (sym c.kind.ensures) ∙ sym c.is_flush.ensures ∙ c.if-is_flush.true in
    let across : is_across c.args.to (message_in s i) ≡ true = ap (λ b. b && (c.args.to.at == 4)) flush ∙ at-place c.args.to.at c.if-to.true in
    subst (λ w. HasRoom s (driver_own w (message_in s i))) (sym c.requires.up) (subst (λ (b : Bool). HasRoom s (cond b 1 0)) across c.requires.room)

pub returns-then-is_flush-clause-does : goal.returns-then-is_flush-clause-does
returns-then-is_flush-clause-does g c =
    let s = g.B.Blocks.value c.args.store.now in
    let t = g.B.Blocks.value c.put_driver.new.store in
    let i = token c.args.message in
    let p = c.args.self.now in
    let to = c.args.to in
    let m = message_in s i in
    let flush : is_bare_flush m ≡ true = bare-is (in_hand s i) c.requires.may.chain ∙ ap is_flush (sym c.kind.ensures) ∙ sym c.is_flush.ensures ∙ c.if-is_flush.true in
    let across : is_across to m ≡ true = ap (λ b. b && (to.at == 4)) flush ∙ at-place c.args.to.at c.if-to.true in
    let sent = sent_of c.put_driver.result in
    subst (λ b. PutBy s t p c.put_driver.new.self i (cond b 1 0) sent c.args.told.now c.put_driver.new.told (cond b (put_at_driver to.side to m (state_in s p)) (passed_up to m (state_in s p)))) (sym across)
    (subst (λ w. PutBy s t p c.put_driver.new.self i (driver_own w m) sent c.args.told.now c.put_driver.new.told (put_at_driver to.side to m (state_in s p))) c.requires.up c.put_driver.ensures.does)

pub returns-clause-does : goal.returns-clause-does
returns-clause-does g c =
    let s = g.B.Blocks.value c.args.store.now in
    let i = token c.args.message in
    let p = c.args.self.now in
    let to = c.args.to in
    let m = message_in s i in
    let sent = sent_of c.pass_up.result in
    let f = c.args.told.now in
    let passes : is_across to m ≡ false = elim c.else-to.branch [
      | else-to-via-then-to+else-is_flush w ↦
          (let flush : is_bare_flush m ≡ false = bare-is (in_hand s i) c.requires.may.chain ∙ ap is_flush (sym w.kind.ensures) ∙ sym w.is_flush.ensures ∙ w.if-is_flush.false in
          ap (λ b. b && (to.at == 4)) flush)
      | else-to-via-else-to w ↦ ap (λ b. is_bare_flush m && b) (at-other to.at w.if-to.false) ∙ and-false (is_bare_flush m)
    ] in
    subst (λ b. PutBy s s p p i (cond b 1 0) sent f f (cond b (put_at_driver to.side to m (state_in s p)) (passed_up to m (state_in s p)))) (sym passes) (c.pass_up.ensures f)

pub returns-then-is_flush-clause-blocks : goal.returns-then-is_flush-clause-blocks
returns-then-is_flush-clause-blocks g c = λ is.
    let i = token c.args.message in
    let s = g.B.Blocks.value c.args.store.now in
    let flush : is_flush (message_in s i).kind ≡ true = ap is_flush (kind-is (in_hand s i) ∙ sym c.kind.ensures) ∙ sym c.is_flush.ensures ∙ c.if-is_flush.true in
    absurd (false≢true (sym (no-flush (message_in s i).kind is.held) ∙ flush))

pub returns-clause-blocks : goal.returns-clause-blocks
returns-clause-blocks g c = λ is. (omega arith, omega arith)
