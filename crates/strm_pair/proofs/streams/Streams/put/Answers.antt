-- What stands at a place takes the message: the head, a module, or behind the modules what is below them.
use Rattle.strm_pair.proofs.Prelude.{ℕ, ◌≡◌, ◌≤◌, ◌<◌, true, false, sym, subst, arith, ◌==◌, nat_le, nat_tests, place-makes, place-own}
use Rattle.strm_pair.specs.Prelude.{Up, Down, driver_own, put_at_driver, HasRoom, message_in, sent_of, token}
use Rattle.strm_pair.specs.Pairs.{state_in}
use Rattle.strm_pair.specs.PutBy.{PutBy}
use Rattle.strm_pair.proofs.PutSteps.{behind-put, behind-room, head-put, head-room, module-put}
use Rattle.strm_pair.proofs.streams.Streams.put.Goals as goal

stands-at : (at count : ℕ) → at ≤ count → nat_le at count ≡ true
stands-at at count low = grind (arith, nat_tests)

not-top : (at : ℕ) → (at ≡ 0 → ⊥) → (at == 0) ≡ false
not-top at not = grind (arith, nat_tests)

stands-above : (at count : ℕ) → count < at → nat_le at count ≡ false
stands-above at count past = grind (arith, nat_tests)

pub put_head-requires-clause-room : goal.put_head-requires-clause-room
put_head-requires-clause-room g c =
    let s = g.B.Blocks.value c.args.store.now in
    head-room s (token c.args.message) c.args.to (state_in s c.args.self.now) c.requires.may.chain c.if-to-eq0.true c.requires.room.room

pub put_module-requires-clause-room : goal.put_module-requires-clause-room
put_module-requires-clause-room g c =
    let s = g.B.Blocks.value c.args.store.now in
    let st = state_in s c.args.self.now in
    let to = c.args.to in
    let m = message_in s (token c.args.message) in
    let below : (to.at == 0) ≡ false = not-top to.at c.if-to-eq0.false in
    let stands = subst (λ n. nat_le to.at n ≡ true) (c.modules_on.ensures.on s) (stands-at to.at c.modules_on.result c.if-to-modules_on.true) in
    subst (λ (n : ℕ). HasRoom s n) (sym (place-own to m st below stands)) c.requires.room.room

pub put_module-requires-clause-books : goal.put_module-requires-clause-books
put_module-requires-clause-books g c =
    let s = g.B.Blocks.value c.args.store.now in
    let st = state_in s c.args.self.now in
    let to = c.args.to in
    let m = message_in s (token c.args.message) in
    let below : (to.at == 0) ≡ false = not-top to.at c.if-to-eq0.false in
    let stands = subst (λ n. nat_le to.at n ≡ true) (c.modules_on.ensures.on s) (stands-at to.at c.modules_on.result c.if-to-modules_on.true) in
    omega (arith, place-makes to m st below stands, c.requires.room.spare)

pub put_driver-requires-clause-room : goal.put_driver-requires-clause-room
put_driver-requires-clause-room g c =
    let s = g.B.Blocks.value c.args.store.now in
    let st = state_in s c.args.self.now in
    let i = token c.args.message in
    let to = c.args.to in
    let past = subst (λ n. nat_le to.at n ≡ false) (c.modules_on.ensures.on s) (stands-above to.at c.modules_on.result c.if-to-modules_on.false) in
    subst (λ way. HasRoom s (driver_own way (message_in s i))) (sym c.in-Down.is) (behind-room Down s i to st c.in-Down.is c.if-to-eq0.false past c.requires.room.room)

pub put_up-requires-clause-room : goal.put_up-requires-clause-room
put_up-requires-clause-room g c =
    let s = g.B.Blocks.value c.args.store.now in
    let to = c.args.to in
    let past = subst (λ n. nat_le to.at n ≡ false) (c.modules_on.ensures.on s) (stands-above to.at c.modules_on.result c.if-to-modules_on.false) in
    behind-room Up s (token c.args.message) to (state_in s c.args.self.now) c.in-Up.is c.if-to-eq0.false past c.requires.room.room

pub returns-then-to-eq0-clause-does : goal.returns-then-to-eq0-clause-does
returns-then-to-eq0-clause-does g c =
    let K = g.M.Behaves.does in
    let s = g.B.Blocks.value c.args.store.now in
    head-put K s (g.B.Blocks.value c.put_head.new.store) c.args.self.now c.put_head.new.self (token c.args.message) c.args.to (sent_of c.put_head.result) c.args.told.now c.put_head.new.told
    c.requires.may.chain c.if-to-eq0.true c.put_head.ensures.does

pub returns-then-to-modules_on-clause-does : goal.returns-then-to-modules_on-clause-does
returns-then-to-modules_on-clause-does g c =
    let K = g.M.Behaves.does in
    let s = g.B.Blocks.value c.args.store.now in
    let at = c.args.to.at in
    module-put K s (g.B.Blocks.value c.put_module.new.store) c.args.self.now c.put_module.new.self (token c.args.message) c.args.to (sent_of c.put_module.result) c.args.told.now c.put_module.new.told
    c.if-to-eq0.false (subst (λ n. nat_le at n ≡ true) (c.modules_on.ensures.on s) (stands-at at c.modules_on.result c.if-to-modules_on.true)) c.put_module.ensures.does

pub returns-in-Down-clause-does : goal.returns-in-Down-clause-does
returns-in-Down-clause-does g c =
    let s = g.B.Blocks.value c.args.store.now in
    let t = g.B.Blocks.value c.put_driver.new.store in
    let i = token c.args.message in
    let p = c.args.self.now in
    let q = c.put_driver.new.self in
    let to = c.args.to in
    let sent = sent_of c.put_driver.result in
    let told = c.put_driver.new.told in
    behind-put g.M.Behaves.does Down s t p q i to sent c.args.told.now told c.in-Down.is c.if-to-eq0.false
    (subst (λ n. nat_le to.at n ≡ false) (c.modules_on.ensures.on s) (stands-above to.at c.modules_on.result c.if-to-modules_on.false))
    (subst (λ way. PutBy s t p q i (driver_own way (message_in s i)) sent c.args.told.now told (put_at_driver to.side to (message_in s i) (state_in s p))) c.in-Down.is c.put_driver.ensures.does)

pub returns-in-Up-clause-does : goal.returns-in-Up-clause-does
returns-in-Up-clause-does g c =
    let K = g.M.Behaves.does in
    let s = g.B.Blocks.value c.args.store.now in
    let i = token c.args.message in
    behind-put K Up s (g.B.Blocks.value c.put_up.new.store) c.args.self.now c.put_up.new.self i c.args.to (sent_of c.put_up.result) c.args.told.now c.put_up.new.told
    c.in-Up.is c.if-to-eq0.false (subst (λ n. nat_le c.args.to.at n ≡ false) (c.modules_on.ensures.on s) (stands-above c.args.to.at c.modules_on.result c.if-to-modules_on.false)) c.put_up.ensures.does

pub returns-in-Down-clause-blocks : goal.returns-in-Down-clause-blocks
returns-in-Down-clause-blocks g c = λ is. c.put_driver.ensures.blocks c.in-Down.is is
