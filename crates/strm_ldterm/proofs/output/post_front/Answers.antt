-- Bytes are taken off the front of the message in work, what they give is gathered, and the carriage moves.
use Rattle.strm_ldterm.proofs.Prelude.{ℕ, ◌≡◌, ◌≤◌, List, [], ◌++◌, length, take, drop, refl, sym, ap, subst, ◌∙◌, arith, length-take, Some}
use Rattle.strm_ldterm.proofs.Prelude.{can-in_hand}
use Rattle.strm_ldterm.specs.Prelude.{plain, sends, cells_of, posts, output_dir, token, HasRoom, message_in}
use Rattle.strm_types.specs.Rules.{no_fates}
use Rattle.strm_ldterm.specs.Does.{Proceeds}
use Rattle.strm_ldterm.specs.Stands.{ldterm_in, paired}
use Rattle.strm_ldterm.proofs.Begun.{room-stays}
use Rattle.strm_ldterm.proofs.Finished.{work-can, work-is}
use Rattle.strm_ldterm.proofs.Flows.{flows-few}
use Rattle.strm_ldterm.proofs.FrontOut.{front-some, front-taken, front-went, front-within}
use Rattle.strm_ldterm.proofs.Poured.{flow-begins, pours-flow}
use Rattle.strm_ldterm.proofs.Proceeding.{proceeds-kept}
use Rattle.strm_ldterm.proofs.output.post_front.Goals as goal

pub skip_empty-message-requires-clause-in_hand : goal.skip_empty-message-requires-clause-in_hand
skip_empty-message-requires-clause-in_hand g c =
    let s = g.B.Blocks.value c.args.store.now in
    let there : c.args.ldterm.now.in_work ≡ Some c.in-Some.message = sym c.take.ensures.value ∙ c.in-Some.is in
    can-in_hand s _ _ c.audit.ensures (work-can s (paired c.args.ldterm.now c.args.queues.now) c.in-Some.message there c.requires.kept)

pub skip_empty-message-requires-clause-is : goal.skip_empty-message-requires-clause-is
skip_empty-message-requires-clause-is g c =
    let there : c.args.ldterm.now.in_work ≡ Some c.in-Some.message = sym c.take.ensures.value ∙ c.in-Some.is in
    work-is (g.B.Blocks.value c.args.store.now) (paired c.args.ldterm.now c.args.queues.now) c.in-Some.message there c.requires.held

pub trim_front-message-requires-clause-within : goal.trim_front-message-requires-clause-within
trim_front-message-requires-clause-within g c =
    let first = c.bytes_at-first.result.now in
    omega (arith, c.flow_out-taken.ensures.out.within, length-take c.min-most.result first, ap length c.bytes_at-first.ensures.bytes)

pub gather_flow-requires-clause-gathers : goal.gather_flow-requires-clause-gathers
gather_flow-requires-clause-gathers g c =
    let s = g.B.Blocks.value c.args.store.now in
    let there : c.args.ldterm.now.in_work ≡ Some c.in-Some.message = sym c.take.ensures.value ∙ c.in-Some.is in
    (front-went s (g.B.Blocks.value c.skip_empty-message.new.store) (g.B.Blocks.value c.trim_front-message.new.store) (paired c.args.ldterm.now c.args.queues.now) c.in-Some.message c.skip_empty-message.result c.trim_front-message.result c.flow_out-taken.result there
    c.audit-2.ensures c.skip_empty-message.ensures.became c.trim_front-message.ensures.became c.audit-3.ensures c.requires.held c.requires.kept no_fates).held.gathers

pub gather_flow-requires-clause-room : goal.gather_flow-requires-clause-room
gather_flow-requires-clause-room g c =
    let s = g.B.Blocks.value c.args.store.now in
    let u = g.B.Blocks.value c.trim_front-message.new.store in
    let x = (paired c.args.ldterm.now c.args.queues.now) in
    let r = c.trim_front-message.result in
    let there : x.in_work ≡ Some c.in-Some.message = sym c.take.ensures.value ∙ c.in-Some.is in
    let one : HasRoom s 1 = record { mblks = (let a = c.requires.room.mblks in omega arith); dblks = (let a = c.requires.room.dblks in omega arith) } in
    room-stays s u x (record x { in_work = Some r }) [] no_fates no_fates _ 1
    (front-went s (g.B.Blocks.value c.skip_empty-message.new.store) u x c.in-Some.message c.skip_empty-message.result r c.flow_out-taken.result there
    c.audit-2.ensures c.skip_empty-message.ensures.became c.trim_front-message.ensures.became c.audit-3.ensures c.requires.held c.requires.kept no_fates) one

pub returns-clause-does : goal.returns-clause-does
returns-clause-does g c =
    let s = g.B.Blocks.value c.args.store.now in
    let s1 = g.B.Blocks.value c.skip_empty-message.new.store in
    let s2 = g.B.Blocks.value c.trim_front-message.new.store in
    let s3 = g.B.Blocks.value c.gather_flow.new.store in
    let x = (paired c.args.ldterm.now c.args.queues.now) in
    let m = c.in-Some.message in
    let q = c.skip_empty-message.result in
    let r = c.trim_front-message.result in
    let n = c.flow_out-taken.result in
    let first = c.bytes_at-first.result.now in
    let most = c.min-most.result in
    let told = c.args.told.now in
    let x1 = record x { in_work = Some r } in
    let there : x.in_work ≡ Some m = sym c.take.ensures.value ∙ c.in-Some.is in
    let b = c.skip_empty-message.ensures.became in
    let trimmed = c.trim_front-message.ensures.became in
    let out = c.flow_out-taken.ensures.out in
    let few : n ≤ most = omega (arith, out.within, length-take most first) in
    let within : n ≤ length first = omega (arith, out.within, length-take most first) in
    let cells : List ℕ = cells_of (message_in s1 (token c.skip_empty-message.result)) in
    let front = subst (λ l. cells ≡ take n l ++ drop n cells) (sym c.bytes_at-first.ensures.bytes) c.trim_front-message.ensures.front in
    let went = front-went s s1 s2 x m q r n there c.audit-2.ensures b trimmed c.audit-3.ensures c.requires.held c.requires.kept told in
    let left = proceeds-kept s s2 x x1 0 [] told told _ c.requires.kept went in
    pours-flow c.args.here s s2 s3 x x1 (paired c.gather_flow.new.ldterm c.args.queues.now) told c.flow_out-taken.new.told c.audit-3.ensures n (take most first) (record { column = x.column; given = c.new.result }) c.flow_out-taken.new.flow
    c.new.ensures refl out
    (front-taken s s1 s2 x m q r n there c.audit-2.ensures b trimmed first most few within front, went)
    (subst (λ l. Proceeds s2 s3 x1 (paired c.gather_flow.new.ldterm c.args.queues.now) 1 [] [] told told (sends [] (record (ldterm_in s2 x1) { gathered = (ldterm_in s2 x1).gathered ++ l }))) c.as_slice.ensures.value (c.gather_flow.ensures c.args.queues.now told went.held left))

pub returns-clause-some : goal.returns-clause-some
returns-clause-some g c =
    let s = g.B.Blocks.value c.args.store.now in
    let s1 = g.B.Blocks.value c.skip_empty-message.new.store in
    let s2 = g.B.Blocks.value c.trim_front-message.new.store in
    let first = c.bytes_at-first.result.now in
    let there : c.args.ldterm.now.in_work ≡ Some c.in-Some.message = sym c.take.ensures.value ∙ c.in-Some.is in
    let some = front-some s s1 s2 (paired c.args.ldterm.now c.args.queues.now) c.in-Some.message c.skip_empty-message.result c.trim_front-message.result c.flow_out-taken.result there c.audit-2.ensures c.skip_empty-message.ensures.became c.trim_front-message.ensures.became
    first c.requires.some (λ none. c.skip_empty-message.ensures.shown (sym (ap length c.bytes_at-first.ensures.bytes) ∙ none)) in
    c.flow_out-taken.ensures.some (omega (arith, some, length-take c.min-most.result first)) (omega (arith, ap length c.new.ensures))

pub returns-clause-within : goal.returns-clause-within
returns-clause-within g c =
    let s = g.B.Blocks.value c.args.store.now in
    let s1 = g.B.Blocks.value c.skip_empty-message.new.store in
    let s2 = g.B.Blocks.value c.trim_front-message.new.store in
    let n = c.flow_out-taken.result in
    let first = c.bytes_at-first.result.now in
    let there : c.args.ldterm.now.in_work ≡ Some c.in-Some.message = sym c.take.ensures.value ∙ c.in-Some.is in
    let cells : List ℕ = cells_of (message_in s1 (token c.skip_empty-message.result)) in
    let front = subst (λ l. cells ≡ take n l ++ drop n cells) (sym c.bytes_at-first.ensures.bytes) c.trim_front-message.ensures.front in
    front-within s s1 s2 (paired c.args.ldterm.now c.args.queues.now) c.in-Some.message c.skip_empty-message.result c.trim_front-message.result n there c.audit-2.ensures c.skip_empty-message.ensures.became c.trim_front-message.ensures.became
    first (omega (arith, c.flow_out-taken.ensures.out.within, length-take c.min-most.result first)) front

pub returns-clause-begun : goal.returns-clause-begun
returns-clause-begun g c = λ byte less.
    let s = g.B.Blocks.value c.args.store.now in
    let s1 = g.B.Blocks.value c.skip_empty-message.new.store in
    let s2 = g.B.Blocks.value c.trim_front-message.new.store in
    let x = (paired c.args.ldterm.now c.args.queues.now) in
    let n = c.flow_out-taken.result in
    let first = c.bytes_at-first.result.now in
    let most = c.min-most.result in
    let there : x.in_work ≡ Some c.in-Some.message = sym c.take.ensures.value ∙ c.in-Some.is in
    let out = c.flow_out-taken.ensures.out in
    let within : n ≤ length first = omega (arith, out.within, length-take most first) in
    let few : n ≤ most = omega (arith, out.within, length-take most first) in
    let cells : List ℕ = cells_of (message_in s1 (token c.skip_empty-message.result)) in
    let front = subst (λ l. cells ≡ take n l ++ drop n cells) (sym c.bytes_at-first.ensures.bytes) c.trim_front-message.ensures.front in
    let taken = front-taken s s1 s2 x c.in-Some.message c.skip_empty-message.result c.trim_front-message.result n there c.audit-2.ensures c.skip_empty-message.ensures.became c.trim_front-message.ensures.became first most few within front in
    flow-begins c.args.here s x n c.requires.room (λ many. c.run_most.ensures.many (omega (arith, few, many)))
    (subst (λ l. length (posts plain (output_dir plain c.args.here) 0 x.termios x.column l).given ≤ 256) (sym taken)
    (flows-few c.args.here x.termios (take most first) n (record { column = x.column; given = c.new.result }) c.flow_out-taken.new.flow c.args.told.now c.flow_out-taken.new.told out c.new.ensures (omega (arith, c.as_slice.ensures.fits, ap length c.as_slice.ensures.value))))
    byte less
