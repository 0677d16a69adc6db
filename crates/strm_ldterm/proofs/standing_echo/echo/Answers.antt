-- No byte, a full band, or an echo that stands.
use Rattle.strm_ldterm.proofs.Prelude.{◌≡◌, [], ◌∷◌, cond, length, refl, sym, ap, subst, ◌∙◌, arith}
use Rattle.strm_ldterm.specs.Prelude.{EchoFull, plain, Comes, Goes, tallied, echo_dir, echo_grows, echo_stands, echoed, chunk_count}
use Rattle.strm_msg.proofs.Pieces.{chunk-some}
use Rattle.strm_ldterm.specs.Stands.{ldterm_in, paired}
use Rattle.strm_ldterm.specs.Does.{Proceeds}
use Rattle.strm_ldterm.specs.Echoes.{echo_bytes}
use Rattle.strm_ldterm.proofs.EchoStands.{proceeds-still, proceeds-told, echoed-none, echoed-full, echoed-room, stands-gone, told-lost, told-made, runs-enough, few-bytes}
use Rattle.strm_ldterm.proofs.standing_echo.echo.Goals as goal

pub returns-then-len-eq0 : goal.returns-then-len-eq0
returns-then-len-eq0 g c =
    let s = g.B.Blocks.value c.args.store.now in
    let x = (paired c.args.ldterm.now c.args.queues.now) in
    let bytes = echo_bytes c.args.plan x.line in
    let f = c.args.told.now in
    proceeds-still s x (chunk_count (length bytes)) c.new.result.items f f [] (echoed plain c.args.here 0 bytes (ldterm_in s x)) c.requires.held c.new.ensures refl
    (echoed-none c.args.here (ldterm_in s x) bytes (sym c.len-len.ensures ∙ c.if-len-eq0.true))

pub chunk_count-runs-requires : goal.chunk_count-runs-requires
chunk_count-runs-requires g c =
    let s = g.B.Blocks.value c.args.store.now in
    let few = few-bytes s (length (echo_bytes c.args.plan c.args.ldterm.now.line)) c.audit.ensures c.requires.room in
    let e = c.len-len.ensures in
    omega arith

pub returns-then-is_full : goal.returns-then-is_full
returns-then-is_full g c =
    let s = g.B.Blocks.value c.args.store.now in
    let x = (paired c.args.ldterm.now c.args.queues.now) in
    let here = c.args.here in
    let bytes = echo_bytes c.args.plan x.line in
    let d = echo_dir plain here in
    proceeds-still s x (chunk_count (length bytes)) c.new-then-is_full.result.items c.args.told.now c.tell.new.self (Comes d bytes ∷ Goes d EchoFull bytes ∷ [])
    (echoed plain here 0 bytes (ldterm_in s x)) c.requires.held c.new-then-is_full.ensures
    (told-lost c.direction_at-direction.result d c.len-len.result (length bytes) c.args.told.now c.tell_made.new.self c.tell.new.self c.direction_at-direction.ensures c.len-len.ensures c.tell_made.ensures c.tell.ensures)
    (echoed-full here (ldterm_in s x) bytes (λ none. c.if-len-eq0.false (c.len-len.ensures ∙ none)) (sym c.is_full.ensures ∙ c.if-is_full.true))

pub let_stand-requires-clause-some : goal.let_stand-requires-clause-some
let_stand-requires-clause-some g c = let some = chunk-some c.len-len.result in let e = c.chunk_count-runs.ensures.value in omega arith

pub let_stand-requires-clause-enough : goal.let_stand-requires-clause-enough
let_stand-requires-clause-enough g c =
    let e = c.chunk_count-runs.ensures.value in
    let enough = runs-enough c.len-len.result in
    let l = c.len-len.ensures in
    omega arith

pub returns : goal.returns
returns g c =
    let s = g.B.Blocks.value c.args.store.now in
    let t = g.B.Blocks.value c.let_stand.new.store in
    let x = (paired c.args.ldterm.now c.args.queues.now) in
    let x' = (paired c.let_stand.new.ldterm c.let_stand.new.queues) in
    let here = c.args.here in
    let bytes = echo_bytes c.args.plan x.line in
    let d = echo_dir plain here in
    let p = ldterm_in s x in
    let f = c.args.told.now in
    let f' = c.tell_made.new.self in
    let notes = c.let_stand.result.items in
    let stands = cond (x.echoing) (echo_grows plain here bytes p) (echo_stands plain here bytes p) in
    let runs : c.chunk_count-runs.result ≡ chunk_count (length bytes) = c.chunk_count-runs.ensures.value ∙ ap chunk_count c.len-len.ensures in
    let did = subst (λ n. Proceeds s t x x' n notes [] f f (record stands { gone = [] })) runs (c.let_stand.ensures here f) in
    let told = told-made c.direction_at-direction.result d c.len-len.result (length bytes) f f' c.direction_at-direction.ensures c.len-len.ensures c.tell_made.ensures in
    subst (λ a. Proceeds s t x x' (chunk_count (length bytes)) notes [] f f' a)
    (sym (echoed-room here p bytes (λ none. c.if-len-eq0.false (c.len-len.ensures ∙ none)) (sym c.is_full.ensures ∙ c.if-is_full.false)))
    (proceeds-told s t x x' (chunk_count (length bytes)) notes f f' stands (told ∙ sym (ap (λ gone. tallied gone f) (stands-gone here p bytes (x.echoing)))) did)
