-- A block came, and the message is hung behind it.
use Rattle.strm_pty.proofs.Prelude.{◌≡◌, ◌++◌, drop, sym, subst}
use Rattle.strm_pty.specs.Prelude.{toward, bare, in_hand, token, bytes_of}
use Rattle.strm_pty.specs.Packs.{Becomes}
use Rattle.strm_pty.proofs.Hanging.{headed, headed-carries}
use Rattle.strm_pty.proofs.Packing.{becomes-swaps}
use Rattle.strm_pty.proofs.sharing.send_behind.Goals as goal

pub returns-clause-swaps : goal.returns-clause-swaps
returns-clause-swaps g c =
    let s = g.B.Blocks.value c.args.store.now in
    let t = g.B.Blocks.value c.alloc_with.new.self in
    let v = g.B.Blocks.value c.link-message.new.self in
    let i = token c.args.message in
    let f = token c.in-Ok.front in
    let kind = c.args.kind in
    let bytes = c.args.header.now in
    let m = bare kind (bytes ++ bytes_of (in_hand s i)) in
    let there = headed s t v i f kind bytes c.requires.in_hand c.audit.ensures c.in-Ok.ensures c.requires.kind c.link-message.ensures.linked in
    becomes-swaps s v i (record { to = c.toward.result; message = c.link-message.result }) (record { to = toward c.args.way c.args.here; message = m })
    (subst (λ k. Becomes s v i k m) (sym c.link-message.ensures.kept_name) there) c.toward.ensures

pub returns-clause-carries : goal.returns-clause-carries
returns-clause-carries g c =
    let s = g.B.Blocks.value c.args.store.now in
    let t = g.B.Blocks.value c.alloc_with.new.self in
    let v = g.B.Blocks.value c.link-message.new.self in
    let i = token c.args.message in
    let there = headed-carries s t v i (token c.in-Ok.front) c.args.kind c.args.header.now c.requires.in_hand c.audit.ensures c.in-Ok.ensures c.link-message.ensures.linked in
    subst (λ k. drop 1 (in_hand v k) ≡ in_hand s i) (sym c.link-message.ensures.kept_name) there
