-- What was parted is shared; what wasn't is as it was, and is copied.
use Rattle.strm_pty.proofs.Prelude.{ℕ, List, [], ◌∷◌, drop, sym, ap, subst, ◌∙◌}
use Rattle.strm_pty.specs.Prelude.{Up, Down, ack_message, telling_message, onward, IsInHand, token, HasRoom}
use Rattle.strm_pty.specs.Does.{Swaps}
use Rattle.strm_pty.specs.Shares.{BothCarry}
use Rattle.strm_pty.proofs.Doing.{room-left}
use Rattle.strm_pty.proofs.Hanging.{parted-sends, payload-is}
use Rattle.strm_pty.proofs.replies.tell_both.Goals as goal

pub share-requires-clause-shared : goal.share-requires-clause-shared
share-requires-clause-shared g c = c.in-Ok.ensures.shared

pub share-requires-clause-room : goal.share-requires-clause-room
share-requires-clause-room g c =
    let s = g.B.Blocks.value c.args.store.now in
    let t = g.B.Blocks.value c.part.new.store in
    room-left s t _ _ 0 2 c.in-Ok.ensures.hands c.requires.room

pub copy_both-requires-clause-in_hand : goal.copy_both-requires-clause-in_hand
copy_both-requires-clause-in_hand g c =
    subst (λ v. IsInHand v (token c.in-Err.message)) (sym c.in-Err.ensures.kept) (subst (IsInHand (g.B.Blocks.value c.args.store.now)) (sym c.in-Err.ensures.name) c.requires.in_hand)

pub copy_both-requires-clause-room : goal.copy_both-requires-clause-room
copy_both-requires-clause-room g c = subst (λ v. HasRoom v 2) (sym c.in-Err.ensures.kept) c.requires.room

pub returns-in-Ok-clause-swaps : goal.returns-in-Ok-clause-swaps
returns-in-Ok-clause-swaps g c =
    let s = g.B.Blocks.value c.args.store.now in
    let t = g.B.Blocks.value c.part.new.store in
    let w = g.B.Blocks.value c.share.new.store in
    let i = token c.args.message in
    let here = c.args.here in
    let ioc = c.args.ioc in
    let parts = c.in-Ok.ensures in
    let r = token c.in-Ok.both.0 in
    let k = token c.in-Ok.both.1 in
    let given : List ℕ → List _ = λ xs. onward Up here (ack_message ioc xs) ∷ onward Down here (telling_message ioc xs) ∷ [] in
    parted-sends s t w i r k (c.share.result.0 ∷ c.share.result.1 ∷ []) _ _ parts c.audit.ensures c.share.ensures.sends (ap given (payload-is s t i r k parts c.requires.kind ∙ sym c.requires.given))

pub returns-in-Err-clause-swaps : goal.returns-in-Err-clause-swaps
returns-in-Err-clause-swaps g c =
    let w = g.B.Blocks.value c.copy_both.new.store in
    let here = c.args.here in
    let ioc = c.args.ioc in
    let given = c.args.given.now in
    let made = c.copy_both.result.0 ∷ c.copy_both.result.1 ∷ [] in
    let ps = onward Up here (ack_message ioc given) ∷ onward Down here (telling_message ioc given) ∷ [] in
    subst (λ v. Swaps v w (token c.args.message) 2 made ps) c.in-Err.ensures.kept (subst (λ k. Swaps (g.B.Blocks.value c.part.new.store) w k 2 made ps) c.in-Err.ensures.name c.copy_both.ensures)

pub returns-in-Ok-clause-shared : goal.returns-in-Ok-clause-shared
returns-in-Ok-clause-shared g c =
    let parts = c.in-Ok.ensures in
    λ can. subst (λ blocks. BothCarry (g.B.Blocks.value c.share.new.store) blocks (c.share.result.0 ∷ c.share.result.1 ∷ [])) (parts.shared.first_is ∙ sym (ap (drop 1) parts.were)) c.share.ensures.carries

pub returns-in-Err-clause-shared : goal.returns-in-Err-clause-shared
returns-in-Err-clause-shared g c = λ can. absurd (c.in-Err.ensures.never can)
