-- The answer and what tells of it are made, and then the signal of a change.
use Rattle.strm_pty.proofs.Prelude.{[], ◌∷◌, ◌++◌, sym, subst, append-nil, arith}
use Rattle.strm_pty.specs.Prelude.{Up, Down, ack_message, telling_message, onward, window_signal, token}
use Rattle.std.specs.Option.{option_to_list}
use Rattle.strm_pty.specs.Does.{Swaps}
use Rattle.strm_pty.proofs.Carried.{carry-more}
use Rattle.strm_pty.proofs.Doing.{room-left, room-less, stays-behind, swaps-both}
use Rattle.strm_pty.proofs.replies.confirm.Goals as goal

pub tell_both-requires-clause-room : goal.tell_both-requires-clause-room
tell_both-requires-clause-room g c = room-less (g.B.Blocks.value c.args.store.now) 3 2 (omega arith) c.requires.room

pub signal_change-third-requires-clause-room : goal.signal_change-third-requires-clause-room
signal_change-third-requires-clause-room g c =
    let s = g.B.Blocks.value c.args.store.now in
    let t = g.B.Blocks.value c.tell_both.new.store in
    room-left s t _ _ 2 1 c.tell_both.ensures.swaps.hands c.requires.room

pub returns-clause-swaps : goal.returns-clause-swaps
returns-clause-swaps g c =
    let s = g.B.Blocks.value c.args.store.now in
    let t = g.B.Blocks.value c.tell_both.new.store in
    let u = g.B.Blocks.value c.signal_change-third.new.store in
    let first = c.tell_both.result.0 in
    let second = c.tell_both.result.1 in
    let third = option_to_list c.signal_change-third.result in
    let here = c.args.here in
    let given = c.args.given.now in
    let ps = onward Up here (ack_message c.args.ioc given) ∷ onward Down here (telling_message c.args.ioc given) ∷ window_signal here c.args.windows.0 c.args.windows.1 in
    let all = swaps-both s t u (token c.args.message) 2 1 (first ∷ second ∷ []) third _ _ c.requires.in_hand c.tell_both.ensures.swaps c.signal_change-third.ensures in
    subst (λ xs. Swaps s u (token c.args.message) 3 (first ∷ second ∷ xs) ps) (sym (append-nil third)) all

pub returns-clause-shared : goal.returns-clause-shared
returns-clause-shared g c =
    let s = g.B.Blocks.value c.args.store.now in
    let t = g.B.Blocks.value c.tell_both.new.store in
    let u = g.B.Blocks.value c.signal_change-third.new.store in
    let first = c.tell_both.result.0 in
    let second = c.tell_both.result.1 in
    let third = option_to_list c.signal_change-third.result in
    let told = c.tell_both.ensures in
    let stays = stays-behind s t u (token c.args.message) 2 1 (first ∷ second ∷ []) third _ _ c.requires.in_hand told.swaps c.signal_change-third.ensures in
    λ can. carry-more t u _ first second (third ++ []) stays (told.shared can)
