-- One module changes, and the others stand for the same.
use Rattle.strm_frame.proofs.Prelude.{ℕ, true, get_or, map, refl, sym, ap, subst, ◌∙◌}
use Rattle.strm_frame.specs.Prelude.{own_at, tallied, of_part, Standing, token}
use Rattle.std.proofs.Math.ListN.{set}
use Rattle.strm_frame.specs.Hands.{once, HasRoom, Spends}
use Rattle.strm_frame.specs.Outboxes.{message_in, sent_of, times_sent}
use Rattle.strm_frame.proofs.Beside.{act-state, act-sent, act-notes, act-gone, row-plain, row-held, row-hands, own-all, said-of}
use Rattle.strm_frame.proofs.stack.put_among.Goals as goal
use Rattle.strm_frame.specs.Standings.{standing_in, Fits, owns, keeps_of}
use Rattle.strm_frame.specs.StandingLaws.{standing-frame}

pub put-requires-clause-room : goal.put-requires-clause-room
put-requires-clause-room g c =
    let s = g.B.Blocks.value c.args.store.now in
    let w = g.M.Module in
    let d = c.index-modules-at.result in
    let xs = c.args.modules.now in
    subst (HasRoom s) (said-of (standing_in w.plain s) (of_part (λ p. own_at (w.does p) c.args.to (message_in s (token c.args.message)))) xs c.args.at (get_or xs c.args.at d) d 0 c.requires.within refl) c.requires.room

pub returns-clause-does : goal.returns-clause-does
returns-clause-does g c =
    let s = g.B.Blocks.value c.args.store.now in
    let t = g.B.Blocks.value c.put.new.store in
    let n = token c.args.message in
    let m = message_in s n in
    let w = g.M.Module in
    let d = c.index-modules-at.result in
    let xs = c.args.modules.now in
    let i = c.args.at in
    let x = get_or xs i d in
    let y = c.put.new.self in
    let e = c.put.ensures in
    let sent = λ (j : ℕ). times_sent j (sent_of c.put.result.sent) in
    let puts = w.puts g.M.Procedures.by c.args.to m in
    let said = λ (say : Standing w.Plain ℕ → ℕ). sym (said-of (standing_in w.plain s) say xs i x d 0 c.requires.within refl) in
    let holds = said-of (standing_in w.plain s) (of_part w.holds) xs i x d true c.requires.within refl in
    record {
      state = row-plain (standing_in w.plain) (Fits w.IsHeld) owns (keeps_of w.keeps) (standing-frame w.plain w.IsHeld w.keeps g.met.M.Module.frame) s t (once n) x d y sent c.audit.ensures e.own e.hands e.pool xs i c.requires.within refl c.requires.held c.requires.can_put e.held
          ∙ ap (λ p. set (map (standing_in w.plain s) xs) i p) e.state
          ∙ sym (act-state puts (standing_in w.plain s) xs i x d c.requires.within refl);
      notes = e.notes ∙ sym (act-notes puts (standing_in w.plain s) xs i x d c.requires.within refl);
      sent = e.sent ∙ sym (act-sent puts (standing_in w.plain s) xs i x d c.requires.within refl);
      told = e.told ∙ ap (λ fates. tallied fates c.args.told.now) (sym (act-gone puts (standing_in w.plain s) xs i x d c.requires.within refl));
      held = row-held (standing_in w.plain) (Fits w.IsHeld) owns (keeps_of w.keeps) (standing-frame w.plain w.IsHeld w.keeps g.met.M.Module.frame) s t (once n) x d y sent c.audit.ensures e.own e.hands e.pool xs i c.requires.within refl c.requires.held c.requires.can_put e.held;
      own = own-all owns s t xs i x d y c.requires.within refl e.own;
      chains = e.chains;
      hands = row-hands (standing_in w.plain) (Fits w.IsHeld) owns (keeps_of w.keeps) (standing-frame w.plain w.IsHeld w.keeps g.met.M.Module.frame) s t (once n) x d y sent c.audit.ensures e.own e.hands e.pool xs i c.requires.within refl c.requires.held c.requires.can_put e.held;
      spends = subst (λ k. Spends s t k 0) (said (of_part (λ p. own_at (w.does p) c.args.to m))) e.spends;
      blocks = λ hold. e.blocks (sym holds ∙ hold);
      pool = e.pool;
    }
