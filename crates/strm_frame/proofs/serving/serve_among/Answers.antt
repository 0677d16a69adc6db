-- One module acts, and the others stand for the same.
use Rattle.strm_frame.proofs.Prelude.{ℕ, ◌≤◌, true, get_or, map, refl, sym, ap, subst, ◌∙◌, HoldsAt}
use Rattle.strm_frame.specs.Prelude.{tallied, made_of, of_part, Standing, most_made}
use Rattle.std.proofs.Math.ListN.{set}
use Rattle.std.proofs.lemmas.Bool.{OnTrue_at, OnTrue_from}
use Rattle.std.proofs.lemmas.List.{get_or-map}
use Rattle.strm_types.specs.Standings.{HoldsOfPart}
use Rattle.strm_frame.specs.Hands.{HasRoom}
use Rattle.strm_frame.specs.Outboxes.{sent_of, times_sent, parcels_in}
use Rattle.strm_frame.specs.Serves.{stop_of, later_cost}
use Rattle.strm_frame.specs.Standings.{standing_in, Fits, owns, keeps_of}
use Rattle.strm_frame.specs.StandingLaws.{standing-frame}
use Rattle.strm_frame.proofs.Beside.{act-state, act-sent, act-notes, act-gone, said-of, said-set, part-can, row-plain, row-held, row-hands, own-all}
use Rattle.strm_frame.proofs.serving.serve_among.Goals as goal

pub serve-requires-clause-turn : goal.serve-requires-clause-turn
serve-requires-clause-turn g c =
    let w = g.M.Module in
    let f = (standing_in w.plain) (g.B.Blocks.value c.args.store.now) in
    let d = c.index-modules-at.result in
    subst (HoldsOfPart (w.MayServe c.args.here.way c.args.again)) (get_or-map f c.args.modules.now c.args.at d (f d) c.requires.within) (c.requires.turn (f d))

pub serve-requires-clause-kept : goal.serve-requires-clause-kept
serve-requires-clause-kept g c =
    let s = g.B.Blocks.value c.args.store.now in
    let w = g.M.Module in
    let d = c.index-modules-at.result in
    let xs = c.args.modules.now in
    part-can (keeps_of w.keeps) s (λ _. 0) xs c.args.at (get_or xs c.args.at d) d c.requires.within refl c.requires.kept

pub serve-requires-clause-room : goal.serve-requires-clause-room
serve-requires-clause-room g c =
    let s = g.B.Blocks.value c.args.store.now in
    let w = g.M.Module in
    let d = c.index-modules-at.result in
    let xs = c.args.modules.now in
    subst (HasRoom s) (said-of (standing_in w.plain s) (of_part (w.turn_cost c.args.here c.args.again)) xs c.args.at (get_or xs c.args.at d) d 0 c.requires.within refl) c.requires.room

pub returns-clause-does : goal.returns-clause-does
returns-clause-does g c =
    let s = g.B.Blocks.value c.args.store.now in
    let t = g.B.Blocks.value c.serve.new.store in
    let w = g.M.Module in
    let d = c.index-modules-at.result in
    let xs = c.args.modules.now in
    let i = c.args.at in
    let x = get_or xs i d in
    let y = c.serve.new.self in
    let r = c.serve.result in
    let e = c.serve.ensures in
    let sent = λ (j : ℕ). times_sent j (sent_of r.acts.sent) in
    let f = (standing_in w.plain) s in
    let serves = λ (p : Standing w.Plain ℕ). w.serves g.M.Procedures.by c.args.here c.args.again (stop_of r) p in
    let acts = λ (p : Standing w.Plain ℕ). (serves p).acted in
    let may = w.MayStop c.args.here.way c.args.again r.bytes in
    record {
      state = row-plain (standing_in w.plain) (Fits w.IsHeld) owns (keeps_of w.keeps) (standing-frame w.plain w.IsHeld w.keeps g.met.M.Module.frame) s t (λ _. 0) x d y sent c.audit.ensures e.own e.hands e.pool xs i c.requires.within refl c.requires.held c.requires.kept e.held
          ∙ ap (λ p. set (map f xs) i p) e.state
          ∙ sym (act-state acts f xs i x d c.requires.within refl);
      notes = e.notes ∙ sym (act-notes acts f xs i x d c.requires.within refl);
      sent = e.sent ∙ sym (act-sent acts f xs i x d c.requires.within refl);
      told = e.told ∙ ap (λ fates. tallied fates c.args.told.now) (sym (act-gone acts f xs i x d c.requires.within refl));
      bytes = e.bytes ∙ sym (said-of f (λ p. (serves p).bytes) xs i x d _ c.requires.within refl);
      again = e.again ∙ sym (said-of f (λ p. (serves p).again) xs i x d _ c.requires.within refl);
      stopped = e.stopped;
      some = e.some;
      stops = OnTrue_from r.stopped (HoldsAt may (map f xs) i)
          (λ is e'. subst may (sym (get_or-map f xs i d e' c.requires.within)) (OnTrue_at is e.stops));
      made = subst (λ fates. made_of fates ≤ most_made r.bytes) (sym (act-gone acts f xs i x d c.requires.within refl)) e.made;
      held = row-held (standing_in w.plain) (Fits w.IsHeld) owns (keeps_of w.keeps) (standing-frame w.plain w.IsHeld w.keeps g.met.M.Module.frame) s t (λ _. 0) x d y sent c.audit.ensures e.own e.hands e.pool xs i c.requires.within refl c.requires.held c.requires.kept e.held;
      own = own-all owns s t xs i x d y c.requires.within refl e.own;
      chains = e.chains;
      hands = row-hands (standing_in w.plain) (Fits w.IsHeld) owns (keeps_of w.keeps) (standing-frame w.plain w.IsHeld w.keeps g.met.M.Module.frame) s t (λ _. 0) x d y sent c.audit.ensures e.own e.hands e.pool xs i c.requires.within refl c.requires.held c.requires.kept e.held;
      room = subst (λ n. HasRoom t (later_cost r.again n (parcels_in t (sent_of r.acts.sent))))
          (sym (said-set (standing_in w.plain t) (of_part (w.turn_cost c.args.here true)) xs i y 0 c.requires.within)) e.room;
      pool = e.pool;
    }
