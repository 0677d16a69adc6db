-- One module lets go what it has, and the others stand for the same.
use Rattle.strm_frame.proofs.Prelude.{[], get_or, map, refl, sym, ap, ◌∙◌}
use Rattle.strm_frame.specs.Prelude.{Down, tallied, is_met, messages_at, cleared}
use Rattle.std.proofs.Math.ListN.{set}
use Rattle.strm_frame.specs.Hands.{SamePool}
use Rattle.strm_frame.specs.Stacks.{all_of}
use Rattle.strm_frame.specs.Standings.{standing_in, Fits, owns, keeps_of}
use Rattle.strm_frame.specs.StandingLaws.{standing-frame}
use Rattle.strm_frame.proofs.Beside.{act-state, act-notes, act-gone, row-plain, row-held, rest-part, rest-hands, rest-in, rest-set, own-all, said-of}
use Rattle.strm_frame.proofs.popping.clear_among.Goals as goal

pub returns-clause-does : goal.returns-clause-does
returns-clause-does g c =
    let s = g.B.Blocks.value c.args.store.now in
    let w = g.M.Module in
    let d = c.index-modules-at.result in
    let xs = c.args.modules.now in
    let t = g.B.Blocks.value c.clear.new.store in
    let i = c.args.at in
    let x = get_or xs i d in
    let y = c.clear.new.self in
    let e = c.clear.ensures in
    let pool : SamePool s t = record { mblks = e.hand.mblks; dblks = e.hand.dblks } in
    let none = rest-part (keeps_of w.keeps) xs i x d c.requires.within refl c.requires.rests in
    let hands = rest-hands s t (keeps_of w.keeps x) (keeps_of w.keeps y) none e.rests e.hand.hand in
    let can = rest-in s (all_of (keeps_of w.keeps) xs) c.requires.rests in
    let clears = cleared w.line_of w.without_line c.args.side c.args.rule in
    record {
      state = row-plain (standing_in w.plain) (Fits w.IsHeld) owns (keeps_of w.keeps) (standing-frame w.plain w.IsHeld w.keeps g.met.M.Module.frame) s t (λ _. 0) x d y (λ _. 0) c.audit.ensures e.own hands pool xs i c.requires.within refl c.requires.held can e.held
          ∙ ap (λ p. set (map (standing_in w.plain s) xs) i p) e.state
          ∙ sym (act-state clears (standing_in w.plain s) xs i x d c.requires.within refl);
      notes = e.notes ∙ sym (act-notes clears (standing_in w.plain s) xs i x d c.requires.within refl);
      met = e.met ∙ ap (is_met c.args.seeking) (sym (said-of (standing_in w.plain s) (messages_at Down) xs i x d [] c.requires.within refl));
      told = e.told ∙ ap (λ fates. tallied fates c.args.told.now) (sym (act-gone clears (standing_in w.plain s) xs i x d c.requires.within refl));
      held = row-held (standing_in w.plain) (Fits w.IsHeld) owns (keeps_of w.keeps) (standing-frame w.plain w.IsHeld w.keeps g.met.M.Module.frame) s t (λ _. 0) x d y (λ _. 0) c.audit.ensures e.own hands pool xs i c.requires.within refl c.requires.held can e.held;
      rests = rest-set (keeps_of w.keeps) xs i y d c.requires.within c.requires.rests e.rests;
      own = own-all owns s t xs i x d y c.requires.within refl e.own;
      hand = e.hand;
      frees = e.frees;
    }

pub clear-requires-clause-rests : goal.clear-requires-clause-rests
clear-requires-clause-rests g c =
    let w = g.M.Module in
    let d = c.index-modules-at.result in
    let xs = c.args.modules.now in
    rest-part (keeps_of w.keeps) xs c.args.at (get_or xs c.args.at d) d c.requires.within refl c.requires.rests
