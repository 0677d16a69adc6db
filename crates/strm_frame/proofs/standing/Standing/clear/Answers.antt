-- The read queue, then the line, then the write queue.
use Rattle.std.proofs.Common.{ℕ, ◌≡◌, ap, ◌∙◌}
use Rattle.strm_types.specs.Standings.{stood}
use Rattle.strm_frame.specs.Standings.{queues_in, queues_own}
use Rattle.strm_frame.proofs.Letting.{all-told, both-cleared, both-met, both-noted, frees-on, hand-on, own-on}
use Rattle.strm_frame.proofs.standing.Standing.clear.Goals as goal

pub clear_way-below-requires : goal.clear_way-below-requires
clear_way-below-requires g c = record { ready = c.clear_way-above.ensures.ready }

pub returns : goal.returns
returns g c =
    let w = g.M.Module in
    let s = g.B.Blocks.value c.args.store.now in
    let a = c.clear_way-above in
    let l = c.clear_line-bytes in
    let b = c.clear_way-below in
    let t = g.B.Blocks.value a.new.store in
    let u = g.B.Blocks.value b.new.store in
    let x = c.args.self.now in
    let side = c.args.side in
    let rule = c.args.rule in
    let was = queues_in s x.queues in
    let between = queues_in t a.new.queues in
    let none : (i : ℕ) → w.keeps l.new.self i ≡ 0 = λ i. l.ensures.keeps i ∙ c.requires.rests i in
    let lists = b.ensures.lists ∙ a.ensures.lists in
    let rest = g.met.M.Module.rested s u l.new.self x.queues b.new.queues lists none (l.ensures.held s x.queues c.requires.held.itself) in
    let line = w.line_of (w.plain s x.module) in
    record {
      state = ap (λ (p : w.Plain). stood p (queues_in u b.new.queues)) (rest.0 ∙ l.ensures.line s)
          ∙ ap (stood (w.without_line (w.plain s x.module))) (both-cleared side rule was between a.ensures.state (queues_in u b.new.queues) b.ensures.state);
      notes = c.rooms.ensures ∙ both-noted side rule was between a.ensures.state a.result.room b.result.room a.ensures.notes b.ensures.notes;
      met = b.ensures.met ∙ both-met side rule was between a.ensures.state c.args.seeking;
      told = all-told side rule was between a.ensures.state line c.args.told.now a.new.told c.tell_line.new.told b.new.told a.ensures.told
          (c.tell_line.ensures line (l.ensures.gone s)) b.ensures.told;
      held = record { queues = b.ensures.ready; itself = rest.1 };
      rests = none;
      own = own-on s t u (queues_own x.queues) (queues_own a.new.queues) (queues_own b.new.queues) a.ensures.own b.ensures.own;
      hand = hand-on s t u a.ensures.hand b.ensures.hand;
      frees = frees-on s t u a.ensures.frees b.ensures.frees;
    }
