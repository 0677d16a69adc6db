use Rattle.std.proofs.Common.{◌≡◌, [], ◌∷◌, refl, sym, ap, ◌∙◌, subst}
use Rattle.std.proofs.lemmas.Bool.Decides.{when_true}
use Rattle.strm_locks.specs.declared.told.Told.{Told}
use Rattle.strm_locks.specs.Books.{IsCounted, Kept, book_with, history_of, told_of}
use Rattle.strm_locks.specs.Rules.{AreToldOf, Mine, fresh, holding, leaving}
use Rattle.strm_locks.proofs.lock.Lock.try_audit.Goals as goal

pub pass_by-requires-clause-lock : goal.pass_by-requires-clause-lock
pass_by-requires-clause-lock g c = let had = when_true _ _ c.if-not-try_take.false c.try_take.ensures.lock in let k = had.0 in let h = had.1 in
    let did = c.look_held-shown.ensures.did k (ap (λ (m : Mine). m.1) h.seen) in
    (did.0, did.1, ap (λ (x : Kept). x.book) did.2.0 ∙ sym (ap (λ v. v.found) (c.look_held-shown.ensures.same.1 ∙ ap (λ (m : Mine). m.0) h.seen)), ap (λ (x : Kept). x.pair.limits) did.2.0 ∙ h.sized ∙ ap (λ (m : Mine). m.0.sizes) c.sit-seat.ensures.1)

pub returns : goal.returns
returns g c = let had = when_true _ _ c.if-not-try_take.false c.try_take.ensures.lock in let k = had.0 in let h = had.1 in
    let did = c.look_held-shown.ensures.did k (ap (λ (m : Mine). m.1) h.seen) in let shown = did.2.1 in
    let is : c.look_held-shown.new.seat.me.0 ≡ holding (fresh c.args.self.now.sizes) k = c.look_held-shown.ensures.same.1 ∙ ap (λ (m : Mine). m.0) h.seen ∙ ap (λ (m : Mine). holding m.0 k) c.sit-seat.ensures.1 in
    let now = c.pass_by.ensures.met did.0 did.1 ∙ ap (λ v. (leaving v did.0.pair, [])) is in
    let told : k.book.totals ≡ c.look_held-shown.result.told = sym shown.told in (
      (λ j. record { table = (c.pass_by.ensures.same.0 ∙ c.look_held-shown.ensures.same.0.0 ∙ c.try_take.ensures.same.0 ∙ c.sit-seat.ensures.0) j; sizes = ap (λ (m : Mine). m.0.sizes) now j }),
      record {
        pair = k.pair;
        met = ap (λ (m : Mine). m.0.met) now ∙ ap (λ (x : Kept). k.pair ∷ x.pair ∷ []) did.2.0;
        made = refl;
        sized = h.sized ∙ ap (λ (m : Mine). m.0.sizes) c.sit-seat.ensures.1 ∙ sym (ap (λ (m : Mine). m.0.sizes) now);
        shows = shown.pair;
        book = (
          subst (λ (t : Told). t ≡ told_of t.calls k.pair) told shown.numbers,
          subst (λ (t : Told). IsCounted t.calls (history_of k.pair)) told (subst (IsCounted k.book.totals.calls) shown.history shown.counted),
        );
        ends = (k.book.left, subst (λ b. AreToldOf b) (λ j. book_with (told j) (shown.history j) k.book.left) h.knows.seats);
      },
    )
