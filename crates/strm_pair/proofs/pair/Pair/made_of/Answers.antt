-- The store stands for the state of the image, and the base is written of it.
use Rattle.strm_pair.proofs.Prelude.{◌≡◌, ◌∙◌, ℕ, [], ap, arith, refl, subst, sym}
use Rattle.strm_pair.specs.Prelude.{Config, Fates, State, imaged_now, stands_of}
use Rattle.strm_image.proofs.FittedImages.{image_base, image_told}
use Rattle.strm_pair.specs.BaseTexts.{begun_at, start_in}
use Rattle.strm_pair.specs.Restored.{fates_in}
use Rattle.strm_pair.specs.Shelves.{IsStocked}
use Rattle.strm_pair.proofs.BaseRows.{is-written}
use Rattle.strm_pair.proofs.RestoredPairs.{free-of, left-free, restored-has, restored-kept, restored-room, restored-shown}
use Rattle.strm_frame.proofs.WidePools.{wide-on}
use Rattle.strm_pair.proofs.ShelfSteps.{image-few, stocked-full}
use Rattle.strm_pair.proofs.pair.Pair.made_of.Goals as goal

pub streams_of-streams-requires-clause-good : goal.streams_of-streams-requires-clause-good
streams_of-streams-requires-clause-good g c = (image_told c.requires.fits.0 (imaged_now c.args.text.now) c.requires.fits.1).restorable

pub at-base-requires-clause-has : goal.at-base-requires-clause-has
at-base-requires-clause-has g c =
    let x = imaged_now c.args.text.now in
    let made = c.streams_of-streams.ensures in
    restored-has (g.B.Blocks.value c.streams_of-streams.new.store) c.streams_of-streams.result x c.fates_of-fates.result made.state c.fates_of-fates.ensures made.held (image_told c.requires.fits.0 x c.requires.fits.1)

pub at-base-requires-clause-room : goal.at-base-requires-clause-room
at-base-requires-clause-room g c =
    let x = imaged_now c.args.text.now in
    let made = c.streams_of-streams.ensures in
    let same : c.args.limits.mblks ≡ (g.B.Blocks.value c.streams_of-streams.new.store).mblks = ap (λ (l : Config). l.mblks) c.requires.limits ∙ sym made.pool.mblks in
    omega (
      arith,
      c.requires.reserved.base,
      restored-room (g.B.Blocks.value c.streams_of-streams.new.store) c.streams_of-streams.result x c.fates_of-fates.result made.state c.fates_of-fates.ensures made.held (image_told c.requires.fits.0 x c.requires.fits.1) c.audit.ensures c.args.limits.mblks same,
    )

pub invariant_of-result : goal.invariant_of-result
invariant_of-result g c =
    let K = g.M.Behaves.does in
    let x = imaged_now c.args.text.now in
    let made = c.streams_of-streams.ensures in
    let u = g.B.Blocks.value c.streams_of-streams.new.store in
    let fates = c.fates_of-fates.result in
    let told = image_told c.requires.fits.0 x c.requires.fits.1 in
    let begins = c.at-base.ensures.start ∙ ap (λ (t : State ℕ). begun_at t fates []) made.state ∙ ap (λ (f : Fates). begun_at x.state f []) c.fates_of-fates.ensures in
    let m : u.mblks ≡ c.args.limits.mblks = made.pool.mblks ∙ sym (ap (λ (l : Config). l.mblks) c.requires.limits) in
    let d : u.dblks ≡ c.args.limits.dblks = made.pool.dblks ∙ sym (ap (λ (l : Config). l.dblks) c.requires.limits) in
    let r = c.requires.reserved in
    record {
      kept =
          restored-kept u c.streams_of-streams.result c.args.reserved.journal (start_in c.at-base.result) c.args.limits fates x begins made.state r.journal c.fates_of-fates.ensures K c.requires.known
          (image_base x (fates_in x) told refl) made.held m d r.events r.bytes;
      wide = wide-on g.M.OwnModule.wide (g.B.Blocks.value c.args.store) u made.pool.mblks made.pool.dblks c.requires.wide;
      stocked =
          subst (λ (v : State ℕ). IsStocked g.M.OwnModule.queued c.streams_of-streams.new.shelf (stands_of v)) (sym made.state)
          (stocked-full g.M.OwnModule.queued c.args.reserved.tables.shelf c.streams_of-streams.new.shelf (stands_of x.state) r.shelf made.shelf);
      written = is-written c.at-base.result _ fates [] c.args.limits c.at-base.ensures.start c.at-base.ensures.text (omega (arith, r.base, c.at-base.ensures.memory));
    }

pub returns : goal.returns
returns g c =
    let x = imaged_now c.args.text.now in
    let made = c.streams_of-streams.ensures in
    let s = g.B.Blocks.value c.args.store in
    let u = g.B.Blocks.value c.streams_of-streams.new.store in
    let fates = c.fates_of-fates.result in
    let begins = c.at-base.ensures.start ∙ ap (λ (t : State ℕ). begun_at t fates []) made.state ∙ ap (λ (f : Fates). begun_at x.state f []) c.fates_of-fates.ensures in
    restored-shown u c.streams_of-streams.result c.args.reserved.journal (start_in c.at-base.result) c.args.limits fates x begins made.state c.requires.reserved.journal c.fates_of-fates.ensures
    (left-free s u _ c.args.limits.mblks c.args.limits.dblks (free-of s c.args.limits c.requires.limits c.requires.lists c.requires.hand) made.spent)

pub streams_of-streams-requires-clause-shelf : goal.streams_of-streams-requires-clause-shelf
streams_of-streams-requires-clause-shelf g c =
    let x = imaged_now c.args.text.now in
    let good = (image_told c.requires.fits.0 x c.requires.fits.1).restorable in
    omega (arith, c.requires.reserved.shelf.tables, image-few g.M.Behaves.does g.M.OwnModule.queued g.met.M.OwnModule.queues x.state good c.requires.known)
