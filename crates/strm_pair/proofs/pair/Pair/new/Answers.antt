-- A pair over a store with nothing in it is as new.
use Rattle.strm_pair.proofs.Prelude.{◌≡◌, ◌∙◌, ap, sym, refl, arith, rules}
use Rattle.strm_pair.specs.Prelude.{Config, Free, empty_store}
use Rattle.strm_pair.specs.BaseTexts.{start_in}
use Rattle.strm_pair.specs.PairViews.{sizes_over}
use Rattle.strm_pair.proofs.BaseRows.{is-written}
use Rattle.strm_pair.proofs.Fresh.{AreFresh, fresh-has-image, fresh-kept, fresh-room, fresh-shown, fresh-start, vacant, all-free}
use Rattle.strm_pair.specs.Pairs.{state_in}
use Rattle.strm_pair.proofs.ShelfSteps.{stocked-new}
use Rattle.strm_pair.proofs.pair.Pair.new.Goals as goal

pub overflow_mul-mblks : goal.overflow_mul-mblks
overflow_mul-mblks g c =
    let s = g.B.Blocks.value c.args.store in
    let free = all-free s c.requires.lists c.requires.hand in
    let m : s.mblks ≡ c.free_blocks-mblks.result.0 = sym (c.free_blocks-mblks.ensures.message_blocks ∙ ap (λ (f : Free). f.mblks) free) in
    omega (arith, c.audit.ensures.few_mblks, m)

pub overflow_add-mblks : goal.overflow_add-mblks
overflow_add-mblks g c =
    let s = g.B.Blocks.value c.args.store in
    let free = all-free s c.requires.lists c.requires.hand in
    let m : s.mblks ≡ c.free_blocks-mblks.result.0 = sym (c.free_blocks-mblks.ensures.message_blocks ∙ ap (λ (f : Free). f.mblks) free) in
    omega (arith, c.audit.ensures.few_mblks, m)

pub at-base-requires-clause-held : goal.at-base-requires-clause-held
at-base-requires-clause-held g c =
    let s = g.B.Blocks.value c.args.store in
    rw (vacant s c.requires.lists c.requires.hand) (c.new-streams.ensures.held s.mblks s.dblks)

pub at-base-requires-clause-has : goal.at-base-requires-clause-has
at-base-requires-clause-has g c =
    let s = g.B.Blocks.value c.args.store in
    fresh-has-image s c.new-streams.result _ s.mblks s.dblks (vacant s c.requires.lists c.requires.hand) (record { state = c.new-streams.ensures.state s.mblks s.dblks; held = c.new-streams.ensures.held s.mblks s.dblks }) c.none-fates.ensures

pub at-base-requires-clause-room : goal.at-base-requires-clause-room
at-base-requires-clause-room g c =
    let s = g.B.Blocks.value c.args.store in
    let free = all-free s c.requires.lists c.requires.hand in
    let m : s.mblks ≡ c.free_blocks-mblks.result.0 = sym (c.free_blocks-mblks.ensures.message_blocks ∙ ap (λ (f : Free). f.mblks) free) in
    let room = fresh-room s c.new-streams.result _ s.mblks s.dblks (vacant s c.requires.lists c.requires.hand) (record { state = c.new-streams.ensures.state s.mblks s.dblks; held = c.new-streams.ensures.held s.mblks s.dblks }) c.none-fates.ensures in
    omega (arith, room, m, c.in-Ok-with_capacity.ensures.capacity)

pub invariant_of-result : goal.invariant_of-result
invariant_of-result g c =
    let s = g.B.Blocks.value c.args.store in
    let free = all-free s c.requires.lists c.requires.hand in
    let m : s.mblks ≡ c.free_blocks-mblks.result.0 = sym (c.free_blocks-mblks.ensures.message_blocks ∙ ap (λ (f : Free). f.mblks) free) in
    let d : s.dblks ≡ c.free_blocks-mblks.result.1 = sym (c.free_blocks-mblks.ensures.data_blocks ∙ ap (λ (f : Free). f.dblks) free) in
    let blank : s ≡ empty_store c.free_blocks-mblks.result.0 c.free_blocks-mblks.result.1 =
    vacant s c.requires.lists c.requires.hand ∙ ap (λ n. empty_store n s.dblks) m ∙ ap (λ n. empty_store c.free_blocks-mblks.result.0 n) d in
    let j = c.in-Ok-new.ensures in
    let l : Config = record { mblks = c.free_blocks-mblks.result.0; dblks = c.free_blocks-mblks.result.1; journal_events = c.args.sizes.journal_events; journal_bytes = c.args.sizes.journal_bytes } in
    let as_new : AreFresh l.mblks l.dblks c.new-streams.result = record { state = c.new-streams.ensures.state l.mblks l.dblks; held = c.new-streams.ensures.held l.mblks l.dblks } in
    let start = fresh-start s c.new-streams.result (start_in c.at-base.result) _ _ l.mblks l.dblks blank as_new c.none-fates.ensures refl c.at-base.ensures.start in
    record {
      kept = fresh-kept g.M.Behaves.does s _ _ _ l _ start blank as_new j.empty j.most_entries j.most_bytes c.none-fates.ensures;
      wide = c.requires.wide;
      stocked = stocked-new g.M.OwnModule.queued _ (state_in s c.new-streams.result) (ap (λ v. state_in v c.new-streams.result) blank ∙ as_new.state) c.in-Ok.ensures;
      written = is-written c.at-base.result _ _ _ l c.at-base.ensures.start c.at-base.ensures.text (omega (arith, c.in-Ok-with_capacity.ensures.capacity, c.at-base.ensures.memory));
    }

pub returns : goal.returns
returns g c =
    let s = g.B.Blocks.value c.args.store in
    let sizes = sizes_over s c.args.sizes in
    let free = all-free s c.requires.lists c.requires.hand in
    let m : c.free_blocks-mblks.result.0 ≡ s.mblks = c.free_blocks-mblks.ensures.message_blocks ∙ ap (λ (f : Free). f.mblks) free in
    let d : c.free_blocks-mblks.result.1 ≡ s.dblks = c.free_blocks-mblks.ensures.data_blocks ∙ ap (λ (f : Free). f.dblks) free in
    let blank = vacant s c.requires.lists c.requires.hand in
    let as_new : AreFresh s.mblks s.dblks c.new-streams.result = record { state = c.new-streams.ensures.state s.mblks s.dblks; held = c.new-streams.ensures.held s.mblks s.dblks } in
    let start = fresh-start s c.new-streams.result (start_in c.at-base.result) _ _ s.mblks s.dblks blank as_new c.none-fates.ensures refl c.at-base.ensures.start in
    rw (m, d) (fresh-shown s _ _ _ sizes _ start blank as_new c.in-Ok-new.ensures.empty c.none-fates.ensures)

pub returns-in_default : goal.returns-in_default
returns-in_default g c = search rules steps 30000
