use Rattle.std.proofs.Common.{ℕ, ◌≤◌, [], refl, sym, ap, ◌∙◌, subst}
use Rattle.std.specs.Prelude.{None, replicate}
use Rattle.strm_types.specs.declared.limits.TheConstants.{LISTS}
use Rattle.strm_blocks.specs.Blocks.{StoreValue}
use Rattle.strm_raw.specs.Roster.{Roster}
use Rattle.strm_raw.specs.Raw.{IsRaw, value_of}
use Rattle.strm_raw.specs.Lists.{AreListed}
use Rattle.strm_raw.specs.declared.neighbours.KeptEnds.{KeptEnds}
use Rattle.strm_raw.proofs.Listed.{listed-none}
use Rattle.strm_raw.proofs.Wiping.{wiped-none}
use Rattle.strm_raw.proofs.Fresh.{empty-raw}
use Rattle.strm_raw.proofs.store.RawStoreBlocks.reset.Goals as goal

pub invariant_of-self : goal.invariant_of-self
invariant_of-self c =
    let v = c.clear.new.self in let is = c.self.invariant.raw in let clear = c.clear.ensures in
    let most_m = subst (λ n. n ≤ 65536) (sym clear.mblks) is.most_m in let most_d = subst (λ n. n ≤ 65536) (sym clear.dblks) is.most_d in
    record {
      raw = subst (λ (b : Roster). IsRaw v None None c.room.result.0 c.room.result.1 b) (sym c.note.ensures)
          (empty-raw v _ _ clear.rows clear.datas c.begins.ensures.messages c.begins.ensures.data most_m most_d _ _ (ap (λ (r : ℕ × ℕ). r.0) c.room.ensures) (ap (λ (r : ℕ × ℕ). r.1) c.room.ensures));
      wiped = wiped-none v.datas clear.datas;
      listed = subst (λ (x : KeptEnds × Roster). AreListed v (replicate LISTS x.0) x.1) (λ j. (sym c.keep-self-inside.ensures j, sym c.note.ensures j)) (listed-none v _ refl);
    }

pub returns : goal.returns
returns c =
    let v = c.clear.new.self in
    let m = c.clear.ensures.mblks ∙ ap (λ (s : StoreValue). s.mblks) c.self.view_is in
    let d = c.clear.ensures.dblks ∙ ap (λ (s : StoreValue). s.dblks) c.self.view_is in
    (λ j. value_of v (c.note.ensures j)) ∙ (λ j. record { lists = replicate LISTS []; hand = []; mblks = m j; dblks = d j })
