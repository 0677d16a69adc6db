use Rattle.std.proofs.Common.{◌≤◌, refl, sym, subst}
use Rattle.std.specs.Prelude.{None, replicate}
use Rattle.strm_types.specs.declared.limits.TheConstants.{LISTS}
use Rattle.strm_raw.specs.Roster.{Roster}
use Rattle.strm_raw.specs.Raw.{IsRaw}
use Rattle.strm_raw.specs.Lists.{AreListed}
use Rattle.strm_raw.specs.declared.neighbours.KeptEnds.{KeptEnds}
use Rattle.strm_raw.proofs.Listed.{listed-none}
use Rattle.strm_raw.proofs.Wiping.{wiped-none}
use Rattle.strm_raw.proofs.Fresh.{empty-raw}
use Rattle.strm_raw.proofs.raw.RawStore.new.Goals as goal

pub invariant_of-result : goal.invariant_of-result
invariant_of-result c =
    let v = c.in_ok-memory.memory in let made = c.in_ok-memory.ensures in
    record {
      raw = subst (λ (b : Roster). IsRaw v None None c.args.mblks c.args.dblks b) (sym c.note.ensures)
          (empty-raw v _ _ made.rows made.datas c.begins.ensures.messages c.begins.ensures.data (subst (λ n. n ≤ 65536) (sym made.mblks) c.requires.few_mblks) (subst (λ n. n ≤ 65536) (sym made.dblks) c.requires.few_dblks) _ _ (sym made.mblks) (sym made.dblks));
      wiped = wiped-none v.datas made.datas;
      listed = subst (λ (x : KeptEnds × Roster). AreListed v (replicate LISTS x.0) x.1) (λ j. (sym c.keep.ensures j, sym c.note.ensures j)) (listed-none v _ refl);
    }
