-- A store with nothing in it.
use Rattle.std.proofs.Common.{ℕ, ◌≡◌, ◌≤◌, List, [], refl, sym, subst, arith}
use Rattle.std.specs.Prelude.{None}
use Rattle.std.proofs.lemmas.Bool.Decides.{nat_tests}
use Rattle.strm_raw.specs.Numbered.{Nodes, Row, DataRow}
use Rattle.strm_raw.specs.Raw.{IsRaw, breaks, empty_roster}
use Rattle.strm_raw.specs.declared.msg_nodes.MsgLink.{MsgLink}
use Rattle.strm_raw.specs.declared.data_nodes.DataLink.{DataLink}

-- the fields of a store none of whose blocks is made
pub empty-raw : (v : Nodes) (l : MsgLink) (k : DataLink) → v.rows ≡ [] → v.datas ≡ [] → l.at ≡ v.mat → k.at ≡ v.dat → v.mblks ≤ 65536 → v.dblks ≤ 65536 → (m d : ℕ) → m ≡ v.mblks → d ≡ v.dblks
    → IsRaw v None None m d (empty_roster l k)
unfolding breaks
empty-raw v l k rows datas mat dat most_m most_d m d m_is d_is =
    subst (λ (x : List Row × List DataRow). IsRaw (record v { rows = x.0; datas = x.1 }) None None m d (empty_roster l k)) (λ j. (sym rows j, sym datas j)) (record {
      same = mat;
      same_d = dat;
      eight = refl;
      most_m = most_m;
      most_d = most_d;
      few_m = omega arith;
      few_d = omega arith;
      counted_m = refl;
      counted_d = refl;
      owned_m = λ i. grind (arith, nat_tests);
      owned_d = λ d. grind (arith, nat_tests);
      referenced = λ d. refl;
      bounded = λ d. omega arith;
      linked_m = refl;
      linked_d = refl;
      chained = refl;
      straight = λ i. refl;
      count_m = omega arith;
      count_d = omega arith;
      there_m = tt;
      there_d = tt;
    })
