-- What a call leaves of a store, and what it is then.
use Rattle.std.proofs.Common.{ℕ, ◌≡◌, ◌<◌, List, length, sym, ◌∙◌, subst}
use Rattle.std.proofs.Math.ListN.{set}
use Rattle.std.specs.Prelude.{Option}
use Rattle.strm_blocks.specs.Blocks.{StoreValue}
use Rattle.strm_raw.specs.Numbered.{Nodes, Row, row_at}
use Rattle.strm_raw.specs.Roster.{Roster}
use Rattle.strm_raw.specs.Raw.{IsRaw, value_of}
use Rattle.strm_raw.specs.Lists.{AreListed}
use Rattle.strm_raw.specs.declared.neighbours.KeptEnds.{KeptEnds}
use Rattle.strm_raw.specs.declared.msg_nodes.MsgLink.{MsgLink}
use Rattle.strm_raw.specs.declared.data_nodes.DataLink.{DataLink}
use Rattle.strm_raw.proofs.Listed.{kept-listed}

pub record Becomes (v : Nodes) (ends : List KeptEnds) (b : Roster) (first_m : Option MsgLink) (first_d : Option DataLink) (spare_m spare_d : ℕ) (s : StoreValue) : Type 0 where
  pub raw : IsRaw v first_m first_d spare_m spare_d b
  pub listed : AreListed v ends b
  pub value : value_of v b ≡ s

module _ {ends : List KeptEnds} {first_m : Option MsgLink} {first_d : Option DataLink} {spare_m spare_d : ℕ} where
  pub becomes-as : {v : Nodes} {b : Roster} {s s' : StoreValue} → Becomes v ends b first_m first_d spare_m spare_d s → s ≡ s' → Becomes v ends b first_m first_d spare_m spare_d s'
  becomes-as d e = record { raw = d.raw; listed = d.listed; value = d.value ∙ e }

  -- a row is written that keeps its neighbours, and the lists are what they were
  pub row-becomes : {v : Nodes} {b : Roster} → AreListed v ends b → (v' V : Nodes) (b' B : Roster) → v' ≡ V → b' ≡ B → IsRaw V first_m first_d spare_m spare_d B
      → V.mat ≡ v.mat → (i : ℕ) → i < length v.rows → (r : Row) → r.ahead ≡ (row_at i v.rows).ahead → r.behind ≡ (row_at i v.rows).behind → V.rows ≡ set v.rows i r
      → B.lists ≡ b.lists → (s : StoreValue) → value_of V B ≡ s → s.lists ≡ (value_of v b).lists → Becomes v' ends b' first_m first_d spare_m spare_d s
  row-becomes listed v' V b' B nodes roster raw mat i within r ahead behind rows lists s value same = record {
    raw = subst (λ (w : Nodes × Roster). IsRaw w.0 first_m first_d spare_m spare_d w.1) (λ j. (sym nodes j, sym roster j)) raw;
    listed = subst (λ (w : Nodes × Roster). AreListed w.0 ends w.1) (λ j. (sym nodes j, sym roster j)) (kept-listed listed V B mat i within r ahead behind rows lists s value same);
    value = (λ j. value_of (nodes j) (roster j)) ∙ value;
  }
