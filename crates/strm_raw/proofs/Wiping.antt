-- Zeros stand in the data blocks that no message block names.
use Rattle.std.proofs.Common.{ℕ, zero, suc, ◌≡◌, ◌<◌, List, [], ◌∷◌, ◌++◌, length, refl, sym, ap, ◌∙◌, subst, arith, inl, inr}
use Rattle.std.proofs.Math.ListN.{set}
use Rattle.std.specs.Prelude.{◌⊎◌, Option, None, Some}
use Rattle.strm_raw.specs.Numbered.{Nodes, DataRow, data_at, no_data, no_bytes}
use Rattle.strm_raw.specs.Roster.{Roster}
use Rattle.strm_raw.specs.Raw.{IsRaw, value_of}
use Rattle.strm_raw.specs.Made.{GivesData}
use Rattle.strm_raw.specs.Wiped.{AreWiped}
use Rattle.strm_raw.specs.declared.msg_nodes.MsgLink.{MsgLink}
use Rattle.strm_raw.specs.declared.data_nodes.DataLink.{DataLink}
use Rattle.strm_raw.proofs.Writing as writing

-- another data block in the place of one
pub wiped-set : (datas : List DataRow) (d : ℕ) (x : DataRow) → AreWiped datas → (x.references ≡ 0 → x.bytes ≡ no_bytes) → (e : ℕ) → (data_at e (set datas d x)).references ≡ 0 → (data_at e (set datas d x)).bytes ≡ no_bytes
wiped-set [] d x was fits e none = was e none
wiped-set (y ∷ datas) zero x was fits zero none = fits none
wiped-set (y ∷ datas) zero x was fits (suc e) none = was (suc e) none
wiped-set (y ∷ datas) (suc d) x was fits zero none = was zero none
wiped-set (y ∷ datas) (suc d) x was fits (suc e) none = wiped-set datas d x (λ e. was (suc e)) fits e none

-- one more, as it is made
pub wiped-more : (datas : List DataRow) → AreWiped datas → (e : ℕ) → (data_at e (datas ++ no_data ∷ [])).references ≡ 0 → (data_at e (datas ++ no_data ∷ [])).bytes ≡ no_bytes
wiped-more [] was zero none = refl
wiped-more [] was (suc e) none = refl
wiped-more (y ∷ datas) was zero none = was zero none
wiped-more (y ∷ datas) was (suc e) none = wiped-more datas (λ e. was (suc e)) e none

pub wiped-none : (datas : List DataRow) → datas ≡ [] → AreWiped datas
wiped-none datas none = subst AreWiped (sym none) (λ d e. refl)

-- a data block that is named has other bytes or other references, and stays named
pub wiped-named : (datas : List DataRow) (d : ℕ) (x : DataRow) → AreWiped datas → 0 < x.references → AreWiped (set datas d x)
wiped-named datas d x was some = wiped-set datas d x was (λ none. absurd (omega (arith, some, none)))

-- the one that is given out next
pub wiped-given : (v v' : Nodes) (b b' : Roster) (first : Option DataLink) (k : DataLink) → AreWiped v.datas → GivesData v v' b b' first k → AreWiped v'.datas
wiped-given v v' b b' None k was g = subst AreWiped (sym (ap (λ (w : Nodes). w.datas) g.nodes)) (wiped-more v.datas was)
wiped-given v v' b b' (Some first) k was g = subst AreWiped (sym (ap (λ (w : Nodes). w.datas) g.nodes)) was

-- what is left of the data blocks where one is free: zeros stand where its bytes were; else they are what they were
abbrev pub Wipes : ℕ → List DataRow → List DataRow → Type 0
Wipes d datas left = (left ≡ datas) ⊎ (((data_at d datas).references ≡ 0) × (left ≡ set datas d (record (data_at d datas) { bytes = no_bytes })))

module _ {v : Nodes} {b : Roster} {first_m : Option MsgLink} {first_d : Option DataLink} {spare_m spare_d : ℕ} (is : IsRaw v first_m first_d spare_m spare_d b)
    (d : ℕ) (within : d < length v.datas) (left : List DataRow) where
  pub wipes-raw : Wipes d v.datas left → IsRaw (record v { datas = left }) first_m first_d spare_m spare_d b
  wipes-raw (inl same) = subst (λ (ds : List DataRow). IsRaw (record v { datas = ds }) first_m first_d spare_m spare_d b) (sym same) is
  wipes-raw (inr wiped) = subst (λ (ds : List DataRow). IsRaw (record v { datas = ds }) first_m first_d spare_m spare_d b) (sym wiped.1) (writing.written-raw is d within no_bytes)

  pub wipes-value : Wipes d v.datas left → value_of (record v { datas = left }) b ≡ value_of v b
  wipes-value (inl same) = ap (λ (ds : List DataRow). value_of (record v { datas = ds }) b) same
  wipes-value (inr wiped) = ap (λ (ds : List DataRow). value_of (record v { datas = ds }) b) wiped.1 ∙ writing.written-value is d within no_bytes wiped.0
