use Rattle.std.proofs.Common.{ℕ, subst, sym}
use Rattle.strm_raw.specs.Numbered.{Nodes, Fits, IsRow}
use Rattle.strm_raw.proofs.Numbered.{msgs_of, datas_of, msgs-len, datas-len}
use Rattle.strm_raw.proofs.memory.Memory.message.Goals as goal

pub returns-clause-links : goal.returns-clause-links
returns-clause-links c =
    let ms = msgs_of c.self.inside.msgs in let ds = datas_of c.self.inside.datas in let is = c.self.invariant in
    subst (λ (v : Nodes). Fits v c.reach.result.now) c.self.view_is
    (subst (λ (k : ℕ × ℕ). IsRow ms.at ds.at k.0 k.1 c.reach.result.now) (λ j. (sym (msgs-len ms ds is) j, sym (datas-len ms ds is) j)) (is.rows _ _ c.reach.ensures))
