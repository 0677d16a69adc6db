-- What a cut of a pair hands out.
use Rattle.std.specs.Prelude.{◌≡◌}
use Rattle.strm_types.specs.Journal.{entries_in}
use Rattle.strm_laws.specs.Pair.{PairState}
use Rattle.strm_image.specs.declared.trace.Trace.{Trace}
use Rattle.strm_image.specs.declared.versions.Version.TheVariants.{Second}
use Rattle.strm_image.specs.HasImage.{imaged}
use Rattle.strm_image.specs.Image.{image}

-- A trace of a pair: the text of the base at which its journal begins, with what had gone by each rule there, and the journal itself.
pub record IsTrace (p : PairState) (t : Trace) : Type 0 where
  pub base : t.base.items ≡ image.text (Second, imaged p.base p.base_fates)
  pub entries : entries_in t.entries.items t.bytes.items ≡ p.journal
