use Rattle.std.proofs.Common.{refl, sym}
use Rattle.strm_image.specs.declared.versions.Version.TheVariants.{Second}
use Rattle.strm_image.specs.Image.{image}
use Rattle.strm_image.proofs.FitImages.{image_fits}
use Rattle.strm_image.proofs.Formats.{whole_again, whole_takes}
use Rattle.strm_image.proofs.ImageRows.{image_exact}
use Rattle.strm_image.proofs.image_laws.image_of_image.Goals as goal

pub returns : goal.returns
returns c = record {
  back = λ x h. whole_again image image_exact (image.text (Second, x)) (Second, x) (image_fits x h, refl);
  same = λ bytes x are read. sym (whole_takes image image_exact bytes (Second, x) are read).1;
}
