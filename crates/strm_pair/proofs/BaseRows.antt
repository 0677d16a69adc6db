-- What the text of a base tells, and the room that it takes.
use Rattle.strm_pair.proofs.Prelude.{ℕ, ◌≡◌, ◌≤◌, List, refl, ap, sym, ◌∙◌, arith, Some, image_fits, image_length_in}
use Rattle.strm_pair.specs.Prelude.{Config, Fates, PlainEntry, no_fates, State, opening, StoreValue, IsStore, Second, whole, AreCounts, AreNumbers}
use Rattle.strm_pair.specs.Prelude.{HasImage, imaged, image, Behaviour}
use Rattle.std.specs.Prelude.{length, vec_capacity}
use Rattle.strm_image.proofs.FitImages.{new_has_image}
use Rattle.strm_image.proofs.Formats.{whole_again}
use Rattle.strm_image.proofs.ImageRows.{image_exact}
use Rattle.strm_pair.specs.declared.base.Base.{Base}
use Rattle.strm_pair.specs.declared.journal.Journal.{Journal}
use Rattle.strm_pair.specs.declared.streams.Streams.{Streams}
use Rattle.strm_pair.specs.BaseTexts.{begun_at, fates_told, image_room, made_of, start_in, state_told, IsWritten}
use Rattle.strm_pair.specs.Pairs.{state_in}
use Rattle.strm_pair.specs.PairViews.{IsKept}
use Rattle.strm_pair.specs.Starts.{Start}
use Rattle.strm_pair.proofs.PairImages.{has-image}
use Rattle.strm_pair.proofs.Shown.{in-use}
use Rattle.strm_pair.proofs.Steps.{led-idle}
use Rattle.strm_pair.proofs.UsedBytes.{state-bytes}

-- the entries before a base
pub past-told : (b : Base) → (start_in b).past ≡ b.past.entries
unfolding start_in
past-told b = refl

-- a base whose text is an image begins there
pub start-told : (b : Base) (s : State ℕ) (fates : Fates) → HasImage (imaged s fates) → b.made ≡ made_of fates → b.text.items ≡ image.text (Second, imaged s fates)
    → start_in b ≡ begun_at s fates b.past.entries
unfolding start_in
start-told b s fates has made is =
    let x = imaged s fates in
    let back : whole image (image.text (Second, x)) ≡ Some (Second, x) = whole_again image image_exact (image.text (Second, x)) (Second, x) (image_fits x has, refl) in
    ap (λ text. begun_at (state_told (whole image text)) (fates_told b.made (whole image text)) b.past.entries) is
    ∙ ap (λ told. begun_at (state_told told) (fates_told b.made told) b.past.entries) back
    ∙ ap (λ m. begun_at s (fates_told m (Some (Second, x))) b.past.entries) made

pub is-written : (b : Base) (s : State ℕ) (fates : Fates) (past : List PlainEntry) (limits : Config) → start_in b ≡ begun_at s fates past → b.text.items ≡ image.text (Second, imaged s fates)
    → image_room limits.mblks ≤ vec_capacity b.text → IsWritten b limits
is-written b s fates past limits start is room = record {
  text = is ∙ sym (ap (λ (t : Start). image.text (Second, imaged t.state t.fates)) start);
  room = room;
}

pub new-has-image : HasImage (imaged opening no_fates)
new-has-image = new_has_image

pub new-room : (mblks : ℕ) → length (image.text (Second, imaged opening no_fates)) ≤ image_room mblks
new-room mblks = image_length_in (imaged opening no_fates) mblks new-has-image (omega arith) (omega arith)

module _ (K : Behaviour) (s : StoreValue) (p : Streams) (j : Journal) (b : Start) (limits : Config) (fates : Fates) (kept : IsKept K s p j b limits fates) (is : IsStore s)
    (counts : AreCounts fates) (numbers : AreNumbers (state_in s p)) where
  -- the image of a pair has its room
  pub image-room : length (image.text (Second, imaged (state_in s p) fates)) ≤ image_room limits.mblks
  image-room =
      let idle = led-idle K s p j b limits fates kept in
      image_length_in (imaged (state_in s p) fates) limits.mblks (has-image K s p j b limits fates kept is counts numbers)
      (omega (arith, in-use s p kept.held idle is, is.enough, kept.mblks)) (omega (arith, state-bytes s p kept.held idle is, kept.mblks))
