-- A refusal of a restore, as the number that is told of it.
use Rattle.std.proofs.Common.{◌≡◌, ◌≢◌, ◌∙◌, ℕ, List, ap, arith, false, refl, subst, sym, true}
use Rattle.std.specs.Prelude.{None, Option}
use Rattle.strm_types.specs.declared.refusals.Refusal.{Refusal}
use Rattle.strm_types.specs.declared.refusals.Refusal.TheVariants as refusals
use Rattle.strm_types.specs.Numbers.{number_of}
use Rattle.strm_laws.proofs.NoOwn.{none as no_own}
use Rattle.strm_laws.specs.Refusals.{enough}
use Rattle.strm_image.specs.Image.{Imaged}
use Rattle.strm_pair.specs.Restored.{IsImageFor, IsNoImage, image_blocks}
use Rattle.strm_handle.specs.declared.choices.Choices.{Choices}
use Rattle.strm_handle.specs.Kept.{KeptPair, are_fit}
use Rattle.strm_handle.specs.Restored.{Restores, RestoresOf, restores_where}

-- what is known of a refusal
pub record IsRefused (c : Choices) (text : List ℕ) (why : Refusal) : Type 0 where
  pub einval : why ≡ refusals.Einval → IsNoImage no_own text
  pub enosr : why ≡ refusals.Enosr → (x : Imaged) × (IsImageFor no_own text x × (enough (image_blocks x) (record { mblks = c.blocks; dblks = c.blocks }) ≡ false))
  pub others : (why ≢ refusals.Einval) → (why ≢ refusals.Enosr) → why ≡ refusals.NoMemory

numbered-einval : (why : Refusal) → number_of why ≡ 1 → why ≡ refusals.Einval
numbered-einval refusals.Einval is = refl
numbered-einval refusals.Eagain is = absurd (omega (arith, is))
numbered-einval refusals.Enxio is = absurd (omega (arith, is))
numbered-einval refusals.Ebadmsg is = absurd (omega (arith, is))
numbered-einval refusals.Enosr is = absurd (omega (arith, is))
numbered-einval refusals.Erange is = absurd (omega (arith, is))
numbered-einval refusals.JournalFull is = absurd (omega (arith, is))
numbered-einval refusals.NoMinor is = absurd (omega (arith, is))
numbered-einval refusals.NoMemory is = absurd (omega (arith, is))
numbered-einval refusals.StillShared is = absurd (omega (arith, is))
numbered-einval refusals.Eio is = absurd (omega (arith, is))

numbered-enosr : (why : Refusal) → number_of why ≡ 5 → why ≡ refusals.Enosr
numbered-enosr refusals.Enosr is = refl
numbered-enosr refusals.Einval is = absurd (omega (arith, is))
numbered-enosr refusals.Eagain is = absurd (omega (arith, is))
numbered-enosr refusals.Enxio is = absurd (omega (arith, is))
numbered-enosr refusals.Ebadmsg is = absurd (omega (arith, is))
numbered-enosr refusals.Erange is = absurd (omega (arith, is))
numbered-enosr refusals.JournalFull is = absurd (omega (arith, is))
numbered-enosr refusals.NoMinor is = absurd (omega (arith, is))
numbered-enosr refusals.NoMemory is = absurd (omega (arith, is))
numbered-enosr refusals.StillShared is = absurd (omega (arith, is))
numbered-enosr refusals.Eio is = absurd (omega (arith, is))

some-number : (why : Refusal) → number_of why ≢ 0
some-number refusals.Einval is = omega (arith, is)
some-number refusals.Eagain is = omega (arith, is)
some-number refusals.Enxio is = omega (arith, is)
some-number refusals.Ebadmsg is = omega (arith, is)
some-number refusals.Enosr is = omega (arith, is)
some-number refusals.Erange is = omega (arith, is)
some-number refusals.JournalFull is = omega (arith, is)
some-number refusals.NoMinor is = omega (arith, is)
some-number refusals.NoMemory is = omega (arith, is)
some-number refusals.StillShared is = omega (arith, is)
some-number refusals.Eio is = omega (arith, is)

ap-number : (why other : Refusal) → why ≡ other → number_of why ≡ number_of other
ap-number why other is = ap number_of is

pub refused-told : (c : Choices) (text : List ℕ) (why : Refusal) (n : ℕ) → IsRefused c text why → n ≡ number_of why → RestoresOf c text None n
refused-told c text why n is told = record {
  done = λ none. absurd (some-number why (sym told ∙ none));
  closed = λ some. refl;
  einval = λ one. is.einval (numbered-einval why (sym told ∙ one));
  enosr = λ five. is.enosr (numbered-enosr why (sym told ∙ five));
  others = λ some one five. told ∙ ap-number why refusals.NoMemory (is.others (λ same. one (told ∙ ap-number why refusals.Einval same)) (λ same. five (told ∙ ap-number why refusals.Enosr same)));
}

-- at a closed handle, which stays so
pub restore-refused : (c : Choices) (text : List ℕ) (kept : Option KeptPair) (why : Refusal) (n : ℕ) → kept ≡ None → are_fit c ≡ true
    → IsRefused c text why → n ≡ number_of why → Restores c text kept kept n
restore-refused c text kept why n none fits is told =
    subst (λ (k : Option KeptPair). Restores c text k k n) (sym none) (subst (λ b. restores_where b c text None n) (sym fits) (refused-told c text why n is told))
