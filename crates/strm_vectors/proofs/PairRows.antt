-- Pairs that stand for images.
use Rattle.std.proofs.Common.{◌≡◌, ◌∙◌, ◌-◌, ℕ, true, leb, sym, ap, subst, List, arith}
use Rattle.std.specs.Prelude.{Option, None, Some, Result, Ok, Err, IfOk, OnOk}
use Rattle.std.proofs.lemmas.Bool.{and_parts, leb-true}
use Rattle.strm_types.specs.declared.limits.Config.{Config}
use Rattle.strm_types.specs.declared.refusals.Refusal.{Refusal}
use Rattle.strm_laws.proofs.NoOwn.{none as no_own}
use Rattle.strm_laws.specs.Pair.{PairState}
use Rattle.strm_laws.specs.Refusals.{enough}
use Rattle.strm_blocks.specs.Blocks.{StoreValue, empty_store}
use Rattle.strm_image.specs.declared.versions.Version.TheVariants.{Second}
use Rattle.strm_image.specs.Format.{IsTextOf}
use Rattle.strm_image.specs.HasImage.{imaged}
use Rattle.strm_image.specs.Image.{Imaged, image}
use Rattle.strm_image.proofs.ReadRows.{same_images}
use Rattle.strm_pair.specs.Pairs.{free_in}
use Rattle.strm_pair.specs.Restored.{IsImageFor, image_blocks, restored}
use Rattle.strm_pair.proofs.Shown.{free-empty}
use Rattle.strm_vectors.specs.Told.{IsFound, IsLeft, IsPairOf}

-- a pair over a store that held nothing and has enough blocks
pub pair_over : (x : Imaged) (s : StoreValue) (limits : Config) (mblks dblks : ℕ) (p : PairState) → s ≡ empty_store mblks dblks → limits.mblks ≡ s.mblks → limits.dblks ≡ s.dblks
    → enough (image_blocks x) (free_in s) ≡ true → p ≡ restored limits x → IsPairOf x mblks dblks p
pair_over x s limits mblks dblks p blank of_m of_d few is =
    let all = ap free_in blank ∙ free-empty mblks dblks in
    let low = and_parts (leb (image_blocks x) mblks) (leb (image_blocks x) dblks) (ap (enough (image_blocks x)) (sym all) ∙ few) in
    record {
      same = ap (λ (q : PairState). imaged q.state q.fates) is;
      some_mblks = leb-true (image_blocks x) mblks low.0;
      some_dblks = leb-true (image_blocks x) dblks low.1;
      free_mblks = ap (λ (q : PairState). q.free.mblks) is ∙ ap (λ n. n - image_blocks x) (of_m ∙ ap (λ (t : StoreValue). t.mblks) blank);
      free_dblks = ap (λ (q : PairState). q.free.dblks) is ∙ ap (λ n. n - image_blocks x) (of_d ∙ ap (λ (t : StoreValue). t.dblks) blank);
    }

-- what such a pair leaves of the blocks says how many its image takes
pub found_left : (x : Imaged) (room : ℕ) (p : PairState) (text : List ℕ) (mblks dblks : ℕ) → IsPairOf x room room p → IsLeft p room text mblks dblks
    → IsFound x text mblks dblks
found_left x room p text mblks dblks of left =
    let some = of.some_mblks in
    let free_m = of.free_mblks in
    let free_d = of.free_dblks in
    let takes_m = left.takes_mblks in
    let takes_d = left.takes_dblks in
    record {
      text_of = subst (λ (y : Imaged). IsTextOf image text (Second, y)) of.same left.text_of;
      takes_mblks = omega arith;
      takes_dblks = omega arith;
    }

-- a call that was refused by one name isn't refused by another, and one that wasn't is by none
pub same_why : {A : Type 0} → (e : Result A Refusal) (why other : Refusal) → e ≡ Err why → e ≡ Err other → why ≡ other
same_why e why other one two = cc

pub not_refused : (why : Refusal) (r : Option Refusal) → r ≡ None → r ≡ Some why → ⊥
not_refused why r none some = cc

pub on_ok : {A E : Type 0} (r : Result A E) (P Q : Type 0) → (P → Q) → OnOk r P → OnOk r Q
on_ok (Ok x) P Q so p = so p
on_ok (Err e) P Q so p = tt

pub if_ok : {A E : Type 0} (r : Result A E) (P Q : A → Type 0) → ((x : A) → P x → Q x) → IfOk r P → IfOk r Q
if_ok (Ok x) P Q so p = so x p
if_ok (Err e) P Q so p = tt

-- two texts whose pairs have one and the same image are images of one and the same state
pub one_state : (text other same : List ℕ) (blocks : ℕ) (y : Imaged) → IsImageFor no_own other y → IsTextOf image same (Second, y)
    → (x : Imaged) × (IsImageFor no_own text x × (IsTextOf image same (Second, x) × (image_blocks x ≡ blocks))) → (x : Imaged) × (IsImageFor no_own text x × (IsImageFor no_own other x × (image_blocks x ≡ blocks)))
one_state text other same blocks y of_other of_same found =
    let x = found.0 in
    let alike = same_images Second Second x y found.1.1.0.0 of_same.0 (sym found.1.1.0.1 ∙ of_same.1) in
    (x, (found.1.0, (subst (IsImageFor no_own other) (sym alike.1) of_other, found.1.1.1)))
