-- The ioctl that waits at a head, while the module on top is taken off its stream.
use Rattle.strm_pair.proofs.Prelude.{ℕ, ◌≡◌, List, [], ◌∷◌, refl, ap, ◌∙◌, get-set-same}
use Rattle.strm_pair.specs.Prelude.{Side, Rule, ModulePopped, Slot, Waiting, Answered, number_sought, mode_behind, top_on, top_taken, Standing, State}
use Rattle.strm_pair.specs.Prelude.{Stream, stream, plain_slot}
use Rattle.arrayvec.specs.ArrayVec.{ArrayVec}
use Rattle.strm_types.specs.declared.slots.Slot.TheVariants.{Free}
use Rattle.strm_laws.specs.Pushes.{taken_off}
use Rattle.strm_pair.proofs.Modes.{ioctl-stays}

top-stays : (rule : Rule) (side : Side) (ps : List (Standing ℕ)) (s : State ℕ) → (stream side (top_taken rule side ps s).state).head.ioctl ≡ (stream side s).head.ioctl
top-stays rule side [] s = refl
top-stays rule side (p ∷ ps) s = ap (λ (x : Stream ℕ). x.head.ioctl) (get-set-same side (record (stream side s) { modules = ps }) s.ends)

-- it stays, as the head is told its read mode alone
pub slot-stays : (side : Side) (s : State ℕ) → (stream side (taken_off side s).state).head.ioctl ≡ (stream side s).head.ioctl
slot-stays side s =
    let ps = (stream side s).modules in
    ioctl-stays side (mode_behind (top_on side s)) (top_taken ModulePopped side ps s).state ∙ top-stays ModulePopped side ps s

-- its number, whatever stands for the bytes of an answer
pub same-sought : (slot : Slot (ArrayVec ℕ)) → number_sought (plain_slot slot) ≡ number_sought slot
same-sought Free = refl
same-sought (Waiting number command) = refl
same-sought (Answered number command acked error body) = refl
