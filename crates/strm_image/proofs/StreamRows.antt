-- The texts of streams are exact.
use Rattle.strm_image.proofs.Prelude.{◌≡◌, ◌∙◌, ℕ, Bool, true, false, [], ◌∷◌, Some, refl, sym, ap, subst, nat_lt, and_from, and_parts, eqb-true}
use Rattle.strm_image.specs.Prelude.{Free, Waiting, Answered, PlainSlot}
use Rattle.strm_image.specs.declared.versions.QueueKind.TheVariants as queues
use Rattle.strm_image.specs.declared.versions.SlotKind.{SlotKind}
use Rattle.strm_image.specs.declared.versions.SlotKind.TheVariants as slots
use Rattle.strm_image.specs.declared.versions.Version.{Version}
use Rattle.strm_image.specs.Codes.{flag}
use Rattle.strm_image.specs.Format.{IsExact, u32, nothing, bytes_of, only, counted, ◌then◌, with_code}
use Rattle.strm_image.specs.Messages.{any}
use Rattle.strm_image.specs.Queues.{same_bool}
use Rattle.strm_image.specs.Streams.{Bits, HeadBits, all_bits, answered_of, answered_parts, are_signals, behind_bits, bits, bits_code, bits_of, free_of, free_parts, group_if, group_of, head_bits, is_answer, is_group, is_none, is_slot, kind_of_slot, laid, laid_of, laid_parts, may_have_group, no_group, no_parts, same_bits, same_slot_kind, signals, slot, slot_body, slot_code, slot_kind, waiting_of, waiting_parts, with_bits}
use Rattle.strm_image.proofs.CodeRows.{control_mode_exact, flag_exact, read_mode_exact}
use Rattle.strm_image.proofs.FlowRows.{same_bool_is, same_bool_refl}
use Rattle.strm_image.proofs.Formats.{IsMade, byte_exact, bytes_exact, bytes_long, coded_exact, counted_exact, made_exact, nothing_exact, only_exact, tagged_exact, then_exact, u32_exact}
use Rattle.strm_image.proofs.ModuleRows.{modules_exact}
use Rattle.strm_image.proofs.QueueRows.{queue_exact}

pub signals_exact : IsExact signals
unfolding signals
signals_exact = only_exact _ (counted_exact _ _ byte_exact bytes_exact bytes_long) are_signals

-- ---- the ioctl that is under way

slot_listed : (x : SlotKind) → with_code slot_code (slot_code x) (slots.Free ∷ slots.Waiting ∷ slots.Answered ∷ []) ≡ Some x
slot_listed slots.Free = refl
slot_listed slots.Waiting = refl
slot_listed slots.Answered = refl

slot_kind_exact : IsExact slot_kind
unfolding slot_kind
slot_kind_exact = coded_exact slot_code (slots.Free ∷ slots.Waiting ∷ slots.Answered ∷ []) slot_listed

free_made : IsMade (is_slot slots.Free) free_of free_parts (nothing tt)
free_made = record { back = λ x fits. (refl, refl); whole = λ s shape. elim s as (λ s. is_slot slots.Free s ≡ true → free_of (free_parts s) ≡ s) [ Free ↦ λ e. refl | Waiting number command ↦ λ e. absurd cc | Answered number command acked error body ↦ λ e. absurd cc ] shape }

waiting_made : IsMade (is_slot slots.Waiting) waiting_of waiting_parts (u32 then u32)
waiting_made = record { back = λ x fits. (refl, refl); whole = λ s shape. elim s as (λ s. is_slot slots.Waiting s ≡ true → waiting_of (waiting_parts s) ≡ s) [ Free ↦ λ e. absurd cc | Waiting number command ↦ λ e. refl | Answered number command acked error body ↦ λ e. absurd cc ] shape }

answered_made : IsMade (is_slot slots.Answered) answered_of answered_parts (u32 then (u32 then (flag then (u32 then counted (only is_answer u32) bytes_of))))
answered_made = record { back = λ x fits. (refl, refl); whole = λ s shape. elim s as (λ s. is_slot slots.Answered s ≡ true → answered_of (answered_parts s) ≡ s) [ Free ↦ λ e. absurd cc | Waiting number command ↦ λ e. absurd cc | Answered number command acked error body ↦ λ e. refl ] shape }

slot_body_exact : (k : SlotKind) → IsExact (slot_body k)
slot_body_exact slots.Free = made_exact _ _ _ _ (nothing_exact tt (λ y. refl)) free_made
slot_body_exact slots.Waiting = made_exact _ _ _ _ (then_exact _ _ u32_exact u32_exact) waiting_made
slot_body_exact slots.Answered = made_exact _ _ _ _ (then_exact _ _ u32_exact (then_exact _ _ u32_exact (then_exact _ _ flag_exact (then_exact _ _ u32_exact (counted_exact _ _ (only_exact _ u32_exact is_answer) bytes_exact bytes_long))))) answered_made

same_slot : (a b : SlotKind) → same_slot_kind a b ≡ true → a ≡ b
same_slot slots.Free slots.Free e = refl
same_slot slots.Free slots.Waiting e = absurd cc
same_slot slots.Free slots.Answered e = absurd cc
same_slot slots.Waiting slots.Free e = absurd cc
same_slot slots.Waiting slots.Waiting e = refl
same_slot slots.Waiting slots.Answered e = absurd cc
same_slot slots.Answered slots.Free e = absurd cc
same_slot slots.Answered slots.Waiting e = absurd cc
same_slot slots.Answered slots.Answered e = refl

slot_told : (k : SlotKind) (s : PlainSlot) → (slot_body k).fits s ≡ true → kind_of_slot s ≡ k
slot_told slots.Free s fits = same_slot (kind_of_slot s) slots.Free (and_parts _ _ fits).0
slot_told slots.Waiting s fits = same_slot (kind_of_slot s) slots.Waiting (and_parts _ _ fits).0
slot_told slots.Answered s fits = same_slot (kind_of_slot s) slots.Answered (and_parts _ _ fits).0

pub slot_exact : IsExact slot
unfolding slot
slot_exact = tagged_exact kind_of_slot slot_kind slot_body slot_kind_exact slot_body_exact slot_told

-- ---- the flags of a head

bits_listed : (x : Bits) → with_code bits_code (bits_code x) all_bits ≡ Some x
unfolding bits_code
bits_listed (false, (false, false)) = refl
bits_listed (true, (false, false)) = refl
bits_listed (false, (true, false)) = refl
bits_listed (true, (true, false)) = refl
bits_listed (false, (false, true)) = refl
bits_listed (true, (false, true)) = refl
bits_listed (false, (true, true)) = refl
bits_listed (true, (true, true)) = refl

none_made : IsMade is_none no_group no_parts (nothing tt)
none_made = record { back = λ x fits. (refl, refl); whole = λ y shape. sym (eqb-true y 0 shape) }

group_exact : (follows : Bool) → IsExact (group_if follows)
group_exact true = only_exact _ u32_exact is_group
group_exact false = made_exact is_none no_group no_parts _ (nothing_exact tt (λ y. refl)) none_made

follows : (b : Bool) (n : ℕ) → (group_if b).fits n ≡ true → same_bool (nat_lt 0 n) b ≡ true
follows true n fits = let is : nat_lt 0 n ≡ true = (and_parts (u32.fits n) (is_group n) fits).1 in rw is refl
follows false n fits = subst (λ k. same_bool (nat_lt 0 k) false ≡ true) (sym (eqb-true n 0 (and_parts (is_none n) _ fits).0)) refl

behind_exact : (b : Bits) → IsExact (behind_bits b)
behind_exact b = made_exact (same_bits b) (with_bits b) group_of (group_if b.1.1) (group_exact b.1.1) (record {
  back = λ x fits. (refl, and_from _ _ (same_bool_refl b.0) (and_from _ _ (same_bool_refl b.1.0) (follows b.1.1 x fits)));
  whole = λ y shape.
      let p = and_parts (same_bool y.0 b.0) _ shape in
      let q = and_parts (same_bool y.1.0 b.1.0) _ p.1 in
      ap (λ h. (h, (b.1.0, y.1.1))) (sym (same_bool_is y.0 b.0 p.0)) ∙ ap (λ t. (y.0, (t, y.1.1))) (sym (same_bool_is y.1.0 b.1.0 q.0));
})

told : (b : Bits) (x : HeadBits) → (behind_bits b).fits x ≡ true → bits_of x ≡ b
told b x fits =
    let p = and_parts (same_bool x.0 b.0) _ (and_parts (same_bits b x) _ fits).0 in
    let q = and_parts (same_bool x.1.0 b.1.0) _ p.1 in
    ap (λ h. (h, (x.1.0, nat_lt 0 x.1.1))) (same_bool_is x.0 b.0 p.0) ∙ (ap (λ t. (b.0, (t, nat_lt 0 x.1.1))) (same_bool_is x.1.0 b.1.0 q.0) ∙ ap (λ g. (b.0, (b.1.0, g))) (same_bool_is (nat_lt 0 x.1.1) b.1.1 q.1))

pub head_bits_exact : (is_slave : Bool) → IsExact (head_bits is_slave)
unfolding head_bits bits
head_bits_exact is_slave = tagged_exact bits_of _ behind_bits (only_exact _ (coded_exact bits_code all_bits bits_listed) (may_have_group is_slave)) behind_exact told

-- ---- streams

pub laid_exact : (v : Version) (is_slave : Bool) → IsExact (laid v is_slave)
unfolding laid
laid_exact v is_slave = made_exact any laid_of laid_parts _
    (then_exact _ _ read_mode_exact (then_exact _ _ control_mode_exact (then_exact _ _ (head_bits_exact is_slave) (then_exact _ _ signals_exact (then_exact _ _ slot_exact (then_exact _ _ (modules_exact v) (then_exact _ _ (queue_exact v queues.Head) (queue_exact v queues.Driver))))))))
    (record { back = λ x fits. (refl, refl); whole = λ y shape. refl })
