-- Images are exact.
use Rattle.strm_image.proofs.Prelude.{◌≡◌, ℕ, true, false, eqb, List, [], ◌∷◌, refl, sym, ap, and_parts, eqb-true}
use Rattle.strm_image.specs.Prelude.{QueueName, RULES}
use Rattle.strm_image.specs.declared.versions.Version.{Version}
use Rattle.strm_image.specs.declared.versions.Version.TheVariants.{First, Second}
use Rattle.strm_image.specs.Format.{IsExact, u64}
use Rattle.strm_image.specs.Messages.{any}
use Rattle.strm_image.specs.Image.{account, account_of, account_parts, are_balanced, are_quiet, are_there, body, enabled, enabled_behind, image, imaged_of, imaged_parts, is_booked, is_mark, is_number, mark, mark_parts, name_of, name_parts, next_enabled, of_version, queue_name, rule_counts, same_bytes, same_version, version_of, versioned, with_mark, with_version, without_version}
use Rattle.strm_image.proofs.CodeRows.{flag_exact, openness_exact, place_exact, side_exact, version_exact, way_exact}
use Rattle.strm_image.proofs.Formats.{byte_exact, bytes_exact, chain_exact, chain_long, counted_exact, made_exact, only_exact, tagged_exact, then_exact, times_exact, u32_exact, u64_exact}
use Rattle.strm_image.proofs.StreamRows.{laid_exact}

pub queue_name_exact : IsExact queue_name
unfolding queue_name
queue_name_exact = made_exact any name_of name_parts _ (then_exact _ _ side_exact (then_exact _ _ place_exact way_exact)) (record { back = λ x fits. (refl, refl); whole = λ y shape. refl })

enabled_behind_exact : (before : List QueueName) → IsExact (enabled_behind before)
unfolding enabled_behind
enabled_behind_exact before = only_exact queue_name queue_name_exact _

pub enabled_exact : IsExact enabled
unfolding enabled
enabled_exact = counted_exact _ _ byte_exact (chain_exact next_enabled enabled_behind enabled_behind_exact []) (chain_long next_enabled enabled_behind [])

pub rule_counts_exact : IsExact rule_counts
unfolding rule_counts
rule_counts_exact = times_exact RULES u64 u64_exact

pub account_exact : IsExact account
unfolding account
account_exact = made_exact any account_of account_parts _ (then_exact _ _ (only_exact _ u64_exact is_booked) (then_exact _ _ (only_exact _ u64_exact is_booked) rule_counts_exact)) (record { back = λ x fits. (refl, refl); whole = λ y shape. refl })

pub body_exact : (v : Version) → IsExact (body v)
unfolding body
body_exact v = only_exact _ (only_exact _ (only_exact _ (made_exact any imaged_of imaged_parts _
    (then_exact _ _ openness_exact (then_exact _ _ openness_exact (then_exact _ _ flag_exact (then_exact _ _ (only_exact _ u32_exact is_number) (then_exact _ _ (laid_exact v false) (then_exact _ _ (laid_exact v true) (then_exact _ _ enabled_exact (then_exact _ _ account_exact account_exact))))))))
    (record { back = λ x fits. (refl, refl); whole = λ y shape. refl })) are_quiet) are_there) are_balanced

same_mark : (bytes other : List ℕ) → same_bytes bytes other ≡ true → other ≡ bytes
same_mark [] [] e = refl
same_mark [] (b ∷ bs) e = absurd cc
same_mark (a ∷ as') [] e = absurd cc
same_mark (a ∷ as') (b ∷ bs) e =
    let p = and_parts (eqb a b) (same_bytes as' bs) e in
    let one : a ≡ b = eqb-true a b p.0 in
    rw (one, same_mark as' bs p.1) refl

is_same_version : (a b : Version) → same_version a b ≡ true → a ≡ b
is_same_version First First e = refl
is_same_version First Second e = absurd cc
is_same_version Second First e = absurd cc
is_same_version Second Second e = refl

same_version_refl : (v : Version) → same_version v v ≡ true
same_version_refl First = refl
same_version_refl Second = refl

versioned_exact : (v : Version) → IsExact (versioned v)
versioned_exact v = made_exact (of_version v) (with_version v) without_version (body v) (body_exact v)
    (record { back = λ x fits. (refl, same_version_refl v); whole = λ y shape. ap (λ w. (w, y.1)) (sym (is_same_version y.0 v shape)) })

pub image_exact : IsExact image
unfolding image
image_exact = made_exact any with_mark mark_parts _
    (then_exact _ _ (only_exact _ (bytes_exact 4) is_mark) (tagged_exact version_of _ versioned version_exact versioned_exact (λ v x fits. is_same_version x.0 v (and_parts _ _ fits).0)))
    (record { back = λ x fits. (ap (λ m. (m, x.1)) (same_mark x.0 mark (and_parts _ _ (and_parts _ _ fits).0).1), refl); whole = λ y shape. refl })
