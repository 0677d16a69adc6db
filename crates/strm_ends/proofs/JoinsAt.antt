-- Two members that aren't joined stay, at their handles.
use Rattle.std.proofs.Common.{ℕ, ◌≡◌, false, sym, subst}
use Rattle.std.specs.Prelude.{Option, None, Some}
use Rattle.strm_ends.specs.Members.{InHand, Seated}
use Rattle.strm_ends.specs.Sharing.{Joins, JoinsMember, joined_by, joins_as}

stays-apart : (o : Option InHand) (a c x y : Seated) (last other : Option Seated) (n : ℕ)
    → JoinsMember o a c false x y → last ≡ Some x → other ≡ Some y → n ≡ 1 → joins_as o a c last other n
stays-apart None a c x y last other n made behind beside told = (told, (cc), (cc))
stays-apart (Some hold) a c x y last other n made behind beside told = absurd (cc)

pub apart : (first second last other : Option Seated) (n : ℕ) (a c x y : Seated)
    → first ≡ Some a → second ≡ Some c → JoinsMember (joined_by c.opener a.hold c.hold) a c false x y
    → last ≡ Some x → other ≡ Some y → n ≡ 1 → Joins first second last other n
apart first second last other n a c x y is there made behind beside told =
    subst (λ (o : Option Seated). Joins o second last other n) (sym is)
    (subst (λ (o : Option Seated). Joins (Some a) o last other n) (sym there)
    (stays-apart (joined_by c.opener a.hold c.hold) a c x y last other n made behind beside told))
