-- The values that stand as one byte, or as one and a number behind it, are exact.
use Rattle.strm_image.proofs.Prelude.{◌≡◌, ◌∙◌, ℕ, Bool, true, false, eqb, [], ◌∷◌, Some, refl, sym, ap, subst, and_parts, eqb-true}
use Rattle.std.proofs.lemmas.Option.{same_Some}
use Rattle.strm_image.specs.Prelude.{MsgKind, Data, Proto, Sig, Ctl, Ioctl, Setopts, Iocack, Iocnak, Pcproto, Pcsig, Read, Flush, Stop, Start, Hangup}
use Rattle.strm_image.specs.Prelude.{Error, ControlMode, ReadMode, ModuleName, Openness, Never, Open, Closed, Place, Side, Master, Slave, Way, Up}
use Rattle.strm_image.specs.Prelude.{Down, has_queues_at, kind_number, mode_number}
use Rattle.strm_types.specs.declared.modes.ControlMode.TheVariants as controls
use Rattle.strm_types.specs.declared.modes.ReadMode.TheVariants as reads
use Rattle.strm_types.specs.declared.names.ModuleName.TheVariants as modules
use Rattle.strm_types.specs.declared.names.Place.TheVariants as places
use Rattle.strm_image.specs.declared.versions.NameKind.{NameKind}
use Rattle.strm_image.specs.declared.versions.NameKind.TheVariants as name_kinds
use Rattle.strm_image.specs.declared.versions.PlaceKind.{PlaceKind}
use Rattle.strm_image.specs.declared.versions.PlaceKind.TheVariants as place_kinds
use Rattle.strm_image.specs.declared.versions.Version.{Version}
use Rattle.strm_image.specs.declared.versions.Version.TheVariants.{First, Second}
use Rattle.strm_image.specs.Codes.{all_kinds, all_names, all_places, control_code, control_mode, flag, flag_code, is_name_of, is_place_of, is_queued}
use Rattle.strm_image.specs.Codes.{kind, kind_of_name, kind_of_place, module_kind, name_body, name_code, name_kind, no_number, no_place_parts}
use Rattle.strm_image.specs.Codes.{number_at, number_of, openness, openness_code, own_name, own_place, place, place_body, place_code, place_kind}
use Rattle.strm_image.specs.Codes.{read_mode, side, side_code, the_name, the_place, version, version_code, way, way_code}
use Rattle.strm_image.specs.Format.{IsExact, byte, nothing, only, with_code}
use Rattle.strm_image.proofs.Formats.{IsMade, byte_exact, coded_exact, made_exact, nothing_exact, only_exact, tagged_exact}

-- Each value is the first one with its code.

flag_listed : (x : Bool) → with_code flag_code (flag_code x) (false ∷ true ∷ []) ≡ Some x
flag_listed false = refl
flag_listed true = refl

pub flag_exact : IsExact flag
unfolding flag
flag_exact = coded_exact flag_code (false ∷ true ∷ []) flag_listed

version_listed : (x : Version) → with_code version_code (version_code x) (First ∷ Second ∷ []) ≡ Some x
version_listed First = refl
version_listed Second = refl

pub version_exact : IsExact version
unfolding version
version_exact = coded_exact version_code (First ∷ Second ∷ []) version_listed

openness_listed : (x : Openness) → with_code openness_code (openness_code x) (Never ∷ Open ∷ Closed ∷ []) ≡ Some x
openness_listed Never = refl
openness_listed Open = refl
openness_listed Closed = refl

pub openness_exact : IsExact openness
unfolding openness
openness_exact = coded_exact openness_code (Never ∷ Open ∷ Closed ∷ []) openness_listed

read_listed : (x : ReadMode) → with_code mode_number (mode_number x) (reads.ByteStream ∷ reads.MessageDiscard ∷ reads.MessageKeep ∷ []) ≡ Some x
read_listed reads.ByteStream = refl
read_listed reads.MessageDiscard = refl
read_listed reads.MessageKeep = refl

pub read_mode_exact : IsExact read_mode
unfolding read_mode
read_mode_exact = coded_exact mode_number (reads.ByteStream ∷ reads.MessageDiscard ∷ reads.MessageKeep ∷ []) read_listed

control_listed : (x : ControlMode) → with_code control_code (control_code x) (controls.Refuse ∷ controls.Data ∷ controls.Discard ∷ []) ≡ Some x
control_listed controls.Refuse = refl
control_listed controls.Data = refl
control_listed controls.Discard = refl

pub control_mode_exact : IsExact control_mode
unfolding control_mode
control_mode_exact = coded_exact control_code (controls.Refuse ∷ controls.Data ∷ controls.Discard ∷ []) control_listed

side_listed : (x : Side) → with_code side_code (side_code x) (Master ∷ Slave ∷ []) ≡ Some x
side_listed Master = refl
side_listed Slave = refl

pub side_exact : IsExact side
unfolding side
side_exact = coded_exact side_code (Master ∷ Slave ∷ []) side_listed

place_listed : (x : PlaceKind) → with_code place_code (place_code x) all_places ≡ Some x
place_listed place_kinds.Head = refl
place_listed place_kinds.Ldterm = refl
place_listed place_kinds.Driver = refl
place_listed place_kinds.Own = refl

place_kind_exact : IsExact place_kind
unfolding place_kind
place_kind_exact = coded_exact place_code all_places place_listed

same_place_kind : (a b : PlaceKind) → eqb (place_code a) (place_code b) ≡ true → a ≡ b
same_place_kind a b e = same_Some a b (sym (place_listed a) ∙ ap (λ code. with_code place_code code all_places) (eqb-true _ _ e) ∙ place_listed b)

-- a place where queues stand is told by its kind and a number
place_told : PlaceKind → ℕ → Place
place_told place_kinds.Head n = places.Head
place_told place_kinds.Ldterm n = places.Module modules.Ldterm
place_told place_kinds.Driver n = places.Driver
place_told place_kinds.Own n = own_place n

told_back : (p : Place) → has_queues_at p ≡ true → place_told (kind_of_place p) (number_at p) ≡ p
unfolding place_told
told_back places.Head has = refl
told_back (places.Module modules.Ldterm) has = refl
told_back (places.Module modules.Ptem) has = absurd cc
told_back (places.Module modules.Pckt) has = absurd cc
told_back (places.Module (modules.Own n)) has = refl
told_back places.Driver has = refl

told_of : (k : PlaceKind) (p : Place) → is_place_of k p ≡ true → place_told k (number_at p) ≡ p
told_of k p shape =
    let a = and_parts (eqb (place_code (kind_of_place p)) (place_code k)) (has_queues_at p) shape in
    subst (λ k. place_told k (number_at p) ≡ p) (same_place_kind (kind_of_place p) k a.0) (told_back p a.1)

head_place : IsMade (is_place_of place_kinds.Head) (the_place places.Head) no_place_parts (nothing tt)
unfolding place_told
head_place = record { back = λ x fits. (refl, refl); whole = told_of place_kinds.Head }

ldterm_place : IsMade (is_place_of place_kinds.Ldterm) (the_place (places.Module modules.Ldterm)) no_place_parts (nothing tt)
unfolding place_told
ldterm_place = record { back = λ x fits. (refl, refl); whole = told_of place_kinds.Ldterm }

driver_place : IsMade (is_place_of place_kinds.Driver) (the_place places.Driver) no_place_parts (nothing tt)
unfolding place_told
driver_place = record { back = λ x fits. (refl, refl); whole = told_of place_kinds.Driver }

own_is_place : IsMade (is_place_of place_kinds.Own) own_place number_at (only is_queued byte)
unfolding place_told
own_is_place = record { back = λ n fits. (refl, (and_parts (byte.fits n) (is_queued n) fits).1); whole = told_of place_kinds.Own }

place_body_exact : (k : PlaceKind) → IsExact (place_body k)
place_body_exact place_kinds.Head = made_exact _ _ _ _ (nothing_exact tt (λ y. refl)) head_place
place_body_exact place_kinds.Ldterm = made_exact _ _ _ _ (nothing_exact tt (λ y. refl)) ldterm_place
place_body_exact place_kinds.Driver = made_exact _ _ _ _ (nothing_exact tt (λ y. refl)) driver_place
place_body_exact place_kinds.Own = made_exact _ _ _ _ (only_exact byte byte_exact is_queued) own_is_place

place_kind_told : (k : PlaceKind) (p : Place) → (place_body k).fits p ≡ true → kind_of_place p ≡ k
place_kind_told place_kinds.Head p fits = same_place_kind (kind_of_place p) place_kinds.Head (and_parts _ _ (and_parts _ _ fits).0).0
place_kind_told place_kinds.Ldterm p fits = same_place_kind (kind_of_place p) place_kinds.Ldterm (and_parts _ _ (and_parts _ _ fits).0).0
place_kind_told place_kinds.Driver p fits = same_place_kind (kind_of_place p) place_kinds.Driver (and_parts _ _ (and_parts _ _ fits).0).0
place_kind_told place_kinds.Own p fits = same_place_kind (kind_of_place p) place_kinds.Own (and_parts _ _ (and_parts _ _ fits).0).0

pub place_exact : IsExact place
unfolding place
place_exact = tagged_exact kind_of_place place_kind place_body place_kind_exact place_body_exact place_kind_told

way_listed : (x : Way) → with_code way_code (way_code x) (Up ∷ Down ∷ []) ≡ Some x
way_listed Up = refl
way_listed Down = refl

pub way_exact : IsExact way
unfolding way
way_exact = coded_exact way_code (Up ∷ Down ∷ []) way_listed

-- ---- the names of modules

name_listed : (x : NameKind) → with_code name_code (name_code x) all_names ≡ Some x
name_listed name_kinds.Ldterm = refl
name_listed name_kinds.Ptem = refl
name_listed name_kinds.Pckt = refl
name_listed name_kinds.Own = refl

name_kind_exact : IsExact name_kind
unfolding name_kind
name_kind_exact = coded_exact name_code all_names name_listed

ldterm_made : IsMade (is_name_of name_kinds.Ldterm) (the_name modules.Ldterm) no_number (nothing tt)
ldterm_made = record { back = λ x fits. (refl, refl); whole = whole }
  where
    whole : (name : ModuleName) → is_name_of name_kinds.Ldterm name ≡ true → modules.Ldterm ≡ name
    whole modules.Ldterm e = refl
    whole modules.Ptem e = absurd cc
    whole modules.Pckt e = absurd cc
    whole (modules.Own n) e = absurd cc

ptem_made : IsMade (is_name_of name_kinds.Ptem) (the_name modules.Ptem) no_number (nothing tt)
ptem_made = record { back = λ x fits. (refl, refl); whole = whole }
  where
    whole : (name : ModuleName) → is_name_of name_kinds.Ptem name ≡ true → modules.Ptem ≡ name
    whole modules.Ldterm e = absurd cc
    whole modules.Ptem e = refl
    whole modules.Pckt e = absurd cc
    whole (modules.Own n) e = absurd cc

pckt_made : IsMade (is_name_of name_kinds.Pckt) (the_name modules.Pckt) no_number (nothing tt)
pckt_made = record { back = λ x fits. (refl, refl); whole = whole }
  where
    whole : (name : ModuleName) → is_name_of name_kinds.Pckt name ≡ true → modules.Pckt ≡ name
    whole modules.Ldterm e = absurd cc
    whole modules.Ptem e = absurd cc
    whole modules.Pckt e = refl
    whole (modules.Own n) e = absurd cc

own_made : IsMade (is_name_of name_kinds.Own) own_name number_of byte
own_made = record { back = λ n fits. (refl, refl); whole = whole }
  where
    whole : (name : ModuleName) → is_name_of name_kinds.Own name ≡ true → own_name (number_of name) ≡ name
    whole modules.Ldterm e = absurd cc
    whole modules.Ptem e = absurd cc
    whole modules.Pckt e = absurd cc
    whole (modules.Own n) e = refl

name_body_exact : (k : NameKind) → IsExact (name_body k)
name_body_exact name_kinds.Ldterm = made_exact _ _ _ _ (nothing_exact tt (λ y. refl)) ldterm_made
name_body_exact name_kinds.Ptem = made_exact _ _ _ _ (nothing_exact tt (λ y. refl)) ptem_made
name_body_exact name_kinds.Pckt = made_exact _ _ _ _ (nothing_exact tt (λ y. refl)) pckt_made
name_body_exact name_kinds.Own = made_exact _ _ _ _ byte_exact own_made

-- one kind has one code
same_kind : (a b : NameKind) → eqb (name_code a) (name_code b) ≡ true → a ≡ b
same_kind a b e = same_Some a b (sym (name_listed a) ∙ ap (λ code. with_code name_code code all_names) (eqb-true _ _ e) ∙ name_listed b)

name_told : (k : NameKind) (name : ModuleName) → (name_body k).fits name ≡ true → kind_of_name name ≡ k
name_told name_kinds.Ldterm name fits = same_kind (kind_of_name name) name_kinds.Ldterm (and_parts _ _ fits).0
name_told name_kinds.Ptem name fits = same_kind (kind_of_name name) name_kinds.Ptem (and_parts _ _ fits).0
name_told name_kinds.Pckt name fits = same_kind (kind_of_name name) name_kinds.Pckt (and_parts _ _ fits).0
name_told name_kinds.Own name fits = same_kind (kind_of_name name) name_kinds.Own (and_parts _ _ fits).0

pub module_kind_exact : IsExact module_kind
unfolding module_kind
module_kind_exact = tagged_exact kind_of_name name_kind name_body name_kind_exact name_body_exact name_told

-- ---- the kinds of messages

kind_listed : (x : MsgKind) → with_code kind_number (kind_number x) all_kinds ≡ Some x
unfolding kind_number
kind_listed Data = refl
kind_listed Proto = refl
kind_listed Sig = refl
kind_listed Ctl = refl
kind_listed Ioctl = refl
kind_listed Setopts = refl
kind_listed Iocack = refl
kind_listed Iocnak = refl
kind_listed Pcproto = refl
kind_listed Pcsig = refl
kind_listed Read = refl
kind_listed Flush = refl
kind_listed Stop = refl
kind_listed Start = refl
kind_listed Hangup = refl
kind_listed Error = refl

pub kind_exact : IsExact kind
unfolding kind
kind_exact = coded_exact kind_number all_kinds kind_listed
