-- Values that stand in an image as one byte each, or as one and a number behind it.
use Rattle.std.specs.Prelude.{ℕ, Bool, true, false, ◌==◌, ◌&&◌, nat_le, List, [], ◌∷◌}
use Rattle.strm_image.specs.Prelude.{MsgKind, ControlMode, ReadMode, ModuleName, Openness, Never, Open, Closed, Place, Side, Master, Slave, Way, Up}
use Rattle.strm_image.specs.Prelude.{Down, OWN_QUEUED, has_queues_at, kind_number, mode_number}
use Rattle.strm_types.specs.declared.kinds.MsgKind.TheVariants as kinds
use Rattle.strm_types.specs.declared.modes.ControlMode.TheVariants as controls
use Rattle.strm_types.specs.declared.modes.ReadMode.TheVariants as reads
use Rattle.strm_types.specs.declared.names.ModuleName.TheVariants as modules
use Rattle.strm_types.specs.declared.names.Place.TheVariants as places
use Rattle.strm_image.specs.declared.versions.NameKind.{NameKind}
use Rattle.strm_image.specs.declared.versions.NameKind.TheVariants as name_kinds
use Rattle.strm_image.specs.declared.versions.PlaceKind.{PlaceKind}
use Rattle.strm_image.specs.declared.versions.PlaceKind.TheVariants as place_kinds
use Rattle.strm_image.specs.declared.versions.Version.{Version}
use Rattle.strm_image.specs.declared.versions.Version.TheVariants.{First, Second}
use Rattle.strm_image.specs.Format.{Format, byte, coded, made, nothing, only, tagged}

-- truth values
abbrev pub flag_code : Bool → ℕ
flag_code false = 0
flag_code true = 1

unfoldable pub flag : Format Bool
flag = coded flag_code (false ∷ true ∷ [])

abbrev pub version_code : Version → ℕ
version_code First = 1
version_code Second = 2

unfoldable pub version : Format Version
version = coded version_code (First ∷ Second ∷ [])

abbrev pub openness_code : Openness → ℕ
openness_code Never = 0
openness_code Open = 1
openness_code Closed = 2

unfoldable pub openness : Format Openness
openness = coded openness_code (Never ∷ Open ∷ Closed ∷ [])

-- RNORM, RMSGD and RMSGN
unfoldable pub read_mode : Format ReadMode
read_mode = coded mode_number (reads.ByteStream ∷ reads.MessageDiscard ∷ reads.MessageKeep ∷ [])

-- RPROTNORM, RPROTDAT and RPROTDIS
abbrev pub control_code : ControlMode → ℕ
control_code controls.Refuse = 0
control_code controls.Data = 1
control_code controls.Discard = 2

unfoldable pub control_mode : Format ControlMode
control_mode = coded control_code (controls.Refuse ∷ controls.Data ∷ controls.Discard ∷ [])

abbrev pub side_code : Side → ℕ
side_code Master = 0
side_code Slave = 1

unfoldable pub side : Format Side
side = coded side_code (Master ∷ Slave ∷ [])

-- places where queues stand: of a module of a user's own the number stands behind its kind
abbrev pub kind_of_place : Place → PlaceKind
kind_of_place places.Head = place_kinds.Head
kind_of_place (places.Module (modules.Own n)) = place_kinds.Own
kind_of_place (places.Module name) = place_kinds.Ldterm
kind_of_place places.Driver = place_kinds.Driver

abbrev pub place_code : PlaceKind → ℕ
place_code place_kinds.Head = 0
place_code place_kinds.Ldterm = 1
place_code place_kinds.Driver = 2
place_code place_kinds.Own = 3

abbrev pub all_places : List PlaceKind
all_places = place_kinds.Head ∷ place_kinds.Ldterm ∷ place_kinds.Driver ∷ place_kinds.Own ∷ []

unfoldable pub place_kind : Format PlaceKind
place_kind = coded place_code all_places

abbrev pub is_place_of : PlaceKind → Place → Bool
is_place_of k p = place_code (kind_of_place p) == place_code k && has_queues_at p

abbrev pub the_place : Place → Unit {0} → Place
the_place p x = p

abbrev pub no_place_parts : Place → Unit {0}
no_place_parts p = tt

abbrev pub own_place : ℕ → Place
own_place n = places.Module (modules.Own n)

abbrev pub number_at : Place → ℕ
number_at (places.Module (modules.Own n)) = n
number_at _ = 0

-- the number of one that has queues
abbrev pub is_queued : ℕ → Bool
is_queued n = nat_le OWN_QUEUED n

abbrev pub place_body : PlaceKind → Format Place
place_body place_kinds.Head = made (is_place_of place_kinds.Head) (the_place places.Head) no_place_parts (nothing tt)
place_body place_kinds.Ldterm = made (is_place_of place_kinds.Ldterm) (the_place (places.Module modules.Ldterm)) no_place_parts (nothing tt)
place_body place_kinds.Driver = made (is_place_of place_kinds.Driver) (the_place places.Driver) no_place_parts (nothing tt)
place_body place_kinds.Own = made (is_place_of place_kinds.Own) own_place number_at (only is_queued byte)

unfoldable pub place : Format Place
place = tagged kind_of_place place_kind place_body

-- a read queue, and a write queue
abbrev pub way_code : Way → ℕ
way_code Up = 0
way_code Down = 1

unfoldable pub way : Format Way
way = coded way_code (Up ∷ Down ∷ [])

-- the name of a module: one of the three, or one of a user's own, whose number stands behind its kind
abbrev pub kind_of_name : ModuleName → NameKind
kind_of_name modules.Ldterm = name_kinds.Ldterm
kind_of_name modules.Ptem = name_kinds.Ptem
kind_of_name modules.Pckt = name_kinds.Pckt
kind_of_name (modules.Own n) = name_kinds.Own

abbrev pub name_code : NameKind → ℕ
name_code name_kinds.Ldterm = 1
name_code name_kinds.Ptem = 2
name_code name_kinds.Pckt = 3
name_code name_kinds.Own = 4

abbrev pub all_names : List NameKind
all_names = name_kinds.Ldterm ∷ name_kinds.Ptem ∷ name_kinds.Pckt ∷ name_kinds.Own ∷ []

unfoldable pub name_kind : Format NameKind
name_kind = coded name_code all_names

abbrev pub is_name_of : NameKind → ModuleName → Bool
is_name_of k name = name_code (kind_of_name name) == name_code k

abbrev pub the_name : ModuleName → Unit {0} → ModuleName
the_name name x = name

abbrev pub no_number : ModuleName → Unit {0}
no_number name = tt

abbrev pub own_name : ℕ → ModuleName
own_name n = modules.Own n

abbrev pub number_of : ModuleName → ℕ
number_of (modules.Own n) = n
number_of _ = 0

abbrev pub name_body : NameKind → Format ModuleName
name_body name_kinds.Ldterm = made (is_name_of name_kinds.Ldterm) (the_name modules.Ldterm) no_number (nothing tt)
name_body name_kinds.Ptem = made (is_name_of name_kinds.Ptem) (the_name modules.Ptem) no_number (nothing tt)
name_body name_kinds.Pckt = made (is_name_of name_kinds.Pckt) (the_name modules.Pckt) no_number (nothing tt)
name_body name_kinds.Own = made (is_name_of name_kinds.Own) own_name number_of byte

unfoldable pub module_kind : Format ModuleName
module_kind = tagged kind_of_name name_kind name_body

-- the kinds of messages, by the numbers of sys/stream.h
abbrev pub all_kinds : List MsgKind
all_kinds = kinds.Data ∷ kinds.Proto ∷ kinds.Sig ∷ kinds.Ctl ∷ kinds.Ioctl ∷ kinds.Setopts ∷ kinds.Iocack ∷ kinds.Iocnak ∷ kinds.Pcproto
    ∷ kinds.Pcsig ∷ kinds.Read ∷ kinds.Flush ∷ kinds.Stop ∷ kinds.Start ∷ kinds.Hangup ∷ kinds.Error ∷ []

unfoldable pub kind : Format MsgKind
kind = coded kind_number all_kinds
