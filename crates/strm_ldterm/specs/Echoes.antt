-- What an echo still has to give: bytes of its own, columns to rub out, and bytes at the end of the line that are shown once more.
use Rattle.std.specs.Prelude.{◌≡◌, ℕ, ◌-◌, Bool, not, ◌&&◌, ◌==◌, if◌then◌else◌, List, [], ◌∷◌, ◌++◌, length, drop, flat_map}
use Rattle.strm_ldterm.specs.Prelude.{Key, Erase, Werase, Reprint, is_control, rub_out, shown_control, tab, edited, is_blank, ErasesByte, ErasesWord}
use Rattle.strm_ldterm.specs.declared.echoes.Echo.{Echo}

-- a byte as an ordinary one is echoed, under ECHOCTL or without it
abbrev pub shown : Bool → ℕ → List ℕ
shown controls b = if is_control b && (not (b == tab) && controls) then 94 ∷ shown_control b ∷ [] else b ∷ []

-- the bytes that an echo has, where the line is this one
abbrev pub echo_bytes : Echo → List ℕ → List ℕ
echo_bytes e line = e.first.items ++ (rub_out e.columns ++ flat_map (shown e.controls) (drop (length line - e.shown) line))

-- Whether a key may leave this line of that one, as far as its echo depends on it.
abbrev pub MayLeave : Key → List ℕ → List ℕ → Type 0
MayLeave Erase before after = after ≡ edited is_blank ErasesByte before
MayLeave Werase before after = after ≡ edited is_blank ErasesWord before
MayLeave Reprint before after = after ≡ before
MayLeave _ before after = Unit {0}
