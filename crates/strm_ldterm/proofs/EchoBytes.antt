-- The bytes of an echo: those of its own, those that rub out columns, and those of the line that is shown once more.
use Rattle.std.proofs.Common.{◌≡◌, ℕ, ◌+◌, ◌-◌, ◌*◌, ◌<◌, Bool, List, ◌++◌, length, take, drop, get_or, ap, ◌∙◌, length-append, arith}
use Rattle.std.specs.Prelude.{flat_map}
use Rattle.std.proofs.lemmas.List.{at_drop_more}
use Rattle.strm_types.specs.Echo.{rub_out}
use Rattle.strm_types.proofs.EchoSizes.{length-rub_out}
use Rattle.strm_ldterm.proofs.Runs.{to_end}
use Rattle.strm_ldterm.specs.declared.echoes.Echo.{Echo}
use Rattle.strm_ldterm.specs.Echoes.{echo_bytes, shown}

-- the end of the line, of so many bytes, as it is shown
abbrev pub end_shown : Bool → ℕ → List ℕ → List ℕ
end_shown controls count line = flat_map (shown controls) (drop (length line - count) line)

-- how many bytes an echo has
pub length-echo : (e : Echo) (line bytes : List ℕ) (own columns at rest : ℕ) → own ≡ length e.first.items → columns ≡ e.columns → bytes ≡ line
    → at ≡ length bytes - e.shown → rest ≡ length (flat_map (shown e.controls) (take (length bytes - at) (drop at bytes))) → own + 3 * columns + rest ≡ length (echo_bytes e line)
length-echo e line bytes own columns at rest own_is columns_is bytes_is at_is rest_is =
    let end : rest ≡ length (end_shown e.controls e.shown line) =
    rest_is ∙ ap (λ l. length (flat_map (shown e.controls) l)) (to_end at bytes) ∙ ap (λ n. length (flat_map (shown e.controls) (drop n bytes))) at_is ∙ ap (λ l. length (end_shown e.controls e.shown l)) bytes_is in
    let one = length-append e.first.items (rub_out e.columns ++ end_shown e.controls e.shown line) in
    let two = length-append (rub_out e.columns) (end_shown e.controls e.shown line) in
    let three = length-rub_out e.columns in
    omega arith

-- one byte more of a line that is shown
pub shown_len-step : (controls : Bool) (line : List ℕ) (at len size whole : ℕ) → at < length line → size ≡ length (shown controls (get_or line at 0))
    → len + length (flat_map (shown controls) (drop at line)) ≡ whole → len + size + length (flat_map (shown controls) (drop (at + 1) line)) ≡ whole
shown_len-step controls line at len size whole within size_is so_far =
    let split = at_drop_more (λ l. length (flat_map (shown controls) l)) line at 0 within in
    let parts = length-append (shown controls (get_or line at 0)) (flat_map (shown controls) (drop (at + 1) line)) in
    omega arith
