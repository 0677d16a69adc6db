use Rattle.std.proofs.Common.{◌≡◌, ℕ, List, ap, sym, refl, ◌∙◌}
use Rattle.strm_script.specs.Modes.{mode_of}
use Rattle.strm_script.specs.ScriptReading.{own_len}
use Rattle.strm_script.specs.declared.texts.Mode.{Mode}
use Rattle.strm_script.specs.declared.texts.Mode.TheVariants.{Inside, Escaped, Coded, HalfCoded, Closed}
use Rattle.strm_script.proofs.texts.own_len.Goals as goal

pub returns-in-Inside : goal.returns-in-Inside
returns-in-Inside c =
    c.unmarked_len.ensures ∙ ap (λ mode. own_len (mode_of mode) c.args.bytes.now) (sym c.in-Inside.is)

-- within an escape, and behind the end
other_mode : (mode : Mode) (bytes : List ℕ) → (mode ≡ Inside → ⊥) → 0 ≡ own_len (mode_of mode) bytes
other_mode Inside bytes h = absurd (h refl)
other_mode Escaped bytes h = refl
other_mode Coded bytes h = refl
other_mode (HalfCoded high) bytes h = refl
other_mode Closed bytes h = refl

pub returns-in_default : goal.returns-in_default
returns-in_default c = other_mode c.args.mode c.args.bytes.now c.in_default.not-Inside
