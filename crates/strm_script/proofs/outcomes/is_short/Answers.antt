use Rattle.strm_script.proofs.Prelude.{◌≡◌, false, refl, ap, sym}
use Rattle.strm_script.specs.Prelude.{Refusal, Einval, Eagain, Enxio, Ebadmsg, Enosr, Erange, JournalFull, NoMinor, NoMemory, StillShared, Eio}
use Rattle.strm_script.specs.ScriptRun.{is_enosr}
use Rattle.strm_script.proofs.outcomes.is_short.Goals as goal

pub returns-in-Enosr : goal.returns-in-Enosr
returns-in-Enosr c = ap is_enosr (sym c.in-Enosr.is)

-- any other refusal
other : (refusal : Refusal) → (refusal ≡ Enosr → ⊥) → false ≡ is_enosr refusal
other Einval h = refl
other Eagain h = refl
other Enxio h = refl
other Ebadmsg h = refl
other Enosr h = absurd (h refl)
other Erange h = refl
other JournalFull h = refl
other NoMinor h = refl
other NoMemory h = refl
other StillShared h = refl
other Eio h = refl

pub returns-in_default : goal.returns-in_default
returns-in_default c = other c.args.refusal c.in_default.not-Enosr
