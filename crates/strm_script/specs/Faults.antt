-- Readers and writers of scripts that failed.
use Rattle.std.specs.Prelude.{◌≡◌, ℕ, ◌<◌, Bool, is_some, List, length, take, Option, None, Some}
use Rattle.std.specs.Io.KnownBytes.{Keeps, Consumes, IsAtEnd}
use Rattle.strm_script.specs.declared.source.Source.{Source}
use Rattle.strm_script.specs.declared.sink.Sink.{Sink}

-- a read of it has failed
abbrev pub source_failed : {R : Type 0} → Source R → Bool
source_failed s = is_some s.error

-- a write or a flush of it has failed
abbrev pub sink_failed : {W : Type 0} → Sink W → Bool
sink_failed s = is_some s.error

-- a read gave a front of the buffer, and nothing at the end of the input alone; or it failed, and left what there is
abbrev pub ReadTells : Option (List ℕ) → Option (List ℕ) → Option ℕ → List ℕ → Type 0
ReadTells old new None buf = Keeps old new
ReadTells old new (Some n) buf = Consumes old new (take n buf) × (n ≡ 0 → 0 < length buf → IsAtEnd new)
