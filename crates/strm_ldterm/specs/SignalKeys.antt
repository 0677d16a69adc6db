-- The keys that send a signal.
use Rattle.std.specs.Prelude.{Bool, true, false}
use Rattle.strm_ldterm.specs.Prelude.{Key, Intr, Quit, Susp}

-- whether a key sends a signal: INTR, QUIT and SUSP do
abbrev pub sends_signal : Key → Bool
sends_signal Intr = true
sends_signal Quit = true
sends_signal Susp = true
sends_signal _ = false
