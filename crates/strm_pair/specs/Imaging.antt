-- A piece of the text of an image.
use Rattle.std.specs.Prelude.{ℕ, List, ◌++◌}
use Rattle.strm_types.specs.declared.names.ModuleName.TheVariants as names
use Rattle.strm_types.specs.Ldterms.{Ldterm}
use Rattle.strm_image.specs.Codes.{flag, module_kind}
use Rattle.strm_image.specs.Format.{byte, bytes_of, counted, u32}
use Rattle.strm_image.specs.Modules.{termios}

-- an ldterm behind its name, in front of its queues
abbrev pub settings_text : Ldterm ℕ → List ℕ
settings_text l =
    module_kind.text names.Ldterm ++ (termios.text l.termios ++ (flag.text l.stopped ++ (flag.text l.after_lnext ++ (u32.text l.column ++ (counted byte bytes_of).text l.line))))
