-- A module as it is pushed.
use Rattle.std.proofs.Common.{ℕ, ◌≡◌, List, [], ap, ◌∙◌}
use Rattle.strm_types.specs.declared.termios.Termios.{Termios}
use Rattle.strm_types.specs.Ldterms.{new_ldterm}
use Rattle.strm_types.specs.Termios.{first_termios}

-- one that is set as a new one, without a line
pub new-shown : (termios : Termios) (line : List ℕ) → termios ≡ first_termios → line ≡ [] → record (new_ldterm {C = ℕ}) { termios = termios; line = line } ≡ new_ldterm
new-shown termios line set none =
    ap (λ t. record (new_ldterm {C = ℕ}) { termios = t; line = line }) set
    ∙ ap (λ l. record (new_ldterm {C = ℕ}) { line = l }) none
