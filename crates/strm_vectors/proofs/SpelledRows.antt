-- One more byte of a script, and of the field that spells it.
use Rattle.std.proofs.Common.{◌≡◌, ◌∙◌, ℕ, Bool, true, false, List, [], ◌∷◌, ◌++◌, refl, sym, ap, append_assoc}
use Rattle.std.proofs.lemmas.Bool.{ne_eqb}
use Rattle.std.specs.Prelude.{◌≢◌}
use Rattle.std.proofs.lemmas.List.Concat.{flat_map-append}
use Rattle.strm_vectors.specs.Scripts.{so_far, spelled, spelling}

append-none : (xs : List ℕ) → xs ++ [] ≡ xs
append-none [] = refl
append-none (x ∷ xs) = ap (λ ys. x ∷ ys) (append-none xs)

spelled-more : (script : List ℕ) (byte : ℕ) → spelled (script ++ byte ∷ []) ≡ spelled script ++ spelling byte
unfolding spelled
spelled-more script byte = flat_map-append spelling script (byte ∷ []) ∙ ap (λ ys. spelled script ++ ys) (append-none (spelling byte))

-- a byte that is spelled by a backslash and another one
pub behind_more : (script : List ℕ) (behind : Bool) (meant byte : ℕ) → behind ≡ true → spelling meant ≡ 92 ∷ byte ∷ [] → so_far (script ++ meant ∷ []) false ≡ so_far script behind ++ byte ∷ []
behind_more script behind meant byte waits is =
    append-none (spelled (script ++ meant ∷ [])) ∙ spelled-more script meant ∙ ap (λ ys. spelled script ++ ys) is ∙ sym (append_assoc (spelled script) (92 ∷ []) (byte ∷ []))
    ∙ ap (λ b. so_far script b ++ byte ∷ []) (sym waits)

spelled-plain : (byte : ℕ) → byte ≢ 10 → byte ≢ 92 → spelling byte ≡ byte ∷ []
spelled-plain byte no_end no_backslash = rw (ne_eqb byte 10 no_end, ne_eqb byte 92 no_backslash) refl

-- one that is spelled by itself
pub plain_more : (script : List ℕ) (behind : Bool) (byte : ℕ) → behind ≡ false → byte ≢ 10 → byte ≢ 92 → so_far (script ++ byte ∷ []) false ≡ so_far script behind ++ byte ∷ []
plain_more script behind byte waits no_end no_backslash =
    append-none (spelled (script ++ byte ∷ [])) ∙ spelled-more script byte ∙ ap (λ ys. spelled script ++ ys) (spelled-plain byte no_end no_backslash)
    ∙ ap (λ xs. xs ++ byte ∷ []) (sym (append-none (spelled script))) ∙ ap (λ b. so_far script b ++ byte ∷ []) (sym waits)

pub nothing_spelled : (script : List ℕ) → script ≡ [] → so_far script false ≡ []
unfolding spelled
nothing_spelled script none = ap (λ xs. so_far xs false) none
