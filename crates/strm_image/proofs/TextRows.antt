-- What stands in a text, seen as plain values.
use Rattle.strm_image.proofs.Prelude.{◌≡◌, ℕ, zero, suc, ◌||◌, List, [], ◌∷◌, map, refl, ap, replicate}
use Rattle.strm_image.specs.Prelude.{ModuleName, stands, same_module, module_name}
use Rattle.strm_image.specs.declared.modules.ModuleText.{ModuleText}
use Rattle.strm_image.specs.Modules.{has_name}
use Rattle.strm_image.specs.ModuleTexts.{module_now, modules_now, names_now}

pub map_replicate : {A B : Type 0} (f : A → B) (n : ℕ) (x : A) → map f (replicate n x) ≡ replicate n (f x)
map_replicate f zero x = refl
map_replicate f (suc n) x = ap (λ xs. f x ∷ xs) (map_replicate f n x)

pub names_stand : (name : ModuleName) (ms : List ModuleText) → has_name name (names_now ms) ≡ stands module_name name (modules_now ms)
names_stand name [] = refl
names_stand name (m ∷ ms) = ap (λ b. same_module (module_name (module_now m)) name || b) (names_stand name ms)
