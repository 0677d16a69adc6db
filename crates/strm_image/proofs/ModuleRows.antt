-- The texts of modules are exact.
use Rattle.strm_image.proofs.Prelude.{◌≡◌, ℕ, Bool, true, false, not, List, [], ◌∷◌, Option, Some, None, refl, ap, sym, is_some, and_parts}
use Rattle.strm_image.proofs.Prelude.{eqb-true}
use Rattle.strm_image.specs.Prelude.{ModuleName, Ldterm, Stage, Between, have_queues, is_between, Message, is_none_left, ldterm_rests}
use Rattle.strm_image.specs.Prelude.{Module, OfLdterm, OfOwn, OfPtem, OfPckt, Standing, kind_name, module_name}
use Rattle.strm_types.specs.declared.names.ModuleName.TheVariants as names
use Rattle.strm_types.specs.Ldterms.{Begun, Answered}
use Rattle.strm_types.proofs.EnabledNames.{same_module-self, same_module-sound}
use Rattle.strm_image.specs.declared.versions.QueueKind.TheVariants as queues
use Rattle.strm_image.specs.declared.versions.Version.{Version}
use Rattle.strm_image.specs.Codes.{module_kind}
use Rattle.strm_image.specs.Format.{IsExact, nothing}
use Rattle.strm_image.specs.Messages.{any}
use Rattle.strm_image.specs.Modules.{termios, termios_of, termios_parts, winsize, winsize_of, winsize_parts, is_column, ldterm, ldterm_of}
use Rattle.strm_image.specs.Modules.{ldterm_parts, ptem, ptem_of, ptem_parts, is_kind_of, the_ldterm, the_ptem, pckt_of, pckt_parts, are_settings}
use Rattle.strm_image.specs.Modules.{settings, own_of, settings_of, kind_body, pair, pair_of, pair_parts, standing_of, standing_parts, may_stand}
use Rattle.strm_image.specs.Modules.{module_body, module_format, module_below, next_names, are_few, modules}
use Rattle.strm_image.proofs.CodeRows.{flag_exact, module_kind_exact}
use Rattle.strm_image.proofs.Formats.{byte_exact, nothing_exact, u16_exact, u32_exact, bytes_exact, bytes_long, octets_exact, octets_long, only_exact}
use Rattle.strm_image.proofs.Formats.{chain_exact, chain_long, counted_exact, if_there_exact, tagged_exact, then_exact, made_exact, IsMade}
use Rattle.strm_image.proofs.QueueRows.{queue_exact}

pub termios_exact : IsExact termios
unfolding termios
termios_exact = made_exact any termios_of termios_parts _ (then_exact _ _ u32_exact (then_exact _ _ u32_exact (then_exact _ _ u32_exact (then_exact _ _ u32_exact (bytes_exact 19))))) (record { back = λ x fits. (refl, refl); whole = λ y shape. refl })

pub winsize_exact : IsExact winsize
unfolding winsize
winsize_exact = made_exact any winsize_of winsize_parts _ (then_exact _ _ u16_exact (then_exact _ _ u16_exact (then_exact _ _ u16_exact u16_exact))) (record { back = λ x fits. (refl, refl); whole = λ y shape. refl })

-- ldterm between two turns is what its text tells
ldterm_whole : (l : Ldterm ℕ) → ldterm_rests l ≡ true → ldterm_of (ldterm_parts l) ≡ l
ldterm_whole l rests =
    let p = and_parts _ _ rests in
    let q = and_parts _ _ p.1 in
    let r = and_parts _ _ q.1 in
    at l.in_work l.gathered l.echoing l.stage p.0 q.0 r.0 r.1
  where
    at : (in_work : Option (Message ℕ)) (gathered : List ℕ) (echoing : Bool) (stage : Stage ℕ)
        → not (is_some in_work) ≡ true → is_none_left gathered ≡ true → not echoing ≡ true → is_between stage ≡ true
        → ldterm_of (ldterm_parts l) ≡ record l { in_work = in_work; gathered = gathered; echoing = echoing; stage = stage }
    at None [] false Between a b c d = refl
    at (Some m) gathered echoing stage a b c d = absurd cc
    at None (x ∷ gathered) echoing stage a b c d = absurd cc
    at None [] true stage a b c d = absurd cc
    at None [] false (Begun started x) a b c d = absurd cc
    at None [] false (Answered bytes) a b c d = absurd cc

pub ldterm_exact : IsExact ldterm
unfolding ldterm
ldterm_exact = made_exact (λ l. ldterm_rests l) ldterm_of ldterm_parts _
    (then_exact _ _ termios_exact (then_exact _ _ flag_exact (then_exact _ _ flag_exact (then_exact _ _ (only_exact _ u32_exact is_column) (counted_exact _ _ byte_exact bytes_exact bytes_long)))))
    (record { back = λ x fits. (refl, refl); whole = ldterm_whole })

pub ptem_exact : IsExact ptem
unfolding ptem
ptem_exact = made_exact any ptem_of ptem_parts _ (then_exact _ _ termios_exact winsize_exact) (record { back = λ x fits. (refl, refl); whole = λ y shape. refl })

pub settings_exact : IsExact settings
unfolding settings
settings_exact = counted_exact _ _ (only_exact _ u16_exact are_settings) octets_exact octets_long

-- ---- what a module of a name is by itself is what its parts make

ldterm_back : (x : Module ℕ) → is_kind_of names.Ldterm x ≡ true → OfLdterm (the_ldterm x) ≡ x
ldterm_back (OfLdterm l) e = refl
ldterm_back (OfPtem p) e = absurd cc
ldterm_back (OfPckt p) e = absurd cc
ldterm_back (OfOwn o) e = absurd cc

ptem_back : (x : Module ℕ) → is_kind_of names.Ptem x ≡ true → OfPtem (the_ptem x) ≡ x
ptem_back (OfPtem p) e = refl
ptem_back (OfLdterm l) e = absurd cc
ptem_back (OfPckt p) e = absurd cc
ptem_back (OfOwn o) e = absurd cc

pckt_back : (x : Module ℕ) → is_kind_of names.Pckt x ≡ true → pckt_of (pckt_parts x) ≡ x
pckt_back (OfPckt p) e = refl
pckt_back (OfLdterm l) e = absurd cc
pckt_back (OfPtem p) e = absurd cc
pckt_back (OfOwn o) e = absurd cc

own_back : (n : ℕ) (x : Module ℕ) → is_kind_of (names.Own n) x ≡ true → own_of n (settings_of x) ≡ x
own_back n (OfOwn o) e = ap (λ number. own_of number o.settings) (sym (eqb-true o.number n e))
own_back n (OfLdterm l) e = absurd cc
own_back n (OfPtem p) e = absurd cc
own_back n (OfPckt p) e = absurd cc

ldterm_made : IsMade (is_kind_of names.Ldterm) (λ l. OfLdterm l) the_ldterm ldterm
ldterm_made = record { back = λ x fits. (refl, refl); whole = ldterm_back }

ptem_made : IsMade (is_kind_of names.Ptem) (λ p. OfPtem p) the_ptem ptem
ptem_made = record { back = λ x fits. (refl, refl); whole = ptem_back }

pckt_made : IsMade (is_kind_of names.Pckt) pckt_of pckt_parts (nothing tt)
pckt_made = record { back = λ x fits. (refl, refl); whole = pckt_back }

own_made : (n : ℕ) → IsMade (is_kind_of (names.Own n)) (own_of n) settings_of settings
own_made n = record { back = λ x fits. (refl, same_module-self (names.Own n)); whole = own_back n }

kind_exact : (name : ModuleName) → IsExact (kind_body name)
kind_exact names.Ldterm = made_exact _ _ _ _ ldterm_exact ldterm_made
kind_exact names.Ptem = made_exact _ _ _ _ ptem_exact ptem_made
kind_exact names.Pckt = made_exact _ _ _ _ (nothing_exact tt (λ y. refl)) pckt_made
kind_exact (names.Own n) = made_exact _ _ _ _ settings_exact (own_made n)

pub kind_named : (name : ModuleName) (x : Module ℕ) → (kind_body name).fits x ≡ true → kind_name x ≡ name
kind_named names.Ldterm x fits = same_module-sound (kind_name x) names.Ldterm (and_parts (is_kind_of names.Ldterm x) _ fits).0
kind_named names.Ptem x fits = same_module-sound (kind_name x) names.Ptem (and_parts (is_kind_of names.Ptem x) _ fits).0
kind_named names.Pckt x fits = same_module-sound (kind_name x) names.Pckt (and_parts (is_kind_of names.Pckt x) _ fits).0
kind_named (names.Own n) x fits = same_module-sound (kind_name x) (names.Own n) (and_parts (is_kind_of (names.Own n) x) _ fits).0

-- ---- modules with their queues

pair_exact : (v : Version) → IsExact (pair v)
unfolding pair
pair_exact v = made_exact any pair_of pair_parts _ (then_exact _ _ (queue_exact v queues.ModuleRead) (queue_exact v queues.ModuleWrite))
    (record { back = λ x fits. (refl, refl); whole = λ y shape. refl })

body_exact : (v : Version) (name : ModuleName) → IsExact (module_body v name)
body_exact v name = made_exact any standing_of standing_parts _ (then_exact _ _ (kind_exact name) (if_there_exact _ (pair_exact v) (have_queues name)))
    (record { back = λ x fits. (refl, refl); whole = λ y shape. refl })

body_named : (v : Version) (name : ModuleName) (m : Standing ℕ) → (module_body v name).fits m ≡ true → module_name m ≡ name
body_named v name m fits = kind_named name m.part (and_parts ((kind_body name).fits m.part) _ fits).0

pub module_exact : (v : Version) → IsExact (module_format v)
unfolding module_format
module_exact v = tagged_exact module_name _ (module_body v) (only_exact module_kind module_kind_exact (may_stand v)) (body_exact v) (body_named v)

below_exact : (v : Version) (above : List ModuleName) → IsExact (module_below v above)
unfolding module_below
below_exact v above = only_exact (module_format v) (module_exact v) _

pub modules_exact : (v : Version) → IsExact (modules v)
unfolding modules
modules_exact v = counted_exact _ _ (only_exact _ byte_exact are_few) (chain_exact next_names (module_below v) (below_exact v) []) (chain_long next_names (module_below v) [])
